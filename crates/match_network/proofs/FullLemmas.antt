-- Rows for all positive condition elements, as lists of tags.
use Rattle.std.proofs.Common.{◌≡◌, ◌⊎◌, ℕ, ◌+◌, ◌<◌, ◌≤◌, ◌==◌, ◌||◌, List, [], ◌∷◌, ◌++◌, Bool, true, false, cond, ◌&&◌, drop, length, map, zero, suc, refl, ap, sym, ◌∙◌, arith, inl, inr, subst, IfSome, Option, Some, None, slice_get, is_some, option_and_then, find, length-append}
use Rattle.std.specs.List.{AllByRecursion, cons_option, filter, list_all}
use Rattle.std.specs.Option.{option_map_or}
use Rattle.std.proofs.lemmas.Bool.{cases_eq, eqb-true, eq-eqb, ne_eqb, or_left, or_right}
use Rattle.std.proofs.lemmas.Bool.Decides.{nat_tests}
use Rattle.std.proofs.lemmas.List.Elements.{filter_map-append}
use Rattle.rule_base.specs.declared.element.Element.{Element}
use Rattle.rule_base.specs.declared.program.Rule.{Rule}
use Rattle.rule_base.specs.ElementMatch.{bindings_with}
use Rattle.rule_base.specs.Memory.{Rises, element_at, elements_at, tags_of}
use Rattle.rule_base.specs.Numbers.{has_number, same_numbers}
use Rattle.rule_base.proofs.EachLemmas.{Each-always, Each-slice_get, Each-weaker}
use Rattle.join_tests.specs.declared.joins.Join.{Join}
use Rattle.join_tests.specs.declared.joins.Joins.{Joins}
use Rattle.join_tests.specs.Joining.{are_joined, each_joins, joins}
use Rattle.join_tests.specs.Meaning.{IsCompiled}
use Rattle.alpha_memory.specs.Stores.{Store}
use Rattle.alpha_memory.specs.Times.{times}
use Rattle.alpha_memory.proofs.TimesLemmas.{times-agree, times-filter, times-map, times-none}
use Rattle.match_network.specs.declared.askers.Asker.{Asker}
use Rattle.match_network.specs.Arrivals.{Arrivals, has_tag}
use Rattle.match_network.specs.Conditions.{AreFiled, joins_of, level_at, rows_of}
use Rattle.match_network.specs.Filed.{LevelRows}
use Rattle.match_network.specs.Full.{AreFullMatches, FullMatchesAreTold, memory_of, tags_at, takes_tags}
use Rattle.match_network.specs.Levels.{AreLevels, HaveCome}
use Rattle.match_network.specs.Network.{IsNetwork, Network}
use Rattle.match_network.specs.Row.{elements_of, extends, is_living, is_match, joins_after, some_passes}
use Rattle.match_network.specs.Rules.{IsRight, RuleRows}
use Rattle.match_network.specs.Woven.{Levels}
use Rattle.match_network.proofs.ComeLemmas.{Each-has, HaveCome-living, some_at}
use Rattle.match_network.proofs.RowLemmas.{same_row}
use Rattle.match_network.proofs.SoFarLemmas.{filter-from}
use Rattle.match_network.proofs.TagLemmas.{has_tag_only}

and_false : (b : Bool) → (b && false) ≡ false
and_false true = refl
and_false false = refl

-- a row matches where each of its elements joins those before it
extends-at : (all : List Join) (came : List Element) (before : List ℕ) (place : ℕ) (e : Element) (join : Join) → slice_get came place ≡ Some e → slice_get all (length before) ≡ Some join → extends (joins_of all) came before place ≡ joins join (elements_of came before) e
extends-at all came before place e join there asks =
    ap (some_passes (joins_of all (length before) (elements_of came before))) there
    ∙ ap (λ found. option_map_or (λ (j : Join). joins j (elements_of came before) e) found false) asks

elements_of-push : (came : List Element) (before : List ℕ) (place : ℕ) (e : Element) → slice_get came place ≡ Some e → elements_of came (before ++ place ∷ []) ≡ elements_of came before ++ e ∷ []
elements_of-push came before place e there =
    filter_map-append (slice_get came) before (place ∷ []) ∙ ap (λ found. elements_of came before ++ cons_option found []) there

joins_after-joined : (all rest : List Join) (came : List Element) (before row : List ℕ) → ((i : ℕ) → slice_get all (length before + i) ≡ slice_get rest i) → length row ≡ length rest → HaveCome came row → joins_after (joins_of all) came before row ≡ each_joins (elements_of came before) rest (elements_of came row)
joins_after-joined all [] came before [] asks long come = refl
joins_after-joined all (join ∷ rest) came before [] asks long come = absurd (omega (arith, long))
joins_after-joined all [] came before (place ∷ row) asks long come = absurd (omega (arith, long))
joins_after-joined all (join ∷ rest) came before (place ∷ row) asks long come =
    let first = some_at came place come.0 in
    let here : slice_get all (length before) ≡ Some join = ap (slice_get all) (let same : length before ≡ length before + 0 = omega arith in same) ∙ asks 0 in
    let later : (i : ℕ) → slice_get all (length (before ++ place ∷ []) + i) ≡ slice_get rest i =
    λ i. ap (slice_get all) (let same : length (before ++ place ∷ []) + i ≡ length before + suc i = omega (arith, length-append before (place ∷ [])) in same) ∙ asks (suc i) in
    ap (λ b. b && joins_after (joins_of all) came (before ++ place ∷ []) row) (extends-at all came before place first.item join first.is here)
    ∙ ap (λ b. joins join (elements_of came before) first.item && b)
    (joins_after-joined all rest came (before ++ place ∷ []) row later (omega (arith, long)) come.1
    ∙ ap (λ es. each_joins es rest (elements_of came row)) (elements_of-push came before place first.item first.is))
    ∙ sym (ap (λ found. each_joins (elements_of came before) (join ∷ rest) (cons_option found (elements_of came row))) first.is)

pub is_match-joined : (all : List Join) (came : List Element) (row : List ℕ) → length row ≡ length all → HaveCome came row → is_match (joins_of all) came row ≡ are_joined all (elements_of came row)
is_match-joined all came row long come =
    joins_after-joined all all came [] row (λ i. ap (slice_get all) (let same : 0 + i ≡ i = omega arith in same)) long come

-- elements are joined only where there is one for each join
not_joined : (before : List Element) (all : List Join) (es : List Element) → (length es ≡ length all → ⊥) → each_joins before all es ≡ false
not_joined before [] [] differs = absurd (differs refl)
not_joined before [] (e ∷ es) differs = refl
not_joined before (join ∷ all) [] differs = refl
not_joined before (join ∷ all) (e ∷ es) differs =
    ap (λ b. joins join before e && b) (not_joined (before ++ e ∷ []) all es (λ same. differs (omega (arith, same)))) ∙ and_false (joins join before e)

length-elements_of : (came : List Element) (row : List ℕ) → HaveCome came row → length (elements_of came row) ≡ length row
length-elements_of came [] come = refl
length-elements_of came (place ∷ row) come =
    let first = some_at came place come.0 in
    ap (λ found. length (cons_option found (elements_of came row))) first.is ∙ ap (λ n. suc n) (length-elements_of came row come.1)

-- the element of working memory with a tag is that at the first place with the tag
found_step : (came : List Element) (rest : List ℕ) (place tag : ℕ) (found : Option Element) → slice_get came place ≡ found → element_at (elements_of came rest) tag ≡ option_and_then (slice_get came) (find (has_tag came tag) rest) →
    element_at (cons_option found (elements_of came rest)) tag ≡ option_and_then (slice_get came) (cond (some_passes (λ (e : Element). e.tag == tag) found) (Some place) (find (has_tag came tag) rest))
found_step came rest place tag None is later = later
found_step came rest place tag (Some e) is later = here (e.tag == tag)
  where
    here : (b : Bool) → cond b (Some e) (element_at (elements_of came rest) tag) ≡ option_and_then (slice_get came) (cond b (Some place) (find (has_tag came tag) rest))
    here true = sym is
    here false = later

element_at-places : (came : List Element) (places : List ℕ) (tag : ℕ) → element_at (elements_of came places) tag ≡ option_and_then (slice_get came) (find (has_tag came tag) places)
element_at-places came [] tag = refl
element_at-places came (place ∷ places) tag =
    found_step came places place tag (slice_get came place) refl (element_at-places came places tag)

-- whether these are places in working memory of elements with these tags
abbrev has_tags : List Element → List ℕ → List ℕ → List ℕ → Bool
has_tags came places [] [] = true
has_tags came places [] (p ∷ row) = false
has_tags came places (tag ∷ tags) [] = false
has_tags came places (tag ∷ tags) (p ∷ row) = (has_number places p && has_tag came tag p) && has_tags came places tags row

-- a place past the elements that came isn't in working memory
not_there : (came : List Element) (places : List ℕ) (place : ℕ) (lives : Bool) → AllByRecursion (λ p. p < length came) places → has_number places place ≡ lives → slice_get came place ≡ None → lives ≡ false
not_there came places place false below is none = refl
not_there came places place true below is none =
    let first = some_at came place (Each-has (λ p. p < length came) places place below is) in
    let wrong : None ≡ Some first.item = sym none ∙ first.is in
    absurd (let wrong : ⊥ = cc in wrong)

tags_step : (came : List Element) (places : List ℕ) (tag : ℕ) (tags row : List ℕ) (found : Option Element) (lives : Bool) → (found ≡ None → lives ≡ false) → (same_numbers tags (tags_at came row) && is_living places row) ≡ has_tags came places tags row →
    (same_numbers (tag ∷ tags) (tags_of (cons_option found (elements_of came row))) && (lives && is_living places row)) ≡ ((lives && some_passes (λ (e : Element). e.tag == tag) found) && has_tags came places tags row)
tags_step came places tag tags row None true dead rest = absurd (let contrary = dead refl in let wrong : ⊥ = cc in wrong)
tags_step came places tag tags row None false dead rest = and_false (same_numbers (tag ∷ tags) (tags_at came row))
tags_step came places tag tags row (Some e) false dead rest = and_false (same_numbers (tag ∷ tags) (e.tag ∷ tags_at came row))
tags_step came places tag tags row (Some e) true dead rest = both (tag == e.tag) (e.tag == tag) (grind (arith, nat_tests)) (same_numbers tags (tags_at came row)) (is_living places row) (has_tags came places tags row) rest
  where
    both : (same turned : Bool) → same ≡ turned → (tags_same living has : Bool) → (tags_same && living) ≡ has → ((same && tags_same) && living) ≡ (turned && has)
    both true true is tags_same living has rest = rest
    both true false is tags_same living has rest = absurd (let wrong : ⊥ = cc in wrong)
    both false true is tags_same living has rest = absurd (let wrong : ⊥ = cc in wrong)
    both false false is tags_same living has rest = refl

none_step : (came : List Element) (places row : List ℕ) (found : Option Element) (lives : Bool) → (found ≡ None → lives ≡ false) → (same_numbers [] (tags_of (cons_option found (elements_of came row))) && (lives && is_living places row)) ≡ false
none_step came places row None true dead = absurd (let contrary = dead refl in let wrong : ⊥ = cc in wrong)
none_step came places row None false dead = and_false (same_numbers [] (tags_at came row))
none_step came places row (Some e) lives dead = refl

has_tags-same : (came : List Element) (places : List ℕ) → AllByRecursion (λ p. p < length came) places → (tags row : List ℕ) → (same_numbers tags (tags_at came row) && is_living places row) ≡ has_tags came places tags row
has_tags-same came places below [] [] = refl
has_tags-same came places below [] (p ∷ row) =
    none_step came places row (slice_get came p) (has_number places p) (not_there came places p (has_number places p) below refl)
has_tags-same came places below (tag ∷ tags) [] = refl
has_tags-same came places below (tag ∷ tags) (p ∷ row) =
    tags_step came places tag tags row (slice_get came p) (has_number places p) (not_there came places p (has_number places p) below refl) (has_tags-same came places below tags row)

-- a place that passes a test, or none that does
found_passes : (test : ℕ → Bool) (places : List ℕ) (place : ℕ) → find test places ≡ Some place → (has_number places place ≡ true) × (test place ≡ true)
found_passes test [] place is = absurd (let wrong : ⊥ = cc in wrong)
found_passes test (p ∷ places) place is = here (test p) refl is (λ found. found_passes test places place found)
  where
    here : (b : Bool) → test p ≡ b → cond b (Some p) (find test places) ≡ Some place → (find test places ≡ Some place → (has_number places place ≡ true) × (test place ≡ true)) → (((p == place) || has_number places place) ≡ true) × (test place ≡ true)
    here true passes found later =
        let same : p ≡ place = cc in
        (or_left (p == place) (has_number places place) (eq-eqb p place same), ap test (sym same) ∙ passes)
    here false fails found later = let rest = later found in (or_right (p == place) (has_number places place) rest.0, rest.1)

none_passes : (test : ℕ → Bool) (places : List ℕ) (place : ℕ) → find test places ≡ None → (has_number places place && test place) ≡ false
none_passes test [] place is = refl
none_passes test (p ∷ places) place is = here (test p) refl is (λ found. none_passes test places place found)
  where
    at : (same : Bool) → (p == place) ≡ same → test p ≡ false → (has_number places place && test place) ≡ false → ((same || has_number places place) && test place) ≡ false
    at true same fails rest = ap test (sym (eqb-true p place same)) ∙ fails
    at false same fails rest = rest

    here : (b : Bool) → test p ≡ b → cond b (Some p) (find test places) ≡ None → (find test places ≡ None → (has_number places place && test place) ≡ false) → (((p == place) || has_number places place) && test place) ≡ false
    here true passes found later = absurd (let wrong : ⊥ = cc in wrong)
    here false fails found later = at (p == place) refl fails (later found)

-- one row has these tags
record IsRowOf (came : List Element) (places tags row : List ℕ) : Type 0 where
  living : is_living places row ≡ true
  only : (other : List ℕ) → has_tags came places tags other ≡ same_numbers row other
  elements : elements_at (elements_of came places) tags ≡ elements_of came row
  there : list_all (λ t. is_some (element_at (elements_of came places) t)) tags ≡ true

-- or no row has
record HaveNoRow (came : List Element) (places tags : List ℕ) : Type 0 where
  none : (other : List ℕ) → has_tags came places tags other ≡ false
  gone : list_all (λ t. is_some (element_at (elements_of came places) t)) tags ≡ false

abbrev HaveRow : List Element → List ℕ → List ℕ → Type 0
HaveRow came places tags = ((row : List ℕ) × IsRowOf came places tags row) ⊎ HaveNoRow came places tags

place_step : (places : List ℕ) (p q : ℕ) (same : Bool) → (q == p) ≡ same → has_number places p ≡ true → (has_number places q && same) ≡ (p == q)
place_step places p q true is here =
    let same : q ≡ p = eqb-true q p is in
    ap (λ n. has_number places n && true) same ∙ ap (λ b. b && true) here ∙ sym (eq-eqb p q (sym same))
place_step places p q false is here = and_false (has_number places q) ∙ sym (ne_eqb p q (λ same. let turned : (q == p) ≡ true = eq-eqb q p (sym same) in let wrong : ⊥ = cc in wrong))

only_step : (came : List Element) (places : List ℕ) (tag : ℕ) (tags : List ℕ) (p : ℕ) (row : List ℕ) → Rises (tags_of came) → has_number places p ≡ true → has_tag came tag p ≡ true → ((other : List ℕ) → has_tags came places tags other ≡ same_numbers row other) → (other : List ℕ) → has_tags came places (tag ∷ tags) other ≡ same_numbers (p ∷ row) other
only_step came places tag tags p row rises here has rest [] = refl
only_step came places tag tags p row rises here has rest (q ∷ other) =
    ap (λ b. (has_number places q && b) && has_tags came places tags other) (has_tag_only came tag p q rises has)
    ∙ ap (λ b. b && has_tags came places tags other) (place_step places p q (q == p) refl here)
    ∙ ap (λ b. (p == q) && b) (rest other)

none_more : (came : List Element) (places : List ℕ) (tag : ℕ) (tags other : List ℕ) → find (has_tag came tag) places ≡ None → has_tags came places (tag ∷ tags) other ≡ false
none_more came places tag tags [] is = refl
none_more came places tag tags (q ∷ other) is = ap (λ b. b && has_tags came places tags other) (none_passes (has_tag came tag) places q is)

none_later : (came : List Element) (places : List ℕ) (tag : ℕ) (tags other : List ℕ) → ((row : List ℕ) → has_tags came places tags row ≡ false) → has_tags came places (tag ∷ tags) other ≡ false
none_later came places tag tags [] none = refl
none_later came places tag tags (q ∷ other) none = ap (λ b. (has_number places q && has_tag came tag q) && b) (none other) ∙ and_false (has_number places q && has_tag came tag q)

row_step : (came : List Element) (places : List ℕ) (tag : ℕ) (tags : List ℕ) (found : Option ℕ) → Rises (tags_of came) → AllByRecursion (λ p. p < length came) places → find (has_tag came tag) places ≡ found → HaveRow came places tags → HaveRow came places (tag ∷ tags)
row_step came places tag tags None rises below is rest = inr (record {
  none = λ other. none_more came places tag tags other is;
  gone = ap (λ found. is_some found && list_all (λ t. is_some (element_at (elements_of came places) t)) tags) (element_at-places came places tag ∙ ap (option_and_then (slice_get came)) is);
})
row_step came places tag tags (Some p) rises below is (inr absent) = inr (record {
  none = λ other. none_later came places tag tags other absent.none;
  gone = ap (λ b. is_some (element_at (elements_of came places) tag) && b) absent.gone ∙ and_false (is_some (element_at (elements_of came places) tag));
})
row_step came places tag tags (Some p) rises below is (inl some) =
    let passes = found_passes (has_tag came tag) places p is in
    let first = some_at came p (Each-has (λ q. q < length came) places p below passes.0) in
    let at : element_at (elements_of came places) tag ≡ slice_get came p = element_at-places came places tag ∙ ap (option_and_then (slice_get came)) is in
    inl (
      p ∷ some.0,
      record {
        living = ap (λ b. b && is_living places some.0) passes.0 ∙ some.1.living;
        only = only_step came places tag tags p some.0 rises passes.0 passes.1 some.1.only;
        elements = ap (λ found. cons_option found (elements_at (elements_of came places) tags)) at ∙ ap (cons_option (slice_get came p)) some.1.elements;
        there = ap (λ found. is_some found && list_all (λ t. is_some (element_at (elements_of came places) t)) tags) (at ∙ first.is) ∙ some.1.there;
      },
    )

row_of : (came : List Element) (places : List ℕ) → Rises (tags_of came) → AllByRecursion (λ p. p < length came) places → (tags : List ℕ) → HaveRow came places tags
row_of came places rises below [] = inl ([], record { living = refl; only = only_none; elements = refl; there = refl })
  where
    only_none : (other : List ℕ) → has_tags came places [] other ≡ same_numbers [] other
    only_none [] = refl
    only_none (q ∷ other) = refl
row_of came places rises below (tag ∷ tags) = row_step came places tag tags (find (has_tag came tag) places) rises below refl (row_of came places rises below tags)

-- how often the living rows have these tags
abbrev one : Bool → ℕ
one b = cond b 1 0

counted : (came : List Element) (places tags : List ℕ) → AllByRecursion (λ p. p < length came) places → (rows : List (List ℕ)) → times (same_numbers tags) (map (tags_at came) (filter (is_living places) rows)) ≡ times (has_tags came places tags) rows
counted came places tags below rows =
    times-map (same_numbers tags) (tags_at came) (filter (is_living places) rows)
    ∙ times-filter (λ row. same_numbers tags (tags_at came row)) (is_living places) rows
    ∙ times-agree (λ row. same_numbers tags (tags_at came row) && is_living places row) (has_tags came places tags) (has_tags-same came places below tags) rows

takes_row : (rule : Rule) (joins : Joins) (came : List Element) (places tags row : List ℕ) → IsCompiled rule joins → IsRowOf came places tags row → takes_tags rule (elements_of came places) tags ≡ are_joined joins.positives (elements_of came row)
takes_row rule joins came places tags row compiled has =
    ap (λ b. b && is_some (bindings_with rule (elements_at (elements_of came places) tags))) has.there
    ∙ ap (λ es. is_some (bindings_with rule es)) has.elements
    ∙ compiled.rows (elements_of came row)

differs_step : (same : Bool) (row other : List ℕ) → same_numbers row other ≡ same → (row ≡ other → ⊥) → same_numbers row other ≡ false
differs_step true row other is differs = absurd (differs (same_row row other is))
differs_step false row other is differs = is

at_row : (rule : Rule) (joins : Joins) (came : List Element) (places tags row : List ℕ) (levels : Levels) → IsCompiled rule joins → AllByRecursion (λ p. p < length came) places → AllByRecursion (λ other. length other ≡ length joins.positives) (levels (length joins.positives)) → AreLevels (joins_of joins.positives) came places levels → IsRowOf came places tags row → (length row ≡ length joins.positives) ⊎ (length row ≡ length joins.positives → ⊥) → times (same_numbers row) (levels (length joins.positives)) ≡ one (takes_tags rule (elements_of came places) tags)
at_row rule joins came places tags row levels compiled below widths held has (inl same) =
    ap (λ n. times (same_numbers row) (levels n)) (sym same) ∙ held.once row has.living
    ∙ ap one (is_match-joined joins.positives came row same (HaveCome-living came places row below has.living) ∙ sym (takes_row rule joins came places tags row compiled has))
at_row rule joins came places tags row levels compiled below widths held has (inr differs) =
    times-none (same_numbers row) (levels (length joins.positives))
    (Each-weaker (λ other. length other ≡ length joins.positives) (λ other. same_numbers row other ≡ false)
    (λ other long. differs_step (same_numbers row other) row other refl (λ same. differs (ap length same ∙ long))) (levels (length joins.positives)) widths)
    ∙ sym (ap one (takes_row rule joins came places tags row compiled has
    ∙ not_joined [] joins.positives (elements_of came row) (λ long. differs (sym (length-elements_of came row (HaveCome-living came places row below has.living)) ∙ long))))

told_step : (rule : Rule) (joins : Joins) (came : List Element) (places tags : List ℕ) (levels : Levels) → IsCompiled rule joins → AllByRecursion (λ p. p < length came) places → AllByRecursion (λ row. length row ≡ length joins.positives) (levels (length joins.positives)) → AreLevels (joins_of joins.positives) came places levels → HaveRow came places tags → times (has_tags came places tags) (levels (length joins.positives)) ≡ one (takes_tags rule (elements_of came places) tags)
told_step rule joins came places tags levels compiled below widths held (inr absent) =
    times-none (has_tags came places tags) (levels (length joins.positives)) (Each-always (λ row. has_tags came places tags row ≡ false) absent.none (levels (length joins.positives)))
    ∙ sym (ap (λ b. one (b && is_some (bindings_with rule (elements_at (elements_of came places) tags)))) absent.gone)
told_step rule joins came places tags levels compiled below widths held (inl some) =
    times-agree (has_tags came places tags) (same_numbers some.0) some.1.only (levels (length joins.positives))
    ∙ at_row rule joins came places tags some.0 levels compiled below widths held some.1 (cases_eq (length some.0) (length joins.positives))

pub full_matches_are_told : FullMatchesAreTold
full_matches_are_told rule joins came places levels compiled rises below widths held tags =
    counted came places tags below (levels (length joins.positives))
    ∙ told_step rule joins came places tags levels compiled below widths held (row_of came places rises below tags)

-- the same of what a network keeps of a rule
level_widths : (all : List Join) (came : List Element) (places : List ℕ) (levels : List LevelRows) (width : ℕ) → AreFiled all came places levels → width ≤ length levels → AllByRecursion (λ row. length row ≡ width) (rows_of levels width)
level_widths all came places levels zero filed within = (refl, tt)
level_widths all came places levels (suc number) filed within =
    Each-weaker (λ row. length row ≡ number + 1) (λ row. length row ≡ suc number) (λ row long. omega (arith, long)) (level_at levels number).rows ((filed.each number (omega (arith, within))).widths)

pub rule_is_told : (came : List Element) (places : List ℕ) (alpha : List Store) (kept : RuleRows) (rule : Rule) → IsRight came places alpha kept → Rises (tags_of came) → AllByRecursion (λ p. p < length came) places → IsCompiled rule kept.joins → AreFullMatches rule (elements_of came places) (map (tags_at came) (filter (is_living places) (rows_of kept.levels (length kept.levels))))
rule_is_told came places alpha kept rule is rises below compiled =
    subst (λ n. AreFullMatches rule (elements_of came places) (map (tags_at came) (filter (is_living places) (rows_of kept.levels n)))) (sym is.filed.count)
    (full_matches_are_told rule kept.joins came places (rows_of kept.levels) compiled rises below
    (level_widths kept.joins.positives came places kept.levels (length kept.joins.positives) is.filed (omega (arith, is.filed.count))) is.right)

-- what is left to tell past a dead row, and past a living one
pub left-dead : (places : List ℕ) (rows : List (List ℕ)) (number : ℕ) (row : List ℕ) → slice_get rows number ≡ Some row → is_living places row ≡ false → filter (is_living places) (drop (number + 1) rows) ≡ filter (is_living places) (drop number rows)
left-dead places rows number row at dead =
    sym (filter-from (is_living places) rows number row at ∙ ap (λ b. cond b (row ∷ []) [] ++ filter (is_living places) (drop (number + 1) rows)) dead)

pub left-living : (places : List ℕ) (rows : List (List ℕ)) (number : ℕ) (row : List ℕ) → slice_get rows number ≡ Some row → is_living places row ≡ true → filter (is_living places) (drop number rows) ≡ row ∷ filter (is_living places) (drop (number + 1) rows)
left-living places rows number row at lives =
    filter-from (is_living places) rows number row at ∙ ap (λ b. cond b (row ∷ []) [] ++ filter (is_living places) (drop (number + 1) rows)) lives

-- the same of a network
pub network_tells : (arrivals : Arrivals) (alpha : List Store) (rules : List RuleRows) (askers asks : List (List Asker)) (due negated_due : List Asker) (kept_count left : ℕ) (now : Network) (number : ℕ) (shown : List (List ℕ)) → ◌≡◌ {A = Network} (record { arrivals = arrivals; rules = rules; due = due; negated_due = negated_due; held = kept_count; left = left }) now → IsNetwork arrivals.came arrivals.places alpha rules askers asks → Rises (tags_of arrivals.came) → AllByRecursion (λ p. p < length arrivals.came) arrivals.places → ((kept : RuleRows) → slice_get rules number ≡ Some kept → shown ≡ filter (is_living arrivals.places) (rows_of kept.levels (length kept.levels))) →
    (rule : Rule) (kept : RuleRows) → slice_get now.rules number ≡ Some kept → IsCompiled rule kept.joins → AreFullMatches rule (memory_of now.arrivals) (map (tags_at now.arrivals.came) shown)
network_tells arrivals alpha rules askers asks due negated_due kept_count left now number shown is held rises below shown_is rule kept there compiled =
    let at : slice_get rules number ≡ Some kept = ap (λ (n : Network). slice_get n.rules number) is ∙ there in
    subst (λ (n : Network). AreFullMatches rule (memory_of n.arrivals) (map (tags_at n.arrivals.came) shown)) is
    (subst (λ rows. AreFullMatches rule (memory_of arrivals) (map (tags_at arrivals.came) rows)) (sym (shown_is kept at))
    (rule_is_told arrivals.came arrivals.places alpha kept rule (Each-slice_get (IsRight arrivals.came arrivals.places alpha) rules number kept held.right at) rises below compiled))

-- the first row that is told, and those that are left
pub first_told : (places : List ℕ) (rows : List (List ℕ)) (left : List (List ℕ)) (from number : ℕ) (row : List ℕ) → filter (is_living places) (drop from rows) ≡ left → filter (is_living places) (drop number rows) ≡ filter (is_living places) (drop from rows) → slice_get rows number ≡ Some row → IfSome (slice_get rows number) (λ found. is_living places found ≡ true) → left ≡ row ∷ filter (is_living places) (drop (number + 1) rows)
first_told places rows left from number row is same at lives =
    sym is ∙ sym same ∙ left-living places rows number row at (subst (λ found. IfSome found (λ r. is_living places r ≡ true)) at lives)
