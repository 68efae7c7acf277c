-- Full rows: which they are, and what stands in their way, as elements come.
use Rattle.std.proofs.Common.{◌≡◌, ◌⊎◌, inl, inr, ℕ, ◌-◌, ◌<◌, ◌≤◌, ◌==◌, List, [], ◌∷◌, ◌++◌, Bool, true, false, cond, Option, None, Some, Result, Ok, Err, filter, length, length-append, option_map, slice_get, take, zero, suc, refl, ap, arith, subst, sym, ◌∙◌}
use Rattle.std.specs.List.{AllByRecursion, list_all, list_any}
use Rattle.std.specs.Option.{option_map_or}
use Rattle.std.specs.Result.{OnErr, OnOk}
use Rattle.std.proofs.lemmas.Bool.{and_from, and_parts, eqb-true, or_cases, or_left, or_parts, or_right}
use Rattle.std.proofs.lemmas.List.{length-map}
use Rattle.std.proofs.lemmas.List.Folds.{list_any-append}
use Rattle.std.proofs.lemmas.Option.{slice_get-map, slice_get_within}
use Rattle.rule_base.specs.declared.element.Element.{Element}
use Rattle.rule_base.specs.Memory.{Rises, tags_of}
use Rattle.rule_base.specs.Numbers.{has_number}
use Rattle.rule_base.proofs.EachLemmas.{Each-slice_get}
use Rattle.join_tests.specs.declared.joins.Joins.{Joins}
use Rattle.join_tests.specs.declared.joins.Negated.{Negated}
use Rattle.join_tests.specs.Joining.{joins}
use Rattle.join_tests.specs.Meaning.{is_free}
use Rattle.match_network.specs.Arrivals.{Arrivals, with_arrival, without_tag}
use Rattle.match_network.specs.Conditions.{joins_of, rows_of}
use Rattle.match_network.specs.Levels.{AreLevels, HaveCome}
use Rattle.match_network.specs.Negated.{IsWholeRow, blocks, whole_rows}
use Rattle.match_network.specs.Network.{Network, joins_in}
use Rattle.match_network.specs.Row.{elements_of, is_living, some_passes}
use Rattle.match_network.specs.Rules.{RuleRows}
use Rattle.match_network.specs.Touched.{AllGrow}
use Rattle.match_network.proofs.BlockLemmas.{blocked_is_not_free}
use Rattle.match_network.proofs.ComeLemmas.{Each-has, elements_of-come, slice_get-more, some_at}
use Rattle.match_network.proofs.SetChangeLemmas.{places_undone}
use Rattle.match_network.proofs.TagLemmas.{tags-push}
use Rattle.conflict_parts.specs.Change.{HasGrown}
use Rattle.conflict_parts.specs.Part.{IsBlockedAt, IsLivingRow, full_row, full_rows, is_free_row}

-- a full row is a whole row of a rule that is kept
pub record Whole (rules : List RuleRows) (rule number : ℕ) (row : List ℕ) : Type 0 where
  pub kept : RuleRows
  pub is : IsWholeRow rules rule number kept row

whole_step : (rules : List RuleRows) (rule number : ℕ) (row : List ℕ) (found : Option RuleRows) → slice_get rules rule ≡ found → slice_get (option_map_or whole_rows found []) number ≡ Some row → Whole rules rule number row
whole_step rules rule number row None at is = absurd (let wrong : ⊥ = cc in wrong)
whole_step rules rule number row (Some kept) at is = record { kept = kept; is = record { rule_is = at; row_is = is } }

pub whole_of : (rules : List RuleRows) (rule number : ℕ) (row : List ℕ) → full_row rules rule number ≡ Some row → Whole rules rule number row
whole_of rules rule number row is = whole_step rules rule number row (slice_get rules rule) refl is

pub full_rows-kept : (rules : List RuleRows) (rule : ℕ) (kept : RuleRows) → slice_get rules rule ≡ Some kept → full_rows rules rule ≡ whole_rows kept
full_rows-kept rules rule kept at = ap (λ (found : Option RuleRows). option_map_or whole_rows found []) at

pub full_row-same : (rules : List RuleRows) (rule number : ℕ) (row other : List ℕ) → full_row rules rule number ≡ Some row → full_row rules rule number ≡ Some other → row ≡ other
full_row-same rules rule number row other is also =
    let both : Some row ≡ Some other = sym is ∙ also in
    cc

-- what is blocked isn't free
pub blocked_not_free : (network : Network) (rule number : ℕ) (row : List ℕ) (place : ℕ) → IsLivingRow network rule number row → IsBlockedAt network rule row place → is_free_row network rule row ≡ false
blocked_not_free network rule number row place lives blocked =
    let whole = whole_of network.rules rule number row lives.is in
    let came = network.arrivals.came in
    let places = network.arrivals.places in
    ap (λ (found : Option RuleRows). option_map_or (λ (kept : RuleRows). list_all (is_free (elements_of came places) (elements_of came row)) kept.joins.negated) found true) whole.is.rule_is
    ∙ blocked_is_not_free whole.kept.joins came places row place blocked.there (blocked.stands whole.kept whole.is.rule_is)

-- what stands in the way goes on to
pub blocks-come : (all : Joins) (came : List Element) (e : Element) (row : List ℕ) (place : ℕ) → HaveCome came row → place < length came → blocks all (came ++ e ∷ []) row place ≡ blocks all came row place
blocks-come all came e row place come lt =
    ap (λ (es : List Element). list_any (λ (n : Negated). some_passes (joins n.join (take n.after es)) (slice_get (came ++ e ∷ []) place)) all.negated) (elements_of-come came e row come)
    ∙ ap (λ (found : Option Element). list_any (λ (n : Negated). some_passes (joins n.join (take n.after (elements_of came row))) found) all.negated) (slice_get-more came place (e ∷ []) lt)

blocks-either : (all : Joins) (came new : List Element) (e : Element) (row : List ℕ) (place : ℕ) → (new ≡ came) ⊎ (new ≡ came ++ e ∷ []) → HaveCome came row → place < length came → blocks all came row place ≡ true → blocks all new row place ≡ true
blocks-either all came new e row place (inl same) come lt is = subst (λ (c : List Element). blocks all c row place ≡ true) (sym same) is
blocks-either all came new e row place (inr more) come lt is = subst (λ (c : List Element). blocks all c row place ≡ true) (sym more) (blocks-come all came e row place come lt ∙ is)

-- the rule with a number, in a network that has grown
pub record Before (old : List RuleRows) (rule : ℕ) (after : RuleRows) : Type 0 where
  pub kept : RuleRows
  pub is : slice_get old rule ≡ Some kept
  pub joins_are : after.joins ≡ kept.joins

before_of : (old new : List RuleRows) (rule : ℕ) (after : RuleRows) → joins_in new ≡ joins_in old → slice_get new rule ≡ Some after → Before old rule after
before_of old new rule after same at =
    let lt : rule < length old = omega (arith, slice_get_within new rule after at, ap (λ (js : List Joins). length js) same, length-map new (λ (r : RuleRows). r.joins), length-map old (λ (r : RuleRows). r.joins)) in
    let found = some_at old rule lt in
    let joins_same : Some after.joins ≡ Some found.item.joins =
    ap (option_map (λ (r : RuleRows). r.joins)) (sym at) ∙ sym (slice_get-map (λ (r : RuleRows). r.joins) new rule)
    ∙ ap (λ (js : List Joins). slice_get js rule) same ∙ slice_get-map (λ (r : RuleRows). r.joins) old rule ∙ ap (option_map (λ (r : RuleRows). r.joins)) found.is in
    record { kept = found.item; is = found.is; joins_are = (let is : after.joins ≡ found.item.joins = cc in is) }

-- what stood in the way of a row before does so still
pub still_blocked : (old new : Network) (e : Element) (rule number : ℕ) (row : List ℕ) (place : ℕ) → HasGrown old new e → full_row old.rules rule number ≡ Some row → IsBlockedAt old rule row place → (kept : RuleRows) → slice_get new.rules rule ≡ Some kept → blocks kept.joins new.arrivals.came row place ≡ true
still_blocked old new e rule number row place grown is blocked kept at =
    let before = before_of old.rules new.rules rule kept grown.joins at in
    subst (λ (all : Joins). blocks all new.arrivals.came row place ≡ true) (sym before.joins_are)
    (blocks-either before.kept.joins old.arrivals.came new.arrivals.came e row place grown.came (grown.have_come rule number row is)
    (Each-has (λ p. p < length old.arrivals.came) old.arrivals.places place grown.below blocked.there) (blocked.stands before.kept before.is))

-- a number of a list with more at its end
either_part : {X : Type 0} (xs more : List X) (i : ℕ) (x : X) → slice_get (xs ++ more) i ≡ Some x → (slice_get xs i ≡ Some x) ⊎ ((length xs ≤ i) × (slice_get more (i - length xs) ≡ Some x))
either_part [] more i x at = inr (omega arith, ap (slice_get more) (let none : i - 0 ≡ i = omega arith in none) ∙ at)
either_part (y ∷ xs) more zero x at = inl at
either_part (y ∷ xs) more (suc i) x at =
    elim (either_part xs more i x at) [
      | inl here ↦ inl here
      | inr past ↦ inr (omega (arith, past.0), ap (slice_get more) (let same : suc i - length (y ∷ xs) ≡ i - length xs = omega arith in same) ∙ past.1)
    ]

-- the whole rows of a rule that has grown
whole_grows : (old new : Network) (rule : ℕ) (before after : RuleRows) → slice_get old.rules rule ≡ Some before → slice_get new.rules rule ≡ Some after → length after.levels ≡ length before.levels →
    AllGrow new.arrivals.came (length old.arrivals.came) old.rules new.rules →
    (more : List (List ℕ)) × (whole_rows after ≡ whole_rows before ++ more) × AllByRecursion (λ row. HaveCome new.arrivals.came row × (has_number row (length old.arrivals.came) ≡ true)) more
whole_grows old new rule before after at now long grows =
    let adds = grows rule before after at now (length before.levels) in
    (adds.0, ap (rows_of after.levels) long ∙ adds.1, adds.2)

-- so the full rows keep their numbers, and each further one has the place
pub rows_grow : (old new : Network) → joins_in new.rules ≡ joins_in old.rules → AllGrow new.arrivals.came (length old.arrivals.came) old.rules new.rules →
    ((number : ℕ) (kept : RuleRows) → slice_get old.rules number ≡ Some kept → length kept.levels ≡ length kept.joins.positives) →
    ((number : ℕ) (kept : RuleRows) → slice_get new.rules number ≡ Some kept → length kept.levels ≡ length kept.joins.positives) →
    (rule number : ℕ) (row : List ℕ) → full_row new.rules rule number ≡ Some row →
    (full_row old.rules rule number ≡ Some row) ⊎ ((length (full_rows old.rules rule) ≤ number) × (has_number row (length old.arrivals.came) ≡ true))
rows_grow old new joins_are grows long_old long_new rule number row is =
    let whole = whole_of new.rules rule number row is in
    let before = before_of old.rules new.rules rule whole.kept joins_are whole.is.rule_is in
    let long : length whole.kept.levels ≡ length before.kept.levels =
    long_new rule whole.kept whole.is.rule_is ∙ ap (λ (all : Joins). length all.positives) before.joins_are ∙ sym (long_old rule before.kept before.is) in
    let grown = whole_grows old new rule before.kept whole.kept before.is whole.is.rule_is long grows in
    let old_rows = full_rows-kept old.rules rule before.kept before.is in
    elim (either_part (whole_rows before.kept) grown.0 number row (ap (λ (rows : List (List ℕ)). slice_get rows number) (sym grown.1) ∙ whole.is.row_is)) [
      | inl here ↦ inl (ap (λ (rows : List (List ℕ)). slice_get rows number) old_rows ∙ here)
      | inr past ↦
          inr (
            omega (arith, past.0, ap (λ (rows : List (List ℕ)). length rows) old_rows),
            (Each-slice_get (λ (r : List ℕ). HaveCome new.arrivals.came r × (has_number r (length old.arrivals.came) ≡ true)) grown.0 (number - length (whole_rows before.kept)) row grown.2 past.1).1,
          )
    ]

longer_step : (old new : Network) → joins_in new.rules ≡ joins_in old.rules → AllGrow new.arrivals.came (length old.arrivals.came) old.rules new.rules →
    ((number : ℕ) (kept : RuleRows) → slice_get old.rules number ≡ Some kept → length kept.levels ≡ length kept.joins.positives) →
    ((number : ℕ) (kept : RuleRows) → slice_get new.rules number ≡ Some kept → length kept.levels ≡ length kept.joins.positives) →
    (rule : ℕ) (found : Option RuleRows) → slice_get old.rules rule ≡ found → length (option_map_or whole_rows found []) ≤ length (full_rows new.rules rule)
longer_step old new joins_are grows long_old long_new rule None at = omega arith
longer_step old new joins_are grows long_old long_new rule (Some kept) at =
    let after = before_of new.rules old.rules rule kept (sym joins_are) at in
    let long : length after.kept.levels ≡ length kept.levels =
    long_new rule after.kept after.is ∙ ap (λ (all : Joins). length all.positives) (sym after.joins_are) ∙ sym (long_old rule kept at) in
    let grown = whole_grows old new rule kept after.kept at after.is long grows in
    omega (arith, ap (λ (rows : List (List ℕ)). length rows) (full_rows-kept new.rules rule after.kept after.is), ap (λ (rows : List (List ℕ)). length rows) grown.1, length-append (whole_rows kept) grown.0)

pub rows_longer : (old new : Network) → joins_in new.rules ≡ joins_in old.rules → AllGrow new.arrivals.came (length old.arrivals.came) old.rules new.rules →
    ((number : ℕ) (kept : RuleRows) → slice_get old.rules number ≡ Some kept → length kept.levels ≡ length kept.joins.positives) →
    ((number : ℕ) (kept : RuleRows) → slice_get new.rules number ≡ Some kept → length kept.levels ≡ length kept.joins.positives) →
    (rule : ℕ) → length (full_rows old.rules rule) ≤ length (full_rows new.rules rule)
rows_longer old new joins_are grows long_old long_new rule = longer_step old new joins_are grows long_old long_new rule (slice_get old.rules rule) refl

-- the elements of full rows came
pub rows_came : (network : Network) →
    ((number : ℕ) (kept : RuleRows) → slice_get network.rules number ≡ Some kept → AreLevels (joins_of kept.joins.positives) network.arrivals.came network.arrivals.places (rows_of kept.levels)) →
    (rule number : ℕ) (row : List ℕ) → full_row network.rules rule number ≡ Some row → HaveCome network.arrivals.came row
rows_came network right rule number row is =
    let whole = whole_of network.rules rule number row is in
    Each-slice_get (HaveCome network.arrivals.came) (whole_rows whole.kept) number row ((right rule whole.kept whole.is.rule_is).have_come (length whole.kept.levels)) whole.is.row_is

-- places of rows
pub living-has : (places row : List ℕ) (place : ℕ) → is_living places row ≡ true → has_number row place ≡ true → has_number places place ≡ true
living-has places [] place lives has = absurd (let wrong : ⊥ = cc in wrong)
living-has places (p ∷ row) place lives has =
    let parts = and_parts (has_number places p) (is_living places row) lives in
    elim (or_cases (p == place) (has_number row place) has) [
      | inl same ↦ subst (λ q. has_number places q ≡ true) (eqb-true p place same) parts.0
      | inr later ↦ living-has places row place parts.1 later
    ]

-- a row of places below is of those places also where one more is there
has-below : (places : List ℕ) (last place : ℕ) → place < last → has_number (places ++ last ∷ []) place ≡ true → has_number places place ≡ true
has-below places last place lt has =
    elim (or_cases (has_number places place) (has_number (last ∷ []) place) (sym (list_any-append (λ n. n == place) places (last ∷ [])) ∙ has)) [
      | inl here ↦ here
      | inr there ↦ elim (or_cases (last == place) false there) [ inl same ↦ absurd (omega (arith, eqb-true last place same, lt)) | inr wrong ↦ absurd (let no : ⊥ = cc in no) ]
    ]

pub living-below : (places row : List ℕ) (last : ℕ) → AllByRecursion (λ p. p < last) row → is_living (places ++ last ∷ []) row ≡ true → is_living places row ≡ true
living-below places [] last below lives = refl
living-below places (p ∷ row) last below lives =
    let parts = and_parts (has_number (places ++ last ∷ []) p) (is_living (places ++ last ∷ []) row) lives in
    and_from (has_number places p) (is_living places row) (has-below places last p below.0 parts.0) (living-below places row last below.1 parts.1)

pub has-more : (places : List ℕ) (last place : ℕ) → has_number places place ≡ true → has_number (places ++ last ∷ []) place ≡ true
has-more places last place has = list_any-append (λ n. n == place) places (last ∷ []) ∙ or_left (has_number places place) (has_number (last ∷ []) place) has

-- those that stay
filter_has-step : (keep : ℕ → Bool) (p : ℕ) (places : List ℕ) (place : ℕ) (b : Bool) → keep p ≡ b → keep place ≡ true → ((p == place) ≡ true) ⊎ (has_number (filter keep places) place ≡ true) → has_number (cond b (p ∷ filter keep places) (filter keep places)) place ≡ true
filter_has-step keep p places place true is stays (inl same) = or_left (p == place) (has_number (filter keep places) place) same
filter_has-step keep p places place true is stays (inr later) = or_right (p == place) (has_number (filter keep places) place) later
filter_has-step keep p places place false is stays (inl same) =
    let goes : keep place ≡ false = subst (λ q. keep q ≡ false) (eqb-true p place same) is in
    let wrong : true ≡ false = sym stays ∙ goes in
    absurd (let no : ⊥ = cc in no)
filter_has-step keep p places place false is stays (inr later) = later

pub filter_has : (keep : ℕ → Bool) (places : List ℕ) (place : ℕ) → has_number places place ≡ true → keep place ≡ true → has_number (filter keep places) place ≡ true
filter_has keep [] place has stays = has
filter_has keep (p ∷ places) place has stays =
    filter_has-step keep p places place (keep p) refl stays
    (elim (or_cases (p == place) (has_number places place) has) [
      | inl same ↦ inl same
      | inr later ↦ inr (filter_has keep places place later stays)
    ])

has-filter_step : (keep : ℕ → Bool) (p : ℕ) (places : List ℕ) (place : ℕ) (b : Bool) → (has_number (filter keep places) place ≡ true → has_number places place ≡ true) → has_number (cond b (p ∷ filter keep places) (filter keep places)) place ≡ true → has_number (p ∷ places) place ≡ true
has-filter_step keep p places place true rest is =
    elim (or_cases (p == place) (has_number (filter keep places) place) is) [
      | inl same ↦ or_left (p == place) (has_number places place) same
      | inr later ↦ or_right (p == place) (has_number places place) (rest later)
    ]
has-filter_step keep p places place false rest is = or_right (p == place) (has_number places place) (rest is)

pub has-filter : (keep : ℕ → Bool) (places : List ℕ) (place : ℕ) → has_number (filter keep places) place ≡ true → has_number places place ≡ true
has-filter keep [] place has = has
has-filter keep (p ∷ places) place has = has-filter_step keep p places place (keep p) (has-filter keep places place) has

pub living-filter : (keep : ℕ → Bool) (places row : List ℕ) → is_living (filter keep places) row ≡ true → is_living places row ≡ true
living-filter keep places [] lives = refl
living-filter keep places (p ∷ row) lives =
    let parts = and_parts (has_number (filter keep places) p) (is_living (filter keep places) row) lives in
    and_from (has_number places p) (is_living places row) (has-filter keep places p parts.0) (living-filter keep places row parts.1)

-- no number of these passes
pub none_has : (test : ℕ → Bool) (places : List ℕ) (place : ℕ) → list_any test places ≡ false → has_number places place ≡ true → test place ≡ true → ⊥
none_has test [] place none has passes = cc
none_has test (p ∷ places) place none has passes =
    let parts = or_parts (test p) (list_any test places) none in
    elim (or_cases (p == place) (has_number places place) has) [
      | inl same ↦
          let fails : test place ≡ false = subst (λ q. test q ≡ false) (eqb-true p place same) parts.0 in
          let wrong : true ≡ false = sym passes ∙ fails in
          absurd (let no : ⊥ = cc in no)
      | inr later ↦ none_has test places place parts.1 later passes
    ]

-- the numbers of a living row are those of a rule and of a row
pub rule_within : (network : Network) (rule number : ℕ) (row : List ℕ) → IsLivingRow network rule number row → rule < length network.rules
rule_within network rule number row lives =
    let whole = whole_of network.rules rule number row lives.is in
    slice_get_within network.rules rule whole.kept whole.is.rule_is

pub whole_is : (network : Network) (rule number : ℕ) (row : List ℕ) → IsLivingRow network rule number row → (kept : RuleRows) → slice_get network.rules rule ≡ Some kept → IsWholeRow network.rules rule number kept row
whole_is network rule number row lives kept at = record {
  rule_is = at;
  row_is = ap (λ (rows : List (List ℕ)). slice_get rows number) (sym (full_rows-kept network.rules rule kept at)) ∙ lives.is;
}

pub row_within : (network : Network) (rule number : ℕ) (row : List ℕ) → IsLivingRow network rule number row → (kept : RuleRows) → slice_get network.rules rule ≡ Some kept → number < length (whole_rows kept)
row_within network rule number row lives kept at = slice_get_within (whole_rows kept) number row (whole_is network rule number row lives kept at).row_is

-- what a network that takes in an element, or fails to, says of itself
came_either : {E : Type 0} (r : Result (Unit {0}) E) (old new : Network) (e : Element) → OnOk r (new.arrivals ≡ with_arrival old.arrivals e) → OnErr r ((new.arrivals.came ≡ old.arrivals.came) ⊎ (new.arrivals.came ≡ old.arrivals.came ++ e ∷ [])) → (new.arrivals.came ≡ old.arrivals.came) ⊎ (new.arrivals.came ≡ old.arrivals.came ++ e ∷ [])
came_either (Ok x) old new e ok err = inr (ap (λ (a : Arrivals). a.came) ok)
came_either (Err x) old new e ok err = err

pub grown-from : {E : Type 0} (r : Result (Unit {0}) E) (old new : Network) (e : Element) →
    ((number : ℕ) (kept : RuleRows) → slice_get old.rules number ≡ Some kept → AreLevels (joins_of kept.joins.positives) old.arrivals.came old.arrivals.places (rows_of kept.levels)) →
    ((number : ℕ) (kept : RuleRows) → slice_get old.rules number ≡ Some kept → length kept.levels ≡ length kept.joins.positives) →
    ((number : ℕ) (kept : RuleRows) → slice_get new.rules number ≡ Some kept → length kept.levels ≡ length kept.joins.positives) →
    AllByRecursion (λ p. p < length old.arrivals.came) old.arrivals.places →
    joins_in new.rules ≡ joins_in old.rules → AllGrow new.arrivals.came (length old.arrivals.came) old.rules new.rules →
    OnOk r (new.arrivals ≡ with_arrival old.arrivals e) → OnErr r ((new.arrivals.came ≡ old.arrivals.came) ⊎ (new.arrivals.came ≡ old.arrivals.came ++ e ∷ [])) → HasGrown old new e
grown-from r old new e right long_old long_new below joins_are grows ok err = record {
  count = sym (length-map new.rules (λ (r : RuleRows). r.joins)) ∙ ap (λ (js : List Joins). length js) joins_are ∙ length-map old.rules (λ (r : RuleRows). r.joins);
  joins = joins_are;
  rows = rows_grow old new joins_are grows long_old long_new;
  longer = rows_longer old new joins_are grows long_old long_new;
  have_come = rows_came old right;
  below = below;
  came = came_either r old new e ok err;
}

-- the element that came is taken out again
pub undone-from : {E : Type 0} (r : Result (Unit {0}) E) (old new : Network) (e : Element) → AllByRecursion (λ p. p < length old.arrivals.came) old.arrivals.places → Rises (tags_of old.arrivals.came) → AllByRecursion (λ (f : Element). f.tag < e.tag) old.arrivals.came →
    OnOk r (new.arrivals ≡ with_arrival old.arrivals e) → OnOk r ((left : Arrivals) → left ≡ without_tag new.arrivals e.tag → left.places ≡ old.arrivals.places)
undone-from (Ok x) old new e below tags above ok = λ left is.
    places_undone old.arrivals new.arrivals left e below ok (subst (λ (a : Arrivals). Rises (tags_of a.came)) (sym ok) (tags-push old.arrivals.came e tags above)) is
undone-from (Err x) old new e below tags above ok = tt
