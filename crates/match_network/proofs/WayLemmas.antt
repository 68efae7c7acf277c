-- A place on its way through the levels of a rule, from the condition element where it is woven in to the last.
use Rattle.std.proofs.Common.{◌≡◌, ℕ, ◌+◌, ◌-◌, ◌<◌, ◌≤◌, ◌==◌, List, [], ◌∷◌, ◌++◌, Bool, true, false, cond, ◌||◌, drop, length, map, reverse, zero, suc, refl, ap, subst, sym, ◌∙◌, arith, length-append, inl, inr, Option, Some, None, slice_get}
use Rattle.std.specs.List.{AllByRecursion, filter}
use Rattle.std.specs.Option.{option_map_or}
use Rattle.std.proofs.lemmas.Bool.{cases_eq, cases_lt, eq-eqb, le-leb, lt-leb, ne_eqb}
use Rattle.std.proofs.lemmas.List.{append-nil, drop_at}
use Rattle.std.proofs.lemmas.List.Concat.{flat_map-cons}
use Rattle.rule_base.specs.declared.element.Element.{Element}
use Rattle.rule_base.specs.Numbers.{has_number}
use Rattle.rule_base.proofs.EachLemmas.{Each-always, Each-both, Each-flat_map, Each-map, Each-weaker}
use Rattle.join_tests.specs.declared.joins.Join.{Join}
use Rattle.join_tests.specs.Joining.{joins}
use Rattle.match_network.specs.Conditions.{IsGiven, IsGivenPart, joins_of}
use Rattle.match_network.specs.Levels.{HaveCome, OnlyAdds}
use Rattle.match_network.specs.Row.{Joins, elements_of, extends, some_passes}
use Rattle.match_network.specs.Woven.{Levels, grown, joined, made, offered, with_place, woven}
use Rattle.match_network.proofs.ComeLemmas.{grown-come, made-come, slice_get-past}
use Rattle.match_network.proofs.GivenLemmas.{Each-first, grown-widths, joined-widths}
use Rattle.match_network.proofs.RowLemmas.{has_number-push}

-- all rows that a place makes have it
or_last : (a : Bool) → (a || true) ≡ true
or_last true = refl
or_last false = refl

joined-has : (js : Joins) (came : List Element) (places : List ℕ) (place : ℕ) (rows : List (List ℕ)) → AllByRecursion (λ row. has_number row place ≡ true) (map (with_place place) (joined js came places place rows))
joined-has js came places place rows =
    Each-map (λ row. has_number row place ≡ true) (with_place place) (joined js came places place rows)
    (Each-always (λ row. has_number (row ++ place ∷ []) place ≡ true)
    (λ row. has_number-push row place place ∙ ap (λ b. has_number row place || b) (eq-eqb place place refl) ∙ or_last (has_number row place)) (joined js came places place rows))

grown-has : (js : Joins) (came : List Element) (places : List ℕ) (place : ℕ) (rows : List (List ℕ)) → AllByRecursion (λ row. has_number row place ≡ true) rows → AllByRecursion (λ row. has_number row place ≡ true) (grown js came places rows)
grown-has js came places place rows have =
    Each-flat_map (λ row. has_number row place ≡ true) (λ row. map (λ p. with_place p row) (offered js came places row)) rows
    (Each-weaker (λ row. has_number row place ≡ true) (λ row. AllByRecursion (λ r. has_number r place ≡ true) (map (λ p. with_place p row) (offered js came places row)))
    (λ row has. Each-map (λ r. has_number r place ≡ true) (λ p. with_place p row) (offered js came places row)
    (Each-always (λ p. has_number (row ++ p ∷ []) place ≡ true) (λ p. has_number-push row p place ∙ ap (λ b. b || (p == place)) has) (offered js came places row)))
    rows have)

made-has : (js : Joins) (came : List Element) (places : List ℕ) (place : ℕ) (rows : List (List ℕ)) (further : ℕ) → AllByRecursion (λ row. has_number row place ≡ true) (made js came places place rows further)
made-has js came places place rows zero = joined-has js came places place rows
made-has js came places place rows (suc further) = grown-has js came places place (made js came places place rows further) (made-has js came places place rows further)

-- no rows go on past the last condition element
filter-none : {X : Type 0} (f : X → Bool) → ((x : X) → f x ≡ false) → (xs : List X) → filter f xs ≡ []
filter-none f none [] = refl
filter-none f none (x ∷ xs) = ap (λ b. cond b (x ∷ filter f xs) (filter f xs)) (none x) ∙ filter-none f none xs

never_passes : (found : Option Element) → some_passes (λ e. false) found ≡ false
never_passes None = refl
never_passes (Some e) = refl

past_last : (all : List Join) (came : List Element) (row : List ℕ) (place : ℕ) → length all ≤ length row → extends (joins_of all) came row place ≡ false
past_last all came row place past =
    ap (λ o. some_passes (λ e. option_map_or (λ j. joins j (elements_of came row) e) o false) (slice_get came place)) (slice_get-past all (length row) past)
    ∙ never_passes (slice_get came place)

grown-past : (all : List Join) (came : List Element) (places : List ℕ) (rows : List (List ℕ)) → AllByRecursion (λ row. length all ≤ length row) rows → grown (joins_of all) came places rows ≡ []
grown-past all came places [] past = refl
grown-past all came places (row ∷ rows) past =
    flat_map-cons (λ r. map (λ p. with_place p r) (offered (joins_of all) came places r)) row rows
    ∙ ap (λ ps. map (λ p. with_place p row) (reverse ps) ++ grown (joins_of all) came places rows) (filter-none (extends (joins_of all) came row) (λ p. past_last all came row p past.0) places)
    ∙ grown-past all came places rows past.1

made-widths : (js : Joins) (came : List Element) (places : List ℕ) (place at : ℕ) (rows : List (List ℕ)) → AllByRecursion (λ row. length row ≡ at) rows → (further : ℕ) → AllByRecursion (λ row. length row ≡ at + further + 1) (made js came places place rows further)
made-widths js came places place at rows widths zero =
    subst (λ n. AllByRecursion (λ row. length row ≡ n) (map (with_place place) (joined js came places place rows))) (let same : at + 1 ≡ at + 0 + 1 = omega arith in same) (joined-widths js came places place at rows widths)
made-widths js came places place at rows widths (suc further) =
    subst (λ n. AllByRecursion (λ row. length row ≡ n) (grown js came places (made js came places place rows further))) (let same : (at + further + 1) + 1 ≡ at + suc further + 1 = omega arith in same)
    (grown-widths js came places (at + further + 1) (made js came places place rows further) (made-widths js came places place at rows widths further))

made-past : (all : List Join) (came : List Element) (places : List ℕ) (place at : ℕ) (rows : List (List ℕ)) → AllByRecursion (λ row. length row ≡ at) rows → (further : ℕ) → at < length all → length all ≤ at + further → made (joins_of all) came places place rows further ≡ []
made-past all came places place at rows widths zero lt le = absurd (omega (arith, lt, le))
made-past all came places place at rows widths (suc further) lt le =
    grown-past all came places (made (joins_of all) came places place rows further)
    (Each-weaker (λ row. length row ≡ at + further + 1) (λ row. length all ≤ length row) (λ row long. omega (arith, long, le)) (made (joins_of all) came places place rows further) (made-widths (joins_of all) came places place at rows widths further))

-- what weaving makes of one width
woven_before : (js : Joins) (came : List Element) (places : List ℕ) (place at : ℕ) (levels : Levels) (width : ℕ) → width ≤ at → woven js came places place at levels width ≡ levels width
woven_before js came places place at levels width le =
    ap (λ b. cond b (levels width) (levels width ++ made js came places place (levels at) (width - (at + 1)))) (le-leb width at le)

woven_past : (js : Joins) (came : List Element) (places : List ℕ) (place at : ℕ) (levels : Levels) (width : ℕ) → at < width → woven js came places place at levels width ≡ levels width ++ made js came places place (levels at) (width - (at + 1))
woven_past js came places place at levels width lt =
    ap (λ b. cond b (levels width) (levels width ++ made js came places place (levels at) (width - (at + 1)))) (lt-leb width at lt)

-- all levels up to a width are as weaving makes them, and the others as they were
pub record IsOnWay (js : Joins) (came : List Element) (places : List ℕ) (place : ℕ) (at : ℕ) (old : Levels) (now : Levels) (number : ℕ) (first : ℕ) : Type 0 where
  pub done : (width : ℕ) → width ≤ number → now width ≡ woven js came places place at old width
  pub left : (width : ℕ) → number < width → now width ≡ old width
  pub last : drop first (now number) ≡ made js came places place (old at) (number - (at + 1))
  pub first_within : first ≤ length (now number)
  pub past : at < number

last_of_given : (width first : ℕ) (old new : Levels) (rows : List (List ℕ)) → IsGiven width old new rows → first ≡ length (old width) → drop first (new width) ≡ rows
last_of_given width first old new rows is long = ap (drop first) is.given ∙ drop_at (old width) rows first (sym long)

within_given : (width first : ℕ) (old new : Levels) (rows : List (List ℕ)) → IsGiven width old new rows → first ≡ length (old width) → first ≤ length (new width)
within_given width first old new rows is long = omega (arith, long, ap length is.given, length-append (old width) rows)

pub way_begins : (js : Joins) (came : List Element) (places : List ℕ) (place at : ℕ) (old now : Levels) (first : ℕ) → IsGiven (at + 1) old now (made js came places place (old at) 0) → first ≡ length (old (at + 1)) → IsOnWay js came places place at old now (at + 1) first
way_begins js came places place at old now first is long = record {
  done = λ width le. elim (cases_eq width (at + 1)) [
    | inl same ↦
        subst (λ w. now w ≡ woven js came places place at old w) (sym same)
        (is.given ∙ ap (λ k. old (at + 1) ++ made js came places place (old at) k) (let none : 0 ≡ (at + 1) - (at + 1) = omega arith in none) ∙ sym (woven_past js came places place at old (at + 1) (omega arith)))
    | inr apart ↦ is.others width (ne_eqb width (at + 1) apart) ∙ sym (woven_before js came places place at old width (omega (arith, le, apart)))
  ];
  left = λ width lt. is.others width (ne_eqb width (at + 1) (λ same. omega (arith, same, lt)));
  last = last_of_given (at + 1) first old now (made js came places place (old at) 0) is long ∙ ap (made js came places place (old at)) (let none : 0 ≡ (at + 1) - (at + 1) = omega arith in none);
  first_within = within_given (at + 1) first old now (made js came places place (old at) 0) is long;
  past = omega arith;
}

pub way_goes_on : (js : Joins) (came : List Element) (places : List ℕ) (place at : ℕ) (old now new : Levels) (number first next : ℕ) → IsOnWay js came places place at old now number first → IsGiven (number + 1) now new (grown js came places (drop first (now number))) → next ≡ length (now (number + 1)) → IsOnWay js came places place at old new (number + 1) next
way_goes_on js came places place at old now new number first next way is long =
    let further : number + 1 - (at + 1) ≡ suc (number - (at + 1)) = omega (arith, way.past) in
    let rows : grown js came places (drop first (now number)) ≡ made js came places place (old at) (number + 1 - (at + 1)) =
    ap (grown js came places) way.last ∙ ap (made js came places place (old at)) (sym further) in
    record {
      done = λ width le. elim (cases_eq width (number + 1)) [
        | inl same ↦
            subst (λ w. new w ≡ woven js came places place at old w) (sym same)
            (is.given ∙ ap (λ rs. rs ++ grown js came places (drop first (now number))) (way.left (number + 1) (omega arith)) ∙ ap (λ rs. old (number + 1) ++ rs) rows ∙ sym (woven_past js came places place at old (number + 1) (omega (arith, way.past))))
        | inr apart ↦ is.others width (ne_eqb width (number + 1) apart) ∙ way.done width (omega (arith, le, apart))
      ];
      left = λ width lt. is.others width (ne_eqb width (number + 1) (λ same. omega (arith, same, lt))) ∙ way.left width (omega (arith, lt));
      last = last_of_given (number + 1) next now new (grown js came places (drop first (now number))) is long ∙ rows;
      first_within = within_given (number + 1) next now new (grown js came places (drop first (now number))) is long;
      past = omega (arith, way.past);
    }

pub way_ends : (all : List Join) (came : List Element) (places : List ℕ) (place at : ℕ) (old now : Levels) (number first : ℕ) → AllByRecursion (λ row. length row ≡ at) (old at) → IsOnWay (joins_of all) came places place at old now number first → at < length all → length all ≤ number → (width : ℕ) → now width ≡ woven (joins_of all) came places place at old width
way_ends all came places place at old now number first widths way lt le width = elim (cases_lt number width) [
  | inl past ↦
      way.left width past ∙ sym (append-nil (old width))
      ∙ ap (λ rs. old width ++ rs) (sym (made-past all came places place at (old at) widths (width - (at + 1)) lt (omega (arith, past, le, way.past))))
      ∙ sym (woven_past (joins_of all) came places place at old width (omega (arith, past, way.past)))
  | inr within ↦ way.done width within
]

-- where it stopped, there are more rows at most, each with the place
abbrev IsOf : List Element → ℕ → List ℕ → Type 0
IsOf came place row = HaveCome came row × (has_number row place ≡ true)

are_of : (came : List Element) (place : ℕ) (rows : List (List ℕ)) → AllByRecursion (HaveCome came) rows → AllByRecursion (λ row. has_number row place ≡ true) rows → AllByRecursion (IsOf came place) rows
are_of came place rows come have = Each-both (HaveCome came) (λ row. has_number row place ≡ true) (IsOf came place) (λ row a b. (a, b)) rows come have

record More (came : List Element) (place : ℕ) (before : List (List ℕ)) (after : List (List ℕ)) : Type 0 where
  more : List (List ℕ)
  is : after ≡ before ++ more
  each : AllByRecursion (IsOf came place) more

no_more : (came : List Element) (place : ℕ) (before after : List (List ℕ)) → after ≡ before → More came place before after
no_more came place before after is = record { more = []; is = is ∙ sym (append-nil before); each = tt }

pub stopped_at_once : (js : Joins) (came : List Element) (places : List ℕ) (place at : ℕ) (old new : Levels) → place < length came → AllByRecursion (λ p. p < length came) places → AllByRecursion (HaveCome came) (old at) → IsGivenPart (at + 1) old new (made js came places place (old at) 0) → OnlyAdds came place old new
stopped_at_once js came places place at old new lt below come part width =
    let found : More came place (old width) (new width) = elim (cases_eq width (at + 1)) [
      | inl same ↦
          subst (λ w. More came place (old w) (new w)) (sym same)
          (record {
            more = part.0;
            is = part.3.given;
            each = are_of came place part.0
                (Each-first (HaveCome came) part.0 part.1 (subst (AllByRecursion (HaveCome came)) part.2 (made-come js came places place (old at) below lt come 0)))
                (Each-first (λ row. has_number row place ≡ true) part.0 part.1 (subst (AllByRecursion (λ row. has_number row place ≡ true)) part.2 (made-has js came places place (old at) 0)));
          })
      | inr apart ↦ no_more came place (old width) (new width) (part.3.others width (ne_eqb width (at + 1) apart))
    ] in
    (found.more, found.is, found.each)

so_far_more : (js : Joins) (came : List Element) (places : List ℕ) (place at : ℕ) (old now : Levels) (number first : ℕ) → place < length came → AllByRecursion (λ p. p < length came) places → AllByRecursion (HaveCome came) (old at) → IsOnWay js came places place at old now number first → (width : ℕ) → width ≤ number → More came place (old width) (now width)
so_far_more js came places place at old now number first lt below come way width le = elim (cases_lt at width) [
  | inl past ↦
      record {
        more = made js came places place (old at) (width - (at + 1));
        is = way.done width le ∙ woven_past js came places place at old width past;
        each = are_of came place (made js came places place (old at) (width - (at + 1))) (made-come js came places place (old at) below lt come (width - (at + 1))) (made-has js came places place (old at) (width - (at + 1)));
      }
  | inr before ↦ no_more came place (old width) (now width) (way.done width le ∙ woven_before js came places place at old width before)
]

pub stopped_later : (js : Joins) (came : List Element) (places : List ℕ) (place at : ℕ) (old now new : Levels) (number first : ℕ) → place < length came → AllByRecursion (λ p. p < length came) places → AllByRecursion (HaveCome came) (old at) → IsOnWay js came places place at old now number first → IsGivenPart (number + 1) now new (grown js came places (drop first (now number))) → OnlyAdds came place old new
stopped_later js came places place at old now new number first lt below come way part width =
    let last_have : AllByRecursion (λ row. has_number row place ≡ true) (drop first (now number)) = subst (AllByRecursion (λ row. has_number row place ≡ true)) (sym way.last) (made-has js came places place (old at) (number - (at + 1))) in
    let last_come : AllByRecursion (HaveCome came) (drop first (now number)) = subst (AllByRecursion (HaveCome came)) (sym way.last) (made-come js came places place (old at) below lt come (number - (at + 1))) in
    let found : More came place (old width) (new width) = elim (cases_eq width (number + 1)) [
      | inl same ↦
          subst (λ w. More came place (old w) (new w)) (sym same)
          (record {
            more = part.0;
            is = part.3.given ∙ ap (λ rs. rs ++ part.0) (way.left (number + 1) (omega arith));
            each = are_of came place part.0
                (Each-first (HaveCome came) part.0 part.1 (subst (AllByRecursion (HaveCome came)) part.2 (grown-come js came places (drop first (now number)) below last_come)))
                (Each-first (λ row. has_number row place ≡ true) part.0 part.1 (subst (AllByRecursion (λ row. has_number row place ≡ true)) part.2 (grown-has js came places place (drop first (now number)) last_have)));
          })
      | inr apart ↦ (
          let here : new width ≡ now width = part.3.others width (ne_eqb width (number + 1) apart) in
          elim (cases_lt number width) [
            | inl past ↦ no_more came place (old width) (new width) (here ∙ way.left width past)
            | inr within ↦ subst (More came place (old width)) (sym here) (so_far_more js came places place at old now number first lt below come way width within)
          ])
    ] in
    (found.more, found.is, found.each)

pub way_adds : (all : List Join) (came : List Element) (places : List ℕ) (place at : ℕ) (old now : Levels) (number first : ℕ) → place < length came → AllByRecursion (λ p. p < length came) places → AllByRecursion (HaveCome came) (old at) → IsOnWay (joins_of all) came places place at old now number first → OnlyAdds came place old now
way_adds all came places place at old now number first lt below come way width =
    let found : More came place (old width) (now width) = elim (cases_lt number width) [
      | inl past ↦ no_more came place (old width) (now width) (way.left width past)
      | inr within ↦ so_far_more (joins_of all) came places place at old now number first lt below come way width within
    ] in
    (found.more, found.is, found.each)
