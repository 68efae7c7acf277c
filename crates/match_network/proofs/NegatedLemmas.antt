-- Who serves negated condition elements, as rules and elements come and go.
use Rattle.std.proofs.Common.{◌≡◌, inl, inr, ℕ, ◌+◌, ◌<◌, ◌≤◌, List, [], ◌∷◌, ◌++◌, Bool, true, filter, length, Some, refl, ap, subst, sym, ◌∙◌, arith, slice_get, length-append}
use Rattle.std.specs.List.{AllByRecursion}
use Rattle.std.proofs.lemmas.Bool.{cases_eq}
use Rattle.rule_base.specs.declared.element.Element.{Element}
use Rattle.join_tests.specs.declared.joins.Join.{Join}
use Rattle.join_tests.specs.declared.joins.Joins.{Joins}
use Rattle.join_tests.specs.declared.joins.Negated.{Negated}
use Rattle.alpha_memory.specs.Stores.{Serves, Store, without_entries}
use Rattle.match_network.specs.Conditions.{IsServed, entries_at}
use Rattle.match_network.specs.Filed.{IsStore}
use Rattle.match_network.specs.Negated.{AreNegatedAsked, AreNegatedServed, AreNegatedStores, negated_in}
use Rattle.match_network.specs.Network.{joins_in}
use Rattle.match_network.specs.Rules.{AreBare, GoesOn, RuleRows}
use Rattle.match_network.proofs.ComeLemmas.{slice_get-more}
use Rattle.match_network.proofs.FilingLemmas.{stores_meet_removals}
use Rattle.match_network.proofs.GivenLemmas.{within-is}
use Rattle.match_network.proofs.RuleLemmas.{bare_at, last_at}

-- the first negated condition elements have asked for their stores
pub record AreNegatedAskedTo (all : List Negated) (count : ℕ) (alpha : List Store) (numbers : List ℕ) : Type 0 where
  pub long : length numbers ≡ count
  pub each : (at : ℕ) (n : Negated) → at < count → slice_get all at ≡ Some n → (number : ℕ) × (slice_get numbers at ≡ Some number) × Serves (without_entries n.join.pattern n.join.key true) alpha number

pub AreNegatedAskedTo-none : (all : List Negated) (alpha : List Store) → AreNegatedAskedTo all 0 alpha []
AreNegatedAskedTo-none all alpha = record { long = refl; each = λ at n lt there. absurd (omega (arith, lt)) }

pub AreNegatedAskedTo-more : (all : List Negated) (count : ℕ) (old new : List Store) (numbers more : List ℕ) (this : Negated) (number : ℕ) → slice_get all count ≡ Some this → GoesOn old new → Serves (without_entries this.join.pattern this.join.key true) new number → more ≡ numbers ++ number ∷ [] → AreNegatedAskedTo all count old numbers → AreNegatedAskedTo all (count + 1) new more
AreNegatedAskedTo-more all count old new numbers more this number there_now goes_on serves is held = record {
  long = ap length is ∙ length-append numbers (number ∷ []) ∙ ap (λ n. n + 1) held.long;
  each = λ at n lt there. elim (cases_eq at count) [
    | inl same ↦
        let found : Some n ≡ Some this = sym there ∙ ap (slice_get all) same ∙ there_now in
        let this_is : this ≡ n = cc in
        let served : Serves (without_entries n.join.pattern n.join.key true) new number =
        subst (λ (m : Negated). Serves (without_entries m.join.pattern m.join.key true) new number) this_is serves in
        (number, ap (λ ns. slice_get ns at) is ∙ ap (slice_get (numbers ++ number ∷ [])) (same ∙ sym held.long) ∙ last_at numbers number, served)
    | inr apart ↦
        let less : at < count = omega (arith, lt, apart) in
        let found = held.each at n less there in (
          found.0,
          ap (λ ns. slice_get ns at) is ∙ slice_get-more numbers at (number ∷ []) (let within : at < length numbers = omega (arith, less, held.long) in within) ∙ found.1,
          goes_on.serves (without_entries n.join.pattern n.join.key true) found.0 found.2,
        )
  ];
}

pub AreNegatedAskedTo-all : (all : List Negated) (count : ℕ) (alpha : List Store) (numbers : List ℕ) → length all ≤ count → AreNegatedAskedTo all count alpha numbers → AreNegatedAsked all alpha numbers
AreNegatedAskedTo-all all count alpha numbers le held at n there = held.each at n (let lt : at < count = omega (arith, le, within-is all at n there) in lt) there

-- bare stores serve while no element is there
bare_served : (join : Join) (alpha : List Store) (number : ℕ) → AreBare alpha → Serves (without_entries join.pattern join.key true) alpha number → IsServed join true [] [] alpha number
bare_served join alpha number bare serves =
    let empty : IsStore join [] [] [] = record { living = refl; have_come = tt } in
    record { serves = serves; has = λ kept. subst (IsStore join [] []) (sym (bare_at alpha number bare)) empty }

pub bare_negated : (all : List Negated) (alpha : List Store) (numbers : List ℕ) → AreBare alpha → AreNegatedAsked all alpha numbers → AreNegatedStores all [] [] numbers alpha
bare_negated all alpha numbers bare asked at n there =
    let found = asked at n there in
    (found.0, found.1, bare_served n.join alpha found.0 bare found.2)

-- and go on so as other stores come
pub negated_goes_on : (old new : List Store) (rule : RuleRows) → GoesOn old new → AreBare new → AreNegatedServed [] [] old rule → AreNegatedServed [] [] new rule
negated_goes_on old new rule goes_on bare held = record {
  each = λ at n there.
      let found = held.each at n there in
      (found.0, found.1, bare_served n.join new found.0 bare (goes_on.serves (without_entries n.join.pattern n.join.key true) found.0 found.2.serves));
}

-- where stores go on to serve, they serve the same rules
negated_one : (came came' : List Element) (places places' : List ℕ) (alpha alpha' : List Store) (before after : RuleRows) → after.joins ≡ before.joins → after.negated ≡ before.negated → ((join : Join) (number : ℕ) → IsServed join true came places alpha number → IsServed join true came' places' alpha' number) → AreNegatedServed came places alpha before → AreNegatedServed came' places' alpha' after
negated_one came came' places places' alpha alpha' before after joins_are negated_are over held = record {
  each = λ at n there.
      let found = held.each at n (ap (λ (j : Joins). slice_get j.negated at) (sym joins_are) ∙ there) in
      (found.0, ap (λ (ns : List ℕ). slice_get ns at) negated_are ∙ found.1, over n.join found.0 found.2);
}

first_is : {X : Type 0} (x y : X) (xs ys : List X) → x ∷ xs ≡ y ∷ ys → x ≡ y
first_is x y xs ys same = cc

rest_is : {X : Type 0} (x y : X) (xs ys : List X) → x ∷ xs ≡ y ∷ ys → xs ≡ ys
rest_is x y xs ys same = cc

pub negated_over : (came came' : List Element) (places places' : List ℕ) (alpha alpha' : List Store) (old new : List RuleRows) → joins_in new ≡ joins_in old → negated_in new ≡ negated_in old → ((join : Join) (number : ℕ) → IsServed join true came places alpha number → IsServed join true came' places' alpha' number) → AllByRecursion (AreNegatedServed came places alpha) old → AllByRecursion (AreNegatedServed came' places' alpha') new
negated_over came came' places places' alpha alpha' [] [] joins_are negated_are over held = tt
negated_over came came' places places' alpha alpha' [] (after ∷ new) joins_are negated_are over held = absurd (let wrong : ⊥ = cc in wrong)
negated_over came came' places places' alpha alpha' (before ∷ old) [] joins_are negated_are over held = tt
negated_over came came' places places' alpha alpha' (before ∷ old) (after ∷ new) joins_are negated_are over held = (
  negated_one came came' places places' alpha alpha' before after
      (first_is after.joins before.joins (joins_in new) (joins_in old) joins_are)
      (first_is after.negated before.negated (negated_in new) (negated_in old) negated_are) over held.0,
  negated_over came came' places places' alpha alpha' old new
      (rest_is after.joins before.joins (joins_in new) (joins_in old) joins_are)
      (rest_is after.negated before.negated (negated_in new) (negated_in old) negated_are) over held.1,
)

-- elements go
pub IsServed-without : (join : Join) (kept : Bool) (came : List Element) (places : List ℕ) (keep : ℕ → Bool) (alpha : List Store) (number : ℕ) → IsServed join kept came places alpha number → IsServed join kept came (filter keep places) alpha number
IsServed-without join kept came places keep alpha number held = record {
  serves = held.serves;
  has = λ is. stores_meet_removals join came places keep (entries_at alpha number) (held.has is);
}
