-- An element comes: those in whose way it stands are of rules that were due, and marks end.
use Rattle.std.proofs.Common.{◌≡◌, inl, inr, ℕ, ◌==◌, ◌&&◌, List, [], ◌∷◌, Bool, true, false, Option, None, Some, length, slice_get, take, zero, suc, refl, ap, arith, sym, ◌∙◌}
use Rattle.std.specs.List.{list_any}
use Rattle.std.specs.Option.{option_map_or}
use Rattle.std.proofs.lemmas.Bool.{and_parts, or_cases, or_left, or_right}
use Rattle.rule_base.specs.declared.base.Refraction.{Refraction}
use Rattle.rule_base.specs.declared.element.Element.{Element}
use Rattle.join_tests.specs.declared.joins.Negated.{Negated}
use Rattle.join_tests.specs.Joining.{joins, passes, same_key, tests_hold}
use Rattle.join_tests.proofs.ReadingLemmas.{slice_get-last}
use Rattle.match_network.specs.declared.askers.Asker.{Asker}
use Rattle.match_network.specs.Arrivals.{Arrivals, with_arrival}
use Rattle.match_network.specs.Negated.{blocks, blocks_at}
use Rattle.match_network.specs.Network.{Network}
use Rattle.match_network.specs.Row.{elements_of, some_passes}
use Rattle.match_network.specs.Rules.{RuleRows, is_asker}
use Rattle.match_network.specs.Touched.{AreNegatedDue, is_of}
use Rattle.conflict_parts.specs.declared.standing.RowId.{RowId}
use Rattle.conflict_parts.specs.declared.standing.Standing.{Standing}
use Rattle.conflict_parts.specs.declared.standing.Standing.TheVariants.{Open, Waiting}
use Rattle.conflict_parts.specs.Part.{IsPart}
use Rattle.conflict_parts.specs.Renewing.{AreDue, IsRenewed}
use Rattle.conflict_parts.specs.Standings.{standing_at}

-- where one of them passes a test there is its number
record PassesAt {X : Type 0} (test : X → Bool) (xs : List X) : Type 0 where
  pub at : ℕ
  pub item : X
  pub is : slice_get xs at ≡ Some item
  pub so : test item ≡ true

passes_at : {X : Type 0} (test : X → Bool) (xs : List X) → list_any test xs ≡ true → PassesAt test xs
passes_at test [] any = absurd (let wrong : ⊥ = cc in wrong)
passes_at test (x ∷ xs) any =
    elim (or_cases (test x) (list_any test xs) any) [
      | inl here ↦ record { at = zero; item = x; is = refl; so = here }
      | inr later ↦ let found = passes_at test xs later in record { at = suc found.at; item = found.item; is = found.is; so = found.so }
    ]

-- a condition element's asker is one of its rule
of_rule : (rule condition : ℕ) (due : List Asker) → list_any (is_asker rule condition) due ≡ true → list_any (is_of rule) due ≡ true
of_rule rule condition [] any = any
of_rule rule condition (asker ∷ due) any =
    elim (or_cases (is_asker rule condition asker) (list_any (is_asker rule condition) due) any) [
      | inl here ↦ or_left (is_of rule asker) (list_any (is_of rule) due) (and_parts (asker.rule == rule) (asker.condition == condition) here).0
      | inr later ↦ or_right (is_of rule asker) (list_any (is_of rule) due) (of_rule rule condition due later)
    ]

-- an element that stands in a row's way at a negated condition element passes its pattern
passes_there : (n : Negated) (came : List Element) (row : List ℕ) (place : ℕ) (e : Element) → slice_get came place ≡ Some e → blocks_at n came row place ≡ true → passes n.join.pattern e ≡ true
passes_there n came row place e at blocked =
    let es = take n.after (elements_of came row) in
    let joined : joins n.join es e ≡ true = ap (some_passes (joins n.join es)) (sym at) ∙ blocked in
    (and_parts (passes n.join.pattern e) (same_key n.join.key es e) (and_parts (passes n.join.pattern e && same_key n.join.key es e) (tests_hold n.join.tests es e) joined).0).0

due_step : (network : Network) (e : Element) (place rule : ℕ) (row : List ℕ) (found : Option RuleRows) → slice_get network.rules rule ≡ found → slice_get network.arrivals.came place ≡ Some e → AreNegatedDue e network.rules network.negated_due →
    option_map_or (λ (kept : RuleRows). blocks kept.joins network.arrivals.came row place) found false ≡ true → list_any (is_of rule) network.negated_due ≡ true
due_step network e place rule row None rule_is at due blocked = absurd (let wrong : ⊥ = cc in wrong)
due_step network e place rule row (Some kept) rule_is at due blocked =
    let found = passes_at (λ (n : Negated). blocks_at n network.arrivals.came row place) kept.joins.negated blocked in
    of_rule rule found.at network.negated_due (due.each rule kept found.at found.item rule_is found.is (passes_there found.item network.arrivals.came row place e at found.so))

pub due_from : (network : Network) (old : Arrivals) (e : Element) (place : ℕ) → network.arrivals ≡ with_arrival old e → place ≡ length old.came → AreNegatedDue e network.rules network.negated_due → AreDue network place
due_from network old e place came place_is due rule row blocked =
    let at : slice_get network.arrivals.came place ≡ Some e =
    ap (slice_get network.arrivals.came) place_is ∙ ap (λ (a : Arrivals). slice_get a.came (length old.came)) came ∙ slice_get-last old.came e in
    due_step network e place rule row (slice_get network.rules rule) refl at due blocked

-- marks have ended
pub part_renewed : (refraction : Refraction) (network : Network) (place : ℕ) (old new : List (List Standing)) (before queue : List RowId) (waiters : List (ℕ × RowId)) → IsPart network old before waiters → IsRenewed refraction network place old before new queue → IsPart network new queue waiters
part_renewed refraction network place old new before queue waiters held renewed = record {
  count = renewed.count ∙ held.count;
  no_more = λ rule. omega (arith, held.no_more rule, renewed.lengths rule);
  covered = λ rule number row lives. omega (arith, held.covered rule number row lives, renewed.lengths rule);
  opened = λ rule number row lives at.
      elim (renewed.each rule number) [
        | inl same ↦ renewed.queued rule number (held.opened rule number row lives (sym same ∙ at))
        | inr now ↦ now.1
      ];
  blocked = λ rule number row waits lives at.
      elim (renewed.each rule number) [
        | inl same ↦ held.blocked rule number row waits lives (sym same ∙ at)
        | inr now ↦ absurd (clash rule number waits now.0 at)
      ];
  noted = λ rule number row waits lives at.
      elim (renewed.each rule number) [
        | inl same ↦ held.noted rule number row waits lives (sym same ∙ at)
        | inr now ↦ absurd (clash rule number waits now.0 at)
      ];
}
  where
    clash : (rule number waits : ℕ) → standing_at new rule number ≡ Some Open → standing_at new rule number ≡ Some (Waiting waits) → ⊥
    clash rule number waits stands at =
        let both : Some Open ≡ Some (Waiting waits) = sym stands ∙ at in
        cc
