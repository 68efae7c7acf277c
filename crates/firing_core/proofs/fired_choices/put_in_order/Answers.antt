-- Sorting moves choices, and of neighbours that are the same one stays.
use Rattle.std.proofs.Common.{◌≡◌, rules, subst, sym, ◌∙◌, ap}
use Rattle.std.proofs.lemmas.Fn.{always_returns_same, dedup_same}
use Rattle.std.proofs.lemmas.List.Kept.{IsStrictlySortedBy-dedup}
use Rattle.std.proofs.lemmas.List.Sorted.{list_any-IsPermutation, ranks_by}
use Rattle.std.specs.List.{dedup, list_any}
use Rattle.std.specs.Ordering.{is_lt}
use Rattle.rule_base.specs.declared.instantiation.Choice.{Choice}
use Rattle.rule_base.specs.State.{same_choice}
use Rattle.firing_core.specs.FiredChoices.{AreInOrder, choice_order}
use Rattle.firing_core.proofs.FiredChoiceLemmas.{any_dedup, choice_order_total, same_choice-ties}
use Rattle.firing_core.proofs.fired_choices.put_in_order.Goals as goal

pub returns-clause-order : goal.returns-clause-order
returns-clause-order c =
    let left : c.dedup_by.new.self.items ≡ dedup same_choice c.sort_unstable_by.new.self.items = dedup_same _ same_choice _ (λ x y b f' x' y' k. search rules) _ _ c.dedup_by.ensures.filtered in
    let sorted = c.sort_unstable_by.ensures.sorted (λ x y. is_lt (choice_order x y)) (ranks_by choice_order_total (λ (x : Choice). x))
    (always_returns_same _ (λ a r. is_lt r ≡ is_lt (choice_order a.0.now a.1.0.now)) _ (λ a r f' k. search rules)) in
    subst AreInOrder (sym left) (IsStrictlySortedBy-dedup choice_order_total same_choice-ties _ sorted)

pub returns-clause-same : goal.returns-clause-same
returns-clause-same c = λ (d : Choice).
    let left : c.dedup_by.new.self.items ≡ dedup same_choice c.sort_unstable_by.new.self.items = dedup_same _ same_choice _ (λ x y b f' x' y' k. search rules) _ _ c.dedup_by.ensures.filtered in
    ap (list_any (same_choice d)) left
    ∙ any_dedup d c.sort_unstable_by.new.self.items
    ∙ sym (list_any-IsPermutation (same_choice d) _ _ c.sort_unstable_by.ensures.permutation)
