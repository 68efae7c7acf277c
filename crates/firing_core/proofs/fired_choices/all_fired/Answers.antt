-- Of all that had fired at some time, in order and each once, those that are fired now are left.
use Rattle.std.proofs.Common.{◌≡◌, List, Bool, ap, subst, sym, true, ◌∙◌}
use Rattle.std.proofs.lemmas.List.Kept.{IsStrictlySortedBy-filter}
use Rattle.std.specs.List.{list_any}
use Rattle.rule_base.specs.declared.instantiation.Choice.{Choice}
use Rattle.rule_base.specs.State.{same_choice}
use Rattle.firing_core.specs.FiredChoices.{AreInOrder, choice_order, is_fired_now}
use Rattle.firing_core.specs.Store.{memory_in}
use Rattle.firing_core.proofs.FiredChoiceLemmas.{any_passing, had_fired}
use Rattle.firing_core.proofs.fired_choices.all_fired.Goals as goal

pub returns-clause-fired : goal.returns-clause-fired
returns-clause-fired c = λ (d : Choice).
    let program = c.args.program.now in
    let store = c.args.store.now in
    let ordered : List Choice = c.put_in_order.new.choices.items in
    let is_fired : Choice → Bool = is_fired_now program store.base (memory_in store) store.entries in
    let among : is_fired d ≡ true → list_any (same_choice d) ordered ≡ true = λ fired.
    c.put_in_order.ensures.same d ∙ ap (list_any (same_choice d)) c.in_ok-choices.ensures ∙ had_fired program store.base (memory_in store) store.entries d fired in
    ap (list_any (same_choice d)) (c.from_vec.ensures ∙ c.in_ok-fired.ensures.fired) ∙ any_passing d is_fired ordered among

pub returns-clause-order : goal.returns-clause-order
returns-clause-order c =
    let store = c.args.store.now in
    let is_fired : Choice → Bool = is_fired_now c.args.program.now store.base (memory_in store) store.entries in
    subst AreInOrder (sym (c.from_vec.ensures ∙ c.in_ok-fired.ensures.fired)) (IsStrictlySortedBy-filter choice_order is_fired c.put_in_order.new.choices.items c.put_in_order.ensures.order)
