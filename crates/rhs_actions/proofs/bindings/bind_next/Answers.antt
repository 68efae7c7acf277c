-- The condition element accepts the next element.
use Rattle.std.proofs.Common.{◌≡◌, Some, ap, ◌∙◌, rules}
use Rattle.rule_base.specs.Views.{element_in}
use Rattle.rule_base.specs.Acceptance.{after_tests}
use Rattle.rhs_actions.proofs.BindingLemmas.{after_next, holds_next}
use Rattle.rhs_actions.proofs.bindings.bind_next.Goals as goal

pub bind_tests-requires : goal.bind_tests-requires
bind_tests-requires c =
    let cond = c.args.cond.now in
    rw c.as_slice.ensures
    (holds_next cond c.args.elements.now c.args.next (element_in c.at.result) c.args.binds.now c.if-cond.false c.at.ensures c.requires)

pub returns : goal.returns
returns c =
    let cond = c.args.cond.now in
    let is : after_tests cond.tests c.args.binds.now c.at.result.values.now ≡ Some c.bind_tests.new.binds = ap (λ tests. after_tests tests c.args.binds.now c.at.result.values.now) (search rules) ∙ c.bind_tests.ensures in
    after_next cond c.args.elements.now c.args.next (element_in c.at.result) c.args.binds.now c.bind_tests.new.binds c.if-cond.false c.at.ensures c.requires is
