-- What the condition element's tests bound is taken away.
use Rattle.std.proofs.Common.{◌∙◌, ap}
use Rattle.element_tests.specs.Unbinding.{unbound_by}
use Rattle.element_tests.proofs.PassLemmas.{Undoes-unbound_by}
use Rattle.element_tests.proofs.acceptance.unbind.Goals as goal

pub returns-clause-undone : goal.returns-clause-undone
returns-clause-undone c = λ before e may is.
    c.unbind_tests.ensures ∙ ap (unbound_by c.args.binds.now) c.as_slice.ensures ∙ Undoes-unbound_by c.args.cond.now c.args.binds.now before e may is
