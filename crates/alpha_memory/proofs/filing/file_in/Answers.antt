-- One store has changed, or there is none.
use Rattle.std.proofs.lemmas.Result.{on_ok_weaker}
use Rattle.rule_base.specs.Views.{element_in}
use Rattle.alpha_memory.specs.Stores.{with_place}
use Rattle.alpha_memory.proofs.ChangeLemmas.{changed_at, with_change-past}
use Rattle.alpha_memory.proofs.filing.file_in.Goals as goal

pub returns-then-number-stores-clause-ok : goal.returns-then-number-stores-clause-ok
returns-then-number-stores-clause-ok c = with_change-past (with_place c.args.place (element_in c.args.element)) c.args.number c.args.stores.now c.if-number-stores.true

pub returns-clause-ok : goal.returns-clause-ok
returns-clause-ok c =
    on_ok_weaker c.file.result
    (λ changed. changed_at (with_place c.args.place (element_in c.args.element)) c.args.number c.args.stores.now c.index-stores-number.result c.file.new.self changed c.if-number-stores.false)
    c.file.ensures.ok
