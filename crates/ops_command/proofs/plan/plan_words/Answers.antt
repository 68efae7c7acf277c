-- A refusal's plan has the status that is refused with.
use Rattle.std.proofs.Common.{sym, ap, subst}
use Rattle.ops_command.specs.Account.{Account}
use Rattle.ops_command.specs.FileBytes.{HidesNoReadFault}
use Rattle.ops_command.proofs.ResultLemmas.{IfOk-map}
use Rattle.ops_command.proofs.plan.plan_words.Goals as goal

pub returns-in-Err-clause-counted : goal.returns-in-Err-clause-counted
returns-in-Err-clause-counted g c =
    let shelf = g.F.Shelf in
    IfOk-map (λ plan same. subst (HidesNoReadFault (shelf.faults c.args.shelf.now) (shelf.faults c.run_words.new.shelf)) (sym (ap (λ (a : Account). a.status) same)) c.in-Err.ensures.counted)
    c.refusal.result c.refusal.ensures
