-- What is to be said was written whole.
use Rattle.std.proofs.Common.{ℕ, List, subst}
use Rattle.ops_text.specs.Output.{Extends}
use Rattle.ops_command.proofs.PromiseLemmas.{KeepsPromise-written}
use Rattle.ops_command.proofs.command.run_without_threads.Goals as goal

pub returns-in-Ok-write_all-clause-kept : goal.returns-in-Ok-write_all-clause-kept
returns-in-Ok-write_all-clause-kept g c =
    let written = subst (λ (text : List ℕ). Extends (g.K.Sink.told c.args.out.now) (g.K.Sink.told c.write_all.new.sink) text) c.as_slice.ensures.value c.in-Ok-write_all.ensures.ok in
    KeepsPromise-written _ c.in-Ok.plan.report c.in-Ok.plan.text.items c.in-Ok.ensures.said written c.in-Ok.ensures.counted c.in-Ok-write_all.ensures.no_fault
