-- What a call took comes after what was written before.
use Rattle.std.proofs.Common.{arith, ◌∙◌}
use Rattle.std.proofs.Math.Seq.{take-add}
use Rattle.std.proofs.lemmas.List.{take_rest}
use Rattle.ops_text.proofs.OutputLemmas.{Extends-append}
use Rattle.ops_text.proofs.sink.write_all.Goals as goal

pub loop-done-preserved : goal.loop-done-preserved
loop-done-preserved g c = record {
  within = omega (arith, c.in-Ok.ensures.within);
  written = rw (take-add c.loop-done.done c.in-Ok.taken c.args.bytes.now, ← take_rest c.args.bytes.now c.loop-done.done)
      (Extends-append _ _ _ _ _ c.loop-done.invariant.written c.in-Ok.ensures.ok);
  later = omega (arith, c.in-Ok.ensures.later);
  counted = c.in-Ok.ensures.passed ∙ c.loop-done.invariant.counted;
}
