-- What is done is written, and what is left ends the loop.
use Rattle.std.proofs.Common.{◌≡◌, ◌-◌, ◌≤◌, length, take}
use Rattle.ops_text.specs.Output.{Extends}
use Rattle.ops_text.proofs.sink.write_all.Given as goal

abbrev pub invariant-loop-done : goal.invariant-loop-done
invariant-loop-done g l =
    let told = g.K.Sink.told in
    let faults = g.K.Sink.faults in
    record {
      within : l.done ≤ length l.bytes;
      written : Extends (told l.initial.sink) (told l.sink) (take l.done l.bytes);
      later : faults l.initial.sink ≤ faults l.sink;
      counted : faults l.sink ≡ faults l.initial.sink;
    }

abbrev pub decreases-loop-done : goal.decreases-loop-done
decreases-loop-done g l = length l.bytes - l.done
