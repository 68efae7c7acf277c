-- One store more has changed.
use Rattle.rule_base.specs.Views.{element_in}
use Rattle.alpha_memory.specs.Stores.{with_place}
use Rattle.alpha_memory.proofs.ChangeLemmas.{further, pattern-with_place}
use Rattle.alpha_memory.proofs.filing.file_in_all.Goals as goal

pub loop-number-preserved : goal.loop-number-preserved
loop-number-preserved c =
    let place = c.args.place in
    let e = element_in c.args.element in
    let all = further (with_place place e) c.args.numbers.now c.loop-number.number-index c.args.stores.now c.loop-number.stores c.file_in.new.stores (pattern-with_place place e) c.loop-number-test.true c.loop-number.invariant.so_far c.loop-number.invariant.patterns c.in_ok-file_in.ensures.ok in
    record { so_far = all.so_far; patterns = all.patterns }
