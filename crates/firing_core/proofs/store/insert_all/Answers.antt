-- One place more.
use Rattle.std.proofs.Common.{◌≡◌, ◌++◌, append-nil, arith, sym, ap, ◌∙◌}
use Rattle.std.specs.List.{range_with_len}
use Rattle.firing_core.proofs.StoredLemmas.{places_next}
use Rattle.firing_core.proofs.store.insert_all.Goals as goal

pub loop-init : goal.loop-init
loop-init g c = record {
  places = sym (append-nil c.args.memory.now.places);
  came = omega arith;
  spare = omega arith;
  steps = omega arith;
}

pub insert-requires : goal.insert-requires
insert-requires g c = omega (arith, c.requires, c.loop.invariant.spare, c.loop-test.true)

pub loop-preserved : goal.loop-preserved
loop-preserved g c =
    let start = c.args.memory.now in
    let so_far = c.loop.invariant in
    let one = c.insert.ensures in
    record {
      places = one.places ∙ places_next start.places c.loop.memory.places start.came c.loop.memory.came c.loop.counter so_far.places so_far.came;
      came = omega (arith, one.came, so_far.came);
      spare = omega (arith, one.spare, so_far.spare);
      steps = omega (arith, one.steps, so_far.steps);
    }

pub returns-clause-places : goal.returns-clause-places
returns-clause-places g c =
    let start = c.args.memory.now in
    let all : c.loop.counter ≡ c.args.count = omega (arith, c.loop-test.false, c.loop.auto.counter-end) in
    c.loop.invariant.places ∙ ap (λ n. start.places ++ range_with_len start.came n) all

pub returns-clause-came : goal.returns-clause-came
returns-clause-came g c = omega (arith, c.loop-test.false, c.loop.auto.counter-end, c.loop.invariant.came)

pub returns-clause-spare : goal.returns-clause-spare
returns-clause-spare g c = omega (arith, c.loop-test.false, c.loop.auto.counter-end, c.loop.invariant.spare)

pub returns-clause-steps : goal.returns-clause-steps
returns-clause-steps g c = omega (arith, c.loop-test.false, c.loop.auto.counter-end, c.loop.invariant.steps)
