-- One tag more.
use Rattle.std.proofs.Common.{ap, ◌∙◌, arith, refl}
use Rattle.std.proofs.lemmas.List.{take_all}
use Rattle.rule_base.specs.Step.{without}
use Rattle.firing_core.specs.Store.{memory_in}
use Rattle.firing_core.proofs.StoredLemmas.{IsSame-next, without_next, without_nothing}
use Rattle.firing_core.proofs.store.Store.remove_all.Goals as goal

pub loop-tag-init : goal.loop-tag-init
loop-tag-init g c = record {
  memory = without_nothing (memory_in c.args.self.now);
  others = record { base = refl; entries = refl; next = refl; room = refl; fewer = λ place has. has };
  spare = omega arith;
  steps = omega arith;
}

pub loop-tag-preserved : goal.loop-tag-preserved
loop-tag-preserved g c =
    let start = c.args.self.now in
    let so_far = c.loop-tag.invariant in
    let one = c.remove.ensures in
    record {
      memory = one.memory ∙ without_next (memory_in start) (memory_in c.loop-tag.self) c.args.gone.now c.loop-tag.tag-index c.loop-tag-test.true so_far.memory;
      others = IsSame-next start c.loop-tag.self c.remove.new.self so_far.others one.others;
      spare = omega (arith, one.spare, so_far.spare);
      steps = omega (arith, one.steps, so_far.steps);
    }

pub returns-clause-memory : goal.returns-clause-memory
returns-clause-memory g c = c.loop-tag.invariant.memory ∙ ap (without (memory_in c.args.self.now)) (take_all c.loop-tag.tag-index c.args.gone.now c.loop-tag-test.false)

pub returns-clause-others : goal.returns-clause-others
returns-clause-others g c = c.loop-tag.invariant.others

pub returns-clause-spare : goal.returns-clause-spare
returns-clause-spare g c = c.loop-tag.invariant.spare

pub returns-clause-steps : goal.returns-clause-steps
returns-clause-steps g c = omega (arith, c.loop-tag-test.false, c.loop-tag.auto.tag-index-end, c.loop-tag.invariant.steps)
