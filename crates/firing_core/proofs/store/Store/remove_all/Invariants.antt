-- What has the tags so far has gone.
use Rattle.std.proofs.Common.{◌≡◌, ◌+◌, ◌*◌, ◌≤◌, take}
use Rattle.rule_base.specs.Step.{without}
use Rattle.firing_core.specs.Store.{IsSameBesideMemory, memory_in}
use Rattle.firing_core.proofs.store.Store.remove_all.Given as goal

abbrev pub invariant-loop-tag : goal.invariant-loop-tag
invariant-loop-tag g l = record {
  memory : memory_in l.self ≡ without (memory_in l.fn.self) (take l.tag-index l.gone);
  others : IsSameBesideMemory l.fn.self l.self;
  spare : l.fn.self.spare ≤ l.self.spare;
  steps : l.steps ≤ l.fn.steps + 2 * l.tag-index;
}
