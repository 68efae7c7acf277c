-- The law that firing side by side rests on: firings whose footprints don't clash don't disturb one another.
use Rattle.std.specs.Prelude.{◌≡◌, true, false, Some, slice_get}
use Rattle.rule_base.specs.declared.instantiation.Choice.{Choice}
use Rattle.rule_base.specs.declared.instantiation.Candidate.{Candidate}
use Rattle.rule_base.specs.declared.program.Rule.{Rule}
use Rattle.rule_base.specs.declared.program.Program.{Program}
use Rattle.rule_base.specs.Memory.{Memory, elements_at}
use Rattle.rule_base.specs.Match.{match_of}
use Rattle.rule_base.specs.Sound.{IsSound, sizes_of}
use Rattle.rule_base.specs.State.{IsState, IsUnfired, State, same_choice}
use Rattle.rule_base.specs.Step.{is_listed, step}
use Rattle.interference.specs.Footprint.{Clash, footprint}

-- a choice with the elements that its tags have
abbrev pub with_elements : Memory → Choice → Candidate
with_elements memory c = record { choice = c; elements = elements_at memory c.tags }

-- the choice is in the conflict set, and has not fired
pub record IsReady (program : Program) (s : State) (c : Choice) : Type 0 where
  pub listed : is_listed program s.memory c ≡ true
  pub unfired : IsUnfired s c

-- the choice is ready as before, with the same elements and the same bindings
pub record IsUndisturbed (program : Program) (before after : State) (c : Choice) : Type 0 where
  pub ready : IsReady program after c
  pub elements : elements_at after.memory c.tags ≡ elements_at before.memory c.tags
  pub bindings : (rule : Rule) → slice_get program.rules c.rule ≡ Some rule → match_of rule c.tags after.memory ≡ match_of rule c.tags before.memory

-- two choices clash in a memory where their footprints do
abbrev pub ClashIn : Program → Memory → Choice → Choice → Type 0
ClashIn program memory c d = Clash (footprint program (with_elements memory c)) (footprint program (with_elements memory d))

-- of two different choices that are ready and don't clash, each is undisturbed by the other's firing
abbrev pub FiringsDontDisturb : Type 0
FiringsDontDisturb = (program : Program) (s : State) (c d : Choice) (after : State) → IsSound program → IsState (sizes_of program.classes) s
    → IsReady program s c → IsReady program s d → same_choice c d ≡ false → (ClashIn program s.memory c d → ⊥)
    → step program s c ≡ Some after → IsUndisturbed program s after d
