-- What a core keeps beside being lawful, so that its next firing can be proved.
use Rattle.std.specs.Prelude.{◌≡◌, ◌+◌, ◌*◌, ◌^◌, ◌≤◌}
use Rattle.rule_base.specs.Sound.{sizes_of}
use Rattle.rule_base.specs.State.{IsState, count}
use Rattle.firing_core.specs.CoreState.{CoreState}
use Rattle.firing_core.specs.Lawful.{IsLawful}

-- the core is lawful, and this holds of it
pub record IsKept (k : CoreState) : Type 0 where
  pub lawful : IsLawful k
  pub state : IsState (sizes_of k.program.classes) k.state
  -- a firing has at most 64 actions, and each makes at most one element
  pub next_is_low : k.state.next ≤ 2 ^ 63 + 64 * count k.state
  -- the state has the refraction of the base
  pub refraction : k.state.refraction ≡ k.base.refraction
