-- Laws of footprints: what they ask and in which order, and what it means that two rules may not interfere.
use Rattle.std.specs.Prelude.{◌≡◌, ◌<◌, ℕ, List, true, false, length, map}
use Rattle.std.specs.List.{AllByRecursion}
use Rattle.rule_base.specs.declared.lock.Mode.{Mode}
use Rattle.rule_base.specs.declared.instantiation.Choice.{Choice}
use Rattle.rule_base.specs.declared.instantiation.Candidate.{Candidate}
use Rattle.rule_base.specs.declared.program.Program.{Program}
use Rattle.rule_base.specs.Fits.{Fits}
use Rattle.rule_base.specs.Memory.{Memory, Rises, tags_of}
use Rattle.rule_base.specs.Sound.{IsSound}
use Rattle.rule_base.specs.Step.{is_listed}
use Rattle.interference.specs.Modes.{asks}
use Rattle.interference.specs.Locks.{lock_count, stripe}
use Rattle.interference.specs.Footprint.{footprint, gathered}
use Rattle.interference.specs.PhantomLaw.{ClashIn}
use Rattle.interference.specs.MayInterfere.{may_interfere}
use Rattle.rule_base.specs.Numbers.{has_number}

-- gathered demands ask the same of each lock as before
abbrev pub GatheredAskTheSame : Type 0
GatheredAskTheSame = (demands : List (ℕ × Mode)) (lock : ℕ) → asks (gathered demands) lock ≡ asks demands lock

-- and their locks rise, so that each stands there once
abbrev pub GatheredRise : Type 0
GatheredRise = (demands : List (ℕ × Mode)) → Rises (map (λ (d : ℕ × Mode). d.0) (gathered demands))

-- each lock of a footprint is one that there is
abbrev pub FootprintsAreInRange : Type 0
FootprintsAreInRange = (program : Program) (candidate : Candidate) → IsSound program → AllByRecursion (λ (d : ℕ × Mode). d.0 < lock_count) (footprint program candidate)

-- and a candidate of the program asks for one at least
abbrev pub FootprintsAreNotEmpty : Type 0
FootprintsAreNotEmpty = (program : Program) (candidate : Candidate) → IsSound program → Fits program candidate → 0 < length (footprint program candidate)

-- two different tags, one of each list, share the stripe
pub record ShareStripe (lock : ℕ) (one other : List ℕ) : Type 0 where
  pub tag : ℕ
  pub beside : ℕ
  pub of_one : has_number one tag ≡ true
  pub of_other : has_number other beside ≡ true
  pub differ : tag ≡ beside → ⊥
  pub here : stripe tag ≡ lock
  pub here_too : stripe beside ≡ lock

-- choices of rules that may not interfere clash at most because different tags share a stripe
abbrev pub OnlyStripesClash : Type 0
OnlyStripesClash = (program : Program) (memory : Memory) (c d : Choice) → IsSound program → Rises (tags_of memory)
    → is_listed program memory c ≡ true → is_listed program memory d ≡ true → may_interfere program c.rule d.rule ≡ false
    → (clash : ClashIn program memory c d) → ShareStripe clash.lock c.tags d.tags
