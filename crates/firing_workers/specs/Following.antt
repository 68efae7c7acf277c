-- A part follows a state of the machine: it has the state's memory, and its marks are the choices that are fired.
use Rattle.std.specs.Prelude.{◌≡◌, ℕ, ◌+◌, ◌<◌, ◌&&◌, List, [], ◌∷◌, ◌++◌, Bool, true, Option, None, Some, length}
use Rattle.std.specs.List.{AllByRecursion}
use Rattle.rule_base.specs.declared.base.Refraction.{Refraction}
use Rattle.rule_base.specs.declared.base.Refraction.TheVariants.{Once, Renewed}
use Rattle.rule_base.specs.declared.element.Element.{Element}
use Rattle.rule_base.specs.declared.instantiation.Choice.{Choice}
use Rattle.rule_base.specs.declared.program.Program.{Program}
use Rattle.rule_base.specs.Effect.{Effect}
use Rattle.rule_base.specs.Memory.{Memory}
use Rattle.rule_base.specs.State.{State, has_fired}
use Rattle.rule_base.specs.Step.{born, memory_after, without}
use Rattle.match_network.specs.Full.{memory_of}
use Rattle.conflict_parts.specs.Choices.{IsNetworkOf, choice_at}
use Rattle.conflict_parts.specs.Part.{IsLivingRow, Part, is_free_row}
use Rattle.conflict_parts.specs.Standings.{is_marked}

-- whether a choice that was fired stays fired, where its row is free or isn't
abbrev pub stays_fired : Refraction → Bool → Bool
stays_fired Once free = true
stays_fired Renewed free = free

pub record Follows (program : Program) (s : State) (part : Part) : Type 0 where
  pub of : IsNetworkOf program part.network
  pub refraction : part.refraction ≡ s.refraction
  pub memory : memory_of part.network.arrivals ≡ s.memory
  -- all tags were given before the next one: those of the elements that came, and those of the fired choices
  pub came : AllByRecursion (λ (e : Element). e.tag < s.next) part.network.arrivals.came
  pub fired : AllByRecursion (λ (c : Choice). AllByRecursion (λ tag. tag < s.next) c.tags) s.fired
  pub marks : (rule number : ℕ) (row : List ℕ) → IsLivingRow part.network rule number row →
      is_marked part.standings rule number ≡ (has_fired s (choice_at part.network rule row) && stays_fired s.refraction (is_free_row part.network rule row))

-- each living row whose choice is fired stays fired
pub record IsSettled (s : State) (part : Part) : Type 0 where
  pub stays : (rule number : ℕ) (row : List ℕ) → IsLivingRow part.network rule number row →
      has_fired s (choice_at part.network rule row) ≡ true → stays_fired s.refraction (is_free_row part.network rule row) ≡ true

-- the steps of a commit, one by one: a choice has fired
abbrev pub with_fired : State → Choice → State
with_fired s c = record s { fired = s.fired ++ c ∷ [] }

-- elements have gone
abbrev pub with_removed : State → List ℕ → State
with_removed s tags = record s { memory = without s.memory tags }

-- an element has come, and the next tag is the one behind its own
abbrev pub with_arrived : State → Element → State
with_arrived s e = record s { memory = s.memory ++ e ∷ []; next = e.tag + 1 }

-- a tag was given, to an element that is there or to one that isn't
abbrev pub with_some : State → ℕ → Option Element → State
with_some s tag None = record s { next = tag + 1 }
with_some s tag (Some e) = record s { memory = s.memory ++ e ∷ []; next = tag + 1 }

-- memory and next tag are these
abbrev pub with_memory : State → Memory → ℕ → State
with_memory s memory next = record s { memory = memory; next = next }

-- all steps of a commit together, but for the choices that stop being fired
abbrev pub with_changes : State → Choice → Effect → State
with_changes s c done = record s {
  memory = memory_after s done;
  next = s.next + length (born s.next done.changes);
  fired = s.fired ++ c ∷ [];
}
