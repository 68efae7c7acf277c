-- How a part that is made anew comes to follow a state: it takes in the memory, and then the choices that are fired are marked.
use Rattle.std.specs.Prelude.{◌≡◌, ℕ, ◌<◌, ◌&&◌, ◌||◌, List, [], Bool, is_some}
use Rattle.std.specs.List.{AllByRecursion}
use Rattle.rule_base.specs.declared.element.Element.{Element}
use Rattle.rule_base.specs.declared.instantiation.Choice.{Choice}
use Rattle.rule_base.specs.declared.program.Program.{Program}
use Rattle.rule_base.specs.Memory.{Memory}
use Rattle.rule_base.specs.State.{State}
use Rattle.refraction_index.specs.Firings.{Index, place_of}
use Rattle.conflict_parts.specs.Choices.{choice_at}
use Rattle.conflict_parts.specs.Part.{IsLivingRow, Part}
use Rattle.conflict_parts.specs.Standings.{is_marked}
use Rattle.firing_workers.specs.Following.{Follows, with_memory}

-- a state with an empty memory, of which no tag was given and no choice is fired
abbrev pub bare : State → State
bare s = record s { memory = []; next = 0; fired = [] }

-- a state of which no choice is fired
abbrev pub unfired : State → State
unfired s = record s { fired = [] }

-- a part has taken in these elements, so that it follows what it followed, with them in memory and each next tag above theirs
pub record HasTakenIn (elements : Memory) (old : Part) (new : Part) : Type 0 where
  pub came : (next : ℕ) → AllByRecursion (λ (e : Element). e.tag < next) elements → AllByRecursion (λ (e : Element). e.tag < next) new.network.arrivals.came
  pub follows : (program : Program) (s : State) (next : ℕ) → AllByRecursion (λ (e : Element). e.tag < next) elements →
      Follows program (bare s) old → Follows program (with_memory (bare s) elements next) new

-- whether an index has a choice
abbrev pub has_place : Index → Choice → Bool
has_place index c = is_some (place_of index c)

-- among some rows, by the numbers of their rules and their own, each living one whose choice is to be marked is; all else stays
pub record AreMarked (has_fired : Choice → Bool) (among : ℕ → ℕ → Bool) (old : Part) (new : Part) : Type 0 where
  pub network : new.network ≡ old.network
  pub refraction : new.refraction ≡ old.refraction
  pub marks : (rule number : ℕ) (row : List ℕ) → IsLivingRow old.network rule number row →
      is_marked new.standings rule number ≡ (is_marked old.standings rule number || (among rule number && has_fired (choice_at old.network rule row)))
