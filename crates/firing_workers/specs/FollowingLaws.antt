-- How a part goes on following: laws of what is left to fire, and of each step of a commit.
use Rattle.std.specs.Prelude.{◌≡◌, ◌⊎◌, ℕ, ◌<◌, ◌≤◌, ◌&&◌, ◌||◌, List, [], ◌∷◌, true, false, not, Some, length}
use Rattle.rule_base.specs.declared.element.Element.{Element}
use Rattle.rule_base.specs.declared.instantiation.Choice.{Choice}
use Rattle.rule_base.specs.declared.program.Program.{Program}
use Rattle.rule_base.specs.Base.{StillMatch}
use Rattle.rule_base.specs.Effect.{Effect}
use Rattle.rule_base.specs.Ending.{is_quiet}
use Rattle.rule_base.specs.State.{IsUnfired, State}
use Rattle.rule_base.specs.Step.{committed, matches}
use Rattle.match_network.specs.Arrivals.{with_arrival, without_tag}
use Rattle.match_network.specs.Network.{AllHaveLevels, AreAllRight, joins_in}
use Rattle.match_network.specs.Touched.{AllGrow}
use Rattle.match_network.specs.Told.{AllAreTold}
use Rattle.conflict_parts.specs.declared.standing.RowId.{RowId}
use Rattle.conflict_parts.specs.declared.standing.Standing.TheVariants.{Marked}
use Rattle.conflict_parts.specs.Choices.{choice_at}
use Rattle.conflict_parts.specs.Marks.{ends}
use Rattle.conflict_parts.specs.Part.{IsCandidate, IsLivingRow, Part, full_rows, is_free_row}
use Rattle.conflict_parts.specs.Queue.{same_row}
use Rattle.conflict_parts.specs.Standings.{is_marked, standing_at}
use Rattle.firing_workers.specs.Following.{Follows, IsSettled, with_arrived, with_changes, with_fired, with_removed}

-- the choice matches and isn't fired, so that something is left to fire
pub record IsLeftIn (program : Program) (s : State) (c : Choice) : Type 0 where
  pub matching : matches program s.memory c ≡ true
  pub unfired : IsUnfired s c
  pub not_quiet : is_quiet program s ≡ false

-- a candidate of a part that follows is left
abbrev pub CandidatesAreLeft : Type 0
CandidatesAreLeft =
    (program : Program) (s : State) (part : Part) (id : RowId) → Follows program s part → (candidate : IsCandidate part.network part.standings id) →
    IsLeftIn program s (choice_at part.network id.rule candidate.row)

-- with no candidate nothing is left
abbrev pub NoneIsQuiet : Type 0
NoneIsQuiet =
    (program : Program) (s : State) (part : Part) → Follows program s part →
    ((rule number : ℕ) (row : List ℕ) → IsLivingRow part.network rule number row → (standing_at part.standings rule number ≡ Some Marked) ⊎ (is_free_row part.network rule row ≡ false)) →
    is_quiet program s ≡ true

-- a part is settled where under `Renewed` all fired choices match
abbrev pub MatchingIsSettled : Type 0
MatchingIsSettled =
    (program : Program) (s : State) (part : Part) → Follows program s part → StillMatch s.refraction program s.memory s.fired → IsSettled s part

-- the row of a choice that fires is marked
abbrev pub MarkingIsFollowed : Type 0
MarkingIsFollowed =
    (program : Program) (s : State) (old new : Part) (id : RowId) (row : List ℕ) → Follows program s old → IsSettled s old →
    IsLivingRow old.network id.rule id.row row → is_free_row old.network id.rule row ≡ true →
    new.network ≡ old.network → new.refraction ≡ old.refraction →
    ((rule number : ℕ) → is_marked new.standings rule number ≡ (is_marked old.standings rule number || same_row rule number id)) →
    Follows program (with_fired s (choice_at old.network id.rule row)) new × IsSettled (with_fired s (choice_at old.network id.rule row)) new

-- an element goes
abbrev pub RemovalIsFollowed : Type 0
RemovalIsFollowed =
    (program : Program) (s : State) (old new : Part) (tag : ℕ) → Follows program s old → IsSettled s old →
    new.network.arrivals ≡ without_tag old.network.arrivals tag → new.network.rules ≡ old.network.rules → AllAreTold new.network →
    new.refraction ≡ old.refraction → ((rule number : ℕ) → is_marked new.standings rule number ≡ is_marked old.standings rule number) →
    Follows program (with_removed s (tag ∷ [])) new × IsSettled (with_removed s (tag ∷ [])) new

-- an element comes
abbrev pub ArrivalIsFollowed : Type 0
ArrivalIsFollowed =
    (program : Program) (s : State) (old new : Part) (e : Element) → Follows program s old → s.next ≤ e.tag →
    AreAllRight old.network → AllHaveLevels old.network → AllHaveLevels new.network →
    new.network.arrivals ≡ with_arrival old.network.arrivals e → joins_in new.network.rules ≡ joins_in old.network.rules →
    AllGrow new.network.arrivals.came (length old.network.arrivals.came) old.network.rules new.network.rules → AllAreTold new.network →
    new.refraction ≡ old.refraction →
    ((rule number : ℕ) → is_marked old.standings rule number ≡ true → number < length (full_rows old.network.rules rule)) →
    ((rule number : ℕ) (row : List ℕ) → IsLivingRow new.network rule number row →
    is_marked new.standings rule number ≡ (is_marked old.standings rule number && not (ends new.refraction new.network rule row (length old.network.arrivals.came)))) →
    Follows program (with_arrived s e) new

-- once all changes are made, choices that have stopped matching stop being fired
abbrev pub CommitIsFollowed : Type 0
CommitIsFollowed =
    (program : Program) (s : State) (c : Choice) (done : Effect) (part : Part) →
    Follows program (with_changes s c done) part → Follows program (committed program s c done) part
