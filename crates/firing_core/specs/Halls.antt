-- What the calls of a hall tell and leave.
use Rattle.std.specs.Prelude.{◌≡◌, Bool, true, false, Option, None, Some, Result, Ok, Err, is_some}
use Rattle.rhs_actions.specs.Outcomes.{Faulted, Fired}
use Rattle.firing_core.specs.declared.claims.ClaimRefusal.TheVariants as refusal
use Rattle.firing_core.specs.declared.claims.CommitRefusal.{CommitRefusal}
use Rattle.firing_core.specs.declared.claims.CommitRefusal.TheVariants as commit
use Rattle.firing_core.specs.declared.claims.How.{How}
use Rattle.firing_core.specs.declared.hall.Again.{Again}
use Rattle.firing_core.specs.declared.hall.ClaimStop.{ClaimStop}
use Rattle.firing_core.specs.declared.hall.ClaimStop.TheVariants as claim_stop
use Rattle.firing_core.specs.declared.hall.CommitStop.{CommitStop}
use Rattle.firing_core.specs.declared.hall.CommitStop.TheVariants as commit_stop
use Rattle.firing_core.specs.declared.hall.FaultStop.{FaultStop}
use Rattle.firing_core.specs.declared.hall.FaultStop.TheVariants as fault_stop
use Rattle.firing_core.specs.declared.hall.DropStop.{DropStop}
use Rattle.firing_core.specs.declared.hall.DropStop.TheVariants as drop_stop
use Rattle.firing_core.specs.Grants.{Granted}

-- whether a refusal to commit or to keep a fault tells that the core has ended
abbrev pub tells_end : CommitRefusal → Bool
tells_end commit.Foreign = false
tells_end (commit.Ended how) = true

-- whether an answer to a claim tells so
abbrev pub claim_tells_end : {X : Type 0} → Result X ClaimStop → Bool
claim_tells_end (Err (claim_stop.Refused (refusal.Ended how))) = true
claim_tells_end other = false

-- to a commit
abbrev pub commit_tells_end : {X : Type 0} → Result X CommitStop → Bool
commit_tells_end (Ok x) = false
commit_tells_end (Err (commit_stop.Refused told)) = tells_end told
commit_tells_end (Err (commit_stop.Again grant delta)) = false

-- to a fault
abbrev pub fault_tells_end : {X : Type 0} → Result X FaultStop → Bool
fault_tells_end (Ok x) = false
fault_tells_end (Err (fault_stop.Refused told)) = tells_end told
fault_tells_end (Err (fault_stop.Again grant failed)) = false

-- to the question for the end
abbrev pub end_is_told : Result (Option How) Again → Bool
end_is_told (Ok how) = is_some how
end_is_told (Err again) = false

-- a commit that is to be tried again gives back what it was given; any other answer leaves the pass without a grant
abbrev pub LeavesAfterCommit : {X : Type 0} → Granted → Fired → Option Granted → Result X CommitStop → Type 0
LeavesAfterCommit grant delta held (Ok x) = held ≡ None
LeavesAfterCommit grant delta held (Err (commit_stop.Refused told)) = held ≡ None
LeavesAfterCommit grant delta held (Err (commit_stop.Again grant' delta')) = (held ≡ Some grant) × (grant' ≡ grant) × (delta' ≡ delta)

-- and so for a fault
abbrev pub LeavesAfterFault : {X : Type 0} → Granted → Faulted → Option Granted → Result X FaultStop → Type 0
LeavesAfterFault grant failed held (Ok x) = held ≡ None
LeavesAfterFault grant failed held (Err (fault_stop.Refused told)) = held ≡ None
LeavesAfterFault grant failed held (Err (fault_stop.Again grant' failed')) = (held ≡ Some grant) × (grant' ≡ grant) × (failed' ≡ failed)

-- and for a claim that is dropped
abbrev pub LeavesAfterDrop : {X : Type 0} → Granted → Option Granted → Result X DropStop → Type 0
LeavesAfterDrop grant held (Ok x) = held ≡ None
LeavesAfterDrop grant held (Err drop_stop.Foreign) = held ≡ None
LeavesAfterDrop grant held (Err (drop_stop.Again grant')) = (held ≡ Some grant) × (grant' ≡ grant)
