-- What the functions that read tokens answer.
use Rattle.std.specs.Prelude.{◌≡◌, ℕ, ◌+◌, ◌≤◌, List, length, Option, Some, None, Result, Ok, Err}
use Rattle.ops_text.specs.Names.{Names, KeepsNumbers}
use Rattle.ops_reader.specs.declared.part.Progress.{Progress}
use Rattle.ops_reader.specs.declared.refusal.FormsRefusal.{FormsRefusal}
use Rattle.ops_reader.specs.declared.refusal.FormsRefusal.TheVariants as text_refusal
use Rattle.ops_reader.specs.declared.refusal.TokenRefusal.{TokenRefusal}
use Rattle.ops_reader.specs.declared.refusal.TokenRefusal.TheVariants as token_refusal
use Rattle.ops_reader.specs.Taken.{Taken}
use Rattle.ops_reader.specs.Refusal.{IsRefusedAt}
use Rattle.ops_tokens.specs.Token.{Token}
use Rattle.ops_reader.specs.Reading.{Read, next}
use Rattle.ops_reader.specs.Slot.{form_slot}
use Rattle.ops_reader.specs.Kind.{kind_at}

-- The function took what the definition takes, and left those names, or refused where it takes nothing. Memory may want.
abbrev pub Gives : {A : Type 0} → Result A TokenRefusal → Names → Taken A → Type 0
Gives (Ok a) names taken = taken ≡ Some (names, a)
Gives (Err token_refusal.CannotStand) names taken = taken ≡ None
Gives (Err token_refusal.OutOfMemory) names taken = Unit {0}

-- what has been read, with the names so far
abbrev pub reading : Names → Progress → Read
reading names progress = record { names = names; forms = progress.forms; part = progress.part }

-- One more token was taken, or refused where it is not taken. Memory may want.
abbrev pub TakesOne : Result Progress TokenRefusal → Names → Option Read → Type 0
TakesOne (Ok progress) names taken = taken ≡ Some (reading names progress)
TakesOne (Err token_refusal.CannotStand) names taken = taken ≡ None
TakesOne (Err token_refusal.OutOfMemory) names taken = Unit {0}

-- the token is refused here, by what may stand in its place; memory may want
abbrev pub IsRefusedHere : Read → Token → ℕ → FormsRefusal → Type 0
IsRefusedHere read token place (text_refusal.Syntax at kind) =
    (next read token ≡ None) × (at ≡ place) × (kind ≡ kind_at (form_slot read.part) token)
IsRefusedHere read token place text_refusal.OutOfMemory = Unit {0}

-- whatever the answer, names keep their numbers, and there is at most one more
pub record Grows (old new : Names) : Type 0 where
  pub kept : KeepsNumbers old new
  pub room : length new ≤ length old + 1

-- the text is refused at the place and for the reason that are told; memory may want
abbrev pub IsRefused : Names → List ℕ → FormsRefusal → Type 0
IsRefused names text (text_refusal.Syntax at kind) = IsRefusedAt names text at kind
IsRefused names text text_refusal.OutOfMemory = Unit {0}
