-- A call of the command as the world outside sees it.
use Rattle.std.specs.Prelude.{ℕ, List, Option}

-- the files by their names, where they are told, and the counts of faults of their names, before and after
pub record Files : Type 0 where
  pub told : List ℕ → Option (List ℕ)
  pub faults : List ℕ → ℕ
  pub faults_after : List ℕ → ℕ

-- what the output holds, where that is told, and its count of faults, before and after
pub record Output : Type 0 where
  pub held : Option (List ℕ)
  pub held_after : Option (List ℕ)
  pub faults : ℕ
  pub faults_after : ℕ

-- the words, the files and the output
pub record Call : Type 0 where
  pub words : List (List ℕ)
  pub files : Files
  pub output : Output

-- the files of a shelf, told and counted by these, before and after a call
abbrev pub files_between : {S : Type 0} → (S → List ℕ → Option (List ℕ)) → (S → List ℕ → ℕ) → S → S → Files
files_between told faults old new = record { told = told old; faults = faults old; faults_after = faults new }

-- what an output holds, told and counted by these, before and after a call
abbrev pub output_between : {S : Type 0} → (S → Option (List ℕ)) → (S → ℕ) → S → S → Output
output_between told faults old new = record { held = told old; held_after = told new; faults = faults old; faults_after = faults new }
