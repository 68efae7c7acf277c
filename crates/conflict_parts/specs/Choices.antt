-- The choices that full matches stand for: a rule, and the tags of a row's elements.
use Rattle.std.specs.Prelude.{◌≡◌, ℕ, ◌<◌, List, true, length}
use Rattle.std.specs.List.{AllByRecursion}
use Rattle.rule_base.specs.declared.instantiation.Choice.{Choice}
use Rattle.rule_base.specs.declared.program.Program.{Program}
use Rattle.rule_base.specs.Memory.{Rises, tags_of}
use Rattle.rule_base.specs.State.{same_choice}
use Rattle.rule_base.specs.Step.{matches}
use Rattle.match_network.specs.Full.{memory_of, tags_at}
use Rattle.match_network.specs.Network.{Network}
use Rattle.match_network.specs.Rules.{AreCompiled}
use Rattle.match_network.specs.Told.{AllAreTold}
use Rattle.conflict_parts.specs.Part.{IsLivingRow, is_free_row}

-- the choice of a rule's row
abbrev pub choice_at : Network → ℕ → List ℕ → Choice
choice_at network rule row = record { rule = rule; tags = tags_at network.arrivals.came row }

-- the network is one of the program's rules, and tells their full matches
pub record IsNetworkOf (program : Program) (network : Network) : Type 0 where
  pub compiled : AreCompiled program.rules network.rules
  pub told : AllAreTold network
  pub rising : Rises (tags_of network.arrivals.came)
  pub below : AllByRecursion (λ place. place < length network.arrivals.came) network.arrivals.places

-- a living row's choice matches where the row is free
abbrev pub LivingRowsMatch : Type 0
LivingRowsMatch =
    (program : Program) (network : Network) (rule number : ℕ) (row : List ℕ) → IsNetworkOf program network → IsLivingRow network rule number row →
    matches program (memory_of network.arrivals) (choice_at network rule row) ≡ is_free_row network rule row

-- a living row that is free stands for the choice
pub record IsRowOf (network : Network) (c : Choice) : Type 0 where
  pub number : ℕ
  pub row : List ℕ
  pub lives : IsLivingRow network c.rule number row
  pub is : choice_at network c.rule row ≡ c
  pub free : is_free_row network c.rule row ≡ true

-- whatever matches has such a row
abbrev pub MatchesAreLivingRows : Type 0
MatchesAreLivingRows =
    (program : Program) (network : Network) (c : Choice) → IsNetworkOf program network → matches program (memory_of network.arrivals) c ≡ true → IsRowOf network c

-- and only one
abbrev pub LivingRowsDiffer : Type 0
LivingRowsDiffer =
    (program : Program) (network : Network) (rule one other : ℕ) (row next : List ℕ) → IsNetworkOf program network → IsLivingRow network rule one row → IsLivingRow network rule other next →
    same_choice (choice_at network rule row) (choice_at network rule next) ≡ true → one ≡ other
