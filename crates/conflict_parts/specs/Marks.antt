-- How the marks of full matches end.
use Rattle.std.specs.Prelude.{ℕ, List, Bool, false, slice_get}
use Rattle.std.specs.Option.{option_map_or}
use Rattle.rule_base.specs.declared.base.Refraction.{Refraction}
use Rattle.rule_base.specs.declared.base.Refraction.TheVariants.{Once, Renewed}
use Rattle.match_network.specs.Negated.{blocks}
use Rattle.match_network.specs.Network.{Network}
use Rattle.match_network.specs.Rules.{RuleRows}

-- whether the element at a place stands in the way of a rule's row
abbrev pub blocks_row : Network → ℕ → List ℕ → ℕ → Bool
blocks_row network rule row place = option_map_or (λ (kept : RuleRows). blocks kept.joins network.arrivals.came row place) (slice_get network.rules rule) false

-- whether a row's mark ends as the element at a place comes: under `Renewed` where the element stands in its way
abbrev pub ends : Refraction → Network → ℕ → List ℕ → ℕ → Bool
ends Once network rule row place = false
ends Renewed network rule row place = blocks_row network rule row place
