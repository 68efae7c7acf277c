-- A network tells the full matches of all its rules.
use Rattle.std.specs.Prelude.{◌≡◌, ℕ, Some, filter, map, slice_get}
use Rattle.rule_base.specs.declared.program.Rule.{Rule}
use Rattle.join_tests.specs.Meaning.{IsCompiled}
use Rattle.match_network.specs.Full.{AreFullMatches, memory_of, tags_at}
use Rattle.match_network.specs.Negated.{whole_rows}
use Rattle.match_network.specs.Network.{Network}
use Rattle.match_network.specs.Row.{is_living}
use Rattle.match_network.specs.Rules.{RuleRows}

-- the living whole rows of each rule, told in tags, are its full matches
abbrev pub AllAreTold : Network → Type 0
AllAreTold network =
    (number : ℕ) (rule : Rule) (kept : RuleRows) → slice_get network.rules number ≡ Some kept → IsCompiled rule kept.joins →
    AreFullMatches rule (memory_of network.arrivals) (map (tags_at network.arrivals.came) (filter (is_living network.arrivals.places) (whole_rows kept)))
