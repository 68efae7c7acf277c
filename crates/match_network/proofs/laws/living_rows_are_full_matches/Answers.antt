-- The law is a lemma about the definitions.
use Rattle.match_network.proofs.FullLemmas.{full_matches_are_told}
use Rattle.match_network.proofs.laws.living_rows_are_full_matches.Goals as goal

pub returns : goal.returns
returns c = full_matches_are_told
