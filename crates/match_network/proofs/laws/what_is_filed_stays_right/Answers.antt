-- The laws are lemmas about the definitions.
use Rattle.match_network.proofs.FilingLemmas.{levels_may_be_packed, levels_meet_arrivals, levels_meet_removals, stores_may_be_packed, stores_meet_arrivals, stores_meet_removals}
use Rattle.match_network.proofs.laws.what_is_filed_stays_right.Goals as goal

pub returns-clause-arrivals : goal.returns-clause-arrivals
returns-clause-arrivals c = levels_meet_arrivals

pub returns-clause-removals : goal.returns-clause-removals
returns-clause-removals c = levels_meet_removals

pub returns-clause-store_arrivals : goal.returns-clause-store_arrivals
returns-clause-store_arrivals c = stores_meet_arrivals

pub returns-clause-store_removals : goal.returns-clause-store_removals
returns-clause-store_removals c = stores_meet_removals

pub returns-clause-packing : goal.returns-clause-packing
returns-clause-packing c = levels_may_be_packed

pub returns-clause-store_packing : goal.returns-clause-store_packing
returns-clause-store_packing c = stores_may_be_packed
