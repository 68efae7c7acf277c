-- The ledger of the steps is that of the blank.
use Rattle.match_network.proofs.arrivals.put_in.Given as goal

abbrev pub ghosts-put_in_on : goal.ghosts-put_in_on
ghosts-put_in_on a = record { name = a.blank.name; parts = a.blank.parts }
