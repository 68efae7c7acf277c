-- The ledger of the steps is that of the blank.
use Rattle.match_network.proofs.arrivals.take_out.Given as goal

abbrev pub ghosts-take_out_on : goal.ghosts-take_out_on
ghosts-take_out_on a = record { name = a.blank.name; parts = a.blank.parts }
