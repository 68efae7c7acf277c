-- The steps are counted on the blank of the call.
use Rattle.match_network_tests.proofs.changes.add.Given as goal

abbrev pub ghosts-add_on : goal.ghosts-add_on
ghosts-add_on a = record { name = a.blank.name; parts = a.blank.parts }
