-- The steps are counted on the blank of the call.
use Rattle.engine_tests.proofs.places.places_come_and_go.Given as goal

abbrev pub ghosts-changes : goal.ghosts-changes
ghosts-changes g a = record { name = a.blank.name; parts = a.blank.parts }
