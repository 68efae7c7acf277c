-- The steps are counted on the blank of the call.
use Rattle.engine_tests.proofs.places.places_are_found_by_values.Given as goal

abbrev pub ghosts-groups : goal.ghosts-groups
ghosts-groups g a = record { name = a.blank.name; parts = a.blank.parts }
