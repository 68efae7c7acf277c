-- The steps are counted on the blank of the call.
use Rattle.engine_tests.proofs.commits.an_effect_becomes_an_entry.Given as goal

abbrev pub ghosts-told_entry : goal.ghosts-told_entry
ghosts-told_entry g a = record { name = a.blank.name; parts = a.blank.parts }
