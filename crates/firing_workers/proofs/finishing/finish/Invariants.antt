-- The ledger of the steps is that of the blank.
use Rattle.firing_workers.proofs.finishing.finish.Given as goal

abbrev pub ghosts-finish_on : goal.ghosts-finish_on
ghosts-finish_on a = record { name = a.blank.name; parts = a.blank.parts }
