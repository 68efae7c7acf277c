-- The ledger of the steps is that of the blank.
use Rattle.firing_core.proofs.acceptance.accepts.Given as goal

abbrev pub ghosts-accepts_on : goal.ghosts-accepts_on
ghosts-accepts_on a = record { name = a.blank.name; parts = a.blank.parts }
