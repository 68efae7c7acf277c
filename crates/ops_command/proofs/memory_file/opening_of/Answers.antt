-- The elements of a program with few makes are an opening.
use Rattle.ops_command.proofs.memory_file.opening_of.Goals as goal

pub returns-in-Ok-clause-opening : goal.returns-in-Ok-clause-opening
returns-in-Ok-clause-opening c = c.in-Ok.ensures.opening c.requires.few_makes
