-- By the elements of the row, and by the values that a join reads.
use Rattle.std.proofs.Common.{[]}
use Rattle.join_tests.proofs.RowLemmas.{each_joins-push}
use Rattle.join_tests.proofs.KeyLemmas.{joins-more}
use Rattle.join_tests.proofs.laws.rows_grow.Goals as goal

pub returns-clause-grow : goal.returns-clause-grow
returns-clause-grow c = λ all es join e. each_joins-push [] all es join e

pub returns-clause-go_on : goal.returns-clause-go_on
returns-clause-go_on c = joins-more
