-- By the parts of the key.
use Rattle.join_tests.proofs.KeyLemmas.{hash-joins, same_key-equal}
use Rattle.join_tests.proofs.laws.keys_find_what_joins.Goals as goal

pub returns-clause-keys : goal.returns-clause-keys
returns-clause-keys c = same_key-equal

pub returns-clause-hashes : goal.returns-clause-hashes
returns-clause-hashes c = hash-joins
