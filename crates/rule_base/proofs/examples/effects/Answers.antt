use Rattle.std.proofs.Common.{refl}
use Rattle.rule_base.proofs.Written.{is_written, ten_less_four}
use Rattle.rule_base.proofs.examples.effects.Goals as goal

pub returns-clause-trees : goal.returns-clause-trees
returns-clause-trees c = record { as_read = refl; as_built = ten_less_four }

pub returns-clause-written : goal.returns-clause-written
returns-clause-written c = is_written
