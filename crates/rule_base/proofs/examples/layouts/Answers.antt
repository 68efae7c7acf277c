-- The rows compute once decimal digits do.
use Rattle.std.proofs.Common.{rules}
use Rattle.std.specs.Fmt.{digits}
use Rattle.rule_base.proofs.examples.layouts.Goals as goal

pub returns : goal.returns
unfolding digits
returns c = search rules
