-- The condition elements so far are compiled.
use Rattle.std.proofs.Common.{take}
use Rattle.join_tests.specs.Sources.{no_sources}
use Rattle.join_tests.proofs.RuleLemmas.{Compiles}
use Rattle.join_tests.proofs.joins.Joins.compile.Given as goal

abbrev pub invariant-loop-cond : goal.invariant-loop-cond
invariant-loop-cond l = Compiles 0 (no_sources l.rule.vars) (take l.cond-index l.rule.conds) l.joins.positives l.joins.negated l.sources.items
