use Rattle.std.proofs.Common.{◌≡◌}
use Rattle.rule_base.specs.Layout.{spaces}
use Rattle.commit_journal.specs.Page.{with_bytes}
use Rattle.commit_journal.proofs.page.Page.put_spaces.Given as goal

abbrev pub invariant-loop-space : goal.invariant-loop-space
invariant-loop-space l = l.self ≡ with_bytes l.fn.self (spaces l._space)
