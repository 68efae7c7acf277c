use Rattle.std.proofs.Common.{◌≡◌, take}
use Rattle.commit_journal.specs.Page.{with_bytes}
use Rattle.commit_journal.proofs.page.Page.put_bytes.Given as goal

abbrev pub invariant-loop-byte : goal.invariant-loop-byte
invariant-loop-byte l = l.self ≡ with_bytes l.fn.self (take l.byte-index l.bytes)
