-- The pieces that are left lead to the same text.
use Rattle.std.proofs.Common.{◌≡◌, drop}
use Rattle.rule_base.specs.Layout.{layout}
use Rattle.commit_journal.specs.Page.{after_pieces}
use Rattle.commit_journal.proofs.page.lay_out.Given as goal

abbrev pub invariant-loop-piece : goal.invariant-loop-piece
invariant-loop-piece l = (after_pieces l.symbols l.page (drop l.piece-index l.pieces)).bytes ≡ layout l.symbols l.pieces
