-- The pieces lie as one list.
use Rattle.std.proofs.Common.{◌≡◌, sym, subst, ◌∙◌}
use Rattle.commit_journal.specs.Entries.{Recorded, pieces_of}
use Rattle.commit_journal.proofs.EntryLemmas.{pieces_of-entries_of}
use Rattle.commit_journal.proofs.journal.Journal.pieces.Goals as goal

pub returns : goal.returns
returns c =
    let inside = c.self.inside in
    let shape = c.self.invariant.0 in
    subst (λ (s : Recorded). c.items.result.now ≡ pieces_of s.entries) c.self.view_is
    (c.items.ensures ∙ sym (pieces_of-entries_of inside.firings.items inside.tags.lists inside.gone.lists inside.newborns.elements inside.pieces.lists shape.with_tags shape.with_gone shape.with_pieces))
