-- There are as many entries as firings.
use Rattle.std.proofs.Common.{◌≡◌, length, rules, sym, subst, ◌∙◌}
use Rattle.commit_journal.specs.Entries.{Recorded}
use Rattle.commit_journal.proofs.EntryLemmas.{length-entries_of}
use Rattle.commit_journal.proofs.journal.Journal.len.Goals as goal

pub returns : goal.returns
returns c =
    let inside = c.self.inside in
    let shape = c.self.invariant.0 in
    let same : c.len.result ≡ length inside.firings.items = search rules in
    subst (λ (s : Recorded). c.len.result ≡ length s.entries) c.self.view_is
    (same ∙ sym (length-entries_of inside.firings.items inside.tags.lists inside.gone.lists inside.newborns.elements inside.pieces.lists shape.with_tags shape.with_gone shape.with_pieces))
