-- The elements of all entries are all elements.
use Rattle.std.proofs.Common.{◌≡◌, ap, option_map, subst, sym, ◌∙◌}
use Rattle.rule_base.specs.Memory.{element_at}
use Rattle.rule_base.specs.Views.{element_in}
use Rattle.commit_journal.specs.Entries.{Recorded, born_in}
use Rattle.commit_journal.proofs.EntryLemmas.{born_in-entries_of}
use Rattle.commit_journal.proofs.journal.Journal.born.Goals as goal

pub returns : goal.returns
returns c =
    let inside = c.self.inside in
    let shape = c.self.invariant.0 in
    subst (λ (s : Recorded). option_map element_in c.with_tag.result ≡ element_at (born_in s.entries) c.args.tag) c.self.view_is
    (c.with_tag.ensures ∙ ap (λ es. element_at es c.args.tag) (sym (born_in-entries_of inside.firings.items inside.tags.lists inside.gone.lists inside.newborns.elements inside.pieces.lists shape.with_tags shape.with_gone shape.with_pieces shape.with_born)))
