-- One line more.
use Rattle.std.proofs.Common.{◌≡◌, ◌∷◌, [], ◌++◌, ◌∙◌, ap, rules, sym}
use Rattle.rule_base.specs.declared.entry.Entry.{Entry}
use Rattle.commit_journal.specs.EntryViews.{entry_in}
use Rattle.commit_journal.specs.JournalText.{choice_line, first_line}
use Rattle.commit_journal.proofs.JournalTextLemmas.{choice_lines-next}
use Rattle.commit_journal.proofs.text.journal_text.Goals as goal

pub loop-place-preserved : goal.loop-place-preserved
loop-place-preserved c =
    let e : Entry = entry_in c.entry-entry.result in
    let more : c.put_choice.new.text.items ≡ c.loop-place.text.items ++ (choice_line e.choice ++ 10 ∷ []) = search rules in
    more ∙ ap (λ text. text ++ (choice_line e.choice ++ 10 ∷ [])) c.loop-place.invariant
    ∙ sym (choice_lines-next (first_line c.args.refraction) c.args.journal.now.entries c.loop-place.place e c.entry-entry.ensures)
