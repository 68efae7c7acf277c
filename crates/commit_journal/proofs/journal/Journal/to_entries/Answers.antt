-- One entry more.
use Rattle.std.proofs.Common.{◌∷◌, [], ◌++◌, sym, ◌∙◌, ap}
use Rattle.rule_base.proofs.StepByStepLemmas.{take_next}
use Rattle.commit_journal.specs.EntryViews.{entry_in}
use Rattle.commit_journal.proofs.journal.Journal.to_entries.Goals as goal

pub loop-place-preserved : goal.loop-place-preserved
loop-place-preserved c =
    c.in_ok-push.ensures.ok ∙ ap (λ e. c.loop-place.entries ++ e ∷ []) c.in_ok-to_entry.ensures ∙ ap (λ es. es ++ entry_in c.entry.result ∷ []) c.loop-place.invariant
    ∙ sym (take_next c.args.self.now.entries c.loop-place.place (entry_in c.entry.result) c.entry.ensures)
