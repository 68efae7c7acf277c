-- One choice more.
use Rattle.std.proofs.Common.{◌∷◌, [], ◌++◌, append_assoc, take, sym, ◌∙◌, ap}
use Rattle.std.proofs.lemmas.List.{map-append}
use Rattle.rule_base.specs.declared.entry.Entry.{Entry}
use Rattle.rule_base.specs.State.{choices_of}
use Rattle.rule_base.proofs.StepByStepLemmas.{take_next}
use Rattle.commit_journal.specs.EntryViews.{entry_in}
use Rattle.firing_core.proofs.fired_choices.add_choices.Goals as goal

pub loop-place-preserved : goal.loop-place-preserved
loop-place-preserved c =
    let entries = c.args.journal.now.entries in
    let place = c.loop-place.place in
    let before = c.args.choices.now.items in
    let entry : Entry = entry_in c.entry.result in
    c.in_ok-push.ensures.items
    ∙ ap (λ d. c.loop-place.choices.items ++ d ∷ []) c.in_ok-choice_of.ensures
    ∙ ap (λ cs. cs ++ entry.choice ∷ []) c.loop-place.invariant
    ∙ append_assoc before (choices_of (take place entries)) (entry.choice ∷ [])
    ∙ ap (λ cs. before ++ cs) (sym (map-append (λ (e : Entry). e.choice) (take place entries) (entry ∷ [])))
    ∙ ap (λ es. before ++ choices_of es) (sym (take_next entries place entry c.entry.ensures))
