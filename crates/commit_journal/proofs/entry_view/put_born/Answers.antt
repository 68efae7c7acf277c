-- One element more.
use Rattle.std.proofs.Common.{◌≡◌, ◌+◌, ◌∷◌, [], ◌++◌, ◌∙◌, ap, append_assoc, map, sym, take}
use Rattle.std.proofs.lemmas.List.{map-append}
use Rattle.rule_base.specs.declared.change.Tagged.TheVariants.{Born}
use Rattle.rule_base.specs.declared.element.Element.{Element}
use Rattle.rule_base.specs.Views.{element_in}
use Rattle.rule_base.proofs.StepByStepLemmas.{take_next}
use Rattle.commit_journal.specs.EntryViews.{born_of}
use Rattle.commit_journal.proofs.entry_view.put_born.Goals as goal

pub loop-number-preserved : goal.loop-number-preserved
loop-number-preserved c =
    let all = born_of c.args.view in
    let at = c.loop-number.number in
    let e : Element = element_in c.born.result in
    let taken : map Born (take (at + 1) all) ≡ map Born (take at all) ++ Born e ∷ [] = ap (map Born) (take_next all at e c.born.ensures) ∙ map-append Born (take at all) (e ∷ []) in
    let copied : c.in_ok-to_element.field-0 ≡ e = c.in_ok-to_element.ensures in
    let more : c.push.new.self ≡ c.loop-number.changes ++ Born e ∷ [] = c.in_ok-push.ensures.ok ∙ ap (λ x. c.loop-number.changes ++ Born x ∷ []) copied in
    more ∙ ap (λ changes. changes ++ Born e ∷ []) c.loop-number.invariant ∙ append_assoc c.args.changes.now (map Born (take at all)) (Born e ∷ []) ∙ ap (λ rest. c.args.changes.now ++ rest) (sym taken)
