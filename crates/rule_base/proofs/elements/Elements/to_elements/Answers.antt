-- One element more.
use Rattle.std.proofs.Common.{◌∷◌, [], ◌++◌, sym, ◌∙◌, ap}
use Rattle.rule_base.specs.Views.{element_in}
use Rattle.rule_base.proofs.StepByStepLemmas.{take_next}
use Rattle.rule_base.proofs.elements.Elements.to_elements.Goals as goal

pub loop-at-preserved : goal.loop-at-preserved
loop-at-preserved c =
    c.in_ok-push.ensures.ok ∙ ap (λ e. c.loop-at.elements ++ e ∷ []) c.in_ok-to_element.ensures ∙ ap (λ es. es ++ element_in c.at.result ∷ []) c.loop-at.invariant
    ∙ sym (take_next c.args.self.now c.loop-at.at (element_in c.at.result) c.at.ensures)
