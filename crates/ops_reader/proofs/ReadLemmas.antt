-- What the reader answers, from what has been read.
use Rattle.std.proofs.Common.{◌≡◌, List, Some, ap, ◌∙◌}
use Rattle.ops_text.specs.Names.{Names}
use Rattle.ops_reader.specs.declared.form.Form.{Form}
use Rattle.ops_reader.specs.declared.part.Progress.{Progress}
use Rattle.ops_reader.specs.declared.part.FormPart.TheVariants as of_form
use Rattle.ops_tokens.specs.Token.{Token}
use Rattle.ops_reader.specs.Grammar.{IsText}
use Rattle.ops_reader.specs.Reading.{start, run}
use Rattle.ops_reader.specs.Outcome.{reading}
use Rattle.ops_reader.proofs.ExactLemmas.{done_is_text}

-- no form is open
pub whole_is_text : (names after : Names) (tokens : List Token) (progress : Progress) (forms : List Form)
    → run (start names) tokens ≡ Some (reading after progress) → progress ≡ record { forms = forms; part = of_form.Nothing } → IsText names forms tokens after
whole_is_text names after tokens progress forms e is = done_is_text names tokens forms after (e ∙ ap (λ p. Some (reading after p)) is)
