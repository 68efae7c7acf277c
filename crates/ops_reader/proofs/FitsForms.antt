-- What the slots of the parts of a form say of the tokens that may come next.
use Rattle.std.proofs.Common.{◌≡◌, inl, inr, ℕ, List, refl}
use Rattle.ops_text.specs.Names.{Names}
use Rattle.ops_tokens.specs.declared.token.Keyword.TheVariants as a_keyword
use Rattle.ops_reader.specs.declared.form.FormCond.{FormCond}
use Rattle.ops_reader.specs.declared.form.FormAction.{FormAction}
use Rattle.ops_reader.specs.declared.part.Step.TheVariants.{Part}
use Rattle.ops_reader.specs.declared.part.SetPart.TheVariants as of_set
use Rattle.ops_reader.specs.declared.part.CondPart.{CondPart}
use Rattle.ops_reader.specs.declared.part.CondPart.TheVariants as of_cond
use Rattle.ops_reader.specs.declared.part.ActionPart.{ActionPart}
use Rattle.ops_reader.specs.declared.part.ActionPart.TheVariants as of_action
use Rattle.ops_reader.specs.declared.part.FormPart.{FormPart}
use Rattle.ops_reader.specs.declared.part.FormPart.TheVariants as of_form
use Rattle.ops_tokens.specs.Token.{Token, Close, Arrow}
use Rattle.ops_reader.specs.Taken.{around}
use Rattle.ops_reader.specs.CondReading.{cond_after}
use Rattle.ops_reader.specs.ActionReading.{action_after}
use Rattle.ops_reader.specs.FormReading.{with_cond, with_action, form_after}
use Rattle.ops_reader.specs.Slot.{condition_slot, action_slot, form_slot}
use Rattle.ops_reader.proofs.Fits.{Fits, Around, IsSpokenOf, lifted}
use Rattle.ops_reader.proofs.FitsConditions.{condition_fits}
use Rattle.ops_reader.proofs.FitsActions.{action_fits}

-- a condition element within a rule
abbrev conds_around : (name : ℕ) (conds : List FormCond) → Around condition_slot cond_after form_slot form_after
conds_around name conds = record { context = of_form.Conds name conds; whole = with_cond name conds; slots = λ part. refl; same = conds_same }
  where
    conds_same : (names : Names) (part : CondPart) (token : Token) → IsSpokenOf token
        → form_after names (of_form.Conds name conds part) token ≡ around (λ p. Part (of_form.Conds name conds p)) (with_cond name conds) (cond_after names part token)
    conds_same names of_cond.Nothing Arrow h = absurd h
    conds_same names part token h = refl

-- an action within a rule
abbrev actions_around : (name : ℕ) (conds : List FormCond) (actions : List FormAction) → Around action_slot action_after form_slot form_after
actions_around name conds actions =
    record { context = of_form.Actions name conds actions; whole = with_action name conds actions; slots = λ part. refl; same = actions_same }
  where
    actions_same : (names : Names) (part : ActionPart) (token : Token) → IsSpokenOf token
        → form_after names (of_form.Actions name conds actions part) token
        ≡ around (λ p. Part (of_form.Actions name conds actions p)) (with_action name conds actions) (action_after names part token)
    actions_same names of_action.Nothing Close h = absurd h
    actions_same names part token h = refl

pub form_fits : (names : Names) (part : FormPart) → Fits form_slot form_after names part
form_fits names of_form.Nothing = record {
  says = refl;
  alike = inr (λ z. refl);
  operand = λ e. absurd (cc);
  no_operand = inr (inr tt);
  opened = inl refl;
  bound = λ word. tt;
}
form_fits names of_form.Head = record {
  says = ((a_keyword.Make, refl), refl);
  alike = inr (λ z. refl);
  operand = λ e. absurd (cc);
  no_operand = inr (inr tt);
  opened = tt;
  bound = tt;
}
form_fits names of_form.Literalize =
    record { says = refl; alike = inr (λ z. refl); operand = λ e. absurd (cc); no_operand = inr (inl refl); opened = tt; bound = tt }
form_fits names (of_form.Attrs class attrs) =
    record { says = refl; alike = inr (λ z. refl); operand = λ e. absurd (cc); no_operand = inr (inl refl); opened = tt; bound = tt }
form_fits names of_form.Make =
    record { says = refl; alike = inr (λ z. refl); operand = λ e. absurd (cc); no_operand = inr (inl refl); opened = tt; bound = tt }
form_fits names (of_form.Sets class sets of_set.Nothing) =
    record { says = refl; alike = inr (λ z. refl); operand = λ e. absurd (cc); no_operand = inr (inr tt); opened = tt; bound = tt }
form_fits names (of_form.Sets class sets of_set.Caret) =
    record { says = refl; alike = inr (λ z. refl); operand = λ e. absurd (cc); no_operand = inr (inl refl); opened = tt; bound = tt }
form_fits names (of_form.Sets class sets (of_set.Attr attr)) =
    record { says = (refl, refl); alike = inr (λ z. refl); operand = λ e. absurd (cc); no_operand = inr (inl refl); opened = tt; bound = tt }
form_fits names of_form.P =
    record { says = refl; alike = inr (λ z. refl); operand = λ e. absurd (cc); no_operand = inr (inl refl); opened = tt; bound = tt }
form_fits names (of_form.Conds name conds part) =
    lifted condition_slot cond_after form_slot form_after (conds_around name conds) names part (condition_fits names part)
form_fits names (of_form.Actions name conds actions part) =
    lifted action_slot action_after form_slot form_after (actions_around name conds actions) names part (action_fits names part)
form_fits names of_form.Strategy =
    record { says = refl; alike = inr (λ z. refl); operand = λ e. absurd (cc); no_operand = inr (inr tt); opened = tt; bound = tt }
form_fits names of_form.Watch =
    record { says = (refl, refl); alike = inl refl; operand = λ e. absurd (cc); no_operand = inr (inr (λ word. refl)); opened = tt; bound = tt }
form_fits names (of_form.Closing form) =
    record { says = refl; alike = inr (λ z. refl); operand = λ e. absurd (cc); no_operand = inr (inr tt); opened = tt; bound = tt }
