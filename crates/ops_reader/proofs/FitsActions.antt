-- What the slots of the parts of an action say of the tokens that may come next.
use Rattle.std.proofs.Common.{◌≡◌, inl, inr, ℕ, List, [], ◌∷◌, ◌++◌, refl}
use Rattle.ops_text.specs.Names.{Names}
use Rattle.ops_tokens.specs.declared.token.Keyword.TheVariants as a_keyword
use Rattle.ops_reader.specs.declared.form.FormTerm.{FormTerm}
use Rattle.ops_reader.specs.declared.form.FormTerm.TheVariants as a_term
use Rattle.ops_reader.specs.declared.form.FormItem.{FormItem}
use Rattle.ops_reader.specs.declared.form.FormItem.TheVariants as an_item
use Rattle.ops_reader.specs.declared.form.FormAction.TheVariants as an_action
use Rattle.ops_reader.specs.declared.form.At.{At}
use Rattle.ops_reader.specs.declared.part.Step.TheVariants.{Part, Whole}
use Rattle.ops_reader.specs.declared.part.TermPart.{TermPart}
use Rattle.ops_reader.specs.declared.part.TermPart.TheVariants as of_term
use Rattle.ops_reader.specs.declared.part.TermSetPart.{TermSetPart}
use Rattle.ops_reader.specs.declared.part.TermSetPart.TheVariants as of_set
use Rattle.ops_reader.specs.declared.part.ItemPart.{ItemPart}
use Rattle.ops_reader.specs.declared.part.ItemPart.TheVariants as of_item
use Rattle.ops_reader.specs.declared.part.ActionPart.{ActionPart}
use Rattle.ops_reader.specs.declared.part.ActionPart.TheVariants as of_action
use Rattle.ops_reader.specs.declared.slot.Slot.{Slot}
use Rattle.ops_tokens.specs.Token.{Token, Close}
use Rattle.ops_reader.specs.Taken.{around}
use Rattle.ops_reader.specs.ExpressionReading.{expression_after}
use Rattle.ops_reader.specs.TermReading.{TermSetsPart, term_after, term_set_after, term_sets_after}
use Rattle.ops_reader.specs.ItemReading.{item_after}
use Rattle.ops_reader.specs.ActionReading.{action_after}
use Rattle.ops_reader.specs.Slot.{expression_slot, term_slot, value_slot, item_slot, set_slot, action_slot}
use Rattle.ops_reader.proofs.Fits.{Fits, Around, IsSpokenOf, lifted}
use Rattle.ops_reader.proofs.FitsExpressions.{expression_fits}

-- an expression within a value, or within the value of a `bind`
abbrev compute_around : Around expression_slot expression_after term_slot term_after
compute_around =
    record { context = of_term.Compute; whole = λ e. Whole (a_term.Compute e); slots = λ part. refl; same = λ names part token h. refl }

abbrev bound_compute_around : Around expression_slot expression_after value_slot term_after
bound_compute_around =
    record { context = of_term.Compute; whole = λ e. Whole (a_term.Compute e); slots = λ part. refl; same = λ names part token h. refl }

term_fits : (names : Names) (part : TermPart) → Fits term_slot term_after names part
term_fits names of_term.Nothing = record {
  says = (refl, refl);
  alike = inr (λ z. refl);
  operand = λ e. absurd (cc);
  no_operand = inr (inl refl);
  opened = inl refl;
  bound = λ word. tt;
}
term_fits names of_term.Head = record {
  says = ((a_keyword.Compute, refl), refl);
  alike = inr (λ z. refl);
  operand = λ e. absurd (cc);
  no_operand = inr (inr tt);
  opened = tt;
  bound = tt;
}
term_fits names (of_term.Compute part) =
    lifted expression_slot expression_after term_slot term_after compute_around names part (expression_fits names part.outer part.inner)

value_fits : (names : Names) (part : TermPart) → Fits value_slot term_after names part
value_fits names of_term.Nothing = record {
  says = (refl, refl);
  alike = inr (λ z. refl);
  operand = λ e. absurd (cc);
  no_operand = inr (inl refl);
  opened = inl refl;
  bound = λ word. tt;
}
value_fits names of_term.Head = record {
  says = ((a_keyword.Compute, refl), refl);
  alike = inr (λ z. refl);
  operand = λ e. absurd (cc);
  no_operand = inr (inr tt);
  opened = tt;
  bound = tt;
}
value_fits names (of_term.Compute part) =
    lifted expression_slot expression_after value_slot term_after bound_compute_around names part (expression_fits names part.outer part.inner)

-- a value within a setting, and a setting among others
abbrev set_around : (attr : ℕ) → Around term_slot term_after set_slot term_set_after
set_around attr =
    record { context = of_set.Attr attr; whole = λ t. Whole (attr, t); slots = λ part. refl; same = λ names part token h. refl }

set_fits : (names : Names) (part : TermSetPart) → Fits set_slot term_set_after names part
set_fits names of_set.Nothing =
    record { says = refl; alike = inr (λ z. refl); operand = λ e. absurd (cc); no_operand = inr (inr tt); opened = tt; bound = tt }
set_fits names of_set.Caret =
    record { says = refl; alike = inr (λ z. refl); operand = λ e. absurd (cc); no_operand = inr (inl refl); opened = tt; bound = tt }
set_fits names (of_set.Attr attr part) = lifted term_slot term_after set_slot term_set_after (set_around attr) names part (term_fits names part)

abbrev sets_slot : TermSetsPart → Slot
sets_slot part = set_slot part.1

abbrev sets_around : (sets : List (ℕ × FormTerm)) → Around set_slot term_set_after sets_slot term_sets_after
sets_around sets = record { context = λ s. (sets, s); whole = λ s. Part (sets ++ s ∷ [], of_set.Nothing); slots = λ part. refl; same = sets_same }
  where
    sets_same : (names : Names) (part : TermSetPart) (token : Token) → IsSpokenOf token
        → term_sets_after names (sets, part) token ≡ around (λ s. Part (sets, s)) (λ s. Part (sets ++ s ∷ [], of_set.Nothing)) (term_set_after names part token)
    sets_same names of_set.Nothing Close h = absurd h
    sets_same names part token h = refl

sets_fits : (names : Names) (sets : List (ℕ × FormTerm)) (part : TermSetPart) → Fits sets_slot term_sets_after names (sets, part)
sets_fits names sets part = lifted set_slot term_set_after sets_slot term_sets_after (sets_around sets) names part (set_fits names part)

-- an item of a `write`
abbrev item_compute_around : Around expression_slot expression_after item_slot item_after
item_compute_around = record {
  context = of_item.Compute;
  whole = λ e. Whole (an_item.Put (a_term.Compute e));
  slots = λ part. refl;
  same = λ names part token h. refl;
}

item_fits : (names : Names) (part : ItemPart) → Fits item_slot item_after names part
item_fits names of_item.Nothing = record {
  says = (refl, refl);
  alike = inr (λ z. refl);
  operand = λ e. absurd (cc);
  no_operand = inr (inl refl);
  opened = inl refl;
  bound = λ word. tt;
}
item_fits names of_item.Head = record {
  says = ((a_keyword.Crlf, refl), refl);
  alike = inr (λ z. refl);
  operand = λ e. absurd (cc);
  no_operand = inr (inr tt);
  opened = tt;
  bound = tt;
}
item_fits names (of_item.Compute part) =
    lifted expression_slot expression_after item_slot item_after item_compute_around names part (expression_fits names part.outer part.inner)
item_fits names of_item.Tabto =
    record { says = (refl, refl); alike = inl refl; operand = λ e. absurd (cc); no_operand = inr (inr (λ word. refl)); opened = tt; bound = tt }
item_fits names of_item.Rjust =
    record { says = (refl, refl); alike = inl refl; operand = λ e. absurd (cc); no_operand = inr (inr (λ word. refl)); opened = tt; bound = tt }
item_fits names (of_item.Closing item) =
    record { says = refl; alike = inr (λ z. refl); operand = λ e. absurd (cc); no_operand = inr (inr tt); opened = tt; bound = tt }

-- settings, values and items within an action
abbrev make_around : (class : ℕ) → Around sets_slot term_sets_after action_slot action_after
make_around class = record {
  context = λ p. of_action.MakeSets class p.0 p.1;
  whole = λ sets. Whole (an_action.Make class sets);
  slots = λ part. refl;
  same = λ names part token h. refl;
}

abbrev modify_around : (at : At) → Around sets_slot term_sets_after action_slot action_after
modify_around at = record {
  context = λ p. of_action.ModifySets at p.0 p.1;
  whole = λ sets. Whole (an_action.Modify at sets);
  slots = λ part. refl;
  same = λ names part token h. refl;
}

abbrev bind_around : (name : ℕ) → Around value_slot term_after action_slot action_after
bind_around name = record {
  context = of_action.Bound name;
  whole = λ t. Part (of_action.Closing (an_action.Bind name t));
  slots = λ part. refl;
  same = λ names part token h. refl;
}

abbrev write_around : (items : List FormItem) → Around item_slot item_after action_slot action_after
write_around items =
    record { context = of_action.Write items; whole = λ i. Part (of_action.Write (items ++ i ∷ []) of_item.Nothing); slots = λ part. refl; same = write_same }
  where
    write_same : (names : Names) (part : ItemPart) (token : Token) → IsSpokenOf token
        → action_after names (of_action.Write items part) token
        ≡ around (λ i. Part (of_action.Write items i)) (λ i. Part (of_action.Write (items ++ i ∷ []) of_item.Nothing)) (item_after names part token)
    write_same names of_item.Nothing Close h = absurd h
    write_same names part token h = refl

pub action_fits : (names : Names) (part : ActionPart) → Fits action_slot action_after names part
action_fits names of_action.Nothing = record {
  says = refl;
  alike = inr (λ z. refl);
  operand = λ e. absurd (cc);
  no_operand = inr (inr tt);
  opened = inl refl;
  bound = λ word name. refl;
}
action_fits names of_action.Head = record {
  says = ((a_keyword.Make, refl), refl);
  alike = inr (λ z. refl);
  operand = λ e. absurd (cc);
  no_operand = inr (inr tt);
  opened = tt;
  bound = tt;
}
action_fits names of_action.Make =
    record { says = refl; alike = inr (λ z. refl); operand = λ e. absurd (cc); no_operand = inr (inl refl); opened = tt; bound = tt }
action_fits names (of_action.MakeSets class sets part) =
    lifted sets_slot term_sets_after action_slot action_after (make_around class) names (sets, part) (sets_fits names sets part)
action_fits names of_action.Modify =
    record { says = refl; alike = inr (λ z. refl); operand = λ e. absurd (cc); no_operand = inr (inr (λ word. refl)); opened = tt; bound = tt }
action_fits names (of_action.ModifySets at sets part) =
    lifted sets_slot term_sets_after action_slot action_after (modify_around at) names (sets, part) (sets_fits names sets part)
action_fits names (of_action.Remove ats) =
    record { says = refl; alike = inr (λ z. refl); operand = λ e. absurd (cc); no_operand = inr (inr (λ word. refl)); opened = tt; bound = tt }
action_fits names of_action.Bind =
    record { says = refl; alike = inr (λ z. refl); operand = λ e. absurd (cc); no_operand = inr (inr tt); opened = tt; bound = tt }
action_fits names (of_action.Bound name part) =
    lifted value_slot term_after action_slot action_after (bind_around name) names part (value_fits names part)
action_fits names (of_action.Write items part) =
    lifted item_slot item_after action_slot action_after (write_around items) names part (item_fits names part)
action_fits names (of_action.Closing action) =
    record { says = refl; alike = inr (λ z. refl); operand = λ e. absurd (cc); no_operand = inr (inr tt); opened = tt; bound = tt }
