-- What the slots of the parts of an expression say of the tokens that may come next.
use Rattle.std.proofs.Common.{inl, inr, List, Bool, true, false, refl, length, nat_lt}
use Rattle.ops_text.specs.Names.{Names}
use Rattle.ops_reader.specs.declared.part.Before.{Before}
use Rattle.ops_reader.specs.declared.part.Inner.{Inner}
use Rattle.ops_reader.specs.declared.part.Inner.TheVariants as of_inner
use Rattle.ops_reader.specs.ExpressionReading.{parenthesis_opened, expression_after}
use Rattle.ops_reader.specs.Slot.{expression_slot}
use Rattle.ops_reader.proofs.Fits.{Fits, IfPart, IsOpened, LeadsToBind}

-- behind a parenthesis no word and no symbol may come next
parenthesis_opens : (allowed : Bool) (names : Names) (outer : List Before) (before : Before)
    → IfPart (parenthesis_opened allowed names outer before) (IsOpened expression_slot expression_after)
parenthesis_opens true names outer before = inr (inr (λ word key. refl))
parenthesis_opens false names outer before = tt

no_bind : (allowed : Bool) (names : Names) (outer : List Before) (before : Before)
    → IfPart (parenthesis_opened allowed names outer before) (LeadsToBind expression_slot expression_after)
no_bind true names outer before = λ word. tt
no_bind false names outer before = tt

pub expression_fits : (names : Names) (outer : List Before) (inner : Inner) → Fits expression_slot expression_after names (record { outer = outer; inner = inner })
expression_fits names outer (of_inner.Before before) = record {
  says = refl;
  alike = inr (λ z. refl);
  operand = λ e. (refl, refl);
  no_operand = inl refl;
  opened = parenthesis_opens (nat_lt (length outer) 32) names outer before;
  bound = no_bind (nat_lt (length outer) 32) names outer before;
}
expression_fits names outer (of_inner.Behind e) =
    record { says = refl; alike = inr (λ z. refl); operand = λ e. absurd (cc); no_operand = inr (inr tt); opened = tt; bound = tt }
