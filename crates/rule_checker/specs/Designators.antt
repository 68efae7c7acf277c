-- The elements that the designators of written actions stand for: those that the positive condition elements match, in
-- order, by number or by element variable.
use Rattle.std.specs.Prelude.{ℕ, List, [], ◌∷◌, Bool, true, false, nat_eq, pos, negsuc, zero, suc, Option, None, Some, slice_get}
use Rattle.std.specs.Map.{lookup}
use Rattle.rule_base.specs.declared.element.Element.{Element}
use Rattle.ops_reader.specs.declared.form.At.{At}
use Rattle.ops_reader.specs.declared.form.At.TheVariants as at
use Rattle.ops_reader.specs.declared.form.FormCond.{FormCond}

-- an element that may have a name, and others
abbrev pub named_first : Option ℕ → Element → List (ℕ × Element) → List (ℕ × Element)
named_first None e others = others
named_first (Some name) e others = (name, e) ∷ others

-- a positive condition element takes the next element, and a negated one takes none
abbrev pub named_next : Bool → Option ℕ → (List Element → List (ℕ × Element)) → List Element → List (ℕ × Element)
named_next true named others elements = others elements
named_next false named others [] = []
named_next false named others (e ∷ elements) = named_first named e (others elements)

-- the element variables of condition elements, each with the element that it names
abbrev pub named_elements : List FormCond → List Element → List (ℕ × Element)
named_elements [] elements = []
named_elements (written ∷ others) elements = named_next written.negated written.named (named_elements others) elements

-- the element that a designator stands for: numbers count from 1
abbrev pub designated : List FormCond → List Element → At → Option Element
designated conds elements (at.Number (pos zero)) = None
designated conds elements (at.Number (pos (suc place))) = slice_get elements place
designated conds elements (at.Number (negsuc n)) = None
designated conds elements (at.Name name) = lookup (nat_eq name) (named_elements conds elements)
