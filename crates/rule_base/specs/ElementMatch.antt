-- The match of a rule with given elements: its positive condition elements alone, one element each and in order.
use Rattle.std.specs.Prelude.{List, [], ◌∷◌, Bool, true, false, Option, None, Some, option_map, option_and_then}
use Rattle.rule_base.specs.declared.element.Element.{Element}
use Rattle.rule_base.specs.declared.condition.Cond.{Cond}
use Rattle.rule_base.specs.declared.program.Rule.{Rule}
use Rattle.rule_base.specs.Bindings.{Bindings, no_bindings}
use Rattle.rule_base.specs.Acceptance.{accepts}

-- the elements that are left and the bindings after a condition element: a positive one must accept the next
-- element, a negated one is passed over
abbrev pub after_element : Bool → Cond → List Element → Bindings → Option (List Element × Bindings)
after_element true cond elements bindings = Some (elements, bindings)
after_element false cond [] bindings = None
after_element false cond (e ∷ elements) bindings = option_map (λ after. (elements, after)) (accepts cond bindings e)

-- the bindings with which the positive condition elements accept the elements, or none where one is refused,
-- missing or left over
abbrev pub matched : List Cond → List Element → Bindings → Option Bindings
matched [] [] bindings = Some bindings
matched [] (e ∷ elements) bindings = None
matched (cond ∷ conds) elements bindings =
    option_and_then (λ (after : List Element × Bindings). matched conds after.0 after.1) (after_element cond.negated cond elements bindings)

-- the bindings with which a rule's positive condition elements accept the elements
abbrev pub bindings_with : Rule → List Element → Option Bindings
bindings_with rule elements = matched rule.conds elements (no_bindings rule.vars)
