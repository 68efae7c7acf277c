-- Reading: the values that elements have where a test looks for them.
use Rattle.std.specs.Prelude.{ℕ, List, slice_get, unwrap_or}
use Rattle.std.specs.Option.{option_map_or}
use Rattle.rule_base.specs.declared.value.Value.{Value}
use Rattle.rule_base.specs.declared.element.Element.{Element}
use Rattle.rule_base.specs.Value.{nil}
use Rattle.join_tests.specs.declared.joins.Source.{Source}

-- the element's value at an attribute, and nil where it has none
abbrev pub value_at : Element → ℕ → Value
value_at e attribute = unwrap_or (slice_get e.values attribute) nil

-- the value that lies at a source in elements for the positive condition elements, and nil where none lies there
abbrev pub value_in : List Element → Source → Value
value_in es source = option_map_or (λ (e : Element). value_at e source.attribute) (slice_get es source.condition) nil
