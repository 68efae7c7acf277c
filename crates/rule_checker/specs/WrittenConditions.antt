-- What a written condition element asks of an element, over names and values alone.
use Rattle.std.specs.Prelude.{ℕ, List, [], ◌∷◌, Option, Some, slice_get, option_and_then, ◌==◌}
use Rattle.std.specs.List.{zip}
use Rattle.rule_base.specs.declared.value.Value.{Value}
use Rattle.rule_base.specs.declared.element.Element.{Element}
use Rattle.rule_base.specs.declared.program.Class.{Class}
use Rattle.rule_base.specs.Chains.{only_if}
use Rattle.ops_reader.specs.declared.form.Simple.{Simple}
use Rattle.ops_reader.specs.declared.form.FormCond.{FormCond}
use Rattle.rule_checker.specs.NamedBindings.{NamedValues, value_named}
use Rattle.rule_checker.specs.WrittenTests.{after_braces}

-- the bindings after the tests of one attribute, which are asked of the value of the attribute with this name
abbrev pub after_attribute : ℕ × List Simple → NamedValues → NamedValues → Option NamedValues
after_attribute written bindings attributes = option_and_then (after_braces written.1 bindings) (value_named attributes written.0)

-- the bindings after the tests of attributes, from left to right
abbrev pub after_attributes : List (ℕ × List Simple) → NamedValues → NamedValues → Option NamedValues
after_attributes [] bindings attributes = Some bindings
after_attributes (written ∷ others) bindings attributes = option_and_then (λ after. after_attributes others after attributes) (after_attribute written bindings attributes)

-- the values of an element of this class by the names of its attributes
abbrev pub attributes_in : Class → List Value → NamedValues
attributes_in class values = zip class.attrs values

-- the bindings with which a condition element accepts the values of an element of this class: the class has the name
-- that is written, and the tests are passed
abbrev pub accepts_values : FormCond → NamedValues → List Value → Class → Option NamedValues
accepts_values written bindings values class =
    option_and_then (λ given. after_attributes written.tests given (attributes_in class values)) (only_if (class.name == written.class) bindings)

-- the bindings with which the written condition element accepts the element, or none where it doesn't
abbrev pub accepts_written : List Class → FormCond → NamedValues → Element → Option NamedValues
accepts_written classes written bindings e = option_and_then (accepts_values written bindings e.values) (slice_get classes e.class)
