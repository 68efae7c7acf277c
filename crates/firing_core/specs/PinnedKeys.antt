-- The attributes by which negated condition elements pin the elements that they accept, and the keys to which they pin them.
use Rattle.std.specs.Prelude.{◌≡◌, ℕ, ◌<◌, List, [], Bool, ◌&&◌, ◌||◌, false, Option, None, length, option_and_then, slice_get, unwrap_or, ◌==◌}
use Rattle.std.specs.List.{list_any}
use Rattle.rule_base.specs.declared.value.Value.{Value}
use Rattle.rule_base.specs.declared.condition.Cond.{Cond}
use Rattle.rule_base.specs.declared.condition.Test.{Test}
use Rattle.rule_base.specs.declared.condition.Test.TheVariants.{Bind, Cmp, OneOf}
use Rattle.rule_base.specs.declared.program.Rule.{Rule}
use Rattle.rule_base.specs.Acceptance.{compared_with}
use Rattle.rule_base.specs.Bindings.{Bindings}
use Rattle.rule_base.specs.Numbers.{has_number}
use Rattle.rule_base.specs.Chains.{only_if, first_answer}
use Rattle.working_memory.specs.declared.groups.Key.{Key}
use Rattle.rule_base.specs.Predicate.{is_equality}

-- whether a test compares an attribute by `=`
abbrev pub compares : ℕ → Test → Bool
compares attr (Bind at var) = false
compares attr (Cmp at pred arg) = is_equality pred && (at == attr)
compares attr (OneOf at among) = false

-- whether a condition element is a negated one of a class, and one of its tests compares an attribute by `=`
abbrev pub pins_of : ℕ → ℕ → Cond → Bool
pins_of class attr cond = cond.negated && (cond.class == class) && list_any (compares attr) cond.tests

-- whether one of a rule's, or of some rules', is such
abbrev pub rule_pins : ℕ → ℕ → Rule → Bool
rule_pins class attr rule = list_any (pins_of class attr) rule.conds

abbrev pub is_pinned : List Rule → ℕ → ℕ → Bool
is_pinned rules class attr = list_any (rule_pins class attr) rules

-- attributes are those of a list and, further, those that pass a test
abbrev pub AreWith : (ℕ → Bool) → List ℕ → List ℕ → Type 0
AreWith more old new = (attr : ℕ) → has_number new attr ≡ (has_number old attr || more attr)

-- whether elements of a class are grouped by an attribute, where each class has these attributes
abbrev pub is_grouped : List (List ℕ) → ℕ → ℕ → Bool
is_grouped attributes class attr = has_number (unwrap_or (slice_get attributes class) []) attr

-- each of so many classes has the attributes that are pinned in the rules
pub record AreOfRules (rules : List Rule) (classes : ℕ) (attributes : List (List ℕ)) : Type 0 where
  pub counted : length attributes ≡ classes
  pub pinned : (class attr : ℕ) → class < classes → is_grouped attributes class attr ≡ is_pinned rules class attr

-- the key that all elements have which pass a test of a class, if the test compares a grouped attribute by `=` with a value that is known
abbrev pub key_by : List (List ℕ) → ℕ → Bindings → Test → Option Key
key_by attributes class bindings (Bind attr var) = None
key_by attributes class bindings (Cmp attr pred arg) =
    option_and_then (λ (v : Value). only_if (is_equality pred && is_grouped attributes class attr) (record { class = class; attribute = attr; value = v })) (compared_with arg bindings)
key_by attributes class bindings (OneOf attr among) = None

-- the same of the first test of a condition element that gives one
abbrev pub pinned_key : List (List ℕ) → Bindings → Cond → Option Key
pinned_key attributes bindings cond = first_answer (key_by attributes cond.class bindings) cond.tests
