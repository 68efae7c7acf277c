-- The rules of `literalize`, and how later forms find a class and its attributes.
use Rattle.std.specs.Prelude.{ℕ, List, [], ◌∷◌, ◌++◌, is_some, length, map, nat_le, slice_get, Result, Ok}
use Rattle.std.specs.Option.{option_map_or}
use Rattle.rule_base.specs.declared.program.Class.{Class}
use Rattle.rule_base.specs.Chains.{◌>>=◌}
use Rattle.rule_checker.specs.declared.refusal.CheckKind.{CheckKind}
use Rattle.rule_checker.specs.declared.refusal.CheckKind.TheVariants.{UnknownClass, UnknownAttribute, Twice, TooMany}
use Rattle.rule_checker.specs.Names.{number_in}
use Rattle.rule_checker.specs.Walk.{refused_if, found_or, after_each}

-- the names of classes
abbrev pub class_names : List Class → List ℕ
class_names classes = map (λ (c : Class). c.name) classes

-- the class isn't declared yet
abbrev pub not_yet_declared : List Class → ℕ → Result (Unit {0}) CheckKind
not_yet_declared classes name = refused_if (is_some (number_in (class_names classes) name)) Twice

-- it is at most the 256th class
abbrev pub few_classes : List Class → Result (Unit {0}) CheckKind
few_classes classes = refused_if (nat_le 256 (length classes)) TooMany

-- no attribute is repeated in the form
abbrev pub new_attribute : List ℕ → ℕ → Result (Unit {0}) CheckKind
new_attribute attrs name = refused_if (is_some (number_in attrs name)) Twice

-- each attribute is at most the 64th
abbrev pub few_attributes : List ℕ → Result (Unit {0}) CheckKind
few_attributes attrs = refused_if (nat_le 64 (length attrs)) TooMany

-- the attributes of a class with one more
abbrev pub with_attribute : List ℕ → ℕ → Result (List ℕ) CheckKind
with_attribute attrs name = new_attribute attrs name >>= λ _. few_attributes attrs >>= λ _. Ok (attrs ++ name ∷ [])

-- the classes with one more
abbrev pub with_class : List Class → ℕ → List ℕ → Result (List Class) CheckKind
with_class classes name attrs =
    not_yet_declared classes name >>= λ _. few_classes classes >>= λ _.
    after_each with_attribute [] attrs >>= λ own. Ok (classes ++ record { name = name; attrs = own } ∷ [])

-- the class is declared: its number
abbrev pub declared_class : List Class → ℕ → Result ℕ CheckKind
declared_class classes name = found_or (number_in (class_names classes) name) UnknownClass

-- the attributes of the class with this number
abbrev pub attributes_at : List Class → ℕ → List ℕ
attributes_at classes number = option_map_or (λ (c : Class). c.attrs) (slice_get classes number) []

-- the attribute is the class's: its number
abbrev pub has_attribute : List ℕ → ℕ → Result ℕ CheckKind
has_attribute attrs name = found_or (number_in attrs name) UnknownAttribute
