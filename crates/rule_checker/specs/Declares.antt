-- What the forms of a text declare, told without the rules of the language.
use Rattle.std.specs.Prelude.{◌≡◌, ℕ, List, [], ◌∷◌, Option, Some, map, slice_get}
use Rattle.std.specs.List.{flat_map}
use Rattle.rule_base.specs.declared.value.Value.{Value}
use Rattle.rule_base.specs.declared.program.Class.{Class}
use Rattle.rule_base.specs.declared.program.Program.{Program}
use Rattle.ops_reader.specs.declared.form.Form.{Form}
use Rattle.ops_reader.specs.declared.form.Form.TheVariants as form
use Rattle.rule_checker.specs.Classes.{class_names}
use Rattle.rule_checker.specs.Rules.{rule_names}

-- the class of a `literalize`, with its attributes
abbrev pub class_in : Form → List Class
class_in (form.Literalize class attrs) = record { name = class; attrs = attrs } ∷ []
class_in other = []

-- the name of a `p`
abbrev pub rule_name_in : Form → List ℕ
rule_name_in (form.P name conds actions) = name ∷ []
rule_name_in other = []

-- the class of which a `make` at top level makes an element, by its name
abbrev pub made_class_in : Form → List ℕ
made_class_in (form.Make class sets) = class ∷ []
made_class_in other = []

-- the name of the class of each make of a program, which has the class by its number
abbrev pub made_classes : Program → List (Option ℕ)
made_classes program = map (λ (make : ℕ × List Value). slice_get (class_names program.classes) make.0) program.makes

-- the program has the classes of the forms, their rules by name and their makes by class, in their order and no others
pub record DeclaresAll (forms : List Form) (program : Program) : Type 0 where
  pub classes : program.classes ≡ flat_map class_in forms
  pub rules : rule_names program.rules ≡ flat_map rule_name_in forms
  pub makes : made_classes program ≡ map Some (flat_map made_class_in forms)
