-- The makes at top level as they are written, and the elements of an opening memory, over names and values alone.
use Rattle.std.specs.Prelude.{◌≡◌, ℕ, List, [], ◌∷◌, Some, fold, length, replicate, slice_get}
use Rattle.std.specs.List.{AllZip, flat_map}
use Rattle.rule_base.specs.declared.value.Value.{Value}
use Rattle.rule_base.specs.declared.element.Element.{Element}
use Rattle.rule_base.specs.declared.program.Class.{Class}
use Rattle.rule_base.specs.Value.{nil}
use Rattle.rule_base.specs.Memory.{tags_of}
use Rattle.rule_base.specs.Opening.{AreConsecutive}
use Rattle.ops_reader.specs.declared.form.Form.{Form}
use Rattle.ops_reader.specs.declared.form.Form.TheVariants as form
use Rattle.rule_checker.specs.WrittenTerms.{with_attribute_set}

-- a make as it is written: the name of its class, and attributes by name with their values
abbrev pub WrittenMake : Type 0
WrittenMake = ℕ × List (ℕ × Value)

-- the make of a form
abbrev pub make_in : Form → List WrittenMake
make_in (form.Make class sets) = (class, sets) ∷ []
make_in other = []

-- the makes at top level of forms, in their order
abbrev pub written_makes : List Form → List WrittenMake
written_makes forms = flat_map make_in forms

-- the values of these attributes once they are set in order: what isn't set is nil, and the last setting of one stands
abbrev pub written_values : List ℕ → List (ℕ × Value) → List Value
written_values attrs sets = fold (λ values (set : ℕ × Value). with_attribute_set attrs set.0 set.1 values) (replicate (length attrs) nil) sets

-- a make of a program with these classes is the one that is written
pub record IsWrittenMake (classes : List Class) (written : WrittenMake) (make : ℕ × List Value) : Type 0 where
  pub class : Class
  pub numbered : slice_get classes make.0 ≡ Some class
  pub named : class.name ≡ written.0
  pub values : make.1 ≡ written_values class.attrs written.1

-- an element is what a written make makes
abbrev pub IsWrittenElement : List Class → WrittenMake → Element → Type 0
IsWrittenElement classes written e = IsWrittenMake classes written (e.class, e.values)

-- elements are what written makes make, in their order, with the tags 1, 2, 3 and so on
pub record AreWrittenElements (classes : List Class) (written : List WrittenMake) (elements : List Element) : Type 0 where
  pub made : AllZip (IsWrittenElement classes) written elements
  pub tagged : AreConsecutive 1 (tags_of elements)
