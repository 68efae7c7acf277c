-- The laws that tie a checked program and its opening memory to their texts, over names and values alone.
use Rattle.std.specs.Prelude.{◌≡◌, List, ◌++◌, Ok}
use Rattle.std.specs.List.{AllZip}
use Rattle.rule_base.specs.declared.element.Element.{Element}
use Rattle.rule_base.specs.declared.program.Class.{Class}
use Rattle.rule_base.specs.declared.program.Rule.{Rule}
use Rattle.rule_base.specs.declared.program.Program.{Program}
use Rattle.ops_reader.specs.declared.form.Form.{Form}
use Rattle.rule_checker.specs.Checked.{checked}
use Rattle.rule_checker.specs.Opening.{opening_list}
use Rattle.rule_checker.specs.WrittenRules.{WrittenRule, written_rules, HasWrittenConditions}
use Rattle.rule_checker.specs.WrittenMatch.{HasWrittenMatch}
use Rattle.rule_checker.specs.WrittenEffect.{HasWrittenEffect}
use Rattle.rule_checker.specs.WrittenFirings.{FiresWhatIsWritten}
use Rattle.rule_checker.specs.WrittenMakes.{written_makes, IsWrittenMake, AreWrittenElements}

-- a rule of a program with these classes means what is written
pub record MeansWhatIsWritten (classes : List Class) (written : WrittenRule) (rule : Rule) : Type 0 where
  pub name : rule.name ≡ written.name
  -- each condition element accepts the elements that the written one accepts
  pub conditions : HasWrittenConditions classes written rule
  -- the rule matches with the tags with which the written one matches
  pub matches : HasWrittenMatch classes written rule
  -- and then it changes and writes what is written
  pub acts : HasWrittenEffect classes written rule

-- the rules of a checked program are those of its forms, in their order, and each means what is written
abbrev pub RulesMeanWhatIsWritten : Type 0
RulesMeanWhatIsWritten = (forms : List Form) (program : Program) → checked forms ≡ Ok program
    → AllZip (MeansWhatIsWritten program.classes) (written_rules forms) program.rules

-- in every memory for its classes the choices of a checked program match and act as its forms say
abbrev pub ChoicesFireWhatIsWritten : Type 0
ChoicesFireWhatIsWritten = (forms : List Form) (program : Program) → checked forms ≡ Ok program → FiresWhatIsWritten (written_rules forms) program

-- the makes of a checked program are those of its forms, in their order
abbrev pub MakesAreWritten : Type 0
MakesAreWritten = (forms : List Form) (program : Program) → checked forms ≡ Ok program
    → AllZip (IsWrittenMake program.classes) (written_makes forms) program.makes

-- the opening memory has an element for each make of the program's forms and then of the memory file's, and no others
abbrev pub OpeningsAreWritten : Type 0
OpeningsAreWritten = (forms memory : List Form) (program : Program) (elements : List Element) → checked forms ≡ Ok program → opening_list program memory ≡ Ok elements
    → AreWrittenElements program.classes (written_makes forms ++ written_makes memory) elements
