-- The rules of a text as they are written, and what is to be said of them and of those that they are checked to.
use Rattle.std.specs.Prelude.{◌≡◌, ℕ, List, [], ◌∷◌, Bool, true, false, Option, None, length}
use Rattle.std.specs.List.{flat_map}
use Rattle.rule_base.specs.declared.element.Element.{Element}
use Rattle.rule_base.specs.declared.condition.Cond.{Cond}
use Rattle.rule_base.specs.declared.program.Class.{Class}
use Rattle.rule_base.specs.declared.program.Rule.{Rule}
use Rattle.rule_base.specs.Bindings.{Bindings}
use Rattle.rule_base.specs.Memory.{HasSize}
use Rattle.rule_base.specs.Acceptance.{accepts}
use Rattle.rule_base.specs.Sound.{sizes_of}
use Rattle.ops_reader.specs.declared.form.FormCond.{FormCond}
use Rattle.ops_reader.specs.declared.form.FormAction.{FormAction}
use Rattle.ops_reader.specs.declared.form.Form.{Form}
use Rattle.ops_reader.specs.declared.form.Form.TheVariants as form
use Rattle.rule_checker.specs.NamedBindings.{NamedValues, SayTheSame, AgreeOn}
use Rattle.rule_checker.specs.WrittenConditions.{accepts_written}

-- a rule as it is written
pub record WrittenRule : Type 0 where
  pub name : ℕ
  pub conds : List FormCond
  pub actions : List FormAction

-- the rule of a `p`
abbrev pub rule_in : Form → List WrittenRule
rule_in (form.P name conds actions) = record { name = name; conds = conds; actions = actions } ∷ []
rule_in other = []

-- the rules of forms, in their order
abbrev pub written_rules : List Form → List WrittenRule
written_rules forms = flat_map rule_in forms

-- a condition element asks what is written: it has that sign, and of each element of a memory for these classes, under
-- bindings that say the same, it accepts what the written one accepts, and then the bindings say the same again. The
-- bindings are for so many variables; names have numbers, in front of it and behind it
pub record AsksWhatIsWritten (classes : List Class) (vars : ℕ) (front behind : ℕ → Option ℕ) (written : FormCond) (checked : Cond) : Type 0 where
  pub sign : checked.negated ≡ written.negated
  pub same : (e : Element) (bindings : Bindings) (named : NamedValues) → HasSize (sizes_of classes) e → length bindings ≡ vars → SayTheSame front bindings named
      → AgreeOn behind (accepts checked bindings e) (accepts_written classes written named e)

-- the numbers that names have behind a condition element: a negated one leaves those in front of it
abbrev pub numbers_behind : Bool → (ℕ → Option ℕ) → (ℕ → Option ℕ) → ℕ → Option ℕ
numbers_behind true front inside = front
numbers_behind false front inside = inside

-- condition elements ask what is written, from left to right, each with some numbers for the names of its variables
abbrev pub AllAskWhatIsWritten : List Class → ℕ → (ℕ → Option ℕ) → List FormCond → List Cond → Type 0
AllAskWhatIsWritten classes vars front [] [] = Unit {0}
AllAskWhatIsWritten classes vars front [] (cond ∷ conds) = ⊥
AllAskWhatIsWritten classes vars front (written ∷ others) [] = ⊥
AllAskWhatIsWritten classes vars front (written ∷ others) (cond ∷ conds) =
    (inside : ℕ → Option ℕ) × AsksWhatIsWritten classes vars front inside written cond
    × AllAskWhatIsWritten classes vars (numbers_behind written.negated front inside) others conds

-- no name has a number
abbrev pub no_numbers : ℕ → Option ℕ
no_numbers name = None

-- the condition elements of a rule ask what is written
abbrev pub HasWrittenConditions : List Class → WrittenRule → Rule → Type 0
HasWrittenConditions classes written rule = AllAskWhatIsWritten classes rule.vars no_numbers written.conds rule.conds
