-- The forms of the rows.
use Rattle.std.specs.Prelude.{ℕ, List, [], ◌∷◌, true, false, Some, None, pos}
use Rattle.rule_base.specs.declared.value.Value.TheVariants.{Int}
use Rattle.ops_reader.specs.declared.form.FormArg.TheVariants as arg
use Rattle.ops_reader.specs.declared.form.Simple.{Simple}
use Rattle.ops_reader.specs.declared.form.Simple.TheVariants as simple
use Rattle.ops_reader.specs.declared.form.At.TheVariants as at
use Rattle.ops_reader.specs.declared.form.FormTerm.{FormTerm}
use Rattle.ops_reader.specs.declared.form.FormTerm.TheVariants as term
use Rattle.ops_reader.specs.declared.form.FormItem.TheVariants as item
use Rattle.ops_reader.specs.declared.form.FormCond.{FormCond}
use Rattle.ops_reader.specs.declared.form.FormAction.{FormAction}
use Rattle.ops_reader.specs.declared.form.FormAction.TheVariants as action
use Rattle.ops_reader.specs.declared.form.Form.{Form}
use Rattle.ops_reader.specs.declared.form.Form.TheVariants as form

-- (literalize a x) and (literalize b y)
abbrev pub declare_a : Form
declare_a = form.Literalize 1 (2 ∷ [])

abbrev pub declare_b : Form
declare_b = form.Literalize 6 (7 ∷ [])

-- ^x <v>, ^y <v>, ^x <w> and ^y <w>
abbrev pub uses : ℕ → ℕ → ℕ × List Simple
uses attr name = (attr, simple.Plain (arg.Name name) ∷ [])

-- (class ..), -(class ..) and { <e> (class ..) }
abbrev pub positive : ℕ → List (ℕ × List Simple) → FormCond
positive class tests = record { negated = false; named = None; class = class; tests = tests }

abbrev pub negated : ℕ → List (ℕ × List Simple) → FormCond
negated class tests = record { negated = true; named = None; class = class; tests = tests }

abbrev pub named_e : ℕ → FormCond
named_e class = record { negated = false; named = Some 5; class = class; tests = [] }

-- (p r .. --> ..)
abbrev pub rule_r : List FormCond → List FormAction → Form
rule_r conds actions = form.P 3 conds actions

-- (write <name>), (bind <name> value), (remove n) and (modify <e> ^attr 1)
abbrev pub write : ℕ → FormAction
write name = action.Write (item.Put (term.Name name) ∷ [])

abbrev pub bind : ℕ → FormTerm → FormAction
bind name value = action.Bind name value

abbrev pub remove : ℕ → FormAction
remove n = action.Remove (at.Number (pos n) ∷ [])

abbrev pub modify_e : ℕ → FormAction
modify_e attr = action.Modify (at.Name 5) ((attr, term.Con (Int (pos 1))) ∷ [])
