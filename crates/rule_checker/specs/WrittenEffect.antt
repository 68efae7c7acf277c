-- The effect of a rule as it is written: what its actions change and write, or the first action that fails and why, over
-- names and values alone. What a firing does and how it fails is as in the effect of a checked rule.
use Rattle.std.specs.Prelude.{◌≡◌, ℕ, ◌+◌, List, [], ◌∷◌, ◌++◌, Bool, false, true, Option, None, Some, Result, Ok, Err, fold, length, replicate, unwrap_or}
use Rattle.rule_base.specs.declared.element.Element.{Element}
use Rattle.rule_base.specs.declared.program.Class.{Class}
use Rattle.rule_base.specs.declared.program.Rule.{Rule}
use Rattle.rule_base.specs.declared.change.Change.{Change}
use Rattle.rule_base.specs.declared.change.Change.TheVariants as change
use Rattle.rule_base.specs.declared.entry.FaultCause.{FaultCause}
use Rattle.rule_base.specs.declared.entry.FaultCause.TheVariants.{Gone}
use Rattle.rule_base.specs.Chains.{◌>>=◌}
use Rattle.rule_base.specs.Value.{nil}
use Rattle.rule_base.specs.Bindings.{Bindings}
use Rattle.rule_base.specs.Memory.{Memory, elements_at}
use Rattle.rule_base.specs.Match.{match_of}
use Rattle.rule_base.specs.Effect.{Effect, Failure, is_gone, of_action, effect}
use Rattle.ops_reader.specs.declared.form.FormTerm.{FormTerm}
use Rattle.ops_reader.specs.declared.form.FormCond.{FormCond}
use Rattle.ops_reader.specs.declared.form.FormAction.{FormAction}
use Rattle.ops_reader.specs.declared.form.FormAction.TheVariants as form_action
use Rattle.rule_checker.specs.Names.{number_in}
use Rattle.rule_checker.specs.Classes.{class_names, attributes_at}
use Rattle.rule_checker.specs.NamedBindings.{NamedValues, naming}
use Rattle.rule_checker.specs.WrittenTerms.{written_value, after_settings, written_pieces}
use Rattle.rule_checker.specs.Designators.{designated}
use Rattle.rule_checker.specs.WrittenRules.{WrittenRule}
use Rattle.rule_checker.specs.WrittenMatch.{written_match, AreOfClasses}

-- how far a right-hand side has come: its bindings, and what it has done
pub record WrittenProgress : Type 0 where
  pub bindings : NamedValues
  pub done : Effect

-- what was done, with further changes
abbrev pub with_changes : Effect → List Change → Effect
with_changes done more = record { changes = done.changes ++ more; pieces = done.pieces; halts = done.halts }

-- the number of the class with this name, which a checked rule declares
abbrev pub class_named : List Class → ℕ → ℕ
class_named classes name = unwrap_or (number_in (class_names classes) name) 0

-- a make of the class with this number: what isn't set is nil
abbrev pub made_of_class : List Class → ℕ → List (ℕ × FormTerm) → WrittenProgress → Result WrittenProgress FaultCause
made_of_class classes class sets p =
    after_settings (attributes_at classes class) p.bindings sets (replicate (length (attributes_at classes class)) nil) >>= λ values.
    Ok (record p { done = with_changes p.done (change.Make class values ∷ []) })

-- a modify of an element that isn't gone: it is removed, and made anew with its values, but for those that are set
abbrev pub modified_anew : List Class → Element → List (ℕ × FormTerm) → WrittenProgress → Result WrittenProgress FaultCause
modified_anew classes e sets p =
    after_settings (attributes_at classes e.class) p.bindings sets e.values >>= λ values.
    Ok (record p { done = with_changes p.done (change.Remove e.tag ∷ change.Make e.class values ∷ []) })

-- a modify of one that is gone fails before its settings are evaluated
abbrev pub modified_unless : Bool → Result WrittenProgress FaultCause → Result WrittenProgress FaultCause
modified_unless true after = Err Gone
modified_unless false after = after

-- a modify of the designated element; the designators of a checked rule have one
abbrev pub after_written_modify : List Class → Option Element → List (ℕ × FormTerm) → WrittenProgress → Result WrittenProgress FaultCause
after_written_modify classes None sets p = Err Gone
after_written_modify classes (Some e) sets p = modified_unless (is_gone e.tag p.done.changes) (modified_anew classes e sets p)

-- what was done, and the remove of an element, unless it is gone
abbrev pub removing : Bool → Element → Effect → Effect
removing true e done = done
removing false e done = with_changes done (change.Remove e.tag ∷ [])

-- a remove of the designated element; a second one does nothing
abbrev pub after_written_remove : Option Element → Effect → Effect
after_written_remove None done = done
after_written_remove (Some e) done = removing (is_gone e.tag done.changes) e done

-- one action of a rule with these condition elements, which match these elements
abbrev pub after_written_action : List Class → List FormCond → List Element → FormAction → WrittenProgress → Result WrittenProgress FaultCause
after_written_action classes conds elements (form_action.Make name sets) p = made_of_class classes (class_named classes name) sets p
after_written_action classes conds elements (form_action.Modify at sets) p = after_written_modify classes (designated conds elements at) sets p
after_written_action classes conds elements (form_action.Remove ats) p =
    Ok (record p { done = fold (λ done at. after_written_remove (designated conds elements at) done) p.done ats })
after_written_action classes conds elements (form_action.Bind name term) p =
    written_value p.bindings term >>= λ value. Ok (record p { bindings = naming p.bindings name value })
after_written_action classes conds elements (form_action.Write items) p =
    written_pieces p.bindings items >>= λ more.
    Ok (record p { done = record { changes = p.done.changes; pieces = p.done.pieces ++ more; halts = p.done.halts } })
after_written_action classes conds elements form_action.Halt p = Ok (record p { done = record { changes = p.done.changes; pieces = p.done.pieces; halts = true } })

-- the actions from this number on, in order
abbrev pub after_written_actions : ℕ → List Class → List FormCond → List Element → List FormAction → WrittenProgress → Result WrittenProgress Failure
after_written_actions number classes conds elements [] p = Ok p
after_written_actions number classes conds elements (first ∷ actions) p =
    of_action number (after_written_action classes conds elements first p) >>= after_written_actions (number + 1) classes conds elements actions

-- the effect of the written rule with these elements and the bindings of its match, or its first failing action
abbrev pub written_effect : List Class → WrittenRule → List Element → NamedValues → Result Effect Failure
written_effect classes written elements bindings =
    after_written_actions 1 classes written.conds elements written.actions (record { bindings = bindings; done = record { changes = []; pieces = []; halts = false } })
    >>= λ (p : WrittenProgress). Ok p.done

-- the effect of a rule is the one that is written, with every list of tags that it matches, in every memory for the classes
pub record HasWrittenEffect (classes : List Class) (written : WrittenRule) (rule : Rule) : Type 0 where
  pub same : (memory : Memory) (tags : List ℕ) (bindings : Bindings) (named : NamedValues) → AreOfClasses classes memory
      → match_of rule tags memory ≡ Ok bindings → written_match classes written tags memory ≡ Ok named
      → effect rule (elements_at memory tags) ≡ written_effect classes written (elements_at memory tags) named
