-- The effect of a firing: what the actions of a rule change and write, or the first action that fails and why.
-- It depends on the rule and on the elements of its positive condition elements alone.
use Rattle.std.specs.Prelude.{ℕ, ◌+◌, List, [], ◌∷◌, ◌++◌, Bool, true, false, if◌then◌else◌, Option, None, Some, Result, Ok, Err, fold, replicate, slice_get, unwrap_or, ◌==◌}
use Rattle.std.specs.List.{list_any, filter_map}
use Rattle.rule_base.specs.declared.element.Element.{Element}
use Rattle.rule_base.specs.declared.action.Term.{Term}
use Rattle.rule_base.specs.declared.action.Action.{Action}
use Rattle.rule_base.specs.declared.action.Action.TheVariants as action
use Rattle.rule_base.specs.declared.program.Rule.{Rule}
use Rattle.rule_base.specs.declared.change.Change.{Change}
use Rattle.rule_base.specs.declared.change.Change.TheVariants as change
use Rattle.rule_base.specs.declared.change.Piece.{Piece}
use Rattle.rule_base.specs.declared.entry.FaultCause.{FaultCause}
use Rattle.rule_base.specs.declared.entry.FaultCause.TheVariants.{Gone}
use Rattle.rule_base.specs.Chains.{◌>>=◌}
use Rattle.rule_base.specs.Value.{nil}
use Rattle.rule_base.specs.Bindings.{Bindings, no_bindings, bound}
use Rattle.rule_base.specs.ElementMatch.{bindings_with}
use Rattle.rule_base.specs.Term.{term_value, after_sets, item_pieces}

-- what a firing does
pub record Effect : Type 0 where
  pub changes : List Change
  pub pieces : List Piece
  pub halts : Bool

-- which action fails first, from 1, and why
pub record Failure : Type 0 where
  pub action : ℕ
  pub cause : FaultCause

-- how far a right-hand side has come: its bindings, and what it has done
pub record Progress : Type 0 where
  pub bindings : Bindings
  pub done : Effect

-- the tag that a change removes
abbrev pub removed_tag : Change → Option ℕ
removed_tag (change.Remove tag) = Some tag
removed_tag (change.Make class values) = None

-- the tags that changes remove, in order
abbrev pub removed_tags : List Change → List ℕ
removed_tags changes = filter_map removed_tag changes

-- whether the firing has removed or modified the element with this tag
abbrev pub is_gone : ℕ → List Change → Bool
is_gone tag changes = list_any (λ gone. gone == tag) (removed_tags changes)

-- the effect with further changes
abbrev pub changing : Progress → List Change → Progress
changing p more = record { bindings = p.bindings; done = record { changes = p.done.changes ++ more; pieces = p.done.pieces; halts = p.done.halts } }

-- a modify removes the element and makes one with its values, but for those that are set
abbrev pub modified : Element → List (ℕ × Term) → Progress → Result Progress FaultCause
modified e sets p = after_sets p.bindings sets e.values >>= λ values. Ok (changing p (change.Remove e.tag ∷ change.Make e.class values ∷ []))

-- a second modify, or one after a remove, fails before its settings are evaluated
abbrev pub unless_gone : Bool → Result Progress FaultCause → Result Progress FaultCause
unless_gone true after = Err Gone
unless_gone false after = after

-- a modify of the designated element; a sound rule's designators have one
abbrev pub after_modify : Option Element → List (ℕ × Term) → Progress → Result Progress FaultCause
after_modify None sets p = Err Gone
after_modify (Some e) sets p = unless_gone (is_gone e.tag p.done.changes) (modified e sets p)

-- a remove of the designated element; a second one does nothing
abbrev pub after_remove : Option Element → Progress → Progress
after_remove None p = p
after_remove (Some e) p = if is_gone e.tag p.done.changes then p else changing p (change.Remove e.tag ∷ [])

-- one action, over the elements that the designators count from 0
abbrev pub after_action : List Element → Action → Progress → Result Progress FaultCause
after_action elements (action.Make class size sets) p =
    after_sets p.bindings sets (replicate size nil) >>= λ values. Ok (changing p (change.Make class values ∷ []))
after_action elements (action.Modify at sets) p = after_modify (slice_get elements at) sets p
after_action elements (action.Remove ats) p = Ok (fold (λ before at. after_remove (slice_get elements at) before) p ats)
after_action elements (action.Bind var term) p = term_value p.bindings term >>= λ value. Ok (record p { bindings = bound p.bindings var value })
after_action elements (action.Write items) p =
    item_pieces p.bindings items >>= λ more.
    Ok (record p { done = record { changes = p.done.changes; pieces = p.done.pieces ++ more; halts = p.done.halts } })
after_action elements action.Halt p = Ok (record p { done = record { changes = p.done.changes; pieces = p.done.pieces; halts = true } })

-- a failure says which action it is
abbrev pub of_action : {A : Type 0} → ℕ → Result A FaultCause → Result A Failure
of_action number (Ok a) = Ok a
of_action number (Err cause) = Err (record { action = number; cause = cause })

-- the actions from this number on, in order
abbrev pub after_actions : ℕ → List Element → List Action → Progress → Result Progress Failure
after_actions number elements [] p = Ok p
after_actions number elements (first ∷ actions) p = of_action number (after_action elements first p) >>= after_actions (number + 1) elements actions

-- where a right-hand side begins: with the bindings of the match, and nothing done; a rule that doesn't match the
-- elements has no bindings, and never fires with them
abbrev pub beginning : Rule → List Element → Progress
beginning rule elements =
    record { bindings = unwrap_or (bindings_with rule elements) (no_bindings rule.vars); done = record { changes = []; pieces = []; halts = false } }

-- the effect of firing the rule with the elements of its positive condition elements, or its first failing action
abbrev pub effect : Rule → List Element → Result Effect Failure
effect rule elements = after_actions 1 elements rule.actions (beginning rule elements) >>= λ (p : Progress). Ok p.done
