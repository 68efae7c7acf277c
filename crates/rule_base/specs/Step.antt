-- One recognise-act step: an unfired choice that matches fires, and its effect is committed.
use Rattle.std.specs.Prelude.{ℕ, ◌+◌, List, [], ◌∷◌, ◌++◌, Bool, false, not, ◌&&◌, ◌||◌, ◌==◌, Option, Result, length, map, filter, is_ok, slice_get, option_map, option_and_then}
use Rattle.std.specs.List.{list_any}
use Rattle.std.specs.Option.{option_map_or}
use Rattle.std.specs.Result.{result_ok}
use Rattle.rule_base.specs.declared.element.Element.{Element}
use Rattle.rule_base.specs.declared.instantiation.Choice.{Choice}
use Rattle.rule_base.specs.declared.change.Change.{Change}
use Rattle.rule_base.specs.declared.change.Change.TheVariants.{Remove, Make}
use Rattle.rule_base.specs.declared.change.Tagged.TheVariants.{Gone, Born}
use Rattle.rule_base.specs.declared.entry.Entry.{Entry}
use Rattle.rule_base.specs.declared.program.Rule.{Rule}
use Rattle.rule_base.specs.declared.program.Program.{Program}
use Rattle.rule_base.specs.declared.base.Refraction.{Refraction}
use Rattle.rule_base.specs.declared.base.Refraction.TheVariants.{Once, Renewed}
use Rattle.rule_base.specs.Chains.{only_if}
use Rattle.rule_base.specs.Memory.{Memory, elements_at}
use Rattle.rule_base.specs.Match.{match_of}
use Rattle.rule_base.specs.ConflictSet.{conflict_set}
use Rattle.rule_base.specs.Effect.{Effect, Failure, effect, removed_tags}
use Rattle.rule_base.specs.State.{State, has_fired, same_choice}

-- the elements that the makes among changes make, with consecutive tags from this one on, in order
abbrev pub born : ℕ → List Change → List Element
born tag [] = []
born tag (Remove gone ∷ changes) = born tag changes
born tag (Make class values ∷ changes) = record { tag = tag; class = class; values = values } ∷ born (tag + 1) changes

-- the memory without the elements with these tags
abbrev pub without : Memory → List ℕ → Memory
without memory tags = filter (λ (e : Element). not (list_any (λ tag. tag == e.tag) tags)) memory

-- the journal's entry of a firing: what went, and then what came
abbrev pub entry_of : ℕ → Choice → Effect → Entry
entry_of tag c done = record {
  choice = c;
  changes = map Gone (removed_tags done.changes) ++ map Born (born tag done.changes);
  pieces = done.pieces;
  halts = done.halts;
}

-- the memory after a commit: all removals come first, and then the makes get the next tags
abbrev pub memory_after : State → Effect → Memory
memory_after s done = without s.memory (removed_tags done.changes) ++ born s.next done.changes

-- whether the choice is in the conflict set
abbrev pub is_listed : Program → Memory → Choice → Bool
is_listed program memory c = list_any (same_choice c) (conflict_set program memory)

-- of the choices that have fired, those that stay fired in this memory: under `Renewed` only what is in the conflict
-- set does, so that a choice which stops matching may fire again
abbrev pub still_fired : Refraction → Program → Memory → List Choice → List Choice
still_fired Once program memory fired = fired
still_fired Renewed program memory fired = filter (is_listed program memory) fired

-- the state after a commit
abbrev pub committed : Program → State → Choice → Effect → State
committed program s c done = record {
  memory = memory_after s done;
  next = s.next + length (born s.next done.changes);
  fired = still_fired s.refraction program (memory_after s done) (s.fired ++ c ∷ []);
  entries = s.entries ++ entry_of s.next c done ∷ [];
  halted = s.halted || done.halts;
  refraction = s.refraction;
}

-- whether the choice matches: there is its rule, and the rule's match succeeds
abbrev pub matches : Program → Memory → Choice → Bool
matches program memory c = option_map_or (λ (rule : Rule). is_ok (match_of rule c.tags memory)) (slice_get program.rules c.rule) false

-- the effect of a choice with the elements that its tags have, or its first failing action
abbrev pub effect_of : Program → Memory → Choice → Option (Result Effect Failure)
effect_of program memory c = option_map (λ (rule : Rule). effect rule (elements_at memory c.tags)) (slice_get program.rules c.rule)

-- whether the machine may fire the choice
abbrev pub may_fire : Program → State → Choice → Bool
may_fire program s c = not s.halted && matches program s.memory c && not (has_fired s c)

-- the state after firing the choice, where the machine may fire it and its effect doesn't fail
abbrev pub step : Program → State → Choice → Option State
step program s c =
    option_and_then (λ done. only_if (may_fire program s c) (committed program s c done)) (option_and_then result_ok (effect_of program s.memory c))
