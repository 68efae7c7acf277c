-- The choices that are fired, in their order.
use Rattle.std.specs.Prelude.{◌≡◌, List, ◌++◌, Bool, true, ◌&&◌}
use Rattle.std.specs.Cmp.Lexicographic.{slice_cmp}
use Rattle.std.specs.List.{list_any}
use Rattle.std.specs.List.Sorted.{IsStrictlySortedBy}
use Rattle.std.specs.Ordering.{nat_cmp, ordering_then}
use Rattle.std.specs.declared.cmp.Ordering.{Ordering}
use Rattle.rule_base.specs.declared.base.Base.{Base}
use Rattle.rule_base.specs.declared.base.Refraction.{Refraction}
use Rattle.rule_base.specs.declared.base.Refraction.TheVariants.{Once, Renewed}
use Rattle.rule_base.specs.declared.entry.Entry.{Entry}
use Rattle.rule_base.specs.declared.instantiation.Choice.{Choice}
use Rattle.rule_base.specs.declared.program.Program.{Program}
use Rattle.rule_base.specs.Memory.{Memory}
use Rattle.rule_base.specs.State.{State, choices_of, has_fired, same_choice}
use Rattle.rule_base.specs.Step.{matches}
use Rattle.firing_core.specs.Unfired.{is_fired_by}

-- which of two choices comes first: that of the lower rule; of the same rule, that whose tag is lower where their tags
-- first differ; and where the tags of one go on from those of the other, the shorter
abbrev pub choice_order : Choice → Choice → Ordering
choice_order c d = ordering_then (nat_cmp c.rule d.rule) (slice_cmp nat_cmp c.tags d.tags)

-- each choice comes before all later ones in that order, so that none stands there twice
abbrev pub AreInOrder : List Choice → Type 0
AreInOrder choices = IsStrictlySortedBy choice_order choices

-- these are the choices that are fired in the state, in their order
pub record AreFired (s : State) (choices : List Choice) : Type 0 where
  pub fired : (c : Choice) → list_any (same_choice c) choices ≡ has_fired s c
  pub order : AreInOrder choices

-- the choices that had fired before the journal begins, and then those of its entries
abbrev pub ever_fired : Base → List Entry → List Choice
ever_fired base entries = base.fired ++ choices_of entries

-- whether a choice can be fired in this memory: under `Renewed` only one that matches can
abbrev pub may_be_fired : Refraction → Program → Memory → Choice → Bool
may_be_fired Once program memory c = true
may_be_fired Renewed program memory c = matches program memory c

-- whether the choice, be it that it matches or not, is fired, where the run from the base has these entries
abbrev pub is_fired_now : Program → Base → Memory → List Entry → Choice → Bool
is_fired_now program base memory entries c = may_be_fired base.refraction program memory c && is_fired_by program base memory entries c
