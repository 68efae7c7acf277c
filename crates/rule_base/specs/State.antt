-- The state of the recognise-act machine, and where it begins.
use Rattle.std.specs.Prelude.{◌≡◌, ℕ, ◌+◌, ◌<◌, List, [], Bool, false, length, map, ◌&&◌, ◌==◌}
use Rattle.std.specs.List.{AllByRecursion, list_any}
use Rattle.rule_base.specs.declared.element.Element.{Element}
use Rattle.rule_base.specs.declared.instantiation.Choice.{Choice}
use Rattle.rule_base.specs.declared.entry.Entry.{Entry}
use Rattle.rule_base.specs.declared.base.Refraction.{Refraction}
use Rattle.rule_base.specs.declared.base.Base.{Base}
use Rattle.rule_base.specs.Memory.{Memory, IsMemory}
use Rattle.rule_base.specs.Numbers.{same_numbers}

-- the working memory, the next time tag, the fired choices, which are those that stay fired, the journal's entries in
-- order, whether a firing has halted, and the refraction
pub record State : Type 0 where
  pub memory : Memory
  pub next : ℕ
  pub fired : List Choice
  pub entries : List Entry
  pub halted : Bool
  pub refraction : Refraction

-- a state over classes of these sizes: its memory is one, and each tag was given before the next
pub record IsState (sizes : List ℕ) (s : State) : Type 0 where
  pub elements : IsMemory sizes s.memory
  pub below : AllByRecursion (λ (e : Element). e.tag < s.next) s.memory

-- how many firings there were
abbrev pub count : State → ℕ
count s = length s.entries

-- the choices that a journal's entries fired, in order
abbrev pub choices_of : List Entry → List Choice
choices_of entries = map (λ (entry : Entry). entry.choice) entries

-- the state in which a run from a base begins: what the base has, no entry, and not halted
abbrev pub start : Base → State
start base =
    record { memory = base.elements; next = base.next; fired = base.fired; entries = []; halted = false; refraction = base.refraction }

-- the base of an opening: its elements have the tags from 1 on, the next tag is the one after them, and nothing has
-- fired
abbrev pub opening_base : Memory → Refraction → Base
opening_base elements refraction = record { elements = elements; next = length elements + 1; fired = []; refraction = refraction }

-- the state in which a run from an opening begins
abbrev pub opening : Memory → Refraction → State
opening elements refraction = start (opening_base elements refraction)

-- the base that a state gives, from which a run may go on with a journal of its own; whether a firing has halted is no
-- part of it, so that whoever goes on asks for that
abbrev pub base_of : State → Base
base_of s = record { elements = s.memory; next = s.next; fired = s.fired; refraction = s.refraction }

-- whether two choices are the same rule with the same tags
abbrev pub same_choice : Choice → Choice → Bool
same_choice c d = (c.rule == d.rule) && same_numbers c.tags d.tags

-- refraction: whether the choice, an instantiation told by its rule and its tags, is among the fired ones
abbrev pub has_fired : State → Choice → Bool
has_fired s c = list_any (same_choice c) s.fired

-- the choice is not among the fired ones
abbrev pub IsUnfired : State → Choice → Type 0
IsUnfired s c = has_fired s c ≡ false
