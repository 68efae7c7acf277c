-- The conflict set: every instantiation that matches, in rising order of rule and then of tags.
use Rattle.std.specs.Prelude.{ℕ, List, [], ◌∷◌, Bool, true, false, Option, Some, None, map, filter, flat_map, ◌==◌}
use Rattle.std.specs.List.{list_any, enumerate_from}
use Rattle.rule_base.specs.declared.element.Element.{Element}
use Rattle.rule_base.specs.declared.condition.Cond.{Cond}
use Rattle.rule_base.specs.declared.instantiation.Choice.{Choice}
use Rattle.rule_base.specs.declared.program.Rule.{Rule}
use Rattle.rule_base.specs.declared.program.Program.{Program}
use Rattle.rule_base.specs.Memory.{Memory}
use Rattle.rule_base.specs.Bindings.{Bindings, no_bindings}
use Rattle.rule_base.specs.Acceptance.{accepts}
use Rattle.rule_base.specs.Match.{accepts_some}

-- what follows for the bindings, if there are any
abbrev pub with_bindings : {A : Type 0} → (Bindings → List A) → Option Bindings → List A
with_bindings next None = []
with_bindings next (Some bindings) = next bindings

-- what follows, unless something stands in the way
abbrev pub unless : {A : Type 0} → Bool → (Bindings → List A) → Bindings → List A
unless true next bindings = []
unless false next bindings = next bindings

-- a negated condition element goes on where it accepts no element; a positive one puts the tag of each element
-- that it accepts, in order, before what follows
abbrev pub tags_by : Bool → Cond → Memory → Bindings → (Bindings → List (List ℕ)) → List (List ℕ)
tags_by true cond memory bindings next = unless (accepts_some cond bindings memory) next bindings
tags_by false cond memory bindings next = flat_map (λ (e : Element). map (λ tags. e.tag ∷ tags) (with_bindings next (accepts cond bindings e))) memory

-- the lists of tags that the condition elements accept under these bindings
abbrev pub tag_lists : List Cond → Memory → Bindings → List (List ℕ)
tag_lists [] memory bindings = [] ∷ []
tag_lists (cond ∷ conds) memory bindings = tags_by cond.negated cond memory bindings (λ after. tag_lists conds memory after)

-- the instantiations of one rule, which comes with its number: a choice is an instantiation told by the number of
-- its rule and the tags of its elements
abbrev pub instantiations : Memory → ℕ × Rule → List Choice
instantiations memory numbered =
    map (λ tags. record { rule = numbered.0; tags = tags }) (tag_lists numbered.1.conds memory (no_bindings numbered.1.vars))

-- the conflict set of a program over a memory
abbrev pub conflict_set : Program → Memory → List Choice
conflict_set program memory = flat_map (instantiations memory) (enumerate_from 0 program.rules)

-- its part for rules of these numbers
abbrev pub conflict_set_of : Program → Memory → List ℕ → List Choice
conflict_set_of program memory rules = filter (λ (c : Choice). list_any (λ rule. rule == c.rule) rules) (conflict_set program memory)
