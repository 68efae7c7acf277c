-- Laws of the match: the conflict set has the instantiations that match and no others, in rising order.
use Rattle.std.specs.Prelude.{◌≡◌, ℕ, List, [], ◌∷◌, Bool, true, false, ◌&&◌, ◌||◌, ◌==◌, nat_lt, Some, Ok}
use Rattle.std.specs.List.{AllByRecursion}
use Rattle.rule_base.specs.declared.instantiation.Choice.{Choice}
use Rattle.rule_base.specs.declared.program.Rule.{Rule}
use Rattle.rule_base.specs.declared.program.Program.{Program}
use Rattle.rule_base.specs.Memory.{Memory, Rises, elements_at, tags_of}
use Rattle.rule_base.specs.Bindings.{Bindings}
use Rattle.rule_base.specs.Match.{match_of}
use Rattle.rule_base.specs.ConflictSet.{conflict_set}
use Rattle.rule_base.specs.ElementMatch.{bindings_with}
use Rattle.rule_base.specs.Step.{is_listed, matches}

-- each choice of the conflict set matches, in a memory whose tags rise
abbrev pub EachMatches : Type 0
EachMatches = (program : Program) (memory : Memory) → Rises (tags_of memory)
    → AllByRecursion (λ (c : Choice). matches program memory c ≡ true) (conflict_set program memory)

-- each choice that matches is in the conflict set
abbrev pub EachMatchIsListed : Type 0
EachMatchIsListed = (program : Program) (memory : Memory) (c : Choice) → matches program memory c ≡ true → is_listed program memory c ≡ true

-- the bindings of a match are those with which its rule takes the elements that it matched
abbrev pub BindingsAreTheMatch : Type 0
BindingsAreTheMatch = (rule : Rule) (tags : List ℕ) (memory : Memory) (bindings : Bindings)
    → match_of rule tags memory ≡ Ok bindings → bindings_with rule (elements_at memory tags) ≡ Some bindings

-- whether tags come before others: at the first place where they differ the tag is less, or there is none
abbrev pub tags_before : List ℕ → List ℕ → Bool
tags_before [] [] = false
tags_before [] (n ∷ ns) = true
tags_before (m ∷ ms) [] = false
tags_before (m ∷ ms) (n ∷ ns) = nat_lt m n || ((m == n) && tags_before ms ns)

-- whether a choice comes before another: by its rule, and then by its tags
abbrev pub comes_before : Choice → Choice → Bool
comes_before c d = nat_lt c.rule d.rule || ((c.rule == d.rule) && tags_before c.tags d.tags)

-- each element comes before all that are later in the list
abbrev pub IsInOrder : {X : Type 0} → (X → X → Bool) → List X → Type 0
IsInOrder before [] = Unit {0}
IsInOrder before (x ∷ xs) = AllByRecursion (λ later. before x later ≡ true) xs × IsInOrder before xs

-- the conflict set is in order, in a memory whose tags rise
abbrev pub ConflictSetIsInOrder : Type 0
ConflictSetIsInOrder = (program : Program) (memory : Memory) → Rises (tags_of memory) → IsInOrder comes_before (conflict_set program memory)

-- no choice comes before itself, so that a list in order has each once
abbrev pub NoneBeforeItself : Type 0
NoneBeforeItself = (c : Choice) → comes_before c c ≡ false
