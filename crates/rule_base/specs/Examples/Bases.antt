-- Runs under both refractions, runs that begin from a base, and bases that are no lawful ones.
use Rattle.std.specs.Prelude.{◌≡◌, ℕ, List, [], ◌∷◌, ◌++◌, Bool, true, false, Option, Some, None, option_map, IsSomeAnd}
use Rattle.rule_base.specs.declared.value.Value.TheVariants.{Sym}
use Rattle.rule_base.specs.declared.instantiation.Choice.{Choice}
use Rattle.rule_base.specs.declared.action.Term.TheVariants.{Con}
use Rattle.rule_base.specs.declared.action.Item.TheVariants.{Put}
use Rattle.rule_base.specs.declared.action.Action.TheVariants as action
use Rattle.rule_base.specs.declared.entry.Ending.TheVariants.{Quiet, Spent}
use Rattle.rule_base.specs.declared.program.Rule.{Rule}
use Rattle.rule_base.specs.declared.program.Program.{Program}
use Rattle.rule_base.specs.declared.base.Base.{Base}
use Rattle.rule_base.specs.declared.base.Refraction.{Refraction}
use Rattle.rule_base.specs.declared.base.Refraction.TheVariants.{Once, Renewed}
use Rattle.rule_base.specs.Memory.{Memory}
use Rattle.rule_base.specs.State.{State, base_of, opening, start}
use Rattle.rule_base.specs.Run.{run}
use Rattle.rule_base.specs.Ending.{IsEnding, is_quiet}
use Rattle.rule_base.specs.Base.{IsLawfulBase}
use Rattle.rule_base.specs.Examples.Programs.{absent, element, present}
use Rattle.rule_base.specs.Examples.Matches.{choice}

-- (literalize a x) (literalize b x) (make a)
-- (p tick (a) -(b) --> (write tick) (make b))
-- (p clear (b) --> (write clear) (remove 1))
abbrev pub tick_rule : Rule
tick_rule = record {
  name = 4;
  vars = 0;
  positives = 1;
  conds = present 0 [] ∷ absent 1 [] ∷ [];
  actions = action.Write (Put (Con (Sym 4)) ∷ []) ∷ action.Make 1 1 [] ∷ [];
}

abbrev pub clear_rule : Rule
clear_rule = record {
  name = 5;
  vars = 0;
  positives = 1;
  conds = present 1 [] ∷ [];
  actions = action.Write (Put (Con (Sym 5)) ∷ []) ∷ action.Remove (0 ∷ []) ∷ [];
}

abbrev pub clock : Program
clock = record {
  classes = record { name = 1; attrs = 2 ∷ [] } ∷ record { name = 3; attrs = 2 ∷ [] } ∷ [];
  rules = tick_rule ∷ clear_rule ∷ [];
  makes = (0, Sym 0 ∷ []) ∷ [];
}

abbrev pub tick : ℕ → Choice
tick tag = choice 0 (tag ∷ [])

abbrev pub clear : ℕ → Choice
clear tag = choice 1 (tag ∷ [])

-- an a and a b with these tags
abbrev pub only_a : ℕ → Memory
only_a tag = element tag 0 (Sym 0 ∷ []) ∷ []

abbrev pub a_and_b : ℕ → ℕ → Memory
a_and_b tag other = element tag 0 (Sym 0 ∷ []) ∷ element other 1 (Sym 0 ∷ []) ∷ []

-- a base of the program
abbrev pub base : Memory → ℕ → List Choice → Refraction → Base
base elements next fired refraction = record { elements = elements; next = next; fired = fired; refraction = refraction }

-- the base that is left, and whether the run is quiet, after these firings from this base
abbrev pub base_after : Base → List Choice → Option (Base × Bool)
base_after from choices = option_map {U = Base × Bool} (λ (s : State). (base_of s, is_quiet clock s)) (run clock (start from) choices)

-- from the opening
abbrev pub after : Refraction → List Choice → Option (Base × Bool)
after refraction choices = base_after (base (only_a 1) 2 [] refraction) choices

pub record AreRenewals : Type 0 where
  pub begins : opening (only_a 1) Renewed ≡ start (base (only_a 1) 2 [] Renewed)
  pub first : after Once (tick 1 ∷ []) ≡ Some (base (a_and_b 1 2) 3 (tick 1 ∷ []) Once, false)
  -- `Once`: the second firing is the last, and both choices stay fired
  pub once : after Once (tick 1 ∷ clear 2 ∷ []) ≡ Some (base (only_a 1) 3 (tick 1 ∷ clear 2 ∷ []) Once, true)
  pub once_again : after Once (tick 1 ∷ clear 2 ∷ tick 1 ∷ []) ≡ None
  -- `Renewed`: b was in the way of tick, so it may fire again; clear has another tag each time
  pub stopped : after Renewed (tick 1 ∷ []) ≡ Some (base (a_and_b 1 2) 3 [] Renewed, false)
  pub renewed : after Renewed (tick 1 ∷ clear 2 ∷ []) ≡ Some (base (only_a 1) 3 [] Renewed, false)
  pub five : after Renewed (tick 1 ∷ clear 2 ∷ tick 1 ∷ clear 3 ∷ tick 1 ∷ []) ≡ Some (base (a_and_b 1 4) 5 [] Renewed, false)
  pub spent : IsSomeAnd (run clock (opening (only_a 1) Renewed) (tick 1 ∷ clear 2 ∷ tick 1 ∷ clear 3 ∷ tick 1 ∷ [])) (λ s. IsEnding clock 5 s (Spent 5))
  pub quiet : IsSomeAnd (run clock (opening (only_a 1) Once) (tick 1 ∷ clear 2 ∷ [])) (λ s. IsEnding clock 5 s Quiet)
  pub blocked : after Renewed (tick 1 ∷ tick 1 ∷ []) ≡ None
  pub cleared_twice : after Renewed (tick 1 ∷ clear 2 ∷ clear 2 ∷ []) ≡ None

-- (p see (a) --> (write see)), which nothing stops: it fires once under both
abbrev pub see_rule : Rule
see_rule = record { name = 6; vars = 0; positives = 1; conds = present 0 [] ∷ []; actions = action.Write (Put (Con (Sym 6)) ∷ []) ∷ [] }

abbrev pub watch : Program
watch = record { classes = clock.classes; rules = see_rule ∷ []; makes = [] }

-- what is left, and whether the run is quiet, after these firings of see
abbrev pub seen : Base → List Choice → Option (Base × Bool)
seen from choices = option_map {U = Base × Bool} (λ (s : State). (base_of s, is_quiet watch s)) (run watch (start from) choices)

-- (p look (a) -(b) --> (write look)) (p block (c) --> (make b)) (p clear (b) --> (write clear) (remove 1)), with classes
-- a, b and c
abbrev pub look_rule : Rule
look_rule = record { name = 7; vars = 0; positives = 1; conds = present 0 [] ∷ absent 1 [] ∷ []; actions = action.Write (Put (Con (Sym 7)) ∷ []) ∷ [] }

abbrev pub block_rule : Rule
block_rule = record { name = 8; vars = 0; positives = 1; conds = present 2 [] ∷ []; actions = action.Make 1 1 [] ∷ [] }

abbrev pub lookout : Program
lookout = record { classes = clock.classes ++ record { name = 9; attrs = 2 ∷ [] } ∷ []; rules = look_rule ∷ block_rule ∷ clear_rule ∷ []; makes = [] }

-- an a and a c, and what is left of them under `Renewed`, and whether the run is quiet, after these firings
abbrev pub looked : List Choice → Option (Base × Bool)
looked choices =
    option_map {U = Base × Bool} (λ (s : State). (base_of s, is_quiet lookout s)) (run lookout (start (base (element 1 0 (Sym 0 ∷ []) ∷ element 2 2 (Sym 0 ∷ []) ∷ []) 3 [] Renewed)) choices)

pub record AreForgotten : Type 0 where
  -- look goes on matching, so it stays fired
  pub stays : looked (choice 0 (1 ∷ []) ∷ []) ≡ Some (base (element 1 0 (Sym 0 ∷ []) ∷ element 2 2 (Sym 0 ∷ []) ∷ []) 3 (choice 0 (1 ∷ []) ∷ []) Renewed, false)
  -- another rule's firing stops it from matching, and so it is forgotten; that rule's own choice stays
  pub forgotten : looked (choice 0 (1 ∷ []) ∷ choice 1 (2 ∷ []) ∷ [])
      ≡ Some (base (element 1 0 (Sym 0 ∷ []) ∷ element 2 2 (Sym 0 ∷ []) ∷ element 3 1 (Sym 0 ∷ []) ∷ []) 4 (choice 1 (2 ∷ []) ∷ []) Renewed, false)
  pub anew : looked (choice 0 (1 ∷ []) ∷ choice 1 (2 ∷ []) ∷ choice 2 (3 ∷ []) ∷ choice 0 (1 ∷ []) ∷ [])
      ≡ Some (base (element 1 0 (Sym 0 ∷ []) ∷ element 2 2 (Sym 0 ∷ []) ∷ []) 4 (choice 1 (2 ∷ []) ∷ choice 0 (1 ∷ []) ∷ []) Renewed, true)
  pub not_before : looked (choice 0 (1 ∷ []) ∷ choice 0 (1 ∷ []) ∷ []) ≡ None

pub record AreFromBases : Type 0 where
  -- what has fired before the run doesn't fire in it
  pub fired_before : base_after (base (only_a 1) 2 (tick 1 ∷ []) Once) [] ≡ Some (base (only_a 1) 2 (tick 1 ∷ []) Once, true)
  pub not_again : base_after (base (only_a 1) 2 (tick 1 ∷ []) Once) (tick 1 ∷ []) ≡ None
  -- unless it has stopped matching: b with tag 5 stood in the way, and has gone
  pub anew : base_after (base (a_and_b 1 5) 7 [] Renewed) (clear 5 ∷ tick 1 ∷ []) ≡ Some (base (a_and_b 1 7) 8 [] Renewed, false)
  pub no_more : base_after (base (a_and_b 1 5) 7 (tick 1 ∷ []) Once) (clear 5 ∷ tick 1 ∷ []) ≡ None
  -- a choice that goes on matching stays fired under both
  pub stays : seen (base (only_a 3) 9 [] Renewed) (choice 0 (3 ∷ []) ∷ []) ≡ Some (base (only_a 3) 9 (choice 0 (3 ∷ []) ∷ []) Renewed, true)
  pub seen_once : seen (base (only_a 3) 9 [] Renewed) (choice 0 (3 ∷ []) ∷ choice 0 (3 ∷ []) ∷ []) ≡ None
  pub seen_before : seen (base (only_a 3) 9 (choice 0 (3 ∷ []) ∷ []) Renewed) [] ≡ Some (base (only_a 3) 9 (choice 0 (3 ∷ []) ∷ []) Renewed, true)
  -- a tag below the next one is never given again, though nothing has it
  pub next_tag : base_after (base (only_a 1) 9 [] Once) (tick 1 ∷ []) ≡ Some (base (a_and_b 1 9) 10 (tick 1 ∷ []) Once, false)

pub record AreLawful : Type 0 where
  pub empty : IsLawfulBase clock (base [] 1 [] Once)
  pub fired : IsLawfulBase clock (base (only_a 1) 3 (tick 1 ∷ clear 2 ∷ []) Once)
  -- under `Once` what has fired needn't match, nor its elements be there
  pub gone : IsLawfulBase clock (base [] 3 (tick 1 ∷ clear 2 ∷ []) Once)
  pub matching : IsLawfulBase clock (base (only_a 1) 3 (tick 1 ∷ []) Renewed)
  pub last_tag : IsLawfulBase clock (base (only_a 9223372036854775806) 9223372036854775807 [] Once)

pub record AreUnlawful : Type 0 where
  pub falling : IsLawfulBase clock (base (a_and_b 2 1) 3 [] Once) → ⊥
  pub same_tag : IsLawfulBase clock (base (a_and_b 1 1) 3 [] Once) → ⊥
  pub unknown_class : IsLawfulBase clock (base (element 1 2 (Sym 0 ∷ []) ∷ []) 2 [] Once) → ⊥
  pub no_value : IsLawfulBase clock (base (element 1 0 [] ∷ []) 2 [] Once) → ⊥
  pub tag_zero : IsLawfulBase clock (base (only_a 0) 2 [] Once) → ⊥
  pub tag_not_given : IsLawfulBase clock (base (only_a 2) 2 [] Once) → ⊥
  pub next_zero : IsLawfulBase clock (base [] 0 [] Once) → ⊥
  pub next_too_large : IsLawfulBase clock (base [] 9223372036854775808 [] Once) → ⊥
  pub fired_twice : IsLawfulBase clock (base (only_a 1) 2 (tick 1 ∷ tick 1 ∷ []) Once) → ⊥
  pub no_such_rule : IsLawfulBase clock (base (only_a 1) 2 (choice 2 (1 ∷ []) ∷ []) Once) → ⊥
  pub too_many_tags : IsLawfulBase clock (base (only_a 1) 3 (choice 0 (1 ∷ 2 ∷ []) ∷ []) Once) → ⊥
  pub no_tag : IsLawfulBase clock (base (only_a 1) 2 (choice 0 [] ∷ []) Once) → ⊥
  pub fired_zero : IsLawfulBase clock (base (only_a 1) 2 (tick 0 ∷ []) Once) → ⊥
  pub fired_not_given : IsLawfulBase clock (base (only_a 1) 2 (tick 2 ∷ []) Once) → ⊥
  pub blocked : IsLawfulBase clock (base (a_and_b 1 2) 3 (tick 1 ∷ []) Renewed) → ⊥
  pub gone : IsLawfulBase clock (base [] 2 (tick 1 ∷ []) Renewed) → ⊥
