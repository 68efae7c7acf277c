-- Steps, runs and endings of small programs.
use Rattle.std.specs.Prelude.{◌≡◌, ℕ, List, [], ◌∷◌, Bool, true, pos, Option, Some, None, option_map, IsSomeAnd}
use Rattle.rule_base.specs.declared.value.Value.TheVariants.{Sym}
use Rattle.rule_base.specs.declared.instantiation.Choice.{Choice}
use Rattle.rule_base.specs.declared.action.Term.TheVariants.{Con, Compute}
use Rattle.rule_base.specs.declared.action.Item.TheVariants.{Put}
use Rattle.rule_base.specs.declared.action.Action.{Action}
use Rattle.rule_base.specs.declared.action.Action.TheVariants as action
use Rattle.rule_base.specs.declared.change.Piece.TheVariants as piece
use Rattle.rule_base.specs.declared.change.Tagged.{Tagged}
use Rattle.rule_base.specs.declared.change.Tagged.TheVariants.{Gone, Born}
use Rattle.rule_base.specs.declared.expression.Op.TheVariants.{Sub, Div}
use Rattle.rule_base.specs.declared.expression.Expr.{Expr}
use Rattle.rule_base.specs.declared.entry.Entry.{Entry}
use Rattle.rule_base.specs.declared.entry.FaultCause.TheVariants.{DivideByZero}
use Rattle.rule_base.specs.declared.entry.Ending.TheVariants.{Quiet, Halted, Spent, Fault}
use Rattle.rule_base.specs.declared.program.Program.{Program}
use Rattle.rule_base.specs.declared.base.Refraction.TheVariants.{Once}
use Rattle.rule_base.specs.Memory.{Memory}
use Rattle.rule_base.specs.Expression.{Tree, single, joined, number, variable, tree_of}
use Rattle.rule_base.specs.State.{State, opening}
use Rattle.rule_base.specs.Run.{run}
use Rattle.rule_base.specs.Ending.{IsEnding, is_quiet}
use Rattle.rule_base.specs.Examples.Programs.{int, element, present, plain_rule, blocked, either, once, ranges, find_block, blocks, down}
use Rattle.rule_base.specs.Examples.Matches.{choice, beside, four}

-- a program of one rule over one class with one attribute
abbrev pub plain : List Action → Program
plain actions = record { classes = record { name = 1; attrs = 2 ∷ [] } ∷ []; rules = plain_rule actions ∷ []; makes = [] }

-- memory, next tag and whether the run is quiet, after these firings from this opening
abbrev pub after : Program → Memory → List Choice → Option (Memory × ℕ × Bool)
after program memory choices = option_map (λ (s : State). (s.memory, s.next, is_quiet program s)) (run program (opening memory Once) choices)

-- the journal's changes after these firings
abbrev pub journal : Program → Memory → List Choice → Option (List (List Tagged))
journal program memory choices = option_map (λ (s : State). changes_of s.entries) (run program (opening memory Once) choices)
  where
    changes_of : List Entry → List (List Tagged)
    changes_of [] = []
    changes_of (entry ∷ entries) = entry.changes ∷ changes_of entries

abbrev pub sevens : Memory
sevens = element 1 0 (int 7 ∷ []) ∷ element 2 0 (int 7 ∷ []) ∷ []

pub record AreRuns : Type 0 where
  pub nothing_fires : after blocked beside [] ≡ Some (beside, 3, true)
  pub blocked_one_fires : after blocked beside (choice 0 (1 ∷ []) ∷ []) ≡ None
  -- left and right block each other: after one of them the run is quiet
  pub left_fires : after either (element 1 0 (int 1 ∷ []) ∷ []) (choice 0 (1 ∷ []) ∷ []) ≡ Some (element 1 0 (int 1 ∷ []) ∷ element 2 1 (Sym 0 ∷ []) ∷ [], 3, true)
  pub right_fires : after either (element 1 0 (int 1 ∷ []) ∷ []) (choice 1 (1 ∷ []) ∷ []) ≡ Some (element 1 0 (int 1 ∷ []) ∷ element 2 2 (Sym 0 ∷ []) ∷ [], 3, true)
  pub both_fire : after either (element 1 0 (int 1 ∷ []) ∷ []) (choice 0 (1 ∷ []) ∷ choice 1 (1 ∷ []) ∷ []) ≡ None
  -- one of two items with one key is done
  pub once_for_a_key : after once sevens (choice 0 (2 ∷ []) ∷ []) ≡ Some (element 1 0 (int 7 ∷ []) ∷ element 2 0 (int 7 ∷ []) ∷ element 3 1 (int 7 ∷ []) ∷ [], 4, true)
  pub twice_for_a_key : after once sevens (choice 0 (2 ∷ []) ∷ choice 0 (1 ∷ []) ∷ []) ≡ None
  pub two_rules : after ranges four (choice 2 (4 ∷ []) ∷ choice 1 (1 ∷ []) ∷ [])
      ≡ Some (element 1 0 (int 4 ∷ []) ∷ element 2 0 (int 5 ∷ []) ∷ element 3 0 (int 9 ∷ []) ∷ [], 5, true)
  pub satisfied : after find_block blocks (choice 0 (1 ∷ 3 ∷ []) ∷ [])
      ≡ Some (element 2 1 (Sym 11 ∷ Sym 12 ∷ []) ∷ element 3 1 (Sym 13 ∷ Sym 10 ∷ []) ∷ element 4 0 (Sym 8 ∷ Sym 15 ∷ Sym 6 ∷ Sym 10 ∷ []) ∷ [], 5, true)
  -- refraction: what has fired doesn't fire again, though it still matches
  pub fired_again : after (plain []) (element 1 0 (Sym 0 ∷ []) ∷ []) (choice 0 (1 ∷ []) ∷ choice 0 (1 ∷ []) ∷ []) ≡ None
  pub no_such_rule : after (plain []) (element 1 0 (Sym 0 ∷ []) ∷ []) (choice 1 (1 ∷ []) ∷ []) ≡ None
  -- a failing firing changes nothing, and is no step
  pub failing : (e : Expr) → tree_of e ≡ joined (number (pos 1)) Div (single (number (pos 0)))
      → after (plain (action.Make 0 1 [] ∷ action.Bind 0 (Compute e) ∷ [])) (element 1 0 (Sym 0 ∷ []) ∷ []) (choice 0 (1 ∷ []) ∷ []) ≡ None

-- (make a ^x 5) (modify 1 ^x 6) (remove 2): all removals come first, and then the makes get tags in action order
abbrev pub mixed : Program
mixed = record {
  classes = record { name = 1; attrs = 2 ∷ [] } ∷ [];
  rules = record { name = 9; vars = 0; positives = 2; conds = present 0 [] ∷ present 0 [] ∷ []; actions = action.Make 0 1 ((0, Con (int 5)) ∷ []) ∷ action.Modify 0 ((0, Con (int 6)) ∷ []) ∷ action.Remove (1 ∷ []) ∷ [] } ∷ [];
  makes = [];
}

pub record AreTags : Type 0 where
  pub changes : journal mixed sevens (choice 0 (1 ∷ 2 ∷ []) ∷ []) ≡ Some ((Gone 1 ∷ Gone 2 ∷ Born (element 3 0 (int 5 ∷ [])) ∷ Born (element 4 0 (int 6 ∷ [])) ∷ []) ∷ [])
  pub memory : option_map {U = Memory × ℕ} (λ (s : State). (s.memory, s.next)) (run mixed (opening sevens Once) (choice 0 (1 ∷ 2 ∷ []) ∷ []))
      ≡ Some (element 3 0 (int 5 ∷ []) ∷ element 4 0 (int 6 ∷ []) ∷ [], 5)
  -- a removal uses no tag
  pub removal : after (plain (action.Remove (0 ∷ []) ∷ [])) sevens (choice 0 (2 ∷ []) ∷ choice 0 (1 ∷ []) ∷ []) ≡ Some ([], 3, true)
  pub removals : journal (plain (action.Remove (0 ∷ []) ∷ [])) sevens (choice 0 (2 ∷ []) ∷ choice 0 (1 ∷ []) ∷ []) ≡ Some ((Gone 2 ∷ []) ∷ (Gone 1 ∷ []) ∷ [])

-- (write z) (halt) (remove 1): the whole entry, and the choice among the fired ones
abbrev pub writing : Program
writing = plain (action.Write (Put (Con (Sym 7)) ∷ []) ∷ action.Halt ∷ action.Remove (0 ∷ []) ∷ [])

pub record AreEntries : Type 0 where
  pub whole : option_map {U = List Entry × List Choice} (λ (s : State). (s.entries, s.fired)) (run writing (opening sevens Once) (choice 0 (2 ∷ []) ∷ []))
      ≡ Some (record { choice = choice 0 (2 ∷ []); changes = Gone 2 ∷ []; pieces = piece.Put (Sym 7) ∷ []; halts = true } ∷ [], choice 0 (2 ∷ []) ∷ [])

-- <k> - 1
abbrev pub one_less : Tree
one_less = joined (variable 0) Sub (single (number (pos 1)))

-- three counts down to zero
abbrev pub three : Memory
three = element 1 0 (int 3 ∷ []) ∷ []

pub record AreEndings : Type 0 where
  pub counted_down : (e : Expr) → tree_of e ≡ one_less → after (down e) three (choice 0 (1 ∷ []) ∷ choice 0 (2 ∷ []) ∷ choice 0 (3 ∷ []) ∷ []) ≡ Some (element 4 0 (int 0 ∷ []) ∷ [], 5, true)
  -- with a budget of exactly the firings that there are, the run is quiet and not spent
  pub quiet_at_budget : (e : Expr) → tree_of e ≡ one_less
      → IsSomeAnd (run (down e) (opening three Once) (choice 0 (1 ∷ []) ∷ choice 0 (2 ∷ []) ∷ choice 0 (3 ∷ []) ∷ [])) (λ s. IsEnding (down e) 3 s Quiet)
  pub not_spent : (e : Expr) → tree_of e ≡ one_less
      → IsSomeAnd (run (down e) (opening three Once) (choice 0 (1 ∷ []) ∷ choice 0 (2 ∷ []) ∷ choice 0 (3 ∷ []) ∷ [])) (λ s. IsEnding (down e) 3 s (Spent 3) → ⊥)
  -- with a smaller one it is spent and not quiet
  pub spent : (e : Expr) → tree_of e ≡ one_less
      → IsSomeAnd (run (down e) (opening three Once) (choice 0 (1 ∷ []) ∷ choice 0 (2 ∷ []) ∷ [])) (λ s. IsEnding (down e) 2 s (Spent 2))
  pub not_quiet : (e : Expr) → tree_of e ≡ one_less
      → IsSomeAnd (run (down e) (opening three Once) (choice 0 (1 ∷ []) ∷ choice 0 (2 ∷ []) ∷ [])) (λ s. IsEnding (down e) 2 s Quiet → ⊥)
  -- no ending is past the budget, and none is spent before it
  pub past_budget : (e : Expr) → tree_of e ≡ one_less
      → IsSomeAnd (run (down e) (opening three Once) (choice 0 (1 ∷ []) ∷ choice 0 (2 ∷ []) ∷ choice 0 (3 ∷ []) ∷ [])) (λ s. IsEnding (down e) 2 s Quiet → ⊥)
  pub not_yet_spent : (e : Expr) → tree_of e ≡ one_less
      → IsSomeAnd (run (down e) (opening three Once) (choice 0 (1 ∷ []) ∷ choice 0 (2 ∷ []) ∷ [])) (λ s. IsEnding (down e) 3 s (Spent 3) → ⊥)
  pub spent_is_the_budget : (e : Expr) → tree_of e ≡ one_less
      → IsSomeAnd (run (down e) (opening three Once) (choice 0 (1 ∷ []) ∷ choice 0 (2 ∷ []) ∷ [])) (λ s. IsEnding (down e) 2 s (Spent 3) → ⊥)
  -- a rule that makes an element for each element never comes to rest
  pub spent_in_growth : IsSomeAnd (run (plain (action.Make 0 1 [] ∷ [])) (opening (element 1 0 (Sym 0 ∷ []) ∷ []) Once) (choice 0 (1 ∷ []) ∷ choice 0 (2 ∷ []) ∷ choice 0 (3 ∷ []) ∷ [])) (λ s. IsEnding (plain (action.Make 0 1 [] ∷ [])) 3 s (Spent 3))
  -- a halt ends the run, and nothing fires after it
  pub halted : IsSomeAnd (run (plain (action.Halt ∷ [])) (opening sevens Once) (choice 0 (1 ∷ []) ∷ [])) (λ s. IsEnding (plain (action.Halt ∷ [])) 5 s Halted)
  pub not_halted : IsSomeAnd (run (plain []) (opening sevens Once) (choice 0 (1 ∷ []) ∷ [])) (λ s. IsEnding (plain []) 5 s Halted → ⊥)
  pub halted_not_spent : IsSomeAnd (run (plain (action.Halt ∷ [])) (opening sevens Once) (choice 0 (1 ∷ []) ∷ [])) (λ s. IsEnding (plain (action.Halt ∷ [])) 1 s (Spent 1) → ⊥)
  pub halted_not_quiet : IsSomeAnd (run (plain (action.Halt ∷ [])) (opening (element 1 0 (Sym 0 ∷ []) ∷ []) Once) (choice 0 (1 ∷ []) ∷ [])) (λ s. IsEnding (plain (action.Halt ∷ [])) 1 s Quiet → ⊥)
  pub after_halt : after (plain (action.Halt ∷ [])) sevens (choice 0 (1 ∷ []) ∷ choice 0 (2 ∷ []) ∷ []) ≡ None
  -- a fault names the first failing action of a choice that matches
  pub fault : (e : Expr) → tree_of e ≡ joined (number (pos 1)) Div (single (number (pos 0)))
      → IsEnding (plain (action.Write (Put (Con (Sym 1)) ∷ []) ∷ action.Bind 0 (Compute e) ∷ [])) 1 (opening (element 1 0 (Sym 0 ∷ []) ∷ []) Once) (Fault (choice 0 (1 ∷ [])) 2 DivideByZero)
  -- and not another action, another tag, or a fault when the budget is used up
  pub other_action : (e : Expr) → tree_of e ≡ joined (number (pos 1)) Div (single (number (pos 0)))
      → IsEnding (plain (action.Write (Put (Con (Sym 1)) ∷ []) ∷ action.Bind 0 (Compute e) ∷ [])) 1 (opening (element 1 0 (Sym 0 ∷ []) ∷ []) Once) (Fault (choice 0 (1 ∷ [])) 1 DivideByZero) → ⊥
  pub absent_tag : (e : Expr) → tree_of e ≡ joined (number (pos 1)) Div (single (number (pos 0)))
      → IsEnding (plain (action.Bind 0 (Compute e) ∷ [])) 1 (opening (element 1 0 (Sym 0 ∷ []) ∷ []) Once) (Fault (choice 0 (2 ∷ [])) 1 DivideByZero) → ⊥
  pub no_budget : (e : Expr) → tree_of e ≡ joined (number (pos 1)) Div (single (number (pos 0)))
      → IsEnding (plain (action.Bind 0 (Compute e) ∷ [])) 0 (opening (element 1 0 (Sym 0 ∷ []) ∷ []) Once) (Fault (choice 0 (1 ∷ [])) 1 DivideByZero) → ⊥
