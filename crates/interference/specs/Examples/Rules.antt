-- Which rules may interfere, and parts of rules.
use Rattle.std.specs.Prelude.{◌≡◌, List, [], ◌∷◌, true, false}
use Rattle.rule_base.specs.declared.condition.Cond.{Cond}
use Rattle.rule_base.specs.declared.condition.Test.TheVariants.{Bind}
use Rattle.rule_base.specs.declared.action.Term.TheVariants.{Var}
use Rattle.rule_base.specs.declared.action.Action.{Action}
use Rattle.rule_base.specs.declared.action.Action.TheVariants as action
use Rattle.rule_base.specs.declared.program.Rule.{Rule}
use Rattle.rule_base.specs.declared.program.Program.{Program}
use Rattle.rule_base.specs.Examples.Programs.{present, absent, once, once_rule}
use Rattle.interference.specs.MayInterfere.{may_interfere}
use Rattle.interference.specs.Parts.{parts}

-- a rule of one positive condition element
abbrev pub small_rule : List Cond → List Action → Rule
small_rule conds actions = record { name = 9; vars = 1; positives = 1; conds = conds; actions = actions }

-- with the classes of `once`, item and done:
-- (p once (item ^key <k>) -(done ^key <k>) --> (make done ^key <k>))
-- (p copy (item ^key <k>) --> (make done ^key <k>))
-- (p see (item) -(done) --> )
-- (p drop (item) --> (remove 1))
-- (p clear (done) --> (remove 1))
-- (p touch (done) --> (modify 1))
abbrev pub six : Program
six = record {
  classes = once.classes;
  rules = once_rule
      ∷ small_rule (present 0 (Bind 0 0 ∷ []) ∷ []) (action.Make 1 1 ((0, Var 0) ∷ []) ∷ [])
      ∷ small_rule (present 0 [] ∷ absent 1 [] ∷ []) []
      ∷ small_rule (present 0 [] ∷ []) (action.Remove (0 ∷ []) ∷ [])
      ∷ small_rule (present 1 [] ∷ []) (action.Remove (0 ∷ []) ∷ [])
      ∷ small_rule (present 1 [] ∷ []) (action.Modify 0 [] ∷ [])
      ∷ [];
  makes = [];
}

pub record AreInterferences : Type 0 where
  -- a rule that watches a class and grows it is in its own way
  pub once_itself : may_interfere six 0 0 ≡ true
  -- two that grow go together, and so do two that watch
  pub copy_itself : may_interfere six 1 1 ≡ false
  pub see_itself : may_interfere six 2 2 ≡ false
  pub copy_and_see : may_interfere six 1 2 ≡ true
  pub see_and_copy : may_interfere six 2 1 ≡ true
  -- what one removes the other matches
  pub drop_and_copy : may_interfere six 3 1 ≡ true
  pub copy_and_drop : may_interfere six 1 3 ≡ true
  pub drop_itself : may_interfere six 3 3 ≡ true
  -- elements of another class
  pub clear_and_copy : may_interfere six 4 1 ≡ false
  -- nothing that is removed makes a negated condition element fail
  pub clear_and_see : may_interfere six 4 2 ≡ false
  -- but what a modify makes may
  pub touch_and_see : may_interfere six 5 2 ≡ true
  pub touch_and_copy : may_interfere six 5 1 ≡ false

pub record AreParts : Type 0 where
  pub two : parts 5 2 ≡ (0 ∷ 2 ∷ 4 ∷ []) ∷ (1 ∷ 3 ∷ []) ∷ []
  pub one : parts 3 1 ≡ (0 ∷ 1 ∷ 2 ∷ []) ∷ []
  pub more_than_rules : parts 1 3 ≡ (0 ∷ []) ∷ [] ∷ [] ∷ []
  pub no_rules : parts 0 2 ≡ [] ∷ [] ∷ []
