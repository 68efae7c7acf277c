-- Regions of what actions make, and footprints of small programs.
use Rattle.std.specs.Prelude.{◌≡◌, ℕ, List, [], ◌∷◌, Option, Some, None, map}
use Rattle.rule_base.specs.declared.lock.Mode.TheVariants.{Watch, Grow, Own}
use Rattle.rule_base.specs.declared.element.Element.{Element}
use Rattle.rule_base.specs.declared.instantiation.Candidate.{Candidate}
use Rattle.rule_base.specs.declared.condition.Cond.{Cond}
use Rattle.rule_base.specs.declared.condition.Test.TheVariants.{Bind}
use Rattle.rule_base.specs.declared.action.Term.{Term}
use Rattle.rule_base.specs.declared.action.Term.TheVariants.{Con, Var, Compute}
use Rattle.rule_base.specs.declared.action.Action.{Action}
use Rattle.rule_base.specs.declared.action.Action.TheVariants as action
use Rattle.rule_base.specs.declared.expression.Expr.{Expr}
use Rattle.rule_base.specs.declared.program.Rule.{Rule}
use Rattle.rule_base.specs.declared.program.Program.{Program}
use Rattle.rule_base.specs.Examples.Programs.{int, element, present, absent, is_constant, is_variable, once}
use Rattle.rule_base.specs.Examples.Matches.{choice}
use Rattle.interference.specs.Locks.{every_region, region}
use Rattle.interference.specs.Regions.{grown_regions, watched_regions}
use Rattle.interference.specs.Footprint.{Clash, footprint}

-- (p r (a ^x <v>) --> ACTIONS), with the element (a ^x 7 ^y 5) at its condition element
abbrev pub acting : List Action → Rule
acting actions = record { name = 9; vars = 1; positives = 1; conds = present 0 (Bind 0 0 ∷ []) ∷ []; actions = actions }

abbrev pub seven : List Element
seven = element 1 0 (int 7 ∷ int 5 ∷ []) ∷ []

-- (make b SETTINGS), with b the class 1 and split by its attribute 0, and (modify 1 SETTINGS)
abbrev pub making : List (ℕ × Term) → Action
making settings = action.Make 1 2 settings

abbrev pub modifying : List (ℕ × Term) → Action
modifying settings = action.Modify 0 settings

abbrev pub split_by_first : List (Option ℕ)
split_by_first = Some 0 ∷ Some 0 ∷ []

-- the regions that an action grows, alone in its rule or behind another action
abbrev pub grown_by : Action → List ℕ
grown_by first = grown_regions split_by_first (acting (first ∷ [])) seven first

abbrev pub grown_behind : Action → Action → List ℕ
grown_behind before first = grown_regions split_by_first (acting (before ∷ first ∷ [])) seven first

pub record AreGrown : Type 0 where
  pub constant : grown_by (making ((0, Con (int 3)) ∷ [])) ≡ 1043 ∷ []
  pub variable : grown_by (making ((0, Var 0) ∷ [])) ≡ 1047 ∷ []
  -- what isn't set is nil, whose bucket is 0
  pub missing : grown_by (making ((1, Var 0) ∷ [])) ≡ 1040 ∷ []
  -- the last setting counts
  pub twice : grown_by (making ((0, Con (int 3)) ∷ (0, Con (int 5)) ∷ [])) ≡ 1045 ∷ []
  pub computed : (expression : Expr) → grown_by (making ((0, Compute expression) ∷ [])) ≡ map (region 1) every_region
  pub computed_first : (expression : Expr) → grown_by (making ((0, Compute expression) ∷ (0, Var 0) ∷ [])) ≡ 1047 ∷ []
  -- a bind action may give the variable another value, even one that stands behind
  pub set : grown_behind (action.Bind 0 (Con (int 9))) (making ((0, Var 0) ∷ [])) ≡ map (region 1) every_region
  pub set_other : grown_behind (action.Bind 1 (Con (int 9))) (making ((0, Var 0) ∷ [])) ≡ 1047 ∷ []
  pub no_split : grown_regions (None ∷ None ∷ []) (acting []) seven (making ((0, Con (int 3)) ∷ [])) ≡ 1040 ∷ []
  -- a modify keeps what it doesn't set
  pub kept : grown_by (modifying ((1, Con (int 3)) ∷ [])) ≡ 1031 ∷ []
  pub modified : grown_by (modifying ((0, Con (int 3)) ∷ [])) ≡ 1027 ∷ []
  pub removed : grown_by (action.Remove (0 ∷ [])) ≡ []

-- the regions that (b TESTS), negated, watches in the same rule
abbrev pub watched_by : Cond → List ℕ
watched_by cond = watched_regions split_by_first (acting []) seven cond

pub record AreWatched : Type 0 where
  pub constant : watched_by (absent 1 (is_constant 0 (int 3) ∷ [])) ≡ 1043 ∷ []
  pub variable : watched_by (absent 1 (is_variable 0 0 ∷ [])) ≡ 1047 ∷ []
  -- the first test that pins the split counts
  pub first : watched_by (absent 1 (is_constant 0 (int 3) ∷ is_variable 0 0 ∷ [])) ≡ 1043 ∷ []
  -- another attribute is pinned
  pub elsewhere : watched_by (absent 1 (is_constant 1 (int 3) ∷ [])) ≡ map (region 1) every_region
  pub no_split : watched_regions (None ∷ None ∷ []) (acting []) seven (absent 1 (is_constant 0 (int 3) ∷ [])) ≡ 1040 ∷ []

-- `once` with one item, its tag and its key
abbrev pub once_with : ℕ → ℕ → Candidate
once_with tag key = record { choice = choice 0 (tag ∷ []); elements = element tag 0 (int key ∷ []) ∷ [] }

-- (p pair (a) (a) -(b ^x 3) --> (remove 1) (make b ^x 4)), of the classes of `once`
abbrev pub pair : Program
pair = record {
  classes = once.classes;
  rules = record {
    name = 9;
    vars = 0;
    positives = 2;
    conds = present 0 [] ∷ present 0 [] ∷ absent 1 (is_constant 0 (int 3) ∷ []) ∷ [];
    actions = action.Remove (0 ∷ []) ∷ action.Make 1 1 ((0, Con (int 4)) ∷ []) ∷ [];
  } ∷ [];
  makes = [];
}

abbrev pub pair_with : ℕ → ℕ → Candidate
pair_with tag other = record { choice = choice 0 (tag ∷ other ∷ []); elements = element tag 0 (int 7 ∷ []) ∷ element other 0 (int 8 ∷ []) ∷ [] }

pub record AreFootprints : Type 0 where
  -- the region is watched by the negated condition element and grown by the make, and so owned
  pub first_item : footprint once (once_with 1 7) ≡ (1, Watch) ∷ (1047, Own) ∷ []
  pub second_item : footprint once (once_with 2 8) ≡ (2, Watch) ∷ (1048, Own) ∷ []
  pub two_stripes : footprint pair (pair_with 2 1) ≡ (1, Watch) ∷ (2, Own) ∷ (1043, Watch) ∷ (1044, Grow) ∷ []
  -- two tags on one stripe, of which one is removed
  pub one_stripe : footprint pair (pair_with 2 1026) ≡ (2, Own) ∷ (1043, Watch) ∷ (1044, Grow) ∷ []
  pub no_rule : footprint pair (record { choice = choice 1 []; elements = [] }) ≡ []

-- `once` clashes with itself for keys of one bucket
pub record AreClashes : Type 0 where
  pub other_buckets : Clash (footprint once (once_with 1 7)) (footprint once (once_with 2 8)) → ⊥
  pub one_bucket : Clash (footprint once (once_with 1 7)) (footprint once (once_with 2 23))
  pub on : one_bucket.lock ≡ 1047
  pub one_key : Clash (footprint once (once_with 1 7)) (footprint once (once_with 2 7))
