-- Sound condition elements: classes and attributes in range, and each variable bound before it is compared. What is
-- known is a list of the variables that have a value; classes are told by their sizes, in order.
use Rattle.std.specs.Prelude.{◌≡◌, ℕ, ◌<◌, List, [], ◌∷◌, Bool, true, false, not, ◌==◌, length, map, filter, fold, slice_index}
use Rattle.std.specs.List.{list_any, flat_map}
use Rattle.rule_base.specs.declared.condition.Arg.{Arg}
use Rattle.rule_base.specs.declared.condition.Arg.TheVariants as arg
use Rattle.rule_base.specs.declared.condition.Test.{Test}
use Rattle.rule_base.specs.declared.condition.Test.TheVariants as test
use Rattle.rule_base.specs.declared.condition.Cond.{Cond}

-- a variable of the rule that is among those that have a value
abbrev pub IsKnown : ℕ → List ℕ → ℕ → Type 0
IsKnown vars known var = (var < vars) × (list_any (λ n. n == var) known ≡ true)

-- the variables that have a value after a test
abbrev pub known_after_test : List ℕ → Test → List ℕ
known_after_test known (test.Bind attr var) = var ∷ known
known_after_test known (test.Cmp attr pred other) = known
known_after_test known (test.OneOf attr among) = known

-- the same after a condition element: what a negated one binds is known in it alone
abbrev pub known_after_cond : Bool → List ℕ → List Test → List ℕ
known_after_cond true known tests = known
known_after_cond false known tests = fold known_after_test known tests

-- what a test compares with is a constant, or a variable that has a value
abbrev pub SoundArg : ℕ → List ℕ → Arg → Type 0
SoundArg vars known (arg.Con value) = Unit {0}
SoundArg vars known (arg.Var var) = IsKnown vars known var

-- a test of a class of this size
abbrev pub SoundTest : ℕ → ℕ → List ℕ → Test → Type 0
SoundTest size vars known (test.Bind attr var) = (attr < size) × (var < vars)
SoundTest size vars known (test.Cmp attr pred other) = (attr < size) × SoundArg vars known other
SoundTest size vars known (test.OneOf attr among) = attr < size

-- tests from left to right
abbrev pub SoundTests : ℕ → ℕ → List ℕ → List Test → Type 0
SoundTests size vars known [] = Unit {0}
SoundTests size vars known (first ∷ tests) = SoundTest size vars known first × SoundTests size vars (known_after_test known first) tests

-- condition elements from left to right
abbrev pub SoundConds : List ℕ → ℕ → List ℕ → List Cond → Type 0
SoundConds sizes vars known [] = Unit {0}
SoundConds sizes vars known (cond ∷ conds) =
    (cond.class < length sizes) × SoundTests (slice_index sizes cond.class) vars known cond.tests × SoundConds sizes vars (known_after_cond cond.negated known cond.tests) conds

-- the variables that the right-hand side begins with
abbrev pub known_after_conds : List ℕ → List Cond → List ℕ
known_after_conds known [] = known
known_after_conds known (cond ∷ conds) = known_after_conds (known_after_cond cond.negated known cond.tests) conds

-- the classes of the positive condition elements, in order: what the designators of actions count
abbrev pub positive_classes : List Cond → List ℕ
positive_classes conds = map (λ (c : Cond). c.class) (filter (λ (c : Cond). not c.negated) conds)

-- the variable that a test binds, if it binds one
abbrev pub bound_by_test : Test → List ℕ
bound_by_test (test.Bind attr var) = var ∷ []
bound_by_test (test.Cmp attr pred other) = []
bound_by_test (test.OneOf attr among) = []

-- the variables that condition elements bind, one for each test that binds
abbrev pub bound_variables : List Cond → List ℕ
bound_variables conds = flat_map (λ (c : Cond). flat_map bound_by_test c.tests) conds

-- whether the first condition element is positive, and there is one
abbrev pub begins_positive : List Cond → Bool
begins_positive [] = false
begins_positive (cond ∷ conds) = not cond.negated
