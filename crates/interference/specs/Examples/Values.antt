-- Buckets, pins and splits of small programs.
use Rattle.std.specs.Prelude.{◌≡◌, List, [], ◌∷◌, true, false, Some, None, negsuc}
use Rattle.rule_base.specs.declared.value.Value.TheVariants.{Int, Sym}
use Rattle.rule_base.specs.declared.condition.Pred.TheVariants.{Gt}
use Rattle.rule_base.specs.declared.condition.Arg.TheVariants as arg
use Rattle.rule_base.specs.declared.condition.Test.{Test}
use Rattle.rule_base.specs.declared.condition.Test.TheVariants.{Bind, Cmp, OneOf}
use Rattle.rule_base.specs.declared.condition.Cond.{Cond}
use Rattle.rule_base.specs.declared.program.Rule.{Rule}
use Rattle.rule_base.specs.Examples.Programs.{int, present, absent, is_constant, is_variable, once_rule, local_rule, once}
use Rattle.interference.specs.Locks.{bucket}
use Rattle.interference.specs.Pins.{pins}
use Rattle.interference.specs.Splits.{split, splits_of}

pub record AreBuckets : Type 0 where
  pub minus_17 : bucket (Int (negsuc 16)) ≡ 15
  pub minus_16 : bucket (Int (negsuc 15)) ≡ 0
  pub minus_1 : bucket (Int (negsuc 0)) ≡ 15
  pub zero : bucket (int 0) ≡ 0
  pub fifteen : bucket (int 15) ≡ 15
  pub sixteen : bucket (int 16) ≡ 0
  pub nil : bucket (Sym 0) ≡ 0
  pub symbol : bucket (Sym 15) ≡ 15
  pub later_symbol : bucket (Sym 33) ≡ 1

-- (a ^x <v>) -(b TESTS), with x the attribute 0 and <v> the variable 0
abbrev pub beside : List Test → List Cond
beside tests = present 0 (Bind 0 0 ∷ []) ∷ absent 1 tests ∷ []

pub record ArePins : Type 0 where
  pub constant : pins (beside []) 0 (absent 1 (is_constant 0 (int 7) ∷ [])) ≡ true
  pub other_attribute : pins (beside []) 1 (absent 1 (is_constant 0 (int 7) ∷ [])) ≡ false
  -- a positive condition element binds the variable
  pub bound : pins once_rule.conds 0 (absent 1 (is_variable 0 0 ∷ [])) ≡ true
  -- only the negated one does, so that nothing is known of its value: -(b ^x <w> ^y <w>)
  pub bound_within : pins local_rule.conds 1 (absent 1 (Bind 0 0 ∷ is_variable 1 0 ∷ [])) ≡ false
  pub binding : pins (beside []) 0 (absent 1 (Bind 0 0 ∷ [])) ≡ false
  pub greater : pins (beside []) 0 (absent 1 (Cmp 0 Gt (arg.Con (int 7)) ∷ [])) ≡ false
  pub among : pins (beside []) 0 (absent 1 (OneOf 0 (int 7 ∷ []) ∷ [])) ≡ false
  pub later_test : pins (beside []) 0 (absent 1 (Cmp 0 Gt (arg.Con (int 5)) ∷ is_constant 0 (int 7) ∷ [])) ≡ true

-- the rule of these condition elements
abbrev pub rule_of : List Cond → Rule
rule_of conds = record { name = 9; vars = 1; positives = 1; conds = conds; actions = [] }

pub record AreSplits : Type 0 where
  pub one : split (rule_of (beside (is_variable 1 0 ∷ [])) ∷ []) 1 2 ≡ Some 1
  -- among equals the least number
  pub equal : split (rule_of (beside (is_variable 1 0 ∷ is_constant 0 (int 5) ∷ [])) ∷ []) 1 2 ≡ Some 0
  -- over two rules the second attribute is pinned twice
  pub most : split (rule_of (beside (is_variable 1 0 ∷ is_constant 0 (int 5) ∷ [])) ∷ rule_of (beside (is_variable 1 0 ∷ [])) ∷ []) 1 2 ≡ Some 1
  -- a condition element counts once for an attribute, however many of its tests pin it
  pub twice : split (rule_of (beside (is_constant 1 (int 5) ∷ is_variable 1 0 ∷ is_constant 0 (int 5) ∷ [])) ∷ []) 1 2 ≡ Some 0
  pub none_pinned : split (rule_of (beside (Cmp 0 Gt (arg.Con (int 5)) ∷ [])) ∷ []) 1 2 ≡ None
  -- positive condition elements pin nothing
  pub positive : split (rule_of (present 1 (is_constant 0 (int 5) ∷ []) ∷ []) ∷ []) 1 2 ≡ None
  pub other_class : split (rule_of (beside (is_variable 1 0 ∷ [])) ∷ []) 0 2 ≡ None
  pub program : splits_of once ≡ None ∷ Some 0 ∷ []
