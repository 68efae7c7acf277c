-- The rules of a `p`.
use Rattle.std.specs.Prelude.{ℕ, List, [], ◌∷◌, ◌++◌, is_some, length, map, nat_le, Result, Ok}
use Rattle.rule_base.specs.declared.program.Class.{Class}
use Rattle.rule_base.specs.declared.program.Rule.{Rule}
use Rattle.rule_base.specs.Chains.{◌>>=◌}
use Rattle.ops_reader.specs.declared.form.FormCond.{FormCond}
use Rattle.ops_reader.specs.declared.form.FormAction.{FormAction}
use Rattle.rule_checker.specs.declared.refusal.CheckKind.{CheckKind}
use Rattle.rule_checker.specs.declared.refusal.CheckKind.TheVariants.{Twice, TooMany}
use Rattle.rule_checker.specs.declared.left_side.LeftSide.{LeftSide}
use Rattle.rule_checker.specs.declared.right_side.RightSide.{RightSide}
use Rattle.rule_checker.specs.Names.{number_in}
use Rattle.rule_checker.specs.Walk.{refused_if}
use Rattle.rule_checker.specs.LeftSide.{left_side}
use Rattle.rule_checker.specs.RightSide.{right_side}

-- the names of rules
abbrev pub rule_names : List Rule → List ℕ
rule_names rules = map (λ (r : Rule). r.name) rules

-- no earlier rule has the name
abbrev pub new_rule_name : List Rule → ℕ → Result (Unit {0}) CheckKind
new_rule_name rules name = refused_if (is_some (number_in (rule_names rules) name)) Twice

-- it is at most the 4,096th rule
abbrev pub few_rules : List Rule → Result (Unit {0}) CheckKind
few_rules rules = refused_if (nat_le 4096 (length rules)) TooMany

-- a rule of these sides
abbrev pub rule_of : ℕ → LeftSide → RightSide → Rule
rule_of name left right =
    record { name = name; vars = right.scope.vars; positives = length left.elements.classes; conds = left.conds; actions = right.actions }

-- the rule over these classes
abbrev pub checked_rule : List Class → ℕ → List FormCond → List FormAction → Result Rule CheckKind
checked_rule classes name conds actions =
    left_side classes conds >>= λ left. right_side classes left.scope left.elements actions >>= λ right. Ok (rule_of name left right)

-- the rules with one more, whose name and number are asked for first
abbrev pub with_rule : List Class → List Rule → ℕ → List FormCond → List FormAction → Result (List Rule) CheckKind
with_rule classes rules name conds actions =
    new_rule_name rules name >>= λ _. few_rules rules >>= λ _.
    checked_rule classes name conds actions >>= λ rule. Ok (rules ++ rule ∷ [])
