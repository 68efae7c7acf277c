-- The programs of the worked examples. Names have numbers of their own here, beside 0 for nil; what a number stands
-- for is seen in the text above each program.
use Rattle.std.specs.Prelude.{ℕ, List, [], ◌∷◌, true, false, pos}
use Rattle.rule_base.specs.declared.value.Value.{Value}
use Rattle.rule_base.specs.declared.value.Value.TheVariants.{Int, Sym}
use Rattle.rule_base.specs.declared.element.Element.{Element}
use Rattle.rule_base.specs.declared.condition.Pred.TheVariants.{Eq, Ne, Lt, Gt, Same}
use Rattle.rule_base.specs.declared.condition.Arg.TheVariants as arg
use Rattle.rule_base.specs.declared.condition.Test.{Test}
use Rattle.rule_base.specs.declared.condition.Test.TheVariants.{Bind, Cmp, OneOf}
use Rattle.rule_base.specs.declared.condition.Cond.{Cond}
use Rattle.rule_base.specs.declared.action.Term.TheVariants.{Con, Var, Compute}
use Rattle.rule_base.specs.declared.action.Item.TheVariants.{Put, Crlf}
use Rattle.rule_base.specs.declared.action.Action.{Action}
use Rattle.rule_base.specs.declared.action.Action.TheVariants.{Make, Modify, Remove, Write}
use Rattle.rule_base.specs.declared.expression.Expr.{Expr}
use Rattle.rule_base.specs.declared.program.Rule.{Rule}
use Rattle.rule_base.specs.declared.program.Program.{Program}

-- the integer n
abbrev pub int : ℕ → Value
int n = Int (pos n)

-- the element with this tag, class and values
abbrev pub element : ℕ → ℕ → List Value → Element
element tag class values = record { tag = tag; class = class; values = values }

-- a positive and a negated condition element
abbrev pub present : ℕ → List Test → Cond
present class tests = record { negated = false; class = class; tests = tests }

abbrev pub absent : ℕ → List Test → Cond
absent class tests = record { negated = true; class = class; tests = tests }

-- a test for a value equal to a constant or to a variable's
abbrev pub is_constant : ℕ → Value → Test
is_constant attr value = Cmp attr Eq (arg.Con value)

abbrev pub is_variable : ℕ → ℕ → Test
is_variable attr var = Cmp attr Eq (arg.Var var)

-- a rule of one variable, which no test binds, and one condition element without tests, of class 0
abbrev pub plain_rule : List Action → Rule
plain_rule actions = record { name = 9; vars = 1; positives = 1; conds = present 0 [] ∷ []; actions = actions }

-- (literalize a x) (literalize b x)
-- (p r (a ^x <v>) -(b ^x <v>) --> (remove 1))
abbrev pub blocked_rule : Rule
blocked_rule = record {
  name = 4;
  vars = 1;
  positives = 1;
  conds = present 0 (Bind 0 0 ∷ []) ∷ absent 1 (is_variable 0 0 ∷ []) ∷ [];
  actions = Remove (0 ∷ []) ∷ [];
}

abbrev pub blocked : Program
blocked = record {
  classes = record { name = 1; attrs = 2 ∷ [] } ∷ record { name = 3; attrs = 2 ∷ [] } ∷ [];
  rules = blocked_rule ∷ [];
  makes = [];
}

-- (literalize s n) (literalize l n) (literalize r n) (make s ^n 1)
-- (p left (s ^n 1) -(r) --> (make l))
-- (p right (s ^n 1) -(l) --> (make r))
abbrev pub left_rule : Rule
left_rule = record {
  name = 5;
  vars = 0;
  positives = 1;
  conds = present 0 (is_constant 0 (int 1) ∷ []) ∷ absent 2 [] ∷ [];
  actions = Make 1 1 [] ∷ [];
}

abbrev pub right_rule : Rule
right_rule = record {
  name = 6;
  vars = 0;
  positives = 1;
  conds = present 0 (is_constant 0 (int 1) ∷ []) ∷ absent 1 [] ∷ [];
  actions = Make 2 1 [] ∷ [];
}

abbrev pub either : Program
either = record {
  classes = record { name = 1; attrs = 2 ∷ [] } ∷ record { name = 3; attrs = 2 ∷ [] } ∷ record { name = 4; attrs = 2 ∷ [] } ∷ [];
  rules = left_rule ∷ right_rule ∷ [];
  makes = (0, int 1 ∷ []) ∷ [];
}

-- (literalize item key) (literalize done key) (make item ^key 7) (make item ^key 7)
-- (p once (item ^key <k>) -(done ^key <k>) --> (make done ^key <k>))
abbrev pub once_rule : Rule
once_rule = record {
  name = 4;
  vars = 1;
  positives = 1;
  conds = present 0 (Bind 0 0 ∷ []) ∷ absent 1 (is_variable 0 0 ∷ []) ∷ [];
  actions = Make 1 1 ((0, Var 0) ∷ []) ∷ [];
}

abbrev pub once : Program
once = record {
  classes = record { name = 1; attrs = 2 ∷ [] } ∷ record { name = 3; attrs = 2 ∷ [] } ∷ [];
  rules = once_rule ∷ [];
  makes = (0, int 7 ∷ []) ∷ (0, int 7 ∷ []) ∷ [];
}

-- (literalize a x)
-- (p none (a ^x << >>) --> (write none))
-- (p mid (a ^x { <v> > 0 < 9 <> 5 }) --> (write <v>))
-- (p same (a ^x { <v> <=> blue }) --> (remove 1))
abbrev pub none_rule : Rule
none_rule = record {
  name = 3;
  vars = 0;
  positives = 1;
  conds = present 0 (OneOf 0 [] ∷ []) ∷ [];
  actions = Write (Put (Con (Sym 3)) ∷ []) ∷ [];
}

abbrev pub mid_rule : Rule
mid_rule = record {
  name = 4;
  vars = 1;
  positives = 1;
  conds = present 0 (Bind 0 0 ∷ Cmp 0 Gt (arg.Con (int 0)) ∷ Cmp 0 Lt (arg.Con (int 9)) ∷ Cmp 0 Ne (arg.Con (int 5)) ∷ []) ∷ [];
  actions = Write (Put (Var 0) ∷ []) ∷ [];
}

abbrev pub same_rule : Rule
same_rule = record {
  name = 5;
  vars = 1;
  positives = 1;
  conds = present 0 (Bind 0 0 ∷ Cmp 0 Same (arg.Con (Sym 6)) ∷ []) ∷ [];
  actions = Remove (0 ∷ []) ∷ [];
}

abbrev pub ranges : Program
ranges = record {
  classes = record { name = 1; attrs = 2 ∷ [] } ∷ [];
  rules = none_rule ∷ mid_rule ∷ same_rule ∷ [];
  makes = [];
}

-- (literalize goal type status object color) (literalize block name color)
-- (p find-block { <g> (goal ^status active ^type find ^object block ^color <z>) }
--    { (block ^color <z> ^name <n>) <b> }
--    --> (modify <g> ^status satisfied) (write found <n> (crlf)))
-- with goal 1, block 6, color 5, name 7, and find 8, active 9, red 10, b1 11, blue 12, b2 13, satisfied 15, found 16
abbrev pub find_block_rule : Rule
find_block_rule = record {
  name = 14;
  vars = 2;
  positives = 2;
  conds = present 0 (is_constant 1 (Sym 9) ∷ is_constant 0 (Sym 8) ∷ is_constant 2 (Sym 6) ∷ Bind 3 0 ∷ []) ∷ present 1 (is_variable 1 0 ∷ Bind 0 1 ∷ []) ∷ [];
  actions = Modify 0 ((1, Con (Sym 15)) ∷ []) ∷ Write (Put (Con (Sym 16)) ∷ Put (Var 1) ∷ Crlf ∷ []) ∷ [];
}

abbrev pub find_block : Program
find_block = record {
  classes = record { name = 1; attrs = 2 ∷ 3 ∷ 4 ∷ 5 ∷ [] } ∷ record { name = 6; attrs = 7 ∷ 5 ∷ [] } ∷ [];
  rules = find_block_rule ∷ [];
  makes = [];
}

-- a goal to find a red block, a blue block b1 and a red block b2
abbrev pub blocks : List Element
blocks = element 1 0 (Sym 8 ∷ Sym 9 ∷ Sym 6 ∷ Sym 10 ∷ []) ∷ element 2 1 (Sym 11 ∷ Sym 12 ∷ []) ∷ element 3 1 (Sym 13 ∷ Sym 10 ∷ []) ∷ []

-- (literalize c k)
-- (p down (c ^k { <k> > 0 }) --> (modify 1 ^k (compute EXPRESSION)))
abbrev pub down_rule : Expr → Rule
down_rule expression = record {
  name = 3;
  vars = 1;
  positives = 1;
  conds = present 0 (Bind 0 0 ∷ Cmp 0 Gt (arg.Con (int 0)) ∷ []) ∷ [];
  actions = Modify 0 ((0, Compute expression) ∷ []) ∷ [];
}

abbrev pub down : Expr → Program
down expression = record {
  classes = record { name = 1; attrs = 2 ∷ [] } ∷ [];
  rules = down_rule expression ∷ [];
  makes = [];
}

-- (p between (a ^x <v>) -(b ^x <v>) (c ^x > <v>) -->), with a, b and c the classes 0, 1 and 2
abbrev pub between_rule : Rule
between_rule = record {
  name = 9;
  vars = 1;
  positives = 2;
  conds = present 0 (Bind 0 0 ∷ []) ∷ absent 1 (is_variable 0 0 ∷ []) ∷ present 2 (Cmp 0 Gt (arg.Var 0) ∷ []) ∷ [];
  actions = [];
}

-- (p local (a) -(b ^x <w> ^y <w>) -->)
abbrev pub local_rule : Rule
local_rule = record {
  name = 9;
  vars = 1;
  positives = 1;
  conds = present 0 [] ∷ absent 1 (Bind 0 0 ∷ is_variable 1 0 ∷ []) ∷ [];
  actions = [];
}

-- (p alone (a ^x <v>) -(a ^x <v>) -->)
abbrev pub self_rule : Rule
self_rule = record {
  name = 9;
  vars = 1;
  positives = 1;
  conds = present 0 (Bind 0 0 ∷ []) ∷ absent 0 (is_variable 0 0 ∷ []) ∷ [];
  actions = [];
}
