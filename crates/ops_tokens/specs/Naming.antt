-- The names that tokens stand for, where a symbol, a constant, a literal or a variable may stand.
use Rattle.std.specs.Prelude.{ℕ, List, Option, Some, None, codes}
use Rattle.rule_base.specs.declared.condition.Pred.{Pred}
use Rattle.rule_base.specs.declared.condition.Pred.TheVariants as pred
use Rattle.ops_tokens.specs.Token.{Token, Arrow, Minus, OpenList, CloseList, Predicate, Variable, Plain, Barred}

-- a word, be it a keyword elsewhere, or what stands between bars
abbrev pub symbol_name : Token → Option (List ℕ)
symbol_name (Plain word keyword) = Some word
symbol_name (Barred content) = Some content
symbol_name other = None

-- a constant may also be the minus
abbrev pub constant_name : Token → Option (List ℕ)
constant_name Minus = Some (codes "-")
constant_name other = symbol_name other

-- the word that a predicate is
abbrev pub predicate_name : Pred → List ℕ
predicate_name pred.Eq = codes "="
predicate_name pred.Ne = codes "<>"
predicate_name pred.Lt = codes "<"
predicate_name pred.Le = codes "<="
predicate_name pred.Gt = codes ">"
predicate_name pred.Ge = codes ">="
predicate_name pred.Same = codes "<=>"

-- a literal may also be a predicate, the arrow, or a bracket of lists
abbrev pub literal_name : Token → Option (List ℕ)
literal_name Arrow = Some (codes "-->")
literal_name OpenList = Some (codes "<<")
literal_name CloseList = Some (codes ">>")
literal_name (Predicate p) = Some (predicate_name p)
literal_name other = constant_name other

-- a variable stands for the name between its angle brackets
abbrev pub variable_name : Token → Option (List ℕ)
variable_name (Variable name) = Some name
variable_name other = None
