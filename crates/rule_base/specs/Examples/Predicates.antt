-- The table of the predicates, column by column, and row by row at one pair of values for each column.
use Rattle.std.specs.Prelude.{◌≡◌, ◌≢◌, ℕ, List, [], ◌∷◌, Bool, true, false, map, ℤ, pos, ◌<ℤ◌}
use Rattle.rule_base.specs.declared.value.Value.{Value}
use Rattle.rule_base.specs.declared.value.Value.TheVariants.{Int, Sym}
use Rattle.rule_base.specs.declared.condition.Pred.{Pred}
use Rattle.rule_base.specs.declared.condition.Pred.TheVariants.{Eq, Ne, Lt, Le, Gt, Ge, Same}
use Rattle.rule_base.specs.Predicate.{holds}

-- which of =, <>, <, <=, >, >=, <=> hold of a value and another
abbrev pub column : Value → Value → List Bool
column value other = map (λ pred. holds pred value other) (Eq ∷ Ne ∷ Lt ∷ Le ∷ Gt ∷ Ge ∷ Same ∷ [])

-- how two values stand to each other decides which predicates hold of them
pub record AreColumns : Type 0 where
  pub integer_less : (a b : ℤ) → a <ℤ b → column (Int a) (Int b) ≡ false ∷ true ∷ true ∷ true ∷ false ∷ false ∷ true ∷ []
  pub integer_equal : (a : ℤ) → column (Int a) (Int a) ≡ true ∷ false ∷ false ∷ true ∷ false ∷ true ∷ true ∷ []
  pub integer_greater : (a b : ℤ) → b <ℤ a → column (Int a) (Int b) ≡ false ∷ true ∷ false ∷ false ∷ true ∷ true ∷ true ∷ []
  pub symbol_equal : (s : ℕ) → column (Sym s) (Sym s) ≡ true ∷ false ∷ false ∷ false ∷ false ∷ false ∷ true ∷ []
  pub symbol_different : (s t : ℕ) → s ≢ t → column (Sym s) (Sym t) ≡ false ∷ true ∷ false ∷ false ∷ false ∷ false ∷ true ∷ []
  pub integer_and_symbol : (a : ℤ) (s : ℕ) → column (Int a) (Sym s) ≡ false ∷ true ∷ false ∷ false ∷ false ∷ false ∷ false ∷ []
  pub symbol_and_integer : (a : ℤ) (s : ℕ) → column (Sym s) (Int a) ≡ false ∷ true ∷ false ∷ false ∷ false ∷ false ∷ false ∷ []

-- what a predicate says of 3 and 5, 5 and 5, 5 and 3, a symbol and itself, two symbols, a number and a symbol
abbrev pub row : Pred → List Bool
row pred = map (λ (pair : Value × Value). holds pred pair.0 pair.1)
    ((Int (pos 3), Int (pos 5)) ∷ (Int (pos 5), Int (pos 5)) ∷ (Int (pos 5), Int (pos 3)) ∷ (Sym 1, Sym 1) ∷ (Sym 1, Sym 2) ∷ (Int (pos 3), Sym 1) ∷ [])

pub record AreRows : Type 0 where
  pub equal : row Eq ≡ false ∷ true ∷ false ∷ true ∷ false ∷ false ∷ []
  pub different : row Ne ≡ true ∷ false ∷ true ∷ false ∷ true ∷ true ∷ []
  pub less : row Lt ≡ true ∷ false ∷ false ∷ false ∷ false ∷ false ∷ []
  pub at_most : row Le ≡ true ∷ true ∷ false ∷ false ∷ false ∷ false ∷ []
  pub greater : row Gt ≡ false ∷ false ∷ true ∷ false ∷ false ∷ false ∷ []
  pub at_least : row Ge ≡ false ∷ true ∷ true ∷ false ∷ false ∷ false ∷ []
  pub same_type : row Same ≡ true ∷ true ∷ true ∷ true ∷ true ∷ false ∷ []
