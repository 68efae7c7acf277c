-- Chains: a value under a condition, the first of several, and a step that goes on only where the one before gave something.
use Rattle.std.specs.Prelude.{List, [], ◌∷◌, Bool, true, false, Option, Some, None, Result, Ok, Err}
use Rattle.std.specs.Option.{option_or}

-- the value, if the test holds
abbrev pub only_if : {A : Type 0} → Bool → A → Option A
only_if true a = Some a
only_if false a = None

-- the first answer that there is, going through a list
abbrev pub first_answer : {A B : Type 0} → (A → Option B) → List A → Option B
first_answer answer [] = None
first_answer answer (x ∷ xs) = option_or (answer x) (first_answer answer xs)

infixl 10 ◌>>=◌
-- the next step with what this one gave, or its error
abbrev pub ◌>>=◌ : {A B E : Type 0} → Result A E → (A → Result B E) → Result B E
(Ok a) >>= f = f a
(Err e) >>= f = Err e
