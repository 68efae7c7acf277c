-- The elements that changes make: those of the first change, and those of the others.
use Rattle.std.proofs.Common.{◌≡◌, ℕ, ◌+◌, List, [], ◌∷◌, ◌++◌, Some, drop, length, slice_get, ap, arith, subst, sym}
use Rattle.rule_base.specs.declared.change.Change.{Change}
use Rattle.rule_base.specs.declared.change.Change.TheVariants.{Remove, Make}
use Rattle.rule_base.specs.declared.element.Element.{Element}
use Rattle.rule_base.specs.Memory.{value_count}
use Rattle.rule_base.specs.Step.{born}
use Rattle.rule_base.proofs.StepByStepLemmas.{drop_next}
use Rattle.commit_journal.proofs.NumberedLemmas.{value_count-cons}

-- changes make the elements of a first change, and those of others, whose tags go on from the middle
pub record Splits (next : ℕ) (changes : List Change) (c : Change) (rest : List Change) (middle : ℕ) : Type 0 where
  pub elements : born next changes ≡ born next (c ∷ []) ++ born middle rest
  pub count : length (born next changes) ≡ length (born next (c ∷ [])) + length (born middle rest)
  pub values : value_count (born next changes) ≡ value_count (born next (c ∷ [])) + value_count (born middle rest)

Splits-cons : (next : ℕ) (c : Change) (rest : List Change) (middle : ℕ) → middle ≡ next + length (born next (c ∷ [])) → Splits next (c ∷ rest) c rest middle
Splits-cons next (Remove tag) rest middle is =
    let same : next ≡ middle = omega (arith, is) in
    let long : length (born next rest) ≡ length (born middle rest) = ap (λ n. length (born n rest)) same in
    let later : value_count (born next rest) ≡ value_count (born middle rest) = ap (λ n. value_count (born n rest)) same in
    record {
      elements = ap (λ n. born n rest) same;
      count = omega (arith, long);
      values = omega (arith, later);
    }
Splits-cons next (Make class values) rest middle is =
    let same : next + 1 ≡ middle = omega (arith, is) in
    let e : Element = record { tag = next; class = class; values = values } in
    let all : value_count (e ∷ born (next + 1) rest) ≡ length values + value_count (born (next + 1) rest) = value_count-cons e (born (next + 1) rest) in
    let one : value_count (e ∷ []) ≡ length values + 0 = value_count-cons e [] in
    let later : value_count (born (next + 1) rest) ≡ value_count (born middle rest) = ap (λ n. value_count (born n rest)) same in
    let long : length (born (next + 1) rest) ≡ length (born middle rest) = ap (λ n. length (born n rest)) same in
    record {
      elements = ap (λ n. e ∷ born n rest) same;
      count = omega (arith, long);
      values = omega (arith, all, one, later);
    }

-- the changes from a place on
pub Splits-drop : (next : ℕ) (changes : List Change) (at : ℕ) (c : Change) (middle : ℕ) → slice_get changes at ≡ Some c → middle ≡ next + length (born next (c ∷ [])) → Splits next (drop at changes) c (drop (at + 1) changes) middle
Splits-drop next changes at c middle is middle_is = subst (λ cs. Splits next cs c (drop (at + 1) changes) middle) (sym (drop_next changes at c is)) (Splits-cons next c (drop (at + 1) changes) middle middle_is)
