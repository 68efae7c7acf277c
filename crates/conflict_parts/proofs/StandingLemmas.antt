-- How full matches stand after one of them was set, or one more was added.
use Rattle.std.proofs.Common.{◌≡◌, inl, inr, ℕ, ◌+◌, ◌<◌, ◌≤◌, List, [], ◌∷◌, ◌++◌, None, Some, length, length-append, length-set, slice_get, slice_index_or, slice_set, zero, suc, refl, ap, arith, subst, sym, ◌∙◌}
use Rattle.std.specs.Option.{option_map}
use Rattle.std.proofs.lemmas.Bool.{cases_eq, cases_lt}
use Rattle.std.proofs.lemmas.List.{get_or_past, get_or-set_other, get_or-set_same}
use Rattle.std.proofs.lemmas.Option.{slice_get_past}
use Rattle.conflict_parts.specs.declared.standing.Standing.{Standing}
use Rattle.conflict_parts.specs.Standings.{standing_at, with_set, with_standing}

-- an item of a list that was set
slice_get-set_same : {X : Type 0} (xs : List X) (i : ℕ) (x : X) → slice_get (slice_set xs i x) i ≡ option_map (λ (y : X). x) (slice_get xs i)
slice_get-set_same [] i x = refl
slice_get-set_same (y ∷ xs) zero x = refl
slice_get-set_same (y ∷ xs) (suc i) x = slice_get-set_same xs i x

slice_get-set_other : {X : Type 0} (xs : List X) (i j : ℕ) (x : X) → (i ≡ j → ⊥) → slice_get (slice_set xs i x) j ≡ slice_get xs j
slice_get-set_other [] i j x apart = refl
slice_get-set_other (y ∷ xs) zero zero x apart = absurd (apart refl)
slice_get-set_other (y ∷ xs) zero (suc j) x apart = refl
slice_get-set_other (y ∷ xs) (suc i) zero x apart = refl
slice_get-set_other (y ∷ xs) (suc i) (suc j) x apart = slice_get-set_other xs i j x (λ same. apart (ap suc same))

-- the list of one rule, where that of a rule was set
of_rule-set : (ss : List (List Standing)) (rule : ℕ) (of_rule : List Standing) → rule < length ss → slice_index_or (slice_set ss rule of_rule) rule [] ≡ of_rule
of_rule-set ss rule of_rule lt = get_or-set_same ss rule of_rule [] lt

of_rule-set_other : (ss : List (List Standing)) (rule other : ℕ) (of_rule : List Standing) → (rule ≡ other → ⊥) → slice_index_or (slice_set ss rule of_rule) other [] ≡ slice_index_or ss other []
of_rule-set_other ss rule other of_rule apart = get_or-set_other ss rule other of_rule [] (λ same. apart (sym same))

-- past the rules nothing stands
pub standing_at-past : (ss : List (List Standing)) (rule row : ℕ) → length ss ≤ rule → standing_at ss rule row ≡ None
standing_at-past ss rule row le = ap (λ (of_rule : List Standing). slice_get of_rule row) (get_or_past ss rule [] le)

pub standing_at-past_row : (ss : List (List Standing)) (rule row : ℕ) → length (slice_index_or ss rule []) ≤ row → standing_at ss rule row ≡ None
standing_at-past_row ss rule row le = slice_get_past (slice_index_or ss rule []) row le

-- one was set
pub length-with_set : (ss : List (List Standing)) (rule row : ℕ) (x : Standing) → length (with_set ss rule row x) ≡ length ss
length-with_set ss rule row x = length-set ss rule (slice_set (slice_index_or ss rule []) row x)

pub with_set-same : (ss : List (List Standing)) (rule row : ℕ) (x : Standing) → standing_at (with_set ss rule row x) rule row ≡ option_map (λ (y : Standing). x) (standing_at ss rule row)
with_set-same ss rule row x =
    elim (cases_lt rule (length ss)) [
      | inl lt ↦ ap (λ (of_rule : List Standing). slice_get of_rule row) (of_rule-set ss rule (slice_set (slice_index_or ss rule []) row x) lt) ∙ slice_get-set_same (slice_index_or ss rule []) row x
      | inr le ↦ standing_at-past (with_set ss rule row x) rule row (omega (arith, length-with_set ss rule row x, le)) ∙ ap (option_map (λ (y : Standing). x)) (sym (standing_at-past ss rule row le))
    ]

pub with_set-other : (ss : List (List Standing)) (rule row : ℕ) (x : Standing) (other number : ℕ) → (rule ≡ other → row ≡ number → ⊥) → standing_at (with_set ss rule row x) other number ≡ standing_at ss other number
with_set-other ss rule row x other number apart =
    elim (cases_eq rule other) [
      | inl same ↦
          elim (cases_lt rule (length ss)) [
            | inl lt ↦
                subst (λ r. standing_at (with_set ss rule row x) r number ≡ standing_at ss r number) same
                (ap (λ (of_rule : List Standing). slice_get of_rule number) (of_rule-set ss rule (slice_set (slice_index_or ss rule []) row x) lt)
                ∙ slice_get-set_other (slice_index_or ss rule []) row number x (λ at. apart same at))
            | inr le ↦
                standing_at-past (with_set ss rule row x) other number (omega (arith, length-with_set ss rule row x, le, same)) ∙ sym (standing_at-past ss other number (omega (arith, le, same)))
          ]
      | inr differs ↦ ap (λ (of_rule : List Standing). slice_get of_rule number) (of_rule-set_other ss rule other (slice_set (slice_index_or ss rule []) row x) differs)
    ]

pub lengths-with_set : (ss : List (List Standing)) (rule row : ℕ) (x : Standing) (other : ℕ) → length (slice_index_or (with_set ss rule row x) other []) ≡ length (slice_index_or ss other [])
lengths-with_set ss rule row x other =
    elim (cases_eq rule other) [
      | inl same ↦
          elim (cases_lt rule (length ss)) [
            | inl lt ↦
                subst (λ r. length (slice_index_or (with_set ss rule row x) r []) ≡ length (slice_index_or ss r [])) same
                (ap (λ (of_rule : List Standing). length of_rule) (of_rule-set ss rule (slice_set (slice_index_or ss rule []) row x) lt) ∙ length-set (slice_index_or ss rule []) row x)
            | inr le ↦
                ap (λ (of_rule : List Standing). length of_rule)
                (get_or_past (with_set ss rule row x) other [] (omega (arith, length-with_set ss rule row x, le, same)) ∙ sym (get_or_past ss other [] (omega (arith, le, same))))
          ]
      | inr differs ↦ ap (λ (of_rule : List Standing). length of_rule) (of_rule-set_other ss rule other (slice_set (slice_index_or ss rule []) row x) differs)
    ]

-- one more was added
pub length-with_standing : (ss : List (List Standing)) (rule : ℕ) (x : Standing) → length (with_standing ss rule x) ≡ length ss
length-with_standing ss rule x = length-set ss rule (slice_index_or ss rule [] ++ x ∷ [])

slice_get-last : {X : Type 0} (xs : List X) (x : X) → slice_get (xs ++ x ∷ []) (length xs) ≡ Some x
slice_get-last [] x = refl
slice_get-last (y ∷ xs) x = slice_get-last xs x

slice_get-not_last : {X : Type 0} (xs : List X) (x : X) (i : ℕ) → (i ≡ length xs → ⊥) → slice_get (xs ++ x ∷ []) i ≡ slice_get xs i
slice_get-not_last [] x zero apart = absurd (apart refl)
slice_get-not_last [] x (suc i) apart = refl
slice_get-not_last (y ∷ xs) x zero apart = refl
slice_get-not_last (y ∷ xs) x (suc i) apart = slice_get-not_last xs x i (λ same. apart (ap suc same))

pub with_standing-last : (ss : List (List Standing)) (rule : ℕ) (x : Standing) → rule < length ss → standing_at (with_standing ss rule x) rule (length (slice_index_or ss rule [])) ≡ Some x
with_standing-last ss rule x lt =
    ap (λ (of_rule : List Standing). slice_get of_rule (length (slice_index_or ss rule []))) (of_rule-set ss rule (slice_index_or ss rule [] ++ x ∷ []) lt) ∙ slice_get-last (slice_index_or ss rule []) x

pub with_standing-other : (ss : List (List Standing)) (rule : ℕ) (x : Standing) (other number : ℕ) → rule < length ss → (rule ≡ other → number ≡ length (slice_index_or ss rule []) → ⊥) → standing_at (with_standing ss rule x) other number ≡ standing_at ss other number
with_standing-other ss rule x other number lt apart =
    elim (cases_eq rule other) [
      | inl same ↦
          subst (λ r. standing_at (with_standing ss rule x) r number ≡ standing_at ss r number) same
          (ap (λ (of_rule : List Standing). slice_get of_rule number) (of_rule-set ss rule (slice_index_or ss rule [] ++ x ∷ []) lt) ∙ slice_get-not_last (slice_index_or ss rule []) x number (λ at. apart same at))
      | inr differs ↦ ap (λ (of_rule : List Standing). slice_get of_rule number) (of_rule-set_other ss rule other (slice_index_or ss rule [] ++ x ∷ []) differs)
    ]

pub count-with_standing : (ss : List (List Standing)) (rule : ℕ) (x : Standing) → rule < length ss → length (slice_index_or (with_standing ss rule x) rule []) ≡ length (slice_index_or ss rule []) + 1
count-with_standing ss rule x lt =
    ap (λ (of_rule : List Standing). length of_rule) (of_rule-set ss rule (slice_index_or ss rule [] ++ x ∷ []) lt) ∙ length-append (slice_index_or ss rule []) (x ∷ [])

pub count-with_standing_other : (ss : List (List Standing)) (rule : ℕ) (x : Standing) (other : ℕ) → (rule ≡ other → ⊥) → length (slice_index_or (with_standing ss rule x) other []) ≡ length (slice_index_or ss other [])
count-with_standing_other ss rule x other differs = ap (λ (of_rule : List Standing). length of_rule) (of_rule-set_other ss rule other (slice_index_or ss rule [] ++ x ∷ []) differs)
