-- Rows of elements that came: one more element that comes changes nothing in them.
use Rattle.std.proofs.Common.{◌≡◌, ℕ, ◌<◌, ◌≤◌, ◌==◌, List, [], ◌∷◌, ◌++◌, Bool, true, false, not, ◌&&◌, ◌||◌, length, map, reverse, zero, suc, refl, ap, sym, ◌∙◌, arith, subst, length-append, Some, None, slice_get, get_or, option_and_then}
use Rattle.std.specs.List.{AllByRecursion, cons_option, filter}
use Rattle.std.proofs.lemmas.Bool.{and_parts, eqb-true}
use Rattle.std.proofs.lemmas.List.{reverse-append}
use Rattle.rule_base.specs.declared.element.Element.{Element}
use Rattle.rule_base.specs.Numbers.{has_number}
use Rattle.rule_base.proofs.EachLemmas.{Each-append, Each-filter, Each-flat_map, Each-map, Each-weaker}
use Rattle.match_network.specs.Levels.{HaveCome}
use Rattle.match_network.specs.Row.{Joins, elements_of, extends, is_living, is_match, joins_after, some_passes}
use Rattle.match_network.specs.Woven.{grown, joined, made, offered, with_place}

pub Each-reverse : {X : Type 0} (P : X → Type 0) (xs : List X) → AllByRecursion P xs → AllByRecursion P (reverse xs)
Each-reverse P [] of_xs = tt
Each-reverse P (x ∷ xs) of_xs = subst (AllByRecursion P) (sym (reverse-append (x ∷ []) xs)) (Each-append P (reverse xs) (x ∷ []) (Each-reverse P xs of_xs.1) (of_xs.0, tt))

-- an element of before stays at its place
pub slice_get-more : {X : Type 0} (xs : List X) (i : ℕ) (more : List X) → i < length xs → slice_get (xs ++ more) i ≡ slice_get xs i
slice_get-more [] i more lt = absurd (omega (arith, lt))
slice_get-more (x ∷ xs) zero more lt = refl
slice_get-more (x ∷ xs) (suc i) more lt = slice_get-more xs i more (omega (arith, lt))

pub elements_of-come : (came : List Element) (e : Element) (row : List ℕ) → HaveCome came row → elements_of (came ++ e ∷ []) row ≡ elements_of came row
elements_of-come came e [] come = refl
elements_of-come came e (place ∷ row) come =
    ap (λ o. cons_option o (elements_of (came ++ e ∷ []) row)) (slice_get-more came place (e ∷ []) come.0)
    ∙ ap (cons_option (slice_get came place)) (elements_of-come came e row come.1)

pub extends-come : (joins : Joins) (came : List Element) (e : Element) (row : List ℕ) (place : ℕ) → HaveCome came row → place < length came → extends joins (came ++ e ∷ []) row place ≡ extends joins came row place
extends-come joins came e row place come lt =
    ap (λ es. some_passes (joins (length row) es) (slice_get (came ++ e ∷ []) place)) (elements_of-come came e row come)
    ∙ ap (some_passes (joins (length row) (elements_of came row))) (slice_get-more came place (e ∷ []) lt)

joins_after-come : (joins : Joins) (came : List Element) (e : Element) (before row : List ℕ) → HaveCome came before → HaveCome came row → joins_after joins (came ++ e ∷ []) before row ≡ joins_after joins came before row
joins_after-come joins came e before [] first come = refl
joins_after-come joins came e before (place ∷ row) first come =
    ap (λ b. b && joins_after joins (came ++ e ∷ []) (before ++ place ∷ []) row) (extends-come joins came e before place first come.0)
    ∙ ap (λ b. extends joins came before place && b) (joins_after-come joins came e (before ++ place ∷ []) row (Each-append (λ p. p < length came) before (place ∷ []) first (come.0, tt)) come.1)

pub is_match-come : (joins : Joins) (came : List Element) (e : Element) (row : List ℕ) → HaveCome came row → is_match joins (came ++ e ∷ []) row ≡ is_match joins came row
is_match-come joins came e row come = joins_after-come joins came e [] row tt come

pub HaveCome-more : (came : List Element) (e : Element) (row : List ℕ) → HaveCome came row → HaveCome (came ++ e ∷ []) row
HaveCome-more came e row come = Each-weaker (λ p. p < length came) (λ p. p < length (came ++ e ∷ [])) (λ p lt. omega (arith, lt, length-append came (e ∷ []))) row come

-- a number among numbers with a property has it
has_step : (same : Bool) (P : ℕ → Type 0) (n number : ℕ) → (n == number) ≡ same → P n → (same ≡ false → P number) → P number
has_step true P n number is of_n rest = subst P (eqb-true n number is) of_n
has_step false P n number is of_n rest = rest refl

pub or_rest : (a b : Bool) → (a || b) ≡ true → a ≡ false → b ≡ true
or_rest true b is not_a = absurd (let wrong : ⊥ = cc in wrong)
or_rest false b is not_a = is

pub Each-has : (P : ℕ → Type 0) (numbers : List ℕ) (number : ℕ) → AllByRecursion P numbers → has_number numbers number ≡ true → P number
Each-has P [] number each here = absurd (let wrong : ⊥ = cc in wrong)
Each-has P (n ∷ numbers) number each here =
    has_step (n == number) P n number refl each.0 (λ differs. Each-has P numbers number each.1 (or_rest (n == number) (has_number numbers number) here differs))

-- the elements of a living row came
pub HaveCome-living : (came : List Element) (places row : List ℕ) → AllByRecursion (λ p. p < length came) places → is_living places row ≡ true → HaveCome came row
HaveCome-living came places [] below living = tt
HaveCome-living came places (place ∷ row) below living =
    let parts = and_parts (has_number places place) (is_living places row) living in
    (Each-has (λ p. p < length came) places place below parts.0, HaveCome-living came places row below parts.1)

-- so do those of the rows that a place makes
HaveCome-push : (came : List Element) (row : List ℕ) (place : ℕ) → HaveCome came row → place < length came → HaveCome came (row ++ place ∷ [])
HaveCome-push came row place come lt = Each-append (λ p. p < length came) row (place ∷ []) come (lt, tt)

pub joined-come : (joins : Joins) (came : List Element) (places : List ℕ) (place : ℕ) (rows : List (List ℕ)) → place < length came → AllByRecursion (HaveCome came) rows → AllByRecursion (HaveCome came) (map (with_place place) (joined joins came places place rows))
joined-come joins came places place rows lt come =
    let keep : List ℕ → Bool = λ row. (is_living places row && not (has_number row place)) && extends joins came row place in
    Each-map (HaveCome came) (with_place place) (joined joins came places place rows)
    (Each-weaker (HaveCome came) (λ row. HaveCome came (row ++ place ∷ [])) (λ row of_row. HaveCome-push came row place of_row lt) (joined joins came places place rows)
    (Each-reverse (HaveCome came) (filter keep rows) (Each-filter (HaveCome came) keep rows come)))

pub grown-come : (joins : Joins) (came : List Element) (places : List ℕ) (rows : List (List ℕ)) → AllByRecursion (λ p. p < length came) places → AllByRecursion (HaveCome came) rows → AllByRecursion (HaveCome came) (grown joins came places rows)
grown-come joins came places rows below come =
    Each-flat_map (HaveCome came) (λ row. map (λ p. with_place p row) (offered joins came places row)) rows
    (Each-weaker (HaveCome came) (λ row. AllByRecursion (HaveCome came) (map (λ p. with_place p row) (offered joins came places row)))
    (λ row of_row. Each-map (HaveCome came) (λ p. with_place p row) (offered joins came places row)
    (Each-weaker (λ p. p < length came) (λ p. HaveCome came (row ++ p ∷ [])) (λ p of_p. HaveCome-push came row p of_row of_p) (offered joins came places row)
    (Each-reverse (λ p. p < length came) (filter (extends joins came row) places) (Each-filter (λ p. p < length came) (extends joins came row) places below))))
    rows come)

pub made-come : (joins : Joins) (came : List Element) (places : List ℕ) (place : ℕ) (rows : List (List ℕ)) → AllByRecursion (λ p. p < length came) places → place < length came → AllByRecursion (HaveCome came) rows → (further : ℕ) → AllByRecursion (HaveCome came) (made joins came places place rows further)
made-come joins came places place rows below lt come zero = joined-come joins came places place rows lt come
made-come joins came places place rows below lt come (suc further) =
    grown-come joins came places (made joins came places place rows further) below (made-come joins came places place rows below lt come further)

-- the elements of a row whose elements came are at its positions
pub record At {X : Type 0} (xs : List X) (i : ℕ) : Type 0 where
  pub item : X
  pub is : slice_get xs i ≡ Some item

pub some_at : {X : Type 0} (xs : List X) (i : ℕ) → i < length xs → At xs i
some_at [] i lt = absurd (omega (arith, lt))
some_at (x ∷ xs) zero lt = record { item = x; is = refl }
some_at (x ∷ xs) (suc i) lt = let rest = some_at xs i (omega (arith, lt)) in record { item = rest.item; is = rest.is }

pub elements_of-at : (came : List Element) (row : List ℕ) (i : ℕ) → HaveCome came row → slice_get (elements_of came row) i ≡ option_and_then (slice_get came) (slice_get row i)
elements_of-at came [] i come = refl
elements_of-at came (place ∷ row) i come =
    let first = some_at came place come.0 in
    ap (λ o. slice_get (cons_option o (elements_of came row)) i) first.is ∙ at_step came place row i first.item first.is (λ k. elements_of-at came row k come.1)
  where
    at_step : (came : List Element) (place : ℕ) (row : List ℕ) (i : ℕ) (e : Element) → slice_get came place ≡ Some e → ((k : ℕ) → slice_get (elements_of came row) k ≡ option_and_then (slice_get came) (slice_get row k)) → slice_get (e ∷ elements_of came row) i ≡ option_and_then (slice_get came) (slice_get (place ∷ row) i)
    at_step came place row zero e is rest = sym is
    at_step came place row (suc i) e is rest = rest i

-- an item by its place, in both ways of saying it
pub slice_get-here : {X : Type 0} (xs : List X) (i : ℕ) (x : X) → i < length xs → x ≡ get_or xs i x → slice_get xs i ≡ Some x
slice_get-here [] i x lt is = absurd (omega (arith, lt))
slice_get-here (y ∷ xs) zero x lt is = ap (λ z. Some z) (sym is)
slice_get-here (y ∷ xs) (suc i) x lt is = slice_get-here xs i x (omega (arith, lt)) is

pub slice_get-past : {X : Type 0} (xs : List X) (i : ℕ) → length xs ≤ i → slice_get xs i ≡ None
slice_get-past [] i le = refl
slice_get-past (x ∷ xs) zero le = absurd (omega (arith, le))
slice_get-past (x ∷ xs) (suc i) le = slice_get-past xs i (omega (arith, le))
