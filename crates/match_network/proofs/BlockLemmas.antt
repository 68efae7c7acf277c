-- What stands in the way of a row, along the bucket where it is looked for.
use Rattle.std.proofs.Common.{◌≡◌, ℕ, zero, suc, ◌==◌, ◌&&◌, ◌||◌, List, [], ◌∷◌, Bool, true, false, not, cond, reverse, take, IfSome, Option, None, Some, refl, ap, sym, ◌∙◌, slice_get}
use Rattle.std.specs.List.{cons_option, filter, list_all, list_any}
use Rattle.std.proofs.lemmas.Bool.{eqb-true}
use Rattle.std.proofs.lemmas.List.{reverse-append}
use Rattle.std.proofs.lemmas.List.Folds.{list_any-append}
use Rattle.rule_base.specs.declared.element.Element.{Element}
use Rattle.rule_base.specs.Numbers.{has_number}
use Rattle.hash_buckets.specs.Buckets.{numbers_of, stays}
use Rattle.join_tests.specs.declared.joins.Joins.{Joins}
use Rattle.join_tests.specs.declared.joins.Negated.{Negated}
use Rattle.join_tests.specs.Joining.{joins}
use Rattle.join_tests.specs.Meaning.{is_free}
use Rattle.match_network.specs.Filed.{IsStore, hash_at, only, passes_at, row_hash}
use Rattle.match_network.specs.Joining.{agrees_at}
use Rattle.match_network.specs.Levels.{HaveCome}
use Rattle.match_network.specs.Negated.{blocks, blocks_at}
use Rattle.match_network.specs.Row.{elements_of, extends, some_passes}
use Rattle.match_network.proofs.ComeLemmas.{some_at}
use Rattle.match_network.proofs.FiledLemmas.{found_store, offered_found}

or_true : (b : Bool) → (b || true) ≡ true
or_true true = refl
or_true false = refl

and_false : (b : Bool) → (b && false) ≡ false
and_false true = refl
and_false false = refl

-- two facts of what is there, if it is
pub if_both : {A : Type 0} (P Q R : A → Type 0) → ((a : A) → P a → Q a → R a) → (o : Option A) → IfSome o P → IfSome o Q → IfSome o R
if_both P Q R both None p q = tt
if_both P Q R both (Some a) p q = both a p q

-- whether any of some passes
any_agree : {X : Type 0} (p q : X → Bool) → ((x : X) → p x ≡ q x) → (xs : List X) → list_any p xs ≡ list_any q xs
any_agree p q agree [] = refl
any_agree p q agree (x ∷ xs) = ap (λ b. b || list_any p xs) (agree x) ∙ ap (λ b. q x || b) (any_agree p q agree xs)

or_last : (a b : Bool) → (a || (b || false)) ≡ (b || a)
or_last true true = refl
or_last true false = refl
or_last false true = refl
or_last false false = refl

any_reverse : {X : Type 0} (p : X → Bool) (xs : List X) → list_any p (reverse xs) ≡ list_any p xs
any_reverse p [] = refl
any_reverse p (x ∷ xs) =
    ap (list_any p) (reverse-append (x ∷ []) xs)
    ∙ list_any-append p (reverse xs) (x ∷ [])
    ∙ ap (λ b. b || (p x || false)) (any_reverse p xs)
    ∙ or_last (list_any p xs) (p x)

any_kept : {X : Type 0} (p : X → Bool) (x : X) (xs : List X) (b : Bool) → list_any p (cond b (x ∷ xs) xs) ≡ ((p x && b) || list_any p xs)
any_kept p x xs true = kept (p x) (list_any p xs)
  where
    kept : (a c : Bool) → (a || c) ≡ ((a && true) || c)
    kept true c = refl
    kept false c = refl
any_kept p x xs false = dropped (p x) (list_any p xs)
  where
    dropped : (a c : Bool) → c ≡ ((a && false) || c)
    dropped true c = refl
    dropped false c = refl

any_filter : {X : Type 0} (p q : X → Bool) (xs : List X) → list_any p (filter q xs) ≡ list_any (λ x. p x && q x) xs
any_filter p q [] = refl
any_filter p q (x ∷ xs) = any_kept p x (filter q xs) (q x) ∙ ap (λ b. (p x && q x) || b) (any_filter p q xs)

-- a number of those that are kept is one of all, and is kept
both_step : (q : ℕ → Bool) (x : ℕ) (xs : List ℕ) (number : ℕ) (kept same : Bool) → q x ≡ kept → (x == number) ≡ same → list_any (λ n. n == number) (cond kept (x ∷ filter q xs) (filter q xs)) ≡ true → (has_number (filter q xs) number ≡ true → (has_number xs number ≡ true) × (q number ≡ true)) → ((same || has_number xs number) ≡ true) × (q number ≡ true)
both_step q x xs number true true kept same has rest = (refl, ap q (sym (eqb-true x number same)) ∙ kept)
both_step q x xs number true false kept same has rest = rest (ap (λ b. b || has_number (filter q xs) number) (sym same) ∙ has)
both_step q x xs number false true kept same has rest = (refl, (rest has).1)
both_step q x xs number false false kept same has rest = rest has

has_filter : (q : ℕ → Bool) (xs : List ℕ) (number : ℕ) → has_number (filter q xs) number ≡ true → (has_number xs number ≡ true) × (q number ≡ true)
has_filter q [] number has = absurd (let wrong : ⊥ = cc in wrong)
has_filter q (x ∷ xs) number has = both_step q x xs number (q x) (x == number) refl refl has (has_filter q xs number)

-- the elements of a row's first places
pub elements_of-take : (came : List Element) (row : List ℕ) (n : ℕ) → HaveCome came row → take n (elements_of came row) ≡ elements_of came (take n row)
elements_of-take came [] zero come = refl
elements_of-take came [] (suc n) come = refl
elements_of-take came (place ∷ row) zero come = refl
elements_of-take came (place ∷ row) (suc n) come =
    let first = some_at came place come.0 in
    ap (λ o. take (suc n) (cons_option o (elements_of came row))) first.is
    ∙ ap (λ es. first.item ∷ es) (elements_of-take came row n come.1)
    ∙ ap (λ o. cons_option o (elements_of came (take n row))) (sym first.is)

pub HaveCome-take : (came : List Element) (row : List ℕ) (n : ℕ) → HaveCome came row → HaveCome came (take n row)
HaveCome-take came [] zero come = tt
HaveCome-take came [] (suc n) come = tt
HaveCome-take came (place ∷ row) zero come = tt
HaveCome-take came (place ∷ row) (suc n) come = (come.0, HaveCome-take came row n come.1)

any_come : (test : Element → Bool) (o : Option Element) (es : List Element) → list_any test (cons_option o es) ≡ (some_passes test o || list_any test es)
any_come test None es = refl
any_come test (Some e) es = refl

any_elements : (test : Element → Bool) (came : List Element) (places : List ℕ) → list_any test (elements_of came places) ≡ list_any (λ p. some_passes test (slice_get came p)) places
any_elements test came [] = refl
any_elements test came (place ∷ places) =
    any_come test (slice_get came place) (elements_of came places)
    ∙ ap (λ b. some_passes test (slice_get came place) || b) (any_elements test came places)

-- a row is free where no place in working memory is in its way
pub is_free-places : (n : Negated) (came : List Element) (places row : List ℕ) → is_free (elements_of came places) (elements_of came row) n ≡ not (list_any (blocks_at n came row) places)
is_free-places n came places row = ap not (any_elements (joins n.join (take n.after (elements_of came row))) came places)

-- a place is in the way of a row where its element is offered to the row's first places
blocks-extends : (n : Negated) (came : List Element) (row : List ℕ) (place : ℕ) → HaveCome came row → blocks_at n came row place ≡ extends (only n.join) came (take n.after row) place
blocks-extends n came row place come = ap (λ es. some_passes (joins n.join es) (slice_get came place)) (elements_of-take came row n.after come)

-- what is found in the bucket, and what it says where nothing is found
pub found_blocks : (n : Negated) (came : List Element) (places row before : List ℕ) (hash : ℕ) (old new : List (ℕ × ℕ)) (place : ℕ) → IsStore n.join came places old → HaveCome came row → before ≡ take n.after row → hash ≡ row_hash n.join came before → new ≡ filter (stays hash (has_number places)) old → has_number (reverse (numbers_of new hash)) place ≡ true → agrees_at n.join came before place ≡ true → (has_number places place ≡ true) × (blocks_at n came row place ≡ true)
found_blocks n came places row before hash old new place held come before_is hash_is new_is has agrees =
    let hit : ℕ → Bool = λ p. hash_at n.join came p == hash in
    let mid : ℕ → Bool = λ p. hit p && passes_at n.join came p in
    let here : has_number (filter mid places) place ≡ true =
    ap (λ ps. has_number ps place) (sym (ap (λ es. numbers_of es hash) new_is ∙ found_store n.join came places hash old held))
    ∙ sym (any_reverse (λ p. p == place) (numbers_of new hash)) ∙ has in
    let both = has_filter mid places place here in
    let at_hash : (agrees_at n.join came before place && ((hash_at n.join came place == row_hash n.join came before) && passes_at n.join came place)) ≡ true =
    ap (λ b. b && ((hash_at n.join came place == row_hash n.join came before) && passes_at n.join came place)) agrees
    ∙ ap (λ h. (hash_at n.join came place == h) && passes_at n.join came place) (sym hash_is)
    ∙ both.1 in (
      both.0,
      blocks-extends n came row place come
          ∙ ap (λ ps. extends (only n.join) came ps place) (sym before_is)
          ∙ offered_found n.join came before (slice_get came place)
          ∙ at_hash,
    )

pub none_blocks : (n : Negated) (came : List Element) (places row before : List ℕ) (hash : ℕ) (old new : List (ℕ × ℕ)) → IsStore n.join came places old → HaveCome came row → before ≡ take n.after row → hash ≡ row_hash n.join came before → new ≡ filter (stays hash (has_number places)) old → list_any (agrees_at n.join came before) (reverse (numbers_of new hash)) ≡ false → is_free (elements_of came places) (elements_of came row) n ≡ true
none_blocks n came places row before hash old new held come before_is hash_is new_is none =
    let agrees = agrees_at n.join came before in
    let mid : ℕ → Bool = λ p. (hash_at n.join came p == hash) && passes_at n.join came p in
    let there : list_any agrees (reverse (numbers_of new hash)) ≡ list_any (blocks_at n came row) places =
    any_reverse agrees (numbers_of new hash)
    ∙ ap (list_any agrees) (ap (λ es. numbers_of es hash) new_is ∙ found_store n.join came places hash old held)
    ∙ any_filter agrees mid places
    ∙ any_agree (λ p. agrees p && mid p) (blocks_at n came row)
    (λ p. ap (λ h. agrees p && ((hash_at n.join came p == h) && passes_at n.join came p)) hash_is
    ∙ sym (offered_found n.join came before (slice_get came p))
    ∙ ap (λ ps. extends (only n.join) came ps p) before_is
    ∙ sym (blocks-extends n came row p come)) places in
    is_free-places n came places row ∙ ap not (sym there ∙ none)

-- a row that an element is in the way of isn't free
any_has : (p : ℕ → Bool) (xs : List ℕ) (number : ℕ) → has_number xs number ≡ true → p number ≡ true → list_any p xs ≡ true
any_has p [] number has passed = absurd (let wrong : ⊥ = cc in wrong)
any_has p (x ∷ xs) number has passed = step (x == number) refl has (any_has p xs number)
  where
    step : (same : Bool) → (x == number) ≡ same → (same || has_number xs number) ≡ true → (has_number xs number ≡ true → p number ≡ true → list_any p xs ≡ true) → (p x || list_any p xs) ≡ true
    step true same here rest = ap (λ b. b || list_any p xs) (ap p (eqb-true x number same) ∙ passed)
    step false same here rest = ap (λ b. p x || b) (rest here passed) ∙ or_true (p x)

not_all : (came : List Element) (places row : List ℕ) (place : ℕ) (all : List Negated) → has_number places place ≡ true → list_any (λ (n : Negated). blocks_at n came row place) all ≡ true → list_all (is_free (elements_of came places) (elements_of came row)) all ≡ false
not_all came places row place [] has blocked = absurd (let wrong : ⊥ = cc in wrong)
not_all came places row place (n ∷ all) has blocked = step (blocks_at n came row place) refl blocked (not_all came places row place all has)
  where
    step : (here : Bool) → blocks_at n came row place ≡ here → (here || list_any (λ (m : Negated). blocks_at m came row place) all) ≡ true → (list_any (λ (m : Negated). blocks_at m came row place) all ≡ true → list_all (is_free (elements_of came places) (elements_of came row)) all ≡ false) → list_all (is_free (elements_of came places) (elements_of came row)) (n ∷ all) ≡ false
    step true here is rest = ap (λ b. b && list_all (is_free (elements_of came places) (elements_of came row)) all) (is_free-places n came places row ∙ ap not (any_has (blocks_at n came row) places place has here))
    step false here is rest = ap (λ b. is_free (elements_of came places) (elements_of came row) n && b) (rest is) ∙ and_false (is_free (elements_of came places) (elements_of came row) n)

pub blocked_is_not_free : (all : Joins) (came : List Element) (places row : List ℕ) (place : ℕ) → has_number places place ≡ true → blocks all came row place ≡ true → list_all (is_free (elements_of came places) (elements_of came row)) all.negated ≡ false
blocked_is_not_free all came places row place has blocked = not_all came places row place all.negated has blocked
