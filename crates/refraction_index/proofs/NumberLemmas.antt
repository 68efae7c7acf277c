-- What the numbers are once one choice has another.
use Rattle.std.proofs.Common.{◌≡◌, ◌≤◌, ℕ, List, [], ◌∷◌, Bool, true, false, cond, Option, None, Some, Vec, arith, length, refl, ap, sym, ◌∙◌}
use Rattle.std.specs.Cmp.Lexicographic.{bytes_decides}
use Rattle.std.specs.Map.{lookup}
use Rattle.std.specs.Str.{bytes_eq}
use Rattle.std.specs.declared.alloc.Global.{Global}
use Rattle.indexmap.specs.IndexMap.{insert_entry}
use Rattle.refraction_index.specs.Numbers.{AreWithin, Numbers, by_items}
use Rattle.rule_base.specs.Numbers.{same_numbers}

-- a look-up in the map
pub lookup-by_items : (words : List ℕ) (entries : List (Vec ℕ Global × ℕ)) → lookup (λ k. bytes_eq words k.items) entries ≡ lookup (same_numbers words) (by_items entries)
lookup-by_items words [] = refl
lookup-by_items words (e ∷ entries) = ap (cond (same_numbers words e.0.items) (Some e.1)) (lookup-by_items words entries)

-- the second of two answers under one test is never given
once : (b : Bool) (number other : ℕ) (found : Option ℕ) → cond b (Some number) found ≡ cond b (Some number) (cond b (Some other) found)
once true number other found = refl
once false number other found = refl

-- tests of which at most one holds may stand in either order
either_way : (a b : Bool) (x y : ℕ) (found : Option ℕ) → (a ≡ true → b ≡ true → ⊥) → cond a (Some x) (cond b (Some y) found) ≡ cond b (Some y) (cond a (Some x) found)
either_way true true x y found apart = absurd (apart refl refl)
either_way true false x y found apart = refl
either_way false true x y found apart = refl
either_way false false x y found apart = refl

-- the same words can't be those of two keys that differ
not_both : (q these those : List ℕ) → same_numbers these those ≡ false → same_numbers q those ≡ true → same_numbers q these ≡ true → ⊥
not_both q these those differ one two =
    let same : these ≡ those = sym ((bytes_decides q these).0 two) ∙ (bytes_decides q those).0 one in
    let yes : same_numbers these those ≡ true = (bytes_decides these those).1 same in
    cc

-- one step: the first key is the one that is set, or it isn't
lookup-set_at : (q words : List ℕ) (number : ℕ) (e : Vec ℕ Global × ℕ) (entries inserted : List (Vec ℕ Global × ℕ)) (b : Bool) → same_numbers words e.0.items ≡ b → lookup (same_numbers q) (by_items inserted) ≡ cond (same_numbers q words) (Some number) (lookup (same_numbers q) (by_items entries)) → lookup (same_numbers q) (by_items (cond b ((e.0, number) ∷ entries) (e ∷ inserted))) ≡ cond (same_numbers q words) (Some number) (lookup (same_numbers q) (by_items (e ∷ entries)))
lookup-set_at q words number e entries inserted true same rest =
    once (same_numbers q e.0.items) number e.1 (lookup (same_numbers q) (by_items entries))
    ∙ ap (λ these. cond (same_numbers q these) (Some number) (lookup (same_numbers q) (by_items (e ∷ entries)))) (sym ((bytes_decides words e.0.items).0 same))
lookup-set_at q words number e entries inserted false same rest =
    ap (cond (same_numbers q e.0.items) (Some e.1)) rest
    ∙ either_way (same_numbers q e.0.items) (same_numbers q words) e.1 number (lookup (same_numbers q) (by_items entries)) (not_both q words e.0.items same)

-- a look-up once a key has a number
pub lookup-set : (q : List ℕ) (entries : List (Vec ℕ Global × ℕ)) (key : Vec ℕ Global) (number : ℕ) → lookup (same_numbers q) (by_items (insert_entry (λ x y. bytes_eq x.items y.items) entries key number)) ≡ cond (same_numbers q key.items) (Some number) (lookup (same_numbers q) (by_items entries))
lookup-set q [] key number = refl
lookup-set q (e ∷ entries) key number =
    lookup-set_at q key.items number e entries (insert_entry (λ x y. bytes_eq x.items y.items) entries key number) (same_numbers key.items e.0.items) refl (lookup-set q entries key number)

-- what differs from the key that is set has no number if it had none
unset : (b : Bool) (number : ℕ) (found : Option ℕ) → (b ≡ true → ⊥) → found ≡ None → cond b (Some number) found ≡ None
unset true number found differs none = absurd (differs refl)
unset false number found differs none = none

-- there is room for the words that have a number
pub within-set : (old new : Numbers) (room more : ℕ) (words : List ℕ) (number : ℕ) → AreWithin room old → room ≤ more → length words ≤ more → ((q : List ℕ) → lookup (same_numbers q) new ≡ cond (same_numbers q words) (Some number) (lookup (same_numbers q) old)) → AreWithin more new
within-set old new room more words number within grows fits now q long =
    now q ∙ unset (same_numbers q words) number (lookup (same_numbers q) old) (λ same. omega (arith, long, fits, ap length ((bytes_decides q words).0 same))) (within q (omega (arith, grows, long)))
