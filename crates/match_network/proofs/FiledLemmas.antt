-- What is found under a hash: just the living rows, or elements, that have the key.
use Rattle.std.proofs.Common.{◌≡◌, ℕ, ◌+◌, ◌<◌, ◌≤◌, ◌==◌, ◌⊎◌, inl, inr, List, [], ◌∷◌, ◌++◌, Bool, true, false, not, cond, ◌&&◌, ◌||◌, drop, length, map, reverse, zero, suc, refl, ap, sym, ◌∙◌, arith, subst, Option, None, Some, slice_get}
use Rattle.std.specs.List.{AllByRecursion, filter}
use Rattle.std.specs.Option.{option_map_or}
use Rattle.std.proofs.lemmas.Bool.{and_from, and_parts, cases_lt, eq-eqb, eqb-true}
use Rattle.std.proofs.lemmas.Bool.Decides.{Decides-int_eq}
use Rattle.std.proofs.lemmas.List.{append-nil, map-append, reverse-append}
use Rattle.std.proofs.lemmas.List.Elements.{filter-append}
use Rattle.rule_base.specs.declared.element.Element.{Element}
use Rattle.rule_base.specs.declared.value.Value.{Value}
use Rattle.rule_base.specs.declared.value.Value.TheVariants.{Int, Sym}
use Rattle.rule_base.specs.Numbers.{has_number}
use Rattle.rule_base.specs.Value.{same_value}
use Rattle.rule_base.proofs.EachLemmas.{Each-always, Each-filter}
use Rattle.working_memory.proofs.PlaceLemmas.{filter-all, filter-both}
use Rattle.hash_buckets.specs.Buckets.{numbers_of, stays}
use Rattle.join_tests.specs.declared.joins.Join.{Join}
use Rattle.join_tests.specs.declared.joins.KeyPart.{KeyPart}
use Rattle.join_tests.specs.Hashing.{hash_of}
use Rattle.join_tests.specs.Joining.{key_of_element, key_of_row, passes, same_key, tests_hold}
use Rattle.join_tests.specs.Reading.{value_at, value_in}
use Rattle.match_network.specs.Filed.{IsFiled, IsStore, LevelRows, filed, filed_rows, hash_at, living_entries, only, passes_at, row_at, row_hash, row_lives}
use Rattle.match_network.specs.Joining.{IsCleaned, agrees, agrees_at, extended, taken, takes}
use Rattle.match_network.specs.Row.{elements_of, extends, is_living, some_passes}
use Rattle.match_network.specs.Woven.{joined, offered, with_place}
use Rattle.match_network.proofs.ComeLemmas.{slice_get-past}
use Rattle.match_network.proofs.SoFarLemmas.{row_at-is}

-- lists turned round
pub map-reverse : {X Y : Type 0} (f : X → Y) (xs : List X) → map f (reverse xs) ≡ reverse (map f xs)
map-reverse f [] = refl
map-reverse f (x ∷ xs) =
    ap (map f) (reverse-append (x ∷ []) xs) ∙ map-append f (reverse xs) (x ∷ []) ∙ ap (λ ys. ys ++ f x ∷ []) (map-reverse f xs) ∙ sym (reverse-append (f x ∷ []) (map f xs))

pub filter-reverse : {X : Type 0} (f : X → Bool) (xs : List X) → filter f (reverse xs) ≡ reverse (filter f xs)
filter-reverse f [] = refl
filter-reverse f (x ∷ xs) =
    ap (filter f) (reverse-append (x ∷ []) xs) ∙ filter-append f (reverse xs) (x ∷ []) ∙ ap (λ ys. ys ++ filter f (x ∷ [])) (filter-reverse f xs) ∙ last (f x)
  where
    last : (b : Bool) → reverse (filter f xs) ++ cond b (x ∷ []) [] ≡ reverse (cond b (x ∷ filter f xs) (filter f xs))
    last true = sym (reverse-append (x ∷ []) (filter f xs))
    last false = append-nil (reverse (filter f xs))

-- a bucket that was cleaned holds what lives
under_step : (under alive : Bool) → (under && alive) ≡ (under && (not under || alive))
under_step true alive = refl
under_step false alive = refl

pub cleaned_bucket : (lives : ℕ → Bool) (entries : List (ℕ × ℕ)) (hash : ℕ) → numbers_of (filter (stays hash lives) entries) hash ≡ numbers_of (living_entries lives entries) hash
cleaned_bucket lives entries hash =
    let under : ℕ × ℕ → Bool = λ e. e.0 == hash in
    let alive : ℕ × ℕ → Bool = λ e. lives e.1 in
    let both : ℕ × ℕ → Bool = λ e. under e && alive e in
    ap (map (λ (e : ℕ × ℕ). e.1))
    (sym (filter-both under (stays hash lives) both entries (Each-always (λ e. both e ≡ (under e && stays hash lives e)) (λ e. under_step (under e) (alive e)) entries))
    ∙ filter-both under alive both entries (Each-always (λ e. both e ≡ (under e && alive e)) (λ e. refl) entries))

-- the rows of a bucket
drop_next : {X : Type 0} (n : ℕ) (xs : List X) (y : X) (ys : List X) → drop n xs ≡ y ∷ ys → (slice_get xs n ≡ Some y) × (drop (n + 1) xs ≡ ys)
drop_next zero [] y ys is = absurd (let wrong : ⊥ = cc in wrong)
drop_next (suc n) [] y ys is = absurd (let wrong : ⊥ = cc in wrong)
drop_next zero (x ∷ xs) y ys is = (let first : x ≡ y = cc in ap (λ z. Some z) first, let rest : xs ≡ ys = cc in ap (λ k. drop k (x ∷ xs)) (let one : 0 + 1 ≡ suc 0 = omega arith in one) ∙ rest)
drop_next (suc n) (x ∷ xs) y ys is =
    let rest = drop_next n xs y ys is in
    (rest.0, ap (λ k. drop k (x ∷ xs)) (let one : suc n + 1 ≡ suc (n + 1) = omega arith in one) ∙ rest.1)

found_step : (alive : Bool) (number row_has hash : ℕ) (entries : List (ℕ × ℕ)) (f : ℕ → List ℕ) (row : List ℕ) (rest : List (List ℕ)) → f number ≡ row → map f (numbers_of entries hash) ≡ rest → map f (numbers_of (cond alive ((row_has, number) ∷ entries) entries) hash) ≡ cond (alive && (row_has == hash)) (row ∷ rest) rest
found_step false number row_has hash entries f row rest at is = is
found_step true number row_has hash entries f row rest at is =
    hit_step (row_has == hash)
  where
    hit_step : (hit : Bool) → map f (map (λ (e : ℕ × ℕ). e.1) (cond hit ((row_has, number) ∷ filter (λ (e : ℕ × ℕ). e.0 == hash) entries) (filter (λ (e : ℕ × ℕ). e.0 == hash) entries))) ≡ cond hit (row ∷ rest) rest
    hit_step true = ap (λ r. r ∷ map f (numbers_of entries hash)) at ∙ ap (λ rs. row ∷ rs) is
    hit_step false = is

found_rows : (join : Join) (came : List Element) (places : List ℕ) (all : List (List ℕ)) (hash number : ℕ) (rows : List (List ℕ)) → drop number all ≡ rows → map (row_at all) (numbers_of (living_entries (row_lives places all) (filed_rows join came number rows)) hash) ≡ filter (λ row. is_living places row && (row_hash join came row == hash)) rows
found_rows join came places all hash number [] is = refl
found_rows join came places all hash number (row ∷ rows) is =
    let next = drop_next number all row rows is in
    let at : row_at all number ≡ row = row_at-is all number row next.0 in
    found_step (row_lives places all number) number (row_hash join came row) hash (living_entries (row_lives places all) (filed_rows join came (number + 1) rows)) (row_at all) row _ at (found_rows join came places all hash (number + 1) rows next.1)
    ∙ ap (λ r. cond (is_living places r && (row_hash join came row == hash)) (row ∷ filter (λ other. is_living places other && (row_hash join came other == hash)) rows) (filter (λ other. is_living places other && (row_hash join came other == hash)) rows)) at

-- keys that agree have the same hash
same_value-equal : (a b : Value) → same_value a b ≡ true → a ≡ b
same_value-equal (Int a) (Int b) same = ap (λ z. Int z) ((Decides-int_eq a b).0 same)
same_value-equal (Sym a) (Sym b) same = ap (λ n. Sym n) (eqb-true a b same)
same_value-equal (Int a) (Sym b) same = absurd (let wrong : ⊥ = cc in wrong)
same_value-equal (Sym a) (Int b) same = absurd (let wrong : ⊥ = cc in wrong)

same_keys : (key : List KeyPart) (es : List Element) (e : Element) → same_key key es e ≡ true → key_of_row key es ≡ key_of_element key e
same_keys [] es e same = refl
same_keys (part ∷ key) es e same =
    let parts = and_parts (same_value (value_at e part.attribute) (value_in es part.source)) (same_key key es e) same in
    ap (λ v. v ∷ key_of_row key es) (sym (same_value-equal (value_at e part.attribute) (value_in es part.source) parts.0))
    ∙ ap (λ vs. value_at e part.attribute ∷ vs) (same_keys key es e parts.1)

pub same_hash : (key : List KeyPart) (es : List Element) (e : Element) → same_key key es e ≡ true → (hash_of (key_of_row key es) == hash_of (key_of_element key e)) ≡ true
same_hash key es e same = eq-eqb (hash_of (key_of_row key es)) (hash_of (key_of_element key e)) (ap hash_of (same_keys key es e same))

-- so all rows that take a place are found
keep_step : (living has same tests hit : Bool) → (same ≡ true → hit ≡ true) → ((living && not has) && (same && tests)) ≡ ((not has && (same && tests)) && (living && hit))
keep_step true true true true true is = refl
keep_step true true true true false is = refl
keep_step true true true false true is = refl
keep_step true true true false false is = refl
keep_step true true false true true is = refl
keep_step true true false true false is = refl
keep_step true true false false true is = refl
keep_step true true false false false is = refl
keep_step true false true true true is = refl
keep_step true false true true false is = absurd (let wrong : ⊥ = cc (is refl) in wrong)
keep_step true false true false true is = refl
keep_step true false true false false is = refl
keep_step true false false true true is = refl
keep_step true false false true false is = refl
keep_step true false false false true is = refl
keep_step true false false false false is = refl
keep_step false true true true true is = refl
keep_step false true true true false is = refl
keep_step false true true false true is = refl
keep_step false true true false false is = refl
keep_step false true false true true is = refl
keep_step false true false true false is = refl
keep_step false true false false true is = refl
keep_step false true false false false is = refl
keep_step false false true true true is = refl
keep_step false false true true false is = refl
keep_step false false true false true is = refl
keep_step false false true false false is = refl
keep_step false false false true true is = refl
keep_step false false false true false is = refl
keep_step false false false false true is = refl
keep_step false false false false false is = refl

takes_found : (join : Join) (came : List Element) (places : List ℕ) (place : ℕ) (row : List ℕ) (found : Option Element) → some_passes (passes join.pattern) found ≡ true → ((is_living places row && not (has_number row place)) && some_passes (λ e. (passes join.pattern e && same_key join.key (elements_of came row) e) && tests_hold join.tests (elements_of came row) e) found)
    ≡ ((not (has_number row place) && some_passes (agrees join (elements_of came row)) found) && (is_living places row && (row_hash join came row == option_map_or (λ e. hash_of (key_of_element join.key e)) found 0)))
takes_found join came places place row None passed = absurd (let wrong : ⊥ = cc in wrong)
takes_found join came places place row (Some e) passed =
    let es = elements_of came row in
    ap (λ b. (is_living places row && not (has_number row place)) && ((b && same_key join.key es e) && tests_hold join.tests es e)) passed
    ∙ keep_step (is_living places row) (has_number row place) (same_key join.key es e) (tests_hold join.tests es e) (row_hash join came row == hash_of (key_of_element join.key e)) (same_hash join.key es e)

pub found_level : (join : Join) (next : List Join) (came : List Element) (places : List ℕ) (hash : ℕ) (level : LevelRows) → IsFiled (join ∷ next) came places level → map (row_at level.rows) (numbers_of (filter (stays hash (row_lives places level.rows)) level.entries) hash) ≡ filter (λ row. is_living places row && (row_hash join came row == hash)) level.rows
found_level join next came places hash level held =
    ap (map (row_at level.rows)) (cleaned_bucket (row_lives places level.rows) level.entries hash)
    ∙ ap (λ es. map (row_at level.rows) (numbers_of es hash)) held.living
    ∙ found_rows join came places level.rows hash 0 level.rows refl

pub taken_found : (join : Join) (next : List Join) (came : List Element) (places : List ℕ) (place : ℕ) (level : LevelRows) → IsFiled (join ∷ next) came places level → passes_at join came place ≡ true → taken join came place level.rows (reverse (numbers_of (filter (stays (hash_at join came place) (row_lives places level.rows)) level.entries) (hash_at join came place))) ≡ map (with_place place) (joined (only join) came places place level.rows)
taken_found join next came places place level held passed =
    let hash = hash_at join came place in
    let rows = level.rows in
    let lives = row_lives places rows in
    let mid : List ℕ → Bool = λ row. is_living places row && (row_hash join came row == hash) in
    let keep : List ℕ → Bool = λ row. (is_living places row && not (has_number row place)) && extends (only join) came row place in
    let found : map (row_at rows) (numbers_of (filter (stays hash lives) level.entries) hash) ≡ filter mid rows =
    found_level join next came places hash level held in
    ap (map (with_place place))
    (ap (filter (takes join came place)) (map-reverse (row_at rows) (numbers_of (filter (stays hash lives) level.entries) hash))
    ∙ filter-reverse (takes join came place) (map (row_at rows) (numbers_of (filter (stays hash lives) level.entries) hash))
    ∙ ap (λ rs. reverse (filter (takes join came place) rs)) found
    ∙ ap reverse (sym (filter-both (takes join came place) mid keep rows (Each-always (λ row. keep row ≡ (takes join came place row && mid row)) (λ row. takes_found join came places place row (slice_get came place) passed) rows))))

-- the places of a bucket
place_step : (hit : Bool) (place has : ℕ) (rest : List (ℕ × ℕ)) (hash : ℕ) → (has == hash) ≡ hit → numbers_of ((has, place) ∷ rest) hash ≡ cond hit (place ∷ numbers_of rest hash) (numbers_of rest hash)
place_step true place has rest hash is = ap (λ b. map (λ (e : ℕ × ℕ). e.1) (cond b ((has, place) ∷ filter (λ (e : ℕ × ℕ). e.0 == hash) rest) (filter (λ (e : ℕ × ℕ). e.0 == hash) rest))) is
place_step false place has rest hash is = ap (λ b. map (λ (e : ℕ × ℕ). e.1) (cond b ((has, place) ∷ filter (λ (e : ℕ × ℕ). e.0 == hash) rest) (filter (λ (e : ℕ × ℕ). e.0 == hash) rest))) is

found_places : (join : Join) (came : List Element) (hash : ℕ) (places : List ℕ) → numbers_of (map (λ p. (hash_at join came p, p)) places) hash ≡ filter (λ p. hash_at join came p == hash) places
found_places join came hash [] = refl
found_places join came hash (place ∷ places) =
    place_step (hash_at join came place == hash) place (hash_at join came place) (map (λ p. (hash_at join came p, p)) places) hash refl
    ∙ ap (λ ps. cond (hash_at join came place == hash) (place ∷ ps) ps) (found_places join came hash places)

offer_step : (passed same tests hit : Bool) → (same ≡ true → hit ≡ true) → ((passed && same) && tests) ≡ ((same && tests) && (hit && passed))
offer_step true true true true is = refl
offer_step true true true false is = absurd (let wrong : ⊥ = cc (is refl) in wrong)
offer_step true true false true is = refl
offer_step true true false false is = refl
offer_step true false true true is = refl
offer_step true false true false is = refl
offer_step true false false true is = refl
offer_step true false false false is = refl
offer_step false true true true is = refl
offer_step false true true false is = refl
offer_step false true false true is = refl
offer_step false true false false is = refl
offer_step false false true true is = refl
offer_step false false true false is = refl
offer_step false false false true is = refl
offer_step false false false false is = refl

pub turned : (a b : ℕ) → (a == b) ≡ true → (b == a) ≡ true
turned a b same = eq-eqb b a (sym (eqb-true a b same))

pub offered_found : (join : Join) (came : List Element) (row : List ℕ) (found : Option Element) → some_passes (λ e. (passes join.pattern e && same_key join.key (elements_of came row) e) && tests_hold join.tests (elements_of came row) e) found
    ≡ (some_passes (agrees join (elements_of came row)) found && ((option_map_or (λ e. hash_of (key_of_element join.key e)) found 0 == row_hash join came row) && some_passes (passes join.pattern) found))
offered_found join came row None = refl
offered_found join came row (Some e) =
    let es = elements_of came row in
    offer_step (passes join.pattern e) (same_key join.key es e) (tests_hold join.tests es e) (hash_of (key_of_element join.key e) == row_hash join came row) (λ same. turned (row_hash join came row) (hash_of (key_of_element join.key e)) (same_hash join.key es e same))

pub found_store : (join : Join) (came : List Element) (places : List ℕ) (hash : ℕ) (entries : List (ℕ × ℕ)) → IsStore join came places entries → numbers_of (filter (stays hash (has_number places)) entries) hash ≡ filter (λ p. (hash_at join came p == hash) && passes_at join came p) places
found_store join came places hash entries held =
    let hit : ℕ → Bool = λ p. hash_at join came p == hash in
    let mid : ℕ → Bool = λ p. hit p && passes_at join came p in
    cleaned_bucket (has_number places) entries hash ∙ ap (λ es. numbers_of es hash) held.living ∙ found_places join came hash (filter (passes_at join came) places)
    ∙ sym (filter-both hit (passes_at join came) mid places (Each-always (λ p. mid p ≡ (hit p && passes_at join came p)) (λ p. refl) places))

pub extended_found : (join : Join) (came : List Element) (places row : List ℕ) (entries : List (ℕ × ℕ)) → IsStore join came places entries → extended join came row (reverse (numbers_of (filter (stays (row_hash join came row) (has_number places)) entries) (row_hash join came row))) ≡ map (λ p. with_place p row) (offered (only join) came places row)
extended_found join came places row entries held =
    let hash = row_hash join came row in
    let hit : ℕ → Bool = λ p. hash_at join came p == hash in
    let mid : ℕ → Bool = λ p. hit p && passes_at join came p in
    let goes : ℕ → Bool = extends (only join) came row in
    let found : numbers_of (filter (stays hash (has_number places)) entries) hash ≡ filter mid places = found_store join came places hash entries held in
    ap (map (λ p. with_place p row))
    (filter-reverse (agrees_at join came row) (numbers_of (filter (stays hash (has_number places)) entries) hash)
    ∙ ap (λ ps. reverse (filter (agrees_at join came row) ps)) found
    ∙ ap reverse (sym (filter-both (agrees_at join came row) mid goes places (Each-always (λ p. goes p ≡ (agrees_at join came row p && mid p)) (λ p. offered_found join came row (slice_get came p)) places))))

-- what was cleaned still holds all that lives
alive_step : (under alive : Bool) → alive ≡ (alive && (not under || alive))
alive_step true true = refl
alive_step true false = refl
alive_step false true = refl
alive_step false false = refl

pub IsFiled-cleaned : (next : List Join) (came : List Element) (places : List ℕ) (old new : LevelRows) (hash : ℕ) → IsFiled next came places old → new.rows ≡ old.rows → new.entries ≡ filter (stays hash (row_lives places old.rows)) old.entries → IsFiled next came places new
IsFiled-cleaned next came places old new hash held rows is =
    let lives = row_lives places old.rows in
    let alive : ℕ × ℕ → Bool = λ e. lives e.1 in
    let kept : living_entries lives new.entries ≡ living_entries lives (filed next came 0 old.rows) =
    ap (living_entries lives) is
    ∙ sym (filter-both alive (stays hash lives) alive old.entries (Each-always (λ e. alive e ≡ (alive e && stays hash lives e)) (λ e. alive_step (e.0 == hash) (alive e)) old.entries))
    ∙ held.living in
    record {
      living = subst (λ rs. living_entries (row_lives places rs) new.entries ≡ living_entries (row_lives places rs) (filed next came 0 rs)) (sym rows) kept;
      numbered = subst (λ rs. AllByRecursion (λ (e : ℕ × ℕ). e.1 < length rs) new.entries) (sym rows)
          (subst (λ es. AllByRecursion (λ (e : ℕ × ℕ). e.1 < length old.rows) es) (sym is) (Each-filter (λ (e : ℕ × ℕ). e.1 < length old.rows) (stays hash lives) old.entries held.numbered));
    }

pub IsCleaned-stays : (places : List ℕ) (old new : List (ℕ × ℕ)) (hash : ℕ) → new ≡ filter (stays hash (has_number places)) old → IsCleaned places old new
IsCleaned-stays places old new hash is = record {
  keep = stays hash (has_number places);
  is = is;
  living = λ entry alive. ap (λ b. not (entry.0 == hash) || b) alive ∙ or_true (not (entry.0 == hash));
}
  where
    or_true : (b : Bool) → (b || true) ≡ true
    or_true true = refl
    or_true false = refl

pub IsCleaned-none : (places : List ℕ) (entries : List (ℕ × ℕ)) → IsCleaned places entries entries
IsCleaned-none places entries = record {
  keep = λ entry. true;
  is = sym (filter-all (λ entry. true) entries (Each-always (λ e. true ≡ true) (λ e. refl) entries));
  living = λ entry alive. refl;
}

pub IsCleaned-more : (places : List ℕ) (old now new : List (ℕ × ℕ)) → IsCleaned places old now → IsCleaned places now new → IsCleaned places old new
IsCleaned-more places old now new first second = record {
  keep = λ entry. second.keep entry && first.keep entry;
  is = second.is ∙ ap (filter second.keep) first.is ∙ sym (filter-both second.keep first.keep (λ entry. second.keep entry && first.keep entry) old (Each-always (λ e. (second.keep e && first.keep e) ≡ (second.keep e && first.keep e)) (λ e. refl) old));
  living = λ entry alive. and_from (second.keep entry) (first.keep entry) (second.living entry alive) (first.living entry alive);
}

kept_step : (alive keep : Bool) → (alive ≡ true → keep ≡ true) → alive ≡ (alive && keep)
kept_step true keep is = sym (is refl)
kept_step false keep is = refl

pub IsStore-cleaned : (join : Join) (came : List Element) (places : List ℕ) (old new : List (ℕ × ℕ)) → IsCleaned places old new → IsStore join came places old → IsStore join came places new
IsStore-cleaned join came places old new cleaned held =
    let alive : ℕ × ℕ → Bool = λ e. has_number places e.1 in
    record {
      living = ap (living_entries (has_number places)) cleaned.is
          ∙ sym (filter-both alive cleaned.keep alive old (Each-always (λ e. alive e ≡ (alive e && cleaned.keep e)) (λ e. kept_step (alive e) (cleaned.keep e) (cleaned.living e)) old))
          ∙ held.living;
      have_come = subst (λ es. AllByRecursion (λ (e : ℕ × ℕ). e.1 < length came) es) (sym cleaned.is) (Each-filter (λ (e : ℕ × ℕ). e.1 < length came) cleaned.keep old held.have_come);
    }

-- the same of a level and a store that were cleaned
pub taken_in : (join : Join) (next : List Join) (came : List Element) (places : List ℕ) (place hash : ℕ) (level new : LevelRows) → IsFiled (join ∷ next) came places level → passes_at join came place ≡ true → hash ≡ hash_at join came place → new.rows ≡ level.rows → new.entries ≡ filter (stays hash (row_lives places level.rows)) level.entries → taken join came place new.rows (reverse (numbers_of new.entries hash)) ≡ map (with_place place) (joined (only join) came places place level.rows)
taken_in join next came places place hash level new held passed is rows entries =
    ap (λ rs. taken join came place rs (reverse (numbers_of new.entries hash))) rows
    ∙ ap (λ es. taken join came place level.rows (reverse (numbers_of es hash))) entries
    ∙ ap (λ h. taken join came place level.rows (reverse (numbers_of (filter (stays h (row_lives places level.rows)) level.entries) h))) is
    ∙ taken_found join next came places place level held passed

pub extended_in : (join : Join) (came : List Element) (places row : List ℕ) (hash : ℕ) (old new : List (ℕ × ℕ)) → IsStore join came places old → hash ≡ row_hash join came row → new ≡ filter (stays hash (has_number places)) old → extended join came row (reverse (numbers_of new hash)) ≡ map (λ p. with_place p row) (offered (only join) came places row)
extended_in join came places row hash old new held is entries =
    ap (λ es. extended join came row (reverse (numbers_of es hash))) entries
    ∙ ap (λ h. extended join came row (reverse (numbers_of (filter (stays h (has_number places)) old) h))) is
    ∙ extended_found join came places row old held

pub hash_at-is : (join : Join) (came : List Element) (place : ℕ) (e : Element) → slice_get came place ≡ Some e → hash_of (key_of_element join.key e) ≡ hash_at join came place
hash_at-is join came place e at = sym (ap (λ o. option_map_or (λ x. hash_of (key_of_element join.key x)) o 0) at)

-- a place that passes came
passed_step : (join : Join) (came : List Element) (place : ℕ) → passes_at join came place ≡ true → (place < length came) ⊎ (length came ≤ place) → place < length came
passed_step join came place passed (inl lt) = lt
passed_step join came place passed (inr le) = absurd (let gone : some_passes (passes join.pattern) (slice_get came place) ≡ false = ap (some_passes (passes join.pattern)) (slice_get-past came place le) in let wrong : ⊥ = cc in wrong)

pub passed_came : (join : Join) (came : List Element) (place : ℕ) → passes_at join came place ≡ true → place < length came
passed_came join came place passed = passed_step join came place passed (cases_lt place (length came))
