-- What is filed, as elements come and go.
use Rattle.std.proofs.Common.{◌≡◌, ℕ, ◌+◌, ◌<◌, ◌==◌, List, [], ◌∷◌, ◌++◌, Bool, true, false, cond, ◌&&◌, ◌||◌, drop, get_or, length, map, zero, suc, refl, ap, subst, sym, ◌∙◌, arith, length-append, slice_get}
use Rattle.std.specs.List.{AllByRecursion, filter}
use Rattle.std.specs.Option.{option_map_or}
use Rattle.std.proofs.lemmas.Bool.{eq-eqb, ne_eqb}
use Rattle.std.proofs.lemmas.List.{map-append}
use Rattle.std.proofs.lemmas.List.Elements.{filter-append}
use Rattle.rule_base.specs.declared.element.Element.{Element}
use Rattle.rule_base.specs.Numbers.{has_number}
use Rattle.rule_base.proofs.EachLemmas.{Each-always, Each-append, Each-filter, Each-weaker}
use Rattle.working_memory.proofs.PlaceLemmas.{filter-agree, filter-both, has_number-filter}
use Rattle.join_tests.specs.declared.joins.Join.{Join}
use Rattle.join_tests.specs.Hashing.{hash_of}
use Rattle.join_tests.specs.Joining.{key_of_element, key_of_row, passes}
use Rattle.match_network.specs.Conditions.{IsLevelOf, level_at}
use Rattle.match_network.specs.Filed.{IsFiled, LevelRows, filed, filed_rows, hash_at, living_entries, packed, passes_at, row_at, row_hash, row_lives, store_entries}
use Rattle.match_network.specs.FilingLaws.{LevelsMayBePacked, StoresMayBePacked, LevelsMeetArrivals, LevelsMeetRemovals, StoresMeetArrivals, StoresMeetRemovals}
use Rattle.match_network.specs.Levels.{HaveCome}
use Rattle.match_network.specs.Row.{is_living, some_passes}
use Rattle.match_network.proofs.ComeLemmas.{HaveCome-more, elements_of-come, slice_get-more}
use Rattle.match_network.proofs.GivenLemmas.{AreFiled-set, IsFiled-more, filed-numbered}
use Rattle.match_network.proofs.FiledLemmas.{IsStore-cleaned}
use Rattle.match_network.proofs.LevelLemmas.{lives_in_more}
use Rattle.match_network.proofs.RowLemmas.{has_number-push}

-- an item of a list has the property that all have
Each-get_or : {X : Type 0} (P : X → Type 0) (xs : List X) (i : ℕ) (d : X) → AllByRecursion P xs → i < length xs → P (get_or xs i d)
Each-get_or P [] i d each lt = absurd (omega (arith, lt))
Each-get_or P (x ∷ xs) zero d each lt = each.0
Each-get_or P (x ∷ xs) (suc i) d each lt = Each-get_or P xs i d each.1 (omega (arith, lt))

-- a row that came lives as before where another place comes
or_none : (a b : Bool) → b ≡ false → (a || b) ≡ a
or_none true b is = refl
or_none false b is = is

has_before : (places : List ℕ) (place number : ℕ) → number < place → has_number (places ++ place ∷ []) number ≡ has_number places number
has_before places place number lt = has_number-push places place number ∙ or_none (has_number places number) (place == number) (ne_eqb place number (λ same. omega (arith, same, lt)))

lives_before : (came : List Element) (places row : List ℕ) → HaveCome came row → is_living (places ++ length came ∷ []) row ≡ is_living places row
lives_before came places [] come = refl
lives_before came places (place ∷ row) come =
    ap (λ b. b && is_living (places ++ length came ∷ []) row) (has_before places (length came) place come.0)
    ∙ ap (λ b. has_number places place && b) (lives_before came places row come.1)

filed_rows-come : (join : Join) (came : List Element) (e : Element) (number : ℕ) (rows : List (List ℕ)) → AllByRecursion (HaveCome came) rows → filed_rows join (came ++ e ∷ []) number rows ≡ filed_rows join came number rows
filed_rows-come join came e number [] come = refl
filed_rows-come join came e number (row ∷ rows) come =
    ap (λ es. (hash_of (key_of_row join.key es), number) ∷ filed_rows join (came ++ e ∷ []) (number + 1) rows) (elements_of-come came e row come.0)
    ∙ ap (λ entries. (row_hash join came row, number) ∷ entries) (filed_rows-come join came e (number + 1) rows come.1)

filed-come : (next : List Join) (came : List Element) (e : Element) (number : ℕ) (rows : List (List ℕ)) → AllByRecursion (HaveCome came) rows → filed next (came ++ e ∷ []) number rows ≡ filed next came number rows
filed-come [] came e number rows come = refl
filed-come (join ∷ rest) came e number rows come = filed_rows-come join came e number rows come

rows_live : (came : List Element) (places : List ℕ) (rows : List (List ℕ)) (entries : List (ℕ × ℕ)) → AllByRecursion (HaveCome came) rows → AllByRecursion (λ (e : ℕ × ℕ). e.1 < length rows) entries → living_entries (row_lives (places ++ length came ∷ []) rows) entries ≡ living_entries (row_lives places rows) entries
rows_live came places rows entries come numbered =
    filter-agree (λ (e : ℕ × ℕ). row_lives (places ++ length came ∷ []) rows e.1) (λ (e : ℕ × ℕ). row_lives places rows e.1) entries
    (Each-weaker (λ (e : ℕ × ℕ). e.1 < length rows) (λ (e : ℕ × ℕ). row_lives (places ++ length came ∷ []) rows e.1 ≡ row_lives places rows e.1)
    (λ e lt. lives_before came places (row_at rows e.1) (Each-get_or (HaveCome came) rows e.1 [] come lt)) entries numbered)

IsFiled-come : (next : List Join) (came : List Element) (places : List ℕ) (e : Element) (level : LevelRows) → AllByRecursion (HaveCome came) level.rows → IsFiled next came places level → IsFiled next (came ++ e ∷ []) (places ++ length came ∷ []) level
IsFiled-come next came places e level come held = record {
  living = rows_live came places level.rows level.entries come held.numbered ∙ held.living
      ∙ sym (rows_live came places level.rows (filed next came 0 level.rows) come (filed-numbered next came 0 level.rows (length level.rows) (omega arith)))
      ∙ ap (living_entries (row_lives (places ++ length came ∷ []) level.rows)) (sym (filed-come next came e 0 level.rows come));
  numbered = held.numbered;
}

pub levels_meet_arrivals : LevelsMeetArrivals
levels_meet_arrivals all came places e levels below held = record {
  count = held.count;
  each = λ number lt.
      let old = held.each number lt in
      record {
        width = old.width;
        widths = old.widths;
        have_come = Each-weaker (HaveCome came) (HaveCome (came ++ e ∷ [])) (λ row come. HaveCome-more came e row come) (level_at levels number).rows old.have_come;
        filed = IsFiled-come (drop (number + 1) all) came places e (level_at levels number) old.have_come old.filed;
      };
}

-- what lives of less lived
fewer_step : (now before : Bool) → (now ≡ true → before ≡ true) → now ≡ (now && before)
fewer_step true before is = sym (is refl)
fewer_step false before is = refl

rows_fewer : (places : List ℕ) (keep : ℕ → Bool) (rows : List (List ℕ)) (entries : List (ℕ × ℕ)) → living_entries (row_lives (filter keep places) rows) entries ≡ living_entries (row_lives (filter keep places) rows) (living_entries (row_lives places rows) entries)
rows_fewer places keep rows entries =
    let now : ℕ × ℕ → Bool = λ e. row_lives (filter keep places) rows e.1 in
    let before : ℕ × ℕ → Bool = λ e. row_lives places rows e.1 in
    filter-both now before now entries (Each-always (λ e. now e ≡ (now e && before e)) (λ e. fewer_step (now e) (before e) (lives_in_more keep places (row_at rows e.1))) entries)

pub levels_meet_removals : LevelsMeetRemovals
levels_meet_removals all came places keep levels held = record {
  count = held.count;
  each = λ number lt.
      let old = held.each number lt in
      let level = level_at levels number in
      record {
        width = old.width;
        widths = old.widths;
        have_come = old.have_come;
        filed = record {
          living = rows_fewer places keep level.rows level.entries
              ∙ ap (living_entries (row_lives (filter keep places) level.rows)) old.filed.living
              ∙ sym (rows_fewer places keep level.rows (filed (drop (number + 1) all) came 0 level.rows));
          numbered = old.filed.numbered;
        };
      };
}

-- stores
store_step : (join : Join) (came : List Element) (e : Element) (place : ℕ) (places : List ℕ) (b : Bool) → slice_get (came ++ e ∷ []) place ≡ slice_get came place → store_entries join (came ++ e ∷ []) places ≡ store_entries join came places → map {B = ℕ × ℕ} (λ p. (hash_at join (came ++ e ∷ []) p, p)) (cond b (place ∷ filter (passes_at join (came ++ e ∷ [])) places) (filter (passes_at join (came ++ e ∷ [])) places)) ≡ map {B = ℕ × ℕ} (λ p. (hash_at join came p, p)) (cond b (place ∷ filter (passes_at join came) places) (filter (passes_at join came) places))
store_step join came e place places true same rest =
    ap (λ o. (option_map_or (λ x. hash_of (key_of_element join.key x)) o 0, place) ∷ store_entries join (came ++ e ∷ []) places) same ∙ ap (λ es. (hash_at join came place, place) ∷ es) rest
store_step join came e place places false same rest = rest

pub store-come : (join : Join) (came : List Element) (e : Element) (places : List ℕ) → AllByRecursion (λ p. p < length came) places → store_entries join (came ++ e ∷ []) places ≡ store_entries join came places
store-come join came e [] below = refl
store-come join came e (place ∷ places) below =
    let same = slice_get-more came place (e ∷ []) below.0 in
    ap (λ o. map (λ p. (hash_at join (came ++ e ∷ []) p, p)) (cond (some_passes (passes join.pattern) o) (place ∷ filter (passes_at join (came ++ e ∷ [])) places) (filter (passes_at join (came ++ e ∷ [])) places))) same
    ∙ store_step join came e place places (passes_at join came place) same (store-come join came e places below.1)

store-append : (join : Join) (came : List Element) (xs ys : List ℕ) → store_entries join came (xs ++ ys) ≡ store_entries join came xs ++ store_entries join came ys
store-append join came xs ys =
    ap (map (λ p. (hash_at join came p, p))) (filter-append (passes_at join came) xs ys) ∙ map-append (λ p. (hash_at join came p, p)) (filter (passes_at join came) xs) (filter (passes_at join came) ys)

or_last : (a : Bool) → (a || true) ≡ true
or_last true = refl
or_last false = refl

last_lives : (join : Join) (came : List Element) (places : List ℕ) (place : ℕ) → living_entries (has_number (places ++ place ∷ [])) (store_entries join came (place ∷ [])) ≡ store_entries join came (place ∷ [])
last_lives join came places place = step (passes_at join came place)
  where
    here : has_number (places ++ place ∷ []) place ≡ true
    here = has_number-push places place place ∙ ap (λ b. has_number places place || b) (eq-eqb place place refl) ∙ or_last (has_number places place)

    step : (b : Bool) → living_entries (has_number (places ++ place ∷ [])) (map (λ p. (hash_at join came p, p)) (cond b (place ∷ []) [])) ≡ map (λ p. (hash_at join came p, p)) (cond b (place ∷ []) [])
    step true = ap (λ t. cond t ((hash_at join came place, place) ∷ []) []) here
    step false = refl

last_come : (join : Join) (came : List Element) (place : ℕ) → place < length came → AllByRecursion (λ (e : ℕ × ℕ). e.1 < length came) (store_entries join came (place ∷ []))
last_come join came place lt = step (passes_at join came place)
  where
    step : (b : Bool) → AllByRecursion (λ (e : ℕ × ℕ). e.1 < length came) (map (λ p. (hash_at join came p, p)) (cond b (place ∷ []) []))
    step true = (lt, tt)
    step false = tt

pub stores_meet_arrivals : StoresMeetArrivals
stores_meet_arrivals join came places e entries new below is held =
    let last = store_entries join (came ++ e ∷ []) (length came ∷ []) in
    let has : ℕ × ℕ → Bool = λ x. has_number (places ++ length came ∷ []) x.1 in
    let old : filter has entries ≡ store_entries join (came ++ e ∷ []) places =
    filter-agree has (λ (x : ℕ × ℕ). has_number places x.1) entries
    (Each-weaker (λ (x : ℕ × ℕ). x.1 < length came) (λ (x : ℕ × ℕ). has x ≡ has_number places x.1) (λ x lt. has_before places (length came) x.1 lt) entries held.have_come)
    ∙ held.living ∙ sym (store-come join came e places below) in
    record {
      living = ap (filter has) is ∙ filter-append has entries last ∙ ap (λ es. es ++ filter has last) old
          ∙ ap (λ es. store_entries join (came ++ e ∷ []) places ++ es) (last_lives join (came ++ e ∷ []) places (length came))
          ∙ sym (store-append join (came ++ e ∷ []) places (length came ∷ []));
      have_come = subst (λ es. AllByRecursion (λ (x : ℕ × ℕ). x.1 < length (came ++ e ∷ [])) es) (sym is)
          (Each-append (λ (x : ℕ × ℕ). x.1 < length (came ++ e ∷ [])) entries last
          (Each-weaker (λ (x : ℕ × ℕ). x.1 < length came) (λ (x : ℕ × ℕ). x.1 < length (came ++ e ∷ [])) (λ x lt. omega (arith, lt, length-append came (e ∷ []))) entries held.have_come)
          (last_come join (came ++ e ∷ []) (length came) (omega (arith, length-append came (e ∷ [])))));
    }

-- the places that are left pass as before
members : (places : List ℕ) → AllByRecursion (λ p. has_number places p ≡ true) places
members [] = tt
members (place ∷ places) = (
  ap (λ b. b || has_number places place) (eq-eqb place place refl),
  Each-weaker (λ p. has_number places p ≡ true) (λ p. ((place == p) || has_number places p) ≡ true) (λ p has. ap (λ b. (place == p) || b) has ∙ or_last (place == p)) places (members places),
)

map_step : (f : ℕ → ℕ × ℕ) (b : Bool) (x : ℕ) (ys : List (ℕ × ℕ)) (xs : List ℕ) → ys ≡ map f xs → cond b (f x ∷ ys) ys ≡ map f (cond b (x ∷ xs) xs)
map_step f true x ys xs is = ap (λ zs. f x ∷ zs) is
map_step f false x ys xs is = is

filter-map : (f : ℕ → ℕ × ℕ) (test : ℕ × ℕ → Bool) (xs : List ℕ) → filter test (map f xs) ≡ map f (filter (λ x. test (f x)) xs)
filter-map f test [] = refl
filter-map f test (x ∷ xs) = map_step f (test (f x)) x (filter test (map f xs)) (filter (λ y. test (f y)) xs) (filter-map f test xs)

swap_step : (a b : Bool) → (a && b) ≡ (b && a)
swap_step true true = refl
swap_step true false = refl
swap_step false true = refl
swap_step false false = refl

and_true : (a : Bool) → (a && true) ≡ a
and_true true = refl
and_true false = refl

pub stores_meet_removals : StoresMeetRemovals
stores_meet_removals join came places keep entries held =
    let now : ℕ × ℕ → Bool = λ e. has_number (filter keep places) e.1 in
    let before : ℕ × ℕ → Bool = λ e. has_number places e.1 in
    let goes = passes_at join came in
    let has : ℕ → Bool = has_number (filter keep places) in
    let both : ℕ → Bool = λ p. has p && goes p in
    let kept : filter has (filter goes places) ≡ filter goes (filter keep places) =
    sym (filter-both has goes both places (Each-always (λ p. both p ≡ (has p && goes p)) (λ p. refl) places))
    ∙ filter-both goes keep both places
    (Each-weaker (λ p. has_number places p ≡ true) (λ p. both p ≡ (goes p && keep p))
    (λ p member. ap (λ b. b && goes p) (has_number-filter keep places p ∙ ap (λ b. keep p && b) member ∙ and_true (keep p)) ∙ swap_step (keep p) (goes p)) places (members places)) in
    record {
      living = filter-both now before now entries
          (Each-always (λ e. now e ≡ (now e && before e)) (λ e. fewer_step (now e) (before e) (λ is. second (keep e.1) (before e) (sym (has_number-filter keep places e.1) ∙ is))) entries)
          ∙ ap (filter now) held.living
          ∙ filter-map (λ p. (hash_at join came p, p)) now (filter goes places)
          ∙ ap (map (λ p. (hash_at join came p, p))) kept;
      have_come = held.have_come;
    }
  where
    second : (a b : Bool) → (a && b) ≡ true → b ≡ true
    second true b is = is
    second false b is = absurd (let wrong : ⊥ = cc in wrong)

-- packing
nothing_filed : (next : List Join) (came : List Element) → filed next came 0 [] ≡ []
nothing_filed [] came = refl
nothing_filed (join ∷ rest) came = refl

pub levels_may_be_packed : LevelsMayBePacked
levels_may_be_packed all came places levels number lt held =
    let level = level_at levels number in
    let old = held.each number lt in
    let next = drop (number + 1) all in
    let rows = filter (is_living places) level.rows in
    let empty : LevelRows = record { width = level.width; rows = []; entries = [] } in
    let none : IsFiled next came places empty = record { living = sym (ap (living_entries (row_lives places [])) (nothing_filed next came)); numbered = tt } in
    let is : IsLevelOf all came places number (packed next came places level) = record {
      width = old.width;
      widths = Each-filter (λ row. length row ≡ number + 1) (is_living places) level.rows old.widths;
      have_come = Each-filter (HaveCome came) (is_living places) level.rows old.have_come;
      filed = IsFiled-more next came places empty rows none;
    } in
    AreFiled-set all came places levels number (packed next came places level) held lt is

pub stores_may_be_packed : StoresMayBePacked
stores_may_be_packed join came places entries held =
    IsStore-cleaned join came places entries (living_entries (has_number places) entries)
    (record { keep = λ entry. has_number places entry.1; is = refl; living = λ entry alive. alive }) held
