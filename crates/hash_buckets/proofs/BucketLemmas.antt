-- The numbers of one hash, newest first, and the walk along them.
use Rattle.std.proofs.Common.{◌≡◌, inl, inr, ℕ, zero, suc, ◌-◌, ◌<◌, ◌≤◌, List, [], ◌∷◌, ◌++◌, Bool, true, false, ◌&&◌, ◌==◌, cond, get_or, length, map, Option, refl, reverse, ap, subst, sym, take, ◌∙◌, arith}
use Rattle.std.specs.List.{filter}
use Rattle.std.specs.Option.{unwrap_or}
use Rattle.std.proofs.Math.Seq.{take-suc}
use Rattle.std.proofs.lemmas.Bool.{cases_lt, eqb-true}
use Rattle.std.proofs.lemmas.List.{append-nil, get_or_default, get_or_past, map-append, reverse-append, take_all}
use Rattle.std.proofs.lemmas.List.Elements.{filter-append}
use Rattle.hash_buckets.specs.Buckets.{numbers_of}
use Rattle.hash_buckets.specs.Links.{AreLinked, bucket, entries_of, entry_of, is_linked, is_under, link_at, newest, no_link}
use Rattle.hash_buckets.specs.declared.links.Link.{Link}
use Rattle.hash_buckets.proofs.PlaceLemmas.{last_place-again, last_place-passes, last_place-within}

-- what is filed by links and one more
pub entries_of-append : (xs ys : List Link) → entries_of (xs ++ ys) ≡ entries_of xs ++ entries_of ys
entries_of-append xs ys = ap (map entry_of) (filter-append is_linked xs ys) ∙ map-append entry_of (filter is_linked xs) (filter is_linked ys)

numbers_of-append : (es fs : List (ℕ × ℕ)) (hash : ℕ) → numbers_of (es ++ fs) hash ≡ numbers_of es hash ++ numbers_of fs hash
numbers_of-append es fs hash = ap (map (λ (e : ℕ × ℕ). e.1)) (filter-append (λ (e : ℕ × ℕ). e.0 == hash) es fs) ∙ map-append (λ (e : ℕ × ℕ). e.1) (filter (λ e. e.0 == hash) es) (filter (λ e. e.0 == hash) fs)

-- the numbers of one link
one_number : (hash : ℕ) (link : Link) (same linked : Bool) → map (λ (e : ℕ × ℕ). e.1) (cond linked (cond same (entry_of link ∷ []) []) []) ≡ cond (same && linked) (link.number ∷ []) []
one_number hash link true true = refl
one_number hash link true false = refl
one_number hash link false true = refl
one_number hash link false false = refl

one_linked : (hash : ℕ) (link : Link) (linked : Bool) → numbers_of (map entry_of (cond linked (link ∷ []) [])) hash ≡ map (λ (e : ℕ × ℕ). e.1) (cond linked (cond (link.hash == hash) (entry_of link ∷ []) []) [])
one_linked hash link true = refl
one_linked hash link false = refl

numbers_of-one : (hash : ℕ) (link : Link) → numbers_of (entries_of (link ∷ [])) hash ≡ cond (is_under hash link) (link.number ∷ []) []
numbers_of-one hash link = one_linked hash link (is_linked link) ∙ one_number hash link (link.hash == hash) (is_linked link)

-- one more link under the hash comes first
push_step : (b : Bool) (number : ℕ) (numbers : List ℕ) → reverse (numbers ++ cond b (number ∷ []) []) ≡ cond b (number ∷ reverse numbers) (reverse numbers)
push_step true number numbers = reverse-append numbers (number ∷ [])
push_step false number numbers = ap reverse (append-nil numbers)

numbers-push : (hash : ℕ) (links : List Link) (link : Link) → reverse (numbers_of (entries_of (links ++ link ∷ [])) hash) ≡ cond (is_under hash link) (link.number ∷ reverse (numbers_of (entries_of links) hash)) (reverse (numbers_of (entries_of links) hash))
numbers-push hash links link =
    ap reverse (ap (λ (es : List (ℕ × ℕ)). numbers_of es hash) (entries_of-append links (link ∷ []))
    ∙ numbers_of-append (entries_of links) (entries_of (link ∷ [])) hash
    ∙ ap (λ (ns : List ℕ). numbers_of (entries_of links) hash ++ ns) (numbers_of-one hash link))
    ∙ push_step (is_under hash link) link.number (numbers_of (entries_of links) hash)

pub past_under : (hash n : ℕ) (links : List Link) → length links ≤ n → is_under hash (link_at links n) ≡ false
past_under hash n links le = ap (is_under hash) (get_or_past links n no_link le) ∙ (elim (0 == hash) as (λ b. (b && false) ≡ false) [ true ↦ refl | false ↦ refl ])

bucket-suc : (hash n : ℕ) (links : List Link) → bucket hash links (suc n) ≡ cond (is_under hash (link_at links n)) ((link_at links n).number ∷ bucket hash links n) (bucket hash links n)
bucket-suc hash n links = elim (cases_lt n (length links)) [
  | inl lt ↦ ap (λ (ls : List Link). reverse (numbers_of (entries_of ls) hash)) (take-suc links n no_link lt) ∙ numbers-push hash (take n links) (link_at links n)
  | inr le ↦
      ap (λ (ls : List Link). reverse (numbers_of (entries_of ls) hash)) (take_all (suc n) links (omega (arith, le)) ∙ sym (take_all n links le))
      ∙ sym (ap (λ (b : Bool). cond b ((link_at links n).number ∷ bucket hash links n) (bucket hash links n)) (past_under hash n links le))
]

-- the newest link is where the bucket begins
newest_step : (hash n : ℕ) (links : List Link) (b : Bool) → is_under hash (link_at links n) ≡ b → bucket hash links n ≡ bucket hash links (newest hash links n) → cond b ((link_at links n).number ∷ bucket hash links n) (bucket hash links n) ≡ bucket hash links (cond b (suc n) (newest hash links n))
newest_step hash n links true here before = sym (bucket-suc hash n links ∙ ap (λ (b : Bool). cond b ((link_at links n).number ∷ bucket hash links n) (bucket hash links n)) here)
newest_step hash n links false here before = before

pub bucket-newest : (hash n : ℕ) (links : List Link) → bucket hash links n ≡ bucket hash links (newest hash links n)
bucket-newest hash zero links = refl
bucket-newest hash (suc n) links = bucket-suc hash n links ∙ newest_step hash n links (is_under hash (link_at links n)) refl (bucket-newest hash n links)

pub both : (a b : Bool) → (a && b) ≡ true → (a ≡ true) × (b ≡ true)
both true true is = (refl, refl)
both true false is = absurd (let wrong : ⊥ = cc in wrong)
both false b is = absurd (let wrong : ⊥ = cc in wrong)

-- a link that is under a hash is no further than the links
pub is_under-within : (hash place : ℕ) (links : List Link) → is_under hash (link_at links place) ≡ true → place < length links
is_under-within hash place links under = elim (cases_lt place (length links)) [ inl lt ↦ lt | inr le ↦ absurd (let past = past_under hash place links le in let wrong : ⊥ = cc in wrong) ]

-- a walk under a hash is at a link, which is the newest of those up to it: that comes next, and then the older ones
pub record IsStep (hash : ℕ) (links : List Link) (at : ℕ) (link : Link) : Type 0 where
  pub number : bucket hash links at ≡ link.number ∷ bucket hash links link.next
  pub goes_on : newest hash links link.next ≡ link.next
  pub lower : link.next < at
  pub within : at ≤ length links

pub step_from_under : (hash : ℕ) (links : List Link) (place : ℕ) → AreLinked links → is_under hash (link_at links place) ≡ true → IsStep hash links (suc place) (link_at links place)
step_from_under hash links place linked under =
    let parts = both ((link_at links place).hash == hash) (is_linked (link_at links place)) under in
    let same : (link_at links place).hash ≡ hash = eqb-true (link_at links place).hash hash parts.0 in
    let next : (link_at links place).next ≡ newest hash links place = linked.older place parts.1 ∙ ap (λ (h : ℕ). newest h links place) same in
    let test : ℕ → Bool = λ (p : ℕ). is_under hash (link_at links p) in
    record {
      number =
          bucket-suc hash place links
          ∙ ap (λ (b : Bool). cond b ((link_at links place).number ∷ bucket hash links place) (bucket hash links place)) under
          ∙ ap (λ (ns : List ℕ). (link_at links place).number ∷ ns) (bucket-newest hash place links ∙ ap (bucket hash links) (sym next));
      goes_on = ap (newest hash links) next ∙ last_place-again test place ∙ sym next;
      lower = omega (arith, next, last_place-within test place);
      within = omega (arith, is_under-within hash place links under);
    }

-- the same at an `at` that isn't 0, and a link that was read before it
pub step_at : (hash at : ℕ) (links : List Link) (past : Link) → AreLinked links → newest hash links at ≡ at → (at ≡ 0 → ⊥) → IsStep hash links at (get_or links (at - 1) past)
step_at hash zero links past linked is some = absurd (some refl)
step_at hash (suc place) links past linked is some =
    let under = last_place-passes (λ (p : ℕ). is_under hash (link_at links p)) (suc place) place is in
    let here : get_or links (suc place - 1) past ≡ link_at links place = ap (λ (p : ℕ). get_or links p past) (let e : suc place - 1 ≡ place = omega arith in e) ∙ get_or_default links place past no_link (is_under-within hash place links under) in
    subst (IsStep hash links (suc place)) (sym here) (step_from_under hash links place linked under)

-- a walk that begins at the newest link tells the whole bucket
pub record IsBegun (hash head : ℕ) (links slice : List Link) : Type 0 where
  pub linked : AreLinked slice
  pub at : newest hash slice head ≡ head
  pub whole : bucket hash slice head ≡ reverse (numbers_of (entries_of links) hash)

pub begun : (hash head : ℕ) (links slice : List Link) (found : Option ℕ) → AreLinked links → slice ≡ links → unwrap_or found 0 ≡ newest hash links (length links) → head ≡ unwrap_or found 0 → IsBegun hash head links slice
begun hash head links slice found linked same knows head_is =
    let is : head ≡ newest hash links (length links) = head_is ∙ knows in
    subst (IsBegun hash head links) (sym same) (record {
      linked = linked;
      at = ap (newest hash links) is ∙ last_place-again (λ (p : ℕ). is_under hash (link_at links p)) (length links) ∙ sym is;
      whole =
          ap (bucket hash links) is
          ∙ sym (bucket-newest hash (length links) links)
          ∙ ap (λ (ls : List Link). reverse (numbers_of (entries_of ls) hash)) (take_all (length links) links (omega arith));
    })
