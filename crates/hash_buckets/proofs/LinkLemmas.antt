-- What a new link changes.
use Rattle.std.proofs.Common.{◌≡◌, inl, inr, ℕ, suc, ◌+◌, ◌<◌, ◌≤◌, ◌^◌, List, [], ◌∷◌, ◌++◌, Bool, true, false, ◌&&◌, ◌==◌, cond, length, map, nat_eq, not, Option, Some, refl, reverse, ap, subst, sym, ◌∙◌, arith}
use Rattle.std.specs.List.{filter}
use Rattle.std.specs.Map.{lookup}
use Rattle.std.specs.Option.{unwrap_or}
use Rattle.std.proofs.lemmas.Bool.{cases_eq, cases_lt, ne_eqb}
use Rattle.std.proofs.lemmas.List.{get_or_append_left, get_or_past, get_or_push, length-map, length_push, length-reverse}
use Rattle.hash_buckets.specs.Buckets.{numbers_of}
use Rattle.hash_buckets.specs.Links.{AreKnown, AreLinked, entries_of, entry_of, is_linked, is_under, last_place, link_at, newest, no_link}
use Rattle.hash_buckets.specs.declared.links.Link.{Link}
use Rattle.hash_buckets.specs.declared.links.TheConstants.{UNLINKED}
use Rattle.hash_buckets.proofs.BucketLemmas.{entries_of-append}
use Rattle.hash_buckets.proofs.PlaceLemmas.{last_place-same, last_place-within}

-- no more is filed than there are links, and no more is under a hash than is filed
fewer_step : {X : Type 0} (b : Bool) (x : X) (xs : List X) (n : ℕ) → length xs ≤ n → length (cond b (x ∷ xs) xs) ≤ suc n
fewer_step true x xs n le = omega (arith, le)
fewer_step false x xs n le = omega (arith, le)

length-filter-le : {X : Type 0} (test : X → Bool) (xs : List X) → length (filter test xs) ≤ length xs
length-filter-le test [] = omega arith
length-filter-le test (x ∷ xs) = fewer_step (test x) x (filter test xs) (length xs) (length-filter-le test xs)

pub length-entries_of : (links : List Link) → length (entries_of links) ≤ length links
length-entries_of links = omega (arith, length-map (filter is_linked links) entry_of, length-filter-le is_linked links)

pub length-numbers_of : (entries : List (ℕ × ℕ)) (hash : ℕ) → length (reverse (numbers_of entries hash)) ≤ length entries
length-numbers_of entries hash =
    omega (arith, length-reverse (numbers_of entries hash), length-map (filter (λ (e : ℕ × ℕ). e.0 == hash) entries) (λ (e : ℕ × ℕ). e.1), length-filter-le (λ (e : ℕ × ℕ). e.0 == hash) entries)

-- a place that fits 32 bits isn't the mark of what is unlinked
pub linked_if_less : (next : ℕ) → next < UNLINKED → not (next == UNLINKED) ≡ true
linked_if_less next less = ap not (ne_eqb next UNLINKED (λ e. let wrong : ⊥ = omega (arith, e, less) in wrong))

-- a new link
newest-push : (hash n : ℕ) (links : List Link) (link : Link) → n ≤ length links → newest hash (links ++ link ∷ []) n ≡ newest hash links n
newest-push hash n links link le = last_place-same (λ (i : ℕ). is_under hash (link_at (links ++ link ∷ []) i)) (λ (i : ℕ). is_under hash (link_at links i)) n (λ i lt. ap (is_under hash) (get_or_append_left links (link ∷ []) no_link i (omega (arith, lt, le))))

past_linked : (links : List Link) (place : ℕ) → length links ≤ place → is_linked (link_at links place) ≡ true → ⊥
past_linked links place le is = let past = ap is_linked (get_or_past links place no_link le) in let wrong : ⊥ = cc in wrong

older_pushed : (links : List Link) (link : Link) (next : ℕ) → AreLinked links → link.next ≡ newest link.hash links (length links) → (place : ℕ) → is_linked (link_at (links ++ link ∷ []) place) ≡ true → (link_at (links ++ link ∷ []) place).next ≡ newest (link_at (links ++ link ∷ []) place).hash (links ++ link ∷ []) place
older_pushed links link next linked is place here = elim (cases_lt place (length links)) [
  | inl lt ↦
      let same : link_at (links ++ link ∷ []) place ≡ link_at links place = get_or_append_left links (link ∷ []) no_link place lt in
      subst (λ (l : Link). l.next ≡ newest l.hash (links ++ link ∷ []) place) (sym same)
      (linked.older place (sym (ap is_linked same) ∙ here) ∙ sym (newest-push (link_at links place).hash place links link (omega (arith, lt))))
  | inr le ↦ elim (cases_eq (length links) place) [
    | inl e ↦
        let same : link_at (links ++ link ∷ []) place ≡ link = get_or_push links link no_link place e in
        subst (λ (l : Link). l.next ≡ newest l.hash (links ++ link ∷ []) place) (sym same)
        (is ∙ ap (newest link.hash links) e ∙ sym (newest-push link.hash place links link (omega (arith, e))))
    | inr other ↦ absurd (past_linked (links ++ link ∷ []) place (omega (arith, length_push links link, le, other)) here)
  ]
]

pub linked-push : (links : List Link) (link : Link) → AreLinked links → length links + 1 < 2 ^ 32 → link.next ≡ newest link.hash links (length links) → AreLinked (links ++ link ∷ [])
linked-push links link linked few is = record { few = omega (arith, length_push links link, few); older = older_pushed links link link.next linked is }

known_step : (b : Bool) (found : Option ℕ) (n older : ℕ) → unwrap_or found 0 ≡ older → unwrap_or (cond b (Some (n + 1)) found) 0 ≡ cond (b && true) (suc n) older
known_step true found n older is = omega arith
known_step false found n older is = is

pub known-push : (known more : List (ℕ × ℕ)) (links : List Link) (link : Link) → AreKnown known links → is_linked link ≡ true → ((q : ℕ) → lookup (nat_eq q) more ≡ cond (nat_eq link.hash q) (Some (length links + 1)) (lookup (nat_eq q) known)) → AreKnown more (links ++ link ∷ [])
known-push known more links link knows is updates = λ (q : ℕ).
    let test : ℕ → Bool = λ (i : ℕ). is_under q (link_at (links ++ link ∷ []) i) in
    let long : length (links ++ link ∷ []) ≡ suc (length links) = omega (arith, length_push links link) in
    ap (λ (found : Option ℕ). unwrap_or found 0) (updates q)
    ∙ known_step (nat_eq link.hash q) (lookup (nat_eq q) known) (length links) (newest q links (length links)) (knows q)
    ∙ sym (ap (last_place test) long
    ∙ ap (λ (l : Link). cond (is_under q l) (suc (length links)) (newest q (links ++ link ∷ []) (length links))) (get_or_push links link no_link (length links) refl)
    ∙ ap (λ (b : Bool). cond ((link.hash == q) && b) (suc (length links)) (newest q (links ++ link ∷ []) (length links))) is
    ∙ ap (cond ((link.hash == q) && true) (suc (length links))) (newest-push q (length links) links link (omega arith)))

entry_step : (link : Link) (b : Bool) → b ≡ true → map entry_of (cond b (link ∷ []) []) ≡ entry_of link ∷ []
entry_step link b is = ap (λ (b : Bool). map entry_of (cond b (link ∷ []) [])) is

-- all that a new link changes
pub record IsPushed (more : List (ℕ × ℕ)) (links after : List Link) (entry : ℕ × ℕ) : Type 0 where
  pub linked : AreLinked after
  pub knows : AreKnown more after
  pub entries : entries_of after ≡ entries_of links ++ entry ∷ []
  pub long : length after ≡ length links + 1

pushed_link : (known more : List (ℕ × ℕ)) (links : List Link) (hash number next : ℕ) → AreLinked links → AreKnown known links → length links < UNLINKED → next ≡ newest hash links (length links) → ((q : ℕ) → lookup (nat_eq q) more ≡ cond (nat_eq hash q) (Some (length links + 1)) (lookup (nat_eq q) known)) → IsPushed more links (links ++ record { hash = hash; number = number; next = next } ∷ []) (hash, number)
pushed_link known more links hash number next linked knows few older updates =
    let link : Link = record { hash = hash; number = number; next = next } in
    let within = last_place-within (λ (i : ℕ). is_under hash (link_at links i)) (length links) in
    let is : is_linked link ≡ true = linked_if_less next (omega (arith, older, within, few)) in
    record {
      linked = linked-push links link linked (omega (arith, few)) older;
      knows = known-push known more links link knows is updates;
      entries = entries_of-append links (link ∷ []) ∙ ap (λ (es : List (ℕ × ℕ)). entries_of links ++ es) (entry_step link (is_linked link) is);
      long = length_push links link;
    }

-- the same by what the calls say
pub pushed : (known more : List (ℕ × ℕ)) (links reserved after : List Link) (hash number next place : ℕ) (older : Option ℕ) → AreLinked links × AreKnown known links → place ≡ length links → place < UNLINKED → reserved ≡ links → older ≡ lookup (nat_eq hash) known → ((q : ℕ) → lookup (nat_eq q) more ≡ cond (nat_eq hash q) (Some (place + 1)) (lookup (nat_eq q) known)) → next ≡ unwrap_or older 0 → after ≡ reserved ++ record { hash = hash; number = number; next = next } ∷ [] → IsPushed more links after (hash, number)
pushed known more links reserved after hash number next place older holds len few kept found updates next_is after_is =
    let link : Link = record { hash = hash; number = number; next = next } in
    subst (λ (ls : List Link). IsPushed more links ls (hash, number)) (sym (after_is ∙ ap (λ (ls : List Link). ls ++ link ∷ []) kept))
    (pushed_link known more links hash number next holds.0 holds.1 (omega (arith, len, few))
    (next_is ∙ ap (λ (o : Option ℕ). unwrap_or o 0) found ∙ holds.1 hash)
    (λ (q : ℕ). updates q ∙ ap (λ (n : ℕ). cond (nat_eq hash q) (Some (n + 1)) (lookup (nat_eq q) known)) len))
