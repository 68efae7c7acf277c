-- One link is unlinked, and what led to it leads past it.
use Rattle.std.proofs.Common.{◌≡◌, inl, inr, ℕ, zero, suc, ◌<◌, List, Bool, true, false, ◌&&◌, ◌==◌, length, refl, ap, subst, sym, ◌∙◌, arith}
use Rattle.std.proofs.lemmas.Bool.{cases_eq, cases_lt, eq-eqb, eqb-true}
use Rattle.std.proofs.lemmas.List.{get_or-set_other, get_or-set_same, length-set}
use Rattle.hash_buckets.specs.Links.{AreLinked, entry_of, first_after, is_linked, is_under, link_at, newest, no_link, with_next, with_next_after}
use Rattle.hash_buckets.specs.declared.links.Link.{Link}
use Rattle.hash_buckets.specs.declared.links.TheConstants.{UNLINKED}
use Rattle.hash_buckets.proofs.BucketLemmas.{both, is_under-within}
use Rattle.hash_buckets.proofs.LinkLemmas.{linked_if_less}
use Rattle.hash_buckets.proofs.PlaceLemmas.{IsWithout, last_place-after, last_place-here, last_place-moves, last_place-passes, last_place-stays, last_place-within}

-- of all links, only the one at a place isn't linked any more
pub record IsCut (p : ℕ) (old new : List Link) : Type 0 where
  pub long : length new ≡ length old
  pub gone : is_linked (link_at new p) ≡ false
  pub others : (i : ℕ) → (i ≡ p → ⊥) → is_linked (link_at new i) ≡ is_linked (link_at old i)
  pub entry : (i : ℕ) → entry_of (link_at new i) ≡ entry_of (link_at old i)

-- another next one
with_next-same : (links : List Link) (p next : ℕ) → p < length links → link_at (with_next links p next) p ≡ record (link_at links p) { next = next }
with_next-same links p next lt = get_or-set_same links p (record (link_at links p) { next = next }) no_link lt

with_next-other : (links : List Link) (p next i : ℕ) → (i ≡ p → ⊥) → link_at (with_next links p next) i ≡ link_at links i
with_next-other links p next i other = get_or-set_other links p i (record (link_at links p) { next = next }) no_link other

entry-with_next : (links : List Link) (p next i : ℕ) → p < length links → entry_of (link_at (with_next links p next) i) ≡ entry_of (link_at links i)
entry-with_next links p next i lt = elim (cases_eq i p) [
  | inl same ↦ subst (λ (q : ℕ). entry_of (link_at (with_next links p next) q) ≡ entry_of (link_at links q)) (sym same) (ap entry_of (with_next-same links p next lt))
  | inr other ↦ ap entry_of (with_next-other links p next i other)
]

linked-with_next : (links : List Link) (p next i : ℕ) → p < length links → next < UNLINKED → is_linked (link_at links p) ≡ true → is_linked (link_at (with_next links p next) i) ≡ is_linked (link_at links i)
linked-with_next links p next i lt less linked = elim (cases_eq i p) [
  | inl same ↦ subst (λ (q : ℕ). is_linked (link_at (with_next links p next) q) ≡ is_linked (link_at links q)) (sym same) (ap is_linked (with_next-same links p next lt) ∙ linked_if_less next less ∙ sym linked)
  | inr other ↦ ap is_linked (with_next-other links p next i other)
]

cut_one : (links : List Link) (p : ℕ) → p < length links → IsCut p links (with_next links p UNLINKED)
cut_one links p lt = record {
  long = length-set links p (record (link_at links p) { next = UNLINKED });
  gone = ap is_linked (with_next-same links p UNLINKED lt);
  others = λ i other. ap is_linked (with_next-other links p UNLINKED i other);
  entry = λ i. entry-with_next links p UNLINKED i lt;
}

cut_after : (links middle : List Link) (p j next : ℕ) → IsCut p links middle → j < length middle → next < UNLINKED → is_linked (link_at middle j) ≡ true → IsCut p links (with_next middle j next)
cut_after links middle p j next cut lt less linked = record {
  long = length-set middle j (record (link_at middle j) { next = next }) ∙ cut.long;
  gone = linked-with_next middle j next p lt less linked ∙ cut.gone;
  others = λ i other. linked-with_next middle j next i lt less linked ∙ cut.others i other;
  entry = λ i. entry-with_next middle j next i lt ∙ cut.entry i;
}

-- the tests of each hash fail there and are as before elsewhere
never : (b : Bool) → (b && false) ≡ false
never true = refl
never false = refl

pub cut_tests : (p : ℕ) (old new : List Link) → IsCut p old new → (hash : ℕ) → IsWithout p (λ (i : ℕ). is_under hash (link_at new i)) (λ (i : ℕ). is_under hash (link_at old i))
cut_tests p old new cut hash = record {
  gone = ap (λ (b : Bool). ((link_at new p).hash == hash) && b) cut.gone ∙ never ((link_at new p).hash == hash);
  others = λ i other.
      ap (λ (e : ℕ × ℕ). (e.0 == hash) && is_linked (link_at new i)) (cut.entry i)
      ∙ ap (λ (b : Bool). ((link_at old i).hash == hash) && b) (cut.others i other);
}

-- how many links lie before the one that a walk kept last, or all where it kept none
abbrev pub end_of : ℕ → List Link → ℕ
end_of zero links = length links
end_of (suc place) links = place

-- where a walk is that keeps some links and unlinks others: the link that it kept last leads to where it is
pub record IsWalking (hash : ℕ) (links : List Link) (first kept at : ℕ) : Type 0 where
  pub linked : AreLinked links
  pub first_is : first ≡ newest hash links (length links)
  pub kept_is : newest hash links kept ≡ kept
  pub at_is : at ≡ newest hash links (end_of kept links)

-- a cut leaves the tests of other hashes, and with them their newest links
other_hash : (p hash other : ℕ) (old new : List Link) → IsCut p old new → is_under hash (link_at old p) ≡ true → (other ≡ hash → ⊥) → (n : ℕ) → newest other new n ≡ newest other old n
other_hash p hash other old new cut under differs n =
    let t : ℕ → Bool = λ (i : ℕ). is_under other (link_at old i) in
    let s : ℕ → Bool = λ (i : ℕ). is_under other (link_at new i) in
    last_place-stays s t p n (cut_tests p old new cut other) (λ is.
    let here = both ((link_at old p).hash == other) (is_linked (link_at old p)) (last_place-passes t n p is) in
    let there = both ((link_at old p).hash == hash) (is_linked (link_at old p)) under in
    differs (sym (eqb-true (link_at old p).hash other here.0) ∙ eqb-true (link_at old p).hash hash there.0))

-- what the links are once the one that the walk is at is cut out
pub record IsCutOut (hash p first kept : ℕ) (old new : List Link) : Type 0 where
  pub cut : IsCut p old new
  pub next : (link_at old p).next ≡ newest hash old p
  pub same : (i : ℕ) → (i ≡ p → ⊥) → (suc i ≡ kept → ⊥) → link_at new i ≡ link_at old i
  pub led : (i : ℕ) → suc i ≡ kept → (link_at new i).next ≡ (link_at old p).next
  pub under : is_under hash (link_at old p) ≡ true
  pub walking : IsWalking hash old first kept (suc p)

-- a link before which the newest is the one that was cut out is the one that was kept
only_kept : (hash p first kept : ℕ) (old new : List Link) → IsCutOut hash p first kept old new → (i : ℕ) → is_under hash (link_at old i) ≡ true → newest hash old i ≡ suc p → suc i ≡ kept
only_kept hash p first zero old new out i under leads =
    let t : ℕ → Bool = λ (n : ℕ). is_under hash (link_at old n) in
    let within = is_under-within hash i old under in
    let after = last_place-after t (length old) i under within in
    let low = last_place-within t i in
    absurd (let wrong : ⊥ = omega (arith, after, out.walking.at_is, low, leads) in wrong)
only_kept hash p first (suc j) old new out i under leads =
    let t : ℕ → Bool = λ (n : ℕ). is_under hash (link_at old n) in
    elim (cases_eq i j) [
      | inl same ↦ ap suc same
      | inr other ↦ elim (cases_lt i j) [
        | inl lt ↦ absurd (let after = last_place-after t j i under lt in let low = last_place-within t i in let wrong : ⊥ = omega (arith, after, out.walking.at_is, low, leads) in wrong)
        | inr le ↦ absurd (let there : t j ≡ true = last_place-passes t (suc j) j out.walking.kept_is in let after = last_place-after t i j there (omega (arith, le, other)) in let low = last_place-within t j in let wrong : ⊥ = omega (arith, after, out.walking.at_is, low, leads) in wrong)
      ]
    ]

-- the links are still right
hash_of : (p : ℕ) (old new : List Link) → IsCut p old new → (i : ℕ) → (link_at new i).hash ≡ (link_at old i).hash
hash_of p old new cut i = ap (λ (e : ℕ × ℕ). e.0) (cut.entry i)

newest_of_kept : (hash p first kept : ℕ) (old new : List Link) → IsCutOut hash p first kept old new → newest hash new (end_of kept new) ≡ newest hash old p
newest_of_kept hash p first zero old new out =
    ap (newest hash new) out.cut.long ∙ last_place-moves (λ (i : ℕ). is_under hash (link_at new i)) (λ (i : ℕ). is_under hash (link_at old i)) p (length old) (cut_tests p old new out.cut hash) (sym out.walking.at_is)
newest_of_kept hash p first (suc j) old new out =
    last_place-moves (λ (i : ℕ). is_under hash (link_at new i)) (λ (i : ℕ). is_under hash (link_at old i)) p j (cut_tests p old new out.cut hash) (sym out.walking.at_is)

cut_older : (hash p first kept : ℕ) (old new : List Link) → IsCutOut hash p first kept old new → (i : ℕ) → is_linked (link_at new i) ≡ true → (link_at new i).next ≡ newest (link_at new i).hash new i
cut_older hash p first kept old new out i linked =
    let not_p : i ≡ p → ⊥ = λ (e : i ≡ p). let gone = ap (λ (q : ℕ). is_linked (link_at new q)) e ∙ out.cut.gone in let wrong : ⊥ = cc in wrong in
    let was : is_linked (link_at old i) ≡ true = sym (out.cut.others i not_p) ∙ linked in
    let hashed : (link_at new i).hash ≡ (link_at old i).hash = hash_of p old new out.cut i in
    let s : ℕ → Bool = λ (n : ℕ). is_under hash (link_at new n) in
    let t : ℕ → Bool = λ (n : ℕ). is_under hash (link_at old n) in
    elim (cases_eq (link_at old i).hash hash) [
      | inl same ↦
          let under : is_under hash (link_at old i) ≡ true = ap (λ (b : Bool). b && is_linked (link_at old i)) (eq-eqb (link_at old i).hash hash same) ∙ was in
          let goal_at : newest (link_at new i).hash new i ≡ newest hash new i = ap (λ (h : ℕ). newest h new i) (hashed ∙ same) in
          elim (cases_eq (suc i) kept) [
            | inl is_kept ↦
                out.led i is_kept ∙ out.next
                ∙ sym (newest_of_kept hash p first kept old new out)
                ∙ ap (newest hash new) (subst (λ (k : ℕ). end_of k new ≡ i) is_kept refl)
                ∙ sym goal_at
            | inr not_kept ↦
                ap (λ (l : Link). l.next) (out.same i not_p not_kept)
                ∙ out.walking.linked.older i was
                ∙ ap (λ (h : ℕ). newest h old i) same
                ∙ sym (last_place-stays s t p i (cut_tests p old new out.cut hash) (λ leads. not_kept (only_kept hash p first kept old new out i under leads)))
                ∙ sym goal_at
          ]
      | inr differs ↦
          let not_kept : suc i ≡ kept → ⊥ = λ (e : suc i ≡ kept). differs (let under = last_place-passes t (suc i) i (subst (λ (k : ℕ). newest hash old k ≡ k) (sym e) out.walking.kept_is) in eqb-true (link_at old i).hash hash (both ((link_at old i).hash == hash) (is_linked (link_at old i)) under).0) in
          ap (λ (l : Link). l.next) (out.same i not_p not_kept)
          ∙ out.walking.linked.older i was
          ∙ sym (other_hash p hash (link_at old i).hash old new out.cut out.under differs i)
          ∙ sym (ap (λ (h : ℕ). newest h new i) hashed)
    ]

cut_first : (hash p first kept : ℕ) (old new : List Link) → IsCutOut hash p first kept old new → first_after kept first (link_at old p).next ≡ newest hash new (length new)
cut_first hash p first zero old new out = out.next ∙ sym (newest_of_kept hash p first zero old new out)
cut_first hash p first (suc j) old new out =
    let s : ℕ → Bool = λ (n : ℕ). is_under hash (link_at new n) in
    let t : ℕ → Bool = λ (n : ℕ). is_under hash (link_at old n) in
    let there : t j ≡ true = last_place-passes t (suc j) j out.walking.kept_is in
    let after = last_place-after t (length old) j there (is_under-within hash j old there) in
    let low = last_place-within t j in
    out.walking.first_is
    ∙ sym (last_place-stays s t p (length old) (cut_tests p old new out.cut hash) (λ is. let wrong : ⊥ = omega (arith, is, after, low, out.walking.at_is) in wrong))
    ∙ ap (newest hash new) (sym out.cut.long)

cut_kept : (hash p first kept : ℕ) (old new : List Link) → IsCutOut hash p first kept old new → newest hash new kept ≡ kept
cut_kept hash p first zero old new out = refl
cut_kept hash p first (suc j) old new out =
    let s : ℕ → Bool = λ (n : ℕ). is_under hash (link_at new n) in
    let t : ℕ → Bool = λ (n : ℕ). is_under hash (link_at old n) in
    let there : t j ≡ true = last_place-passes t (suc j) j out.walking.kept_is in
    let low = last_place-within t j in
    last_place-here s j ((cut_tests p old new out.cut hash).others j (λ e. let wrong : ⊥ = omega (arith, e, low, out.walking.at_is) in wrong) ∙ there)

-- the walk goes on past the link that was cut out
pub cut_walks : (hash p first kept : ℕ) (old new : List Link) → IsCutOut hash p first kept old new → IsWalking hash new (first_after kept first (link_at old p).next) kept (link_at old p).next
cut_walks hash p first kept old new out = record {
  linked = record { few = omega (arith, out.walking.linked.few, out.cut.long); older = cut_older hash p first kept old new out };
  first_is = cut_first hash p first kept old new out;
  kept_is = cut_kept hash p first kept old new out;
  at_is = out.next ∙ sym (newest_of_kept hash p first kept old new out);
}

-- the code cuts it out
next_less : (hash p first kept : ℕ) (old : List Link) → IsWalking hash old first kept (suc p) → is_under hash (link_at old p) ≡ true → ((link_at old p).next ≡ newest hash old p) × ((link_at old p).next < UNLINKED)
next_less hash p first kept old walking under =
    let parts = both ((link_at old p).hash == hash) (is_linked (link_at old p)) under in
    let next : (link_at old p).next ≡ newest hash old p = walking.linked.older p parts.1 ∙ ap (λ (h : ℕ). newest h old p) (eqb-true (link_at old p).hash hash parts.0) in
    (next, omega (arith, next, last_place-within (λ (n : ℕ). is_under hash (link_at old n)) p, is_under-within hash p old under, walking.linked.few))

pub under_walk : (hash p first kept : ℕ) (old : List Link) → IsWalking hash old first kept (suc p) → is_under hash (link_at old p) ≡ true
under_walk hash p first kept old walking = last_place-passes (λ (n : ℕ). is_under hash (link_at old n)) (end_of kept old) p (sym walking.at_is)

pub cut_out : (hash p first kept : ℕ) (old new : List Link) → IsWalking hash old first kept (suc p) → new ≡ with_next_after (with_next old p UNLINKED) kept (link_at old p).next → IsCutOut hash p first kept old new
cut_out hash p first zero old new walking is =
    let under = under_walk hash p first zero old walking in
    let within = is_under-within hash p old under in
    subst (IsCutOut hash p first zero old) (sym is) (record {
      cut = cut_one old p within;
      next = (next_less hash p first zero old walking under).0;
      same = λ i other _. with_next-other old p UNLINKED i other;
      led = λ i e. absurd (let wrong : ⊥ = omega (arith, e) in wrong);
      under = under;
      walking = walking;
    })
cut_out hash p first (suc j) old new walking is =
    let t : ℕ → Bool = λ (n : ℕ). is_under hash (link_at old n) in
    let under = under_walk hash p first (suc j) old walking in
    let within = is_under-within hash p old under in
    let middle : List Link = with_next old p UNLINKED in
    let next : ℕ = (link_at old p).next in
    let one = cut_one old p within in
    let there : t j ≡ true = last_place-passes t (suc j) j walking.kept_is in
    let low = last_place-within t j in
    let apart : j ≡ p → ⊥ = λ (e : j ≡ p). let wrong : ⊥ = omega (arith, e, low, walking.at_is) in wrong in
    let less = next_less hash p first (suc j) old walking under in
    let linked : is_linked (link_at middle j) ≡ true = one.others j apart ∙ (both ((link_at old j).hash == hash) (is_linked (link_at old j)) there).1 in
    let inside : j < length middle = omega (arith, one.long, is_under-within hash j old there) in
    subst (IsCutOut hash p first (suc j) old) (sym is) (record {
      cut = cut_after old middle p j next one inside less.1 linked;
      next = less.0;
      same = λ i other not_kept. with_next-other middle j next i (λ e. not_kept (ap suc e)) ∙ with_next-other old p UNLINKED i other;
      led = λ i e. ap (λ (q : ℕ). (link_at (with_next middle j next) q).next) (let same : i ≡ j = omega (arith, e) in same) ∙ ap (λ (l : Link). l.next) (with_next-same middle j next inside);
      under = under;
      walking = walking;
    })
