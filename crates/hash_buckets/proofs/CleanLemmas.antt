-- A bucket is cleaned, link by link.
use Rattle.std.proofs.Common.{◌≡◌, inl, inr, ℕ, zero, suc, ◌-◌, ◌<◌, ◌≤◌, List, [], ◌∷◌, Bool, true, false, ◌&&◌, ◌||◌, ◌==◌, cond, get_or, length, map, not, refl, ap, subst, sym, ◌∙◌, arith}
use Rattle.std.specs.List.{filter}
use Rattle.std.proofs.lemmas.Bool.{cases_eq, cases_lt, eqb-true}
use Rattle.std.proofs.lemmas.List.{get_or_default}
use Rattle.hash_buckets.specs.Buckets.{stays}
use Rattle.hash_buckets.specs.Links.{AreLinked, entries_of, entry_of, first_after, is_linked, is_under, link_at, newest, no_link, with_next, with_next_after}
use Rattle.hash_buckets.specs.declared.links.Link.{Link}
use Rattle.hash_buckets.specs.declared.links.TheConstants.{UNLINKED}
use Rattle.hash_buckets.proofs.BucketLemmas.{both, is_under-within, past_under}
use Rattle.hash_buckets.proofs.CutLemmas.{IsWalking, cut_out, cut_walks, under_walk}
use Rattle.hash_buckets.proofs.PlaceLemmas.{last_place-here, last_place-passes, last_place-same, last_place-skips, last_place-within}

-- from a place on, the links that don't stay aren't linked any more, and all others are as before
pub record AreCleaned (hash : ℕ) (lives : ℕ → Bool) (from : ℕ) (old new : List Link) : Type 0 where
  pub long : length new ≡ length old
  pub entry : (i : ℕ) → entry_of (link_at new i) ≡ entry_of (link_at old i)
  pub below : (i : ℕ) → i < from → is_linked (link_at new i) ≡ is_linked (link_at old i)
  pub above : (i : ℕ) → from ≤ i → is_linked (link_at new i) ≡ (is_linked (link_at old i) && stays hash lives (entry_of (link_at old i)))

-- a link of another hash stays
other_step : (same linked lives : Bool) → (same && linked) ≡ false → linked ≡ (linked && (not same || lives))
other_step true true lives is = absurd (let wrong : ⊥ = cc in wrong)
other_step true false lives is = refl
other_step false true lives is = refl
other_step false false lives is = refl

other_stays : (hash : ℕ) (lives : ℕ → Bool) (link : Link) → is_under hash link ≡ false → is_linked link ≡ (is_linked link && stays hash lives (entry_of link))
other_stays hash lives link is = other_step (link.hash == hash) (is_linked link) (lives link.number) is

-- where the walk skips links
skipped : (hash : ℕ) (lives : ℕ → Bool) (from p i : ℕ) (old links : List Link) → AreCleaned hash lives from old links → p ≤ from → newest hash links p ≤ i → i < p → is_linked (link_at links i) ≡ (is_linked (link_at old i) && stays hash lives (entry_of (link_at old i)))
skipped hash lives from p i old links cleaned le lower lt =
    let none : is_under hash (link_at links i) ≡ false = last_place-skips (λ (n : ℕ). is_under hash (link_at links n)) p i lower lt in
    other_stays hash lives (link_at links i) none
    ∙ ap (λ (b : Bool). b && stays hash lives (entry_of (link_at links i))) (cleaned.below i (omega (arith, lt, le)))
    ∙ ap (λ (e : ℕ × ℕ). is_linked (link_at old i) && stays hash lives e) (cleaned.entry i)

-- the links of a walk that cleans
pub record IsCleaning (hash : ℕ) (lives : ℕ → Bool) (old links : List Link) (first kept at : ℕ) : Type 0 where
  pub walking : IsWalking hash links first kept at
  pub cleaned : AreCleaned hash lives at old links

-- it begins
pub cleaning_begins : (hash : ℕ) (lives : ℕ → Bool) (links : List Link) (head : ℕ) → AreLinked links → head ≡ newest hash links (length links) → IsCleaning hash lives links links head 0 head
cleaning_begins hash lives links head linked is = record {
  walking = record { linked = linked; first_is = is; kept_is = refl; at_is = is };
  cleaned = record {
    long = refl;
    entry = λ i. refl;
    below = λ i lt. refl;
    above = λ i le. elim (cases_lt i (length links)) [
      | inl lt ↦ other_stays hash lives (link_at links i) (last_place-skips (λ (n : ℕ). is_under hash (link_at links n)) (length links) i (omega (arith, le, is)) lt)
      | inr past ↦ other_stays hash lives (link_at links i) (past_under hash i links past)
    ];
  };
}

-- what a link names as the next one
next_of : (hash : ℕ) (links : List Link) (p : ℕ) → AreLinked links → is_under hash (link_at links p) ≡ true → (link_at links p).next ≡ newest hash links p
next_of hash links p linked under =
    let parts = both ((link_at links p).hash == hash) (is_linked (link_at links p)) under in
    linked.older p parts.1 ∙ ap (λ (h : ℕ). newest h links p) (eqb-true (link_at links p).hash hash parts.0)

-- a number that lives stays
stays_step : (same linked lives : Bool) → lives ≡ true → linked ≡ (linked && (not same || lives))
stays_step true true lives is = sym is
stays_step true false lives is = refl
stays_step false true lives is = refl
stays_step false false lives is = refl

pub cleaning_keeps : (hash : ℕ) (lives : ℕ → Bool) (old links : List Link) (first kept p : ℕ) → IsCleaning hash lives old links first kept (suc p) → lives (link_at links p).number ≡ true → IsCleaning hash lives old links first (suc p) (link_at links p).next
cleaning_keeps hash lives old links first kept p cleaning living =
    let t : ℕ → Bool = λ (n : ℕ). is_under hash (link_at links n) in
    let under = under_walk hash p first kept links cleaning.walking in
    let next = next_of hash links p cleaning.walking.linked under in
    let low = last_place-within t p in
    record {
      walking = record { linked = cleaning.walking.linked; first_is = cleaning.walking.first_is; kept_is = last_place-here t p under; at_is = next };
      cleaned = record {
        long = cleaning.cleaned.long;
        entry = cleaning.cleaned.entry;
        below = λ i lt. cleaning.cleaned.below i (omega (arith, lt, next, low));
        above = λ i le. elim (cases_lt i p) [
          | inl lt ↦ skipped hash lives (suc p) p i old links cleaning.cleaned (omega arith) (omega (arith, le, next)) lt
          | inr past ↦ elim (cases_eq i p) [
            | inl same ↦ subst (λ (q : ℕ). is_linked (link_at links q) ≡ (is_linked (link_at old q) && stays hash lives (entry_of (link_at old q)))) (sym same)
                (cleaning.cleaned.below p (omega arith) ∙ stays_step ((link_at old p).hash == hash) (is_linked (link_at old p)) (lives (link_at old p).number) (ap (λ (e : ℕ × ℕ). lives e.1) (sym (cleaning.cleaned.entry p)) ∙ living))
            | inr other ↦ cleaning.cleaned.above i (omega (arith, past, other))
          ]
        ];
      };
    }

-- one that doesn't live goes
goes_step : (linked same lives : Bool) → same ≡ true → lives ≡ false → false ≡ (linked && (not same || lives))
goes_step true same lives is dead = ap (λ (b : Bool). b || false) (sym (ap not is)) ∙ ap (λ (b : Bool). not same || b) (sym dead)
goes_step false same lives is dead = refl

pub cleaning_cuts : (hash : ℕ) (lives : ℕ → Bool) (old links after : List Link) (first kept p : ℕ) → IsCleaning hash lives old links first kept (suc p) → lives (link_at links p).number ≡ false → after ≡ with_next_after (with_next links p UNLINKED) kept (link_at links p).next → IsCleaning hash lives old after (first_after kept first (link_at links p).next) kept (link_at links p).next
cleaning_cuts hash lives old links after first kept p cleaning dead is =
    let t : ℕ → Bool = λ (n : ℕ). is_under hash (link_at links n) in
    let out = cut_out hash p first kept links after cleaning.walking is in
    let parts = both ((link_at links p).hash == hash) (is_linked (link_at links p)) out.under in
    let low = last_place-within t p in
    record {
      walking = cut_walks hash p first kept links after out;
      cleaned = record {
        long = out.cut.long ∙ cleaning.cleaned.long;
        entry = λ i. out.cut.entry i ∙ cleaning.cleaned.entry i;
        below = λ i lt. out.cut.others i (λ e. let wrong : ⊥ = omega (arith, e, lt, out.next, low) in wrong) ∙ cleaning.cleaned.below i (omega (arith, lt, out.next, low));
        above = λ i le. elim (cases_lt i p) [
          | inl lt ↦ out.cut.others i (λ e. let wrong : ⊥ = omega (arith, e, lt) in wrong) ∙ skipped hash lives (suc p) p i old links cleaning.cleaned (omega arith) (omega (arith, le, out.next)) lt
          | inr past ↦ elim (cases_eq i p) [
            | inl same ↦ subst (λ (q : ℕ). is_linked (link_at after q) ≡ (is_linked (link_at old q) && stays hash lives (entry_of (link_at old q)))) (sym same)
                (out.cut.gone ∙ goes_step (is_linked (link_at old p)) ((link_at old p).hash == hash) (lives (link_at old p).number)
                (ap (λ (e : ℕ × ℕ). e.0 == hash) (sym (cleaning.cleaned.entry p)) ∙ parts.0)
                (ap (λ (e : ℕ × ℕ). lives e.1) (sym (cleaning.cleaned.entry p)) ∙ dead))
            | inr other ↦ out.cut.others i other ∙ cleaning.cleaned.above i (omega (arith, past, other))
          ]
        ];
      };
    }

-- once it is at the end, what is filed is what stays
entry_step : (keep : ℕ × ℕ → Bool) (a b c : Bool) (n o : Link) (ns os : List Link) → entry_of n ≡ entry_of o → keep (entry_of o) ≡ c → a ≡ (b && c) → map entry_of ns ≡ filter keep (map entry_of os) → map entry_of (cond a (n ∷ ns) ns) ≡ filter keep (map entry_of (cond b (o ∷ os) os))
entry_step keep a true true n o ns os same keeps is rest =
    ap (λ (x : Bool). map entry_of (cond x (n ∷ ns) ns)) is
    ∙ ap (λ (e : ℕ × ℕ). e ∷ map entry_of ns) same
    ∙ ap (λ (es : List (ℕ × ℕ)). entry_of o ∷ es) rest
    ∙ sym (ap (λ (x : Bool). cond x (entry_of o ∷ filter keep (map entry_of os)) (filter keep (map entry_of os))) keeps)
entry_step keep a true false n o ns os same keeps is rest =
    ap (λ (x : Bool). map entry_of (cond x (n ∷ ns) ns)) is
    ∙ rest
    ∙ sym (ap (λ (x : Bool). cond x (entry_of o ∷ filter keep (map entry_of os)) (filter keep (map entry_of os))) keeps)
entry_step keep a false c n o ns os same keeps is rest = ap (λ (x : Bool). map entry_of (cond x (n ∷ ns) ns)) is ∙ rest

entries_step : (keep : ℕ × ℕ → Bool) (new old : List Link) → length new ≡ length old → ((i : ℕ) → entry_of (link_at new i) ≡ entry_of (link_at old i)) → ((i : ℕ) → is_linked (link_at new i) ≡ (is_linked (link_at old i) && keep (entry_of (link_at old i)))) → entries_of new ≡ filter keep (entries_of old)
entries_step keep [] [] long same is = refl
entries_step keep [] (o ∷ old) long same is = absurd (let wrong : ⊥ = omega (arith, long) in wrong)
entries_step keep (n ∷ new) [] long same is = absurd (let wrong : ⊥ = omega (arith, long) in wrong)
entries_step keep (n ∷ new) (o ∷ old) long same is =
    entry_step keep (is_linked n) (is_linked o) (keep (entry_of o)) n o (filter is_linked new) (filter is_linked old) (same 0) refl (is 0)
    (entries_step keep new old (omega (arith, long)) (λ i. same (suc i)) (λ i. is (suc i)))

pub cleaned_entries : (hash : ℕ) (lives : ℕ → Bool) (old new : List Link) → AreCleaned hash lives 0 old new → entries_of new ≡ filter (stays hash lives) (entries_of old)
cleaned_entries hash lives old new cleaned = entries_step (stays hash lives) new old cleaned.long cleaned.entry (λ i. cleaned.above i (omega arith))

-- and the newest links of other hashes are as before
apart_step : (same here linked lives : Bool) → (same ≡ true → here ≡ false) → (same && (linked && (not here || lives))) ≡ (same && linked)
apart_step true true linked lives apart = absurd (let is = apart refl in let wrong : ⊥ = cc in wrong)
apart_step true false true lives apart = refl
apart_step true false false lives apart = refl
apart_step false here linked lives apart = refl

pub cleaned_others : (hash : ℕ) (lives : ℕ → Bool) (old new : List Link) → AreCleaned hash lives 0 old new → (h : ℕ) → (h == hash) ≡ false → newest h new (length new) ≡ newest h old (length old)
cleaned_others hash lives old new cleaned h differs =
    last_place-same (λ (n : ℕ). is_under h (link_at new n)) (λ (n : ℕ). is_under h (link_at old n)) (length new) (λ i lt.
    ap (λ (b : Bool). ((link_at new i).hash == h) && b) (cleaned.above i (omega arith))
    ∙ ap (λ (e : ℕ × ℕ). (e.0 == h) && (is_linked (link_at old i) && stays hash lives (entry_of (link_at old i)))) (cleaned.entry i)
    ∙ apart_step ((link_at old i).hash == h) ((link_at old i).hash == hash) (is_linked (link_at old i)) (lives (link_at old i).number) (λ same. ap (λ (x : ℕ). x == hash) (eqb-true (link_at old i).hash h same) ∙ differs))
    ∙ ap (newest h old) cleaned.long

-- the same at an `at` that isn't 0, and a link that was read before it
read_at : (links : List Link) (p : ℕ) (past : Link) → p < length links → get_or links (suc p - 1) past ≡ link_at links p
read_at links p past lt = ap (λ (q : ℕ). get_or links q past) (let e : suc p - 1 ≡ p = omega arith in e) ∙ get_or_default links p past no_link lt

pub record IsWithin (links : List Link) (kept at : ℕ) (link : Link) : Type 0 where
  pub at_fits : at ≤ length links
  pub kept_fits : kept ≤ length links
  pub lower : link.next < at

kept_within : (hash : ℕ) (links : List Link) (kept : ℕ) → newest hash links kept ≡ kept → kept ≤ length links
kept_within hash links zero is = omega arith
kept_within hash links (suc j) is = omega (arith, is_under-within hash j links (last_place-passes (λ (n : ℕ). is_under hash (link_at links n)) (suc j) j is))

pub cleaning_within : (hash : ℕ) (lives : ℕ → Bool) (old links : List Link) (first kept at : ℕ) (past : Link) → IsCleaning hash lives old links first kept at → (at ≡ 0 → ⊥) → IsWithin links kept at (get_or links (at - 1) past)
cleaning_within hash lives old links first kept zero past cleaning some = absurd (some refl)
cleaning_within hash lives old links first kept (suc p) past cleaning some =
    let under = under_walk hash p first kept links cleaning.walking in
    let within = is_under-within hash p links under in
    let next = next_of hash links p cleaning.walking.linked under in
    subst (IsWithin links kept (suc p)) (sym (read_at links p past within)) (record {
      at_fits = omega (arith, within);
      kept_fits = kept_within hash links kept cleaning.walking.kept_is;
      lower = omega (arith, next, last_place-within (λ (n : ℕ). is_under hash (link_at links n)) p);
    })

pub cleaning_keeps_at : (hash : ℕ) (lives : ℕ → Bool) (old links : List Link) (first kept at : ℕ) (past : Link) → IsCleaning hash lives old links first kept at → (at ≡ 0 → ⊥) → lives (get_or links (at - 1) past).number ≡ true → IsCleaning hash lives old links first at (get_or links (at - 1) past).next
cleaning_keeps_at hash lives old links first kept zero past cleaning some = absurd (some refl)
cleaning_keeps_at hash lives old links first kept (suc p) past cleaning some =
    let within = is_under-within hash p links (under_walk hash p first kept links cleaning.walking) in
    subst (λ (l : Link). lives l.number ≡ true → IsCleaning hash lives old links first (suc p) l.next) (sym (read_at links p past within)) (cleaning_keeps hash lives old links first kept p cleaning)

pub cleaning_cuts_at : (hash : ℕ) (lives : ℕ → Bool) (old links after : List Link) (first kept at : ℕ) (past : Link) → IsCleaning hash lives old links first kept at → (at ≡ 0 → ⊥) → lives (get_or links (at - 1) past).number ≡ false → after ≡ with_next_after (with_next links (at - 1) UNLINKED) kept (get_or links (at - 1) past).next → IsCleaning hash lives old after (first_after kept first (get_or links (at - 1) past).next) kept (get_or links (at - 1) past).next
cleaning_cuts_at hash lives old links after first kept zero past cleaning some = absurd (some refl)
cleaning_cuts_at hash lives old links after first kept (suc p) past cleaning some =
    let within = is_under-within hash p links (under_walk hash p first kept links cleaning.walking) in
    let here : suc p - 1 ≡ p = omega arith in
    subst (λ (q : ℕ). lives (get_or links (suc p - 1) past).number ≡ false → after ≡ with_next_after (with_next links q UNLINKED) kept (get_or links (suc p - 1) past).next → IsCleaning hash lives old after (first_after kept first (get_or links (suc p - 1) past).next) kept (get_or links (suc p - 1) past).next) (sym here)
    (subst (λ (l : Link). lives l.number ≡ false → after ≡ with_next_after (with_next links p UNLINKED) kept l.next → IsCleaning hash lives old after (first_after kept first l.next) kept l.next) (sym (read_at links p past within)) (cleaning_cuts hash lives old links after first kept p cleaning))

-- it is at the end
pub cleaning_done : (hash : ℕ) (lives : ℕ → Bool) (old links : List Link) (first kept at : ℕ) → IsCleaning hash lives old links first kept at → at ≡ 0 → AreCleaned hash lives 0 old links
cleaning_done hash lives old links first kept at cleaning done = subst (λ (n : ℕ). AreCleaned hash lives n old links) done cleaning.cleaned

-- where nothing is under a hash, all stays
pub none_to_clean : (hash : ℕ) (lives : ℕ → Bool) (links : List Link) → AreLinked links → newest hash links (length links) ≡ 0 → entries_of links ≡ filter (stays hash lives) (entries_of links)
none_to_clean hash lives links linked none = cleaned_entries hash lives links links (cleaning_begins hash lives links 0 linked (sym none)).cleaned
