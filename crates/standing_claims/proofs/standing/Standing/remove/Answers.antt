-- The claim at the place of the number goes, with its footprint and its amounts.
use Rattle.std.proofs.Common.{◌≡◌, ◌+◌, ◌<◌, ◌∙◌, List, false, not, true, ◌==◌, ap, arith, drop, get_or, is_some, length, subst, sym, ℕ}
use Rattle.std.specs.List.{AllByRecursion, remove}
use Rattle.std.proofs.lemmas.List.Sums.{prefix_len-le-length}
use Rattle.rule_base.specs.declared.lock.Mode.{Mode}
use Rattle.standing_claims.specs.declared.held.Held.{Held}
use Rattle.standing_claims.specs.Amounts.{amounts}
use Rattle.standing_claims.specs.Held.{claims_in, footprints_in, standing_with}
use Rattle.standing_claims.specs.Standing.{IsKept, Standing, claim_numbered, claims_without, footprints_without}
use Rattle.standing_claims.proofs.StandingLemmas.{IsKept-remove, claims-same, claims-without, footprint_enough, footprint_taken, footprints-same, footprints-without, locks_laid, numbered_past, numbered_within, place_in, place_within, refilled, words_there}
use Rattle.standing_claims.proofs.standing.Standing.remove.Goals as goal

pub returns-then-place-len-clause-found : goal.returns-then-place-len-clause-found
returns-then-place-len-clause-found c =
    let inside = c.self.inside in
    let held = inside.claims.items in
    let number = c.args.number in
    let place : c.place_of-place.result ≡ place_in held number = c.place_of-place.ensures ∙ ap (λ (hs : List Held). place_in hs number) c.as_slice.ensures.value in
    let past : place_in held number ≡ length held = omega (arith, place, c.if-place-len.true, c.len.ensures, inside.claims.ok.0) in
    subst (λ (s : Standing). false ≡ is_some (claim_numbered s.claims number)) c.self.view_is (sym (ap is_some (numbered_past held number past)))

pub returns-then-place-len-clause-claims : goal.returns-then-place-len-clause-claims
returns-then-place-len-clause-claims c =
    let inside = c.self.inside in
    let held = inside.claims.items in
    let number = c.args.number in
    let place : c.place_of-place.result ≡ place_in held number = c.place_of-place.ensures ∙ ap (λ (hs : List Held). place_in hs number) c.as_slice.ensures.value in
    let past : place_in held number ≡ length held = omega (arith, place, c.if-place-len.true, c.len.ensures, inside.claims.ok.0) in
    subst (λ (s : Standing). s.claims ≡ claims_without s number) c.self.view_is (claims-same held number inside.given inside.spare c.self.invariant.0.rising past)

pub returns-then-place-len-clause-footprints : goal.returns-then-place-len-clause-footprints
returns-then-place-len-clause-footprints c =
    let inside = c.self.inside in
    let held = inside.claims.items in
    let number = c.args.number in
    let place : c.place_of-place.result ≡ place_in held number = c.place_of-place.ensures ∙ ap (λ (hs : List Held). place_in hs number) c.as_slice.ensures.value in
    let past : place_in held number ≡ length held = omega (arith, place, c.if-place-len.true, c.len.ensures, inside.claims.ok.0) in
    subst (λ (s : Standing). s.footprints ≡ footprints_without s number) c.self.view_is (footprints-same held number inside.given inside.spare c.self.invariant.0.rising past)

pub remove-held-requires : goal.remove-held-requires
remove-held-requires c =
    let inside = c.self.inside in
    let held = inside.claims.items in
    let number = c.args.number in
    let place : c.place_of-place.result ≡ place_in held number = c.place_of-place.ensures ∙ ap (λ (hs : List Held). place_in hs number) c.as_slice.ensures.value in
    let within = prefix_len-le-length (λ (h : Held). not (h.claim.number == number)) held in
    let other = c.if-place-len.false in
    let count = c.len.ensures in
    let same = inside.claims.ok.0 in
    grind (arith)

pub subtract_amounts-requires-clause-within : goal.subtract_amounts-requires-clause-within
subtract_amounts-requires-clause-within c =
    let inside = c.self.inside in
    let held = inside.claims.items in
    let number = c.args.number in
    let found = c.place_of-place.result in
    let place : found ≡ place_in held number = c.place_of-place.ensures ∙ ap (λ (hs : List Held). place_in hs number) c.as_slice.ensures.value in
    let lt : found < length held = place_within held number found inside.claims.len c.len.result place inside.claims.ok.0 c.len.ensures c.if-place-len.false in
    let h = c.remove-held.result in
    let standing = standing_with held inside.given inside.spare in
    let some : 0 < length inside.words.items = words_there held inside.given inside.spare inside.words.items found c.self.invariant.0 lt in
    let taken = footprint_taken held inside.given inside.spare inside.words.items found h c.self.invariant.0 lt c.remove-held.ensures.value in
    subst (λ (f : List (ℕ × Mode)). AllByRecursion (λ (d : ℕ × Mode). d.0 < length c.as_mut_slice.result.now) f) (sym c.as_slice-2.ensures)
    (subst (λ (ws : List ℕ). AllByRecursion (λ (d : ℕ × Mode). d.0 < length ws) h.footprint) (sym c.as_mut_slice.ensures.value) (locks_laid standing inside.words.items h.footprint c.self.invariant.0 some taken.in_range))

pub subtract_amounts-requires-clause-taken : goal.subtract_amounts-requires-clause-taken
subtract_amounts-requires-clause-taken c = λ (lock : ℕ).
    let inside = c.self.inside in
    let held = inside.claims.items in
    let number = c.args.number in
    let found = c.place_of-place.result in
    let place : found ≡ place_in held number = c.place_of-place.ensures ∙ ap (λ (hs : List Held). place_in hs number) c.as_slice.ensures.value in
    let lt : found < length held = place_within held number found inside.claims.len c.len.result place inside.claims.ok.0 c.len.ensures c.if-place-len.false in
    let h = c.remove-held.result in
    let words : get_or c.as_mut_slice.result.now lock 0 ≡ get_or inside.words.items lock 0 = ap (λ (ws : List ℕ). get_or ws lock 0) c.as_mut_slice.ensures.value in
    let less : amounts c.as_slice-2.result.now lock ≡ amounts h.footprint lock = ap (λ (f : List (ℕ × Mode)). amounts f lock) c.as_slice-2.ensures in
    omega (arith, words, less, footprint_enough held inside.given inside.spare inside.words.items found h c.self.invariant.0 lt c.remove-held.ensures.value lock)

pub invariant_of-self : goal.invariant_of-self
invariant_of-self c =
    let inside = c.self.inside in
    let held = inside.claims.items in
    let number = c.args.number in
    let found = c.place_of-place.result in
    let place : found ≡ place_in held number = c.place_of-place.ensures ∙ ap (λ (hs : List Held). place_in hs number) c.as_slice.ensures.value in
    let lt : found < length held = place_within held number found inside.claims.len c.len.result place inside.claims.ok.0 c.len.ensures c.if-place-len.false in
    let h = c.remove-held.result in
    let left = c.remove-held in
    let words = c.subtract_amounts.new.words in
    let less : (lock : ℕ) → get_or words lock 0 + amounts h.footprint lock ≡ get_or inside.words.items lock 0 =
    λ lock. ap (λ (f : List (ℕ × Mode)). get_or words lock 0 + amounts f lock) (sym c.as_slice-2.ensures)
    ∙ c.subtract_amounts.ensures.words lock
    ∙ ap (λ (ws : List ℕ). get_or ws lock 0) c.as_mut_slice.ensures.value in
    let same : length words ≡ length inside.words.items = c.subtract_amounts.ensures.count ∙ ap (λ (ws : List ℕ). length ws) c.as_mut_slice.ensures.value in
    let back = refilled inside.words.len words (drop (length words) inside.words.items) (omega (arith, same, inside.words.ok.0)) in (
      subst (IsKept (standing_with left.new.self.items inside.given (inside.spare + 1))) (sym back)
          (IsKept-remove held left.new.self.items inside.given inside.spare inside.words.items words found h c.self.invariant.0 lt left.ensures.value left.ensures.items less same),
      omega (arith, c.self.invariant.1, left.ensures.len, left.ensures.capacity),
    )

pub returns-clause-found : goal.returns-clause-found
returns-clause-found c =
    let inside = c.self.inside in
    let held = inside.claims.items in
    let number = c.args.number in
    let found = c.place_of-place.result in
    let place : found ≡ place_in held number = c.place_of-place.ensures ∙ ap (λ (hs : List Held). place_in hs number) c.as_slice.ensures.value in
    let lt : found < length held = place_within held number found inside.claims.len c.len.result place inside.claims.ok.0 c.len.ensures c.if-place-len.false in
    subst (λ (s : Standing). true ≡ is_some (claim_numbered s.claims number)) c.self.view_is (sym (numbered_within held number c.remove-held.result (omega (arith, lt, place))))

pub returns-clause-claims : goal.returns-clause-claims
returns-clause-claims c =
    let inside = c.self.inside in
    let held = inside.claims.items in
    let number = c.args.number in
    let found = c.place_of-place.result in
    let place : found ≡ place_in held number = c.place_of-place.ensures ∙ ap (λ (hs : List Held). place_in hs number) c.as_slice.ensures.value in
    let left = c.remove-held.ensures.items ∙ ap (remove held) place in
    subst (λ (s : Standing). claims_in c.remove-held.new.self.items ≡ claims_without s number) c.self.view_is
    (ap claims_in left ∙ claims-without held number inside.given inside.spare c.self.invariant.0.rising)

pub returns-clause-footprints : goal.returns-clause-footprints
returns-clause-footprints c =
    let inside = c.self.inside in
    let held = inside.claims.items in
    let number = c.args.number in
    let found = c.place_of-place.result in
    let place : found ≡ place_in held number = c.place_of-place.ensures ∙ ap (λ (hs : List Held). place_in hs number) c.as_slice.ensures.value in
    let left = c.remove-held.ensures.items ∙ ap (remove held) place in
    subst (λ (s : Standing). footprints_in c.remove-held.new.self.items ≡ footprints_without s number) c.self.view_is
    (ap footprints_in left ∙ footprints-without held number inside.given inside.spare c.self.invariant.0.rising)
