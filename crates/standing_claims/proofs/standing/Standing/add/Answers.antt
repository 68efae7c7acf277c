-- The last claim has the next number, and its locks are taken.
use Rattle.std.proofs.Common.{◌≡◌, ◌+◌, ◌-◌, ◌<◌, ◌∙◌, List, false, ap, arith, drop, get_or, length, subst, sym, ℕ}
use Rattle.rule_base.specs.declared.lock.Mode.{Mode}
use Rattle.standing_claims.specs.Amounts.{IsFootprint, amounts}
use Rattle.standing_claims.specs.Held.{claims_in, standing_with}
use Rattle.standing_claims.specs.Standing.{IsKept, Standing, is_full}
use Rattle.standing_claims.proofs.StandingLemmas.{IsKept-push, refilled, words_fit}
use Rattle.standing_claims.proofs.standing.Standing.add.Goals as goal

pub add_amounts-requires-clause-fits : goal.add_amounts-requires-clause-fits
add_amounts-requires-clause-fits c = λ (lock : ℕ).
    let inside = c.self.inside in
    let room : is_full inside.given (length (claims_in inside.claims.items)) ≡ false = ap (λ (s : Standing). is_full s.given (length s.claims)) c.self.view_is ∙ c.requires.not_full in
    let words : get_or c.as_mut_slice.result.now lock 0 ≡ get_or inside.words.items lock 0 = ap (λ (ws : List ℕ). get_or ws lock 0) c.as_mut_slice.ensures.value in
    let more : amounts c.as_slice.result.now lock ≡ amounts c.args.footprint.items lock = ap (λ (f : List (ℕ × Mode)). amounts f lock) c.as_slice.ensures.value in
    omega (arith, words, more, words_fit inside.claims.items inside.given inside.spare inside.words.items c.args.footprint.items c.self.invariant.0 room c.requires.footprint lock)

pub invariant_of-self : goal.invariant_of-self
invariant_of-self c =
    let inside = c.self.inside in
    let held = c.push_reserved in
    let words = c.add_amounts.new.words in
    let footprint = c.from_vec.result in
    let room : is_full inside.given (length (claims_in inside.claims.items)) ≡ false = ap (λ (s : Standing). is_full s.given (length s.claims)) c.self.view_is ∙ c.requires.not_full in
    let some : 0 < inside.spare = subst (λ (s : Standing). 0 < s.spare) (sym c.self.view_is) c.requires.room in
    let taken : IsFootprint footprint = subst IsFootprint (sym c.from_vec.ensures) c.requires.footprint in
    let more : (lock : ℕ) → get_or words lock 0 ≡ get_or inside.words.items lock 0 + amounts footprint lock =
    λ lock. c.add_amounts.ensures.words lock
    ∙ ap (λ (ws : List ℕ). get_or ws lock 0 + amounts c.as_slice.result.now lock) c.as_mut_slice.ensures.value
    ∙ ap (λ (f : List (ℕ × Mode)). get_or inside.words.items lock 0 + amounts f lock) (c.as_slice.ensures.value ∙ sym c.from_vec.ensures) in
    let same : length words ≡ length inside.words.items = c.add_amounts.ensures.count ∙ ap (λ (ws : List ℕ). length ws) c.as_mut_slice.ensures.value in
    let back = refilled inside.words.len words (drop (length words) inside.words.items) (omega (arith, same, inside.words.ok.0)) in (
      subst (IsKept (standing_with held.new.self.items (inside.given + 1) (inside.spare - 1))) (sym back)
          (IsKept-push inside.claims.items held.new.self.items inside.given inside.spare inside.words.items words c.args.candidate footprint c.self.invariant.0 room some taken held.ensures.items more same),
      omega (arith, some, c.self.invariant.1, held.ensures.len, held.ensures.capacity),
    )
