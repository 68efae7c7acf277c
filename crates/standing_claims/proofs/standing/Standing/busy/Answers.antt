-- The words are those that the footprints add up to.
use Rattle.std.proofs.Common.{◌≡◌, ◌<◌, ◌∙◌, List, None, ap, get_or, length, rules, subst, sym, ℕ}
use Rattle.std.specs.List.{AllByRecursion}
use Rattle.rule_base.specs.declared.lock.Mode.{Mode}
use Rattle.interference.specs.Words.{first_busy, word_of}
use Rattle.standing_claims.specs.Held.{standing_with}
use Rattle.standing_claims.specs.Standing.{Standing}
use Rattle.standing_claims.proofs.AmountLemmas.{first_busy-same}
use Rattle.standing_claims.proofs.StandingLemmas.{busy-none, locks_laid, no_words}
use Rattle.standing_claims.proofs.standing.Standing.busy.Goals as goal

pub returns-then-is_empty : goal.returns-then-is_empty
returns-then-is_empty c =
    let inside = c.self.inside in
    let none : length inside.words.items ≡ 0 = search rules in
    subst (λ (s : Standing). None ≡ first_busy (word_of s.footprints) c.args.footprint.now) c.self.view_is
    (busy-none (standing_with inside.claims.items inside.given inside.spare) inside.words.items c.args.footprint.now c.self.invariant.0 (no_words inside.words.items none))

pub first_busy-requires : goal.first_busy-requires
first_busy-requires c =
    let inside = c.self.inside in
    let some : 0 < length inside.words.items = search rules in
    subst (λ (ws : List ℕ). AllByRecursion (λ (d : ℕ × Mode). d.0 < length ws) c.args.footprint.now) (sym c.as_slice.ensures.value)
    (locks_laid (standing_with inside.claims.items inside.given inside.spare) inside.words.items c.args.footprint.now c.self.invariant.0 some c.requires)

pub returns : goal.returns
returns c =
    let inside = c.self.inside in
    let same : (lock : ℕ) → get_or c.as_slice.result.now lock 0 ≡ word_of c.args.self.now.footprints lock =
    λ lock. ap (λ (ws : List ℕ). get_or ws lock 0) c.as_slice.ensures.value ∙ c.self.invariant.0.summed lock ∙ ap (λ (s : Standing). word_of s.footprints lock) c.self.view_is in
    c.first_busy.ensures ∙ first_busy-same (λ lock. get_or c.as_slice.result.now lock 0) (word_of c.args.self.now.footprints) c.args.footprint.now same
