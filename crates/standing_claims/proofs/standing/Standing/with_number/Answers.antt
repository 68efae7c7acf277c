-- The claim with the number is the one at its place.
use Rattle.std.proofs.Common.{◌≡◌, ◌∙◌, List, None, Some, ap, option_map, slice_get, subst, sym}
use Rattle.std.proofs.lemmas.Option.{slice_get-get_or, slice_get_past}
use Rattle.standing_claims.specs.declared.held.Held.{Held}
use Rattle.standing_claims.specs.Standing.{Standing, claim_numbered}
use Rattle.standing_claims.proofs.StandingLemmas.{numbered_at, place_in}
use Rattle.standing_claims.proofs.standing.Standing.with_number.Goals as goal

pub returns-in-Some : goal.returns-in-Some
returns-in-Some c =
    let held = c.self.inside.claims.items in
    let number = c.args.number in
    let found = c.in-Some.ensures.lookup in
    let h = c.in-Some.held.now in
    let got : Some h ≡ slice_get c.deref.result.now c.place_of.result = ap Some found.1 ∙ sym (slice_get-get_or c.deref.result.now c.place_of.result h found.3.0) in
    let place = c.place_of.ensures ∙ ap (λ (hs : List Held). place_in hs number) c.as_slice.ensures.value in
    subst (λ (s : Standing). Some c.in-Some.held.now.claim ≡ claim_numbered s.claims number) c.self.view_is
    (ap (option_map (λ (h : Held). h.claim)) (got ∙ ap (λ (hs : List Held). slice_get hs c.place_of.result) c.deref.ensures.value ∙ ap (slice_get held) place) ∙ sym (numbered_at held number))

pub returns-in-None : goal.returns-in-None
returns-in-None c =
    let held = c.self.inside.claims.items in
    let number = c.args.number in
    let got : None ≡ slice_get c.deref.result.now c.place_of.result = sym (slice_get_past c.deref.result.now c.place_of.result c.in-None.ensures.lookup.3) in
    let place = c.place_of.ensures ∙ ap (λ (hs : List Held). place_in hs number) c.as_slice.ensures.value in
    subst (λ (s : Standing). None ≡ claim_numbered s.claims number) c.self.view_is
    (ap (option_map (λ (h : Held). h.claim)) (got ∙ ap (λ (hs : List Held). slice_get hs c.place_of.result) c.deref.ensures.value ∙ ap (slice_get held) place) ∙ sym (numbered_at held number))
