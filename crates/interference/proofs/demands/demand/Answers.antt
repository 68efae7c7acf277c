-- A demand of a lock that is asked for already joins it, and another goes in its place.
use Rattle.std.proofs.Common.{◌≡◌, None, Some, slice_set, sym, ◌∙◌, ap}
use Rattle.std.specs.List.{insert}
use Rattle.interference.specs.Finding.{asked_at, lesser}
use Rattle.interference.proofs.DemandCodeLemmas.{with_demand-inserted, with_demand-joined}
use Rattle.interference.proofs.demands.demand.Goals as goal

pub returns-in-Some : goal.returns-in-Some
returns-in-Some c =
    let items = c.args.out.now.items in
    let lock = c.args.lock in
    let place : c.place_of-place.result ≡ lesser lock items = c.place_of-place.ensures.lesser ∙ ap (lesser lock) c.as_slice.ensures.value in
    let at : asked_at items (lesser lock items) lock ≡ Some c.in-Some.asked =
    sym (c.asked_at.ensures.asked ∙ ap (λ ds. asked_at ds c.place_of-place.result lock) c.as_slice-2.ensures.value ∙ ap (λ n. asked_at items n lock) place) ∙ c.in-Some.is in
    ap (λ n. slice_set items n (lock, c.joined.result)) place ∙ ap (λ m. slice_set items (lesser lock items) (lock, m)) c.joined.ensures
    ∙ sym (with_demand-joined items lock c.args.mode c.in-Some.asked at)

pub returns-in_ok-insert-in-None : goal.returns-in_ok-insert-in-None
returns-in_ok-insert-in-None c =
    let items = c.args.out.now.items in
    let lock = c.args.lock in
    let place : c.place_of-place.result ≡ lesser lock items = c.place_of-place.ensures.lesser ∙ ap (lesser lock) c.as_slice.ensures.value in
    let none : asked_at items (lesser lock items) lock ≡ None =
    sym (c.asked_at.ensures.asked ∙ ap (λ ds. asked_at ds c.place_of-place.result lock) c.as_slice-2.ensures.value ∙ ap (λ n. asked_at items n lock) place) ∙ c.in-None.is in
    c.in_ok-insert-in-None.ensures.items ∙ ap (λ n. insert items n (lock, c.args.mode)) place ∙ sym (with_demand-inserted items lock c.args.mode none)
