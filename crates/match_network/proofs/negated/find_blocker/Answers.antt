-- One negated condition element more.
use Rattle.std.proofs.Common.{◌≡◌, ℕ, ◌<◌, ◌&&◌, ap, arith, get_or, length, refl, rules, subst, sym, take, true, ◌∙◌}
use Rattle.std.proofs.lemmas.List.Folds.{list_all_more}
use Rattle.std.proofs.lemmas.List.Sums.{sum_by_more}
use Rattle.join_tests.specs.declared.joins.Negated.{Negated}
use Rattle.join_tests.specs.Meaning.{is_free}
use Rattle.match_network.specs.Conditions.{IsServed}
use Rattle.match_network.specs.Row.{elements_of}
use Rattle.match_network.specs.Tried.{places_tried}
use Rattle.match_network.proofs.ComeLemmas.{slice_get-here}
use Rattle.match_network.proofs.GivenLemmas.{get_or-is, within-is}
use Rattle.match_network.proofs.StoreLemmas.{AreCleaned-more, AreCleaned-none, IsServed-cleaned}
use Rattle.match_network.proofs.negated.find_blocker.Goals as goal

pub loop-number-init : goal.loop-number-init
loop-number-init g c = record {
  free = refl;
  cleaned = AreCleaned-none c.args.arrivals.now.places c.args.alpha.now;
  steps = omega arith;
}

pub bounds-stores-number : goal.bounds-stores-number
bounds-stores-number g c =
    let l = c.loop-number in
    let this = c.index-negated-number.result in
    let lt : l.number < length c.args.negated.now = omega (arith, c.loop-number-test.true) in
    let is : this ≡ get_or c.args.negated.now l.number this = search rules in
    let found = c.requires.served l.number this (slice_get-here c.args.negated.now l.number this lt is) in
    within-is c.args.stores.now l.number found.0 found.1

pub find_one-requires-clause-served : goal.find_one-requires-clause-served
find_one-requires-clause-served g c =
    let a = c.args.arrivals.now in
    let l = c.loop-number in
    let this = c.index-negated-number.result in
    let lt : l.number < length c.args.negated.now = omega (arith, c.loop-number-test.true) in
    let is : this ≡ get_or c.args.negated.now l.number this = search rules in
    let found = c.requires.served l.number this (slice_get-here c.args.negated.now l.number this lt is) in
    let store_is : get_or c.args.stores.now l.number 0 ≡ found.0 = get_or-is c.args.stores.now l.number found.0 0 found.1 in
    IsServed-cleaned this.join true a.came a.places c.args.alpha.now l.alpha (get_or c.args.stores.now l.number 0) l.invariant.cleaned
    (subst (λ n. IsServed this.join true a.came a.places c.args.alpha.now n) (sym store_is) found.2)

pub returns-in-Some-clause-cleaned : goal.returns-in-Some-clause-cleaned
returns-in-Some-clause-cleaned g c =
    AreCleaned-more c.args.arrivals.now.places c.args.alpha.now c.loop-number.alpha c.find_one.new.alpha c.loop-number.invariant.cleaned c.find_one.ensures.cleaned

pub loop-number-preserved : goal.loop-number-preserved
loop-number-preserved g c =
    let a = c.args.arrivals.now in
    let l = c.loop-number in
    let row = c.args.row.now in
    let this = c.index-negated-number.result in
    let free = is_free (elements_of a.came a.places) (elements_of a.came row) in
    let tried : Negated → ℕ = λ n. places_tried n.join a.came a.places (take n.after row) in
    let lt : l.number < length c.args.negated.now = omega (arith, c.loop-number-test.true) in
    let is : this ≡ get_or c.args.negated.now l.number this = search rules in
    let one : tried this ≡ tried (get_or c.args.negated.now l.number this) = ap tried is in
    let here : free (get_or c.args.negated.now l.number this) ≡ true = ap free (sym is) ∙ c.find_one.ensures.none c.in_default.is in
    record {
      free = list_all_more free c.args.negated.now l.number this lt
          ∙ ap (λ b. b && free (get_or c.args.negated.now l.number this)) l.invariant.free
          ∙ here;
      cleaned = AreCleaned-more a.places c.args.alpha.now l.alpha c.find_one.new.alpha l.invariant.cleaned c.find_one.ensures.cleaned;
      steps = omega (arith, sum_by_more tried c.args.negated.now l.number this lt, one, c.find_one.ensures.steps, l.invariant.steps);
    }
