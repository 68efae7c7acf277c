-- One negated condition element more has asked.
use Rattle.std.proofs.Common.{◌≡◌, ◌<◌, ◌≤◌, List, arith, get_or, length, refl, rules, subst, true}
use Rattle.join_tests.specs.declared.joins.KeyPart.{KeyPart}
use Rattle.alpha_memory.specs.Stores.{Serves, without_entries}
use Rattle.match_network.proofs.ComeLemmas.{slice_get-here}
use Rattle.match_network.proofs.NegatedLemmas.{AreNegatedAskedTo-all, AreNegatedAskedTo-more}
use Rattle.match_network.proofs.RuleLemmas.{AreBare-grows, GoesOn-grows, GoesOn-more}
use Rattle.match_network.proofs.rule_levels.ask_negated.Goals as goal

pub loop-number-preserved : goal.loop-number-preserved
loop-number-preserved c =
    let l = c.loop-number in
    let this = c.index-negated-number.result in
    let new = c.ask.new.self in
    let asked = without_entries this.join.pattern c.as_slice.result.now true in
    let lt : l.number < length c.args.negated.now = omega (arith, c.loop-number-test.true) in
    let is : this ≡ get_or c.args.negated.now l.number this = search rules in
    let goes_on = GoesOn-grows asked l.alpha new c.in_ok-store.ensures.grows in
    record {
      asked = AreNegatedAskedTo-more c.args.negated.now l.number l.alpha new l.stores c.push.new.self this c.in_ok-store.store (slice_get-here c.args.negated.now l.number this lt is) goes_on
          (subst (λ (key : List KeyPart). Serves (without_entries this.join.pattern key true) new c.in_ok-store.store) c.as_slice.ensures c.in_ok-store.ensures.serves)
          c.in_ok-push.ensures.ok l.invariant.asked;
      bare = AreBare-grows asked l.alpha new refl c.in_ok-store.ensures.grows l.invariant.bare;
      goes_on = GoesOn-more c.args.alpha.now l.alpha new l.invariant.goes_on goes_on;
    }

pub returns-clause-asked : goal.returns-clause-asked
returns-clause-asked c =
    let l = c.loop-number in
    AreNegatedAskedTo-all c.args.negated.now l.number l.alpha l.stores (let le : length c.args.negated.now ≤ l.number = omega (arith, c.loop-number-test.false) in le) l.invariant.asked
