-- One demand more has been added.
use Rattle.std.proofs.Common.{◌+◌, ◌<◌, ◌∙◌, arith, get_or, length, length-set}
use Rattle.rule_base.specs.declared.lock.Mode.TheVariants.{Watch}
use Rattle.standing_claims.specs.Amounts.{amounts}
use Rattle.standing_claims.proofs.AmountLemmas.{lock_within, words-added}
use Rattle.standing_claims.proofs.words.add_amounts.Goals as goal

pub loop-lock-preserved : goal.loop-lock-preserved
loop-lock-preserved c =
    let footprint = c.args.footprint.now in
    let words = c.loop-lock.words in
    let at = c.loop-lock.lock-index in
    let lt : at < length footprint = omega (arith, c.loop-lock-test.true) in
    let within : (get_or footprint at (0, Watch)).0 < length words = omega (arith, lock_within (length c.args.words.now) at footprint (0, Watch) c.requires.within lt, c.loop-lock.invariant.count) in
    record {
      words = words-added words footprint at c.amount.result (0, Watch) (λ lock. get_or c.args.words.now lock 0 + amounts footprint lock) lt within c.amount.ensures c.loop-lock.invariant.words;
      count = length-set words (get_or footprint at (0, Watch)).0 (get_or words (get_or footprint at (0, Watch)).0 0 + c.amount.result) ∙ c.loop-lock.invariant.count;
    }
