-- One demand more has been taken away.
use Rattle.std.proofs.Common.{◌-◌, ◌<◌, ◌∙◌, arith, get_or, length, length-set, ℕ}
use Rattle.rule_base.specs.declared.lock.Mode.TheVariants.{Watch}
use Rattle.standing_claims.specs.Amounts.{amounts}
use Rattle.standing_claims.proofs.AmountLemmas.{enough_left, lock_within, words-taken}
use Rattle.standing_claims.proofs.words.subtract_amounts.Goals as goal

pub overflow_sub-words : goal.overflow_sub-words
overflow_sub-words c =
    let footprint = c.args.footprint.now in
    let at = c.loop-lock.lock-index in
    enough_left c.loop-lock.words footprint at c.amount.result (0, Watch) (λ lock. get_or c.args.words.now lock 0) (omega (arith, c.loop-lock-test.true)) c.amount.ensures c.requires.taken c.loop-lock.invariant.words

pub loop-lock-preserved : goal.loop-lock-preserved
loop-lock-preserved c =
    let footprint = c.args.footprint.now in
    let words = c.loop-lock.words in
    let at = c.loop-lock.lock-index in
    let old : ℕ → ℕ = λ lock. get_or c.args.words.now lock 0 in
    let lt : at < length footprint = omega (arith, c.loop-lock-test.true) in
    let within : (get_or footprint at (0, Watch)).0 < length words = omega (arith, lock_within (length c.args.words.now) at footprint (0, Watch) c.requires.within lt, c.loop-lock.invariant.count) in
    let enough = enough_left words footprint at c.amount.result (0, Watch) old lt c.amount.ensures c.requires.taken c.loop-lock.invariant.words in
    record {
      words = words-taken words footprint at c.amount.result (0, Watch) old (amounts footprint) lt within c.amount.ensures enough c.loop-lock.invariant.words;
      count = length-set words (get_or footprint at (0, Watch)).0 (get_or words (get_or footprint at (0, Watch)).0 0 - c.amount.result) ∙ c.loop-lock.invariant.count;
    }
