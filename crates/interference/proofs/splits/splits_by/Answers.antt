-- One class more.
use Rattle.std.proofs.Common.{◌≡◌, ℕ, ◌+◌, ◌∷◌, [], ◌++◌, length, take, sym, ◌∙◌, ap, arith}
use Rattle.rule_base.specs.declared.program.Class.{Class}
use Rattle.interference.specs.Splits.{split, splits_by}
use Rattle.interference.proofs.FindingLemmas.{slice_get-item}
use Rattle.interference.proofs.SplitLemmas.{map-enumerate_next}
use Rattle.interference.proofs.splits.splits_by.Goals as goal

pub loop-at-preserved : goal.loop-at-preserved
loop-at-preserved c =
    let class = c.index-classes-at.result in
    let at = slice_get-item c.args.classes.now c.loop-at.at class c.loop-at-test.true c.index-classes-at.is in
    let here : c.split.result ≡ split c.args.rules.now (0 + c.loop-at.at) (length class.attrs) = c.split.ensures ∙ ap (split c.args.rules.now c.loop-at.at) c.len-size.ensures ∙ ap (λ (k : Class). split c.args.rules.now c.loop-at.at (length k.attrs)) (sym c.index-classes-at.is) ∙ ap (λ n. split c.args.rules.now n (length class.attrs)) (let same : c.loop-at.at ≡ 0 + c.loop-at.at = omega arith in same) in
    c.in_ok-push.ensures.items ∙ ap (λ splits. splits ++ c.split.result ∷ []) c.loop-at.invariant ∙ ap (λ s. splits_by c.args.rules.now (take c.loop-at.at c.args.classes.now) ++ s ∷ []) here
    ∙ sym (map-enumerate_next (λ (numbered : ℕ × Class). split c.args.rules.now numbered.0 (length numbered.1.attrs)) 0 c.args.classes.now c.loop-at.at class at)
