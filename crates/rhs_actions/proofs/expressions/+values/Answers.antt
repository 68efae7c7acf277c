-- One operand more has been evaluated.
use Rattle.std.proofs.Common.{◌≡◌, ◌+◌, ◌-◌, drop, Ok, ap, arith, rules, subst, sym, ◌∙◌, w64, to_z, of_z, SFits}
use Rattle.std.proofs.lemmas.Int.{to_z-of_z}
use Rattle.std.proofs.lemmas.Result.{err_from_is_err_and}
use Rattle.rhs_actions.proofs.ExpressionLemmas.{GivesAll, GivesAll-next, fails, gives_all}
use Rattle.rhs_actions.proofs.expressions.+values.Goals as goal

pub computed-returns-in_err-joined : goal.computed-returns-in_err-joined
computed-returns-in_err-joined t c =
    let rest = c.as_slice-rest.result.now in
    let behind : c.loop-at.at ≡ (c.loop-at.at - 1) + 1 = omega (arith, c.loop-at-test.true) in
    let gives = subst (λ n. GivesAll c.args.binds.now (drop n rest) c.loop-at.right) behind c.loop-at.invariant in
    let p = err_from_is_err_and c.from_residual.result c.from_residual.ensures.1 in
    rw (p.1, p.2)
    (sym (fails c.args.binds.now c.args.expression.now rest (c.loop-at.at - 1) c.index-rest-at.result c.loop-at.right _ c.as_slice-rest.ensures (search rules) c.index-rest-at.is gives
    (sym c.in_err-joined.was ∙ c.joined.ensures)))

pub computed-loop-at-preserved : goal.computed-loop-at-preserved
computed-loop-at-preserved t c =
    let rest = c.as_slice-rest.result.now in
    let behind : c.loop-at.at ≡ (c.loop-at.at - 1) + 1 = omega (arith, c.loop-at-test.true) in
    let gives = subst (λ n. GivesAll c.args.binds.now (drop n rest) c.loop-at.right) behind c.loop-at.invariant in
    let z = c.in_ok-joined.field-0 in
    let fits : SFits w64 z = search rules in
    GivesAll-next c.args.binds.now rest (c.loop-at.at - 1) c.index-rest-at.result c.loop-at.right (to_z w64 (of_z w64 z)) (search rules) c.index-rest-at.is gives
    (ap Ok (to_z-of_z w64 z fits) ∙ sym c.in_ok-joined.was ∙ c.joined.ensures)

pub computed-returns : goal.computed-returns
computed-returns t c =
    let none : c.loop-at.at ≡ 0 = omega (arith, c.loop-at-test.false) in
    let rest = c.as_slice-rest.result.now in
    let gives = subst (λ n. GivesAll c.args.binds.now (drop n rest) c.loop-at.right) none c.loop-at.invariant in
    c.joined-2.ensures ∙ sym (gives_all c.args.binds.now c.args.expression.now rest c.loop-at.right c.as_slice-rest.ensures gives)
