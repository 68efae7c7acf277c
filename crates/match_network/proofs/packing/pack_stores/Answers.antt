-- One store more is packed.
use Rattle.std.proofs.Common.{◌≡◌, ◌≤◌, List, ap, arith, length, subst, suc, sym, ◌+◌, ◌∙◌}
use Rattle.rule_base.specs.Numbers.{has_number}
use Rattle.alpha_memory.specs.Stores.{Store, packed, with_change}
use Rattle.match_network.specs.Conditions.{AreCleaned}
use Rattle.match_network.proofs.PackingLemmas.{front_changed, front_changed-all, front_changed-more, front_cleaned}
use Rattle.match_network.proofs.packing.pack_stores.Goals as goal

pub loop-number-preserved : goal.loop-number-preserved
loop-number-preserved c =
    let change = packed (has_number c.args.arrivals.now.places) in
    let l = c.loop-number in
    c.in_ok-pack.ensures.ok
    ∙ ap (with_change change l.number) l.invariant
    ∙ front_changed-more change l.number c.args.alpha.now
    ∙ ap (λ n. front_changed change n c.args.alpha.now) (let same : suc l.number ≡ l.number + 1 = omega arith in same)

pub returns-in_err-pack-clause-cleaned : goal.returns-in_err-pack-clause-cleaned
returns-in_err-pack-clause-cleaned c =
    let a = c.args.arrivals.now in
    let l = c.loop-number in
    subst (λ (ss : List Store). AreCleaned a.places c.args.alpha.now ss) (sym (c.in_err-pack.ensures.err ∙ l.invariant)) (front_cleaned a.places l.number c.args.alpha.now)

pub returns-clause-ok : goal.returns-clause-ok
returns-clause-ok c =
    let change = packed (has_number c.args.arrivals.now.places) in
    let l = c.loop-number in
    l.invariant ∙ front_changed-all change l.number c.args.alpha.now (let all : length c.args.alpha.now ≤ l.number = omega (arith, c.loop-number-test.false, c.len-number-end.ensures.value) in all)

pub returns-clause-cleaned : goal.returns-clause-cleaned
returns-clause-cleaned c =
    let a = c.args.arrivals.now in
    let l = c.loop-number in
    subst (λ (ss : List Store). AreCleaned a.places c.args.alpha.now ss) (sym l.invariant) (front_cleaned a.places l.number c.args.alpha.now)
