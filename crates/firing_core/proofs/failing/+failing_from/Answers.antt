-- The condition elements that are left may be matched after the first.
use Rattle.std.proofs.Common.{◌≡◌, ◌∷◌, ◌==◌, Some, ap, arith, length, rules, sym, subst}
use Rattle.rule_base.specs.declared.element.Element.{Element}
use Rattle.rule_base.specs.Views.{element_in}
use Rattle.rule_base.specs.Memory.{element_at}
use Rattle.rule_base.proofs.EachLemmas.{Each-find}
use Rattle.element_tests.specs.Asking.{MayAsk}
use Rattle.firing_core.specs.Matching.{MayMatch}
use Rattle.firing_core.specs.Store.{memory_in}
use Rattle.firing_core.proofs.MatchingLemmas.{MayFilter-first, MayMatch-accepted, MayMatch-negated}
use Rattle.firing_core.proofs.failing.+failing_from.Goals as goal

pub accepts_some_of-requires-clause-may : goal.accepts_some_of-requires-clause-may
accepts_some_of-requires-clause-may t c =
    let memory = memory_in c.args.store.now in
    let whole : c.args.conds.now ≡ c.in-Some.cond.now ∷ c.in-Some.conds.now = search rules in
    MayFilter-first c.in-Some.cond.now c.in-Some.conds.now memory c.args.binds.now (subst (λ cs. MayMatch cs memory c.args.binds.now) whole c.requires.may)

pub failing_from-requires : goal.failing_from-requires
failing_from-requires t c =
    let memory = memory_in c.args.store.now in
    let whole : c.args.conds.now ≡ c.in-Some.cond.now ∷ c.in-Some.conds.now = search rules in
    let may = MayMatch-negated c.in-Some.cond.now c.in-Some.conds.now memory c.args.binds.now (subst (λ cs. MayMatch cs memory c.args.binds.now) whole c.requires.may) c.if-cond.true in
    (search rules, (subst (λ b. MayMatch c.in-Some.conds.now memory b) (sym c.if-accepts_some_of.ensures.kept) may, (omega (arith, c.requires.few, ap length whole), c.if-accepts_some_of.ensures.grouped)))

pub accepts-requires : goal.accepts-requires
accepts-requires t c =
    let memory = memory_in c.args.store.now in
    let whole : c.args.conds.now ≡ c.in-Some.cond.now ∷ c.in-Some.conds.now = search rules in
    let may = subst (λ cs. MayMatch cs memory c.args.binds.now) whole c.requires.may in
    let filter = MayFilter-first c.in-Some.cond.now c.in-Some.conds.now memory c.args.binds.now may in
    let e = element_in c.in-Some-element.element in
    let tag = c.in-Some-split_first.tag.now in
    let there : element_at memory tag ≡ Some e = search rules in
    Each-find (MayAsk c.in-Some.cond.now c.args.binds.now) (λ (x : Element). x.tag == tag) memory e filter.asked there

pub failing_from-requires-2 : goal.failing_from-requires-2
failing_from-requires-2 t c =
    let memory = memory_in c.args.store.now in
    let whole : c.args.conds.now ≡ c.in-Some.cond.now ∷ c.in-Some.conds.now = search rules in
    let may = subst (λ cs. MayMatch cs memory c.args.binds.now) whole c.requires.may in
    (search rules, (MayMatch-accepted c.in-Some.cond.now c.in-Some.conds.now memory c.args.binds.now c.accepts.new.binds (element_in c.in-Some-element.element) may c.if-cond.false c.if-not-accepts.ensures.accepted, (omega (arith, c.requires.few, ap length whole), c.requires.grouped)))
