-- The condition elements that are left may be matched after the first.
use Rattle.std.proofs.Common.{◌≡◌, ◌∷◌, ◌++◌, ◌==◌, Some, drop, rules, sym, subst}
use Rattle.rule_base.specs.declared.element.Element.{Element}
use Rattle.rule_base.specs.Views.{element_in}
use Rattle.rule_base.specs.Memory.{element_at}
use Rattle.rule_base.proofs.EachLemmas.{Each-find}
use Rattle.commit_journal.specs.Entries.{born_in}
use Rattle.element_tests.specs.Asking.{MayAsk}
use Rattle.firing_core.specs.Matching.{MayFilter, MayMatch}
use Rattle.firing_core.specs.Store.{memory_in}
use Rattle.firing_core.proofs.MatchingLemmas.{MayFilter-both, MayMatch-accepted, MayMatch-negated}
use Rattle.firing_core.proofs.fired.+blocks_none_from.Goals as goal

pub accepts_born-requires : goal.accepts_born-requires
accepts_born-requires t c =
    let cond = c.in-Some.cond.now in
    let memory = memory_in c.args.store.now in
    let more = born_in (drop c.args.from c.args.store.now.entries) in
    let whole : c.args.conds.now ≡ cond ∷ c.in-Some.conds.now = search rules in
    let may = subst (λ cs. MayMatch cs (memory ++ more) c.args.binds.now) whole c.requires in
    subst (λ entries. MayFilter cond (born_in (drop c.args.from entries)) c.args.binds.now) (sym c.journal.ensures.entries) (MayFilter-both cond c.in-Some.conds.now memory more c.args.binds.now may).1

pub blocks_none_from-requires : goal.blocks_none_from-requires
blocks_none_from-requires t c =
    let cond = c.in-Some.cond.now in
    let all = memory_in c.args.store.now ++ born_in (drop c.args.from c.args.store.now.entries) in
    let whole : c.args.conds.now ≡ cond ∷ c.in-Some.conds.now = search rules in
    let may = MayMatch-negated cond c.in-Some.conds.now all c.args.binds.now (subst (λ cs. MayMatch cs all c.args.binds.now) whole c.requires) c.if-cond.true in
    (search rules, subst (MayMatch c.in-Some.conds.now all) (sym c.if-not-accepts_born.ensures.kept) may)

pub accepts-requires : goal.accepts-requires
accepts-requires t c =
    let cond = c.in-Some.cond.now in
    let memory = memory_in c.args.store.now in
    let more = born_in (drop c.args.from c.args.store.now.entries) in
    let whole : c.args.conds.now ≡ cond ∷ c.in-Some.conds.now = search rules in
    let may = subst (λ cs. MayMatch cs (memory ++ more) c.args.binds.now) whole c.requires in
    let e = element_in c.in-Some-element.element in
    let tag = c.in-Some-split_first.tag.now in
    let there : element_at memory tag ≡ Some e = search rules in
    Each-find (MayAsk cond c.args.binds.now) (λ (x : Element). x.tag == tag) memory e (MayFilter-both cond c.in-Some.conds.now memory more c.args.binds.now may).0.asked there

pub blocks_none_from-requires-else-not-accepts : goal.blocks_none_from-requires-else-not-accepts
blocks_none_from-requires-else-not-accepts t c =
    let cond = c.in-Some.cond.now in
    let all = memory_in c.args.store.now ++ born_in (drop c.args.from c.args.store.now.entries) in
    let whole : c.args.conds.now ≡ cond ∷ c.in-Some.conds.now = search rules in
    let may = subst (λ cs. MayMatch cs all c.args.binds.now) whole c.requires in
    (search rules, MayMatch-accepted cond c.in-Some.conds.now all c.args.binds.now c.accepts.new.binds (element_in c.in-Some-element.element) may c.if-cond.false c.if-not-accepts.ensures.accepted)
