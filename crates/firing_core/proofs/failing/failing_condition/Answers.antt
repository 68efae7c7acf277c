-- The rule is sound, so its condition elements may be matched, and they are few.
use Rattle.std.proofs.Common.{◌≡◌, Some, ap, arith, length, rules, slice_get, subst, sym}
use Rattle.rule_base.specs.Bindings.{no_bindings}
use Rattle.rule_base.specs.Sound.{IsSoundRule, sizes_of}
use Rattle.rule_base.proofs.EachLemmas.{Each-slice_get}
use Rattle.firing_core.specs.Matching.{MayMatch}
use Rattle.firing_core.specs.Store.{memory_in}
use Rattle.firing_core.proofs.MatchingLemmas.{MayMatch-sound}
use Rattle.firing_core.proofs.failing.failing_condition.Goals as goal

pub failing_from-requires-clause-may : goal.failing_from-requires-clause-may
failing_from-requires-clause-may c =
    let memory = memory_in c.args.store.now in
    let rule = c.in-Some.rule.now in
    let sizes = sizes_of c.args.program.now.classes in
    let at : slice_get c.args.program.now.rules c.args.choice.now.rule ≡ Some rule = search rules in
    let conds_are : c.as_slice.result.now ≡ rule.conds = search rules in
    let row : c.renew.new.self ≡ no_bindings rule.vars = search rules in
    let may = MayMatch-sound sizes rule memory (Each-slice_get (IsSoundRule sizes) c.args.program.now.rules c.args.choice.now.rule rule c.requires.sound.sound_rules at) c.requires.memory in
    subst (λ cs. MayMatch cs memory c.renew.new.self) (sym conds_are) (subst (MayMatch rule.conds memory) (sym row) may)

pub failing_from-requires-clause-few : goal.failing_from-requires-clause-few
failing_from-requires-clause-few c =
    let rule = c.in-Some.rule.now in
    let sizes = sizes_of c.args.program.now.classes in
    let at : slice_get c.args.program.now.rules c.args.choice.now.rule ≡ Some rule = search rules in
    let conds_are : c.as_slice.result.now ≡ rule.conds = search rules in
    let few = (Each-slice_get (IsSoundRule sizes) c.args.program.now.rules c.args.choice.now.rule rule c.requires.sound.sound_rules at).few_conds in
    omega (arith, few, ap length conds_are)
