-- The rule of the choice may be matched against both, and it goes on to match where nothing blocks it.
use Rattle.std.proofs.Common.{◌≡◌, ◌++◌, true, Some, drop, slice_get, rules, sym, ap, ◌∙◌, subst}
use Rattle.std.specs.Option.{option_map_or}
use Rattle.rule_base.specs.declared.program.Rule.{Rule}
use Rattle.rule_base.specs.Bindings.{no_bindings}
use Rattle.rule_base.specs.Memory.{HasSize}
use Rattle.rule_base.specs.Sound.{IsSoundRule, sizes_of}
use Rattle.rule_base.proofs.EachLemmas.{Each-append, Each-slice_get}
use Rattle.commit_journal.specs.Entries.{born_in}
use Rattle.refraction_index.specs.Beside.{blocks_none_from}
use Rattle.refraction_index.proofs.BesideLemmas.{matches-beside}
use Rattle.firing_core.specs.Matching.{MayMatch}
use Rattle.firing_core.specs.Store.{memory_in}
use Rattle.firing_core.proofs.BornLemmas.{each_born}
use Rattle.firing_core.proofs.CommitLemmas.{HasMatch-matches, rule_read}
use Rattle.firing_core.proofs.MatchingLemmas.{MayMatch-sound}
use Rattle.firing_core.proofs.fired.matches_beside.Goals as goal

pub blocks_none_from-requires : goal.blocks_none_from-requires
blocks_none_from-requires c =
    let sizes = sizes_of c.args.program.now.classes in
    let memory = memory_in c.args.store.now in
    let more = born_in (drop c.args.from c.args.store.now.entries) in
    let choice = c.args.choice.now in
    let rule = c.index-as_slice-choice.result in
    let has = HasMatch-matches c.args.program.now memory choice c.requires.matching in
    let at : slice_get c.args.program.now.rules choice.rule ≡ Some rule = rule_read c.args.program.now memory choice rule has (search rules) in
    let sized = Each-append (HasSize sizes) memory more c.requires.memory.sized (each_born (HasSize sizes) c.args.from c.args.store.now.entries c.requires.born) in
    let may = MayMatch-sound sizes rule (memory ++ more) (Each-slice_get (IsSoundRule sizes) c.args.program.now.rules choice.rule rule c.requires.sound.sound_rules at) sized in
    let row : c.renew.new.self ≡ no_bindings rule.vars = search rules in
    let conds : c.as_slice-2.result.now ≡ rule.conds = search rules in
    subst (λ b. MayMatch c.as_slice-2.result.now (memory ++ more) b) (sym row) (subst (λ cs. MayMatch cs (memory ++ more) (no_bindings rule.vars)) (sym conds) may)

pub returns : goal.returns
returns c =
    let memory = memory_in c.args.store.now in
    let more = born_in (drop c.args.from c.args.store.now.entries) in
    let choice = c.args.choice.now in
    let rule = c.index-as_slice-choice.result in
    let has = HasMatch-matches c.args.program.now memory choice c.requires.matching in
    let at : slice_get c.args.program.now.rules choice.rule ≡ Some rule = rule_read c.args.program.now memory choice rule has (search rules) in
    let is : c.blocks_none_from.result ≡ blocks_none_from rule.conds memory more choice.tags (no_bindings rule.vars) = search rules in
    let of_rule = ap (λ o. option_map_or (λ (r : Rule). blocks_none_from r.conds memory more choice.tags (no_bindings r.vars)) o true) at in
    is ∙ sym of_rule ∙ sym (matches-beside c.args.program.now memory more choice c.requires.memory.rising c.requires.matching)
