-- One condition element more, and what they all mean.
use Rattle.std.proofs.Common.{◌≡◌, ◌+◌, [], ◌∷◌, ◌++◌, rules, arith, get_or, length, take, ap, subst, sym, ◌∙◌}
use Rattle.std.specs.Vec.{with_items}
use Rattle.std.proofs.lemmas.List.{take_all, with_items_is}
use Rattle.element_tests.proofs.PlaceLemmas.{take_to_place}
use Rattle.join_tests.specs.Sources.{no_sources}
use Rattle.join_tests.specs.Compiling.{TakesIn}
use Rattle.join_tests.proofs.RuleLemmas.{Compiles, Compiles-TakesIn}
use Rattle.join_tests.proofs.MeaningLemmas.{IsCompiled-compiles}
use Rattle.join_tests.proofs.joins.Joins.compile.Goals as goal

pub loop-cond-preserved : goal.loop-cond-preserved
loop-cond-preserved c =
    let conds = c.args.rule.now.conds in
    let i = c.loop-cond.cond-index in
    let further = c.cond-item.result in
    let joins = c.take_in.new.joins in
    let start = no_sources c.args.rule.now.vars in
    let more : take (i + 1) conds ≡ take i conds ++ further ∷ [] = take_to_place conds i further (search rules) (c.cond-item.is ∙ ap (λ cs. get_or cs i further) c.as_slice-cond-items.ensures) in
    let takes : TakesIn further.negated further c.loop-cond.joins c.loop-cond.sources.items joins c.take_in.new.sources =
    subst (λ s. TakesIn further.negated further c.loop-cond.joins s joins c.take_in.new.sources) c.as_mut_slice.ensures.value c.in_ok-take_in.ensures in
    let written : (with_items c.loop-cond.sources c.take_in.new.sources).items ≡ c.take_in.new.sources = with_items_is c.loop-cond.sources c.take_in.new.sources (search rules) in
    subst (λ s. Compiles 0 start (take (i + 1) conds) joins.positives joins.negated s) (sym written)
    (subst (λ cs. Compiles 0 start cs joins.positives joins.negated c.take_in.new.sources) (sym more)
    (Compiles-TakesIn (take i conds) start further c.loop-cond.joins joins c.loop-cond.sources.items c.take_in.new.sources takes c.loop-cond.invariant))

pub returns : goal.returns
returns c =
    let rule = c.args.rule.now in
    let joins = c.loop-cond.joins in
    let all : take c.loop-cond.cond-index rule.conds ≡ rule.conds = take_all c.loop-cond.cond-index rule.conds (omega (arith, ap length c.as_slice-cond-items.ensures)) in
    IsCompiled-compiles rule joins c.loop-cond.sources.items
    (subst (λ cs. Compiles 0 (no_sources rule.vars) cs joins.positives joins.negated c.loop-cond.sources.items) all c.loop-cond.invariant)
