-- The text is what stands before the bar, the bar, and what is behind it.
use Rattle.std.proofs.Common.{sym, ap, ◌∙◌, drop}
use Rattle.ops_tokens.proofs.CutLemmas.{bars_cut, bars_open}
use Rattle.ops_tokens.proofs.PlaceLemmas.{bars_place, bars_open_place}
use Rattle.ops_tokens.proofs.scan.barred.Goals as goal

pub returns-in-Some-clause-next : goal.returns-in-Some-clause-next
returns-in-Some-clause-next c =
    let text = c.args.behind_bar.now in
    let rest = ap (λ n. drop n text) (sym c.bars_len.ensures.len) ∙ sym c.split_at.ensures.back in
    cc (bars_cut text _ _ (rest ∙ c.in-Some.ensures.cases.0), c.split_at.ensures.front)

pub returns-in-Some-clause-place : goal.returns-in-Some-clause-place
returns-in-Some-clause-place c =
    let text = c.args.behind_bar.now in
    let rest = ap (λ n. drop n text) (sym c.bars_len.ensures.len) ∙ sym c.split_at.ensures.back in
    cc (bars_place text _ _ (rest ∙ c.in-Some.ensures.cases.0), c.requires)

pub returns-in-None-clause-next : goal.returns-in-None-clause-next
returns-in-None-clause-next c =
    let text = c.args.behind_bar.now in
    let rest = c.split_at.ensures.back ∙ ap (λ n. drop n text) c.bars_len.ensures.len in
    bars_open text c.split_at.result.1.now rest c.in-None.ensures.cases

pub returns-in-None-clause-place : goal.returns-in-None-clause-place
returns-in-None-clause-place c =
    let text = c.args.behind_bar.now in
    let rest = c.split_at.ensures.back ∙ ap (λ n. drop n text) c.bars_len.ensures.len in
    bars_open_place text c.split_at.result.1.now rest c.in-None.ensures.cases
