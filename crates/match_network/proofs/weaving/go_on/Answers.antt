-- The level at the cut is the one that changes.
use Rattle.std.proofs.Common.{◌≡◌, ℕ, ◌-◌, List, ap, drop, get_or, set, subst, ◌∙◌}
use Rattle.std.proofs.lemmas.Result.{err_from_is_err_and}
use Rattle.match_network.specs.Conditions.{level_at}
use Rattle.match_network.specs.Filed.{LevelRows, only, with_rows}
use Rattle.match_network.specs.SoFar.{IsPart}
use Rattle.match_network.specs.Woven.{grown}
use Rattle.match_network.proofs.ConditionLemmas.{back_at, back_set, front_at}
use Rattle.match_network.proofs.weaving.go_on.Goals as goal

pub returns-in_err-grow-clause-err : goal.returns-in_err-grow-clause-err
returns-in_err-grow-clause-err g c =
    let stage = c.args.stage.now in
    let came = stage.arrivals.now.came in
    let places = stage.arrivals.now.places in
    let levels = c.args.levels.now in
    let front = c.split_at_mut-front.result.0.now in
    let back = c.split_at_mut-front.result.1.now in
    let before : c.rows-2.result.now.rows ≡ (level_at levels (c.args.number - 1)).rows =
    c.rows-2.ensures.rows ∙ ap (λ (l : LevelRows). l.rows) (front_at levels front back c.args.number c.index-front-number.result c.split_at_mut-front.ensures.value c.split_at_mut-front.ensures.front_len c.requires.some) in
    let after : get_or back 0 c.index-back-0.result ≡ level_at levels c.args.number = back_at levels front back c.args.number c.index-back-0.result c.split_at_mut-front.ensures.value c.split_at_mut-front.ensures.front_len c.requires.number in
    let all : List (List ℕ) = grown (only stage.join.now) came places (drop c.args.first (level_at levels (c.args.number - 1)).rows) in
    let part : IsPart stage.next.now came (level_at levels c.args.number) c.grow.new.after all =
    subst (λ (l : LevelRows). IsPart stage.next.now came l c.grow.new.after all) after
    (subst (λ (rows : List (List ℕ)). IsPart stage.next.now came (get_or back 0 c.index-back-0.result) c.grow.new.after (grown (only stage.join.now) came places (drop c.args.first rows))) before c.in_err-grow.ensures.err) in
    let out = err_from_is_err_and c.from_residual.result c.from_residual.ensures.1 in
    rw out.1 (c.grow.new.after, back_set levels front back c.args.number c.grow.new.after c.split_at_mut-front.ensures.value c.split_at_mut-front.ensures.front_len, part)

pub returns-clause-ok : goal.returns-clause-ok
returns-clause-ok g c =
    let stage = c.args.stage.now in
    let came = stage.arrivals.now.came in
    let places = stage.arrivals.now.places in
    let levels = c.args.levels.now in
    let front = c.split_at_mut-front.result.0.now in
    let back = c.split_at_mut-front.result.1.now in
    let before : c.rows-2.result.now.rows ≡ (level_at levels (c.args.number - 1)).rows =
    c.rows-2.ensures.rows ∙ ap (λ (l : LevelRows). l.rows) (front_at levels front back c.args.number c.index-front-number.result c.split_at_mut-front.ensures.value c.split_at_mut-front.ensures.front_len c.requires.some) in
    let after : get_or back 0 c.index-back-0.result ≡ level_at levels c.args.number = back_at levels front back c.args.number c.index-back-0.result c.split_at_mut-front.ensures.value c.split_at_mut-front.ensures.front_len c.requires.number in
    back_set levels front back c.args.number c.grow.new.after c.split_at_mut-front.ensures.value c.split_at_mut-front.ensures.front_len
    ∙ ap (set levels c.args.number)
    (c.in_ok-grow.ensures.ok
    ∙ ap (λ (l : LevelRows). with_rows stage.next.now came l (grown (only stage.join.now) came places (drop c.args.first c.rows-2.result.now.rows))) after
    ∙ ap (λ rows. with_rows stage.next.now came (level_at levels c.args.number) (grown (only stage.join.now) came places (drop c.args.first rows))) before)
