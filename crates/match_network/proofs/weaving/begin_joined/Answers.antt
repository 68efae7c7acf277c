-- The level before the cut is cleaned, and the one at it gets rows.
use Rattle.std.proofs.Common.{◌≡◌, ℕ, ◌-◌, ◌∷◌, ◌++◌, List, ap, get_or, map, set, subst, ◌∙◌}
use Rattle.std.proofs.lemmas.Result.{err_from_is_err_and}
use Rattle.match_network.specs.Conditions.{IsBegun, level_at}
use Rattle.match_network.specs.Filed.{LevelRows, only, with_rows}
use Rattle.match_network.specs.SoFar.{IsPart}
use Rattle.match_network.specs.Woven.{joined, with_place}
use Rattle.match_network.proofs.ConditionLemmas.{back_at, both_set, front_at}
use Rattle.match_network.proofs.weaving.begin_joined.Goals as goal

pub returns-in_err-join_place-clause-err : goal.returns-in_err-join_place-clause-err
returns-in_err-join_place-clause-err g c =
    let stage = c.args.stage.now in
    let came = stage.arrivals.now.came in
    let places = stage.arrivals.now.places in
    let levels = c.args.levels.now in
    let front = c.split_at_mut-front.result.0.now in
    let back = c.split_at_mut-front.result.1.now in
    let before : get_or front (c.args.number - 1) c.index-front-number.result ≡ level_at levels (c.args.number - 1) =
    front_at levels front back c.args.number c.index-front-number.result c.split_at_mut-front.ensures.value c.split_at_mut-front.ensures.front_len c.requires.some in
    let after : get_or back 0 c.index-back-0.result ≡ level_at levels c.args.number = back_at levels front back c.args.number c.index-back-0.result c.split_at_mut-front.ensures.value c.split_at_mut-front.ensures.front_len c.requires.number in
    let rows_made : List (List ℕ) → List (List ℕ) = λ rows. map (with_place c.args.place) (joined (only stage.join.now) came places c.args.place rows) in
    let part : IsPart stage.next.now came (level_at levels c.args.number) c.join_place.new.after (rows_made (level_at levels (c.args.number - 1)).rows) =
    subst (λ (l : LevelRows). IsPart stage.next.now came l c.join_place.new.after (rows_made (level_at levels (c.args.number - 1)).rows)) after
    (subst (λ (l : LevelRows). IsPart stage.next.now came (get_or back 0 c.index-back-0.result) c.join_place.new.after (rows_made l.rows)) before c.in_err-join_place.ensures.err) in
    let out = err_from_is_err_and c.from_residual.result c.from_residual.ensures.1 in
    let begun : IsBegun (stage.join.now ∷ stage.next.now) came places c.args.number levels (set front (c.args.number - 1) c.join_place.new.before ++ set back 0 c.join_place.new.after) c.join_place.new.after = record {
      before = c.join_place.new.before;
      width = c.in_err-join_place.ensures.rows.1 ∙ ap (λ (l : LevelRows). l.width) before;
      rows = c.in_err-join_place.ensures.rows.0 ∙ ap (λ (l : LevelRows). l.rows) before;
      filed = c.in_err-join_place.ensures.filed;
      is = both_set levels front back c.args.number c.join_place.new.before c.join_place.new.after c.split_at_mut-front.ensures.value c.split_at_mut-front.ensures.front_len c.requires.some;
    } in
    rw out.1 (c.join_place.new.after, begun, part)

pub returns-clause-ok : goal.returns-clause-ok
returns-clause-ok g c =
    let stage = c.args.stage.now in
    let came = stage.arrivals.now.came in
    let places = stage.arrivals.now.places in
    let levels = c.args.levels.now in
    let front = c.split_at_mut-front.result.0.now in
    let back = c.split_at_mut-front.result.1.now in
    let before : get_or front (c.args.number - 1) c.index-front-number.result ≡ level_at levels (c.args.number - 1) =
    front_at levels front back c.args.number c.index-front-number.result c.split_at_mut-front.ensures.value c.split_at_mut-front.ensures.front_len c.requires.some in
    let after : get_or back 0 c.index-back-0.result ≡ level_at levels c.args.number = back_at levels front back c.args.number c.index-back-0.result c.split_at_mut-front.ensures.value c.split_at_mut-front.ensures.front_len c.requires.number in
    let rows_made : List (List ℕ) → List (List ℕ) = λ rows. map (with_place c.args.place) (joined (only stage.join.now) came places c.args.place rows) in
    let end : LevelRows = with_rows stage.next.now came (level_at levels c.args.number) (rows_made (level_at levels (c.args.number - 1)).rows) in
    let now : c.join_place.new.after ≡ end =
    c.in_ok-join_place.ensures.ok
    ∙ ap (λ (l : LevelRows). with_rows stage.next.now came l (rows_made (get_or front (c.args.number - 1) c.index-front-number.result).rows)) after
    ∙ ap (λ (l : LevelRows). with_rows stage.next.now came (level_at levels c.args.number) (rows_made l.rows)) before in
    record {
      before = c.join_place.new.before;
      width = c.in_ok-join_place.ensures.rows.1 ∙ ap (λ (l : LevelRows). l.width) before;
      rows = c.in_ok-join_place.ensures.rows.0 ∙ ap (λ (l : LevelRows). l.rows) before;
      filed = c.in_ok-join_place.ensures.filed;
      is = both_set levels front back c.args.number c.join_place.new.before c.join_place.new.after c.split_at_mut-front.ensures.value c.split_at_mut-front.ensures.front_len c.requires.some
          ∙ ap (set (set levels (c.args.number - 1) c.join_place.new.before) c.args.number) now;
    }
