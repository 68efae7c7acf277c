-- One number more.
use Rattle.std.proofs.Common.{◌≡◌, ℕ, ◌<◌, ◌∷◌, [], ◌++◌, List, ap, arith, length, map, reverse, subst, sym, ◌∙◌}
use Rattle.std.specs.List.{AllByRecursion}
use Rattle.std.proofs.lemmas.Result.{err_from_is_err_and}
use Rattle.hash_buckets.specs.Buckets.{numbers_of}
use Rattle.match_network.specs.Filed.{LevelRows}
use Rattle.match_network.specs.Joining.{taken}
use Rattle.match_network.specs.Filed.{row_at}
use Rattle.alpha_memory.specs.Times.{times}
use Rattle.match_network.specs.Tried.{tries}
use Rattle.match_network.specs.SoFar.{IsPart, IsSoFar}
use Rattle.match_network.proofs.SoFarLemmas.{Each-bucket, so_far_all, so_far_next, so_far_none, taken-cons}
use Rattle.match_network.proofs.stage.take_place_in.Goals as goal

pub loop-number-init : goal.loop-number-init
loop-number-init g c =
    let stage = c.args.stage.now in
    let came = stage.arrivals.now.came in
    let all = reverse (numbers_of c.args.before.now.entries c.args.hash) in
    let whole : c.into_iter-number-iterator.result ≡ all = c.into_iter-number-iterator.ensures.into_iter_gives ∙ c.bucket-number-items.ensures in
    record {
      so_far = subst (λ (left : List ℕ). IsSoFar stage.next.now came c.args.after.now c.args.after.now (taken stage.join.now came c.args.place c.args.before.now.rows all) (taken stage.join.now came c.args.place c.args.before.now.rows left)) (sym whole) (so_far_none stage.next.now came c.args.after.now (taken stage.join.now came c.args.place c.args.before.now.rows all));
      within = subst (λ (left : List ℕ). AllByRecursion (λ n. n < length c.args.before.now.rows) left) (sym whole) (Each-bucket (λ n. n < length c.args.before.now.rows) c.args.before.now.entries c.args.hash c.requires.numbered);
      width = c.requires.width;
      steps = omega (arith, ap (λ (left : List ℕ). times (tries stage.join.now came c.args.place) (map (row_at c.args.before.now.rows) left)) whole);
    }

pub take_place-requires-clause-number : goal.take_place-requires-clause-number
take_place-requires-clause-number g c = (subst (λ (left : List ℕ). AllByRecursion (λ n. n < length c.args.before.now.rows) left) c.in-Some.ensures.steps c.loop-number.invariant.within).0

pub take_place-requires-clause-width : goal.take_place-requires-clause-width
take_place-requires-clause-width g c = c.loop-number.invariant.width

pub loop-number-preserved : goal.loop-number-preserved
loop-number-preserved g c =
    let stage = c.args.stage.now in
    let came = stage.arrivals.now.came in
    let all = reverse (numbers_of c.args.before.now.entries c.args.hash) in
    let l = c.loop-number in
    let left = c.next.new.self in
    let split : taken stage.join.now came c.args.place c.args.before.now.rows l.number-iterator ≡ taken stage.join.now came c.args.place c.args.before.now.rows (c.in-Some.number ∷ []) ++ taken stage.join.now came c.args.place c.args.before.now.rows left =
    ap (taken stage.join.now came c.args.place c.args.before.now.rows) c.in-Some.ensures.steps ∙ taken-cons stage.join.now came c.args.place c.args.before.now.rows c.in-Some.number left in
    let before = subst (λ (rows : List (List ℕ)). IsSoFar stage.next.now came c.args.after.now l.after (taken stage.join.now came c.args.place c.args.before.now.rows all) rows) split l.invariant.so_far in
    record {
      so_far = so_far_next stage.next.now came c.args.after.now l.after c.take_place.new.after (taken stage.join.now came c.args.place c.args.before.now.rows all) (taken stage.join.now came c.args.place c.args.before.now.rows (c.in-Some.number ∷ [])) (taken stage.join.now came c.args.place c.args.before.now.rows left) before c.in_ok-take_place.ensures.ok;
      within = (subst (λ (rest : List ℕ). AllByRecursion (λ n. n < length c.args.before.now.rows) rest) c.in-Some.ensures.steps l.invariant.within).1;
      width = l.invariant.width ∙ sym (ap (λ (level : LevelRows). level.width) c.in_ok-take_place.ensures.ok);
      steps = omega (arith, ap (λ (left : List ℕ). times (tries stage.join.now came c.args.place) (map (row_at c.args.before.now.rows) left)) c.in-Some.ensures.steps, c.in_ok-take_place.ensures.steps, l.invariant.steps);
    }

pub returns-in_err-take_place-clause-err : goal.returns-in_err-take_place-clause-err
returns-in_err-take_place-clause-err g c =
    let stage = c.args.stage.now in
    let came = stage.arrivals.now.came in
    let all = reverse (numbers_of c.args.before.now.entries c.args.hash) in
    let l = c.loop-number in
    let part : IsPart stage.next.now came c.args.after.now c.take_place.new.after (taken stage.join.now came c.args.place c.args.before.now.rows all) =
    subst (λ (level : LevelRows). IsPart stage.next.now came c.args.after.now level (taken stage.join.now came c.args.place c.args.before.now.rows all)) (sym c.in_err-take_place.ensures.err) (taken stage.join.now came c.args.place c.args.before.now.rows l.number-iterator, l.invariant.so_far) in
    let out = err_from_is_err_and c.from_residual.result c.from_residual.ensures.1 in
    rw out.1 part

pub returns-clause-ok : goal.returns-clause-ok
returns-clause-ok g c =
    let stage = c.args.stage.now in
    let came = stage.arrivals.now.came in
    let all = reverse (numbers_of c.args.before.now.entries c.args.hash) in
    let l = c.loop-number in
    so_far_all stage.next.now came c.args.after.now l.after (taken stage.join.now came c.args.place c.args.before.now.rows all)
    (subst (λ (left : List ℕ). IsSoFar stage.next.now came c.args.after.now l.after (taken stage.join.now came c.args.place c.args.before.now.rows all) (taken stage.join.now came c.args.place c.args.before.now.rows left)) c.in-None.ensures.steps.0 l.invariant.so_far)
