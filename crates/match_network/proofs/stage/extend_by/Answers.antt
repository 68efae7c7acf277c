-- One place more.
use Rattle.std.proofs.Common.{◌≡◌, ℕ, ◌<◌, ◌∷◌, [], ◌++◌, List, ap, arith, length, reverse, subst, sym, ◌∙◌}
use Rattle.std.specs.List.{AllByRecursion}
use Rattle.std.proofs.lemmas.Result.{err_from_is_err_and}
use Rattle.hash_buckets.specs.Buckets.{numbers_of}
use Rattle.match_network.specs.Filed.{LevelRows}
use Rattle.match_network.specs.Joining.{extended}
use Rattle.alpha_memory.specs.Times.{times}
use Rattle.match_network.specs.Tried.{has_key}
use Rattle.match_network.specs.SoFar.{IsPart, IsSoFar}
use Rattle.match_network.proofs.SoFarLemmas.{Each-bucket, so_far_all, so_far_next, so_far_none, extended-cons}
use Rattle.match_network.proofs.stage.extend_by.Goals as goal

pub loop-place-init : goal.loop-place-init
loop-place-init g c =
    let stage = c.args.stage.now in
    let came = stage.arrivals.now.came in
    let all = reverse (numbers_of c.args.store.now.entries c.args.hash) in
    let whole : c.into_iter-place-iterator.result ≡ all = c.into_iter-place-iterator.ensures.into_iter_gives ∙ c.bucket-place-items.ensures.places in
    record {
      so_far = subst (λ (left : List ℕ). IsSoFar stage.next.now came c.args.after.now c.args.after.now (extended stage.join.now came c.args.row.now all) (extended stage.join.now came c.args.row.now left)) (sym whole) (so_far_none stage.next.now came c.args.after.now (extended stage.join.now came c.args.row.now all));
      within = subst (λ (left : List ℕ). AllByRecursion (λ n. n < length c.args.stage.now.arrivals.now.came) left) (sym whole) (Each-bucket (λ n. n < length c.args.stage.now.arrivals.now.came) c.args.store.now.entries c.args.hash c.requires.have_come);
      width = c.requires.width;
      steps = omega (arith, ap (times (has_key stage.join.now came c.args.row.now)) whole);
    }

pub extend-requires-clause-place : goal.extend-requires-clause-place
extend-requires-clause-place g c = (subst (λ (left : List ℕ). AllByRecursion (λ n. n < length c.args.stage.now.arrivals.now.came) left) c.in-Some.ensures.steps c.loop-place.invariant.within).0

pub extend-requires-clause-width : goal.extend-requires-clause-width
extend-requires-clause-width g c = c.loop-place.invariant.width

pub loop-place-preserved : goal.loop-place-preserved
loop-place-preserved g c =
    let stage = c.args.stage.now in
    let came = stage.arrivals.now.came in
    let all = reverse (numbers_of c.args.store.now.entries c.args.hash) in
    let l = c.loop-place in
    let left = c.next.new.self in
    let split : extended stage.join.now came c.args.row.now l.place-iterator ≡ extended stage.join.now came c.args.row.now (c.in-Some.place ∷ []) ++ extended stage.join.now came c.args.row.now left =
    ap (extended stage.join.now came c.args.row.now) c.in-Some.ensures.steps ∙ extended-cons stage.join.now came c.args.row.now c.in-Some.place left in
    let before = subst (λ (rows : List (List ℕ)). IsSoFar stage.next.now came c.args.after.now l.after (extended stage.join.now came c.args.row.now all) rows) split l.invariant.so_far in
    record {
      so_far = so_far_next stage.next.now came c.args.after.now l.after c.extend.new.after (extended stage.join.now came c.args.row.now all) (extended stage.join.now came c.args.row.now (c.in-Some.place ∷ [])) (extended stage.join.now came c.args.row.now left) before c.in_ok-extend.ensures.ok;
      within = (subst (λ (rest : List ℕ). AllByRecursion (λ n. n < length c.args.stage.now.arrivals.now.came) rest) c.in-Some.ensures.steps l.invariant.within).1;
      width = l.invariant.width ∙ sym (ap (λ (level : LevelRows). level.width) c.in_ok-extend.ensures.ok);
      steps = omega (arith, ap (times (has_key stage.join.now came c.args.row.now)) c.in-Some.ensures.steps, c.in_ok-extend.ensures.steps, l.invariant.steps);
    }

pub returns-in_err-extend-clause-err : goal.returns-in_err-extend-clause-err
returns-in_err-extend-clause-err g c =
    let stage = c.args.stage.now in
    let came = stage.arrivals.now.came in
    let all = reverse (numbers_of c.args.store.now.entries c.args.hash) in
    let l = c.loop-place in
    let part : IsPart stage.next.now came c.args.after.now c.extend.new.after (extended stage.join.now came c.args.row.now all) =
    subst (λ (level : LevelRows). IsPart stage.next.now came c.args.after.now level (extended stage.join.now came c.args.row.now all)) (sym c.in_err-extend.ensures.err) (extended stage.join.now came c.args.row.now l.place-iterator, l.invariant.so_far) in
    let out = err_from_is_err_and c.from_residual.result c.from_residual.ensures.1 in
    rw out.1 part

pub returns-clause-ok : goal.returns-clause-ok
returns-clause-ok g c =
    let stage = c.args.stage.now in
    let came = stage.arrivals.now.came in
    let all = reverse (numbers_of c.args.store.now.entries c.args.hash) in
    let l = c.loop-place in
    so_far_all stage.next.now came c.args.after.now l.after (extended stage.join.now came c.args.row.now all)
    (subst (λ (left : List ℕ). IsSoFar stage.next.now came c.args.after.now l.after (extended stage.join.now came c.args.row.now all) (extended stage.join.now came c.args.row.now left)) c.in-None.ensures.steps.0 l.invariant.so_far)
