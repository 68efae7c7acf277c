-- Each piece goes on with the file, and an empty one ends it.
use Rattle.std.proofs.Common.{◌≡◌, ◌+◌, take, length, vec_len, ap, ◌∙◌, arith}
use Rattle.std.proofs.lemmas.List.{length-take}
use Rattle.std.proofs.lemmas.Grind.{common_steps}
use Rattle.ops_text.proofs.FilesLemmas.{front_is_whole, front_within, front_grows}
use Rattle.ops_text.proofs.shelf.read_all.Goals as goal

pub returns-then-count-eq0-clause-bytes : goal.returns-then-count-eq0-clause-bytes
returns-then-count-eq0-clause-bytes g c = λ file told.
    let told_now = ap (λ tells. tells c.args.name.now) c.loop-shelf.invariant.same ∙ told in
    front_is_whole _ file _ (c.loop-shelf.invariant.front file told) (rw (← c.len-in-loop-shelf.ensures) (c.in-Ok.ensures.end file told_now c.if-count-eq0.true (omega arith)))

pub loop-shelf-preserved : goal.loop-shelf-preserved
loop-shelf-preserved g c = record {
  front = λ file told.
      let told_now = ap (λ tells. tells c.args.name.now) c.loop-shelf.invariant.same ∙ told in
      let read : take c.in-Ok.count c.deref.result.now ≡ take c.in-Ok.count c.piece.new.into = grind (arith, common_steps) in
      let piece = c.in-Ok.ensures.bytes file told_now in
      let long : length (take c.in-Ok.count c.deref.result.now) ≡ c.in-Ok.count = omega (arith, length-take c.in-Ok.count c.deref.result.now, c.in-Ok.ensures.within) in
      let place : vec_len c.extend_from_slice.new.self ≡ c.len-in-loop-shelf.result + c.in-Ok.count = omega (arith, c.in_ok-extend_from_slice.ensures.len) in
      let front : c.loop-shelf.bytes.items ≡ take c.len-in-loop-shelf.result file = rw c.len-in-loop-shelf.ensures (c.loop-shelf.invariant.front file told) in
      rw (c.in_ok-extend_from_slice.ensures.items, place) (front_grows _ _ file _ _ front (read ∙ piece));
  room = omega arith;
  same = c.in-Ok.ensures.same ∙ c.loop-shelf.invariant.same;
  counted = c.in-Ok.ensures.passed ∙ c.loop-shelf.invariant.counted;
  later = λ other. omega (arith, c.in-Ok.ensures.later other, c.loop-shelf.invariant.later other);
}

pub returns-clause-too_long : goal.returns-clause-too_long
returns-clause-too_long g c = λ _ file told. omega (arith, front_within _ file _ (c.loop-shelf.invariant.front file told) c.loop-shelf.bytes.ok.0)
