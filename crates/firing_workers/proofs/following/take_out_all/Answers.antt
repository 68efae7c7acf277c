-- One more is gone.
use Rattle.std.proofs.Common.{ℕ, List, arith, slice_index_or, subst, sym, take}
use Rattle.std.proofs.lemmas.List.{take_more}
use Rattle.firing_workers.proofs.TakingLemmas.{HasTakenOut, taken_out-none, taken_out-one}
use Rattle.firing_workers.proofs.following.take_out_all.Goals as goal

pub loop-tag-init : goal.loop-tag-init
loop-tag-init c = taken_out-none c.args.part.now

pub loop-tag-preserved : goal.loop-tag-preserved
loop-tag-preserved c =
    let tags : List ℕ = c.args.tags.now in
    let i = c.loop-tag.tag-index in
    let told = c.in_ok-take_out.ensures in
    subst (λ (done : List ℕ). HasTakenOut done c.args.part.now c.take_out.new.part) (sym (take_more tags i 0 (omega (arith, c.loop-tag-test.true))))
    (taken_out-one (take i tags) (slice_index_or tags i 0) c.args.part.now c.loop-tag.part c.take_out.new.part c.loop-tag.invariant (record { came = told.came; follows = told.follows }))
