-- The last of the queue is a candidate, or is dropped.
use Rattle.std.proofs.Common.{◌≡◌, ◌-◌, List, None, Some, length, rules, slice_get, subst, ◌∙◌}
use Rattle.conflict_parts.specs.declared.standing.RowId.{RowId}
use Rattle.conflict_parts.specs.Part.{IsPart}
use Rattle.conflict_parts.proofs.PartLemmas.{part_dropped, part_none}
use Rattle.conflict_parts.proofs.QueueLemmas.{ends_nowhere, ends_with}
use Rattle.conflict_parts.proofs.candidates.next_free.Goals as goal

pub returns-in_err-judge-clause-part : goal.returns-in_err-judge-clause-part
returns-in_err-judge-clause-part g c = c.in_err-judge.ensures.part c.loop-last.queue.items c.loop-last.invariant.part

pub returns-then-branch-clause-part : goal.returns-then-branch-clause-part
returns-then-branch-clause-part g c = c.in_ok-judge.ensures.part c.loop-last.queue.items c.loop-last.invariant.part

pub loop-last-preserved : goal.loop-last-preserved
loop-last-preserved g c =
    let l = c.loop-last in
    let judged = c.in_ok-judge.ensures in
    let at : slice_get l.queue.items (length l.queue.items - 1) ≡ Some c.in-Some.last = search rules in
    let whole = ends_with l.queue.items c.pop.new.self.items l.queue.len c.in-Some.last l.queue.ok.0 c.pop.ensures.rest at in
    let part = subst (λ (queue : List RowId). IsPart c.judge.new.network c.judge.new.standings queue c.judge.new.waiters) whole (judged.part l.queue.items l.invariant.part) in
    record {
      part = part_dropped c.judge.new.network c.judge.new.standings c.pop.new.self.items c.in-Some.last c.judge.new.waiters part (judged.no (search rules));
      network = judged.network ∙ l.invariant.network;
      marks = λ rule row. judged.marks rule row ∙ l.invariant.marks rule row;
    }

pub returns-clause-none : goal.returns-clause-none
returns-clause-none g c = λ same.
    let l = c.loop-last in
    let at : slice_get l.queue.items (length l.queue.items - 1) ≡ None = search rules in
    part_none l.network l.standings l.waiters (subst (λ (queue : List RowId). IsPart l.network l.standings queue l.waiters) (ends_nowhere l.queue.items at) l.invariant.part)
