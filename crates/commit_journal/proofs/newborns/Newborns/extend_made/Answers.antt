-- One change more.
use Rattle.std.proofs.Common.{◌+◌, ◌++◌, ◌∷◌, [], ◌∙◌, ap, arith, drop, refl, sym, append_assoc}
use Rattle.rule_base.specs.Step.{born}
use Rattle.rhs_actions.specs.EffectViews.{change_in}
use Rattle.commit_journal.proofs.BornLemmas.{Splits-drop}
use Rattle.commit_journal.proofs.newborns.Newborns.extend_made.Goals as goal

pub push_made-count-requires-clause-below : goal.push_made-count-requires-clause-below
push_made-count-requires-clause-below g c =
    let left = Splits-drop c.loop-at.self.next c.args.effect.now.changes c.loop-at.at (change_in c.change.result) _ c.change.ensures refl in
    omega (arith, left.count, c.loop-at.invariant.next, c.requires.below)

pub push_made-count-requires-clause-room : goal.push_made-count-requires-clause-room
push_made-count-requires-clause-room g c =
    let left = Splits-drop c.loop-at.self.next c.args.effect.now.changes c.loop-at.at (change_in c.change.result) _ c.change.ensures refl in
    (omega (arith, left.count, c.loop-at.invariant.more_elements, c.requires.room.0), omega (arith, left.values, c.loop-at.invariant.more_values, c.requires.room.1))

pub overflow_add-count : goal.overflow_add-count
overflow_add-count g c =
    let left = Splits-drop c.loop-at.self.next c.args.effect.now.changes c.loop-at.at (change_in c.change.result) _ c.change.ensures refl in
    omega (arith, left.values, c.loop-at.invariant.count, c.push_made-count.ensures.count, c.requires.few)

pub loop-at-preserved : goal.loop-at-preserved
loop-at-preserved g c =
    let old = c.loop-at.self in
    let new = c.push_made-count.new.self in
    let change = change_in c.change.result in
    let pushed = c.push_made-count.ensures in
    let rest = born new.next (drop (c.loop-at.at + 1) c.args.effect.now.changes) in
    let left = Splits-drop old.next c.args.effect.now.changes c.loop-at.at change new.next c.change.ensures pushed.next in
    record {
      elements = ap (λ es. es ++ rest) pushed.elements ∙ append_assoc old.elements (born old.next (change ∷ [])) rest ∙ ap (λ es. old.elements ++ es) (sym left.elements) ∙ c.loop-at.invariant.elements;
      next = omega (arith, left.count, pushed.next, c.loop-at.invariant.next);
      count = omega (arith, left.values, pushed.count, c.loop-at.invariant.count);
      more_elements = omega (arith, left.count, pushed.left.0, c.loop-at.invariant.more_elements);
      more_values = omega (arith, left.values, pushed.left.1, c.loop-at.invariant.more_values);
      steps = omega (arith, c.tick.ensures, c.loop-at.invariant.steps);
    }
