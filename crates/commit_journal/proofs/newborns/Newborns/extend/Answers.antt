-- One element more.
use Rattle.std.proofs.Common.{◌≡◌, ◌+◌, ◌<◌, ◌++◌, ◌∷◌, [], ◌∙◌, ap, arith, drop, length, rules, subst, sym, take, append_assoc}
use Rattle.rule_base.specs.Memory.{tags_of, value_count}
use Rattle.rule_base.specs.Opening.{AreConsecutive}
use Rattle.rule_base.specs.Views.{element_in}
use Rattle.rule_base.proofs.StepByStepLemmas.{drop_next, take_next}
use Rattle.commit_journal.proofs.NumberedLemmas.{value_count-cons}
use Rattle.commit_journal.proofs.newborns.Newborns.extend.Goals as goal

pub push-requires-clause-tag : goal.push-requires-clause-tag
push-requires-clause-tag c =
    (subst (λ es. AreConsecutive c.loop-at.self.next (tags_of es)) (drop_next c.args.born.now c.loop-at.at (element_in c.at-element.result) c.at-element.ensures) c.loop-at.invariant.tags).0

pub push-requires-clause-room : goal.push-requires-clause-room
push-requires-clause-room c =
    let rest = drop (c.loop-at.at + 1) c.args.born.now in
    let size = length c.at-element.result.values.now in
    let left : value_count (drop c.loop-at.at c.args.born.now) ≡ size + value_count rest = ap value_count (drop_next c.args.born.now c.loop-at.at (element_in c.at-element.result) c.at-element.ensures) ∙ value_count-cons (element_in c.at-element.result) rest in
    let in_all : c.loop-at.count + (size + value_count rest) ≡ value_count c.args.born.now = subst (λ n. c.loop-at.count + n ≡ value_count c.args.born.now) left c.loop-at.invariant.count in
    let here : c.loop-at.at < length c.args.born.now = search rules in
    (omega (arith, here, c.loop-at.invariant.more_elements, c.requires.room.0), omega (arith, in_all, c.loop-at.invariant.more_values, c.requires.room.1))

pub overflow_add-count : goal.overflow_add-count
overflow_add-count c =
    let rest = drop (c.loop-at.at + 1) c.args.born.now in
    let size = length c.at-element.result.values.now in
    let left : value_count (drop c.loop-at.at c.args.born.now) ≡ size + value_count rest = ap value_count (drop_next c.args.born.now c.loop-at.at (element_in c.at-element.result) c.at-element.ensures) ∙ value_count-cons (element_in c.at-element.result) rest in
    let in_all : c.loop-at.count + (size + value_count rest) ≡ value_count c.args.born.now = subst (λ n. c.loop-at.count + n ≡ value_count c.args.born.now) left c.loop-at.invariant.count in
    omega (arith, in_all, c.requires.few)

pub loop-at-preserved : goal.loop-at-preserved
loop-at-preserved c =
    let born = c.args.born.now in
    let at = c.loop-at.at in
    let e = element_in c.at-element.result in
    let rest = drop (at + 1) born in
    let size = length c.at-element.result.values.now in
    let next_is : drop at born ≡ e ∷ rest = drop_next born at e c.at-element.ensures in
    let left : value_count (drop at born) ≡ size + value_count rest = ap value_count next_is ∙ value_count-cons e rest in
    let in_all : c.loop-at.count + (size + value_count rest) ≡ value_count born = subst (λ n. c.loop-at.count + n ≡ value_count born) left c.loop-at.invariant.count in
    record {
      elements = c.push.ensures.elements ∙ ap (λ es. es ++ e ∷ []) c.loop-at.invariant.elements ∙ append_assoc c.args.self.now.elements (take at born) (e ∷ []) ∙ ap (λ es. c.args.self.now.elements ++ es) (sym (take_next born at e c.at-element.ensures));
      next = omega (arith, c.push.ensures.next, c.loop-at.invariant.next);
      tags = subst (λ n. AreConsecutive n (tags_of rest)) (sym c.push.ensures.next) (subst (λ es. AreConsecutive c.loop-at.self.next (tags_of es)) next_is c.loop-at.invariant.tags).1;
      count = omega (arith, in_all);
      more_elements = omega (arith, c.push.ensures.left.0, c.loop-at.invariant.more_elements);
      more_values = omega (arith, c.push.ensures.left.1, c.loop-at.invariant.more_values);
    }
