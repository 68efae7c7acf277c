-- One is woken.
use Rattle.std.proofs.Common.{◌≡◌, ◌++◌, ◌∷◌, [], List, Some, refl, subst, sym, ◌∙◌, rules}
use Rattle.conflict_parts.specs.declared.standing.RowId.{RowId}
use Rattle.conflict_parts.specs.declared.standing.Standing.{Standing}
use Rattle.conflict_parts.specs.declared.standing.Standing.TheVariants.{Open, Waiting}
use Rattle.conflict_parts.specs.Queue.{IsOpened}
use Rattle.conflict_parts.specs.Standings.{standing_at, with_set}
use Rattle.conflict_parts.proofs.QueueLemmas.{opened_woken, woken-now}
use Rattle.conflict_parts.proofs.queue.wake_one.Goals as goal

pub returns-in_ok-push-clause-opened : goal.returns-in_ok-push-clause-opened
returns-in_ok-push-clause-opened c =
    let ss = c.args.standings.now in
    let id : RowId = c.args.id in
    let pushed : c.push.new.self.items ≡ c.args.queue.now.items ++ id ∷ [] = search rules in
    let waits : standing_at ss id.rule id.row ≡ Some (Waiting c.args.place) = sym c.at.ensures ∙ c.if-waits_at.ensures.yes refl in
    subst (λ (after : List (List Standing)). IsOpened ss c.args.queue.now.items after c.push.new.self.items) (sym c.set.ensures)
    (subst (λ (queue : List RowId). IsOpened ss c.args.queue.now.items (with_set ss id.rule id.row Open) queue) (sym pushed) (opened_woken ss c.args.queue.now.items id c.args.place waits))

pub returns-in_ok-push-clause-ok : goal.returns-in_ok-push-clause-ok
returns-in_ok-push-clause-ok c = λ wrong.
    let ss = c.args.standings.now in
    let id : RowId = c.args.id in
    let waits : standing_at ss id.rule id.row ≡ Some (Waiting c.args.place) = sym c.at.ensures ∙ c.if-waits_at.ensures.yes refl in
    woken-now ss id c.args.place waits (subst (λ (after : List (List Standing)). standing_at after id.rule id.row ≡ Some (Waiting c.args.place)) c.set.ensures wrong)
