-- Those of the bucket.
use Rattle.std.proofs.Common.{ℕ, List, ap, reverse, ◌∙◌}
use Rattle.conflict_parts.specs.declared.standing.RowId.{RowId}
use Rattle.conflict_parts.specs.Waiters.{waiters_at}
use Rattle.conflict_parts.proofs.WaiterLemmas.{walk_whole, walk_within}
use Rattle.conflict_parts.proofs.waiters.Waiters.at.Goals as goal

pub invariant_of-result : goal.invariant_of-result
invariant_of-result c =
    let inside = c.self.inside in
    walk_within c.as_slice.result.now inside.ids.items inside.places.entries c.from.result c.bucket.result c.as_slice.ensures.value c.bucket.ensures.numbers c.self.invariant

pub returns : goal.returns
returns c =
    let inside = c.self.inside in
    walk_whole c.as_slice.result.now inside.ids.items inside.places.entries c.from.result c.bucket.result c.as_slice.ensures.value c.bucket.ensures.numbers
    ∙ ap (λ (ws : List (ℕ × RowId)). reverse (waiters_at ws c.from.result)) c.self.view_is
    ∙ ap (λ place. reverse (waiters_at c.args.self.now place)) c.from.ensures
