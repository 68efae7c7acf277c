-- One more waits.
use Rattle.std.proofs.Common.{◌≡◌, ◌++◌, ◌∷◌, [], ℕ, List, ap, length, ◌∙◌, rules}
use Rattle.conflict_parts.specs.declared.standing.RowId.{RowId}
use Rattle.conflict_parts.specs.Waiters.{waiters_of}
use Rattle.conflict_parts.proofs.WaiterLemmas.{waiters_of-push}
use Rattle.conflict_parts.proofs.waiters.Waiters.push.Goals as goal

pub returns-clause-ok : goal.returns-clause-ok
returns-clause-ok c =
    let ids = c.self.inside.ids.items in
    let entries = c.self.inside.places.entries in
    let filed : c.push.new.self.entries ≡ entries ++ (c.args.place, length ids) ∷ [] = search rules in
    let pushed : c.push_reserved.new.self.items ≡ ids ++ c.args.id ∷ [] = search rules in
    ap (λ (es : List (ℕ × ℕ)). waiters_of c.push_reserved.new.self.items es) filed
    ∙ ap (λ (xs : List RowId). waiters_of xs (entries ++ (c.args.place, length ids) ∷ [])) pushed
    ∙ waiters_of-push ids entries c.args.place c.args.id c.self.invariant
    ∙ ap (λ (ws : List (ℕ × RowId)). ws ++ (c.args.place, c.args.id) ∷ []) c.self.view_is
