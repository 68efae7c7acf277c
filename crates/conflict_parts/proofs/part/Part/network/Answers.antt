-- Who is marked stands, and no more stand than there are.
use Rattle.std.proofs.Common.{◌≡◌, ℕ, ◌<◌, List, [], true, false, Option, None, Some, arith, length, refl, slice_index_or, subst}
use Rattle.std.specs.Option.{option_map_or}
use Rattle.std.proofs.lemmas.Option.{slice_get_within}
use Rattle.conflict_parts.specs.declared.standing.Standing.{Standing}
use Rattle.conflict_parts.specs.Part.{Part, full_rows}
use Rattle.conflict_parts.specs.Standings.{has_fired, is_marked, standing_at}
use Rattle.conflict_parts.proofs.part.Part.network.Goals as goal

marked_within : (ss : List (List Standing)) (rule row : ℕ) (o : Option Standing) → standing_at ss rule row ≡ o → option_map_or has_fired o false ≡ true → row < length (slice_index_or ss rule [])
marked_within ss rule row None is marked = absurd (let wrong : ⊥ = cc in wrong)
marked_within ss rule row (Some standing) is marked = slice_get_within (slice_index_or ss rule []) row standing is

pub returns-clause-marks : goal.returns-clause-marks
returns-clause-marks c =
    let inside = c.self.inside in
    subst (λ (p : Part). (rule row : ℕ) → is_marked p.standings rule row ≡ true → row < length (full_rows p.network.rules rule)) c.self.view_is
    (λ rule row marked. omega (arith, marked_within inside.standings rule row (standing_at inside.standings rule row) refl marked, c.self.invariant.no_more rule))
