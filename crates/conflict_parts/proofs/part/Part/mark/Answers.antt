-- One is marked.
use Rattle.std.proofs.Common.{◌≡◌, ◌||◌, List, subst, sym}
use Rattle.conflict_parts.specs.declared.standing.RowId.{RowId}
use Rattle.conflict_parts.specs.declared.standing.Standing.{Standing}
use Rattle.conflict_parts.specs.Part.{IsLivingRow, IsPart, Part}
use Rattle.conflict_parts.specs.Queue.{same_row}
use Rattle.conflict_parts.specs.Standings.{is_marked}
use Rattle.conflict_parts.proofs.PartLemmas.{marks_marked, part_marked}
use Rattle.conflict_parts.proofs.part.Part.mark.Goals as goal

pub invariant_of-self : goal.invariant_of-self
invariant_of-self c =
    let inside = c.self.inside in
    subst (λ (ss : List (List Standing)). IsPart inside.network ss inside.queue.items inside.waiters) (sym c.set.ensures)
    (part_marked inside.network inside.standings inside.queue.items inside.waiters c.args.id c.self.invariant)

pub returns-clause-marks : goal.returns-clause-marks
returns-clause-marks c rule number =
    let inside = c.self.inside in
    let id : RowId = c.args.id in
    let lives = subst (λ (p : Part). IsLivingRow p.network id.rule id.row c.requires.0) (sym c.self.view_is) c.requires.1 in
    subst (λ (p : Part). is_marked c.set.new.self rule number ≡ (is_marked p.standings rule number || same_row rule number id)) c.self.view_is
    (subst (λ (ss : List (List Standing)). is_marked ss rule number ≡ (is_marked inside.standings rule number || same_row rule number id)) (sym c.set.ensures)
    (marks_marked inside.network inside.standings inside.queue.items inside.waiters id c.requires.0 c.self.invariant lives rule number))
