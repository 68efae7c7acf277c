-- One that something stands in the way of waits for it.
use Rattle.std.proofs.Common.{◌≡◌, List, ℕ, Some, refl, subst, sym, ◌∙◌}
use Rattle.match_network.specs.Network.{Network}
use Rattle.conflict_parts.specs.declared.standing.RowId.{RowId}
use Rattle.conflict_parts.specs.declared.standing.Standing.{Standing}
use Rattle.conflict_parts.specs.declared.standing.Standing.TheVariants.{Open, Waiting}
use Rattle.conflict_parts.specs.Part.{IsBlockedAt, IsLivingRow, IsPart}
use Rattle.conflict_parts.specs.Standings.{is_marked, standing_at, with_set}
use Rattle.conflict_parts.proofs.PartLemmas.{marks_waiting, part_waits, waiting-closed}
use Rattle.conflict_parts.proofs.RowLemmas.{row_within, rule_within, whole_is}
use Rattle.conflict_parts.proofs.candidates.judge.Goals as goal

pub blocker-requires-clause-rule : goal.blocker-requires-clause-rule
blocker-requires-clause-rule g c =
    let lives = c.if-not-lives.ensures.yes refl in
    rule_within c.args.network.now c.args.id.rule c.args.id.row lives.0 lives.1

pub blocker-requires-clause-row : goal.blocker-requires-clause-row
blocker-requires-clause-row g c kept at =
    let lives = c.if-not-lives.ensures.yes refl in
    row_within c.args.network.now c.args.id.rule c.args.id.row lives.0 lives.1 kept at

pub returns-in_ok-push-in-Some-clause-part : goal.returns-in_ok-push-in-Some-clause-part
returns-in_ok-push-in-Some-clause-part g c queue held =
    let network = c.args.network.now in
    let ss = c.args.standings.now in
    let waiters = c.args.waiters.now in
    let id : RowId = c.args.id in
    let place = c.in-Some.place in
    let blocked : (row : List ℕ) → IsLivingRow network id.rule id.row row → IsBlockedAt network id.rule row place = λ row lives. record {
      there = c.in-Some.ensures.there;
      stands = λ kept at. c.in-Some.ensures.blocks kept row (whole_is network id.rule id.row row lives kept at);
    } in
    subst (λ (n : Network). IsPart n c.set.new.self queue c.push.new.self) (sym c.blocker.ensures.same)
    (subst (λ (after : List (List Standing)). IsPart network after queue c.push.new.self) (sym c.set.ensures)
    (subst (λ (more : List (ℕ × RowId)). IsPart network (with_set ss id.rule id.row (Waiting place)) queue more) (sym c.in_ok-push-in-Some.ensures.ok)
    (part_waits network ss queue waiters id place blocked held)))

pub returns-in_ok-push-in-Some-clause-marks : goal.returns-in_ok-push-in-Some-clause-marks
returns-in_ok-push-in-Some-clause-marks g c rule row =
    let ss = c.args.standings.now in
    let id : RowId = c.args.id in
    let stood : standing_at ss id.rule id.row ≡ Some Open = sym c.at.ensures ∙ c.if-not-is_open.ensures.yes refl in
    subst (λ (after : List (List Standing)). is_marked after rule row ≡ is_marked ss rule row) (sym c.set.ensures) (marks_waiting ss id c.in-Some.place stood rule row)

pub returns-in_ok-push-in-Some-clause-no : goal.returns-in_ok-push-in-Some-clause-no
returns-in_ok-push-in-Some-clause-no g c = λ same row lives at.
    let id : RowId = c.args.id in
    waiting-closed c.args.standings.now id c.in-Some.place (subst (λ (after : List (List Standing)). standing_at after id.rule id.row ≡ Some Open) c.set.ensures at)
