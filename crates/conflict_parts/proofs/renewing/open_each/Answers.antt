-- One more stands open.
use Rattle.std.proofs.Common.{◌+◌, List, [], ap, length, slice_index_or, take, ◌∙◌}
use Rattle.conflict_parts.specs.declared.standing.RowId.{RowId}
use Rattle.conflict_parts.specs.declared.standing.Standing.{Standing}
use Rattle.conflict_parts.specs.declared.standing.Standing.TheVariants.{Open}
use Rattle.conflict_parts.proofs.RenewingLemmas.{each_open, take-one}
use Rattle.conflict_parts.proofs.StandingLemmas.{length-with_set, lengths-with_set}
use Rattle.conflict_parts.proofs.renewing.open_each.Goals as goal

pub loop-id-preserved : goal.loop-id-preserved
loop-id-preserved c =
    let l = c.loop-id in
    let ids = c.args.ids.now in
    let none : RowId = record { rule = 0; row = 0 } in
    let id : RowId = slice_index_or ids l.id-index none in
    record {
      count = ap (λ (ss : List (List Standing)). length ss) c.set.ensures ∙ length-with_set l.standings id.rule id.row Open ∙ l.invariant.count;
      lengths = λ rule. ap (λ (ss : List (List Standing)). length (slice_index_or ss rule [])) c.set.ensures ∙ lengths-with_set l.standings id.rule id.row Open rule ∙ l.invariant.lengths rule;
      each = each_open c.args.standings.now l.standings c.set.new.self (take l.id-index ids) (take (l.id-index + 1) ids) id (take-one ids l.id-index none c.loop-id-test.true) c.set.ensures l.invariant.each;
    }
