-- One action more.
use Rattle.std.proofs.Common.{◌+◌, drop, ◌∙◌, ap}
use Rattle.commit_journal.specs.Room.{room_plus}
use Rattle.commit_journal.specs.ProgramRoom.{room_of_rule}
use Rattle.commit_journal.proofs.ProgramRoomLemmas.{room_of_actions, room_of_actions-next}
use Rattle.commit_journal.proofs.program_room.room_of_rule.Goals as goal

pub loop-action-preserved : goal.loop-action-preserved
loop-action-preserved c =
    let width = c.args.width in
    let actions = c.as_slice-actions.result.now in
    let at = c.loop-action.action-index in
    ap (λ room. room_plus room (room_of_actions width (drop (at + 1) actions))) c.in_ok-room.ensures
    ∙ room_of_actions-next width actions at c.action-item.result c.loop-action.room c.room_of_action.result (room_of_rule width c.args.rule.now) c.loop-action-test.true c.action-item.is c.room_of_action.ensures c.loop-action.invariant
