-- One part more.
use Rattle.interference.specs.Parts.{part}
use Rattle.interference.proofs.RuleLemmas.{map-range_push}
use Rattle.interference.proofs.sharing.parts.Goals as goal

pub loop-number-preserved : goal.loop-number-preserved
loop-number-preserved c =
    map-range_push (part c.len-rules.result c.args.n) c.loop-number.number c.loop-number.all.items c.push.new.self.items c.in_ok-part.field-0 c.in_ok-push.ensures.items c.loop-number.invariant c.in_ok-part.ensures
