-- The next full match is in the queue first.
use Rattle.std.proofs.Common.{refl, rules}
use Rattle.conflict_parts.proofs.QueueLemmas.{opened_either}
use Rattle.conflict_parts.proofs.queue.open_one.Goals as goal

pub returns-clause-opened : goal.returns-clause-opened
returns-clause-opened c =
    opened_either c.push-2.result c.args.standings.now c.push-2.new.self c.args.queue.now.items c.push.new.self.items c.args.rule (record { rule = c.args.rule; row = c.count-row.result }) c.requires refl c.count-row.ensures (search rules) c.push-2.ensures.ok c.push-2.ensures.err
