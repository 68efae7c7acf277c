-- What `retain` keeps is what a filter leaves.
use Rattle.std.proofs.Common.{rules}
use Rattle.std.proofs.lemmas.Fn.{filter_same}
use Rattle.working_memory.specs.Memory.{is_here}
use Rattle.working_memory.proofs.memory.keep_those_here.Goals as goal

pub returns-clause-kept : goal.returns-clause-kept
returns-clause-kept c =
    filter_same _ (is_here c.args.here.now) _ (λ x b f' k. search rules) c.args.slots.now.items c.retain.new.self.items c.retain.ensures.filtered
