-- A place is there where its flag says so.
use Rattle.std.proofs.Common.{◌≡◌, ◌∙◌, rules, subst, sym}
use Rattle.working_memory.specs.Memory.{Places, is_here}
use Rattle.working_memory.proofs.KeptLemmas.{kept_has}
use Rattle.rule_base.specs.Numbers.{has_number}
use Rattle.working_memory.proofs.memory.Memory.has.Goals as goal

pub returns : goal.returns
returns c =
    let inside = c.self.inside in
    let flag : c.is_here.result ≡ is_here inside.here.items c.args.place = search rules in
    flag ∙ subst (λ (m : Places). is_here inside.here.items c.args.place ≡ has_number m.places c.args.place) c.self.view_is
    (sym (kept_has inside.slots.items inside.here.items inside.living c.args.place c.self.invariant.0))
