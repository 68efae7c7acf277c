-- What `retain` keeps is what a filter leaves.
use Rattle.std.proofs.Common.{◌≡◌, ℕ, List, rules, subst}
use Rattle.std.specs.List.{filter}
use Rattle.std.proofs.lemmas.Fn.{filter_same}
use Rattle.rule_base.specs.Numbers.{has_number}
use Rattle.working_memory.proofs.groups.Group.clean.Goals as goal

pub returns : goal.returns
returns c =
    subst (λ (places : List ℕ). c.retain.new.self.items ≡ filter (has_number c.args.memory.now.places) places) c.self.view_is
    (filter_same _ (has_number c.args.memory.now.places) _ (λ x b f' k. search rules) c.self.inside.places.items c.retain.new.self.items c.retain.ensures.filtered)
