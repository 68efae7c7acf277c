-- What lives stays in its group.
use Rattle.std.proofs.Common.{◌≡◌, cond, refl, subst, sym}
use Rattle.std.specs.List.{filter}
use Rattle.working_memory.specs.declared.groups.Key.{Key}
use Rattle.working_memory.specs.Groups.{group, same_key}
use Rattle.firing_core.specs.Grouped.{Grouping, IsWholeGroupingOf}
use Rattle.firing_core.proofs.GroupedLemmas.{IsGrouping-cleaned}
use Rattle.rule_base.specs.Numbers.{has_number}
use Rattle.firing_core.proofs.grouped.Grouped.clean.Goals as goal

pub returns-clause-grouping : goal.returns-clause-grouping
returns-clause-grouping c =
    let s = c.args.store.now in
    let inside = c.self.inside in
    let old : Grouping = record { groups = inside.groups; seen = inside.seen; attributes = inside.attributes.items } in
    let new : Grouping = record { groups = c.clean.new.self; seen = inside.seen; attributes = inside.attributes.items } in
    let was : IsWholeGroupingOf old s = subst (λ (g : Grouping). IsWholeGroupingOf g s) (sym c.self.view_is) c.requires in
    let cleaned = subst (λ places. (k : Key) → group new.groups k ≡ cond (same_key c.args.key k) (filter (has_number places) (group old.groups k)) (group old.groups k)) c.memory.ensures c.clean.ensures in
    record { grouping = IsGrouping-cleaned s old new c.args.key was.grouping refl refl cleaned; whole = was.whole }
