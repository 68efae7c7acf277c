-- The actions that are left tell the same.
use Rattle.std.proofs.Common.{◌≡◌, ◌==◌, drop, flat_map}
use Rattle.std.specs.List.{list_any}
use Rattle.interference.specs.MayInterfere.{grown_classes}
use Rattle.interference.proofs.rules.grows.Given as goal

abbrev pub invariant-loop-action : goal.invariant-loop-action
invariant-loop-action l = list_any (λ k. k == l.class) (flat_map (grown_classes l.rule.conds) l.rule.actions) ≡ list_any (λ k. k == l.class) (flat_map (grown_classes l.rule.conds) (drop l.action-index l.rule.actions))
