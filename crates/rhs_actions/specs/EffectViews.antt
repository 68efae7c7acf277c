-- What contracts see of an effect: one that does nothing, and the change that a view shows.
use Rattle.std.specs.Prelude.{[], false}
use Rattle.rule_base.specs.declared.change.Change.{Change}
use Rattle.rule_base.specs.declared.change.Change.TheVariants as change
use Rattle.rule_base.specs.Effect.{Effect}
use Rattle.rhs_actions.specs.declared.effect.ChangeView.{ChangeView}
use Rattle.rhs_actions.specs.declared.effect.ChangeView.TheVariants as view

-- nothing changed or written, and no halt
abbrev pub no_effect : Effect
no_effect = record { changes = []; pieces = []; halts = false }

-- the removal of the view's tag, or a make of its class with the values where they lie
abbrev pub change_in : ChangeView → Change
change_in (view.Remove tag) = change.Remove tag
change_in (view.Make class values) = change.Make class values.now
