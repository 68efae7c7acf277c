-- The items that are left lead to the same pieces.
use Rattle.std.proofs.Common.{◌≡◌, drop}
use Rattle.rule_base.specs.Term.{item_pieces}
use Rattle.rhs_actions.specs.Acting.{behind}
use Rattle.rhs_actions.proofs.terms.add_pieces.Given as goal

abbrev pub invariant-loop-item : goal.invariant-loop-item
invariant-loop-item l = behind l.initial.pieces.items (item_pieces l.binds l.items) ≡ behind l.pieces.items (item_pieces l.binds (drop l.item-index l.items))
