-- What the terms, settings and items of actions give under bindings, or why they fail.
use Rattle.std.specs.Prelude.{ℕ, List, [], ◌∷◌, Result, Ok, slice_set}
use Rattle.rule_base.specs.declared.value.Value.{Value}
use Rattle.rule_base.specs.declared.value.Value.TheVariants.{Int}
use Rattle.rule_base.specs.declared.action.Term.{Term}
use Rattle.rule_base.specs.declared.action.Term.TheVariants as term
use Rattle.rule_base.specs.declared.action.Item.{Item}
use Rattle.rule_base.specs.declared.action.Item.TheVariants as item
use Rattle.rule_base.specs.declared.change.Piece.{Piece}
use Rattle.rule_base.specs.declared.change.Piece.TheVariants as piece
use Rattle.rule_base.specs.declared.entry.FaultCause.{FaultCause}
use Rattle.rule_base.specs.Chains.{◌>>=◌}
use Rattle.rule_base.specs.Bindings.{Bindings, value_of}
use Rattle.rule_base.specs.Expression.{tree_of}
use Rattle.rule_base.specs.Compute.{computed}

-- what a term gives
abbrev pub term_value : Bindings → Term → Result Value FaultCause
term_value bindings (term.Con value) = Ok value
term_value bindings (term.Var var) = Ok (value_of bindings var)
term_value bindings (term.Compute expression) = computed (tree_of expression) bindings >>= λ z. Ok (Int z)

-- the values once settings are done in order: each puts its term's value in the place of its attribute
abbrev pub after_sets : Bindings → List (ℕ × Term) → List Value → Result (List Value) FaultCause
after_sets bindings [] values = Ok values
after_sets bindings (set ∷ sets) values = term_value bindings set.1 >>= λ value. after_sets bindings sets (slice_set values set.0 value)

-- the piece of an item
abbrev pub item_piece : Bindings → Item → Result Piece FaultCause
item_piece bindings (item.Put put) = term_value bindings put >>= λ value. Ok (piece.Put value)
item_piece bindings item.Crlf = Ok piece.Crlf
item_piece bindings (item.Tabto column) = Ok (piece.Tabto column)
item_piece bindings (item.Rjust width) = Ok (piece.Rjust width)

-- the pieces of items in order
abbrev pub item_pieces : Bindings → List Item → Result (List Piece) FaultCause
item_pieces bindings [] = Ok []
item_pieces bindings (first ∷ items) = item_piece bindings first >>= λ p. item_pieces bindings items >>= λ ps. Ok (p ∷ ps)
