-- What the values, settings and items of written actions give under bindings by name, or why they fail.
use Rattle.std.specs.Prelude.{ℕ, List, [], ◌∷◌, cond, nat_eq, ℤ, unwrap_or, Result, Ok}
use Rattle.rule_base.specs.declared.value.Value.{Value}
use Rattle.rule_base.specs.declared.value.Value.TheVariants.{Int}
use Rattle.rule_base.specs.declared.change.Piece.{Piece}
use Rattle.rule_base.specs.declared.change.Piece.TheVariants as piece
use Rattle.rule_base.specs.declared.entry.FaultCause.{FaultCause}
use Rattle.rule_base.specs.Chains.{◌>>=◌}
use Rattle.rule_base.specs.Value.{nil}
use Rattle.rule_base.specs.Expression.{Tree, single, joined, Leaf, number, variable, parentheses}
use Rattle.rule_base.specs.Compute.{applied, number_of}
use Rattle.ops_reader.specs.declared.form.FormTerm.{FormTerm}
use Rattle.ops_reader.specs.declared.form.FormTerm.TheVariants as form_term
use Rattle.ops_reader.specs.declared.form.FormItem.{FormItem}
use Rattle.ops_reader.specs.declared.form.FormItem.TheVariants as form_item
use Rattle.ops_reader.specs.FormTree.{form_tree}
use Rattle.rule_checker.specs.NamedBindings.{NamedValues, value_named}

-- the value of the variable of this name, and nil where it has none, which no checked rule meets
abbrev pub variable_value : NamedValues → ℕ → Value
variable_value bindings name = unwrap_or (value_named bindings name) nil

-- what an expression gives whose variables are names: first the rest, then the operand before it, then the operator
abbrev mutual
  pub written_computed : Tree → NamedValues → Result ℤ FaultCause
  written_computed (single operand) bindings = written_operand operand bindings
  written_computed (joined operand op rest) bindings = written_computed rest bindings >>= λ right. written_operand operand bindings >>= λ left. applied op left right

  pub written_operand : Leaf → NamedValues → Result ℤ FaultCause
  written_operand (number z) bindings = Ok z
  written_operand (variable name) bindings = number_of (variable_value bindings name)
  written_operand (parentheses inner) bindings = written_computed inner bindings

-- what a written value gives
abbrev pub written_value : NamedValues → FormTerm → Result Value FaultCause
written_value bindings (form_term.Con value) = Ok value
written_value bindings (form_term.Name name) = Ok (variable_value bindings name)
written_value bindings (form_term.Compute expression) = written_computed (form_tree expression) bindings >>= λ z. Ok (Int z)

-- the values of attributes once the one of this name has this value; an attribute that isn't there is passed over
abbrev pub with_attribute_set : List ℕ → ℕ → Value → List Value → List Value
with_attribute_set [] name value values = values
with_attribute_set (attr ∷ attrs) name value [] = []
with_attribute_set (attr ∷ attrs) name value (first ∷ values) = cond (nat_eq name attr) (value ∷ values) (first ∷ with_attribute_set attrs name value values)

-- the values of these attributes once settings are done in order
abbrev pub after_settings : List ℕ → NamedValues → List (ℕ × FormTerm) → List Value → Result (List Value) FaultCause
after_settings attrs bindings [] values = Ok values
after_settings attrs bindings (set ∷ sets) values = written_value bindings set.1 >>= λ value. after_settings attrs bindings sets (with_attribute_set attrs set.0 value values)

-- the piece of a written item
abbrev pub written_piece : NamedValues → FormItem → Result Piece FaultCause
written_piece bindings (form_item.Put put) = written_value bindings put >>= λ value. Ok (piece.Put value)
written_piece bindings form_item.Crlf = Ok piece.Crlf
written_piece bindings (form_item.Tabto column) = Ok (piece.Tabto column)
written_piece bindings (form_item.Rjust width) = Ok (piece.Rjust width)

-- the pieces of items in order
abbrev pub written_pieces : NamedValues → List FormItem → Result (List Piece) FaultCause
written_pieces bindings [] = Ok []
written_pieces bindings (first ∷ items) = written_piece bindings first >>= λ p. written_pieces bindings items >>= λ ps. Ok (p ∷ ps)
