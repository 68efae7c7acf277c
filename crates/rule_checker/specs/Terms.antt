-- The rules of the values in actions: each variable is bound.
use Rattle.std.specs.Prelude.{List, [], ◌∷◌, ◌++◌, Result, Ok}
use Rattle.rule_base.specs.declared.action.Term.{Term}
use Rattle.rule_base.specs.declared.action.Term.TheVariants as term
use Rattle.rule_base.specs.declared.action.Item.{Item}
use Rattle.rule_base.specs.declared.action.Item.TheVariants as item
use Rattle.rule_base.specs.Chains.{◌>>=◌}
use Rattle.ops_reader.specs.declared.form.FormTerm.{FormTerm}
use Rattle.ops_reader.specs.declared.form.FormTerm.TheVariants as form_term
use Rattle.ops_reader.specs.declared.form.FormItem.{FormItem}
use Rattle.ops_reader.specs.declared.form.FormItem.TheVariants as form_item
use Rattle.rule_checker.specs.declared.refusal.CheckKind.{CheckKind}
use Rattle.rule_checker.specs.declared.scope.Scope.{Scope}
use Rattle.rule_checker.specs.Scope.{bound_to_its_left}
use Rattle.rule_checker.specs.Expressions.{expression_of}

-- the term of a value: each variable in it is bound by a positive condition element or an earlier bind
abbrev pub term_of : Scope → FormTerm → Result Term CheckKind
term_of scope (form_term.Con value) = Ok (term.Con value)
term_of scope (form_term.Name name) = bound_to_its_left scope name >>= λ var. Ok (term.Var var)
term_of scope (form_term.Compute expression) = expression_of expression scope >>= λ made. Ok (term.Compute made)

-- the item of a write
abbrev pub item_of : Scope → FormItem → Result Item CheckKind
item_of scope (form_item.Put put) = term_of scope put >>= λ t. Ok (item.Put t)
item_of scope form_item.Crlf = Ok item.Crlf
item_of scope (form_item.Tabto column) = Ok (item.Tabto column)
item_of scope (form_item.Rjust width) = Ok (item.Rjust width)

-- one item more
abbrev pub with_item : Scope → List Item → FormItem → Result (List Item) CheckKind
with_item scope done written = item_of scope written >>= λ i. Ok (done ++ i ∷ [])
