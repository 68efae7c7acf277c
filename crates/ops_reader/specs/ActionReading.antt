-- What one more token makes of a part of an action.
use Rattle.std.specs.Prelude.{ℕ, List, [], ◌∷◌, ◌++◌, Some, None}
use Rattle.std.specs.Option.{option_map}
use Rattle.ops_text.specs.Names.{Names}
use Rattle.ops_tokens.specs.declared.token.Keyword.TheVariants as a_keyword
use Rattle.ops_reader.specs.declared.form.FormAction.{FormAction}
use Rattle.ops_reader.specs.declared.form.FormAction.TheVariants as an_action
use Rattle.ops_reader.specs.declared.form.At.{At}
use Rattle.ops_reader.specs.declared.form.At.TheVariants as a_place
use Rattle.ops_reader.specs.declared.form.FormItem.{FormItem}
use Rattle.ops_reader.specs.declared.part.Step.{Step}
use Rattle.ops_reader.specs.declared.part.Step.TheVariants.{Part, Whole}
use Rattle.ops_reader.specs.declared.part.TermPart.{TermPart}
use Rattle.ops_reader.specs.declared.part.TermPart.TheVariants as of_term
use Rattle.ops_reader.specs.declared.part.TermSetPart.TheVariants as of_set
use Rattle.ops_reader.specs.declared.part.ItemPart.{ItemPart}
use Rattle.ops_reader.specs.declared.part.ItemPart.TheVariants as of_item
use Rattle.ops_reader.specs.declared.part.ActionPart.{ActionPart}
use Rattle.ops_reader.specs.declared.part.ActionPart.TheVariants as of_action
use Rattle.ops_tokens.specs.Token.{Token, Open, Close, Integer, Plain}
use Rattle.ops_reader.specs.Taken.{Taken, symbol_of, variable_of, grown, around}
use Rattle.ops_reader.specs.TermReading.{TermSetsPart, term_after, term_sets_after}
use Rattle.ops_reader.specs.ItemReading.{item_after}

-- a designator: the number of a condition element, or an element variable
abbrev pub designator_of : Names → Token → Taken At
designator_of names (Integer z) = Some (names, a_place.Number z)
designator_of names token = option_map (λ v. (v.0, a_place.Name v.1)) (variable_of names token)

-- the keyword of an action, which gets no number
abbrev pub action_head : Names → Token → Taken (Step ActionPart FormAction)
action_head names (Plain word (Some a_keyword.Make)) = Some (names, Part of_action.Make)
action_head names (Plain word (Some a_keyword.Modify)) = Some (names, Part of_action.Modify)
action_head names (Plain word (Some a_keyword.Remove)) = Some (names, Part (of_action.Remove []))
action_head names (Plain word (Some a_keyword.Bind)) = Some (names, Part of_action.Bind)
action_head names (Plain word (Some a_keyword.Write)) = Some (names, Part (of_action.Write [] of_item.Nothing))
action_head names (Plain word (Some a_keyword.Halt)) = Some (names, Part (of_action.Closing an_action.Halt))
action_head names token = None

-- the settings of a `make`, and its end
abbrev pub make_after : Names → ℕ → TermSetsPart → Token → Taken (Step ActionPart FormAction)
make_after names class part token =
    around (λ p. Part (of_action.MakeSets class p.0 p.1)) (λ sets. Whole (an_action.Make class sets)) (term_sets_after names part token)

-- the settings of a `modify`, and its end
abbrev pub modify_after : Names → At → TermSetsPart → Token → Taken (Step ActionPart FormAction)
modify_after names at part token =
    around (λ p. Part (of_action.ModifySets at p.0 p.1)) (λ sets. Whole (an_action.Modify at sets)) (term_sets_after names part token)

-- the end of a `remove`, which has one designator or more
abbrev pub removed : Names → List At → Taken (Step ActionPart FormAction)
removed names [] = None
removed names (at ∷ ats) = Some (names, Whole (an_action.Remove (at ∷ ats)))

-- the designators of a `remove`, and its end
abbrev pub remove_after : Names → List At → Token → Taken (Step ActionPart FormAction)
remove_after names ats Close = removed names ats
remove_after names ats token = grown (λ at. of_action.Remove (ats ++ at ∷ [])) (designator_of names token)

-- the value of a `bind`
abbrev pub bind_after : Names → ℕ → TermPart → Token → Taken (Step ActionPart FormAction)
bind_after names name term token =
    around (λ t. Part (of_action.Bound name t)) (λ t. Part (of_action.Closing (an_action.Bind name t))) (term_after names term token)

-- the items of a `write`, and its end
abbrev pub write_after : Names → List FormItem → ItemPart → Token → Taken (Step ActionPart FormAction)
write_after names items of_item.Nothing Close = Some (names, Whole (an_action.Write items))
write_after names items item token =
    around (λ i. Part (of_action.Write items i)) (λ i. Part (of_action.Write (items ++ i ∷ []) of_item.Nothing)) (item_after names item token)

-- any part of an action
abbrev pub action_after : Names → ActionPart → Token → Taken (Step ActionPart FormAction)
action_after names of_action.Nothing Open = Some (names, Part of_action.Head)
action_after names of_action.Head token = action_head names token
action_after names of_action.Make token = grown (λ class. of_action.MakeSets class [] of_set.Nothing) (symbol_of names token)
action_after names (of_action.MakeSets class sets set) token = make_after names class (sets, set) token
action_after names of_action.Modify token = grown (λ at. of_action.ModifySets at [] of_set.Nothing) (designator_of names token)
action_after names (of_action.ModifySets at sets set) token = modify_after names at (sets, set) token
action_after names (of_action.Remove ats) token = remove_after names ats token
action_after names of_action.Bind token = grown (λ name. of_action.Bound name of_term.Nothing) (variable_of names token)
action_after names (of_action.Bound name term) token = bind_after names name term token
action_after names (of_action.Write items item) token = write_after names items item token
action_after names (of_action.Closing action) Close = Some (names, Whole action)
action_after names part token = None
