-- What one more token makes of a part of a form.
use Rattle.std.specs.Prelude.{ℕ, true, false, List, [], ◌∷◌, ◌++◌, Some, None}
use Rattle.ops_text.specs.Names.{Names}
use Rattle.rule_base.specs.declared.value.Value.{Value}
use Rattle.ops_tokens.specs.declared.token.Keyword.TheVariants as a_keyword
use Rattle.ops_reader.specs.declared.form.Form.{Form}
use Rattle.ops_reader.specs.declared.form.Form.TheVariants as a_form
use Rattle.ops_reader.specs.declared.form.FormCond.{FormCond}
use Rattle.ops_reader.specs.declared.form.FormAction.{FormAction}
use Rattle.ops_reader.specs.declared.part.Step.{Step}
use Rattle.ops_reader.specs.declared.part.Step.TheVariants.{Part, Whole}
use Rattle.ops_reader.specs.declared.part.FormPart.{FormPart}
use Rattle.ops_reader.specs.declared.part.FormPart.TheVariants as of_form
use Rattle.ops_reader.specs.declared.part.SetPart.{SetPart}
use Rattle.ops_reader.specs.declared.part.SetPart.TheVariants as of_set
use Rattle.ops_reader.specs.declared.part.CondPart.{CondPart}
use Rattle.ops_reader.specs.declared.part.CondPart.TheVariants as of_cond
use Rattle.ops_reader.specs.declared.part.ActionPart.{ActionPart}
use Rattle.ops_reader.specs.declared.part.ActionPart.TheVariants as of_action
use Rattle.ops_tokens.specs.Token.{Token, Open, Close, Arrow, Plain}
use Rattle.ops_reader.specs.Taken.{Taken, symbol_of, literal_of, number_up_to, grown, around, set_after}
use Rattle.ops_reader.specs.CondReading.{cond_after}
use Rattle.ops_reader.specs.ActionReading.{action_after}

-- in a rule, where a condition is whole
abbrev pub with_cond : ℕ → List FormCond → FormCond → Step FormPart Form
with_cond name conds cond = Part (of_form.Conds name (conds ++ cond ∷ []) of_cond.Nothing)

-- the arrow of a rule, which has one condition or more
abbrev pub arrow_after : Names → ℕ → List FormCond → Taken (Step FormPart Form)
arrow_after names name [] = None
arrow_after names name (cond ∷ conds) = Some (names, Part (of_form.Actions name (cond ∷ conds) [] of_action.Nothing))

-- the conditions of a rule, and the arrow behind them
abbrev pub conds_after : Names → ℕ → List FormCond → CondPart → Token → Taken (Step FormPart Form)
conds_after names name conds of_cond.Nothing Arrow = arrow_after names name conds
conds_after names name conds part token =
    around (λ p. Part (of_form.Conds name conds p)) (with_cond name conds) (cond_after names part token)

-- in a rule, where an action is whole
abbrev pub with_action : ℕ → List FormCond → List FormAction → FormAction → Step FormPart Form
with_action name conds actions action = Part (of_form.Actions name conds (actions ++ action ∷ []) of_action.Nothing)

-- the actions of a rule, and its end
abbrev pub actions_after : Names → ℕ → List FormCond → List FormAction → ActionPart → Token → Taken (Step FormPart Form)
actions_after names name conds actions of_action.Nothing Close = Some (names, Whole (a_form.P name conds actions))
actions_after names name conds actions part token =
    around (λ p. Part (of_form.Actions name conds actions p)) (with_action name conds actions) (action_after names part token)

-- the attributes of a class, and its end
abbrev pub attrs_after : Names → ℕ → List ℕ → Token → Taken (Step FormPart Form)
attrs_after names class attrs Close = Some (names, Whole (a_form.Literalize class attrs))
attrs_after names class attrs token = grown (λ attr. of_form.Attrs class (attrs ++ attr ∷ [])) (symbol_of names token)

-- the settings of a make at the top level, and its end
abbrev pub sets_after : Names → ℕ → List (ℕ × Value) → SetPart → Token → Taken (Step FormPart Form)
sets_after names class sets (of_set.Attr attr) token =
    grown (λ v. of_form.Sets class (sets ++ (attr, v) ∷ []) of_set.Nothing) (literal_of names token)
sets_after names class sets of_set.Nothing Close = Some (names, Whole (a_form.Make class sets))
sets_after names class sets set token = grown (λ s. of_form.Sets class sets s) (set_after names set token)

-- the keyword of a form, which gets no number
abbrev pub form_head : Names → Token → Taken (Step FormPart Form)
form_head names (Plain word (Some a_keyword.Literalize)) = Some (names, Part of_form.Literalize)
form_head names (Plain word (Some a_keyword.Make)) = Some (names, Part of_form.Make)
form_head names (Plain word (Some a_keyword.P)) = Some (names, Part of_form.P)
form_head names (Plain word (Some a_keyword.Strategy)) = Some (names, Part of_form.Strategy)
form_head names (Plain word (Some a_keyword.Watch)) = Some (names, Part of_form.Watch)
form_head names token = None

-- the word for a strategy
abbrev pub strategy_after : Names → Token → Taken (Step FormPart Form)
strategy_after names (Plain word (Some a_keyword.Lex)) = Some (names, Part (of_form.Closing (a_form.Strategy false)))
strategy_after names (Plain word (Some a_keyword.Mea)) = Some (names, Part (of_form.Closing (a_form.Strategy true)))
strategy_after names token = None

-- the level of a `watch`
abbrev pub watch_after : Names → Token → Taken (Step FormPart Form)
watch_after names token = grown (λ level. of_form.Closing (a_form.Watch level)) (number_up_to 3 names token)

-- any part of a form
abbrev pub form_after : Names → FormPart → Token → Taken (Step FormPart Form)
form_after names of_form.Nothing Open = Some (names, Part of_form.Head)
form_after names of_form.Head token = form_head names token
form_after names of_form.Literalize token = grown (λ class. of_form.Attrs class []) (symbol_of names token)
form_after names (of_form.Attrs class attrs) token = attrs_after names class attrs token
form_after names of_form.Make token = grown (λ class. of_form.Sets class [] of_set.Nothing) (symbol_of names token)
form_after names (of_form.Sets class sets set) token = sets_after names class sets set token
form_after names of_form.P token = grown (λ name. of_form.Conds name [] of_cond.Nothing) (symbol_of names token)
form_after names (of_form.Conds name conds cond) token = conds_after names name conds cond token
form_after names (of_form.Actions name conds actions action) token = actions_after names name conds actions action token
form_after names of_form.Strategy token = strategy_after names token
form_after names of_form.Watch token = watch_after names token
form_after names (of_form.Closing form) Close = Some (names, Whole form)
form_after names part token = None
