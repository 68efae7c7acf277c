-- What is read is a prefix of a text: what has been read is whole forms and the part of one more.
use Rattle.std.proofs.Common.{ℕ, List, [], ◌∷◌, ◌++◌, Some, None, refl, IfSome}
use Rattle.std.specs.Option.{option_map}
use Rattle.ops_text.specs.Names.{Names}
use Rattle.rule_base.specs.declared.value.Value.{Value}
use Rattle.ops_tokens.specs.declared.token.Keyword.TheVariants as a_keyword
use Rattle.ops_reader.specs.declared.form.Form.{Form}
use Rattle.ops_reader.specs.declared.form.Form.TheVariants as a_form
use Rattle.ops_reader.specs.declared.form.FormCond.{FormCond}
use Rattle.ops_reader.specs.declared.form.FormAction.{FormAction}
use Rattle.ops_reader.specs.declared.part.Step.{Step}
use Rattle.ops_reader.specs.declared.part.Step.TheVariants.{Part, Whole}
use Rattle.ops_reader.specs.declared.part.FormPart.{FormPart}
use Rattle.ops_reader.specs.declared.part.FormPart.TheVariants as of_form
use Rattle.ops_reader.specs.declared.part.SetPart.{SetPart}
use Rattle.ops_reader.specs.declared.part.SetPart.TheVariants as of_set
use Rattle.ops_reader.specs.declared.part.CondPart.{CondPart}
use Rattle.ops_reader.specs.declared.part.CondPart.TheVariants as of_cond
use Rattle.ops_reader.specs.declared.part.ActionPart.{ActionPart}
use Rattle.ops_reader.specs.declared.part.ActionPart.TheVariants as of_action
use Rattle.ops_tokens.specs.Token.{Token, Open, Close, Arrow, Plain}
use Rattle.ops_reader.specs.Grammar.{Phrase, nothing, never, ◌⨾◌, any, some, the, keyword, up_to, symbol, literal, setting, condition, action, strategy_word, form}
use Rattle.ops_reader.specs.Taken.{Taken, symbol_of, literal_of, number_up_to, set_after}
use Rattle.ops_reader.specs.CondReading.{cond_after}
use Rattle.ops_reader.specs.ActionReading.{action_after}
use Rattle.ops_reader.specs.FormReading.{with_cond, arrow_after, conds_after, with_action, actions_after, attrs_after, sets_after, form_head, strategy_after, watch_after, form_after}
use Rattle.ops_reader.specs.Reading.{Read, with_form, next}
use Rattle.ops_reader.proofs.Phrases.{Extends, then_one, within, from_nothing, with_nothing, any-push, then_element, then_last}
use Rattle.ops_reader.proofs.SoundBasics.{IsSpelled, grown_by, around_spelled, symbol_spelled, literal_spelled, number_spelled, open_lists, then_keyword, then_single, then_symbol, begun_set, set_spelled, set_within, set_whole}
use Rattle.ops_reader.proofs.SoundConditions.{begun_cond, cond_spelled}
use Rattle.ops_reader.proofs.SoundActions.{begun_action, action_spelled}

-- the phrase that a form that lacks its last bracket has been spelled by
abbrev begun_closing : Form → Phrase
begun_closing (a_form.Strategy mea) = the Open ⨾ keyword a_keyword.Strategy ⨾ keyword (strategy_word mea)
begun_closing (a_form.Watch level) = the Open ⨾ keyword a_keyword.Watch ⨾ up_to 3 level
begun_closing other = never

-- the phrase that a part of a form has been spelled by
abbrev pub begun_form : FormPart → Phrase
begun_form of_form.Nothing = nothing
begun_form of_form.Head = the Open
begun_form of_form.Literalize = the Open ⨾ keyword a_keyword.Literalize
begun_form (of_form.Attrs class attrs) = the Open ⨾ keyword a_keyword.Literalize ⨾ symbol class ⨾ any symbol attrs ⨾ nothing
begun_form of_form.Make = the Open ⨾ keyword a_keyword.Make
begun_form (of_form.Sets class sets set) = the Open ⨾ keyword a_keyword.Make ⨾ symbol class ⨾ any (setting literal) sets ⨾ begun_set set
begun_form of_form.P = the Open ⨾ keyword a_keyword.P
begun_form (of_form.Conds name conds cond) = the Open ⨾ keyword a_keyword.P ⨾ symbol name ⨾ any condition conds ⨾ begun_cond cond
begun_form (of_form.Actions name conds actions part) =
    the Open ⨾ keyword a_keyword.P ⨾ symbol name ⨾ some condition conds ⨾ the Arrow ⨾ any action actions ⨾ begun_action part
begun_form of_form.Strategy = the Open ⨾ keyword a_keyword.Strategy
begun_form of_form.Watch = the Open ⨾ keyword a_keyword.Watch
begun_form (of_form.Closing one) = begun_closing one

abbrev attrs_of : ℕ → List ℕ → Phrase
attrs_of class attrs = the Open ⨾ keyword a_keyword.Literalize ⨾ symbol class ⨾ any symbol attrs

attrs_spelled : (names : Names) (class : ℕ) (attrs : List ℕ) (token : Token) → IfSome (attrs_after names class attrs token) (IsSpelled begun_form form (begun_form (of_form.Attrs class attrs)) names token)
attrs_spelled names class attrs Close = then_last (attrs_of class attrs) (the Close) names Close names (refl, refl)
attrs_spelled names class attrs token =
    grown_by begun_form form (begun_form (of_form.Attrs class attrs)) names token (λ attr. of_form.Attrs class (attrs ++ attr ∷ [])) symbol (symbol_of names token) (symbol_spelled names token)
    (λ attr after one. then_single (the Open ⨾ keyword a_keyword.Literalize ⨾ symbol class) symbol attrs attr names token after one)

abbrev sets_of : ℕ → List (ℕ × Value) → Phrase
sets_of class sets = the Open ⨾ keyword a_keyword.Make ⨾ symbol class ⨾ any (setting literal) sets

sets_spelled : (names : Names) (class : ℕ) (sets : List (ℕ × Value)) (set : SetPart) (token : Token)
    → IfSome (sets_after names class sets set token) (IsSpelled begun_form form (sets_of class sets ⨾ begun_set set) names token)
sets_spelled names class sets (of_set.Attr attr) token =
    grown_by begun_form form (sets_of class sets ⨾ begun_set (of_set.Attr attr)) names token _ literal (literal_of names token) (literal_spelled names token)
    (λ v after one. set_whole (the Open ⨾ keyword a_keyword.Make ⨾ symbol class) literal sets attr v names token after one)
sets_spelled names class sets of_set.Nothing Close = then_last (sets_of class sets) (the Close) names Close names (refl, refl)
sets_spelled names class sets set token =
    set_within begun_form form (sets_of class sets) names set token (λ s. of_form.Sets class sets s) (set_after names set token) (λ s before tokens after h. h) (set_spelled names set token)

abbrev conds_of : ℕ → List FormCond → Phrase
conds_of name conds = the Open ⨾ keyword a_keyword.P ⨾ symbol name ⨾ any condition conds

arrow_spelled : (names : Names) (name : ℕ) (conds : List FormCond) → IfSome (arrow_after names name conds) (IsSpelled begun_form form (conds_of name conds ⨾ nothing) names Arrow)
arrow_spelled names name [] = tt
arrow_spelled names name (c ∷ conds) =
    open_lists (conds_of name (c ∷ conds) ⨾ nothing) (conds_of name (c ∷ conds) ⨾ the Arrow) names Arrow names
    (then_last (conds_of name (c ∷ conds)) (the Arrow) names Arrow names (refl, refl))

conds_spelled : (names : Names) (name : ℕ) (conds : List FormCond) (part : CondPart) (token : Token)
    → IfSome (conds_after names name conds part token) (IsSpelled begun_form form (conds_of name conds ⨾ begun_cond part) names token)
conds_spelled names name conds of_cond.Nothing Arrow = arrow_spelled names name conds
conds_spelled names name conds part token =
    around_spelled begun_cond condition begun_form form (λ p. Part (of_form.Conds name conds p)) (with_cond name conds)
    (begun_cond part) (conds_of name conds ⨾ begun_cond part) names token (cond_after names part token)
    (λ p after e. within (conds_of name conds) (begun_cond part) (begun_cond p) names token after e)
    (λ one after e. then_element (the Open ⨾ keyword a_keyword.P ⨾ symbol name) condition conds one (begun_cond part) names token after e)
    (cond_spelled names part token)

abbrev actions_of : ℕ → List FormCond → List FormAction → Phrase
actions_of name conds actions = the Open ⨾ keyword a_keyword.P ⨾ symbol name ⨾ some condition conds ⨾ the Arrow ⨾ any action actions

actions_spelled : (names : Names) (name : ℕ) (conds : List FormCond) (actions : List FormAction) (part : ActionPart) (token : Token)
    → IfSome (actions_after names name conds actions part token) (IsSpelled begun_form form (actions_of name conds actions ⨾ begun_action part) names token)
actions_spelled names name conds actions of_action.Nothing Close = then_last (actions_of name conds actions) (the Close) names Close names (refl, refl)
actions_spelled names name conds actions part token =
    around_spelled begun_action action begun_form form (λ p. Part (of_form.Actions name conds actions p)) (with_action name conds actions)
    (begun_action part) (actions_of name conds actions ⨾ begun_action part) names token (action_after names part token)
    (λ p after e. within (actions_of name conds actions) (begun_action part) (begun_action p) names token after e)
    (λ one after e. then_element (the Open ⨾ keyword a_keyword.P ⨾ symbol name ⨾ some condition conds ⨾ the Arrow) action actions one (begun_action part) names token after e)
    (action_spelled names part token)

form_head_spelled : (names : Names) (token : Token) → IfSome (form_head names token) (IsSpelled begun_form form (the Open) names token)
form_head_spelled names (Plain word (Some a_keyword.Literalize)) = then_keyword a_keyword.Literalize names word
form_head_spelled names (Plain word (Some a_keyword.Make)) = then_keyword a_keyword.Make names word
form_head_spelled names (Plain word (Some a_keyword.P)) = then_keyword a_keyword.P names word
form_head_spelled names (Plain word (Some a_keyword.Strategy)) = then_keyword a_keyword.Strategy names word
form_head_spelled names (Plain word (Some a_keyword.Watch)) = then_keyword a_keyword.Watch names word
form_head_spelled names token = tt

strategy_spelled : (names : Names) (token : Token) → IfSome (strategy_after names token) (IsSpelled begun_form form (begun_form of_form.Strategy) names token)
strategy_spelled names (Plain word (Some a_keyword.Lex)) =
    then_one (begun_form of_form.Strategy) (keyword a_keyword.Lex) names (Plain word (Some a_keyword.Lex)) names (word, refl, refl)
strategy_spelled names (Plain word (Some a_keyword.Mea)) =
    then_one (begun_form of_form.Strategy) (keyword a_keyword.Mea) names (Plain word (Some a_keyword.Mea)) names (word, refl, refl)
strategy_spelled names token = tt

watch_spelled : (names : Names) (token : Token) → IfSome (watch_after names token) (IsSpelled begun_form form (begun_form of_form.Watch) names token)
watch_spelled names token =
    grown_by begun_form form (begun_form of_form.Watch) names token (λ level. of_form.Closing (a_form.Watch level)) (up_to 3) (number_up_to 3 names token) (number_spelled 3 names token)
    (λ level after one. then_one (begun_form of_form.Watch) (up_to 3 level) names token after one)

closing_spelled : (one : Form) (names : Names) → Extends (begun_closing one) names Close names (form one)
closing_spelled (a_form.Strategy mea) names = then_one (begun_closing (a_form.Strategy mea)) (the Close) names Close names (refl, refl)
closing_spelled (a_form.Watch level) names = then_one (begun_closing (a_form.Watch level)) (the Close) names Close names (refl, refl)
closing_spelled one names = λ before tokens h. absurd h

form_spelled : (names : Names) (part : FormPart) (token : Token) → IfSome (form_after names part token) (IsSpelled begun_form form (begun_form part) names token)
form_spelled names of_form.Nothing Open = from_nothing (the Open) names Open names (refl, refl)
form_spelled names of_form.Head token = form_head_spelled names token
form_spelled names of_form.Literalize token = then_symbol begun_form form (begun_form of_form.Literalize) names token (λ class. of_form.Attrs class []) (λ n before tokens after h. h)
form_spelled names (of_form.Attrs class attrs) token = attrs_spelled names class attrs token
form_spelled names of_form.Make token = then_symbol begun_form form (begun_form of_form.Make) names token (λ class. of_form.Sets class [] of_set.Nothing) (λ n before tokens after h. h)
form_spelled names (of_form.Sets class sets set) token = sets_spelled names class sets set token
form_spelled names of_form.P token = then_symbol begun_form form (begun_form of_form.P) names token (λ name. of_form.Conds name [] of_cond.Nothing) (λ n before tokens after h. h)
form_spelled names (of_form.Conds name conds cond) token = conds_spelled names name conds cond token
form_spelled names (of_form.Actions name conds actions action) token = actions_spelled names name conds actions action token
form_spelled names of_form.Strategy token = strategy_spelled names token
form_spelled names of_form.Watch token = watch_spelled names token
form_spelled names (of_form.Closing one) Close = closing_spelled one names
form_spelled names part token = tt

-- these tokens led from these names to what has been read
abbrev pub HasRead : Names → List Token → Read → Type 0
HasRead names tokens read = (any form read.forms ⨾ begun_form read.part) names tokens read.names

-- one more form
forms_then : (names : Names) (tokens : List Token) (read : Read) (token : Token) (after : Names) (one : Form)
    → Extends (begun_form read.part) read.names token after (form one)
    → HasRead names tokens read
    → (any form (read.forms ++ one ∷ []) ⨾ nothing) names (tokens ++ token ∷ []) after
forms_then names tokens read token after one e has =
    let h = within (any form read.forms) (begun_form read.part) (form one) read.names token after e names tokens has in
    with_nothing (any form (read.forms ++ one ∷ [])) names (tokens ++ token ∷ []) after
    (rw h.cut (any-push form read.forms one names h.front h.between h.back after h.of_first h.of_second))

with_form_read : (names : Names) (tokens : List Token) (read : Read) (token : Token) (taken : Taken (Step FormPart Form))
    → IfSome taken (IsSpelled begun_form form (begun_form read.part) read.names token)
    → HasRead names tokens read
    → IfSome (option_map (with_form read.forms) taken) (λ r. HasRead names (tokens ++ token ∷ []) r)
with_form_read names tokens read token None h has = tt
with_form_read names tokens read token (Some (after, Part part)) h has =
    within (any form read.forms) (begun_form read.part) (begun_form part) read.names token after h names tokens has
with_form_read names tokens read token (Some (after, Whole one)) h has =
    forms_then names tokens read token after one h has

pub next_read : (names : Names) (tokens : List Token) (read : Read) (token : Token) → HasRead names tokens read → IfSome (next read token) (λ r. HasRead names (tokens ++ token ∷ []) r)
next_read names tokens read token has = with_form_read names tokens read token (form_after read.names read.part token) (form_spelled read.names read.part token) has
