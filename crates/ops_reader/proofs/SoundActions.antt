-- What a part of an action has been spelled by.
use Rattle.std.proofs.Common.{ℕ, List, [], ◌∷◌, ◌++◌, Some, refl, IfSome}
use Rattle.ops_text.specs.Names.{Names}
use Rattle.ops_tokens.specs.declared.token.Keyword.{Keyword}
use Rattle.ops_tokens.specs.declared.token.Keyword.TheVariants as a_keyword
use Rattle.ops_reader.specs.declared.form.FormAction.{FormAction}
use Rattle.ops_reader.specs.declared.form.FormAction.TheVariants as an_action
use Rattle.ops_reader.specs.declared.form.At.{At}
use Rattle.ops_reader.specs.declared.form.At.TheVariants as a_place
use Rattle.ops_reader.specs.declared.form.FormItem.{FormItem}
use Rattle.ops_reader.specs.declared.part.Step.TheVariants.{Part, Whole}
use Rattle.ops_reader.specs.declared.part.TermPart.{TermPart}
use Rattle.ops_reader.specs.declared.part.TermPart.TheVariants as of_term
use Rattle.ops_reader.specs.declared.part.TermSetPart.TheVariants as of_set
use Rattle.ops_reader.specs.declared.part.ItemPart.{ItemPart}
use Rattle.ops_reader.specs.declared.part.ItemPart.TheVariants as of_item
use Rattle.ops_reader.specs.declared.part.ActionPart.{ActionPart}
use Rattle.ops_reader.specs.declared.part.ActionPart.TheVariants as of_action
use Rattle.ops_tokens.specs.Token.{Token, Open, Close, Integer, Plain}
use Rattle.ops_reader.specs.Grammar.{Phrase, nothing, never, ◌⨾◌, any, the, keyword, symbol, variable, term, designator, item, action}
use Rattle.ops_reader.specs.Taken.{symbol_of, variable_of, around}
use Rattle.ops_reader.specs.TermReading.{TermSetsPart, term_after, term_sets_after}
use Rattle.ops_reader.specs.ItemReading.{item_after}
use Rattle.ops_reader.specs.ActionReading.{designator_of, action_head, make_after, modify_after, removed, remove_after, bind_after, write_after, action_after}
use Rattle.ops_reader.proofs.Phrases.{Extends, then_one, within, from_nothing, then_element, then_last}
use Rattle.ops_reader.proofs.SoundBasics.{IsSpelled, IsOneToken, grown_by, around_spelled, mapped_spelled, symbol_spelled, variable_spelled, open_lists, open_part, then_keyword, then_single}
use Rattle.ops_reader.proofs.SoundTerms.{begun_term, term_spelled, begun_term_sets, whole_term_sets, term_sets_spelled, begun_item, item_spelled}

-- a bracket and the word of an action
abbrev pub headed : Keyword → Phrase
headed key = the Open ⨾ keyword key

-- an action without its last bracket
abbrev pub closing_action : FormAction → Phrase
closing_action (an_action.Bind name t) = headed a_keyword.Bind ⨾ variable name ⨾ term t
closing_action an_action.Halt = headed a_keyword.Halt
closing_action one = never

-- the phrase that a part of an action has been spelled by
abbrev pub begun_action : ActionPart → Phrase
begun_action of_action.Nothing = nothing
begun_action of_action.Head = the Open
begun_action of_action.Make = headed a_keyword.Make
begun_action (of_action.MakeSets class sets set) = begun_term_sets (headed a_keyword.Make ⨾ symbol class) (sets, set)
begun_action of_action.Modify = headed a_keyword.Modify
begun_action (of_action.ModifySets at sets set) = begun_term_sets (headed a_keyword.Modify ⨾ designator at) (sets, set)
begun_action (of_action.Remove ats) = headed a_keyword.Remove ⨾ any designator ats ⨾ nothing
begun_action of_action.Bind = headed a_keyword.Bind
begun_action (of_action.Bound name part) = headed a_keyword.Bind ⨾ variable name ⨾ begun_term part
begun_action (of_action.Write items part) = headed a_keyword.Write ⨾ any item items ⨾ begun_item part
begun_action (of_action.Closing one) = closing_action one

designator_spelled : (names : Names) (token : Token) → IsOneToken designator names token (designator_of names token)
designator_spelled names (Integer z) = (refl, refl)
designator_spelled names token =
    mapped_spelled variable designator a_place.Name names token (variable_of names token) (λ n before tokens after h. h) (variable_spelled names token)

action_head_spelled : (names : Names) (token : Token) → IfSome (action_head names token) (IsSpelled begun_action action (the Open) names token)
action_head_spelled names (Plain word (Some a_keyword.Make)) = then_keyword a_keyword.Make names word
action_head_spelled names (Plain word (Some a_keyword.Modify)) = then_keyword a_keyword.Modify names word
action_head_spelled names (Plain word (Some a_keyword.Remove)) =
    open_lists (the Open) (headed a_keyword.Remove) names (Plain word (Some a_keyword.Remove)) names (then_keyword a_keyword.Remove names word)
action_head_spelled names (Plain word (Some a_keyword.Bind)) = then_keyword a_keyword.Bind names word
action_head_spelled names (Plain word (Some a_keyword.Write)) =
    open_lists (the Open) (headed a_keyword.Write) names (Plain word (Some a_keyword.Write)) names (then_keyword a_keyword.Write names word)
action_head_spelled names (Plain word (Some a_keyword.Halt)) = then_keyword a_keyword.Halt names word
action_head_spelled names token = tt

make_spelled : (names : Names) (class : ℕ) (part : TermSetsPart) (token : Token)
    → IfSome (make_after names class part token) (IsSpelled begun_action action (begun_term_sets (headed a_keyword.Make ⨾ symbol class) part) names token)
make_spelled names class part token =
    let x = headed a_keyword.Make ⨾ symbol class in
    around_spelled (begun_term_sets x) (whole_term_sets x) begun_action action (λ p. Part (of_action.MakeSets class p.0 p.1)) (λ sets. Whole (an_action.Make class sets))
    (begun_term_sets x part) (begun_term_sets x part) names token (term_sets_after names part token) (λ p after h. h) (λ sets after h. h) (term_sets_spelled x names part token)

modify_spelled : (names : Names) (at : At) (part : TermSetsPart) (token : Token)
    → IfSome (modify_after names at part token) (IsSpelled begun_action action (begun_term_sets (headed a_keyword.Modify ⨾ designator at) part) names token)
modify_spelled names at part token =
    let x = headed a_keyword.Modify ⨾ designator at in
    around_spelled (begun_term_sets x) (whole_term_sets x) begun_action action (λ p. Part (of_action.ModifySets at p.0 p.1)) (λ sets. Whole (an_action.Modify at sets))
    (begun_term_sets x part) (begun_term_sets x part) names token (term_sets_after names part token) (λ p after h. h) (λ sets after h. h) (term_sets_spelled x names part token)

removed_spelled : (names : Names) (ats : List At) → IfSome (removed names ats) (IsSpelled begun_action action (begun_action (of_action.Remove ats)) names Close)
removed_spelled names [] = tt
removed_spelled names (at ∷ ats) = then_last (headed a_keyword.Remove ⨾ any designator (at ∷ ats)) (the Close) names Close names (refl, refl)

remove_spelled : (names : Names) (ats : List At) (token : Token) → IfSome (remove_after names ats token) (IsSpelled begun_action action (begun_action (of_action.Remove ats)) names token)
remove_spelled names ats Close = removed_spelled names ats
remove_spelled names ats token =
    grown_by begun_action action (begun_action (of_action.Remove ats)) names token (λ at. of_action.Remove (ats ++ at ∷ [])) designator (designator_of names token) (designator_spelled names token)
    (λ at after one. then_single (headed a_keyword.Remove) designator ats at names token after one)

bind_spelled : (names : Names) (name : ℕ) (part : TermPart) (token : Token)
    → IfSome (bind_after names name part token) (IsSpelled begun_action action (begun_action (of_action.Bound name part)) names token)
bind_spelled names name part token =
    let x = headed a_keyword.Bind ⨾ variable name in
    around_spelled begun_term term begun_action action (λ t. Part (of_action.Bound name t)) (λ t. Part (of_action.Closing (an_action.Bind name t)))
    (begun_term part) (x ⨾ begun_term part) names token (term_after names part token)
    (λ p after h. within x (begun_term part) (begun_term p) names token after h)
    (λ t after h. within x (begun_term part) (term t) names token after h)
    (term_spelled names part token)

one_more_item : (names : Names) (items : List FormItem) (part : ItemPart) (token : Token)
    → IfSome (item_after names part token) (IsSpelled begun_item item (begun_item part) names token)
    → IfSome (around (λ i. Part (of_action.Write items i)) (λ i. Part (of_action.Write (items ++ i ∷ []) of_item.Nothing)) (item_after names part token)) (IsSpelled begun_action action (begun_action (of_action.Write items part)) names token)
one_more_item names items part token h =
    around_spelled begun_item item begun_action action (λ i. Part (of_action.Write items i)) (λ i. Part (of_action.Write (items ++ i ∷ []) of_item.Nothing))
    (begun_item part) (begun_action (of_action.Write items part)) names token (item_after names part token)
    (λ p after e. within (headed a_keyword.Write ⨾ any item items) (begun_item part) (begun_item p) names token after e)
    (λ i after e. then_element (headed a_keyword.Write) item items i (begun_item part) names token after e)
    h

write_spelled : (names : Names) (items : List FormItem) (part : ItemPart) (token : Token)
    → IfSome (write_after names items part token) (IsSpelled begun_action action (begun_action (of_action.Write items part)) names token)
write_spelled names items of_item.Nothing Close = then_last (headed a_keyword.Write ⨾ any item items) (the Close) names Close names (refl, refl)
write_spelled names items part token = one_more_item names items part token (item_spelled names part token)

action_closes : (one : FormAction) (names : Names) → Extends (closing_action one) names Close names (action one)
action_closes (an_action.Bind name t) names = then_one (closing_action (an_action.Bind name t)) (the Close) names Close names (refl, refl)
action_closes an_action.Halt names = then_one (closing_action an_action.Halt) (the Close) names Close names (refl, refl)
action_closes one names = λ before tokens h. absurd h

pub action_spelled : (names : Names) (part : ActionPart) (token : Token) → IfSome (action_after names part token) (IsSpelled begun_action action (begun_action part) names token)
action_spelled names of_action.Nothing Open = from_nothing (the Open) names Open names (refl, refl)
action_spelled names of_action.Head token = action_head_spelled names token
action_spelled names of_action.Make token =
    grown_by begun_action action (headed a_keyword.Make) names token (λ class. of_action.MakeSets class [] of_set.Nothing) symbol (symbol_of names token) (symbol_spelled names token)
    (λ class after one. open_lists (headed a_keyword.Make) (headed a_keyword.Make ⨾ symbol class) names token after (then_one (headed a_keyword.Make) (symbol class) names token after one))
action_spelled names (of_action.MakeSets class sets set) token = make_spelled names class (sets, set) token
action_spelled names of_action.Modify token =
    grown_by begun_action action (headed a_keyword.Modify) names token (λ at. of_action.ModifySets at [] of_set.Nothing) designator (designator_of names token) (designator_spelled names token)
    (λ at after one. open_lists (headed a_keyword.Modify) (headed a_keyword.Modify ⨾ designator at) names token after (then_one (headed a_keyword.Modify) (designator at) names token after one))
action_spelled names (of_action.ModifySets at sets set) token = modify_spelled names at (sets, set) token
action_spelled names (of_action.Remove ats) token = remove_spelled names ats token
action_spelled names of_action.Bind token =
    grown_by begun_action action (headed a_keyword.Bind) names token (λ name. of_action.Bound name of_term.Nothing) variable (variable_of names token) (variable_spelled names token)
    (λ name after one. open_part (headed a_keyword.Bind) (headed a_keyword.Bind ⨾ variable name) names token after (then_one (headed a_keyword.Bind) (variable name) names token after one))
action_spelled names (of_action.Bound name part) token = bind_spelled names name part token
action_spelled names (of_action.Write items part) token = write_spelled names items part token
action_spelled names (of_action.Closing one) Close = action_closes one names
action_spelled names part token = tt
