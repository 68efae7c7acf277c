-- A part of an action has an end.
use Rattle.std.proofs.Common.{ℕ, pos, List, [], ◌∷◌, ◌++◌, Some, refl}
use Rattle.ops_text.specs.Names.{Names, number_of, with_name}
use Rattle.ops_tokens.specs.declared.token.Keyword.TheVariants as a_keyword
use Rattle.ops_reader.specs.declared.form.FormAction.{FormAction}
use Rattle.ops_reader.specs.declared.form.FormAction.TheVariants as an_action
use Rattle.ops_reader.specs.declared.form.At.{At}
use Rattle.ops_reader.specs.declared.form.At.TheVariants as a_place
use Rattle.ops_reader.specs.declared.form.FormItem.{FormItem}
use Rattle.ops_reader.specs.declared.part.Step.TheVariants.{Part, Whole}
use Rattle.ops_reader.specs.declared.part.TermPart.{TermPart}
use Rattle.ops_reader.specs.declared.part.TermPart.TheVariants as of_term
use Rattle.ops_reader.specs.declared.part.TermSetPart.{TermSetPart}
use Rattle.ops_reader.specs.declared.part.TermSetPart.TheVariants as of_set
use Rattle.ops_reader.specs.declared.part.ItemPart.{ItemPart}
use Rattle.ops_reader.specs.declared.part.ItemPart.TheVariants as of_item
use Rattle.ops_reader.specs.declared.part.ActionPart.{ActionPart}
use Rattle.ops_reader.specs.declared.part.ActionPart.TheVariants as of_action
use Rattle.ops_tokens.specs.Token.{Token, Open, Close, Variable, Plain}
use Rattle.ops_reader.specs.TermReading.{term_after, term_sets_after}
use Rattle.ops_reader.specs.ItemReading.{item_after}
use Rattle.ops_reader.specs.ActionReading.{action_after}
use Rattle.ops_reader.specs.Reading.{Read}
use Rattle.ops_reader.proofs.CompleteBasics.{IsWithin, within_part}
use Rattle.ops_reader.proofs.CompleteActions.{sets_in_make, sets_in_modify, term_in_bind, with_item, item_in_write}
use Rattle.ops_reader.proofs.ViableBasics.{word, EndsBy, ends_around}
use Rattle.ops_reader.proofs.ViableExpressions.{ends_by_token, ends_at_token}
use Rattle.ops_reader.proofs.ViableTerms.{zero_value, rest_of_term, term_ends, ends_as, rest_of_term_sets, term_sets_end, rest_of_item, item_ends}

abbrev halt_word : Token
halt_word = Plain [] (Some a_keyword.Halt)

abbrev rest_of_write : ItemPart → List Token
rest_of_write of_item.Nothing = Close ∷ []
rest_of_write part = rest_of_item part ++ Close ∷ []

-- the shortest end
abbrev pub rest_of_action : ActionPart → List Token
rest_of_action of_action.Nothing = Open ∷ halt_word ∷ Close ∷ []
rest_of_action of_action.Head = halt_word ∷ Close ∷ []
rest_of_action of_action.Make = word ∷ Close ∷ []
rest_of_action (of_action.MakeSets class sets set) = rest_of_term_sets set
rest_of_action of_action.Modify = zero_value ∷ Close ∷ []
rest_of_action (of_action.ModifySets at sets set) = rest_of_term_sets set
rest_of_action (of_action.Remove ats) = zero_value ∷ Close ∷ []
rest_of_action of_action.Bind = Variable [] ∷ zero_value ∷ Close ∷ []
rest_of_action (of_action.Bound name part) = rest_of_term part ++ Close ∷ []
rest_of_action (of_action.Write items part) = rest_of_write part
rest_of_action (of_action.Closing one) = Close ∷ []

action_closing_ends : (from : ActionPart → Names → Read) (to : FormAction → Names → Read) → IsWithin action_after from to
    → (one : FormAction) (names : Names) → EndsBy (from (of_action.Closing one) names) to (Close ∷ [])
action_closing_ends from to there one names =
    ends_at_token Close (from (of_action.Closing one) names) to one names (there names (of_action.Closing one) Close (names, Whole one) refl)

head_ends : (from : ActionPart → Names → Read) (to : FormAction → Names → Read) → IsWithin action_after from to
    → (names : Names) → EndsBy (from of_action.Head names) to (halt_word ∷ Close ∷ [])
head_ends from to there names =
    ends_by_token halt_word (from of_action.Head names) (from (of_action.Closing an_action.Halt) names) to (Close ∷ [])
    (there names of_action.Head halt_word (names, Part (of_action.Closing an_action.Halt)) refl)
    (action_closing_ends from to there an_action.Halt names)

make_ends : (from : ActionPart → Names → Read) (to : FormAction → Names → Read) → IsWithin action_after from to
    → (class : ℕ) (sets : List _) (set : TermSetPart) (names : Names) → EndsBy (from (of_action.MakeSets class sets set) names) to (rest_of_term_sets set)
make_ends from to there class sets set names =
    ends_as (an_action.Make class) (from (of_action.MakeSets class sets set) names) to (rest_of_term_sets set)
    (term_sets_end (λ p. from (of_action.MakeSets class p.0 p.1)) (λ l. to (an_action.Make class l))
    (within_part term_sets_after action_after (λ p. of_action.MakeSets class p.0 p.1) (λ l. Whole (an_action.Make class l)) from to there (sets_in_make class)) sets set names)

modify_ends : (from : ActionPart → Names → Read) (to : FormAction → Names → Read) → IsWithin action_after from to
    → (at : At) (sets : List _) (set : TermSetPart) (names : Names) → EndsBy (from (of_action.ModifySets at sets set) names) to (rest_of_term_sets set)
modify_ends from to there at sets set names =
    ends_as (an_action.Modify at) (from (of_action.ModifySets at sets set) names) to (rest_of_term_sets set)
    (term_sets_end (λ p. from (of_action.ModifySets at p.0 p.1)) (λ l. to (an_action.Modify at l))
    (within_part term_sets_after action_after (λ p. of_action.ModifySets at p.0 p.1) (λ l. Whole (an_action.Modify at l)) from to there (sets_in_modify at)) sets set names)

-- one designator or more
remove_closes : (from : ActionPart → Names → Read) (to : FormAction → Names → Read) → IsWithin action_after from to
    → (ats : List At) (at : At) (names : Names) → EndsBy (from (of_action.Remove (ats ++ at ∷ [])) names) to (Close ∷ [])
remove_closes from to there [] at names =
    ends_at_token Close (from (of_action.Remove (at ∷ [])) names) to (an_action.Remove (at ∷ [])) names (there names (of_action.Remove (at ∷ [])) Close (names, Whole (an_action.Remove (at ∷ []))) refl)
remove_closes from to there (first ∷ ats) at names =
    let all = first ∷ (ats ++ at ∷ []) in
    ends_at_token Close (from (of_action.Remove all) names) to (an_action.Remove all) names (there names (of_action.Remove all) Close (names, Whole (an_action.Remove all)) refl)

remove_ends : (from : ActionPart → Names → Read) (to : FormAction → Names → Read) → IsWithin action_after from to
    → (ats : List At) (names : Names) → EndsBy (from (of_action.Remove ats) names) to (zero_value ∷ Close ∷ [])
remove_ends from to there ats names =
    let more = of_action.Remove (ats ++ a_place.Number (pos 0) ∷ []) in
    ends_by_token zero_value (from (of_action.Remove ats) names) (from more names) to (Close ∷ [])
    (there names (of_action.Remove ats) zero_value (names, Part more) refl)
    (remove_closes from to there ats (a_place.Number (pos 0)) names)

bind_ends : (from : ActionPart → Names → Read) (to : FormAction → Names → Read) → IsWithin action_after from to
    → (name : ℕ) (part : TermPart) (names : Names) → EndsBy (from (of_action.Bound name part) names) to (rest_of_term part ++ Close ∷ [])
bind_ends from to there name part names =
    ends_around (from (of_action.Bound name part) names) (λ t. from (of_action.Closing (an_action.Bind name t))) to (rest_of_term part) (Close ∷ [])
    (term_ends (λ p. from (of_action.Bound name p)) (λ t. from (of_action.Closing (an_action.Bind name t)))
    (within_part term_after action_after (of_action.Bound name) (λ t. Part (of_action.Closing (an_action.Bind name t))) from to there (term_in_bind name)) part names)
    (λ t more. action_closing_ends from to there (an_action.Bind name t) more)

write_closes : (from : ActionPart → Names → Read) (to : FormAction → Names → Read) → IsWithin action_after from to
    → (items : List FormItem) (names : Names) → EndsBy (from (of_action.Write items of_item.Nothing) names) to (Close ∷ [])
write_closes from to there items names =
    ends_at_token Close (from (of_action.Write items of_item.Nothing) names) to (an_action.Write items) names
    (there names (of_action.Write items of_item.Nothing) Close (names, Whole (an_action.Write items)) refl)

open_item_ends : (from : ActionPart → Names → Read) (to : FormAction → Names → Read) → IsWithin action_after from to
    → (items : List FormItem) (part : ItemPart) (names : Names) → EndsBy (from (of_action.Write items part) names) to (rest_of_item part ++ Close ∷ [])
open_item_ends from to there items part names =
    ends_around (from (of_action.Write items part) names) (λ i. from (of_action.Write (items ++ i ∷ []) of_item.Nothing)) to (rest_of_item part) (Close ∷ [])
    (item_ends (λ p. from (of_action.Write items p)) (λ i. from (of_action.Write (items ++ i ∷ []) of_item.Nothing))
    (within_part item_after action_after (of_action.Write items) (with_item items) from to there (item_in_write items)) part names)
    (λ i more. write_closes from to there (items ++ i ∷ []) more)

write_ends : (from : ActionPart → Names → Read) (to : FormAction → Names → Read) → IsWithin action_after from to
    → (items : List FormItem) (part : ItemPart) (names : Names) → EndsBy (from (of_action.Write items part) names) to (rest_of_write part)
write_ends from to there items of_item.Nothing names = write_closes from to there items names
write_ends from to there items part names = open_item_ends from to there items part names

pub actions_end : (from : ActionPart → Names → Read) (to : FormAction → Names → Read) → IsWithin action_after from to
    → (part : ActionPart) (names : Names) → EndsBy (from part names) to (rest_of_action part)
actions_end from to there of_action.Nothing names =
    ends_by_token Open (from of_action.Nothing names) (from of_action.Head names) to (halt_word ∷ Close ∷ [])
    (there names of_action.Nothing Open (names, Part of_action.Head) refl) (head_ends from to there names)
actions_end from to there of_action.Head names = head_ends from to there names
actions_end from to there of_action.Make names =
    let more = of_action.MakeSets (number_of names []) [] of_set.Nothing in
    ends_by_token word (from of_action.Make names) (from more (with_name names [])) to (Close ∷ [])
    (there names of_action.Make word (with_name names [], Part more) refl)
    (make_ends from to there (number_of names []) [] of_set.Nothing (with_name names []))
actions_end from to there (of_action.MakeSets class sets set) names = make_ends from to there class sets set names
actions_end from to there of_action.Modify names =
    let more = of_action.ModifySets (a_place.Number (pos 0)) [] of_set.Nothing in
    ends_by_token zero_value (from of_action.Modify names) (from more names) to (Close ∷ [])
    (there names of_action.Modify zero_value (names, Part more) refl)
    (modify_ends from to there (a_place.Number (pos 0)) [] of_set.Nothing names)
actions_end from to there (of_action.ModifySets at sets set) names = modify_ends from to there at sets set names
actions_end from to there (of_action.Remove ats) names = remove_ends from to there ats names
actions_end from to there of_action.Bind names =
    let more = of_action.Bound (number_of names []) of_term.Nothing in
    ends_by_token (Variable []) (from of_action.Bind names) (from more (with_name names [])) to (zero_value ∷ Close ∷ [])
    (there names of_action.Bind (Variable []) (with_name names [], Part more) refl)
    (bind_ends from to there (number_of names []) of_term.Nothing (with_name names []))
actions_end from to there (of_action.Bound name part) names = bind_ends from to there name part names
actions_end from to there (of_action.Write items part) names = write_ends from to there items part names
actions_end from to there (of_action.Closing one) names = action_closing_ends from to there one names
