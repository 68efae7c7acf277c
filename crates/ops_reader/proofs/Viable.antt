-- Whatever has been read can go on to a text: each part of a form has a shortest end.
use Rattle.std.proofs.Common.{◌≡◌, ℕ, pos, false, List, [], ◌∷◌, ◌++◌, Option, Some, refl, ap, ◌∙◌, sym, append-nil}
use Rattle.ops_text.specs.Names.{Names, number_of, with_name}
use Rattle.rule_base.specs.declared.value.Value.{Value}
use Rattle.rule_base.specs.declared.value.Value.TheVariants as a_value
use Rattle.ops_tokens.specs.declared.token.Keyword.TheVariants as a_keyword
use Rattle.ops_reader.specs.declared.form.Form.{Form}
use Rattle.ops_reader.specs.declared.form.Form.TheVariants as a_form
use Rattle.ops_reader.specs.declared.form.FormCond.{FormCond}
use Rattle.ops_reader.specs.declared.form.FormAction.{FormAction}
use Rattle.ops_reader.specs.declared.part.Step.TheVariants.{Part, Whole}
use Rattle.ops_reader.specs.declared.part.FormPart.{FormPart}
use Rattle.ops_reader.specs.declared.part.FormPart.TheVariants as of_form
use Rattle.ops_reader.specs.declared.part.SetPart.{SetPart}
use Rattle.ops_reader.specs.declared.part.SetPart.TheVariants as of_set
use Rattle.ops_reader.specs.declared.part.CondPart.{CondPart}
use Rattle.ops_reader.specs.declared.part.CondPart.TheVariants as of_cond
use Rattle.ops_reader.specs.declared.part.ActionPart.{ActionPart}
use Rattle.ops_reader.specs.declared.part.ActionPart.TheVariants as of_action
use Rattle.ops_tokens.specs.Token.{Token, Close, Arrow, Integer, Plain}
use Rattle.ops_reader.specs.CondReading.{cond_after}
use Rattle.ops_reader.specs.ActionReading.{action_after}
use Rattle.ops_reader.specs.FormReading.{with_cond, with_action, arrow_after, form_after}
use Rattle.ops_reader.specs.Reading.{Read, run}
use Rattle.ops_reader.proofs.CompleteBasics.{at, IsWithin, within_part}
use Rattle.ops_reader.proofs.Complete.{form_within, conds_around, actions_around}
use Rattle.ops_reader.proofs.ViableBasics.{word, EndsBy, ends_token, token_then, ends_around}
use Rattle.ops_reader.proofs.ViableConditions.{rest_of_cond, cond_ends}
use Rattle.ops_reader.proofs.ViableActions.{rest_of_action, actions_end}

-- the shortest ends
abbrev rest_of_sets : SetPart → List Token
rest_of_sets of_set.Nothing = Close ∷ []
rest_of_sets of_set.Caret = word ∷ word ∷ Close ∷ []
rest_of_sets (of_set.Attr attr) = word ∷ Close ∷ []

abbrev pub rest_of_form : FormPart → List Token
rest_of_form of_form.Nothing = []
rest_of_form of_form.Head = Plain [] (Some a_keyword.Make) ∷ word ∷ Close ∷ []
rest_of_form of_form.Literalize = word ∷ Close ∷ []
rest_of_form (of_form.Attrs class attrs) = Close ∷ []
rest_of_form of_form.Make = word ∷ Close ∷ []
rest_of_form (of_form.Sets class sets set) = rest_of_sets set
rest_of_form of_form.P = word ∷ rest_of_cond of_cond.Nothing ++ Arrow ∷ Close ∷ []
rest_of_form (of_form.Conds name conds cond) = rest_of_cond cond ++ Arrow ∷ Close ∷ []
rest_of_form (of_form.Actions name conds actions action) = rest_of_action action ++ Close ∷ []
rest_of_form of_form.Strategy = Plain [] (Some a_keyword.Lex) ∷ Close ∷ []
rest_of_form of_form.Watch = Integer (pos 0) ∷ Close ∷ []
rest_of_form (of_form.Closing one) = Close ∷ []

attrs_end : (from : FormPart → Names → Read) (to : Form → Names → Read) → IsWithin form_after from to → (class : ℕ) (attrs : List ℕ) (names : Names)
    → EndsBy (from (of_form.Attrs class attrs) names) to (Close ∷ [])
attrs_end from to there class attrs names =
    ends_token (from (of_form.Attrs class attrs) names) to Close (a_form.Literalize class attrs) names (there names (of_form.Attrs class attrs) Close (names, Whole (a_form.Literalize class attrs)) refl)

literalize_ends : (from : FormPart → Names → Read) (to : Form → Names → Read) → IsWithin form_after from to → (names : Names) → EndsBy (from of_form.Literalize names) to (word ∷ Close ∷ [])
literalize_ends from to there names =
    let begun = of_form.Attrs (number_of names []) [] in
    let after = with_name names [] in
    token_then (from of_form.Literalize names) (from begun after) to word (Close ∷ []) (there names of_form.Literalize word (after, Part begun) refl)
    (attrs_end from to there (number_of names []) [] after)

sets_end : (from : FormPart → Names → Read) (to : Form → Names → Read) → IsWithin form_after from to → (class : ℕ) (sets : List (ℕ × Value)) (names : Names)
    → EndsBy (from (of_form.Sets class sets of_set.Nothing) names) to (Close ∷ [])
sets_end from to there class sets names =
    ends_token (from (of_form.Sets class sets of_set.Nothing) names) to Close (a_form.Make class sets) names
    (there names (of_form.Sets class sets of_set.Nothing) Close (names, Whole (a_form.Make class sets)) refl)

value_ends : (from : FormPart → Names → Read) (to : Form → Names → Read) → IsWithin form_after from to → (class : ℕ) (sets : List (ℕ × Value)) (attr : ℕ) (names : Names)
    → EndsBy (from (of_form.Sets class sets (of_set.Attr attr)) names) to (word ∷ Close ∷ [])
value_ends from to there class sets attr names =
    let longer = sets ++ (attr, a_value.Sym (number_of names [])) ∷ [] in
    let behind = of_form.Sets class longer of_set.Nothing in
    let after = with_name names [] in
    token_then (from (of_form.Sets class sets (of_set.Attr attr)) names) (from behind after) to word (Close ∷ [])
    (there names (of_form.Sets class sets (of_set.Attr attr)) word (after, Part behind) refl) (sets_end from to there class longer after)

set_ends : (from : FormPart → Names → Read) (to : Form → Names → Read) → IsWithin form_after from to → (class : ℕ) (sets : List (ℕ × Value)) (set : SetPart) (names : Names)
    → EndsBy (from (of_form.Sets class sets set) names) to (rest_of_sets set)
set_ends from to there class sets of_set.Nothing names = sets_end from to there class sets names
set_ends from to there class sets of_set.Caret names =
    let behind = of_form.Sets class sets (of_set.Attr (number_of names [])) in
    let after = with_name names [] in
    token_then (from (of_form.Sets class sets of_set.Caret) names) (from behind after) to word (word ∷ Close ∷ [])
    (there names (of_form.Sets class sets of_set.Caret) word (after, Part behind) refl) (value_ends from to there class sets (number_of names []) after)
set_ends from to there class sets (of_set.Attr attr) names = value_ends from to there class sets attr names

make_ends : (from : FormPart → Names → Read) (to : Form → Names → Read) → IsWithin form_after from to → (names : Names) → EndsBy (from of_form.Make names) to (word ∷ Close ∷ [])
make_ends from to there names =
    let begun = of_form.Sets (number_of names []) [] of_set.Nothing in
    let after = with_name names [] in
    token_then (from of_form.Make names) (from begun after) to word (Close ∷ []) (there names of_form.Make word (after, Part begun) refl)
    (sets_end from to there (number_of names []) [] after)

-- the actions of a rule, where none has begun
rule_ends : (from : FormPart → Names → Read) (to : Form → Names → Read) → IsWithin form_after from to → (name : ℕ) (conds : List FormCond) (actions : List FormAction) (names : Names)
    → EndsBy (from (of_form.Actions name conds actions of_action.Nothing) names) to (Close ∷ [])
rule_ends from to there name conds actions names =
    ends_token (from (of_form.Actions name conds actions of_action.Nothing) names) to Close (a_form.P name conds actions) names
    (there names (of_form.Actions name conds actions of_action.Nothing) Close (names, Whole (a_form.P name conds actions)) refl)

-- some condition stands before the arrow
arrow_taken : (names : Names) (name : ℕ) (conds : List FormCond) (c : FormCond) → arrow_after names name (conds ++ c ∷ []) ≡ Some (names, Part (of_form.Actions name (conds ++ c ∷ []) [] of_action.Nothing))
arrow_taken names name [] c = refl
arrow_taken names name (d ∷ ds) c = refl

arrow_ends : (from : FormPart → Names → Read) (to : Form → Names → Read) → IsWithin form_after from to → (name : ℕ) (conds : List FormCond) (c : FormCond) (names : Names)
    → EndsBy (from (of_form.Conds name (conds ++ c ∷ []) of_cond.Nothing) names) to (Arrow ∷ Close ∷ [])
arrow_ends from to there name conds c names =
    let all = conds ++ c ∷ [] in
    let behind = of_form.Actions name all [] of_action.Nothing in
    token_then (from (of_form.Conds name all of_cond.Nothing) names) (from behind names) to Arrow (Close ∷ [])
    (there names (of_form.Conds name all of_cond.Nothing) Arrow (names, Part behind) (arrow_taken names name conds c)) (rule_ends from to there name all [] names)

conds_end : (from : FormPart → Names → Read) (to : Form → Names → Read) → IsWithin form_after from to → (name : ℕ) (conds : List FormCond) (part : CondPart) (names : Names)
    → EndsBy (from (of_form.Conds name conds part) names) to (rest_of_cond part ++ Arrow ∷ Close ∷ [])
conds_end from to there name conds part names =
    let behind = λ (c : FormCond). from (of_form.Conds name (conds ++ c ∷ []) of_cond.Nothing) in
    ends_around (from (of_form.Conds name conds part) names) behind to (rest_of_cond part) (Arrow ∷ Close ∷ [])
    (cond_ends (λ p. from (of_form.Conds name conds p)) behind
    (within_part cond_after form_after (λ p. of_form.Conds name conds p) (with_cond name conds) from to there (conds_around name conds)) part names)
    (λ c after. arrow_ends from to there name conds c after)

name_ends : (from : FormPart → Names → Read) (to : Form → Names → Read) → IsWithin form_after from to → (names : Names) → EndsBy (from of_form.P names) to (rest_of_form of_form.P)
name_ends from to there names =
    let begun = of_form.Conds (number_of names []) [] of_cond.Nothing in
    let after = with_name names [] in
    token_then (from of_form.P names) (from begun after) to word (rest_of_cond of_cond.Nothing ++ Arrow ∷ Close ∷ []) (there names of_form.P word (after, Part begun) refl)
    (conds_end from to there (number_of names []) [] of_cond.Nothing after)

rule_part_ends : (from : FormPart → Names → Read) (to : Form → Names → Read) → IsWithin form_after from to → (name : ℕ) (conds : List FormCond) (actions : List FormAction) (part : ActionPart) (names : Names)
    → EndsBy (from (of_form.Actions name conds actions part) names) to (rest_of_action part ++ Close ∷ [])
rule_part_ends from to there name conds actions part names =
    let behind = λ (a : FormAction). from (of_form.Actions name conds (actions ++ a ∷ []) of_action.Nothing) in
    ends_around (from (of_form.Actions name conds actions part) names) behind to (rest_of_action part) (Close ∷ [])
    (actions_end (λ p. from (of_form.Actions name conds actions p)) behind
    (within_part action_after form_after (λ p. of_form.Actions name conds actions p) (with_action name conds actions) from to there (actions_around name conds actions)) part names)
    (λ a after. rule_ends from to there name conds (actions ++ a ∷ []) after)

closing_ends : (from : FormPart → Names → Read) (to : Form → Names → Read) → IsWithin form_after from to → (one : Form) (names : Names) → EndsBy (from (of_form.Closing one) names) to (Close ∷ [])
closing_ends from to there one names = ends_token (from (of_form.Closing one) names) to Close one names (there names (of_form.Closing one) Close (names, Whole one) refl)

-- it has been read to the end of a form
pub record Ends (o : Option Read) : Type 0 where
  pub names : Names
  pub forms : List Form
  pub read : o ≡ Some (at forms of_form.Nothing names)

-- an end of the next form is an end of the text
ended : (forms : List Form) (part : FormPart) (names : Names) (tokens : List Token) → EndsBy (at forms part names) (λ one. at (forms ++ one ∷ []) of_form.Nothing) tokens → Ends (run (at forms part names) tokens)
ended forms part names tokens end = record {
  names = end.names;
  forms = forms ++ end.whole ∷ [];
  read = ap (run (at forms part names)) (sym (append-nil tokens)) ∙ end.ends [];
}

part_ends : (forms : List Form) (part : FormPart) (names : Names) → (part ≡ of_form.Nothing → ⊥) → EndsBy (at forms part names) (λ one. at (forms ++ one ∷ []) of_form.Nothing) (rest_of_form part)
part_ends forms of_form.Nothing names begun = absurd (begun refl)
part_ends forms of_form.Head names begun =
    token_then (at forms of_form.Head names) (at forms of_form.Make names) (λ one. at (forms ++ one ∷ []) of_form.Nothing) (Plain [] (Some a_keyword.Make)) (word ∷ Close ∷ []) refl
    (make_ends (at forms) (λ one. at (forms ++ one ∷ []) of_form.Nothing) (form_within forms) names)
part_ends forms of_form.Literalize names begun = literalize_ends (at forms) (λ one. at (forms ++ one ∷ []) of_form.Nothing) (form_within forms) names
part_ends forms (of_form.Attrs class attrs) names begun = attrs_end (at forms) (λ one. at (forms ++ one ∷ []) of_form.Nothing) (form_within forms) class attrs names
part_ends forms of_form.Make names begun = make_ends (at forms) (λ one. at (forms ++ one ∷ []) of_form.Nothing) (form_within forms) names
part_ends forms (of_form.Sets class sets set) names begun = set_ends (at forms) (λ one. at (forms ++ one ∷ []) of_form.Nothing) (form_within forms) class sets set names
part_ends forms of_form.P names begun = name_ends (at forms) (λ one. at (forms ++ one ∷ []) of_form.Nothing) (form_within forms) names
part_ends forms (of_form.Conds name conds part) names begun = conds_end (at forms) (λ one. at (forms ++ one ∷ []) of_form.Nothing) (form_within forms) name conds part names
part_ends forms (of_form.Actions name conds actions part) names begun = rule_part_ends (at forms) (λ one. at (forms ++ one ∷ []) of_form.Nothing) (form_within forms) name conds actions part names
part_ends forms of_form.Strategy names begun =
    token_then (at forms of_form.Strategy names) (at forms (of_form.Closing (a_form.Strategy false)) names) (λ one. at (forms ++ one ∷ []) of_form.Nothing) (Plain [] (Some a_keyword.Lex)) (Close ∷ []) refl
    (closing_ends (at forms) (λ one. at (forms ++ one ∷ []) of_form.Nothing) (form_within forms) (a_form.Strategy false) names)
part_ends forms of_form.Watch names begun =
    token_then (at forms of_form.Watch names) (at forms (of_form.Closing (a_form.Watch 0)) names) (λ one. at (forms ++ one ∷ []) of_form.Nothing) (Integer (pos 0)) (Close ∷ []) refl
    (closing_ends (at forms) (λ one. at (forms ++ one ∷ []) of_form.Nothing) (form_within forms) (a_form.Watch 0) names)
part_ends forms (of_form.Closing one) names begun = closing_ends (at forms) (λ f. at (forms ++ f ∷ []) of_form.Nothing) (form_within forms) one names

pub form_ends : (names : Names) (forms : List Form) (part : FormPart) → Ends (run (at forms part names) (rest_of_form part))
form_ends names forms of_form.Nothing = record { names = names; forms = forms; read = refl }
form_ends names forms part = ended forms part names (rest_of_form part) (part_ends forms part names (λ e. absurd (cc)))
