-- Each text is read to its end.
use Rattle.std.proofs.Common.{◌≡◌, ℕ, true, false, Bool, List, [], ◌∷◌, ◌++◌, Some, refl, sym, ap, ◌∙◌, append-nil}
use Rattle.std.specs.Option.{option_map}
use Rattle.ops_text.specs.Names.{Names}
use Rattle.rule_base.specs.declared.value.Value.{Value}
use Rattle.ops_tokens.specs.declared.token.Keyword.{Keyword}
use Rattle.ops_tokens.specs.declared.token.Keyword.TheVariants as a_keyword
use Rattle.ops_reader.specs.declared.form.Form.{Form}
use Rattle.ops_reader.specs.declared.form.Form.TheVariants as a_form
use Rattle.ops_reader.specs.declared.form.FormCond.{FormCond}
use Rattle.ops_reader.specs.declared.form.FormAction.{FormAction}
use Rattle.ops_reader.specs.declared.part.Step.{Step}
use Rattle.ops_reader.specs.declared.part.Step.TheVariants.{Part, Whole}
use Rattle.ops_reader.specs.declared.part.FormPart.{FormPart}
use Rattle.ops_reader.specs.declared.part.FormPart.TheVariants as of_form
use Rattle.ops_reader.specs.declared.part.SetPart.{SetPart}
use Rattle.ops_reader.specs.declared.part.SetPart.TheVariants as of_set
use Rattle.ops_reader.specs.declared.part.CondPart.TheVariants as of_cond
use Rattle.ops_reader.specs.declared.part.ActionPart.TheVariants as of_action
use Rattle.ops_tokens.specs.Token.{Token, Open, Close, Caret, Arrow, Plain}
use Rattle.ops_reader.specs.Grammar.{◌⨾◌, any, the, keyword, up_to, symbol, literal, setting, condition, action, strategy_word, form}
use Rattle.ops_reader.specs.Taken.{symbol_of, literal_of, number_up_to, grown, around}
use Rattle.ops_reader.specs.CondReading.{cond_after}
use Rattle.ops_reader.specs.ActionReading.{action_after}
use Rattle.ops_reader.specs.FormReading.{with_cond, with_action, attrs_after, form_after}
use Rattle.ops_reader.specs.Reading.{Read, with_form, start, run}
use Rattle.ops_reader.proofs.CompleteBasics.{at, Leads, leads_then, leads_any, leads_the, leads_keyword, leads_taken, symbol_taken, literal_taken, number_taken, step_read, IsWithin, IsAround, within_part}
use Rattle.ops_reader.proofs.CompleteConditions.{leads_condition}
use Rattle.ops_reader.proofs.CompleteActions.{leads_action}

-- what a part of a form and the forms before it become
form_step : (forms : List Form) (x : Names × Step FormPart Form) → with_form forms x ≡ step_read (at forms) (λ one. at (forms ++ one ∷ []) of_form.Nothing) x
form_step forms (after, Part p) = refl
form_step forms (after, Whole one) = refl

-- a part of a form stands behind whole forms
pub form_within : (forms : List Form) → IsWithin form_after (at forms) (λ one. at (forms ++ one ∷ []) of_form.Nothing)
form_within forms names part token x e = ap (option_map (with_form forms)) e ∙ ap Some (form_step forms x)

-- a condition element stands in a part of a rule
pub conds_around : (name : ℕ) (conds : List FormCond) → IsAround cond_after form_after (λ p. of_form.Conds name conds p) (with_cond name conds)
conds_around name conds names of_cond.Nothing Arrow x e = absurd (cc)
conds_around name conds names part token x e = ap (around (λ p. Part (of_form.Conds name conds p)) (with_cond name conds)) e

-- and so does an action
pub actions_around : (name : ℕ) (conds : List FormCond) (actions : List FormAction) → IsAround action_after form_after (λ p. of_form.Actions name conds actions p) (with_action name conds actions)
actions_around name conds actions names of_action.Nothing Close x e = absurd (cc)
actions_around name conds actions names part token x e = ap (around (λ p. Part (of_form.Actions name conds actions p)) (with_action name conds actions)) e

-- the bracket and the keyword of a form
leads_head : (from : FormPart → Names → Read) (to : Form → Names → Read) → IsWithin form_after from to → (key : Keyword) (part : FormPart)
    → ((names : Names) (word : List ℕ) → form_after names of_form.Head (Plain word (Some key)) ≡ Some (names, Part part))
    → Leads (the Open ⨾ keyword key) (from of_form.Nothing) (from part)
leads_head from to there key part head =
    leads_then (the Open) (keyword key) (from of_form.Nothing) (from of_form.Head) (from part)
    (leads_the Open (from of_form.Nothing) (from of_form.Head) (λ names. there names of_form.Nothing Open (names, Part of_form.Head) refl))
    (leads_keyword key (from of_form.Head) (from part) (λ names word. there names of_form.Head (Plain word (Some key)) (names, Part part) (head names word)))

-- an attribute of a class
attr_taken : (class : ℕ) (attrs : List ℕ) (n : ℕ) (names : Names) (token : Token) (after : Names) → symbol_of names token ≡ Some (after, n)
    → attrs_after names class attrs token ≡ Some (after, Part (of_form.Attrs class (attrs ++ n ∷ [])))
attr_taken class attrs n names Close after e = absurd (cc)
attr_taken class attrs n names token after e = ap (grown {V = Form} (λ m. of_form.Attrs class (attrs ++ m ∷ []))) e

leads_literalize : (from : FormPart → Names → Read) (to : Form → Names → Read) → IsWithin form_after from to → (class : ℕ) (attrs : List ℕ)
    → Leads (form (a_form.Literalize class attrs)) (from of_form.Nothing) (to (a_form.Literalize class attrs))
leads_literalize from to there class attrs =
    let begin = from of_form.Nothing in
    let within = λ (l : List ℕ). from (of_form.Attrs class l) in
    let whole = a_form.Literalize class attrs in
    leads_then (the Open ⨾ keyword a_keyword.Literalize ⨾ symbol class ⨾ any symbol attrs) (the Close) begin (within attrs) (to whole)
    (leads_then (the Open ⨾ keyword a_keyword.Literalize ⨾ symbol class) (any symbol attrs) begin (within []) (within attrs)
    (leads_then (the Open ⨾ keyword a_keyword.Literalize) (symbol class) begin (from of_form.Literalize) (within [])
    (leads_head from to there a_keyword.Literalize of_form.Literalize (λ names word. refl))
    (leads_taken symbol_of symbol symbol_taken class (from of_form.Literalize) (within [])
    (λ names token after e. there names of_form.Literalize token (after, Part (of_form.Attrs class [])) (ap (grown {V = Form} (λ n. of_form.Attrs n [])) e))))
    (leads_any symbol within
    (λ l n. leads_taken symbol_of symbol symbol_taken n (within l) (within (l ++ n ∷ []))
    (λ names token after e. there names (of_form.Attrs class l) token (after, Part (of_form.Attrs class (l ++ n ∷ []))) (attr_taken class l n names token after e)))
    [] attrs))
    (leads_the Close (within attrs) (to whole) (λ names. there names (of_form.Attrs class attrs) Close (names, Whole whole) refl))

-- `^`, an attribute and its value
leads_set : (from : FormPart → Names → Read) (to : Form → Names → Read) → IsWithin form_after from to → (class : ℕ) (sets : List (ℕ × Value)) (attr : ℕ) (v : Value)
    → Leads (setting literal (attr, v)) (from (of_form.Sets class sets of_set.Nothing)) (from (of_form.Sets class (sets ++ (attr, v) ∷ []) of_set.Nothing))
leads_set from to there class sets attr v =
    let within = λ (set : SetPart). from (of_form.Sets class sets set) in
    let behind = of_form.Sets class (sets ++ (attr, v) ∷ []) of_set.Nothing in
    leads_then (the Caret ⨾ symbol attr) (literal v) (within of_set.Nothing) (within (of_set.Attr attr)) (from behind)
    (leads_then (the Caret) (symbol attr) (within of_set.Nothing) (within of_set.Caret) (within (of_set.Attr attr))
    (leads_the Caret (within of_set.Nothing) (within of_set.Caret)
    (λ names. there names (of_form.Sets class sets of_set.Nothing) Caret (names, Part (of_form.Sets class sets of_set.Caret)) refl))
    (leads_taken symbol_of symbol symbol_taken attr (within of_set.Caret) (within (of_set.Attr attr))
    (λ names token after e. there names (of_form.Sets class sets of_set.Caret) token (after, Part (of_form.Sets class sets (of_set.Attr attr)))
    (ap (λ o. grown {V = Form} (λ s. of_form.Sets class sets s) (option_map (λ s. (s.0, of_set.Attr s.1)) o)) e))))
    (leads_taken literal_of literal literal_taken v (within (of_set.Attr attr)) (from behind)
    (λ names token after e. there names (of_form.Sets class sets (of_set.Attr attr)) token (after, Part behind)
    (ap (grown {V = Form} (λ w. of_form.Sets class (sets ++ (attr, w) ∷ []) of_set.Nothing)) e)))

leads_make : (from : FormPart → Names → Read) (to : Form → Names → Read) → IsWithin form_after from to → (class : ℕ) (sets : List (ℕ × Value))
    → Leads (form (a_form.Make class sets)) (from of_form.Nothing) (to (a_form.Make class sets))
leads_make from to there class sets =
    let begin = from of_form.Nothing in
    let within = λ (l : List (ℕ × Value)). from (of_form.Sets class l of_set.Nothing) in
    let whole = a_form.Make class sets in
    leads_then (the Open ⨾ keyword a_keyword.Make ⨾ symbol class ⨾ any (setting literal) sets) (the Close) begin (within sets) (to whole)
    (leads_then (the Open ⨾ keyword a_keyword.Make ⨾ symbol class) (any (setting literal) sets) begin (within []) (within sets)
    (leads_then (the Open ⨾ keyword a_keyword.Make) (symbol class) begin (from of_form.Make) (within [])
    (leads_head from to there a_keyword.Make of_form.Make (λ names word. refl))
    (leads_taken symbol_of symbol symbol_taken class (from of_form.Make) (within [])
    (λ names token after e. there names of_form.Make token (after, Part (of_form.Sets class [] of_set.Nothing)) (ap (grown {V = Form} (λ n. of_form.Sets n [] of_set.Nothing)) e))))
    (leads_any (setting literal) within (λ l set. leads_set from to there class l set.0 set.1) [] sets))
    (leads_the Close (within sets) (to whole) (λ names. there names (of_form.Sets class sets of_set.Nothing) Close (names, Whole whole) refl))

-- a rule up to its arrow
leads_conds : (from : FormPart → Names → Read) (to : Form → Names → Read) → IsWithin form_after from to → (name : ℕ) (conds : List FormCond)
    → Leads (the Open ⨾ keyword a_keyword.P ⨾ symbol name ⨾ any condition conds) (from of_form.Nothing) (from (of_form.Conds name conds of_cond.Nothing))
leads_conds from to there name conds =
    let begin = from of_form.Nothing in
    let within = λ (l : List FormCond). from (of_form.Conds name l of_cond.Nothing) in
    leads_then (the Open ⨾ keyword a_keyword.P ⨾ symbol name) (any condition conds) begin (within []) (within conds)
    (leads_then (the Open ⨾ keyword a_keyword.P) (symbol name) begin (from of_form.P) (within [])
    (leads_head from to there a_keyword.P of_form.P (λ names word. refl))
    (leads_taken symbol_of symbol symbol_taken name (from of_form.P) (within [])
    (λ names token after e. there names of_form.P token (after, Part (of_form.Conds name [] of_cond.Nothing)) (ap (grown {V = Form} (λ n. of_form.Conds n [] of_cond.Nothing)) e))))
    (leads_any condition within
    (λ l c. leads_condition (λ p. from (of_form.Conds name l p)) (λ one. within (l ++ one ∷ []))
    (within_part cond_after form_after (λ p. of_form.Conds name l p) (with_cond name l) from to there (conds_around name l)) c)
    [] conds)

leads_actions : (from : FormPart → Names → Read) (to : Form → Names → Read) → IsWithin form_after from to → (name : ℕ) (conds : List FormCond) (actions : List FormAction)
    → Leads (any action actions) (from (of_form.Actions name conds [] of_action.Nothing)) (from (of_form.Actions name conds actions of_action.Nothing))
leads_actions from to there name conds actions =
    let within = λ (l : List FormAction). from (of_form.Actions name conds l of_action.Nothing) in
    leads_any action within
    (λ l a. leads_action (λ p. from (of_form.Actions name conds l p)) (λ one. within (l ++ one ∷ []))
    (within_part action_after form_after (λ p. of_form.Actions name conds l p) (with_action name conds l) from to there (actions_around name conds l)) a)
    [] actions

leads_rule : (from : FormPart → Names → Read) (to : Form → Names → Read) → IsWithin form_after from to → (name : ℕ) (conds : List FormCond) (actions : List FormAction)
    → Leads (form (a_form.P name conds actions)) (from of_form.Nothing) (to (a_form.P name conds actions))
leads_rule from to there name [] actions = λ before tokens after h more. absurd h.of_first.of_first.of_first.of_second
leads_rule from to there name (c ∷ conds) actions =
    let all = c ∷ conds in
    let begin = from of_form.Nothing in
    let before = of_form.Conds name all of_cond.Nothing in
    let behind = λ (l : List FormAction). of_form.Actions name all l of_action.Nothing in
    let whole = a_form.P name all actions in
    leads_then (the Open ⨾ keyword a_keyword.P ⨾ symbol name ⨾ any condition all ⨾ the Arrow ⨾ any action actions) (the Close) begin (from (behind actions)) (to whole)
    (leads_then (the Open ⨾ keyword a_keyword.P ⨾ symbol name ⨾ any condition all ⨾ the Arrow) (any action actions) begin (from (behind [])) (from (behind actions))
    (leads_then (the Open ⨾ keyword a_keyword.P ⨾ symbol name ⨾ any condition all) (the Arrow) begin (from before) (from (behind []))
    (leads_conds from to there name all)
    (leads_the Arrow (from before) (from (behind [])) (λ names. there names before Arrow (names, Part (behind [])) refl)))
    (leads_actions from to there name all actions))
    (leads_the Close (from (behind actions)) (to whole) (λ names. there names (behind actions) Close (names, Whole whole) refl))

-- the word for a strategy
strategy_taken : (mea : Bool) (names : Names) (word : List ℕ) → form_after names of_form.Strategy (Plain word (Some (strategy_word mea))) ≡ Some (names, Part (of_form.Closing (a_form.Strategy mea)))
strategy_taken true names word = refl
strategy_taken false names word = refl

-- the last bracket of a form that lacks nothing else
leads_closing : (from : FormPart → Names → Read) (to : Form → Names → Read) → IsWithin form_after from to → (one : Form) → Leads (the Close) (from (of_form.Closing one)) (to one)
leads_closing from to there one =
    leads_the Close (from (of_form.Closing one)) (to one) (λ names. there names (of_form.Closing one) Close (names, Whole one) refl)

leads_strategy : (from : FormPart → Names → Read) (to : Form → Names → Read) → IsWithin form_after from to → (mea : Bool) → Leads (form (a_form.Strategy mea)) (from of_form.Nothing) (to (a_form.Strategy mea))
leads_strategy from to there mea =
    let begin = from of_form.Nothing in
    let whole = a_form.Strategy mea in
    leads_then (the Open ⨾ keyword a_keyword.Strategy ⨾ keyword (strategy_word mea)) (the Close) begin (from (of_form.Closing whole)) (to whole)
    (leads_then (the Open ⨾ keyword a_keyword.Strategy) (keyword (strategy_word mea)) begin (from of_form.Strategy) (from (of_form.Closing whole))
    (leads_head from to there a_keyword.Strategy of_form.Strategy (λ names word. refl))
    (leads_keyword (strategy_word mea) (from of_form.Strategy) (from (of_form.Closing whole))
    (λ names word. there names of_form.Strategy (Plain word (Some (strategy_word mea))) (names, Part (of_form.Closing whole)) (strategy_taken mea names word))))
    (leads_closing from to there whole)

leads_watch : (from : FormPart → Names → Read) (to : Form → Names → Read) → IsWithin form_after from to → (level : ℕ) → Leads (form (a_form.Watch level)) (from of_form.Nothing) (to (a_form.Watch level))
leads_watch from to there level =
    let begin = from of_form.Nothing in
    let whole = a_form.Watch level in
    leads_then (the Open ⨾ keyword a_keyword.Watch ⨾ up_to 3 level) (the Close) begin (from (of_form.Closing whole)) (to whole)
    (leads_then (the Open ⨾ keyword a_keyword.Watch) (up_to 3 level) begin (from of_form.Watch) (from (of_form.Closing whole))
    (leads_head from to there a_keyword.Watch of_form.Watch (λ names word. refl))
    (leads_taken (number_up_to 3) (up_to 3) (number_taken 3) level (from of_form.Watch) (from (of_form.Closing whole))
    (λ names token after e. there names of_form.Watch token (after, Part (of_form.Closing whole)) (ap (grown {V = Form} (λ n. of_form.Closing (a_form.Watch n))) e))))
    (leads_closing from to there whole)

leads_form : (from : FormPart → Names → Read) (to : Form → Names → Read) → IsWithin form_after from to → (one : Form) → Leads (form one) (from of_form.Nothing) (to one)
leads_form from to there (a_form.Literalize class attrs) = leads_literalize from to there class attrs
leads_form from to there (a_form.P name conds actions) = leads_rule from to there name conds actions
leads_form from to there (a_form.Make class sets) = leads_make from to there class sets
leads_form from to there (a_form.Strategy mea) = leads_strategy from to there mea
leads_form from to there (a_form.Watch level) = leads_watch from to there level

pub text_read : (before : Names) (forms : List Form) (tokens : List Token) (after : Names) → any form forms before tokens after → run (start before) tokens ≡ Some (record { names = after; forms = forms; part = of_form.Nothing })
text_read before forms tokens after h =
    ap (run (start before)) (sym (append-nil tokens))
    ∙ leads_any form (λ l. at l of_form.Nothing) (λ l one. leads_form (at l) (λ f. at (l ++ f ∷ []) of_form.Nothing) (form_within l) one) [] forms before tokens after h []
