-- An action leads from what stands before it to what is read behind it.
use Rattle.std.proofs.Common.{◌≡◌, ℕ, List, [], ◌∷◌, ◌++◌, Some, refl, sym, ap}
use Rattle.std.specs.Option.{option_map}
use Rattle.ops_text.specs.Names.{Names}
use Rattle.ops_tokens.specs.declared.token.Keyword.{Keyword}
use Rattle.ops_tokens.specs.declared.token.Keyword.TheVariants as a_keyword
use Rattle.ops_reader.specs.declared.form.FormAction.{FormAction}
use Rattle.ops_reader.specs.declared.form.FormAction.TheVariants as an_action
use Rattle.ops_reader.specs.declared.form.At.{At}
use Rattle.ops_reader.specs.declared.form.At.TheVariants as a_place
use Rattle.ops_reader.specs.declared.form.FormTerm.{FormTerm}
use Rattle.ops_reader.specs.declared.form.FormItem.{FormItem}
use Rattle.ops_reader.specs.declared.part.Step.{Step}
use Rattle.ops_reader.specs.declared.part.Step.TheVariants.{Part, Whole}
use Rattle.ops_reader.specs.declared.part.TermPart.TheVariants as of_term
use Rattle.ops_reader.specs.declared.part.TermSetPart.TheVariants as of_set
use Rattle.ops_reader.specs.declared.part.ItemPart.TheVariants as of_item
use Rattle.ops_reader.specs.declared.part.ActionPart.{ActionPart}
use Rattle.ops_reader.specs.declared.part.ActionPart.TheVariants as of_action
use Rattle.ops_tokens.specs.Token.{Token, Open, Close, Integer, Plain}
use Rattle.ops_reader.specs.Grammar.{◌⨾◌, any, the, keyword, symbol, variable, setting, term, designator, item, action}
use Rattle.ops_reader.specs.Taken.{Taken, symbol_of, variable_of, grown, around}
use Rattle.ops_reader.specs.TermReading.{TermSetsPart, term_after, term_sets_after}
use Rattle.ops_reader.specs.ItemReading.{item_after}
use Rattle.ops_reader.specs.ActionReading.{designator_of, action_head, action_after}
use Rattle.ops_reader.specs.Reading.{Read}
use Rattle.ops_reader.proofs.CompleteBasics.{Leads, leads_then, leads_any, leads_the, leads_keyword, leads_taken, IsTaken, symbol_taken, variable_taken, IsWithin, IsAround, within_part}
use Rattle.ops_reader.proofs.CompleteTerms.{leads_term, leads_term_sets, leads_term_sets_end, leads_item}

designator_named : (n : ℕ) (names : Names) (token : Token) (after : Names) → variable_of names token ≡ Some (after, n) → designator_of names token ≡ Some (after, a_place.Name n)
designator_named n names (Integer z) after e = absurd (cc)
designator_named n names token after e = ap (option_map (λ v. (v.0, a_place.Name v.1))) e

abbrev taken_place : At → Names → Taken At
taken_place at names = Some (names, at)

designator_taken : IsTaken designator_of designator
designator_taken (a_place.Number z) before tokens after h = (Integer z, h.0, ap (taken_place (a_place.Number z)) (sym h.1))
designator_taken (a_place.Name n) before tokens after h = let t = variable_taken n before tokens after h in (t.0, t.1, designator_named n before t.0 after t.2)

-- a bracket and the word of an action
leads_head : (from : ActionPart → Names → Read) (to : FormAction → Names → Read) → IsWithin action_after from to
    → (key : Keyword) (part : ActionPart) → ((names : Names) (word : List ℕ) → action_head names (Plain word (Some key)) ≡ Some (names, Part part))
    → Leads (the Open ⨾ keyword key) (from of_action.Nothing) (from part)
leads_head from to there key part e =
    leads_then (the Open) (keyword key) (from of_action.Nothing) (from of_action.Head) (from part)
    (leads_the Open (from of_action.Nothing) (from of_action.Head) (λ names. there names of_action.Nothing Open (names, Part of_action.Head) refl))
    (leads_keyword key (from of_action.Head) (from part) (λ names word. there names of_action.Head (Plain word (Some key)) (names, Part part) (e names word)))

-- the last bracket of an action
leads_action_close : (from : ActionPart → Names → Read) (to : FormAction → Names → Read) → IsWithin action_after from to
    → (one : FormAction) → Leads (the Close) (from (of_action.Closing one)) (to one)
leads_action_close from to there one =
    leads_the Close (from (of_action.Closing one)) (to one) (λ names. there names (of_action.Closing one) Close (names, Whole one) refl)

pub sets_in_make : (class : ℕ) → IsAround term_sets_after action_after (λ p. of_action.MakeSets class p.0 p.1) (λ sets. Whole (an_action.Make class sets))
sets_in_make class names part token x e = ap (around (λ p. Part (of_action.MakeSets class p.0 p.1)) (λ sets. Whole (an_action.Make class sets))) e

leads_make : (from : ActionPart → Names → Read) (to : FormAction → Names → Read) → IsWithin action_after from to
    → (class : ℕ) (sets : List (ℕ × FormTerm)) → Leads (action (an_action.Make class sets)) (from of_action.Nothing) (to (an_action.Make class sets))
leads_make from to there class sets =
    let within = λ (p : TermSetsPart). from (of_action.MakeSets class p.0 p.1) in
    let end = λ (l : List (ℕ × FormTerm)). to (an_action.Make class l) in
    let part : IsWithin term_sets_after within end = within_part term_sets_after action_after (λ p. of_action.MakeSets class p.0 p.1) (λ l. Whole (an_action.Make class l)) from to there (sets_in_make class) in
    leads_then (the Open ⨾ keyword a_keyword.Make ⨾ symbol class ⨾ any (setting term) sets) (the Close) (from of_action.Nothing) (within (sets, of_set.Nothing)) (end sets)
    (leads_then (the Open ⨾ keyword a_keyword.Make ⨾ symbol class) (any (setting term) sets) (from of_action.Nothing) (within ([], of_set.Nothing)) (within (sets, of_set.Nothing))
    (leads_then (the Open ⨾ keyword a_keyword.Make) (symbol class) (from of_action.Nothing) (from of_action.Make) (within ([], of_set.Nothing))
    (leads_head from to there a_keyword.Make of_action.Make (λ names word. refl))
    (leads_taken symbol_of symbol symbol_taken class (from of_action.Make) (within ([], of_set.Nothing))
    (λ names token after e. there names of_action.Make token (after, Part (of_action.MakeSets class [] of_set.Nothing)) (ap (grown (λ n. of_action.MakeSets n [] of_set.Nothing)) e))))
    (leads_term_sets within end part sets))
    (leads_term_sets_end within end part sets)

pub sets_in_modify : (at : At) → IsAround term_sets_after action_after (λ p. of_action.ModifySets at p.0 p.1) (λ sets. Whole (an_action.Modify at sets))
sets_in_modify at names part token x e = ap (around (λ p. Part (of_action.ModifySets at p.0 p.1)) (λ sets. Whole (an_action.Modify at sets))) e

leads_modify : (from : ActionPart → Names → Read) (to : FormAction → Names → Read) → IsWithin action_after from to
    → (at : At) (sets : List (ℕ × FormTerm)) → Leads (action (an_action.Modify at sets)) (from of_action.Nothing) (to (an_action.Modify at sets))
leads_modify from to there at sets =
    let within = λ (p : TermSetsPart). from (of_action.ModifySets at p.0 p.1) in
    let end = λ (l : List (ℕ × FormTerm)). to (an_action.Modify at l) in
    let part : IsWithin term_sets_after within end = within_part term_sets_after action_after (λ p. of_action.ModifySets at p.0 p.1) (λ l. Whole (an_action.Modify at l)) from to there (sets_in_modify at) in
    leads_then (the Open ⨾ keyword a_keyword.Modify ⨾ designator at ⨾ any (setting term) sets) (the Close) (from of_action.Nothing) (within (sets, of_set.Nothing)) (end sets)
    (leads_then (the Open ⨾ keyword a_keyword.Modify ⨾ designator at) (any (setting term) sets) (from of_action.Nothing) (within ([], of_set.Nothing)) (within (sets, of_set.Nothing))
    (leads_then (the Open ⨾ keyword a_keyword.Modify) (designator at) (from of_action.Nothing) (from of_action.Modify) (within ([], of_set.Nothing))
    (leads_head from to there a_keyword.Modify of_action.Modify (λ names word. refl))
    (leads_taken designator_of designator designator_taken at (from of_action.Modify) (within ([], of_set.Nothing))
    (λ names token after e. there names of_action.Modify token (after, Part (of_action.ModifySets at [] of_set.Nothing)) (ap (grown (λ a. of_action.ModifySets a [] of_set.Nothing)) e))))
    (leads_term_sets within end part sets))
    (leads_term_sets_end within end part sets)

removes : (ats : List At) (at : At) (names : Names) (token : Token) (after : Names) → designator_of names token ≡ Some (after, at)
    → action_after names (of_action.Remove ats) token ≡ Some (after, Part (of_action.Remove (ats ++ at ∷ [])))
removes ats at names Close after e = absurd (cc)
removes ats at names token after e = ap (grown (λ a. of_action.Remove (ats ++ a ∷ []))) e

leads_remove : (from : ActionPart → Names → Read) (to : FormAction → Names → Read) → IsWithin action_after from to
    → (ats : List At) → Leads (action (an_action.Remove ats)) (from of_action.Nothing) (to (an_action.Remove ats))
leads_remove from to there [] = λ before tokens after h more. absurd h.of_first.of_second
leads_remove from to there (at ∷ ats) =
    let within = λ (l : List At). from (of_action.Remove l) in
    leads_then (the Open ⨾ keyword a_keyword.Remove ⨾ any designator (at ∷ ats)) (the Close) (from of_action.Nothing) (within (at ∷ ats)) (to (an_action.Remove (at ∷ ats)))
    (leads_then (the Open ⨾ keyword a_keyword.Remove) (any designator (at ∷ ats)) (from of_action.Nothing) (within []) (within (at ∷ ats))
    (leads_head from to there a_keyword.Remove (of_action.Remove []) (λ names word. refl))
    (leads_any designator within
    (λ l a. leads_taken designator_of designator designator_taken a (within l) (within (l ++ a ∷ []))
    (λ names token after e. there names (of_action.Remove l) token (after, Part (of_action.Remove (l ++ a ∷ []))) (removes l a names token after e)))
    [] (at ∷ ats)))
    (leads_the Close (within (at ∷ ats)) (to (an_action.Remove (at ∷ ats)))
    (λ names. there names (of_action.Remove (at ∷ ats)) Close (names, Whole (an_action.Remove (at ∷ ats))) refl))

pub term_in_bind : (name : ℕ) → IsAround term_after action_after (of_action.Bound name) (λ t. Part (of_action.Closing (an_action.Bind name t)))
term_in_bind name names part token x e = ap (around (λ t. Part (of_action.Bound name t)) (λ t. Part (of_action.Closing (an_action.Bind name t)))) e

leads_bind : (from : ActionPart → Names → Read) (to : FormAction → Names → Read) → IsWithin action_after from to
    → (name : ℕ) (t : FormTerm) → Leads (action (an_action.Bind name t)) (from of_action.Nothing) (to (an_action.Bind name t))
leads_bind from to there name t =
    leads_then (the Open ⨾ keyword a_keyword.Bind ⨾ variable name ⨾ term t) (the Close) (from of_action.Nothing) (from (of_action.Closing (an_action.Bind name t))) (to (an_action.Bind name t))
    (leads_then (the Open ⨾ keyword a_keyword.Bind ⨾ variable name) (term t) (from of_action.Nothing) (from (of_action.Bound name of_term.Nothing)) (from (of_action.Closing (an_action.Bind name t)))
    (leads_then (the Open ⨾ keyword a_keyword.Bind) (variable name) (from of_action.Nothing) (from of_action.Bind) (from (of_action.Bound name of_term.Nothing))
    (leads_head from to there a_keyword.Bind of_action.Bind (λ names word. refl))
    (leads_taken variable_of variable variable_taken name (from of_action.Bind) (from (of_action.Bound name of_term.Nothing))
    (λ names token after e. there names of_action.Bind token (after, Part (of_action.Bound name of_term.Nothing)) (ap (grown (λ n. of_action.Bound n of_term.Nothing)) e))))
    (leads_term (λ p. from (of_action.Bound name p)) (λ u. from (of_action.Closing (an_action.Bind name u)))
    (within_part term_after action_after (of_action.Bound name) (λ u. Part (of_action.Closing (an_action.Bind name u))) from to there (term_in_bind name)) t))
    (leads_action_close from to there (an_action.Bind name t))

-- one more item
abbrev pub with_item : List FormItem → FormItem → Step ActionPart FormAction
with_item items i = Part (of_action.Write (items ++ i ∷ []) of_item.Nothing)

pub item_in_write : (items : List FormItem) → IsAround item_after action_after (of_action.Write items) (with_item items)
item_in_write items names of_item.Nothing Close x e = absurd (cc)
item_in_write items names part token x e = ap (around (λ i. Part (of_action.Write items i)) (with_item items)) e

leads_write : (from : ActionPart → Names → Read) (to : FormAction → Names → Read) → IsWithin action_after from to
    → (items : List FormItem) → Leads (action (an_action.Write items)) (from of_action.Nothing) (to (an_action.Write items))
leads_write from to there items =
    let within = λ (l : List FormItem). from (of_action.Write l of_item.Nothing) in
    leads_then (the Open ⨾ keyword a_keyword.Write ⨾ any item items) (the Close) (from of_action.Nothing) (within items) (to (an_action.Write items))
    (leads_then (the Open ⨾ keyword a_keyword.Write) (any item items) (from of_action.Nothing) (within []) (within items)
    (leads_head from to there a_keyword.Write (of_action.Write [] of_item.Nothing) (λ names word. refl))
    (leads_any item within
    (λ l i. leads_item (λ p. from (of_action.Write l p)) (λ j. from (of_action.Write (l ++ j ∷ []) of_item.Nothing))
    (within_part item_after action_after (of_action.Write l) (with_item l) from to there (item_in_write l)) i)
    [] items))
    (leads_the Close (within items) (to (an_action.Write items)) (λ names. there names (of_action.Write items of_item.Nothing) Close (names, Whole (an_action.Write items)) refl))

pub leads_action : (from : ActionPart → Names → Read) (to : FormAction → Names → Read) → IsWithin action_after from to
    → (one : FormAction) → Leads (action one) (from of_action.Nothing) (to one)
leads_action from to there (an_action.Make class sets) = leads_make from to there class sets
leads_action from to there (an_action.Modify at sets) = leads_modify from to there at sets
leads_action from to there (an_action.Remove ats) = leads_remove from to there ats
leads_action from to there (an_action.Bind name t) = leads_bind from to there name t
leads_action from to there (an_action.Write items) = leads_write from to there items
leads_action from to there an_action.Halt =
    leads_then (the Open ⨾ keyword a_keyword.Halt) (the Close) (from of_action.Nothing) (from (of_action.Closing an_action.Halt)) (to an_action.Halt)
    (leads_head from to there a_keyword.Halt (of_action.Closing an_action.Halt) (λ names word. refl))
    (leads_action_close from to there an_action.Halt)
