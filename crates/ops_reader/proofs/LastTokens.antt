-- What stands last before a head, and before the value of a `bind`.
use Rattle.std.proofs.Common.{◌≡◌, ℕ, List, [], ◌∷◌, ◌++◌, Some, sym, ap, ◌∙◌, append_assoc, append-nil}
use Rattle.ops_text.specs.Names.{Names}
use Rattle.ops_tokens.specs.declared.token.Keyword.TheVariants as a_keyword
use Rattle.ops_reader.specs.declared.part.Inner.{Inner}
use Rattle.ops_reader.specs.declared.part.Inner.TheVariants as of_inner
use Rattle.ops_reader.specs.declared.part.TermPart.{TermPart}
use Rattle.ops_reader.specs.declared.part.TermPart.TheVariants as of_term
use Rattle.ops_reader.specs.declared.part.TermSetPart.{TermSetPart}
use Rattle.ops_reader.specs.declared.part.TermSetPart.TheVariants as of_set
use Rattle.ops_reader.specs.declared.part.ItemPart.{ItemPart}
use Rattle.ops_reader.specs.declared.part.ItemPart.TheVariants as of_item
use Rattle.ops_reader.specs.declared.part.ActionPart.{ActionPart}
use Rattle.ops_reader.specs.declared.part.ActionPart.TheVariants as of_action
use Rattle.ops_reader.specs.declared.part.TestPart.{TestPart}
use Rattle.ops_reader.specs.declared.part.TestPart.TheVariants as of_test
use Rattle.ops_reader.specs.declared.part.PatternPart.{PatternPart}
use Rattle.ops_reader.specs.declared.part.PatternPart.TheVariants as of_pattern
use Rattle.ops_reader.specs.declared.part.CondPart.{CondPart}
use Rattle.ops_reader.specs.declared.part.CondPart.TheVariants as of_cond
use Rattle.ops_reader.specs.declared.part.SetPart.TheVariants as of_form_set
use Rattle.ops_reader.specs.declared.part.FormPart.{FormPart}
use Rattle.ops_reader.specs.declared.part.FormPart.TheVariants as of_form
use Rattle.ops_reader.specs.declared.slot.Slot.{Slot}
use Rattle.ops_reader.specs.declared.slot.Slot.TheVariants as slot
use Rattle.ops_tokens.specs.Token.{Token, Open, Close, Variable, Plain}
use Rattle.ops_tokens.specs.Naming.{variable_name}
use Rattle.ops_reader.specs.Grammar.{nothing, ◌⨾◌, the, keyword, variable}
use Rattle.ops_reader.specs.Refusal.{IsEmptyBind}
use Rattle.ops_reader.specs.Slot.{inner_slot, term_slot, value_slot, set_slot, item_slot, action_slot, test_slot, pattern_slot, condition_slot, form_slot}
use Rattle.ops_reader.proofs.SoundTerms.{begun_term, begun_term_set, begun_item}
use Rattle.ops_reader.proofs.SoundActions.{begun_action}
use Rattle.ops_reader.proofs.Sound.{begun_form, HasRead}
use Rattle.ops_reader.specs.Reading.{Read}

-- what begins with one token or more and ends with a bracket
abbrev EndsOpen : List Token → Type 0
EndsOpen tokens = (before : List Token) × (tokens ≡ before ++ Open ∷ [])

open_behind : (front back tokens : List Token) → tokens ≡ front ++ back → EndsOpen back → EndsOpen tokens
open_behind front back tokens cut (before, e) = (front ++ before, cut ∙ ap (λ l. front ++ l) e ∙ sym (append_assoc front before (Open ∷ [])))

bind_behind : (front back tokens : List Token) → tokens ≡ front ++ back → IsEmptyBind back Close → IsEmptyBind tokens Close
bind_behind front back tokens cut (before, word, name, e) =
    (front ++ before, word, name, cut ∙ ap (λ l. front ++ l) e ∙ sym (append_assoc front before (Open ∷ Plain word (Some a_keyword.Bind) ∷ Variable name ∷ [])))

-- neither an expression nor a condition element has a head or the value of a `bind`
abbrev IsPlain : Slot → Type 0
IsPlain s = ¬ (s ≡ slot.Head) × ¬ (s ≡ slot.BindValue)

inner_plain : (inner : Inner) → IsPlain (inner_slot inner)
inner_plain (of_inner.Before before) = (λ e. cc (e), λ e. cc (e))
inner_plain (of_inner.Behind e) = (λ e. cc (e), λ e. cc (e))

test_plain : (part : TestPart) → IsPlain (test_slot part)
test_plain of_test.Nothing = (λ e. cc (e), λ e. cc (e))
test_plain of_test.Caret = (λ e. cc (e), λ e. cc (e))
test_plain part = (λ e. cc (e), λ e. cc (e))

pattern_plain : (part : PatternPart) → IsPlain (pattern_slot part)
pattern_plain (of_pattern.Tests class tests part) = test_plain part
pattern_plain part = (λ e. cc (e), λ e. cc (e))

condition_plain : (part : CondPart) → IsPlain (condition_slot part)
condition_plain (of_cond.Plain part) = pattern_plain part
condition_plain (of_cond.Negated part) = pattern_plain part
condition_plain (of_cond.Named name part) = pattern_plain part
condition_plain (of_cond.Unnamed part) = pattern_plain part
condition_plain part = (λ e. cc (e), λ e. cc (e))

-- a head stands behind a bracket
term_open : (part : TermPart) → term_slot part ≡ slot.Head → (before : Names) (tokens : List Token) (after : Names) → begun_term part before tokens after → EndsOpen tokens
term_open of_term.Nothing e before tokens after h = absurd (cc (e))
term_open of_term.Head e before tokens after h = ([], h.0)
term_open (of_term.Compute part) e before tokens after h = absurd ((inner_plain part.inner).0 e)

value_open : (part : TermPart) → value_slot part ≡ slot.Head → (before : Names) (tokens : List Token) (after : Names) → begun_term part before tokens after → EndsOpen tokens
value_open of_term.Nothing e before tokens after h = absurd (cc (e))
value_open of_term.Head e before tokens after h = ([], h.0)
value_open (of_term.Compute part) e before tokens after h = absurd ((inner_plain part.inner).0 e)

set_open : (part : TermSetPart) → set_slot part ≡ slot.Head → (before : Names) (tokens : List Token) (after : Names) → begun_term_set part before tokens after → EndsOpen tokens
set_open (of_set.Attr attr part) e before tokens after h = open_behind h.front h.back tokens h.cut (term_open part e h.between h.back after h.of_second)
set_open part e before tokens after h = absurd (cc (e))

item_open : (part : ItemPart) → item_slot part ≡ slot.Head → (before : Names) (tokens : List Token) (after : Names) → begun_item part before tokens after → EndsOpen tokens
item_open of_item.Head e before tokens after h = ([], h.0)
item_open (of_item.Compute part) e before tokens after h = absurd ((inner_plain part.inner).0 e)
item_open part e before tokens after h = absurd (cc (e))

action_open : (part : ActionPart) → action_slot part ≡ slot.Head → (before : Names) (tokens : List Token) (after : Names) → begun_action part before tokens after → EndsOpen tokens
action_open of_action.Head e before tokens after h = ([], h.0)
action_open (of_action.MakeSets class sets part) e before tokens after h = open_behind h.front h.back tokens h.cut (set_open part e h.between h.back after h.of_second)
action_open (of_action.ModifySets at sets part) e before tokens after h = open_behind h.front h.back tokens h.cut (set_open part e h.between h.back after h.of_second)
action_open (of_action.Bound name part) e before tokens after h = open_behind h.front h.back tokens h.cut (value_open part e h.between h.back after h.of_second)
action_open (of_action.Write items part) e before tokens after h = open_behind h.front h.back tokens h.cut (item_open part e h.between h.back after h.of_second)
action_open part e before tokens after h = absurd (cc (e))

form_open : (part : FormPart) → form_slot part ≡ slot.Head → (before : Names) (tokens : List Token) (after : Names) → begun_form part before tokens after → EndsOpen tokens
form_open of_form.Head e before tokens after h = ([], h.0)
form_open (of_form.Sets class sets of_form_set.Nothing) e before tokens after h = absurd (cc (e))
form_open (of_form.Sets class sets of_form_set.Caret) e before tokens after h = absurd (cc (e))
form_open (of_form.Sets class sets (of_form_set.Attr attr)) e before tokens after h = absurd (cc (e))
form_open (of_form.Conds name conds part) e before tokens after h = absurd ((condition_plain part).0 e)
form_open (of_form.Actions name conds actions part) e before tokens after h = open_behind h.front h.back tokens h.cut (action_open part e h.between h.back after h.of_second)
form_open part e before tokens after h = absurd (cc (e))

pub behind_bracket : (names : Names) (tokens : List Token) (read : Read) → HasRead names tokens read → form_slot read.part ≡ slot.Head → EndsOpen tokens
behind_bracket names tokens read h e = open_behind h.front h.back tokens h.cut (form_open read.part e h.between h.back read.names h.of_second)

-- the value of a `bind` stands behind a bracket, the word and a variable
term_unbound : (part : TermPart) → ¬ (term_slot part ≡ slot.BindValue)
term_unbound of_term.Nothing e = cc (e)
term_unbound of_term.Head e = cc (e)
term_unbound (of_term.Compute part) e = (inner_plain part.inner).1 e

set_unbound : (part : TermSetPart) → ¬ (set_slot part ≡ slot.BindValue)
set_unbound (of_set.Attr attr part) e = term_unbound part e
set_unbound part e = cc (e)

item_unbound : (part : ItemPart) → ¬ (item_slot part ≡ slot.BindValue)
item_unbound (of_item.Compute part) e = (inner_plain part.inner).1 e
item_unbound part e = cc (e)

variable_is : (token : Token) (name : List ℕ) → variable_name token ≡ Some name → token ≡ Variable name
variable_is (Variable own) name e = cc (e)
variable_is token name e = absurd (cc (e))

empty_bind : (n : ℕ) (before : Names) (tokens : List Token) (after : Names) → (the Open ⨾ keyword a_keyword.Bind ⨾ variable n ⨾ nothing) before tokens after → IsEmptyBind tokens Close
empty_bind n before tokens after h =
    let bracket = h.of_first.of_first.of_first.0 in
    let word = h.of_first.of_first.of_second in
    let name = h.of_first.of_second in
    let named = name.2 ∙ ap (λ t. t ∷ []) (variable_is name.0 name.1 name.3) in
    let two = h.of_first.of_first.cut ∙ ap (λ l. l ++ h.of_first.of_first.back) bracket ∙ ap (λ l. Open ∷ l) word.1 in
    let three = h.of_first.cut ∙ ap (λ l. l ++ h.of_first.back) two ∙ ap (λ l. Open ∷ Plain word.0 (Some a_keyword.Bind) ∷ l) named in
    ([], word.0, name.1, h.cut ∙ ap (λ l. h.front ++ l) h.of_second.0 ∙ append-nil h.front ∙ three)

action_bound : (part : ActionPart) → action_slot part ≡ slot.BindValue → (before : Names) (tokens : List Token) (after : Names) → begun_action part before tokens after → IsEmptyBind tokens Close
action_bound (of_action.MakeSets class sets part) e before tokens after h = absurd (set_unbound part e)
action_bound (of_action.ModifySets at sets part) e before tokens after h = absurd (set_unbound part e)
action_bound (of_action.Bound name of_term.Nothing) e before tokens after h = empty_bind name before tokens after h
action_bound (of_action.Bound name of_term.Head) e before tokens after h = absurd (cc (e))
action_bound (of_action.Bound name (of_term.Compute part)) e before tokens after h = absurd ((inner_plain part.inner).1 e)
action_bound (of_action.Write items part) e before tokens after h = absurd (item_unbound part e)
action_bound part e before tokens after h = absurd (cc (e))

form_bound : (part : FormPart) → form_slot part ≡ slot.BindValue → (before : Names) (tokens : List Token) (after : Names) → begun_form part before tokens after → IsEmptyBind tokens Close
form_bound (of_form.Sets class sets of_form_set.Nothing) e before tokens after h = absurd (cc (e))
form_bound (of_form.Sets class sets of_form_set.Caret) e before tokens after h = absurd (cc (e))
form_bound (of_form.Sets class sets (of_form_set.Attr attr)) e before tokens after h = absurd (cc (e))
form_bound (of_form.Conds name conds part) e before tokens after h = absurd ((condition_plain part).1 e)
form_bound (of_form.Actions name conds actions part) e before tokens after h = bind_behind h.front h.back tokens h.cut (action_bound part e h.between h.back after h.of_second)
form_bound part e before tokens after h = absurd (cc (e))

pub behind_bind : (names : Names) (tokens : List Token) (read : Read) → HasRead names tokens read → form_slot read.part ≡ slot.BindValue → IsEmptyBind tokens Close
behind_bind names tokens read h e = bind_behind h.front h.back tokens h.cut (form_bound read.part e h.between h.back read.names h.of_second)
