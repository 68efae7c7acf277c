-- Each text is the text of some forms, or it is refused.
use Rattle.std.proofs.Common.{◌≡◌, ◌⊎◌, inl, inr, ℕ, ◌-◌, List, [], ◌∷◌, Option, Some, None, length, refl, arith}
use Rattle.ops_text.specs.Names.{Names}
use Rattle.ops_reader.specs.declared.form.Form.{Form}
use Rattle.ops_reader.specs.declared.part.FormPart.{FormPart}
use Rattle.ops_reader.specs.declared.part.FormPart.TheVariants as of_form
use Rattle.ops_reader.specs.declared.refusal.SyntaxKind.TheVariants.{Unclosed}
use Rattle.ops_tokens.specs.Token.{Token}
use Rattle.ops_tokens.specs.Tokens.{Between, after, tokens_of}
use Rattle.ops_tokens.specs.Places.{lefts_of}
use Rattle.ops_reader.specs.Reading.{Read, start, next, run}
use Rattle.ops_reader.specs.Slot.{form_slot}
use Rattle.ops_reader.specs.Kind.{kind_at}
use Rattle.ops_reader.specs.Decided.{SpellsForms, IsRefusedSomewhere, IsDecided}
use Rattle.ops_reader.proofs.CompleteBasics.{at}
use Rattle.ops_reader.proofs.ExactLemmas.{done_is_text}
use Rattle.ops_tokens.proofs.PlaceLemmas.{as_many}
use Rattle.ops_reader.proofs.OneRefusal.{not_both, one_refusal}
use Rattle.ops_reader.proofs.Reached.{HasReached, reached_nothing, reached_more, reached_end, wrong_token, ends_early}

-- all tokens have been read: a form is open, or none
at_the_end : (names : Names) (text : List ℕ) (after : Names) (forms : List Form) (part : FormPart) → run (start names) (tokens_of text) ≡ Some (at forms part after)
    → SpellsForms names text ⊎ IsRefusedSomewhere names text
at_the_end names text after forms of_form.Nothing e = inl (forms, after, done_is_text names (tokens_of text) forms after e)
at_the_end names text after forms part e = inr (length text, Unclosed, ends_early names text (at forms part after) e (λ is. cc (is)))

walk : (names : Names) (text : List ℕ) (rest : List Token) (places : List ℕ) (read : Read) → length places ≡ length rest → HasReached names text rest places read
    → SpellsForms names text ⊎ IsRefusedSomewhere names text
walk names text [] places read many h = at_the_end names text read.names read.forms read.part (reached_end names text places read h)
walk names text (token ∷ rest) [] read many h = absurd (omega arith)
walk names text (token ∷ rest) (left ∷ places) read many h =
    by_token (next read token) refl (λ more reached. walk names text rest places more (omega arith) reached)
  where
    by_token : (o : Option Read) → next read token ≡ o
        → ((more : Read) → HasReached names text rest places more → SpellsForms names text ⊎ IsRefusedSomewhere names text) → SpellsForms names text ⊎ IsRefusedSomewhere names text
    by_token None e further = inr (length text - left, kind_at (form_slot read.part) token, wrong_token names text token rest left places read h e)
    by_token (Some more) e further = further more (reached_more names text token rest left places read more h e)

pub is_decided : (names : Names) (text : List ℕ) → IsDecided names text
is_decided names text = record {
  answered = walk names text (tokens_of text) (lefts_of text) (start names) (as_many Between text) (reached_nothing names text);
  not_both = not_both names text;
  one_refusal = one_refusal names text;
}
