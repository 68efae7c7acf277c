-- What has been read of the tokens of a text, with their places, and what follows where one is refused or none is left.
use Rattle.std.proofs.Common.{◌≡◌, inl, inr, ℕ, ◌-◌, false, List, [], ◌∷◌, ◌++◌, Some, None, length, take, refl, sym, ap, ◌∙◌, append_assoc, append-nil, length-append, arith, subst}
use Rattle.std.specs.Option.{is_some, option_map, option_and_then}
use Rattle.std.specs.List.{slice_get}
use Rattle.std.proofs.lemmas.List.{take_at}
use Rattle.std.proofs.lemmas.Option.{same_Some, slice_get-map}
use Rattle.ops_text.specs.Names.{Names}
use Rattle.ops_reader.specs.declared.form.Form.{Form}
use Rattle.ops_reader.specs.declared.part.FormPart.{FormPart}
use Rattle.ops_reader.specs.declared.part.FormPart.TheVariants as of_form
use Rattle.ops_reader.specs.declared.refusal.FormsRefusal.{FormsRefusal}
use Rattle.ops_reader.specs.declared.refusal.FormsRefusal.TheVariants.{Syntax, OutOfMemory}
use Rattle.ops_reader.specs.declared.refusal.SyntaxKind.TheVariants.{Unclosed}
use Rattle.ops_tokens.specs.Token.{Token}
use Rattle.ops_tokens.specs.Tokens.{tokens_of}
use Rattle.ops_tokens.specs.Places.{lefts_of}
use Rattle.ops_reader.specs.Refusal.{BeginsText, MayStand, IsOfKind, IsRefusedAt}
use Rattle.ops_reader.specs.FormReading.{form_after}
use Rattle.ops_reader.specs.Taken.{Taken}
use Rattle.ops_reader.specs.declared.part.Step.{Step}
use Rattle.ops_reader.specs.Reading.{Read, start, with_form, next, run}
use Rattle.ops_reader.specs.Exact.{done}
use Rattle.ops_reader.specs.Outcome.{IsRefusedHere, IsRefused}
use Rattle.ops_reader.specs.Slot.{form_slot}
use Rattle.ops_reader.specs.Kind.{kind_at}
use Rattle.ops_reader.proofs.WhyRefused.{takes, kind_is_right}
use Rattle.ops_reader.proofs.Standing.{stands}
use Rattle.ops_reader.proofs.Runs.{run-append}
use Rattle.ops_reader.proofs.ExactLemmas.{reads_fronts}
use Rattle.ops_reader.proofs.Complete.{text_read}

-- the tokens in front of these, which are left, have been read from these names on
pub record HasReached (names : Names) (text : List ℕ) (tokens : List Token) (lefts : List ℕ) (read : Read) : Type 0 where
  pub front : List Token
  pub passed : List ℕ
  pub tokens_are : tokens_of text ≡ front ++ tokens
  pub lefts_are : lefts_of text ≡ passed ++ lefts
  pub as_many : length passed ≡ length front
  pub ran : run (start names) front ≡ Some read

pub reached_nothing : (names : Names) (text : List ℕ) → HasReached names text (tokens_of text) (lefts_of text) (start names)
reached_nothing names text = record { front = []; passed = []; tokens_are = refl; lefts_are = refl; as_many = refl; ran = refl }

-- one more token has been read
pub reached_more : (names : Names) (text : List ℕ) (token : Token) (tokens : List Token) (left : ℕ) (lefts : List ℕ) (read more : Read)
    → HasReached names text (token ∷ tokens) (left ∷ lefts) read → next read token ≡ Some more → HasReached names text tokens lefts more
reached_more names text token tokens left lefts read more h e = record {
  front = h.front ++ token ∷ [];
  passed = h.passed ++ left ∷ [];
  tokens_are = h.tokens_are ∙ sym (append_assoc h.front (token ∷ []) tokens);
  lefts_are = h.lefts_are ∙ sym (append_assoc h.passed (left ∷ []) lefts);
  as_many = omega (arith, h.as_many, length-append h.front (token ∷ []), length-append h.passed (left ∷ []));
  ran =
      run-append (start names) h.front (token ∷ [])
      ∙ ap (option_and_then (λ r. run r (token ∷ []))) h.ran
      ∙ ap (option_and_then (λ r. run r [])) e;
}

-- all tokens have been read
pub reached_end : (names : Names) (text : List ℕ) (lefts : List ℕ) (read : Read) → HasReached names text [] lefts read → run (start names) (tokens_of text) ≡ Some read
reached_end names text lefts read h = ap (run (start names)) (h.tokens_are ∙ append-nil h.front) ∙ h.ran

-- the first element behind a list
behind_all : {A : Type 0} (front : List A) (one : A) (more : List A) → slice_get (front ++ one ∷ more) (length front) ≡ Some one
behind_all [] one more = refl
behind_all (x ∷ front) one more = behind_all front one more

not_taken : (read : Read) (token : Token) → next read token ≡ None → takes read token ≡ false
not_taken read token e = none_of (form_after read.names read.part token) e
  where
    none_of : (taken : Taken (Step FormPart Form)) → option_map (with_form read.forms) taken ≡ None → is_some taken ≡ false
    none_of None h = refl
    none_of (Some x) h = absurd (cc (h))

-- the next token is refused
pub wrong_token : (names : Names) (text : List ℕ) (token : Token) (tokens : List Token) (left : ℕ) (lefts : List ℕ) (read : Read)
    → HasReached names text (token ∷ tokens) (left ∷ lefts) read → next read token ≡ None
    → IsRefusedAt names text (length text - left) (kind_at (form_slot read.part) token)
wrong_token names text token tokens left lefts read h refused =
    let all = tokens_of text in
    let n = length h.front in
    let there = stands names h.front read h.ran in
    let kind = kind_at (form_slot read.part) token in
    let same : take n all ≡ h.front = ap (take n) h.tokens_are ∙ take_at h.front (token ∷ tokens) n refl in
    let no_token = not_taken read token refused in
    let left_there : slice_get (lefts_of text) n ≡ Some left =
    ap (slice_get (lefts_of text)) (sym h.as_many) ∙ ap (λ l. slice_get l (length h.passed)) h.lefts_are ∙ behind_all h.passed left lefts in
    inl (record {
      number = n;
      token = token;
      stands = ap (λ l. slice_get l n) h.tokens_are ∙ behind_all h.front token tokens;
      place = slice_get-map (λ l. length text - l) (lefts_of text) n ∙ ap (option_map (λ l. length text - l)) left_there;
      begins = subst (BeginsText names) (sym same) ((reads_fronts names h.front).no_longer read h.ran);
      wrong = λ may. absurd (cc (there.taken token (subst (λ l. MayStand names l token) same may), no_token));
      of_kind = subst (λ l. IsOfKind names l token kind) (sym same) (kind_is_right names h.front read token there no_token);
    })

pub refused_here : (names : Names) (text : List ℕ) (token : Token) (tokens : List Token) (left : ℕ) (lefts : List ℕ) (read : Read) (refusal : FormsRefusal)
    → HasReached names text (token ∷ tokens) (left ∷ lefts) read → IsRefusedHere read token (length text - left) refusal → IsRefused names text refusal
refused_here names text token tokens left lefts read (Syntax at kind) h here =
    rw (here.1, here.2) (wrong_token names text token tokens left lefts read h here.0)
refused_here names text token tokens left lefts read OutOfMemory h here = tt

-- the tokens end inside a form
pub ends_early : (names : Names) (text : List ℕ) (read : Read) → run (start names) (tokens_of text) ≡ Some read → ¬ (read.part ≡ of_form.Nothing)
    → IsRefusedAt names text (length text) Unclosed
ends_early names text read e begun =
    inr (record {
      unclosed = refl;
      place = refl;
      begins = (reads_fronts names (tokens_of text)).no_longer read e;
      no_text = λ forms after h. begun (ap (λ (r : Read). r.part) (same_Some read (done forms after) (sym e ∙ text_read names forms (tokens_of text) after h)));
    })

-- the first of the tokens that are left has been found
pub reached_found : (names : Names) (text : List ℕ) (tokens : List Token) (lefts : List ℕ) (read : Read) (token : Token) (more : List Token) (left : ℕ) (places : List ℕ)
    → HasReached names text tokens lefts read → tokens ≡ token ∷ more → lefts ≡ left ∷ places → HasReached names text (token ∷ more) (left ∷ places) read
reached_found names text tokens lefts read token more left places h e f = record {
  front = h.front;
  passed = h.passed;
  tokens_are = h.tokens_are ∙ ap (λ l. h.front ++ l) e;
  lefts_are = h.lefts_are ∙ ap (λ l. h.passed ++ l) f;
  as_many = h.as_many;
  ran = h.ran;
}
