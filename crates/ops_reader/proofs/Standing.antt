-- Which tokens may stand behind what has been read: exactly those that are taken.
use Rattle.std.proofs.Common.{◌≡◌, ℕ, true, false, List, [], ◌∷◌, ◌++◌, Option, Some, None, refl, sym, ap, ◌∙◌, subst, append_assoc}
use Rattle.std.specs.Option.{is_some, option_map, option_and_then}
use Rattle.std.proofs.lemmas.Option.{same_Some, option_and_then_some}
use Rattle.ops_text.specs.Names.{Names}
use Rattle.ops_tokens.specs.declared.token.Keyword.TheVariants as a_keyword
use Rattle.ops_reader.specs.declared.form.Form.{Form}
use Rattle.ops_reader.specs.declared.part.Step.{Step}
use Rattle.ops_reader.specs.declared.part.Step.TheVariants.{Part, Whole}
use Rattle.ops_reader.specs.declared.part.FormPart.{FormPart}
use Rattle.ops_reader.specs.declared.slot.Slot.TheVariants as slot
use Rattle.ops_tokens.specs.Token.{Token, Open, Close, Variable, Plain}
use Rattle.ops_reader.specs.Refusal.{BeginsText, MayStand, IsEmptyBind}
use Rattle.ops_reader.specs.FormReading.{form_after}
use Rattle.ops_reader.specs.Reading.{Read, start, with_form, next, run}
use Rattle.ops_reader.specs.Slot.{form_slot}
use Rattle.ops_reader.specs.Taken.{Taken}
use Rattle.ops_reader.proofs.Fits.{may, zero_token, IfPart, OperatorMay, NoOperatorMay, IsOpened, LeadsToValue, LeadsToBind}
use Rattle.ops_reader.proofs.FitsForms.{form_fits}
use Rattle.ops_reader.proofs.WhyRefused.{takes, Stands}
use Rattle.ops_reader.proofs.Runs.{run-append, run_read, start_read}
use Rattle.ops_reader.proofs.ExactLemmas.{reads_fronts}
use Rattle.ops_reader.proofs.LastTokens.{behind_bracket, behind_bind}

-- what has been read behind one more token, and behind some
abbrev before_tokens : List Form → Taken (Step FormPart Form) → List Token → Option Read
before_tokens forms taken tokens = option_and_then (λ r. run r tokens) (option_map (with_form forms) taken)

one_more : (forms : List Form) (taken : Taken (Step FormPart Form)) → is_some (before_tokens forms taken []) ≡ is_some taken
one_more forms None = refl
one_more forms (Some x) = refl

run_one : (read : Read) (token : Token) → is_some (run read (token ∷ [])) ≡ takes read token
run_one read token = one_more read.forms (form_after read.names read.part token)

two_more : (forms : List Form) (taken : Taken (Step FormPart Form)) (token : Token) → is_some taken ≡ true
    → IfPart taken (λ names part. may form_after names part token ≡ true) → is_some (before_tokens forms taken (token ∷ [])) ≡ true
two_more forms None token some h = absurd (cc (some))
two_more forms (Some (names, Part part)) token some h = run_one (record { names = names; forms = forms; part = part }) token ∙ h
two_more forms (Some (names, Whole form)) token some h = absurd h

no_two_more : (forms : List Form) (taken : Taken (Step FormPart Form)) (token : Token)
    → IfPart taken (λ names part. may form_after names part token ≡ false) → is_some (before_tokens forms taken (token ∷ [])) ≡ false
no_two_more forms None token h = refl
no_two_more forms (Some (names, Part part)) token h = run_one (record { names = names; forms = forms; part = part }) token ∙ h
no_two_more forms (Some (names, Whole form)) token h = absurd h

if_part_word : (taken : Taken (Step FormPart Form)) (word : List ℕ) → IfPart taken (NoOperatorMay form_after)
    → IfPart taken (λ names part. may form_after names part (Plain word (Some a_keyword.Star)) ≡ false)
if_part_word None word h = tt
if_part_word (Some (names, Part part)) word h = h word
if_part_word (Some (names, Whole form)) word h = absurd h

-- the tokens that have been read, and further ones
run_behind : (names : Names) (front more : List Token) (read : Read) → run (start names) front ≡ Some read → run (start names) (front ++ more) ≡ run read more
run_behind names front more read e = run-append (start names) front more ∙ ap (option_and_then (λ r. run r more)) e

some_value : (o : Option Read) → is_some o ≡ true → (read : Read) × (o ≡ Some read)
some_value None h = absurd (cc (h))
some_value (Some read) h = (read, refl)

begins : (names : Names) (tokens : List Token) → is_some (run (start names) tokens) ≡ true → BeginsText names tokens
begins names tokens h = let r = some_value (run (start names) tokens) h in (reads_fronts names tokens).no_longer r.0 r.1

taken_if_stands : (names : Names) (front : List Token) (read : Read) → run (start names) front ≡ Some read → (token : Token) → MayStand names front token → takes read token ≡ true
taken_if_stands names front read e token h =
    sym (run_one read token) ∙ ap is_some (sym (run_behind names front (token ∷ []) read e)) ∙ (reads_fronts names (front ++ token ∷ [])).goes_on h

stands_if_taken : (names : Names) (front : List Token) (read : Read) → run (start names) front ≡ Some read → (token : Token) → takes read token ≡ true → MayStand names front token
stands_if_taken names front read e token h =
    begins names (front ++ token ∷ []) (ap is_some (run_behind names front (token ∷ []) read e) ∙ run_one read token ∙ h)

-- two more tokens
run_two : (names : Names) (front : List Token) (read : Read) (one other : Token) → run (start names) front ≡ Some read
    → run (start names) ((front ++ one ∷ []) ++ other ∷ []) ≡ run read (one ∷ other ∷ [])
run_two names front read one other e =
    ap (run (start names)) (append_assoc front (one ∷ []) (other ∷ [])) ∙ run_behind names front (one ∷ other ∷ []) read e

operator_stands : (names : Names) (front : List Token) (read : Read) → run (start names) front ≡ Some read → takes read zero_token ≡ true
    → IfPart (form_after read.names read.part zero_token) (OperatorMay form_after)
    → (word : List ℕ) × MayStand names (front ++ zero_token ∷ []) (Plain word (Some a_keyword.Star))
operator_stands names front read e zero h =
    let star = Plain [] (Some a_keyword.Star) in (
      [],
      begins names ((front ++ zero_token ∷ []) ++ star ∷ [])
          (ap is_some (run_two names front read zero_token star e) ∙ two_more read.forms (form_after read.names read.part zero_token) star zero h),
    )

no_operator_stands : (names : Names) (front : List Token) (read : Read) → run (start names) front ≡ Some read
    → IfPart (form_after read.names read.part zero_token) (NoOperatorMay form_after)
    → (word : List ℕ) → MayStand names (front ++ zero_token ∷ []) (Plain word (Some a_keyword.Star)) → ⊥
no_operator_stands names front read e h word stands =
    let star = Plain word (Some a_keyword.Star) in
    let taken = form_after read.names read.part zero_token in
    let some : is_some (run (start names) ((front ++ zero_token ∷ []) ++ star ∷ [])) ≡ true = (reads_fronts names ((front ++ zero_token ∷ []) ++ star ∷ [])).goes_on stands in
    let none : is_some (run read (zero_token ∷ star ∷ [])) ≡ false = no_two_more read.forms taken star (if_part_word taken word h) in
    let same = ap is_some (run_two names front read zero_token star e) in
    cc (some, none, same)

-- what is known of a part that a token has led to
part_read : (forms : List Form) (taken : Taken (Step FormPart Form)) (fact : Names → FormPart → Type 0) (read : Read)
    → IfPart taken fact → option_map (with_form forms) taken ≡ Some read → fact read.names read.part
part_read forms None fact read h e = absurd (cc (e))
part_read forms (Some (names, Part part)) fact read h e =
    subst (λ (r : Read). fact r.names r.part) (same_Some (record { names = names; forms = forms; part = part }) read e) h
part_read forms (Some (names, Whole form)) fact read h e = absurd h

next_read : (fact : Names → FormPart → Type 0) (from : Read) (token : Token) (rest : List Token) (read : Read)
    → IfPart (form_after from.names from.part token) fact → run from (token ∷ rest) ≡ Some read → (to : Read) × fact to.names to.part × (run to rest ≡ Some read)
next_read fact from token rest read h e =
    option_and_then_some (λ x. run x rest) (next from token) read e
    (λ to at more. (to, part_read from.forms (form_after from.names from.part token) fact to h at, more))

-- what was read of the tokens in front of some
split_run : (names : Names) (before more front : List Token) (read : Read) → front ≡ before ++ more → run (start names) front ≡ Some read
    → (from : Read) × (run from more ≡ Some read)
split_run names before more front read cut e =
    let all : option_and_then (λ r. run r more) (run (start names) before) ≡ Some read =
    sym (run-append (start names) before more) ∙ ap (run (start names)) (sym cut) ∙ e in
    option_and_then_some (λ r. run r more) (run (start names) before) read all (λ from at more. (from, more))

last_read : (fact : Names → FormPart → Type 0) (to read : Read) → fact to.names to.part → run to [] ≡ Some read → fact read.names read.part
last_read fact to read h e = subst (λ (r : Read). fact r.names r.part) (same_Some to read e) h

opened_there : (names : Names) (front : List Token) (read : Read) → run (start names) front ≡ Some read
    → (before : List Token) → front ≡ before ++ Open ∷ [] → IsOpened form_slot form_after read.names read.part
opened_there names front read e before cut =
    let from = split_run names before (Open ∷ []) front read cut e in
    let fact : Names → FormPart → Type 0 = IsOpened form_slot form_after in
    let to = next_read fact from.0 Open [] read (form_fits from.0.names from.0.part).opened from.1 in
    last_read fact to.0 read to.1 to.2

bound_there : (names : Names) (front : List Token) (read : Read) → run (start names) front ≡ Some read → IsEmptyBind front Close → form_slot read.part ≡ slot.BindValue
bound_there names front read e (before, word, name, cut) =
    let bind = Plain word (Some a_keyword.Bind) in
    let from = split_run names before (Open ∷ bind ∷ Variable name ∷ []) front read cut e in
    let one = next_read (LeadsToBind form_slot form_after) from.0 Open (bind ∷ Variable name ∷ []) read (form_fits from.0.names from.0.part).bound from.1 in
    let two = next_read (LeadsToValue form_slot form_after) one.0 bind (Variable name ∷ []) read (one.1 word) one.2 in
    let three = next_read (λ names part. form_slot part ≡ slot.BindValue) two.0 (Variable name) [] read (two.1 name) two.2 in
    last_read (λ names part. form_slot part ≡ slot.BindValue) three.0 read three.1 three.2

pub stands : (names : Names) (front : List Token) (read : Read) → run (start names) front ≡ Some read → Stands names front read
stands names front read e =
    let has = run_read names [] (start names) front read (start_read names) e in
    record {
      fits = form_fits read.names read.part;
      taken = taken_if_stands names front read e;
      may_stand = stands_if_taken names front read e;
      operator = operator_stands names front read e;
      no_operator = no_operator_stands names front read e;
      bracket = behind_bracket names front read has;
      opened = opened_there names front read e;
      bind = behind_bind names front read has;
      bound = bound_there names front read e;
    }
