-- Phrases lead from what has been read before them to what has been read behind them: single tokens, lists, and parts of
-- longer parts.
use Rattle.std.proofs.Common.{◌≡◌, ℕ, pos, List, [], ◌∷◌, ◌++◌, Option, Some, None, refl, sym, ap, ◌∙◌, append_assoc, append-nil, nat_le, cond, true, inl, inr, arith}
use Rattle.std.proofs.lemmas.Bool.Decides.{nat_tests}
use Rattle.std.specs.Option.{option_map, option_and_then}
use Rattle.ops_text.specs.Names.{Names, number_of, with_name}
use Rattle.rule_base.specs.declared.value.Value.{Value}
use Rattle.rule_base.specs.declared.value.Value.TheVariants as a_value
use Rattle.ops_tokens.specs.declared.token.Keyword.{Keyword}
use Rattle.ops_reader.specs.declared.form.Form.{Form}
use Rattle.ops_reader.specs.declared.form.FormArg.TheVariants as an_argument
use Rattle.ops_reader.specs.declared.part.FormPart.{FormPart}
use Rattle.ops_reader.specs.declared.part.Step.{Step}
use Rattle.ops_reader.specs.declared.part.Step.TheVariants.{Part, Whole}
use Rattle.ops_tokens.specs.Token.{Token, Variable, Integer, Plain}
use Rattle.ops_tokens.specs.Naming.{symbol_name, constant_name, literal_name, variable_name}
use Rattle.ops_reader.specs.Grammar.{Phrase, nothing, ◌⨾◌, either, any, the, keyword, up_to, naming, symbol, variable, constant, literal, argument}
use Rattle.ops_reader.specs.Taken.{Taken, named_of, symbol_of, variable_of, constant_of, literal_of, argument_of, number_up_to, step_around}
use Rattle.ops_reader.specs.Reading.{Read, next, run}

-- what has been read, but for the names
abbrev pub at : List Form → FormPart → Names → Read
at forms part names = record { names = names; forms = forms; part = part }

-- the phrase leads from the one to the other, whatever follows
abbrev pub Leads : Phrase → (Names → Read) → (Names → Read) → Type 0
Leads phrase from to =
    (before : Names) (tokens : List Token) (after : Names) → phrase before tokens after → (more : List Token) → run (from before) (tokens ++ more) ≡ run (to after) more

pub leads_then : (p q : Phrase) (from middle to : Names → Read) → Leads p from middle → Leads q middle to → Leads (p ⨾ q) from to
leads_then p q from middle to first second before tokens after h more =
    ap (λ l. run (from before) (l ++ more)) h.cut
    ∙ ap (run (from before)) (append_assoc h.front h.back more)
    ∙ first before h.front h.between h.of_first (h.back ++ more)
    ∙ second h.between h.back after h.of_second more

pub leads_either : (p q : Phrase) (from to : Names → Read) → Leads p from to → Leads q from to → Leads (either p q) from to
leads_either p q from to first second before tokens after (inl h) more = first before tokens after h more
leads_either p q from to first second before tokens after (inr h) more = second before tokens after h more

pub leads_nothing : (from : Names → Read) → Leads nothing from from
leads_nothing from before tokens after h more = ap (λ l. run (from before) (l ++ more)) h.0 ∙ ap (λ n. run (from n) more) (sym h.1)

-- what never comes leads anywhere
pub leads_never : (phrase : Phrase) (from to : Names → Read) → ((before : Names) (tokens : List Token) (after : Names) → phrase before tokens after → ⊥) → Leads phrase from to
leads_never phrase from to none before tokens after h more = absurd (none before tokens after h)

pub leads_any : {A : Type 0} (phrase : A → Phrase) (to : List A → Names → Read)
    → ((xs : List A) (x : A) → Leads (phrase x) (to xs) (to (xs ++ x ∷ [])))
    → (xs ys : List A) → Leads (any phrase ys) (to xs) (to (xs ++ ys))
leads_any phrase to one xs [] before tokens after h more =
    leads_nothing (to xs) before tokens after h more ∙ ap (λ l. run (to l after) more) (sym (append-nil xs))
leads_any phrase to one xs (y ∷ ys) before tokens after h more =
    leads_then (phrase y) (any phrase ys) (to xs) (to (xs ++ y ∷ [])) (to ((xs ++ y ∷ []) ++ ys)) (one xs y) (leads_any phrase to one (xs ++ y ∷ []) ys) before tokens after h more
    ∙ ap (λ l. run (to l after) more) (append_assoc xs (y ∷ []) ys)

-- the equation of one token
pub leads_by : (token : Token) (from to : Read) → next from token ≡ Some to → (more : List Token) → run from (token ∷ more) ≡ run to more
leads_by token from to e more = ap (option_and_then (λ r. run r more)) e

pub leads_the : (token : Token) (from to : Names → Read) → ((names : Names) → next (from names) token ≡ Some (to names)) → Leads (the token) from to
leads_the token from to e before tokens after h more =
    ap (λ l. run (from before) (l ++ more)) h.0 ∙ leads_by token (from before) (to before) (e before) more ∙ ap (λ n. run (to n) more) (sym h.1)

pub leads_keyword : (key : Keyword) (from to : Names → Read) → ((names : Names) (word : List ℕ) → next (from names) (Plain word (Some key)) ≡ Some (to names)) → Leads (keyword key) from to
leads_keyword key from to e before tokens after (word, is, same) more =
    ap (λ l. run (from before) (l ++ more)) is ∙ leads_by (Plain word (Some key)) (from before) (to before) (e before word) more ∙ ap (λ n. run (to n) more) (sym same)

-- what the phrase spells is one token, which gives it
abbrev pub IsTaken : {A : Type 0} → (Names → Token → Taken A) → (A → Phrase) → Type 0
IsTaken {A} of one = (a : A) (before : Names) (tokens : List Token) (after : Names) → one a before tokens after
    → (token : Token) × (tokens ≡ token ∷ []) × (of before token ≡ Some (after, a))

-- a token that gives something leads on, where what has been read goes on by what it gives
pub leads_taken : {A : Type 0} (of : Names → Token → Taken A) (one : A → Phrase) → IsTaken of one
    → (a : A) (from to : Names → Read)
    → ((names : Names) (token : Token) (after : Names) → of names token ≡ Some (after, a) → next (from names) token ≡ Some (to after))
    → Leads (one a) from to
leads_taken of one taken a from to e before tokens after h more =
    let t = taken a before tokens after h in
    ap (λ l. run (from before) (l ++ more)) t.1 ∙ leads_by t.0 (from before) (to after) (e before t.0 after t.2) more

-- what is taken, and the names after it
abbrev taken_name : Names → ℕ → Taken ℕ
taken_name names n = Some (names, n)

name_taken : (before : Names) (name : List ℕ) (n : ℕ) (after : Names) → n ≡ number_of before name → after ≡ with_name before name → taken_name (with_name before name) (number_of before name) ≡ taken_name after n
name_taken before name n after number names = ap (λ m. taken_name (with_name before name) m) (sym number) ∙ ap (λ l. taken_name l n) (sym names)

pub named_taken : (name_of : Token → Option (List ℕ)) → IsTaken (named_of name_of) (naming name_of)
named_taken name_of n before tokens after (token, name, is, named, number, names) =
    (token, is, ap (option_map (λ name. (with_name before name, number_of before name))) named ∙ name_taken before name n after number names)

pub symbol_taken : IsTaken symbol_of symbol
symbol_taken = named_taken symbol_name

pub variable_taken : IsTaken variable_of variable
variable_taken = named_taken variable_name

abbrev taken_value : Value → Names → Taken Value
taken_value v names = Some (names, v)

constant_named : (n : ℕ) (before : Names) (token : Token) (after : Names) → named_of constant_name before token ≡ Some (after, n) → constant_of before token ≡ Some (after, a_value.Sym n)
constant_named n before (Integer z) after e = absurd (cc)
constant_named n before token after e = ap (option_map (λ s. (s.0, a_value.Sym s.1))) e

pub constant_taken : IsTaken constant_of constant
constant_taken (a_value.Int z) before tokens after h = (Integer z, h.0, ap (taken_value (a_value.Int z)) (sym h.1))
constant_taken (a_value.Sym n) before tokens after h =
    let t = named_taken constant_name n before tokens after h in (t.0, t.1, constant_named n before t.0 after t.2)

literal_named : (n : ℕ) (before : Names) (token : Token) (after : Names) → named_of literal_name before token ≡ Some (after, n) → literal_of before token ≡ Some (after, a_value.Sym n)
literal_named n before (Integer z) after e = absurd (cc)
literal_named n before token after e = ap (option_map (λ s. (s.0, a_value.Sym s.1))) e

pub literal_taken : IsTaken literal_of literal
literal_taken (a_value.Int z) before tokens after h = (Integer z, h.0, ap (taken_value (a_value.Int z)) (sym h.1))
literal_taken (a_value.Sym n) before tokens after h =
    let t = named_taken literal_name n before tokens after h in (t.0, t.1, literal_named n before t.0 after t.2)

argument_named : (n : ℕ) (before : Names) (token : Token) (after : Names) → variable_of before token ≡ Some (after, n) → argument_of before token ≡ Some (after, an_argument.Name n)
argument_named n before (Variable name) after e = ap (option_map (λ v. (v.0, an_argument.Name v.1))) e
argument_named n before token after e = absurd (cc)

argument_constant : (v : Value) (before : Names) (token : Token) (after : Names) → constant_of before token ≡ Some (after, v) → argument_of before token ≡ Some (after, an_argument.Con v)
argument_constant v before (Variable name) after e = absurd (cc)
argument_constant v before token after e = ap (option_map (λ c. (c.0, an_argument.Con c.1))) e

pub argument_taken : IsTaken argument_of argument
argument_taken (an_argument.Con v) before tokens after h =
    let t = constant_taken v before tokens after h in (t.0, t.1, argument_constant v before t.0 after t.2)
argument_taken (an_argument.Name n) before tokens after h =
    let t = variable_taken n before tokens after h in (t.0, t.1, argument_named n before t.0 after t.2)

pub number_taken : (most : ℕ) → IsTaken (number_up_to most) (up_to most)
number_taken most n before tokens after (small, (is, same)) =
    let le : nat_le n most ≡ true = grind (arith, nat_tests, small) in
    (Integer (pos n), is, ap (λ b. cond b (taken_name before n) None) le ∙ ap (λ names. taken_name names n) (sym same))

-- what has been read, where a part is longer or whole
abbrev pub step_read : {P V : Type 0} → (P → Names → Read) → (V → Names → Read) → Names × Step P V → Read
step_read from to (names, Part p) = from p names
step_read from to (names, Whole v) = to v names

-- a part stands within what has been read: whatever a token makes of the part, it makes of what has been read
abbrev pub IsWithin : {P V : Type 0} → (Names → P → Token → Taken (Step P V)) → (P → Names → Read) → (V → Names → Read) → Type 0
IsWithin {P} {V} after from to =
    (names : Names) (part : P) (token : Token) (x : Names × Step P V) → after names part token ≡ Some x → next (from part names) token ≡ Some (step_read from to x)

-- the same of a part within a longer part: what a token makes of the one, it makes of the other
abbrev pub IsAround : {P V Q W : Type 0} → (Names → P → Token → Taken (Step P V)) → (Names → Q → Token → Taken (Step Q W)) → (P → Q) → (V → Step Q W) → Type 0
IsAround {P} {V} inner outer longer whole =
    (names : Names) (part : P) (token : Token) (x : Names × Step P V) → inner names part token ≡ Some x
    → outer names (longer part) token ≡ Some (x.0, step_around (λ p. Part (longer p)) whole x.1)

step_read_around : {P V Q W : Type 0} (longer : P → Q) (whole : V → Step Q W) (from : Q → Names → Read) (to : W → Names → Read) (x : Names × Step P V)
    → step_read from to (x.0, step_around (λ p. Part (longer p)) whole x.1) ≡ step_read (λ p. from (longer p)) (λ v names. step_read from to (names, whole v)) x
step_read_around longer whole from to (after, Part p) = refl
step_read_around longer whole from to (after, Whole v) = refl

-- a part of a part stands within what has been read
pub within_part : {P V Q W : Type 0} (inner : Names → P → Token → Taken (Step P V)) (outer : Names → Q → Token → Taken (Step Q W)) (longer : P → Q) (whole : V → Step Q W)
    (from : Q → Names → Read) (to : W → Names → Read)
    → IsWithin outer from to → IsAround inner outer longer whole
    → IsWithin inner (λ p. from (longer p)) (λ v names. step_read from to (names, whole v))
within_part inner outer longer whole from to there around names part token x e =
    there names (longer part) token (x.0, step_around (λ p. Part (longer p)) whole x.1) (around names part token x e) ∙ ap Some (step_read_around longer whole from to x)
