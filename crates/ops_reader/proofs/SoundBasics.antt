-- What single tokens, settings and parts of longer parts have been spelled by.
use Rattle.std.proofs.Common.{◌≡◌, ℕ, pos, Bool, true, false, List, [], ◌∷◌, ◌++◌, Option, Some, None, refl, IfSome, nat_le, cond, arith}
use Rattle.std.proofs.lemmas.Bool.Decides.{nat_tests}
use Rattle.std.specs.Option.{option_map}
use Rattle.ops_text.specs.Names.{Names, number_of, with_name}
use Rattle.rule_base.specs.declared.value.Value.TheVariants as a_value
use Rattle.ops_tokens.specs.declared.token.Keyword.{Keyword}
use Rattle.ops_reader.specs.declared.form.FormArg.TheVariants as an_argument
use Rattle.ops_reader.specs.declared.part.Step.{Step}
use Rattle.ops_reader.specs.declared.part.Step.TheVariants.{Part, Whole}
use Rattle.ops_reader.specs.declared.part.SetPart.{SetPart}
use Rattle.ops_reader.specs.declared.part.SetPart.TheVariants as of_set
use Rattle.ops_tokens.specs.Token.{Token, Open, Caret, Variable, Integer, Plain}
use Rattle.ops_tokens.specs.Naming.{symbol_name, constant_name, literal_name, variable_name}
use Rattle.ops_reader.specs.Grammar.{Phrase, nothing, ◌⨾◌, any, the, keyword, up_to, naming, symbol, variable, constant, literal, argument, setting}
use Rattle.ops_reader.specs.Taken.{Taken, named_of, symbol_of, variable_of, constant_of, literal_of, argument_of, number_up_to, grown, made, around, set_after}
use Rattle.ops_reader.proofs.Phrases.{Implies, Extends, then_one, within, from_nothing, with_nothing, Extends-weaker, then_element}

-- the phrase of a part, or of the whole
abbrev pub spelling : {P V : Type 0} → (P → Phrase) → (V → Phrase) → Step P V → Phrase
spelling part whole (Part p) = part p
spelling part whole (Whole v) = whole v

-- what a token made of a part is spelled by the part's tokens and this one
abbrev pub IsSpelled : {P V : Type 0} → (P → Phrase) → (V → Phrase) → Phrase → Names → Token → Names × Step P V → Type 0
IsSpelled part whole begun names token x = Extends begun names token x.0 (spelling part whole x.1)

-- what is taken from a token is spelled by it
abbrev pub IsOneToken : {A : Type 0} → (A → Phrase) → Names → Token → Taken A → Type 0
IsOneToken one names token taken = IfSome taken (λ x. one x.1 names (token ∷ []) x.0)

-- a part that grows by what one token gives
pub grown_by : {A P V : Type 0} (part : P → Phrase) (whole : V → Phrase) (begun : Phrase) (names : Names) (token : Token) (grow : A → P) (one : A → Phrase) (taken : Taken A)
    → IsOneToken one names token taken
    → ((a : A) (after : Names) → one a names (token ∷ []) after → Extends begun names token after (part (grow a)))
    → IfSome (grown {V = V} grow taken) (IsSpelled part whole begun names token)
grown_by part whole begun names token grow one None h more = tt
grown_by part whole begun names token grow one (Some x) h more = more x.1 x.0 h

-- a part that what one token gives makes whole
pub made_by : {A P V : Type 0} (part : P → Phrase) (whole : V → Phrase) (begun : Phrase) (names : Names) (token : Token) (make : A → V) (one : A → Phrase) (taken : Taken A)
    → IsOneToken one names token taken
    → ((a : A) (after : Names) → one a names (token ∷ []) after → Extends begun names token after (whole (make a)))
    → IfSome (made {P = P} make taken) (IsSpelled part whole begun names token)
made_by part whole begun names token make one None h more = tt
made_by part whole begun names token make one (Some x) h more = more x.1 x.0 h

-- a part within a longer one: what a token makes of the longer one is spelled if what it makes of the part is
pub around_spelled : {P V Q W : Type 0} (part : P → Phrase) (whole : V → Phrase) (outer : Q → Phrase) (all : W → Phrase) (longer : P → Step Q W) (complete : V → Step Q W)
    (begun begun_outer : Phrase) (names : Names) (token : Token) (taken : Taken (Step P V))
    → ((p : P) (after : Names) → Extends begun names token after (part p) → Extends begun_outer names token after (spelling outer all (longer p)))
    → ((v : V) (after : Names) → Extends begun names token after (whole v) → Extends begun_outer names token after (spelling outer all (complete v)))
    → IfSome taken (IsSpelled part whole begun names token)
    → IfSome (around longer complete taken) (IsSpelled outer all begun_outer names token)
around_spelled part whole outer all longer complete begun begun_outer names token None by_part by_whole h = tt
around_spelled part whole outer all longer complete begun begun_outer names token (Some (after, Part p)) by_part by_whole h = by_part p after h
around_spelled part whole outer all longer complete begun begun_outer names token (Some (after, Whole v)) by_part by_whole h = by_whole v after h

-- the same for whatever implies the part's phrase
pub spelled_from : {P V : Type 0} (part : P → Phrase) (whole : V → Phrase) (begun other : Phrase) (names : Names) (token : Token) (taken : Taken (Step P V))
    → Implies other begun → IfSome taken (IsSpelled part whole begun names token) → IfSome taken (IsSpelled part whole other names token)
spelled_from part whole begun other names token None weaker h = tt
spelled_from part whole begun other names token (Some x) weaker h = λ before tokens is. h before tokens (weaker before tokens names is)

-- what is taken is spelled, also as something else
pub mapped_spelled : {A B : Type 0} (one : A → Phrase) (other : B → Phrase) (f : A → B) (names : Names) (token : Token) (taken : Taken A)
    → ((a : A) → Implies (one a) (other (f a))) → IsOneToken one names token taken → IsOneToken other names token (option_map (λ x. (x.0, f x.1)) taken)
mapped_spelled one other f names token None weaker h = tt
mapped_spelled one other f names token (Some x) weaker h = weaker x.1 names (token ∷ []) x.0 h

name_spelled : (name_of : Token → Option (List ℕ)) (names : Names) (token : Token) (name : Option (List ℕ)) → name_of token ≡ name
    → IsOneToken (naming name_of) names token (option_map (λ n. (with_name names n, number_of names n)) name)
name_spelled name_of names token None is = tt
name_spelled name_of names token (Some name) is = (token, name, refl, is, refl, refl)

pub named_spelled : (name_of : Token → Option (List ℕ)) (names : Names) (token : Token) → IsOneToken (naming name_of) names token (named_of name_of names token)
named_spelled name_of names token = name_spelled name_of names token (name_of token) refl

pub symbol_spelled : (names : Names) (token : Token) → IsOneToken symbol names token (symbol_of names token)
symbol_spelled names token = named_spelled symbol_name names token

pub variable_spelled : (names : Names) (token : Token) → IsOneToken variable names token (variable_of names token)
variable_spelled names token = named_spelled variable_name names token

pub constant_spelled : (names : Names) (token : Token) → IsOneToken constant names token (constant_of names token)
constant_spelled names (Integer z) = (refl, refl)
constant_spelled names token =
    mapped_spelled (naming constant_name) constant a_value.Sym names token (named_of constant_name names token) (λ a before tokens after h. h) (named_spelled constant_name names token)

pub literal_spelled : (names : Names) (token : Token) → IsOneToken literal names token (literal_of names token)
literal_spelled names (Integer z) = (refl, refl)
literal_spelled names token =
    mapped_spelled (naming literal_name) literal a_value.Sym names token (named_of literal_name names token) (λ a before tokens after h. h) (named_spelled literal_name names token)

pub argument_spelled : (names : Names) (token : Token) → IsOneToken argument names token (argument_of names token)
argument_spelled names (Variable name) =
    mapped_spelled variable argument an_argument.Name names (Variable name) (variable_of names (Variable name)) (λ a before tokens after h. h) (variable_spelled names (Variable name))
argument_spelled names token =
    mapped_spelled constant argument an_argument.Con names token (constant_of names token) (λ a before tokens after h. h) (constant_spelled names token)

up_to_spelled : (most : ℕ) (names : Names) (n : ℕ) (small : Bool) → nat_le n most ≡ small → IsOneToken (up_to most) names (Integer (pos n)) (cond small (Some (names, n)) None)
up_to_spelled most names n true is = (grind (arith, nat_tests, is), (refl, refl))
up_to_spelled most names n false is = tt

pub number_spelled : (most : ℕ) (names : Names) (token : Token) → IsOneToken (up_to most) names token (number_up_to most names token)
number_spelled most names (Integer (pos n)) = up_to_spelled most names n (nat_le n most) refl
number_spelled most names token = tt

-- two lists that have not begun
pub open_lists : (p q : Phrase) (names : Names) (token : Token) (after : Names) → Extends p names token after q → Extends p names token after (q ⨾ nothing ⨾ nothing)
open_lists p q names token after e = Extends-weaker p q (q ⨾ nothing ⨾ nothing) names token after e
    (λ before tokens end h. with_nothing (q ⨾ nothing) before tokens end (with_nothing q before tokens end h))

-- a part that has not begun
pub open_part : (p q : Phrase) (names : Names) (token : Token) (after : Names) → Extends p names token after q → Extends p names token after (q ⨾ nothing)
open_part p q names token after e = Extends-weaker p q (q ⨾ nothing) names token after e (λ before tokens end h. with_nothing q before tokens end h)

-- a keyword behind an opening bracket
pub then_keyword : (key : Keyword) (names : Names) (word : List ℕ) → Extends (the Open) names (Plain word (Some key)) names (the Open ⨾ keyword key)
then_keyword key names word = then_one (the Open) (keyword key) names (Plain word (Some key)) names (word, refl, refl)

-- a list of single tokens gets one more
pub then_single : {A : Type 0} (x : Phrase) (phrase : A → Phrase) (xs : List A) (a : A) (names : Names) (token : Token) (after : Names)
    → phrase a names (token ∷ []) after → Extends (x ⨾ any phrase xs ⨾ nothing) names token after (x ⨾ any phrase (xs ++ a ∷ []) ⨾ nothing)
then_single x phrase xs a names token after one =
    then_element x phrase xs a nothing names token after (from_nothing (phrase a) names token after one)

-- a symbol behind a keyword, and two lists that have not begun
pub then_symbol : {P V : Type 0} (part : P → Phrase) (whole : V → Phrase) (begun : Phrase) (names : Names) (token : Token) (grow : ℕ → P)
    → ((n : ℕ) → Implies (begun ⨾ symbol n ⨾ nothing ⨾ nothing) (part (grow n)))
    → IfSome (grown {V = V} grow (symbol_of names token)) (IsSpelled part whole begun names token)
then_symbol part whole begun names token grow same =
    grown_by part whole begun names token grow symbol (symbol_of names token) (symbol_spelled names token)
    (λ n after one. Extends-weaker begun (begun ⨾ symbol n ⨾ nothing ⨾ nothing) (part (grow n)) names token after
    (open_lists begun (begun ⨾ symbol n) names token after (then_one begun (symbol n) names token after one)) (same n))

-- the phrase that a part of a setting at the top level has been spelled by
abbrev pub begun_set : SetPart → Phrase
begun_set of_set.Nothing = nothing
begun_set of_set.Caret = the Caret
begun_set (of_set.Attr attr) = the Caret ⨾ symbol attr

attr_spelled : (names : Names) (token : Token) (taken : Taken ℕ) → IsOneToken symbol names token taken
    → IfSome {T = Names × SetPart} (option_map (λ s. (s.0, of_set.Attr s.1)) taken) (λ x. Extends (the Caret) names token x.0 (begun_set x.1))
attr_spelled names token None h = tt
attr_spelled names token (Some x) h = then_one (the Caret) (symbol x.1) names token x.0 h

pub set_spelled : (names : Names) (set : SetPart) (token : Token) → IfSome (set_after names set token) (λ x. Extends (begun_set set) names token x.0 (begun_set x.1))
set_spelled names of_set.Nothing Caret = from_nothing (the Caret) names Caret names (refl, refl)
set_spelled names of_set.Caret token = attr_spelled names token (symbol_of names token) (symbol_spelled names token)
set_spelled names set token = tt

-- a setting within a list of them, before its value
pub set_within : {P V : Type 0} (part : P → Phrase) (whole : V → Phrase) (x : Phrase) (names : Names) (set : SetPart) (token : Token) (grow : SetPart → P) (taken : Taken SetPart)
    → ((s : SetPart) → Implies (x ⨾ begun_set s) (part (grow s)))
    → IfSome taken (λ y. Extends (begun_set set) names token y.0 (begun_set y.1))
    → IfSome (grown {V = V} grow taken) (IsSpelled part whole (x ⨾ begun_set set) names token)
set_within part whole x names set token grow None same h = tt
set_within part whole x names set token grow (Some y) same h =
    Extends-weaker (x ⨾ begun_set set) (x ⨾ begun_set y.1) (part (grow y.1)) names token y.0
    (within x (begun_set set) (begun_set y.1) names token y.0 h) (same y.1)

-- a setting that its value makes whole, where the value is one token
pub set_whole : {A : Type 0} (x : Phrase) (phrase : A → Phrase) (sets : List (ℕ × A)) (attr : ℕ) (a : A) (names : Names) (token : Token) (after : Names)
    → phrase a names (token ∷ []) after
    → Extends (x ⨾ any (setting phrase) sets ⨾ (the Caret ⨾ symbol attr)) names token after (x ⨾ any (setting phrase) (sets ++ (attr, a) ∷ []) ⨾ nothing)
set_whole x phrase sets attr a names token after one =
    then_element x (setting phrase) sets (attr, a) (the Caret ⨾ symbol attr) names token after
    (then_one (the Caret ⨾ symbol attr) (phrase a) names token after one)
