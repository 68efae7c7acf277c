-- Reading several tokens, one after the other.
use Rattle.std.proofs.Common.{◌≡◌, List, [], ◌∷◌, ◌++◌, Option, Some, None, refl, sym, ap, ◌∙◌, IfSome, subst, append_assoc, append-nil}
use Rattle.std.specs.Option.{option_and_then}
use Rattle.std.proofs.lemmas.Option.{same_Some, option_and_then_some}
use Rattle.ops_text.specs.Names.{Names}
use Rattle.ops_tokens.specs.Token.{Token}
use Rattle.ops_reader.specs.Grammar.{nothing}
use Rattle.ops_reader.specs.Reading.{Read, start, next, run}
use Rattle.ops_reader.proofs.Phrases.{with_nothing}
use Rattle.ops_reader.proofs.Sound.{HasRead, next_read}

-- one step after another
and_then_twice : {A B C : Type 0} (f : A → Option C) (g : B → Option C) (h : A → Option B) (o : Option A)
    → ((a : A) → f a ≡ option_and_then g (h a)) → option_and_then f o ≡ option_and_then g (option_and_then h o)
and_then_twice f g h None same = refl
and_then_twice f g h (Some a) same = same a

pub run-append : (read : Read) (tokens more : List Token) → run read (tokens ++ more) ≡ option_and_then (λ r. run r more) (run read tokens)
run-append read [] more = refl
run-append read (token ∷ tokens) more =
    and_then_twice (λ r. run r (tokens ++ more)) (λ r. run r more) (λ r. run r tokens) (next read token) (λ r. run-append r tokens more)

-- what has been read before no token
pub start_read : (names : Names) → HasRead names [] (start names)
start_read names = with_nothing nothing names [] names (refl, refl)

pub run_read : (names : Names) (before : List Token) (read : Read) (tokens : List Token) (r : Read) → HasRead names before read → run read tokens ≡ Some r → HasRead names (before ++ tokens) r
run_read names before read [] r has e =
    let P : Read → Type 0 = λ x. HasRead names (before ++ []) x in
    subst P (same_Some read r e) (rw append-nil has)
run_read names before read (token ∷ tokens) r has e =
    option_and_then_some (λ x. run x tokens) (next read token) r e (λ x at rest.
    let P : Option Read → Type 0 = λ o. IfSome o (λ y. HasRead names (before ++ token ∷ []) y) in
    let one : HasRead names (before ++ token ∷ []) x = subst P at (next_read names before read token has) in
    let all : HasRead names ((before ++ token ∷ []) ++ tokens) r = run_read names (before ++ token ∷ []) x tokens r one rest in
    rw append_assoc at all)

-- a token that is taken leads to the same
pub run_on : (read r : Read) (token : Token) (rest tokens : List Token) → tokens ≡ token ∷ rest → next read token ≡ Some r → run r rest ≡ run read tokens
run_on read r token rest tokens cut e = sym (ap (option_and_then (λ x. run x rest)) e) ∙ ap (run read) (sym cut)
