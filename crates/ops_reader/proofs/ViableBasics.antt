-- Whatever has been read can go on to its end: a part has an end behind which the whole has been read.
use Rattle.std.proofs.Common.{◌≡◌, List, [], ◌∷◌, ◌++◌, Some, None, ap, ◌∙◌, append_assoc}
use Rattle.ops_text.specs.Names.{Names}
use Rattle.ops_tokens.specs.Token.{Token, Plain}
use Rattle.ops_reader.specs.Reading.{Read, next, run}
use Rattle.ops_reader.proofs.CompleteBasics.{leads_by}

-- the shortest symbol
abbrev pub word : Token
word = Plain [] None

-- these tokens lead from what has been read to the whole of something, whatever follows
pub record EndsBy {V : Type 0} (from : Read) (to : V → Names → Read) (tokens : List Token) : Type 0 where
  pub whole : V
  pub names : Names
  pub ends : (more : List Token) → run from (tokens ++ more) ≡ run (to whole names) more

-- tokens that lead to a longer part, and then to the end
pub ends_behind : {V : Type 0} (from middle : Read) (to : V → Names → Read) (front back : List Token)
    → ((more : List Token) → run from (front ++ more) ≡ run middle more) → EndsBy middle to back → EndsBy from to (front ++ back)
ends_behind from middle to front back first end = record {
  whole = end.whole;
  names = end.names;
  ends = λ more. ap (run from) (append_assoc front back more) ∙ first (back ++ more) ∙ end.ends more;
}

-- an end of a part of a part, and the rest of the longer part behind it
pub ends_around : {V W : Type 0} (from : Read) (middle : V → Names → Read) (to : W → Names → Read) (front back : List Token)
    → EndsBy from middle front → ((v : V) (names : Names) → EndsBy (middle v names) to back) → EndsBy from to (front ++ back)
ends_around from middle to front back first rest =
    ends_behind from (middle first.whole first.names) to front back first.ends (rest first.whole first.names)

-- one token that makes something whole
pub ends_token : {V : Type 0} (from : Read) (to : V → Names → Read) (token : Token) (v : V) (names : Names) → next from token ≡ Some (to v names) → EndsBy from to (token ∷ [])
ends_token from to token v names e = record { whole = v; names = names; ends = leads_by token from (to v names) e }

-- one token, and then an end
pub token_then : {V : Type 0} (from middle : Read) (to : V → Names → Read) (token : Token) (back : List Token) → next from token ≡ Some middle → EndsBy middle to back → EndsBy from to (token ∷ back)
token_then from middle to token back e end = ends_behind from middle to (token ∷ []) back (leads_by token from middle e) end

-- the whole of a part is the whole of a longer one
pub ends_as : {V W : Type 0} (f : V → W) (from : Read) (to : W → Names → Read) (tokens : List Token) → EndsBy from (λ v. to (f v)) tokens → EndsBy from to tokens
ends_as f from to tokens end = record { whole = f end.whole; names = end.names; ends = end.ends }
