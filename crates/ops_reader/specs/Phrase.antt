-- Phrases: what tokens spell. A symbol and a variable stand in a form by the number of their name, so a phrase
-- relates the names before its tokens to those after them.
use Rattle.std.specs.Prelude.{◌≡◌, ◌≤◌, ◌⊎◌, ℕ, pos, List, [], ◌∷◌, ◌++◌, Option, Some}
use Rattle.ops_text.specs.Names.{Names, number_of, with_name}
use Rattle.ops_tokens.specs.declared.token.Keyword.{Keyword}
use Rattle.ops_tokens.specs.Token.{Token, Integer, Plain}

-- a relation of the names before some tokens, the tokens, and the names after them
abbrev pub Phrase : Type 1
Phrase = Names → List Token → Names → Type 0

-- no token
abbrev pub nothing : Phrase
nothing before tokens after = (tokens ≡ []) × (after ≡ before)

-- what no tokens spell
abbrev pub never : Phrase
never before tokens after = ⊥

infixl 20 ◌⨾◌
-- a phrase, and then another
pub record ◌⨾◌ (first second : Phrase) (before : Names) (tokens : List Token) (after : Names) : Type 0 where
  pub front : List Token
  pub back : List Token
  pub between : Names
  pub cut : tokens ≡ front ++ back
  pub of_first : first before front between
  pub of_second : second between back after

-- one phrase or the other
abbrev pub either : Phrase → Phrase → Phrase
either one other before tokens after = one before tokens after ⊎ other before tokens after

-- none, one or more
abbrev pub any : {A : Type 0} → (A → Phrase) → List A → Phrase
any phrase [] = nothing
any phrase (x ∷ xs) = phrase x ⨾ any phrase xs

-- one or more
abbrev pub some : {A : Type 0} → (A → Phrase) → List A → Phrase
some phrase [] = never
some phrase (x ∷ xs) = any phrase (x ∷ xs)

-- this token
abbrev pub the : Token → Phrase
the token before tokens after = (tokens ≡ token ∷ []) × (after ≡ before)

-- this word of the grammar, which gets no number
abbrev pub keyword : Keyword → Phrase
keyword key before tokens after = (word : List ℕ) × (tokens ≡ Plain word (Some key) ∷ []) × (after ≡ before)

-- an integer from 0 to this one
abbrev pub up_to : ℕ → ℕ → Phrase
up_to most n before tokens after = (n ≤ most) × the (Integer (pos n)) before tokens after

-- a token that stands for a name, by the number of the name
abbrev pub naming : (Token → Option (List ℕ)) → ℕ → Phrase
naming name_of n before tokens after =
    (token : Token) × (name : List ℕ)
    × (tokens ≡ token ∷ []) × (name_of token ≡ Some name) × (n ≡ number_of before name) × (after ≡ with_name before name)
