-- The words of OPS5 that are left out of this language.
use Rattle.std.specs.Prelude.{ℕ, List, [], ◌∷◌, Bool, ◌||◌, codes}
use Rattle.std.specs.List.{list_any}
use Rattle.std.specs.Str.{bytes_eq}

-- functions and actions of right-hand sides
abbrev pub functions_left_out : List (List ℕ)
functions_left_out = codes "substr" ∷ codes "litval" ∷ codes "genatom" ∷ codes "cbind" ∷ codes "build" ∷ codes "call" ∷ codes "default" ∷ []

-- those for files and the terminal
abbrev pub files_left_out : List (List ℕ)
files_left_out = codes "accept" ∷ codes "acceptline" ∷ codes "openfile" ∷ codes "closefile" ∷ []

-- top-level declarations
abbrev pub declarations_left_out : List (List ℕ)
declarations_left_out = codes "literal" ∷ codes "vector-attribute" ∷ codes "external" ∷ codes "pbreak" ∷ []

-- commands
abbrev pub commands_left_out : List (List ℕ)
commands_left_out = codes "run" ∷ codes "excise" ∷ codes "wm" ∷ codes "pm" ∷ codes "cs" ∷ codes "ppwm" ∷ codes "matches" ∷ codes "back" ∷ []

-- whether the word is one of these
abbrev pub is_among : List ℕ → List (List ℕ) → Bool
is_among word words = list_any (bytes_eq word) words

-- whether the word is left out
abbrev pub is_left_out : List ℕ → Bool
is_left_out word =
    is_among word declarations_left_out || is_among word functions_left_out || is_among word files_left_out || is_among word commands_left_out
