-- The canonical text of symbols, numbers and variables.
use Rattle.std.specs.Prelude.{ℕ, List, [], ◌++◌, Bool, true, false, ◌&&◌, nat_lt, if◌then◌else◌, length, slice_get, unwrap_or, codes}
use Rattle.std.specs.List.{list_all, flat_map}
use Rattle.std.specs.Fmt.{signed_decimal}
use Rattle.ops_text.specs.Names.{Names}
use Rattle.rule_base.specs.declared.value.Value.{Value}
use Rattle.rule_base.specs.declared.value.Value.TheVariants as a_value
use Rattle.ops_reader.specs.declared.form.FormArg.{FormArg}
use Rattle.ops_reader.specs.declared.form.FormArg.TheVariants as an_argument
use Rattle.ops_tokens.specs.Byte.{is_letter}
use Rattle.ops_tokens.specs.Token.{Token, Plain}
use Rattle.ops_tokens.specs.Word.{word_token}

-- the name with this number
abbrev pub name_at : Names → ℕ → List ℕ
name_at names n = unwrap_or (slice_get names n) []

-- whether the token is a plain symbol
abbrev pub is_plain : Token → Bool
is_plain (Plain word keyword) = true
is_plain other = false

-- whether the name reads back as a symbol without bars: a run of letters that is a plain symbol, which has at most 255 bytes
abbrev pub is_bare : List ℕ → Bool
is_bare name = nat_lt 0 (length name) && list_all is_letter name && is_plain (word_token name)

-- a symbol is bare where it can be, and else stands between bars
abbrev pub bare_or_barred : List ℕ → List ℕ
bare_or_barred name = if is_bare name then name else codes "|" ++ name ++ codes "|"

-- the symbol of the name with this number
unfoldable pub symbol_text : Names → ℕ → List ℕ
symbol_text names n = bare_or_barred (name_at names n)

-- the variable of the name with this number
abbrev pub variable_text : Names → ℕ → List ℕ
variable_text names n = codes "<" ++ name_at names n ++ codes ">"

-- an integer in decimal, or a symbol
abbrev pub constant_text : Names → Value → List ℕ
constant_text names (a_value.Int z) = signed_decimal z
constant_text names (a_value.Sym n) = symbol_text names n

-- a constant or a variable
abbrev pub argument_text : Names → FormArg → List ℕ
argument_text names (an_argument.Con v) = constant_text names v
argument_text names (an_argument.Name n) = variable_text names n

-- the texts of some things, each with a space before it
abbrev pub spaced : {A : Type 0} → (A → List ℕ) → List A → List ℕ
spaced text_of things = flat_map (λ thing. codes " " ++ text_of thing) things

-- an attribute with what it is set to or tested by
unfoldable pub setting_text : {A : Type 0} → Names → (A → List ℕ) → ℕ × A → List ℕ
setting_text names text_of set = codes "^" ++ symbol_text names set.0 ++ codes " " ++ text_of set.1
