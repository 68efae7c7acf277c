-- What the words that are no plain symbols look like, part by part.
use Rattle.std.specs.Prelude.{◌≡◌, ℕ, ◌+◌, ◌<◌, true, false, ◌⊎◌, ◌↔◌, List, [], ◌∷◌, ◌++◌, length, codes}
use Rattle.std.specs.Char.{is_ascii_digit}
use Rattle.std.specs.List.{list_any}
use Rattle.ops_tokens.specs.Byte.{AreAll}
use Rattle.ops_tokens.specs.Word.{is_angle, is_variable, is_integer, is_exponent_mark, is_float}

-- a plus, a minus, or nothing
abbrev pub IsSign : List ℕ → Type 0
IsSign sign = (sign ≡ []) ⊎ (sign ≡ codes "+") ⊎ (sign ≡ codes "-")

-- an integer: a sign, and one digit or more
pub record IsSignedDigits (word : List ℕ) : Type 0 where
  pub sign : List ℕ
  pub digits : List ℕ
  pub spelled : word ≡ sign ++ digits
  pub signed : IsSign sign
  pub all_digits : AreAll is_ascii_digit digits
  pub some : 0 < length digits

-- an exponent: `e` or `E`, and an integer
pub record IsExponent (exponent : List ℕ) : Type 0 where
  pub mark : ℕ
  pub power : List ℕ
  pub spelled : exponent ≡ mark ∷ power
  pub marked : is_exponent_mark mark ≡ true
  pub signed_digits : IsSignedDigits power

-- a sign, digits with a point before, among or after them, and perhaps an exponent
pub record HasPoint (word : List ℕ) : Type 0 where
  pub sign : List ℕ
  pub front : List ℕ
  pub back : List ℕ
  pub exponent : List ℕ
  pub spelled : word ≡ sign ++ ((front ++ codes "." ++ back) ++ exponent)
  pub signed : IsSign sign
  pub digits_before : AreAll is_ascii_digit front
  pub digits_behind : AreAll is_ascii_digit back
  pub some : 0 < length front + length back
  pub ends : (exponent ≡ []) ⊎ IsExponent exponent

-- a sign, digits, and an exponent
pub record HasExponent (word : List ℕ) : Type 0 where
  pub sign : List ℕ
  pub digits : List ℕ
  pub exponent : List ℕ
  pub spelled : word ≡ sign ++ (digits ++ exponent)
  pub signed : IsSign sign
  pub all_digits : AreAll is_ascii_digit digits
  pub some : 0 < length digits
  pub ends : IsExponent exponent

-- a name in angle brackets, which has no such bracket
pub record IsBracketed (word : List ℕ) : Type 0 where
  pub name : List ℕ
  pub spelled : word ≡ codes "<" ++ name ++ codes ">"
  pub some : 0 < length name
  pub no_bracket : list_any is_angle name ≡ false

-- the kinds of words by their shapes
pub record HasShapeOfItsKind (word : List ℕ) : Type 0 where
  pub variable : (is_variable word ≡ true) ↔ IsBracketed word
  pub integer : (is_integer word ≡ true) ↔ IsSignedDigits word
  pub float : (is_float word ≡ true) ↔ (HasPoint word ⊎ HasExponent word)
