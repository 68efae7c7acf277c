-- The layout of the text that `write` writes: columns, glue and width.
use Rattle.std.specs.Prelude.{ℕ, ◌-◌, List, [], ◌∷◌, ◌++◌, Bool, true, false, ◌||◌, ◌==◌, if◌then◌else◌, nat_le, Option, None, Some, length, replicate, fold, slice_get, unwrap_or}
use Rattle.std.specs.List.{after_last}
use Rattle.std.specs.Fmt.{signed_decimal}
use Rattle.rule_base.specs.declared.value.Value.{Value}
use Rattle.rule_base.specs.declared.value.Value.TheVariants.{Int, Sym}
use Rattle.rule_base.specs.declared.change.Piece.{Piece}
use Rattle.rule_base.specs.declared.change.Piece.TheVariants.{Put, Crlf, Tabto, Rjust}

-- the text so far; glue, which keeps the next value from getting a space before it; and the width that the next
-- value is to fill
pub record Text : Type 0 where
  pub bytes : List ℕ
  pub glue : Bool
  pub width : Option ℕ

-- how many bytes stand after the last line feed, or in all where there is none
abbrev pub column : List ℕ → ℕ
column bytes = length (after_last (λ b. b == 10) bytes)

-- how a value is written: a number in decimal, a symbol by its bytes, with no bars
abbrev pub value_text : List (List ℕ) → Value → List ℕ
value_text names (Int z) = signed_decimal z
value_text names (Sym s) = unwrap_or (slice_get names s) []

-- so many spaces
abbrev pub spaces : ℕ → List ℕ
spaces n = replicate n 32

-- the spaces before a value of this length: they fill the width, where there is one, and else part the value from
-- what stands before it on its line
abbrev pub space_before : Option ℕ → Text → ℕ → List ℕ
space_before (Some n) text size = spaces (n - size)
space_before None text size = if (column text.bytes == 0) || text.glue then [] else spaces 1

-- the text with a line feed, where this column is reached or passed
abbrev pub line_before : ℕ → List ℕ → List ℕ
line_before n bytes = if nat_le n (column bytes) then bytes ++ 10 ∷ [] else bytes

-- the text with spaces up to a column
abbrev pub spaced_to : ℕ → List ℕ → List ℕ
spaced_to n bytes = bytes ++ spaces (n - column bytes)

-- the text after one piece more
abbrev pub after_piece : List (List ℕ) → Text → Piece → Text
after_piece names text (Put value) =
    let b = value_text names value in record { bytes = text.bytes ++ space_before text.width text (length b) ++ b; glue = false; width = None }
after_piece names text Crlf = record { bytes = text.bytes ++ 10 ∷ []; glue = true; width = None }
after_piece names text (Tabto n) = record { bytes = spaced_to n (line_before n text.bytes); glue = true; width = None }
after_piece names text (Rjust n) = record { bytes = text.bytes; glue = text.glue; width = Some n }

-- the text of a list of pieces
abbrev pub layout : List (List ℕ) → List Piece → List ℕ
layout names pieces = (fold (after_piece names) (record { bytes = []; glue = false; width = None }) pieces).bytes
