-- The parts that bytes play in a text.
use Rattle.std.specs.Prelude.{◌≡◌, ⊤, List, [], ◌∷◌, ℕ, Bool, true, false, not, ◌||◌, ◌==◌, if◌then◌else◌}
use Rattle.std.specs.List.{list_all}
use Rattle.std.specs.Str.{byte}
use Rattle.ops_tokens.specs.declared.byte.ByteKind.{ByteKind}
use Rattle.ops_tokens.specs.declared.byte.ByteKind.TheVariants.{Blank, LineFeed, Semicolon, Bar, Open, Close, OpenBrace, CloseBrace, Caret, Letter}

-- white space is the tabulator, the line feed, which has a kind of its own, the form feed, the carriage return and the space
abbrev pub kind_of : ℕ → ByteKind
kind_of b =
    if b == 9 || b == 12 || b == 13 || b == 32 then Blank
    else if b == 10 then LineFeed
    else if b == byte ";" then Semicolon
    else if b == byte "|" then Bar
    else if b == byte "(" then Open
    else if b == byte ")" then Close
    else if b == byte "{" then OpenBrace
    else if b == byte "}" then CloseBrace
    else if b == byte "^" then Caret
    else Letter

-- bytes of this kind stand in words
abbrev pub is_letter_kind : ByteKind → Bool
is_letter_kind Letter = true
is_letter_kind kind = false

-- the byte stands in words
abbrev pub is_letter : ℕ → Bool
is_letter b = is_letter_kind (kind_of b)

-- the byte stands within bars: it is any but a bar
abbrev pub stands_in_bars : ℕ → Bool
stands_in_bars b = not (b == byte "|")

-- the byte stands within a comment: it is any but the line feed
abbrev pub stands_in_line : ℕ → Bool
stands_in_line b = not (b == 10)

-- each of the bytes passes the test
abbrev pub AreAll : (ℕ → Bool) → List ℕ → Type 0
AreAll test bytes = list_all test bytes ≡ true

-- the list is empty, or its first byte is none of these
abbrev pub BeginsWithout : (ℕ → Bool) → List ℕ → Type 0
BeginsWithout test [] = ⊤
BeginsWithout test (b ∷ bs) = test b ≡ false
