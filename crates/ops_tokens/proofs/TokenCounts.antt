-- Each token has a byte of its own.
use Rattle.std.proofs.Common.{ℕ, ◌+◌, ◌≤◌, List, [], ◌∷◌, length, length-append, arith}
use Rattle.ops_tokens.specs.declared.byte.ByteKind.{ByteKind}
use Rattle.ops_tokens.specs.declared.byte.ByteKind.TheVariants as a_byte
use Rattle.ops_tokens.specs.Byte.{kind_of}
use Rattle.ops_tokens.specs.Tokens.{Scan, Between, Comment, Word, Bars, made, after, tokens, tokens_of}

-- what is open where a text is cut has bytes of its own
abbrev open_tokens : Scan → ℕ
open_tokens (Word word) = 1
open_tokens (Bars content) = 1
open_tokens other = 0

made_of_bytes : (scan : Scan) (kind : ByteKind) (b : ℕ) → length (made scan kind) + open_tokens (after scan kind b) ≤ open_tokens scan + 1
made_of_bytes Between a_byte.Blank b = omega arith
made_of_bytes Between a_byte.LineFeed b = omega arith
made_of_bytes Between a_byte.Semicolon b = omega arith
made_of_bytes Between a_byte.Bar b = omega arith
made_of_bytes Between a_byte.Open b = omega arith
made_of_bytes Between a_byte.Close b = omega arith
made_of_bytes Between a_byte.OpenBrace b = omega arith
made_of_bytes Between a_byte.CloseBrace b = omega arith
made_of_bytes Between a_byte.Caret b = omega arith
made_of_bytes Between a_byte.Letter b = omega arith
made_of_bytes Comment a_byte.Blank b = omega arith
made_of_bytes Comment a_byte.LineFeed b = omega arith
made_of_bytes Comment a_byte.Semicolon b = omega arith
made_of_bytes Comment a_byte.Bar b = omega arith
made_of_bytes Comment a_byte.Open b = omega arith
made_of_bytes Comment a_byte.Close b = omega arith
made_of_bytes Comment a_byte.OpenBrace b = omega arith
made_of_bytes Comment a_byte.CloseBrace b = omega arith
made_of_bytes Comment a_byte.Caret b = omega arith
made_of_bytes Comment a_byte.Letter b = omega arith
made_of_bytes (Word word) a_byte.Blank b = omega arith
made_of_bytes (Word word) a_byte.LineFeed b = omega arith
made_of_bytes (Word word) a_byte.Semicolon b = omega arith
made_of_bytes (Word word) a_byte.Bar b = omega arith
made_of_bytes (Word word) a_byte.Open b = omega arith
made_of_bytes (Word word) a_byte.Close b = omega arith
made_of_bytes (Word word) a_byte.OpenBrace b = omega arith
made_of_bytes (Word word) a_byte.CloseBrace b = omega arith
made_of_bytes (Word word) a_byte.Caret b = omega arith
made_of_bytes (Word word) a_byte.Letter b = omega arith
made_of_bytes (Bars content) a_byte.Blank b = omega arith
made_of_bytes (Bars content) a_byte.LineFeed b = omega arith
made_of_bytes (Bars content) a_byte.Semicolon b = omega arith
made_of_bytes (Bars content) a_byte.Bar b = omega arith
made_of_bytes (Bars content) a_byte.Open b = omega arith
made_of_bytes (Bars content) a_byte.Close b = omega arith
made_of_bytes (Bars content) a_byte.OpenBrace b = omega arith
made_of_bytes (Bars content) a_byte.CloseBrace b = omega arith
made_of_bytes (Bars content) a_byte.Caret b = omega arith
made_of_bytes (Bars content) a_byte.Letter b = omega arith

rest_of_bytes : (scan : Scan) (bytes : List ℕ) → length (tokens scan bytes) ≤ open_tokens scan + length bytes
rest_of_bytes Between [] = omega arith
rest_of_bytes Comment [] = omega arith
rest_of_bytes (Word word) [] = omega arith
rest_of_bytes (Bars content) [] = omega arith
rest_of_bytes scan (b ∷ bytes) =
    omega (arith, length-append (made scan (kind_of b)) (tokens (after scan (kind_of b) b) bytes), made_of_bytes scan (kind_of b) b, rest_of_bytes (after scan (kind_of b) b) bytes)

pub a_byte_each : (text : List ℕ) → length (tokens_of text) ≤ length text
a_byte_each text = omega (arith, rest_of_bytes Between text)
