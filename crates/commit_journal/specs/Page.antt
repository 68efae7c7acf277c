-- A page: the text that is laid out so far, as it grows.
use Rattle.std.specs.Prelude.{ℕ, List, ◌++◌, false, None, length, fold}
use Rattle.rule_base.specs.declared.change.Piece.{Piece}
use Rattle.rule_base.specs.Layout.{Text, space_before, after_piece}

-- the text with further bytes
abbrev pub with_bytes : Text → List ℕ → Text
with_bytes text more = record { bytes = text.bytes ++ more; glue = text.glue; width = text.width }

-- the text with a value that is written so
abbrev pub with_value_text : Text → List ℕ → Text
with_value_text text b = record { bytes = text.bytes ++ space_before text.width text (length b) ++ b; glue = false; width = None }

-- the text with further pieces
abbrev pub after_pieces : List (List ℕ) → Text → List Piece → Text
after_pieces names text pieces = fold (after_piece names) text pieces
