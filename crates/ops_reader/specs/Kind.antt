-- The kind of a token that is refused, by what may stand in its place.
use Rattle.std.specs.Prelude.{ℕ, List, if◌then◌else◌}
use Rattle.ops_reader.specs.declared.refusal.SyntaxKind.{SyntaxKind}
use Rattle.ops_reader.specs.declared.refusal.SyntaxKind.TheVariants.{Unexpected, BadNumeral, TooDeep, NotInProfile}
use Rattle.ops_reader.specs.declared.slot.Slot.{Slot}
use Rattle.ops_reader.specs.declared.slot.Slot.TheVariants as slot
use Rattle.ops_tokens.specs.Token.{Token, Open, Close, Slashes, Integer, Plain, Bad}
use Rattle.ops_reader.specs.LeftOut.{is_left_out}
use Rattle.ops_reader.specs.Refusal.{kind_of_fault}

-- a word at a head
abbrev pub kind_of_head : List ℕ → SyntaxKind
kind_of_head word = if is_left_out word then NotInProfile else Unexpected

-- any token
abbrev pub kind_at : Slot → Token → SyntaxKind
kind_at place (Bad f) = kind_of_fault f
kind_at slot.Head (Plain word key) = kind_of_head word
kind_at slot.Head Slashes = NotInProfile
kind_at slot.Constant Slashes = NotInProfile
kind_at slot.BindValue Slashes = NotInProfile
kind_at slot.BindValue Close = NotInProfile
kind_at slot.Operand Open = TooDeep
kind_at slot.Number (Integer z) = BadNumeral
kind_at place token = Unexpected
