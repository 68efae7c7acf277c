-- Texts that pieces make.
use Rattle.std.specs.Prelude.{◌≡◌, ℕ, List, [], ◌∷◌, negsuc, codes}
use Rattle.rule_base.specs.declared.value.Value.TheVariants.{Int, Sym}
use Rattle.rule_base.specs.declared.change.Piece.TheVariants.{Put, Crlf, Tabto, Rjust}
use Rattle.rule_base.specs.Layout.{layout}
use Rattle.rule_base.specs.Examples.Programs.{int}

-- nil, a, b, c, d, found, b2, a symbol of two lines, the empty symbol, and one that ends its line
abbrev pub names : List (List ℕ)
names = codes "nil" ∷ codes "a" ∷ codes "b" ∷ codes "c" ∷ codes "d" ∷ codes "found" ∷ codes "b2" ∷ codes "x\ny" ∷ codes "" ∷ codes "x\n" ∷ []

pub record AreLayouts : Type 0 where
  pub nothing : layout names [] ≡ []
  pub one_value : layout names (Put (int 1) ∷ []) ≡ codes "1"
  pub negative : layout names (Put (Int (negsuc 6)) ∷ Put (Sym 0) ∷ []) ≡ codes "-7 nil"
  -- (write found <n> (crlf))
  pub line : layout names (Put (Sym 5) ∷ Put (Sym 6) ∷ Crlf ∷ []) ≡ codes "found b2\n"
  -- (write a (tabto 6) b (rjust 4) 12 (crlf) (rjust 2) 12345 c (tabto 3) d)
  pub columns : layout names (Put (Sym 1) ∷ Tabto 6 ∷ Put (Sym 2) ∷ Rjust 4 ∷ Put (int 12) ∷ Crlf ∷ Rjust 2 ∷ Put (int 12345) ∷ Put (Sym 3) ∷ Tabto 3 ∷ Put (Sym 4) ∷ [])
      ≡ codes "a     b  12\n12345 c\n   d"
  -- a column that is reached already begins a new line, even column 0 of an empty text
  pub column_zero : layout names (Tabto 0 ∷ Put (Sym 1) ∷ []) ≡ codes "\na"
  -- a width that no value follows is lost
  pub lost_width : layout names (Rjust 4 ∷ Crlf ∷ Put (Sym 1) ∷ []) ≡ codes "\na"
  pub last_width : layout names (Rjust 9 ∷ Rjust 3 ∷ Put (Sym 1) ∷ []) ≡ codes "  a"
  -- a symbol with a line feed begins a new line, so the next value stands after its last line
  pub symbol_of_two_lines : layout names (Put (Sym 7) ∷ Tabto 3 ∷ Put (Sym 1) ∷ []) ≡ codes "x\ny  a"
  pub ends_its_line : layout names (Put (Sym 9) ∷ Put (Sym 1) ∷ []) ≡ codes "x\na"
  -- a width of 0 is a width, and leaves no space
  pub width_zero : layout names (Put (Sym 1) ∷ Rjust 0 ∷ Put (Sym 2) ∷ []) ≡ codes "ab"
  pub exact_width : layout names (Put (Sym 1) ∷ Rjust 2 ∷ Put (Sym 6) ∷ []) ≡ codes "ab2"
  pub width_then_column : layout names (Rjust 4 ∷ Tabto 3 ∷ Put (Sym 1) ∷ []) ≡ codes "   a"
  pub width_serves_once : layout names (Rjust 3 ∷ Put (Sym 1) ∷ Put (Sym 2) ∷ []) ≡ codes "  a b"
  pub sign_counts : layout names (Rjust 4 ∷ Put (Int (negsuc 11)) ∷ []) ≡ codes " -12"
  pub column_reached : layout names (Put (Sym 1) ∷ Tabto 1 ∷ Put (Sym 2) ∷ []) ≡ codes "a\n b"
  pub empty_symbol : layout names (Put (Sym 1) ∷ Put (Sym 8) ∷ Put (Sym 2) ∷ []) ≡ codes "a  b"
