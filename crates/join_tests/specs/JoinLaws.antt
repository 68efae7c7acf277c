-- Laws of joining: what equal keys say, and how rows grow.
use Rattle.std.specs.Prelude.{◌≡◌, ◌↔◌, List, [], ◌∷◌, ◌++◌, true, ◌&&◌, length}
use Rattle.rule_base.specs.declared.element.Element.{Element}
use Rattle.join_tests.specs.declared.joins.KeyPart.{KeyPart}
use Rattle.join_tests.specs.declared.joins.Join.{Join}
use Rattle.join_tests.specs.Joining.{LooksBack, are_joined, joins, key_of_element, key_of_row, same_key}
use Rattle.join_tests.specs.Hashing.{hash_of}

-- an element has the values that a row asks for where their keys are equal
abbrev pub KeysAreEqual : Type 0
KeysAreEqual = (key : List KeyPart) (es : List Element) (e : Element) → (same_key key es e ≡ true) ↔ (key_of_element key e ≡ key_of_row key es)

-- so what joins a row is found at the row's hash
abbrev pub HashesAreEqual : Type 0
HashesAreEqual = (join : Join) (es : List Element) (e : Element) → joins join es e ≡ true → hash_of (key_of_element join.key e) ≡ hash_of (key_of_row join.key es)

-- what a join says of a row stays as the row goes on
abbrev pub RowsGoOn : Type 0
RowsGoOn = (join : Join) (es more : List Element) (e : Element) → LooksBack (length es) join → joins join (es ++ more) e ≡ joins join es e

-- a row of one element more is a row and an element that joins it
abbrev pub RowsGrow : Type 0
RowsGrow = (all : List Join) (es : List Element) (join : Join) (e : Element) → are_joined (all ++ join ∷ []) (es ++ e ∷ []) ≡ (are_joined all es && joins join es e)
