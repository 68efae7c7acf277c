-- Where the tokens of a text begin.
use Rattle.std.specs.Prelude.{ℕ, suc, ◌+◌, ◌-◌, List, [], ◌∷◌, ◌++◌, length, map}
use Rattle.ops_tokens.specs.declared.byte.ByteKind.{ByteKind}
use Rattle.ops_tokens.specs.declared.byte.ByteKind.TheVariants.{Bar, Letter}
use Rattle.ops_tokens.specs.Byte.{kind_of}
use Rattle.ops_tokens.specs.Tokens.{Scan, Between, Comment, Word, Bars, mark, after}

-- the lengths of the text from the first byte of each token on, for the tokens that a byte of this kind makes whole, where
-- so much of the text is left from that byte on
abbrev pub lefts_made : Scan → ByteKind → ℕ → List ℕ
lefts_made Between kind left = map (λ token. left) (mark kind)
lefts_made Comment kind left = []
lefts_made (Word word) Letter left = []
lefts_made (Word word) kind left = (length word + left) ∷ map (λ token. left) (mark kind)
lefts_made (Bars content) Bar left = (suc (length content) + left) ∷ []
lefts_made (Bars content) kind left = []

-- the same for the token that the end of the text makes whole. A bar without a second one is wrong at the end
abbrev pub lefts_at_end : Scan → List ℕ
lefts_at_end Between = []
lefts_at_end Comment = []
lefts_at_end (Word word) = length word ∷ []
lefts_at_end (Bars content) = 0 ∷ []

-- how much of the text is left from the first byte of each token on
abbrev pub lefts : Scan → List ℕ → List ℕ
lefts scan [] = lefts_at_end scan
lefts scan (b ∷ bs) = lefts_made scan (kind_of b) (suc (length bs)) ++ lefts (after scan (kind_of b) b) bs

-- the same for a text that isn't cut
abbrev pub lefts_of : List ℕ → List ℕ
lefts_of text = lefts Between text

-- the place of each token: that of its first byte, counted from 0, and the length of the text for a bar without a second one
abbrev pub places_of : List ℕ → List ℕ
places_of text = map (λ left. length text - left) (lefts_of text)
