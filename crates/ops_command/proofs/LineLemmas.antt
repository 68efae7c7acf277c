-- A line is put together from its pieces in one go or piece by piece.
use Rattle.std.proofs.Common.{◌≡◌, ℕ, List, ◌++◌, Result, IfOk, refl, subst, append_assoc}

pub seven_pieces : (a b c d e f g : List ℕ) → a ++ (b ++ (c ++ (d ++ (e ++ (f ++ g))))) ≡ a ++ b ++ c ++ d ++ e ++ f ++ g
seven_pieces a b c d e f g = rw (← append_assoc a b (c ++ (d ++ (e ++ (f ++ g)))), ← append_assoc (a ++ b) c (d ++ (e ++ (f ++ g))), ← append_assoc (a ++ b ++ c) d (e ++ (f ++ g)), ← append_assoc (a ++ b ++ c ++ d) e (f ++ g), ← append_assoc (a ++ b ++ c ++ d ++ e) f g) refl

pub IfOk-bytes : {S E : Type 0} (bytes : S → List ℕ) (r : Result S E) (text same : List ℕ) → text ≡ same → IfOk r (λ s. bytes s ≡ text) → IfOk r (λ s. bytes s ≡ same)
IfOk-bytes bytes r text same e given = subst (λ (t : List ℕ). IfOk r (λ s. bytes s ≡ t)) e given
