-- How rules that were passed are taken apart, and what a walk that passes keeps.
use Rattle.std.proofs.Common.{◌≡◌, Bool, true, false, List, [], ◌∷◌, Option, None, Some, Result, Ok, Err, refl, subst}
use Rattle.std.specs.List.{AllByRecursion}
use Rattle.rule_base.specs.Chains.{◌>>=◌}
use Rattle.rule_checker.specs.declared.refusal.CheckKind.{CheckKind}
use Rattle.rule_checker.specs.Walk.{refused_if, found_or, after_each}

pub same_ok : {A E : Type 0} {a b : A} → ◌≡◌ {A = Result A E} (Ok a) (Ok b) → a ≡ b
same_ok e = cc

-- a chain that passes went through something
pub passed : {A B E : Type 0} (first : Result A E) (more : A → Result B E) (b : B) → (first >>= more) ≡ Ok b → (a : A) × (first ≡ Ok a) × (more a ≡ Ok b)
passed (Err e) more b h = absurd (cc)
passed (Ok a) more b h = (a, refl, h)

-- a rule that is kept
pub kept : (b : Bool) (kind : CheckKind) (u : Unit {0}) → refused_if b kind ≡ Ok u → b ≡ false
kept true kind u h = absurd (cc)
kept false kind u h = refl

pub found : {A : Type 0} (o : Option A) (kind : CheckKind) (a : A) → found_or o kind ≡ Ok a → o ≡ Some a
found None kind a h = absurd (cc)
found (Some x) kind a h = let same : x ≡ a = cc in cc

-- what each step keeps holds in the end
pub after_each-keeps : {S A E : Type 0} (P : S → Type 0) (step : S → A → Result S E) → ((s : S) (a : A) (t : S) → P s → step s a ≡ Ok t → P t) → (s : S) (xs : List A) (t : S) → P s → after_each step s xs ≡ Ok t → P t
after_each-keeps P step keeps s [] t p e = let same : s ≡ t = cc in subst P same p
after_each-keeps P step keeps s (a ∷ rest) t p e =
    let w = passed (step s a) (λ next. after_each step next rest) t e in
    after_each-keeps P step keeps w.0 rest t (keeps s a w.0 p w.1) w.2

-- the same, where each element is known to be of a kind
pub after_each-keeps_of : {S A E : Type 0} (P : S → Type 0) (Q : A → Type 0) (step : S → A → Result S E) → ((s : S) (a : A) (t : S) → Q a → P s → step s a ≡ Ok t → P t)
    → (s : S) (xs : List A) (t : S) → AllByRecursion Q xs → P s → after_each step s xs ≡ Ok t → P t
after_each-keeps_of P Q step keeps s [] t all p e = let same : s ≡ t = cc in subst P same p
after_each-keeps_of P Q step keeps s (a ∷ rest) t all p e =
    let w = passed (step s a) (λ next. after_each step next rest) t e in
    after_each-keeps_of P Q step keeps w.0 rest t all.1 (keeps s a w.0 all.0 p w.1) w.2
