-- The variables of a scope have values where they can be used.
use Rattle.std.proofs.Common.{◌≡◌, ℕ, ◌+◌, ◌≤◌, Bool, true, false, cond, ◌==◌, List, [], ◌∷◌, Option, None, Some, nat_eq, refl, subst, arith}
use Rattle.std.specs.Option.{option_or}
use Rattle.std.specs.List.{AllByRecursion, list_any}
use Rattle.std.proofs.lemmas.Bool.Decides.{nat_tests}
use Rattle.rule_base.specs.Sound.{IsKnown}
use Rattle.rule_checker.specs.declared.scope.Scope.{Scope}
use Rattle.rule_checker.specs.Names.{Numbering, number_of}
use Rattle.rule_checker.specs.Scope.{variable_of, with_variable}
use Rattle.rule_checker.proofs.ListLemmas.{all_push, all_map}

IsKnown-more : (vars more : ℕ) (known : List ℕ) (var : ℕ) → vars ≤ more → IsKnown vars known var → IsKnown more known var
IsKnown-more vars more known var le h = (omega (arith, h.0), h.1)

IsKnown-next : (vars : ℕ) (known : List ℕ) (next var : ℕ) → IsKnown vars known var → IsKnown vars (next ∷ known) var
IsKnown-next vars known next var h = (h.0, let there : list_any (λ n. n == var) known ≡ true = h.1 in grind arith)

IsKnown-head : (vars : ℕ) (known : List ℕ) → IsKnown (vars + 1) (vars ∷ known) vars
IsKnown-head vars known = (omega arith, grind (arith, nat_tests))

-- the numbers of names are those of variables that have a value
abbrev pub AreKnown : ℕ → List ℕ → Numbering → Type 0
AreKnown vars known numbering = AllByRecursion (λ (e : ℕ × ℕ). IsKnown vars known e.1) numbering

number_of-known : (vars : ℕ) (known : List ℕ) (numbering : Numbering) (name var : ℕ) → AreKnown vars known numbering → number_of numbering name ≡ Some var → IsKnown vars known var
number_of-known vars known [] name var h e = absurd (cc)
number_of-known vars known (first ∷ rest) name var h e = by (number_of-known vars known rest name var h.1) (nat_eq name first.0) e
  where
    by : (number_of rest name ≡ Some var → IsKnown vars known var) → (b : Bool) → cond b (Some first.1) (number_of rest name) ≡ Some var → IsKnown vars known var
    by later true s = let same : first.1 ≡ var = cc in subst (IsKnown vars known) same h.0
    by later false s = later s

-- the variables that can be used at a place have values there
pub record IsScope (known : List ℕ) (scope : Scope) : Type 0 where
  pub bound : AreKnown scope.vars known scope.bound
  pub local : AreKnown scope.vars known scope.local

pub variable_of-known : (known : List ℕ) (scope : Scope) (name var : ℕ) → IsScope known scope → variable_of scope name ≡ Some var → IsKnown scope.vars known var
variable_of-known known scope name var h e = by (number_of scope.bound name) refl e
  where
    by : (o : Option ℕ) → number_of scope.bound name ≡ o → option_or o (number_of scope.local name) ≡ Some var → IsKnown scope.vars known var
    by None is s = number_of-known scope.vars known scope.local name var h.local s
    by (Some v) is s = let same : v ≡ var = cc in number_of-known scope.vars known scope.bound name var h.bound (subst (λ (n : ℕ). number_of scope.bound name ≡ Some n) same is)

-- a variable more takes none of the others away
more_known : (vars : ℕ) (known : List ℕ) (numbering : Numbering) → AreKnown vars known numbering → AreKnown (vars + 1) (vars ∷ known) numbering
more_known vars known numbering h = all_map _ _ (λ (e : ℕ × ℕ) k. IsKnown-more vars (vars + 1) (vars ∷ known) e.1 (omega arith) (IsKnown-next vars known vars e.1 k)) numbering h

pub AreKnown-next : (vars : ℕ) (known : List ℕ) (next : ℕ) (numbering : Numbering) → AreKnown vars known numbering → AreKnown vars (next ∷ known) numbering
AreKnown-next vars known next numbering h = all_map _ _ (λ (e : ℕ × ℕ) k. IsKnown-next vars known next e.1 k) numbering h

pub AreKnown-more : (vars more : ℕ) (known : List ℕ) (numbering : Numbering) → vars ≤ more → AreKnown vars known numbering → AreKnown more known numbering
AreKnown-more vars more known numbering le h = all_map _ _ (λ (e : ℕ × ℕ) k. IsKnown-more vars more known e.1 le k) numbering h

pub with_variable-known : (negated : Bool) (known : List ℕ) (scope : Scope) (name : ℕ) → IsScope known scope → IsScope (scope.vars ∷ known) (with_variable negated scope name)
with_variable-known true known scope name h = record {
  bound = more_known scope.vars known scope.bound h.bound;
  local = all_push _ scope.local (name, scope.vars) (more_known scope.vars known scope.local h.local) (IsKnown-head scope.vars known);
}
with_variable-known false known scope name h = record {
  bound = all_push _ scope.bound (name, scope.vars) (more_known scope.vars known scope.bound h.bound) (IsKnown-head scope.vars known);
  local = more_known scope.vars known scope.local h.local;
}

pub with_variable-vars : (negated : Bool) (scope : Scope) (name : ℕ) → (with_variable negated scope name).vars ≡ scope.vars + 1
with_variable-vars true scope name = refl
with_variable-vars false scope name = refl
