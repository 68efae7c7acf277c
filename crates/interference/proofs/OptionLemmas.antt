-- What a chain that came to something says of its steps.
use Rattle.std.proofs.Common.{◌≡◌, Bool, true, false, ◌&&◌, Option, Some, None, option_and_then, option_map, refl}
use Rattle.rule_base.specs.Chains.{only_if}

-- what a step gave, and what the next made of it
pub record Gave {A B : Type 0} (o : Option A) (next : A → Option B) (last : B) : Type 0 where
  pub first : A
  pub is : o ≡ Some first
  pub next_is : next first ≡ Some last

pub Gave-some : {A B : Type 0} (o : Option A) (next : A → Option B) (last : B) → option_and_then next o ≡ Some last → Gave o next last
Gave-some None next last some = absurd (let wrong : ⊥ = cc in wrong)
Gave-some (Some a) next last some = record { first = a; is = refl; next_is = some }

pub record GaveMapped {A B : Type 0} (o : Option A) (f : A → B) (last : B) : Type 0 where
  pub first : A
  pub is : o ≡ Some first
  pub last_is : f first ≡ last

pub GaveMapped-some : {A B : Type 0} (o : Option A) (f : A → B) (last : B) → option_map f o ≡ Some last → GaveMapped o f last
GaveMapped-some None f last some = absurd (let wrong : ⊥ = cc in wrong)
GaveMapped-some (Some a) f last some = record { first = a; is = refl; last_is = cc }

pub record Held {A : Type 0} (b : Bool) (a last : A) : Type 0 where
  pub holds : b ≡ true
  pub same : a ≡ last

pub Held-some : {A : Type 0} (b : Bool) (a last : A) → only_if b a ≡ Some last → Held b a last
Held-some true a last some = record { holds = refl; same = cc }
Held-some false a last some = absurd (let wrong : ⊥ = cc in wrong)

pub both_hold : (a b : Bool) → (a && b) ≡ true → (a ≡ true) × (b ≡ true)
both_hold true true is = (refl, refl)
both_hold true false is = absurd (let wrong : ⊥ = cc in wrong)
both_hold false b is = absurd (let wrong : ⊥ = cc in wrong)
