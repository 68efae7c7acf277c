-- How steps that may fail are taken apart.
use Rattle.std.proofs.Common.{◌≡◌, Bool, true, false, Option, None, Some, Result, Ok, Err, option_map, option_and_then, ◌&&◌, refl}
use Rattle.rule_base.specs.Chains.{only_if}

-- a chain that gives something went through something
pub and_then_some : {A B : Type 0} (o : Option A) (f : A → Option B) (b : B) → option_and_then f o ≡ Some b → (a : A) × (o ≡ Some a) × (f a ≡ Some b)
and_then_some None f b e = absurd (cc)
and_then_some (Some a) f b e = (a, refl, e)

pub map_some : {A B : Type 0} (o : Option A) (f : A → B) (b : B) → option_map f o ≡ Some b → (a : A) × (o ≡ Some a) × (f a ≡ b)
map_some None f b e = absurd (cc)
map_some (Some a) f b e = (a, refl, cc)

pub only_if_some : {A : Type 0} (b : Bool) (a c : A) → only_if b a ≡ Some c → (b ≡ true) × (a ≡ c)
only_if_some true a c e = (refl, cc)
only_if_some false a c e = absurd (cc)

-- both tests hold
pub both : (a b : Bool) → (a && b) ≡ true → (a ≡ true) × (b ≡ true)
both true b e = (refl, e)
both false b e = absurd (cc)

pub same_ok : {A E : Type 0} {a b : A} → ◌≡◌ {A = Result A E} (Ok a) (Ok b) → a ≡ b
same_ok e = cc

pub same_some : {A : Type 0} {a b : A} → Some a ≡ Some b → a ≡ b
same_some e = cc

pub same_err : {A E : Type 0} {a b : E} → ◌≡◌ {A = Result A E} (Err a) (Err b) → a ≡ b
same_err e = cc
