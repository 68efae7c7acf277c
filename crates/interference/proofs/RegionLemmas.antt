-- Where what a negated condition element accepts meets what an action makes: in a region of both.
use Rattle.std.proofs.Common.{◌≡◌, ℕ, zero, suc, ◌+◌, ◌<◌, ◌≤◌, List, Option, Some, None, ◌⊎◌, inl, inr, pos, negsuc, slice_get, refl, ap, arith}
use Rattle.std.specs.List.{range_with_len}
use Rattle.std.proofs.lemmas.Nat.{mod_below}
use Rattle.rule_base.specs.declared.value.Value.{Value}
use Rattle.rule_base.specs.declared.value.Value.TheVariants.{Int, Sym}
use Rattle.rule_base.proofs.AmongLemmas.{Among}
use Rattle.interference.specs.Locks.{bucket, every_region, stripe}
use Rattle.interference.specs.Regions.{regions_by, regions_of_value}

-- a bucket is one of 16
pub bucket_below : (value : Value) → bucket value < 16
bucket_below (Int (pos n)) = mod_below n 16 (omega arith)
bucket_below (Int (negsuc n)) = omega (arith, mod_below n 16 (omega arith))
bucket_below (Sym n) = mod_below n 16 (omega arith)

-- a stripe is one of 1,024
pub stripe_below : (tag : ℕ) → stripe tag < 1024
stripe_below tag = mod_below tag 1024 (omega arith)

-- the numbers of a range
pub first_or_later : (first n : ℕ) → first ≤ n → (n ≡ first) ⊎ (first + 1 ≤ n)
first_or_later zero zero from = inl refl
first_or_later zero (suc n) from = inr (omega arith)
first_or_later (suc first) zero from = absurd (omega (arith, from))
first_or_later (suc first) (suc n) from = next (first_or_later first n (omega (arith, from)))
  where
    next : (n ≡ first) ⊎ (first + 1 ≤ n) → (suc n ≡ suc first) ⊎ (suc first + 1 ≤ suc n)
    next (inl same) = inl (ap suc same)
    next (inr later) = inr (omega (arith, later))

of_range : (first count n : ℕ) → (first + 1 ≤ n → Among n (range_with_len (first + 1) count)) → (n ≡ first) ⊎ (first + 1 ≤ n) → Among n (range_with_len first (suc count))
of_range first count n rest (inl same) = inl same
of_range first count n rest (inr later) = inr (rest later)

pub Among-range : (first count n : ℕ) → first ≤ n → n < first + count → Among n (range_with_len first count)
Among-range first zero n from below = absurd (omega (arith, from, below))
Among-range first (suc count) n from below = of_range first count n (λ later. Among-range (first + 1) count n later (omega (arith, below))) (first_or_later first n from)

pub range_below : (first count n : ℕ) → Among n (range_with_len first count) → n < first + count
range_below first zero n among = absurd among
range_below first (suc count) n (inl same) = omega (arith, same)
range_below first (suc count) n (inr later) = omega (arith, range_below (first + 1) count n later)

-- so the numbers of regions are below 16
pub value_below : (o : Option Value) (n : ℕ) → Among n (regions_of_value o) → n < 16
value_below None n among = omega (arith, range_below 0 16 n among)
value_below (Some value) n (inl same) = omega (arith, same, bucket_below value)
value_below (Some value) n (inr never) = absurd never

pub region_below : (split : Option ℕ) (known : ℕ → Option Value) (n : ℕ) → Among n (regions_by split known) → n < 16
region_below None known n (inl same) = omega (arith, same)
region_below None known n (inr never) = absurd never
region_below (Some attr) known n among = value_below (known attr) n among

bucket_is_region : (value : Value) → Among (bucket value) every_region
bucket_is_region value = Among-range 0 16 (bucket value) (omega arith) (omega (arith, bucket_below value))

-- what is known of values is so: an attribute has the known value
abbrev pub IsSo : (ℕ → Option Value) → List Value → Type 0
IsSo known values = (attr : ℕ) (value x : Value) → known attr ≡ Some value → slice_get values attr ≡ Some x → x ≡ value

-- and it is there
abbrev pub IsThere : (ℕ → Option Value) → List Value → Type 0
IsThere known values = (attr : ℕ) (value : Value) → known attr ≡ Some value → slice_get values attr ≡ Some value

-- a region of both
pub record Meet (one other : List ℕ) : Type 0 where
  pub number : ℕ
  pub of_one : Among number one
  pub of_other : Among number other

by_values : (one other : Option Value) → ((v w : Value) → one ≡ Some v → other ≡ Some w → v ≡ w) → Meet (regions_of_value one) (regions_of_value other)
by_values None None same = record { number = 0; of_one = inl refl; of_other = inl refl }
by_values None (Some w) same = record { number = bucket w; of_one = bucket_is_region w; of_other = inl refl }
by_values (Some v) None same = record { number = bucket v; of_one = inl refl; of_other = bucket_is_region v }
by_values (Some v) (Some w) same = record { number = bucket v; of_one = inl refl; of_other = inl (ap bucket (same v w refl refl)) }

-- what is known in two ways of the values of one element leaves a region of both
pub regions_meet : (split : Option ℕ) (one other : ℕ → Option Value) (values : List Value) → IsThere one values → IsSo other values → Meet (regions_by split one) (regions_by split other)
regions_meet None one other values there so = record { number = 0; of_one = inl refl; of_other = inl refl }
regions_meet (Some attr) one other values there so = by_values (one attr) (other attr) (λ v w is is_other. so attr w v is_other (there attr v is))
