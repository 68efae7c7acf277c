-- Two footprints without a lock in common don't clash, and two with one in `Own` do.
use Rattle.std.proofs.Common.{◌≡◌, ℕ, [], ◌∷◌, ◌⊎◌, inl, inr, refl, arith}
use Rattle.rule_base.specs.declared.lock.Mode.TheVariants.{Watch, Own}
use Rattle.rule_base.proofs.AmongLemmas.{Among}
use Rattle.interference.specs.Examples.Footprints.{once_with}
use Rattle.interference.specs.Footprint.{Clash, footprint}
use Rattle.rule_base.specs.Examples.Programs.{once}
use Rattle.interference.proofs.ModeLemmas.{Among-asks}
use Rattle.interference.proofs.examples.footprints.Goals as goal

of_two : (lock a b : ℕ) → Among lock (a ∷ b ∷ []) → (lock ≡ a) ⊎ (lock ≡ b)
of_two lock a b (inl same) = inl same
of_two lock a b (inr (inl same)) = inr same
of_two lock a b (inr (inr never)) = absurd never

no_lock_of_both : (lock : ℕ) → (lock ≡ 1) ⊎ (lock ≡ 1047) → (lock ≡ 2) ⊎ (lock ≡ 1048) → ⊥
no_lock_of_both lock (inl one) (inl other) = omega (arith, one, other)
no_lock_of_both lock (inl one) (inr other) = omega (arith, one, other)
no_lock_of_both lock (inr one) (inl other) = omega (arith, one, other)
no_lock_of_both lock (inr one) (inr other) = omega (arith, one, other)

no_clash : Clash (footprint once (once_with 1 7)) (footprint once (once_with 2 8)) → ⊥
no_clash clash = no_lock_of_both clash.lock
    (of_two clash.lock 1 1047 (Among-asks ((1, Watch) ∷ (1047, Own) ∷ []) clash.lock clash.mode clash.asked))
    (of_two clash.lock 2 1048 (Among-asks ((2, Watch) ∷ (1048, Own) ∷ []) clash.lock clash.beside clash.asked_too))

pub returns-clause-clashes : goal.returns-clause-clashes
returns-clause-clashes c = record {
  other_buckets = no_clash;
  one_bucket = record { lock = 1047; mode = Own; beside = Own; asked = refl; asked_too = refl; apart = refl };
  on = refl;
  one_key = record { lock = 1047; mode = Own; beside = Own; asked = refl; asked_too = refl; apart = refl };
}
