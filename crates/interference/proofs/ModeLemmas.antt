-- What demands come to: the mode asked of a lock covers each demand of it, and gathering them changes none.
use Rattle.std.proofs.Common.{◌≡◌, ℕ, List, [], ◌∷◌, Bool, true, false, if◌then◌else◌, Option, Some, None, inl, inr, fold, map, nat_lt, ◌==◌, refl, sym, ◌∙◌, ap, subst}
use Rattle.std.proofs.lemmas.Bool.Decides.{Decides-eqb}
use Rattle.rule_base.specs.declared.lock.Mode.{Mode}
use Rattle.rule_base.specs.declared.lock.Mode.TheVariants.{Watch, Grow, Own}
use Rattle.rule_base.specs.Chains.{only_if}
use Rattle.rule_base.proofs.AmongLemmas.{Among}
use Rattle.interference.specs.Modes.{asks, both, goes, joined}
use Rattle.interference.specs.Footprint.{Clash, gathered, with_demand}

-- going together has no order
pub goes-symmetric : (a b : Mode) → goes a b ≡ goes b a
goes-symmetric Watch Watch = refl
goes-symmetric Watch Grow = refl
goes-symmetric Watch Own = refl
goes-symmetric Grow Watch = refl
goes-symmetric Grow Grow = refl
goes-symmetric Grow Own = refl
goes-symmetric Own Watch = refl
goes-symmetric Own Grow = refl
goes-symmetric Own Own = refl

own_alone : (other : Mode) → goes Own other ≡ false
own_alone Watch = refl
own_alone Grow = refl
own_alone Own = refl

-- neither has asking in two modes
both-symmetric : (a b : Mode) → both a b ≡ both b a
both-symmetric Watch Watch = refl
both-symmetric Watch Grow = refl
both-symmetric Watch Own = refl
both-symmetric Grow Watch = refl
both-symmetric Grow Grow = refl
both-symmetric Grow Own = refl
both-symmetric Own Watch = refl
both-symmetric Own Grow = refl
both-symmetric Own Own = refl

both-associative : (a b c : Mode) → both (both a b) c ≡ both a (both b c)
both-associative Watch Watch Watch = refl
both-associative Watch Watch Grow = refl
both-associative Watch Watch Own = refl
both-associative Watch Grow Watch = refl
both-associative Watch Grow Grow = refl
both-associative Watch Grow Own = refl
both-associative Watch Own Watch = refl
both-associative Watch Own Grow = refl
both-associative Watch Own Own = refl
both-associative Grow Watch Watch = refl
both-associative Grow Watch Grow = refl
both-associative Grow Watch Own = refl
both-associative Grow Grow Watch = refl
both-associative Grow Grow Grow = refl
both-associative Grow Grow Own = refl
both-associative Grow Own Watch = refl
both-associative Grow Own Grow = refl
both-associative Grow Own Own = refl
both-associative Own Watch Watch = refl
both-associative Own Watch Grow = refl
both-associative Own Watch Own = refl
both-associative Own Grow Watch = refl
both-associative Own Grow Grow = refl
both-associative Own Grow Own = refl
both-associative Own Own Watch = refl
both-associative Own Own Grow = refl
both-associative Own Own Own = refl

pub joined-none : (o : Option Mode) → joined o None ≡ o
joined-none None = refl
joined-none (Some a) = refl

joined-symmetric : (o p : Option Mode) → joined o p ≡ joined p o
joined-symmetric None p = sym (joined-none p)
joined-symmetric (Some a) None = refl
joined-symmetric (Some a) (Some b) = ap (λ m. Some m) (both-symmetric a b)

pub joined-associative : (o p q : Option Mode) → joined (joined o p) q ≡ joined o (joined p q)
joined-associative None p q = refl
joined-associative (Some a) None q = refl
joined-associative (Some a) (Some b) None = refl
joined-associative (Some a) (Some b) (Some c) = ap (λ m. Some m) (both-associative a b c)

-- what doesn't go with a mode doesn't go with a wider one
abbrev pub Covers : Mode → Mode → Type 0
Covers wide mode = (other : Mode) → goes mode other ≡ false → goes wide other ≡ false

Covers-both : (a b : Mode) → Covers (both a b) a
Covers-both Watch Watch other apart = apart
Covers-both Watch Grow other apart = own_alone other
Covers-both Watch Own other apart = own_alone other
Covers-both Grow Watch other apart = own_alone other
Covers-both Grow Grow other apart = apart
Covers-both Grow Own other apart = own_alone other
Covers-both Own Watch other apart = apart
Covers-both Own Grow other apart = apart
Covers-both Own Own other apart = apart

-- a lock is asked for in a mode that covers this one
pub record IsCovered (demands : List (ℕ × Mode)) (lock : ℕ) (mode : Mode) : Type 0 where
  pub asked : Mode
  pub is : asks demands lock ≡ Some asked
  pub covers : Covers asked mode

with_first : (demands : List (ℕ × Mode)) (lock : ℕ) (mode : Mode) (o : Option Mode) → asks demands lock ≡ joined (Some mode) o → IsCovered demands lock mode
with_first demands lock mode None is = record { asked = mode; is = is; covers = λ other apart. apart }
with_first demands lock mode (Some also) is = record { asked = both mode also; is = is; covers = Covers-both mode also }

with_later : (demands rest : List (ℕ × Mode)) (lock : ℕ) (mode : Mode) (o : Option Mode) → asks demands lock ≡ joined o (asks rest lock) → IsCovered rest lock mode → IsCovered demands lock mode
with_later demands rest lock mode None is later = record { asked = later.asked; is = is ∙ later.is; covers = later.covers }
with_later demands rest lock mode (Some also) is later = record {
  asked = both later.asked also;
  is = is ∙ ap (joined (Some also)) later.is ∙ ap (λ m. Some m) (both-symmetric also later.asked);
  covers = λ other apart. Covers-both later.asked also other (later.covers other apart);
}

-- each demand is covered
pub IsCovered-among : (demands : List (ℕ × Mode)) (lock : ℕ) (mode : Mode) → Among (lock, mode) demands → IsCovered demands lock mode
IsCovered-among [] lock mode among = absurd among
IsCovered-among (demand ∷ rest) lock mode (inl same) =
    let here : only_if (demand.0 == lock) demand.1 ≡ Some mode = subst (λ (d : ℕ × Mode). only_if (d.0 == lock) d.1 ≡ Some mode) same (ap (λ b. only_if b mode) ((Decides-eqb lock lock).1 refl)) in
    with_first (demand ∷ rest) lock mode (asks rest lock) (ap (λ o. joined o (asks rest lock)) here)
IsCovered-among (demand ∷ rest) lock mode (inr later) = with_later (demand ∷ rest) rest lock mode (only_if (demand.0 == lock) demand.1) refl (IsCovered-among rest lock mode later)

-- one demand more in its place is one demand more
of_one_lock : (b : Bool) (f d : Mode) (rest : Option Mode) → joined (only_if b (both f d)) rest ≡ joined (joined (only_if b f) rest) (only_if b d)
of_one_lock false f d rest = sym (joined-none rest)
of_one_lock true f d rest =
    joined-associative (Some f) (Some d) rest ∙ ap (joined (Some f)) (joined-symmetric (Some d) rest) ∙ sym (joined-associative (Some f) rest (Some d))

placed : (first demand : ℕ × Mode) (rest : List (ℕ × Mode)) (lock : ℕ) (before same : Bool) → (demand.0 == first.0) ≡ same → asks (with_demand rest demand) lock ≡ joined (asks rest lock) (only_if (demand.0 == lock) demand.1)
    → asks (if before then demand ∷ first ∷ rest else if same then (first.0, both first.1 demand.1) ∷ rest else first ∷ with_demand rest demand) lock ≡ joined (asks (first ∷ rest) lock) (only_if (demand.0 == lock) demand.1)
placed first demand rest lock true same is later = joined-symmetric (only_if (demand.0 == lock) demand.1) (asks (first ∷ rest) lock)
placed first demand rest lock false true is later =
    let one : demand.0 ≡ first.0 = (Decides-eqb demand.0 first.0).0 is in
    of_one_lock (first.0 == lock) first.1 demand.1 (asks rest lock) ∙ ap (λ n. joined (asks (first ∷ rest) lock) (only_if (n == lock) demand.1)) (sym one)
placed first demand rest lock false false is later =
    ap (joined (only_if (first.0 == lock) first.1)) later ∙ sym (joined-associative (only_if (first.0 == lock) first.1) (asks rest lock) (only_if (demand.0 == lock) demand.1))

asks-with_demand : (list : List (ℕ × Mode)) (demand : ℕ × Mode) (lock : ℕ) → asks (with_demand list demand) lock ≡ joined (asks list lock) (only_if (demand.0 == lock) demand.1)
asks-with_demand [] demand lock = joined-none (only_if (demand.0 == lock) demand.1)
asks-with_demand (first ∷ rest) demand lock = placed first demand rest lock (nat_lt demand.0 first.0) (demand.0 == first.0) refl (asks-with_demand rest demand lock)

asks-all : (list demands : List (ℕ × Mode)) (lock : ℕ) → asks (fold with_demand list demands) lock ≡ joined (asks list lock) (asks demands lock)
asks-all list [] lock = sym (joined-none (asks list lock))
asks-all list (demand ∷ demands) lock =
    asks-all (with_demand list demand) demands lock ∙ ap (λ o. joined o (asks demands lock)) (asks-with_demand list demand lock)
    ∙ joined-associative (asks list lock) (only_if (demand.0 == lock) demand.1) (asks demands lock)

-- gathered demands ask the same of each lock
pub asks-gathered : (demands : List (ℕ × Mode)) (lock : ℕ) → asks (gathered demands) lock ≡ asks demands lock
asks-gathered demands lock = asks-all [] demands lock

-- a lock that is asked for is demanded
asked_first : (demand : ℕ × Mode) (demands : List (ℕ × Mode)) (lock : ℕ) (mode : Mode) (b : Bool) → (demand.0 == lock) ≡ b → joined (only_if b demand.1) (asks demands lock) ≡ Some mode → (asks demands lock ≡ Some mode → Among lock (map (λ (d : ℕ × Mode). d.0) demands)) → Among lock (map (λ (d : ℕ × Mode). d.0) (demand ∷ demands))
asked_first demand demands lock mode true is asked later = inl (sym ((Decides-eqb demand.0 lock).0 is))
asked_first demand demands lock mode false is asked later = inr (later asked)

pub Among-asks : (demands : List (ℕ × Mode)) (lock : ℕ) (mode : Mode) → asks demands lock ≡ Some mode → Among lock (map (λ (d : ℕ × Mode). d.0) demands)
Among-asks [] lock mode asked = absurd (let wrong : ⊥ = cc in wrong)
Among-asks (demand ∷ demands) lock mode asked = asked_first demand demands lock mode (demand.0 == lock) refl asked (Among-asks demands lock mode)

-- two demands of one lock that don't go together clash
pub Clash-demands : (one other : List (ℕ × Mode)) (lock : ℕ) (mode beside : Mode) → Among (lock, mode) one → Among (lock, beside) other → goes mode beside ≡ false → Clash (gathered one) (gathered other)
Clash-demands one other lock mode beside asked asked_too apart =
    let wide = IsCovered-among one lock mode asked in
    let wide_too = IsCovered-among other lock beside asked_too in
    let first : goes wide.asked beside ≡ false = wide.covers beside apart in
    let both_wide : goes wide_too.asked wide.asked ≡ false = wide_too.covers wide.asked (goes-symmetric beside wide.asked ∙ first) in
    record {
      lock = lock;
      mode = wide.asked;
      beside = wide_too.asked;
      asked = asks-gathered one lock ∙ wide.is;
      asked_too = asks-gathered other lock ∙ wide_too.is;
      apart = goes-symmetric wide.asked wide_too.asked ∙ both_wide;
    }
