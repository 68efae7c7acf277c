-- What stays fired: all of it where it goes on matching, and the same for each choice of the conflict set.
use Rattle.std.proofs.Common.{◌≡◌, List, [], ◌∷◌, Bool, true, false, cond, ◌||◌, refl, sym, ◌∙◌, ap}
use Rattle.std.specs.List.{AllByRecursion, filter, list_any}
use Rattle.rule_base.specs.declared.instantiation.Choice.{Choice}
use Rattle.rule_base.specs.declared.program.Program.{Program}
use Rattle.rule_base.specs.declared.base.Refraction.{Refraction}
use Rattle.rule_base.specs.declared.base.Refraction.TheVariants.{Once, Renewed}
use Rattle.rule_base.specs.Memory.{Memory, Rises, tags_of}
use Rattle.rule_base.specs.ConflictSet.{conflict_set}
use Rattle.rule_base.specs.State.{same_choice}
use Rattle.rule_base.specs.Step.{is_listed, matches, still_fired}
use Rattle.rule_base.specs.Base.{StillMatch}
use Rattle.rule_base.proofs.ChoiceLemmas.{any_filter, any_filtered, same_choice-equal}
use Rattle.rule_base.proofs.ConflictSetLemmas.{AllMatch-conflict_set}
use Rattle.rule_base.proofs.ListedLemmas.{list_any-matches}
use Rattle.rule_base.proofs.RunLemmas.{StillMatch-still}

-- two tests of which each holds where the other does are the same
both_ways : (a b : Bool) → (a ≡ true → b ≡ true) → (b ≡ true → a ≡ true) → a ≡ b
both_ways true b there back = sym (there refl)
both_ways false true there back = back refl
both_ways false false there back = refl

-- a filter by a test that all pass
filter_first : {X : Type 0} (b : Bool) (x : X) (rest xs : List X) → b ≡ true → rest ≡ xs → cond b (x ∷ rest) rest ≡ x ∷ xs
filter_first true x rest xs passes same = ap (λ ys. x ∷ ys) same
filter_first false x rest xs passes same = absurd (let wrong : ⊥ = cc in wrong)

filter_all : {X : Type 0} (p : X → Bool) (xs : List X) → AllByRecursion (λ x. p x ≡ true) xs → filter p xs ≡ xs
filter_all p [] each = refl
filter_all p (x ∷ xs) each = filter_first (p x) x (filter p xs) xs each.0 (filter_all p xs each.1)

-- what goes on matching stays fired
pub still_fired-all : (r : Refraction) (program : Program) (memory : Memory) (fired : List Choice) → StillMatch r program memory fired → still_fired r program memory fired ≡ fired
still_fired-all Once program memory fired matching = refl
still_fired-all Renewed program memory fired matching = filter_all (is_listed program memory) fired matching

pub still_fired-twice : (r : Refraction) (program : Program) (memory : Memory) (fired : List Choice) → still_fired r program memory (still_fired r program memory fired) ≡ still_fired r program memory fired
still_fired-twice r program memory fired = still_fired-all r program memory (still_fired r program memory fired) (StillMatch-still r program memory fired)

-- a choice of the conflict set has fired where it is among all that have
pub still_fired-listed : (r : Refraction) (program : Program) (memory : Memory) (fired : List Choice) (c : Choice) → is_listed program memory c ≡ true → list_any (same_choice c) (still_fired r program memory fired) ≡ list_any (same_choice c) fired
still_fired-listed Once program memory fired c listed = refl
still_fired-listed Renewed program memory fired c listed =
    both_ways _ _ (any_filtered c (is_listed program memory) fired) (λ any. any_filter c (is_listed program memory) fired any listed)

-- a choice is in the conflict set where it matches
one_of : (program : Program) (memory : Memory) (c d : Choice) (b rest : Bool) → same_choice c d ≡ b → matches program memory d ≡ true → (b || rest) ≡ true → (rest ≡ true → matches program memory c ≡ true) → matches program memory c ≡ true
one_of program memory c d true rest same of_d any later = ap (matches program memory) (same_choice-equal c d same) ∙ of_d
one_of program memory c d false rest same of_d any later = later any

matches_among : (program : Program) (memory : Memory) (c : Choice) (choices : List Choice) → AllByRecursion (λ (d : Choice). matches program memory d ≡ true) choices → list_any (same_choice c) choices ≡ true → matches program memory c ≡ true
matches_among program memory c [] each any = absurd (let wrong : ⊥ = cc in wrong)
matches_among program memory c (d ∷ choices) each any = one_of program memory c d (same_choice c d) (list_any (same_choice c) choices) refl each.0 any (matches_among program memory c choices each.1)

pub is_listed-matches : (program : Program) (memory : Memory) (c : Choice) → Rises (tags_of memory) → is_listed program memory c ≡ matches program memory c
is_listed-matches program memory c rises =
    both_ways _ _ (matches_among program memory c (conflict_set program memory) (AllMatch-conflict_set program memory rises)) (list_any-matches program memory c)

-- so filters by the two are the same
filter_by : {X : Type 0} (p q : X → Bool) → ((x : X) → p x ≡ q x) → (xs : List X) → filter p xs ≡ filter q xs
filter_by p q same [] = refl
filter_by p q same (x ∷ xs) = ap (λ b. cond b (x ∷ filter p xs) (filter p xs)) (same x) ∙ ap (λ rest. cond (q x) (x ∷ rest) rest) (filter_by p q same xs)

pub still_fired-matches : (program : Program) (memory : Memory) (fired : List Choice) → Rises (tags_of memory) → filter (λ (c : Choice). matches program memory c) fired ≡ still_fired Renewed program memory fired
still_fired-matches program memory fired rises = filter_by (matches program memory) (is_listed program memory) (λ c. sym (is_listed-matches program memory c rises)) fired

-- each choice of the conflict set is in it
pub AllListed-conflict_set : (program : Program) (memory : Memory) → Rises (tags_of memory) → AllByRecursion (λ (c : Choice). is_listed program memory c ≡ true) (conflict_set program memory)
AllListed-conflict_set program memory rises = each_listed (conflict_set program memory) (AllMatch-conflict_set program memory rises)
  where
    each_listed : (choices : List Choice) → AllByRecursion (λ (c : Choice). matches program memory c ≡ true) choices → AllByRecursion (λ (c : Choice). is_listed program memory c ≡ true) choices
    each_listed [] each = tt
    each_listed (c ∷ choices) each = (list_any-matches program memory c each.0, each_listed choices each.1)
