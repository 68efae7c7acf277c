-- A claim that nothing refuses could fire, and is in no other claim's way.
use Rattle.std.proofs.Common.{◌≡◌, ℕ, ◌+◌, ◌-◌, ◌^◌, ◌<◌, ◌≤◌, List, [], ◌∷◌, Bool, true, false, if◌then◌else◌, not, ◌&&◌, ◌||◌, Option, Some, None, Ok, Err, Result, find, is_none, is_some, length, map, option_and_then, option_map, slice_get, ◌==◌, refl, sym, ◌∙◌, ap, subst, arith}
use Rattle.std.specs.List.{AllByRecursion, cons_option, list_any}
use Rattle.std.specs.Option.{option_map_or}
use Rattle.std.specs.Result.{result_err}
use Rattle.std.specs.Bool.{Decides}
use Rattle.std.proofs.lemmas.Bool.Decides.{Decides-eqb, Decides-int_eq}
use Rattle.std.proofs.lemmas.List.{length_push}
use Rattle.std.proofs.lemmas.Slice.Eq.{bytes_eq-Decides, slice_eq-Decides}
use lib.Pointwise.{pointwise}
use Rattle.rule_base.specs.declared.value.Value.{Value}
use Rattle.rule_base.specs.declared.value.Value.TheVariants.{Int, Sym}
use Rattle.rule_base.specs.declared.element.Element.{Element}
use Rattle.rule_base.specs.declared.lock.Mode.{Mode}
use Rattle.rule_base.specs.declared.instantiation.Choice.{Choice}
use Rattle.rule_base.specs.declared.instantiation.Candidate.{Candidate}
use Rattle.rule_base.specs.declared.program.Rule.{Rule}
use Rattle.rule_base.specs.declared.program.Program.{Program}
use Rattle.rule_base.specs.Bindings.{Bindings}
use Rattle.rule_base.specs.Chains.{only_if, first_answer}
use Rattle.rule_base.specs.Match.{match_of}
use Rattle.rule_base.specs.Memory.{Memory, Rises, element_at, elements_at, tags_of, same_element}
use Rattle.rule_base.specs.State.{count, has_fired, same_choice}
use Rattle.rule_base.specs.Step.{is_listed}
use Rattle.rule_base.specs.Value.{same_value}
use Rattle.rule_base.proofs.EachLemmas.{Each-append, Each-weaker}
use Rattle.rule_base.proofs.ListedLemmas.{list_any-matches}
use Rattle.rule_base.proofs.MemoryLemmas.{AllFound-rising}
use Rattle.interference.specs.Footprint.{Clash, demands, footprint, gathered}
use Rattle.interference.specs.Splits.{splits_of}
use Rattle.interference.specs.WordLaws.{IsClear}
use Rattle.interference.proofs.DemandCodeLemmas.{Rises-gathered, locks_of}
use Rattle.interference.proofs.MatchedLemmas.{matches-match_of}
use Rattle.interference.proofs.OptionLemmas.{Held-some, both_hold}
use Rattle.interference.proofs.WordLemmas.{mapped_none, words_tell_clashes}
use Rattle.standing_claims.specs.declared.claim.Claim.{Claim}
use Rattle.standing_claims.specs.Standing.{claim_of_choice, is_full}
use Rattle.firing_core.specs.declared.claims.How.TheVariants as how
use Rattle.firing_core.specs.declared.claims.ClaimRefusal.TheVariants as refusal
use Rattle.firing_core.specs.CoreState.{CoreState, ended}
use Rattle.firing_core.specs.Refusals.{busy_lock, claim_refusal, failing_condition, gone_tag, claimed_footprints}
use Rattle.firing_core.specs.Events.{with_claim}
use Rattle.firing_core.specs.Lawful.{GoTogether, IsHeld, IsLawful, IsEndingFault}
use Rattle.firing_core.proofs.PairLemmas.{EachPair-push}
use Rattle.rule_base.specs.Numbers.{same_numbers}
use Rattle.rule_base.specs.Fits.{is_fitting}

-- of several that may be there, none is
none_first : {A : Type 0} (o : Option A) (os : List (Option A)) → first_answer (λ o. o) (o ∷ os) ≡ None → (o ≡ None) × (first_answer (λ o. o) os ≡ None)
none_first None os none = (refl, none)
none_first (Some a) os none = absurd (let wrong : ⊥ = cc in wrong)

unheld : {A : Type 0} (b : Bool) (a : A) → only_if b a ≡ None → b ≡ false
unheld true a none = absurd (let wrong : ⊥ = cc in wrong)
unheld false a none = refl

there_is_none : {A : Type 0} (o : Option A) → is_none o ≡ true → o ≡ None
there_is_none None none = refl
there_is_none (Some a) none = absurd (let wrong : ⊥ = cc in wrong)

not_some : {A : Type 0} (o : Option A) → is_some o ≡ false → o ≡ None
not_some None none = refl
not_some (Some a) none = absurd (let wrong : ⊥ = cc in wrong)

either_fails : (a b : Bool) → (a || b) ≡ false → (a ≡ false) × (b ≡ false)
either_fails true b is = absurd (let wrong : ⊥ = cc in wrong)
either_fails false b is = (refl, is)

differ_by : (n m : ℕ) → (n == m) ≡ false → n ≡ m → ⊥
differ_by n m apart same = let is : (n == m) ≡ true = (Decides-eqb n m).1 same in let wrong : ⊥ = cc in wrong

-- a core that hasn't ended
pub record IsGoing (k : CoreState) : Type 0 where
  pub going : k.state.halted ≡ false
  pub within : count k.state < k.budget
  pub no_fault : k.fault ≡ None

going_by : (k : CoreState) → IsLawful k → ended k ≡ None → IsGoing k
going_by k lawful none =
    let first = none_first (only_if k.state.halted how.Halted) (only_if (count k.state == k.budget) how.Budget ∷ only_if (is_some k.fault) how.Fault ∷ []) none in
    let second = none_first (only_if (count k.state == k.budget) how.Budget) (only_if (is_some k.fault) how.Fault ∷ []) first.1 in
    let third = none_first (only_if (is_some k.fault) how.Fault) [] second.1 in
    let left : count k.state ≡ k.budget → ⊥ = differ_by (count k.state) k.budget (unheld (count k.state == k.budget) how.Budget second.0) in
    record {
      going = unheld k.state.halted how.Halted first.0;
      within = below (count k.state) k.budget lawful.within left;
      no_fault = not_some k.fault (unheld (is_some k.fault) how.Fault third.0);
    }
  where
    below : (n m : ℕ) → n ≤ m → (n ≡ m → ⊥) → n < m
    below n m few differ = search (arith, few, differ)

pub IsGoing-ended : (k : CoreState) → IsLawful k → is_none (ended k) ≡ true → IsGoing k
IsGoing-ended k lawful none = going_by k lawful (there_is_none (ended k) none)

-- what none of the refusals refuses
pub record IsClaimable (k : CoreState) (candidate : Candidate) : Type 0 where
  pub free : busy_lock k candidate ≡ None
  pub going : ended k ≡ None
  pub there : gone_tag k.state.memory candidate.elements ≡ None
  pub matched : failing_condition k.program k.state.memory candidate.choice ≡ None
  pub unfired : has_fired k.state candidate.choice ≡ false
  pub unclaimed : claim_of_choice k.claims candidate.choice ≡ None
  pub room : is_full k.given (length k.claims) ≡ false

pub IsClaimable-none : (k : CoreState) (candidate : Candidate) → claim_refusal k candidate ≡ None → IsClaimable k candidate
IsClaimable-none k candidate none =
    let claimed = option_map (λ (claim : Claim). refusal.Claimed claim.number) (claim_of_choice k.claims candidate.choice) in
    let full = only_if (is_full k.given (length k.claims)) (refusal.Full k.given (length k.claims)) in
    let fired = only_if (has_fired k.state candidate.choice) refusal.Fired in
    let unmatched = option_map refusal.Unmatched (failing_condition k.program k.state.memory candidate.choice) in
    let gone = option_map refusal.Gone (gone_tag k.state.memory candidate.elements) in
    let over = option_map refusal.Ended (ended k) in
    let busy = option_map refusal.Busy (busy_lock k candidate) in
    let one = none_first busy (over ∷ gone ∷ unmatched ∷ fired ∷ claimed ∷ full ∷ []) none in
    let two = none_first over (gone ∷ unmatched ∷ fired ∷ claimed ∷ full ∷ []) one.1 in
    let three = none_first gone (unmatched ∷ fired ∷ claimed ∷ full ∷ []) two.1 in
    let four = none_first unmatched (fired ∷ claimed ∷ full ∷ []) three.1 in
    let five = none_first fired (claimed ∷ full ∷ []) four.1 in
    let six = none_first claimed (full ∷ []) five.1 in
    let seven = none_first full [] six.1 in
    record {
      free = mapped_none refusal.Busy (busy_lock k candidate) one.0;
      going = mapped_none refusal.Ended (ended k) two.0;
      there = mapped_none refusal.Gone (gone_tag k.state.memory candidate.elements) three.0;
      matched = mapped_none refusal.Unmatched (failing_condition k.program k.state.memory candidate.choice) four.0;
      unfired = unheld (has_fired k.state candidate.choice) refusal.Fired five.0;
      unclaimed = mapped_none (λ (claim : Claim). refusal.Claimed claim.number) (claim_of_choice k.claims candidate.choice) six.0;
      room = unheld (is_full k.given (length k.claims)) (refusal.Full k.given (length k.claims)) seven.0;
    }

-- a search that finds nothing
nothing_first : {X : Type 0} (p : X → Bool) (x : X) (xs : List X) (b : Bool) → p x ≡ b → (if b then Some x else find p xs) ≡ None → (p x ≡ false) × (find p xs ≡ None)
nothing_first p x xs true is none = absurd (let wrong : ⊥ = cc in wrong)
nothing_first p x xs false is none = (is, none)

pub each_fails : {X : Type 0} (p : X → Bool) (xs : List X) → find p xs ≡ None → AllByRecursion (λ x. p x ≡ false) xs
each_fails p [] none = tt
each_fails p (x ∷ xs) none = let both = nothing_first p x xs (p x) refl none in (both.0, each_fails p xs both.1)

-- values that are the same are equal, and so are elements
pub same_value-Decides : (a b : Value) → Decides (same_value a b) (a ≡ b)
same_value-Decides (Int a) (Int b) = (λ is. ap Int ((Decides-int_eq a b).0 is), λ same. (Decides-int_eq a b).1 (let inner : a ≡ b = cc in inner))
same_value-Decides (Sym a) (Sym b) = (λ is. ap Sym ((Decides-eqb a b).0 is), λ same. (Decides-eqb a b).1 (let inner : a ≡ b = cc in inner))
same_value-Decides (Int a) (Sym b) = (λ is. absurd (let wrong : ⊥ = cc in wrong), λ same. absurd (let wrong : ⊥ = cc in wrong))
same_value-Decides (Sym a) (Int b) = (λ is. absurd (let wrong : ⊥ = cc in wrong), λ same. absurd (let wrong : ⊥ = cc in wrong))

pub same_element-equal : (e other : Element) → same_element e other ≡ true → e ≡ other
same_element-equal e other is =
    let outer = both_hold ((e.tag == other.tag) && (e.class == other.class)) (pointwise same_value e.values other.values) is in
    let inner = both_hold (e.tag == other.tag) (e.class == other.class) outer.0 in
    let tags = (Decides-eqb e.tag other.tag).0 inner.0 in
    let classes = (Decides-eqb e.class other.class).0 inner.1 in
    let values = (slice_eq-Decides same_value-Decides e.values other.values (pointwise same_value e.values other.values) refl).0 outer.1 in
    λ i. record { tag = tags i; class = classes i; values = values i }

-- an element that some element of a memory is the same as is found there under its tag
found_by : (memory elements : Memory) (e : Element) → AllByRecursion (λ (x : Element). element_at memory x.tag ≡ Some x) elements → (b : Bool) (x : Element) → same_element e x ≡ b → element_at memory x.tag ≡ Some x → (b ≡ false → element_at memory e.tag ≡ Some e) → element_at memory e.tag ≡ Some e
found_by memory elements e found true x is here later = let same : e ≡ x = same_element-equal e x is in subst (λ y. element_at memory y.tag ≡ Some y) (sym same) here
found_by memory elements e found false x is here later = later refl

found : (memory elements : Memory) (e : Element) → AllByRecursion (λ (x : Element). element_at memory x.tag ≡ Some x) elements → list_any (same_element e) elements ≡ true → element_at memory e.tag ≡ Some e
found memory [] e all any = absurd (let wrong : ⊥ = cc in wrong)
found memory (x ∷ elements) e all any =
    found_by memory elements e all.1 (same_element e x) x refl all.0 (λ not_first. found memory elements e all.1 (rest (same_element e x) (list_any (same_element e) elements) not_first any))
  where
    rest : (b later : Bool) → b ≡ false → (b || later) ≡ true → later ≡ true
    rest true later is any = absurd (let wrong : ⊥ = cc in wrong)
    rest false later is any = any

-- so the elements of a candidate that are there are those of its tags
elements_there : (memory elements : Memory) → Rises (tags_of memory) → AllByRecursion (λ e. not (list_any (same_element e) memory) ≡ false) elements → elements_at memory (tags_of elements) ≡ elements
elements_there memory [] rises there = refl
elements_there memory (e ∷ elements) rises there =
    let here : element_at memory e.tag ≡ Some e = found memory memory e (AllFound-rising memory rises) (unless (list_any (same_element e) memory) there.0) in
    ap (λ o. cons_option o (elements_at memory (tags_of elements))) here ∙ ap (λ es. e ∷ es) (elements_there memory elements rises there.1)
  where
    unless : (b : Bool) → not b ≡ false → b ≡ true
    unless true is = refl
    unless false is = absurd (let wrong : ⊥ = cc in wrong)

-- the match of a choice of which no condition element fails
matched_by : (program : Program) (memory : Memory) (c : Choice) (rule : Rule) (r : Result Bindings ℕ) → slice_get program.rules c.rule ≡ Some rule → match_of rule c.tags memory ≡ r → result_err r ≡ None → is_listed program memory c ≡ true
matched_by program memory c rule (Ok last) at is none = list_any-matches program memory c (matches-match_of program memory c rule last at is)
matched_by program memory c rule (Err n) at is none = absurd (let wrong : ⊥ = cc in wrong)

listed_by : (program : Program) (memory : Memory) (c : Choice) (n : ℕ) (o : Option Rule) → slice_get program.rules c.rule ≡ o → option_map_or (λ (rule : Rule). rule.positives == n) o false ≡ true → option_and_then (λ (rule : Rule). result_err (match_of rule c.tags memory)) o ≡ None → is_listed program memory c ≡ true
listed_by program memory c n None at fits none = absurd (let wrong : ⊥ = cc in wrong)
listed_by program memory c n (Some rule) at fits none = matched_by program memory c rule (match_of rule c.tags memory) at refl none

-- the footprint of any candidate rises
Rises-option : (program : Program) (candidate : Candidate) (o : Option Rule) → Rises (locks_of (option_map_or (λ (rule : Rule). gathered (demands (splits_of program) rule candidate)) o []))
Rises-option program candidate None = tt
Rises-option program candidate (Some rule) = Rises-gathered (demands (splits_of program) rule candidate)

pub Rises-footprint : (program : Program) (candidate : Candidate) → Rises (locks_of (footprint program candidate))
Rises-footprint program candidate = Rises-option program candidate (slice_get program.rules candidate.choice.rule)

-- it clashes with none of the claims that stand
each_mapped : {X Y : Type 0} (P : Y → Type 0) (f : X → Y) (xs : List X) → AllByRecursion P (map f xs) → AllByRecursion (λ x. P (f x)) xs
each_mapped P f [] each = tt
each_mapped P f (x ∷ xs) each = (each.0, each_mapped P f xs each.1)

pub length-map_claims : {X Y : Type 0} (f : X → Y) (xs : List X) → length (map f xs) ≡ length xs
length-map_claims f [] = refl
length-map_claims f (x ∷ xs) = omega (arith, length-map_claims f xs)

pub clear_of_claims : (k : CoreState) (candidate : Candidate) → length k.claims ≤ 4095 → busy_lock k candidate ≡ None → AllByRecursion (λ (claim : Claim). Clash (footprint k.program claim.candidate) (footprint k.program candidate) → ⊥) k.claims
clear_of_claims k candidate few none =
    let unless_ended : Claim → List (ℕ × Mode) = λ (claim : Claim). footprint k.program claim.candidate in
    let clear : IsClear (claimed_footprints k) (footprint k.program candidate) = (words_tell_clashes (claimed_footprints k) (footprint k.program candidate) (omega (arith, few, length-map_claims unless_ended k.claims)) (Rises-footprint k.program candidate)).0 none in
    each_mapped (λ other. Clash other (footprint k.program candidate) → ⊥) unless_ended k.claims clear

-- a claim goes together with each that stands
together_each : (program : Program) (number : ℕ) (candidate : Candidate) (claims : List Claim) → AllByRecursion (λ (claim : Claim). (1 ≤ claim.number) × (claim.number < number)) claims → AllByRecursion (λ (claim : Claim). same_choice claim.candidate.choice candidate.choice ≡ false) claims
    → AllByRecursion (λ (claim : Claim). Clash (footprint program claim.candidate) (footprint program candidate) → ⊥) claims → AllByRecursion (λ earlier. GoTogether program earlier (record { number = number; candidate = candidate })) claims
together_each program number candidate [] numbered differ apart = tt
together_each program number candidate (claim ∷ claims) numbered differ apart =
    (record { in_order = numbered.0.1; differ = differ.0; clear = apart.0 }, together_each program number candidate claims numbered.1 differ.1 apart.1)

lawful_with : (k : CoreState) (candidate : Candidate) → IsLawful k → Rises (tags_of k.state.memory) → is_fitting k.program candidate ≡ true → IsClaimable k candidate → IsLawful (with_claim k candidate)
lawful_with k candidate lawful rises fits claimable =
    let claims = lawful.claims in
    let c = candidate.choice in
    let outer = both_hold (same_numbers (tags_of candidate.elements) c.tags && option_map_or (λ (rule : Rule). rule.positives == length candidate.elements) (slice_get k.program.rules c.rule) false) _ fits in
    let inner = both_hold (same_numbers (tags_of candidate.elements) c.tags) (option_map_or (λ (rule : Rule). rule.positives == length candidate.elements) (slice_get k.program.rules c.rule) false) outer.0 in
    let tags : tags_of candidate.elements ≡ c.tags = (bytes_eq-Decides (tags_of candidate.elements) c.tags).0 inner.0 in
    let there = each_fails (λ (e : Element). not (list_any (same_element e) k.state.memory)) candidate.elements (mapped_none (λ (e : Element). e.tag) (find (λ (e : Element). not (list_any (same_element e) k.state.memory)) candidate.elements) claimable.there) in
    let elements : elements_at k.state.memory c.tags ≡ candidate.elements = ap (elements_at k.state.memory) (sym tags) ∙ elements_there k.state.memory candidate.elements rises there in
    let room = either_fails (k.given == 2 ^ 64 - 1) (length k.claims == 4095) claimable.room in
    let few_given : k.given < 2 ^ 64 - 1 = search (arith, claims.few_given, differ_by k.given (2 ^ 64 - 1) room.0) in
    let few : length k.claims < 4095 = search (arith, claims.few_claims, differ_by (length k.claims) 4095 room.1) in
    let numbered = Each-weaker (λ (claim : Claim). (1 ≤ claim.number) × (claim.number ≤ k.given)) (λ (claim : Claim). (1 ≤ claim.number) × (claim.number < k.given + 1)) (λ claim is. (is.0, omega (arith, is.1))) k.claims claims.numbered in
    let new : Claim = record { number = k.given + 1; candidate = candidate } in
    let going = going_by k lawful claimable.going in
    record {
      sound = lawful.sound;
      began = lawful.began;
      ran = lawful.ran;
      within = lawful.within;
      few = lawful.few;
      claims = record {
        held = Each-append (IsHeld k.program k.state) k.claims (new ∷ []) claims.held
            (record { ready = record { listed = listed_by k.program k.state.memory c (length candidate.elements) (slice_get k.program.rules c.rule) refl inner.1 claimable.matched; unfired = claimable.unfired }; elements = elements }, tt);
        numbered = Each-append (λ (claim : Claim). (1 ≤ claim.number) × (claim.number ≤ k.given + 1)) k.claims (new ∷ [])
            (Each-weaker (λ (claim : Claim). (1 ≤ claim.number) × (claim.number ≤ k.given)) (λ (claim : Claim). (1 ≤ claim.number) × (claim.number ≤ k.given + 1)) (λ claim is. (is.0, omega (arith, is.1))) k.claims claims.numbered) ((omega arith, omega arith), tt);
        together = EachPair-push (GoTogether k.program) k.claims new claims.together
            (together_each k.program (k.given + 1) candidate k.claims numbered (each_fails (λ (claim : Claim). same_choice claim.candidate.choice c) k.claims claimable.unclaimed) (clear_of_claims k candidate claims.few_claims claimable.free));
        few_claims = omega (arith, few, length_push k.claims new);
        few_given = omega (arith, few_given);
      };
      fault = subst (λ o. IsEndingFault (with_claim k candidate) o) (sym going.no_fault) tt;
    }

pub IsLawful-claimed : (k : CoreState) (candidate : Candidate) (after : CoreState) → IsLawful k → Rises (tags_of k.state.memory) → only_if (is_fitting k.program candidate && is_none (claim_refusal k candidate)) (with_claim k candidate) ≡ Some after → IsLawful after
IsLawful-claimed k candidate after lawful rises is =
    let held = Held-some (is_fitting k.program candidate && is_none (claim_refusal k candidate)) (with_claim k candidate) after is in
    let both = both_hold (is_fitting k.program candidate) (is_none (claim_refusal k candidate)) held.holds in
    subst IsLawful held.same (lawful_with k candidate lawful rises both.0 (IsClaimable-none k candidate (there_is_none (claim_refusal k candidate) both.1)))
