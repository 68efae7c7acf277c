-- What a rule's condition elements become, taken in one after another.
use Rattle.std.proofs.Common.{◌≡◌, ℕ, ◌+◌, zero, suc, List, [], ◌∷◌, ◌++◌, Bool, true, false, Some, length, slice_get, refl, sym, ◌∙◌, ap, subst, arith}
use Rattle.std.specs.List.{AllByRecursion}
use Rattle.rule_base.specs.declared.condition.Cond.{Cond}
use Rattle.join_tests.specs.declared.joins.Join.{Join}
use Rattle.join_tests.specs.declared.joins.Joins.{Joins}
use Rattle.join_tests.specs.declared.joins.Negated.{Negated}
use Rattle.join_tests.specs.Joining.{LooksBack}
use Rattle.join_tests.specs.Sources.{AreWithin, Sources, sources_after_tests}
use Rattle.join_tests.proofs.ReadingLemmas.{AreWithin-after_tests}
use Rattle.join_tests.specs.Compiling.{IsJoin, TakesIn}

-- what holds from a number of positive condition elements and the sources after them on, of the joins to come
abbrev pub Rest : Type 1
Rest = ℕ → Sources → List Join → List Negated → Type 0

-- the first condition element has this sign and becomes the first join or the first negated one, and the rest holds
abbrev pub CompilesFirst : Bool → ℕ → Sources → Cond → List Join → List Negated → Rest → Type 0
CompilesFirst true number before first js [] rest = ⊥
CompilesFirst true number before first js (n ∷ ns) rest = (n.after ≡ number) × IsJoin number before first n.join × rest number before js ns
CompilesFirst false number before first [] ns rest = ⊥
CompilesFirst false number before first (join ∷ js) ns rest = IsJoin number before first join × rest (number + 1) (sources_after_tests number before first.tests) js ns

-- from so many positive condition elements and the sources after them on, these condition elements become these joins
-- and lead to these sources
abbrev pub Compiles : ℕ → Sources → List Cond → List Join → List Negated → Sources → Type 0
Compiles number before [] [] [] after = after ≡ before
Compiles number before [] (join ∷ js) ns after = ⊥
Compiles number before [] [] (n ∷ ns) after = ⊥
Compiles number before (first ∷ conds) js ns after = CompilesFirst first.negated number before first js ns (λ number' before' js' ns'. Compiles number' before' conds js' ns' after)

-- what a condition element at the end leads to
abbrev Pushes : ℕ → List Cond → Sources → Cond → Join → Sources → Type 0
Pushes last conds before further join after = (number : ℕ) (start : Sources) (js : List Join) (ns : List Negated) → last ≡ number + length js → Compiles number start conds js ns before → Compiles number start (conds ++ further ∷ []) (js ++ join ∷ []) ns after

push_first : (sign : Bool) (last : ℕ) (first : Cond) (conds : List Cond) (before : Sources) (further : Cond) (join : Join) (after : Sources) → Pushes last conds before further join after →
    (number : ℕ) (start : Sources) (js : List Join) (ns : List Negated) → last ≡ number + length js →
    CompilesFirst sign number start first js ns (λ number' before' js' ns'. Compiles number' before' conds js' ns' before) →
    CompilesFirst sign number start first (js ++ join ∷ []) ns (λ number' before' js' ns'. Compiles number' before' (conds ++ further ∷ []) js' ns' after)
push_first true last first conds before further join after rest number start js [] at compiles = absurd compiles
push_first true last first conds before further join after rest number start js (n ∷ ns) at compiles = (compiles.0, compiles.1, rest number start js ns at compiles.2)
push_first false last first conds before further join after rest number start [] ns at compiles = absurd compiles
push_first false last first conds before further join after rest number start (j ∷ js) ns at compiles = (compiles.0, rest (number + 1) (sources_after_tests number start first.tests) js ns (omega (arith, at)) compiles.1)

pub Compiles-push : (conds : List Cond) (last : ℕ) (before : Sources) (further : Cond) (join : Join) → further.negated ≡ false → IsJoin last before further join → Pushes last conds before further join (sources_after_tests last before further.tests)
Compiles-push [] last before further join positive is number start [] [] at compiles =
    let here : last ≡ number = omega (arith, at) in
    let same : before ≡ start = compiles in
    let ends = sources_after_tests last before further.tests in
    let joins_here : IsJoin number start further join = subst (λ s. IsJoin number s further join) same (subst (λ n. IsJoin n before further join) here is) in
    let ends_here : ends ≡ sources_after_tests number start further.tests = ap (λ n. sources_after_tests n before further.tests) here ∙ ap (λ s. sources_after_tests number s further.tests) same in
    subst (λ sign. CompilesFirst sign number start further (join ∷ []) [] (λ number' before' js' ns'. Compiles number' before' [] js' ns' ends)) (sym positive) (joins_here, ends_here)
Compiles-push [] last before further join positive is number start [] (n ∷ ns) at compiles = absurd compiles
Compiles-push [] last before further join positive is number start (j ∷ js) ns at compiles = absurd compiles
Compiles-push (first ∷ conds) last before further join positive is number start js ns at compiles =
    push_first first.negated last first conds before further join (sources_after_tests last before further.tests) (Compiles-push conds last before further join positive is) number start js ns at compiles

-- the same of a negated one
abbrev PushesNegated : ℕ → List Cond → Sources → Cond → Negated → Type 0
PushesNegated last conds before further negated = (number : ℕ) (start : Sources) (js : List Join) (ns : List Negated) → last ≡ number + length js → Compiles number start conds js ns before → Compiles number start (conds ++ further ∷ []) js (ns ++ negated ∷ []) before

push_negated_first : (sign : Bool) (last : ℕ) (first : Cond) (conds : List Cond) (before : Sources) (further : Cond) (negated : Negated) → PushesNegated last conds before further negated →
    (number : ℕ) (start : Sources) (js : List Join) (ns : List Negated) → last ≡ number + length js →
    CompilesFirst sign number start first js ns (λ number' before' js' ns'. Compiles number' before' conds js' ns' before) →
    CompilesFirst sign number start first js (ns ++ negated ∷ []) (λ number' before' js' ns'. Compiles number' before' (conds ++ further ∷ []) js' ns' before)
push_negated_first true last first conds before further negated rest number start js [] at compiles = absurd compiles
push_negated_first true last first conds before further negated rest number start js (n ∷ ns) at compiles = (compiles.0, compiles.1, rest number start js ns at compiles.2)
push_negated_first false last first conds before further negated rest number start [] ns at compiles = absurd compiles
push_negated_first false last first conds before further negated rest number start (j ∷ js) ns at compiles = (compiles.0, rest (number + 1) (sources_after_tests number start first.tests) js ns (omega (arith, at)) compiles.1)

pub Compiles-push_negated : (conds : List Cond) (last : ℕ) (before : Sources) (further : Cond) (negated : Negated) → further.negated ≡ true → negated.after ≡ last → IsJoin last before further negated.join → PushesNegated last conds before further negated
Compiles-push_negated [] last before further negated sign place is number start [] [] at compiles =
    let here : last ≡ number = omega (arith, at) in
    let same : before ≡ start = compiles in
    let joins_here : IsJoin number start further negated.join = subst (λ s. IsJoin number s further negated.join) same (subst (λ n. IsJoin n before further negated.join) here is) in
    subst (λ b. CompilesFirst b number start further [] (negated ∷ []) (λ number' before' js' ns'. Compiles number' before' [] js' ns' before)) (sym sign) (place ∙ here, joins_here, same)
Compiles-push_negated [] last before further negated sign place is number start [] (n ∷ ns) at compiles = absurd compiles
Compiles-push_negated [] last before further negated sign place is number start (j ∷ js) ns at compiles = absurd compiles
Compiles-push_negated (first ∷ conds) last before further negated sign place is number start js ns at compiles =
    push_negated_first first.negated last first conds before further negated (Compiles-push_negated conds last before further negated sign place is) number start js ns at compiles

-- a condition element of either sign that is taken in
by_sign : (sign : Bool) (conds : List Cond) (start : Sources) (further : Cond) (old new : Joins) (before after : Sources) → further.negated ≡ sign → TakesIn sign further old before new after → Compiles 0 start conds old.positives old.negated before → Compiles 0 start (conds ++ further ∷ []) new.positives new.negated after
by_sign true conds start further old new before after sign takes compiles =
    let negated : Negated = record { after = length old.positives; join = takes.0 } in
    let pushed = Compiles-push_negated conds (length old.positives) before further negated sign refl takes.1 0 start old.positives old.negated (omega arith) compiles in
    subst (λ s. Compiles 0 start (conds ++ further ∷ []) new.positives new.negated s) (sym takes.4)
    (subst (λ ns. Compiles 0 start (conds ++ further ∷ []) new.positives ns before) (sym takes.3)
    (subst (λ js. Compiles 0 start (conds ++ further ∷ []) js (old.negated ++ negated ∷ []) before) (sym takes.2) pushed))
by_sign false conds start further old new before after sign takes compiles =
    let ends = sources_after_tests (length old.positives) before further.tests in
    let pushed = Compiles-push conds (length old.positives) before further takes.0 sign takes.1 0 start old.positives old.negated (omega arith) compiles in
    subst (λ s. Compiles 0 start (conds ++ further ∷ []) new.positives new.negated s) (sym takes.4)
    (subst (λ ns. Compiles 0 start (conds ++ further ∷ []) new.positives ns ends) (sym takes.3)
    (subst (λ js. Compiles 0 start (conds ++ further ∷ []) js old.negated ends) (sym takes.2) pushed))

pub Compiles-TakesIn : (conds : List Cond) (start : Sources) (further : Cond) (old new : Joins) (before after : Sources) → TakesIn further.negated further old before new after → Compiles 0 start conds old.positives old.negated before → Compiles 0 start (conds ++ further ∷ []) new.positives new.negated after
Compiles-TakesIn conds start further old new before after takes compiles = by_sign further.negated conds start further old new before after refl takes compiles

-- the joins look back at the elements before their own
pub record LookBack (number : ℕ) (js : List Join) (ns : List Negated) : Type 0 where
  pub positives : (n : ℕ) (join : Join) → slice_get js n ≡ Some join → LooksBack (number + n) join
  pub negated : AllByRecursion (λ (n : Negated). LooksBack n.after n.join) ns

back_at : (number : ℕ) (join : Join) (js : List Join) → LooksBack number join → ((n : ℕ) (x : Join) → slice_get js n ≡ Some x → LooksBack (number + 1 + n) x) → (n : ℕ) (x : Join) → slice_get (join ∷ js) n ≡ Some x → LooksBack (number + n) x
back_at number join js here later zero x at =
    let same : join ≡ x = cc in
    let place : number ≡ number + zero = omega arith in
    subst (λ n. LooksBack n x) place (subst (LooksBack number) same here)
back_at number join js here later (suc n) x at =
    let place : number + 1 + n ≡ number + suc n = omega arith in
    subst (λ m. LooksBack m x) place (later n x at)

back_by_sign : (sign : Bool) (c : Cond) (conds : List Cond) (number : ℕ) (before : Sources) (js : List Join) (ns : List Negated) (after : Sources) → AreWithin number before →
    ((number' : ℕ) (before' : Sources) (js' : List Join) (ns' : List Negated) → AreWithin number' before' → Compiles number' before' conds js' ns' after → LookBack number' js' ns') →
    CompilesFirst sign number before c js ns (λ number' before' js' ns'. Compiles number' before' conds js' ns' after) → LookBack number js ns
back_by_sign true c conds number before js [] after within rest compiles = absurd compiles
back_by_sign true c conds number before js (n ∷ ns) after within rest compiles =
    let later = rest number before js ns within compiles.2 in
    record { positives = later.positives; negated = (subst (λ place. LooksBack place n.join) (sym compiles.0) (compiles.1.looks_back within), later.negated) }
back_by_sign false c conds number before [] ns after within rest compiles = absurd compiles
back_by_sign false c conds number before (join ∷ js) ns after within rest compiles =
    let later = rest (number + 1) (sources_after_tests number before c.tests) js ns (AreWithin-after_tests number before c.tests within) compiles.1 in
    record { positives = back_at number join js (compiles.0.looks_back within) later.positives; negated = later.negated }

pub look_back : (conds : List Cond) (number : ℕ) (before : Sources) (js : List Join) (ns : List Negated) (after : Sources) → AreWithin number before → Compiles number before conds js ns after → LookBack number js ns
look_back [] number before [] [] after within compiles = record { positives = λ n join at. absurd (let wrong : ⊥ = cc in wrong); negated = tt }
look_back [] number before [] (n ∷ ns) after within compiles = absurd compiles
look_back [] number before (join ∷ js) ns after within compiles = absurd compiles
look_back (c ∷ conds) number before js ns after within compiles =
    back_by_sign c.negated c conds number before js ns after within (λ number' before' js' ns' within' compiles'. look_back conds number' before' js' ns' after within' compiles') compiles
