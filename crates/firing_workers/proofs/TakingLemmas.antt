-- A part takes in what has gone, one tag after another, and then what came, one tag after another.
use Rattle.std.proofs.Common.{◌≡◌, ℕ, ◌+◌, ◌<◌, ◌≤◌, List, [], ◌∷◌, ◌++◌, Option, Some, None, slice_get, refl, ap, sym, ◌∙◌, subst, nat_lt, arith}
use Rattle.std.specs.List.{AllByRecursion, cons_option}
use Rattle.std.proofs.lemmas.List.{append-nil}
use Rattle.std.proofs.lemmas.List.Elements.{filter-append}
use Rattle.rule_base.specs.declared.element.Element.{Element}
use Rattle.rule_base.specs.declared.program.Program.{Program}
use Rattle.rule_base.specs.Memory.{Memory, Rises, element_at, tags_of}
use Rattle.rule_base.specs.State.{State}
use Rattle.rule_base.specs.Step.{without}
use Rattle.rule_base.proofs.EachLemmas.{Each-filter_map, Each-slice_get}
use Rattle.conflict_parts.specs.Part.{Part}
use Rattle.firing_core.proofs.StoreLemmas.{without-append}
use Rattle.firing_workers.specs.Following.{Follows, IsSettled, with_arrived, with_memory, with_removed, with_some}
use Rattle.firing_workers.proofs.BornLemmas.{AllBefore, AllFrom, before, before-all, before-next, before-none}
use Rattle.firing_workers.proofs.FeedingLemmas.{follows_later}

-- the elements with these tags have gone from a part
pub record HasTakenOut (tags : List ℕ) (old : Part) (new : Part) : Type 0 where
  pub came : new.network.arrivals.came ≡ old.network.arrivals.came
  pub follows : (program : Program) (s : State) → Follows program s old → IsSettled s old → Follows program (with_removed s tags) new × IsSettled (with_removed s tags) new

without_none : (memory : Memory) → without memory [] ≡ memory
without_none [] = refl
without_none (e ∷ memory) = ap (λ (es : Memory). e ∷ es) (without_none memory)

removed_none : (s : State) → with_removed s [] ≡ s
removed_none s = λ i. record s { memory = without_none s.memory i }

removed_more : (s : State) (tags more : List ℕ) → with_removed (with_removed s tags) more ≡ with_removed s (tags ++ more)
removed_more s tags more = λ i. record s { memory = sym (without-append s.memory tags more) i }

pub taken_out-none : (part : Part) → HasTakenOut [] part part
taken_out-none part = record {
  came = refl;
  follows = λ program s follows settled. subst (λ (t : State). Follows program t part × IsSettled t part) (sym (removed_none s)) (follows, settled);
}

pub taken_out-one : (tags : List ℕ) (tag : ℕ) (old part new : Part) → HasTakenOut tags old part → HasTakenOut (tag ∷ []) part new → HasTakenOut (tags ++ tag ∷ []) old new
taken_out-one tags tag old part new first then = record {
  came = then.came ∙ first.came;
  follows = λ program s follows settled.
      let before = first.follows program s follows settled in
      subst (λ (t : State). Follows program t new × IsSettled t new) (removed_more s tags (tag ∷ [])) (then.follows program (with_removed s tags) before.0 before.1);
}

-- the elements of a memory from a tag on, before another, have come to a part
pub record IsTakingIn (memory : Memory) (from : ℕ) (tag : ℕ) (old : Part) (part : Part) : Type 0 where
  pub came : AllByRecursion (λ (e : Element). e.tag < tag) part.network.arrivals.came
  pub follows : (program : Program) (s : State) (more : Memory) → Follows program s old → s.next ≡ from → memory ≡ s.memory ++ more → AllFrom from more → Follows program (with_memory s (before tag memory) tag) part

-- the tags of a memory that is followed were given
memory_below : (program : Program) (s : State) (part : Part) → Follows program s part → AllBefore s.next s.memory
memory_below program s part follows =
    subst (AllBefore s.next) follows.memory
    (Each-filter_map (λ (e : Element). e.tag < s.next) (slice_get part.network.arrivals.came) part.network.arrivals.places
    (λ place e at. Each-slice_get (λ (x : Element). x.tag < s.next) part.network.arrivals.came place e follows.came at))

pub taking_in-none : (memory : Memory) (from : ℕ) (part : Part) → AllByRecursion (λ (e : Element). e.tag < from) part.network.arrivals.came → IsTakingIn memory from from part part
taking_in-none memory from part came = record {
  came = came;
  follows = λ program s more follows next is behind.
      let below : AllBefore from s.memory = subst (λ n. AllBefore n s.memory) next (memory_below program s part follows) in
      let here : before from memory ≡ s.memory =
      ap (before from) is ∙ filter-append (λ (e : Element). nat_lt e.tag from) s.memory more
      ∙ ap (λ (es : Memory). es ++ before from more) (before-all from s.memory below) ∙ ap (λ (es : Memory). s.memory ++ es) (before-none from more behind) ∙ append-nil s.memory in
      let same : s ≡ with_memory s (before from memory) from = λ i. record s { memory = sym here i; next = next i } in
      subst (λ (t : State). Follows program t part) same follows;
}

some_more : (s : State) (memory : Memory) (tag : ℕ) (found : Option Element) → with_some (with_memory s memory tag) tag found ≡ with_memory s (memory ++ cons_option found []) (tag + 1)
some_more s memory tag None = λ i. record s { memory = sym (append-nil memory) i; next = tag + 1 }
some_more s memory tag (Some e) = refl

pub taking_in-one : (memory : Memory) (from tag : ℕ) (old part new : Part) → Rises (tags_of memory) → IsTakingIn memory from tag old part →
    AllByRecursion (λ (e : Element). e.tag < tag + 1) new.network.arrivals.came →
    ((program : Program) (s : State) → Follows program s part → s.next ≤ tag → Follows program (with_some s tag (element_at memory tag)) new) →
    IsTakingIn memory from (tag + 1) old new
taking_in-one memory from tag old part new rises taking came follows = record {
  came = came;
  follows = λ program s more was next is behind.
      subst (λ (t : State). Follows program t new)
      (some_more s (before tag memory) tag (element_at memory tag) ∙ ap (λ (es : Memory). with_memory s es (tag + 1)) (sym (before-next tag memory rises)))
      (follows program (with_memory s (before tag memory) tag) (taking.follows program s more was next is behind) (omega arith));
}

-- all have come
pub taken_in-all : (memory : Memory) (from next : ℕ) (old new : Part) → AllBefore next memory → IsTakingIn memory from next old new →
    (program : Program) (s : State) (more : Memory) → Follows program s old → s.next ≡ from → memory ≡ s.memory ++ more → AllFrom from more → Follows program (with_memory s memory next) new
taken_in-all memory from next old new below taken program s more follows at is behind =
    subst (λ (es : Memory). Follows program (with_memory s es next) new) (before-all next memory below) (taken.follows program s more follows at is behind)

-- an element with a tag has come, or there is none with it
pub arrived_some : (program : Program) (s : State) (memory : Memory) (tag : ℕ) (e : Element) (new : Part) → element_at memory tag ≡ Some e → e.tag ≡ tag → Follows program (with_arrived s e) new → Follows program (with_some s tag (element_at memory tag)) new
arrived_some program s memory tag e new found same follows =
    subst (λ (o : Option Element). Follows program (with_some s tag o) new) (sym found)
    (subst (λ t. Follows program (with_some s t (Some e)) new) same follows)

pub arrived_none : (program : Program) (s : State) (memory : Memory) (tag : ℕ) (part : Part) → element_at memory tag ≡ None → Follows program s part → s.next ≤ tag → Follows program (with_some s tag (element_at memory tag)) part
arrived_none program s memory tag part found follows late =
    subst (λ (o : Option Element). Follows program (with_some s tag o) part) (sym found) (follows_later program s part (tag + 1) (omega (arith, late)) follows)
