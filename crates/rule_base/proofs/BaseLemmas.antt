-- Lawful bases: an opening has one, and a run from one leaves one.
use Rattle.std.proofs.Common.{◌≡◌, ℕ, ◌+◌, ◌^◌, ◌<◌, ◌≤◌, List, [], ◌∷◌, ◌++◌, length, Some, not, ◌==◌, sym, ap, subst, arith}
use Rattle.std.specs.List.{AllByRecursion, IsDistinct, list_any}
use Rattle.rule_base.specs.declared.change.Change.{Change}
use Rattle.rule_base.specs.declared.change.Change.TheVariants.{Remove, Make}
use Rattle.rule_base.specs.declared.element.Element.{Element}
use Rattle.rule_base.specs.declared.instantiation.Choice.{Choice}
use Rattle.rule_base.specs.declared.program.Program.{Program}
use Rattle.rule_base.specs.declared.base.Refraction.{Refraction}
use Rattle.rule_base.specs.declared.base.Refraction.TheVariants.{Once, Renewed}
use Rattle.rule_base.specs.declared.base.Base.{Base}
use Rattle.rule_base.specs.Effect.{Effect, removed_tags}
use Rattle.rule_base.specs.Memory.{IsMemory, Memory, tags_of}
use Rattle.rule_base.specs.Opening.{AreConsecutive, IsOpening}
use Rattle.rule_base.specs.Sound.{IsSound, sizes_of}
use Rattle.rule_base.specs.State.{IsState, State, base_of, opening_base, same_choice, start}
use Rattle.rule_base.specs.Step.{born, is_listed, memory_after, step, still_fired, without}
use Rattle.rule_base.specs.Run.{run}
use Rattle.rule_base.specs.Base.{FitsRule, StillMatch, IsLawfulBase, WasGiven}
use Rattle.rule_base.proofs.EachLemmas.{Each-append, Each-both, Each-filter, Each-weaker}
use Rattle.rule_base.proofs.ChoiceLemmas.{IsDistinct-filter, IsDistinct-push}
use Rattle.rule_base.proofs.StepLemmas.{IsStep-from_step, run-by_steps}
use Rattle.rule_base.proofs.MemoryLemmas.{AllBelow, AllBelow-consecutive}
use Rattle.rule_base.proofs.MachineLemmas.{IsKeepingStep-sound}
use Rattle.rule_base.proofs.RunLemmas.{StillMatch-step, matches_at_step, unfired_at_step}
use Rattle.rule_base.proofs.TakenLemmas.{FitsRule-matches}

-- all of a lawful base but that tags are left
record IsSteady (program : Program) (s : State) : Type 0 where
  memory' : IsMemory (sizes_of program.classes) s.memory
  given : AllByRecursion (λ (e : Element). WasGiven s.next e.tag) s.memory
  from_one : 1 ≤ s.next
  distinct : IsDistinct same_choice s.fired
  fitting : AllByRecursion (FitsRule program s.next) s.fired
  matching : StillMatch s.refraction program s.memory s.fired

-- tags from a number on are above each smaller one
tags_from_one : (first : ℕ) (memory : Memory) → 1 ≤ first → AreConsecutive first (tags_of memory) → AllByRecursion (λ (e : Element). 1 ≤ e.tag) memory
tags_from_one first [] some consecutive = tt
tags_from_one first (e ∷ memory) some consecutive = (omega (arith, some, consecutive.0), tags_from_one (first + 1) memory (omega arith) consecutive.1)

no_choices : IsDistinct same_choice []
unfolding IsDistinct
no_choices = tt

pub IsLawfulBase-opening : (program : Program) (elements : Memory) (refraction : Refraction) → IsOpening (sizes_of program.classes) elements → IsLawfulBase program (opening_base elements refraction)
IsLawfulBase-opening program elements refraction began =
    let same : 1 + length elements ≡ length elements + 1 = omega arith in
    let below : AllBelow (length elements + 1) elements = subst (λ n. AllBelow n elements) same (AllBelow-consecutive 1 elements began.consecutive) in
    record {
      memory = began.memory;
      given = Each-both (λ (e : Element). 1 ≤ e.tag) (λ (e : Element). e.tag < length elements + 1) (λ (e : Element). WasGiven (length elements + 1) e.tag) (λ e some lt. (some, lt)) elements (tags_from_one 1 elements (omega arith) began.consecutive) below;
      from_one = omega arith;
      few = omega (arith, began.few);
      distinct = no_choices;
      fitting = tt;
      matching = none_matching refraction;
    }
  where
    none_matching : (r : Refraction) → StillMatch r program elements []
    none_matching Once = tt
    none_matching Renewed = tt

-- elements that changes make have tags from the next one on
born_from : (next : ℕ) (changes : List Change) → 1 ≤ next → AllByRecursion (λ (e : Element). 1 ≤ e.tag) (born next changes)
born_from next [] some = tt
born_from next (Remove tag ∷ changes) some = born_from next changes some
born_from next (Make class values ∷ changes) some = (some, born_from (next + 1) changes (omega arith))

-- what holds of all that has fired holds of what stays so
Each-still : (P : Choice → Type 0) (r : Refraction) (program : Program) (memory : Memory) (fired : List Choice) → AllByRecursion P fired → AllByRecursion P (still_fired r program memory fired)
Each-still P Once program memory fired each = each
Each-still P Renewed program memory fired each = Each-filter P (is_listed program memory) fired each

IsDistinct-still : (r : Refraction) (program : Program) (memory : Memory) (fired : List Choice) → IsDistinct same_choice fired → IsDistinct same_choice (still_fired r program memory fired)
IsDistinct-still Once program memory fired distinct = distinct
IsDistinct-still Renewed program memory fired distinct = IsDistinct-filter (is_listed program memory) fired distinct

-- a choice whose tags were given before a tag has them before each later one
FitsRule-later : (program : Program) (next later : ℕ) (c : Choice) → next ≤ later → FitsRule program next c → FitsRule program later c
FitsRule-later program next later c le fits = record {
  positives = fits.positives;
  given = Each-weaker (WasGiven next) (WasGiven later) (λ tag was. (was.0, omega (arith, was.1, le))) c.tags fits.given;
}

-- each tag is at least 1 after a commit
from_one_after : (s : State) (done : Effect) → 1 ≤ s.next → AllByRecursion (λ (e : Element). 1 ≤ e.tag) s.memory → AllByRecursion (λ (e : Element). 1 ≤ e.tag) (memory_after s done)
from_one_after s done some each =
    let stays = λ (e : Element). not (list_any (λ tag. tag == e.tag) (removed_tags done.changes)) in
    Each-append (λ (e : Element). 1 ≤ e.tag) (without s.memory (removed_tags done.changes)) (born s.next done.changes) (Each-filter (λ (e : Element). 1 ≤ e.tag) stays s.memory each) (born_from s.next done.changes some)

IsState-steady : (program : Program) (s : State) → IsSteady program s → IsState (sizes_of program.classes) s
IsState-steady program s steady = record {
  elements = steady.memory';
  below = Each-weaker (λ (e : Element). WasGiven s.next e.tag) (λ (e : Element). e.tag < s.next) (λ e was. was.1) s.memory steady.given;
}

IsSteady-step : (program : Program) (s : State) (c : Choice) (after : State) → IsSound program → IsSteady program s → step program s c ≡ Some after → IsSteady program after
IsSteady-step program s c after sound steady steps =
    let made = IsStep-from_step program s c after steps in
    let keeps = IsKeepingStep-sound program s c after sound (IsState-steady program s steady) steps in
    let next_is : after.next ≡ s.next + length (born s.next made.done.changes) = ap (λ (t : State). t.next) made.commits in
    let later : s.next ≤ after.next = omega (arith, next_is) in
    let some : AllByRecursion (λ (e : Element). 1 ≤ e.tag) after.memory =
    subst (λ (t : State). AllByRecursion (λ (e : Element). 1 ≤ e.tag) t.memory) (sym made.commits) (from_one_after s made.done steady.from_one (Each-weaker (λ (e : Element). WasGiven s.next e.tag) (λ (e : Element). 1 ≤ e.tag) (λ e was. was.0) s.memory steady.given)) in
    let fired = s.fired ++ c ∷ [] in
    let fired_is : after.fired ≡ still_fired s.refraction program (memory_after s made.done) fired = ap (λ (t : State). t.fired) made.commits in
    let fits = FitsRule-later program s.next after.next c later (FitsRule-matches program s.next s.memory c sound steady.given (matches_at_step program s c after steps)) in
    let others = Each-weaker (FitsRule program s.next) (FitsRule program after.next) (λ d. FitsRule-later program s.next after.next d later) s.fired steady.fitting in
    record {
      memory' = keeps.state.elements;
      given = Each-both (λ (e : Element). 1 ≤ e.tag) (λ (e : Element). e.tag < after.next) (λ (e : Element). WasGiven after.next e.tag) (λ e one lt. (one, lt)) after.memory some keeps.state.below;
      from_one = omega (arith, steady.from_one, later);
      distinct = subst (IsDistinct same_choice) (sym fired_is) (IsDistinct-still s.refraction program (memory_after s made.done) fired (IsDistinct-push s.fired c steady.distinct (unfired_at_step program s c after steps)));
      fitting = subst (AllByRecursion (FitsRule program after.next)) (sym fired_is) (Each-still (FitsRule program after.next) s.refraction program (memory_after s made.done) fired (Each-append (FitsRule program after.next) s.fired (c ∷ []) others (fits, tt)));
      matching = StillMatch-step program s c after steps;
    }

IsSteady-run : (program : Program) → IsSound program → (s : State) (choices : List Choice) (after : State) → run program s choices ≡ Some after → IsSteady program s → IsSteady program after
IsSteady-run program sound = run-by_steps program (λ s choices after. IsSteady program s → IsSteady program after) (λ s steady. steady) (λ s t after c choices steps rest steady. rest (IsSteady-step program s c t sound steady steps))

IsSteady-start : (program : Program) (base : Base) → IsLawfulBase program base → IsSteady program (start base)
IsSteady-start program base lawful =
    record { memory' = lawful.memory; given = lawful.given; from_one = lawful.from_one; distinct = lawful.distinct; fitting = lawful.fitting; matching = lawful.matching }

pub IsState-start : (program : Program) (base : Base) → IsLawfulBase program base → IsState (sizes_of program.classes) (start base)
IsState-start program base lawful = IsState-steady program (start base) (IsSteady-start program base lawful)

pub IsLawfulBase-run : (program : Program) (base : Base) (choices : List Choice) (after : State) → IsSound program → IsLawfulBase program base → run program (start base) choices ≡ Some after → after.next < 2 ^ 63 → IsLawfulBase program (base_of after)
IsLawfulBase-run program base choices after sound lawful ran few =
    let steady = IsSteady-run program sound (start base) choices after ran (IsSteady-start program base lawful) in
    record { memory = steady.memory'; given = steady.given; from_one = steady.from_one; few = few; distinct = steady.distinct; fitting = steady.fitting; matching = steady.matching }
