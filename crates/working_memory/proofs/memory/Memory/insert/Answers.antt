-- The next place is above all others, and there.
use Rattle.std.proofs.Common.{◌≡◌, ◌<◌, [], ◌∷◌, ◌++◌, ◌∙◌, arith, length, subst, sym}
use Rattle.std.specs.List.{filter}
use Rattle.working_memory.specs.Memory.{Places, is_here}
use Rattle.working_memory.proofs.KeptLemmas.{IsKept-push, kept_count, places-push}
use Rattle.working_memory.proofs.memory.Memory.insert.Goals as goal

pub overflow_add-self : goal.overflow_add-self
overflow_add-self g c =
    let inside = c.self.inside in
    omega (arith, kept_count inside.slots.items inside.here.items inside.living c.self.invariant.0, inside.slots.ok, inside.slots.small)

pub invariant_of-self : goal.invariant_of-self
invariant_of-self g c =
    let inside = c.self.inside in
    let slots = c.push_reserved in
    let here = c.push_reserved-2 in
    let last : c.len.result ≡ length inside.here.items = c.len.ensures ∙ inside.here.ok.0 in
    let some : 0 < inside.spare = subst (λ (m : Places). 0 < m.spare) (sym c.self.view_is) c.requires in (
      IsKept-push inside.slots.items slots.new.self.items inside.here.items here.new.self.items inside.living c.len.result c.self.invariant.0 last slots.ensures.items here.ensures.items,
      omega (arith, some, c.self.invariant.1, slots.ensures.len, slots.ensures.capacity),
      omega (arith, some, c.self.invariant.2, here.ensures.len, here.ensures.capacity),
    )

pub returns-clause-places : goal.returns-clause-places
returns-clause-places g c =
    let inside = c.self.inside in
    let slots = c.push_reserved in
    let here = c.push_reserved-2 in
    let last : c.len.result ≡ length inside.here.items = c.len.ensures ∙ inside.here.ok.0 in
    subst (λ (m : Places). filter (is_here here.new.self.items) slots.new.self.items ≡ m.places ++ m.came ∷ []) c.self.view_is
    (places-push inside.slots.items slots.new.self.items inside.here.items here.new.self.items inside.living c.len.result c.self.invariant.0 last slots.ensures.items here.ensures.items)
