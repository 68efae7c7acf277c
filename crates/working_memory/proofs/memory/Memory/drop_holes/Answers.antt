-- What is there stays.
use Rattle.std.proofs.Common.{◌≡◌, ◌+◌, ◌≤◌, List, Bool, ap, ◌∙◌, sym, arith, length}
use Rattle.std.specs.List.{filter}
use Rattle.std.specs.Vec.{vec_capacity, vec_len}
use Rattle.working_memory.specs.Memory.{Places, is_here}
use Rattle.working_memory.proofs.KeptLemmas.{IsKept-packed, kept_count, places-packed}
use Rattle.working_memory.proofs.memory.Memory.drop_holes.Goals as goal

pub overflow_sub-len : goal.overflow_sub-len
overflow_sub-len c =
    let inside = c.self.inside in
    omega (arith, kept_count inside.slots.items inside.here.items inside.living c.self.invariant.0, inside.slots.ok.0, c.len-len.ensures)

pub invariant_of-self : goal.invariant_of-self
invariant_of-self c =
    let inside = c.self.inside in
    let slots = c.keep_those_here.new.slots in
    let left : slots.items ≡ filter (is_here inside.here.items) inside.slots.items = c.keep_those_here.ensures.kept ∙ ap (λ (bs : List Bool). filter (is_here bs) inside.slots.items) c.as_slice.ensures.value in
    let room : inside.spare + vec_len slots ≤ vec_capacity slots = omega (arith, c.self.invariant.1, c.keep_those_here.ensures.fewer, c.keep_those_here.ensures.room) in
    (IsKept-packed inside.slots.items slots.items inside.here.items inside.living c.self.invariant.0 left, room, c.self.invariant.2)

pub returns-then-len-self-clause-places : goal.returns-then-len-self-clause-places
returns-then-len-self-clause-places c =
    let inside = c.self.inside in
    let slots = c.keep_those_here.new.slots in
    let here = inside.here.items in
    let left : slots.items ≡ filter (is_here here) inside.slots.items = c.keep_those_here.ensures.kept ∙ ap (λ (bs : List Bool). filter (is_here bs) inside.slots.items) c.as_slice.ensures.value in
    places-packed inside.slots.items slots.items here left ∙ ap (λ (m : Places). m.places) c.self.view_is

pub returns-then-len-self-clause-packed : goal.returns-then-len-self-clause-packed
returns-then-len-self-clause-packed c =
    let inside = c.self.inside in
    let slots = c.keep_those_here.new.slots in
    let here = inside.here.items in
    let left : slots.items ≡ filter (is_here here) inside.slots.items = c.keep_those_here.ensures.kept ∙ ap (λ (bs : List Bool). filter (is_here bs) inside.slots.items) c.as_slice.ensures.value in
    let all : length (filter (is_here here) slots.items) ≡ length slots.items = ap length (places-packed inside.slots.items slots.items here left ∙ sym left) in
    omega (arith, all)
