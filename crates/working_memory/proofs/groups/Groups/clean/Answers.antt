-- One group is cleaned.
use Rattle.std.proofs.Common.{◌≡◌, ℕ, List, Some, cond, refl, subst}
use Rattle.std.specs.List.{filter}
use Rattle.std.specs.Map.{lookup}
use Rattle.std.specs.Option.{IsSome}
use Rattle.working_memory.specs.declared.groups.Key.{Key}
use Rattle.working_memory.specs.Groups.{Code, Groups, group, same_code, same_key}
use Rattle.working_memory.proofs.GroupLemmas.{grouped, grouped_absent}
use Rattle.working_memory.proofs.groups.Groups.clean.Goals as goal
use Rattle.working_memory.proofs.groups.Groups.clean.Goals.{in-Some, in-None}
use Rattle.rule_base.specs.Numbers.{has_number}

pub returns : goal.returns
returns c =
    let key = c.args.key in
    let code = c.code_of in
    let old : Groups = c.self.inside.groups.entries in
    let new : Groups = c.match-get_mut.self-inside.groups.entries in
    let left : List ℕ → List ℕ = filter (has_number c.args.memory.now.places) in
    let cleaned : (k : Key) → group new k ≡ cond (same_key key k) (left (group old k)) (group old k) =
    elim c.match-get_mut.branch [
      | in-Some w ↦ (
          let held : List ℕ = w.clean.new.self in
          let some : IsSome (lookup (same_code code.result) old) = subst IsSome w.in-Some.ensures.value refl in
          let now : (q : Code) → lookup (same_code q) new ≡ cond (same_code code.result q) (Some held) (lookup (same_code q) old) = rw w.self-inside-is (((c.get_mut.follows.holds held).3 some).0) in
          grouped old new key code.result left (Some w.in-Some.group.now) held code.ensures.code code.ensures.apart w.in-Some.ensures.value w.clean.ensures now)
      | in-None w ↦ rw (w.self-inside-is, c.get_mut.follows.holds-at-none) (grouped_absent old key code.result left refl code.ensures.code w.in-None.ensures.value)
    ] in
    subst (λ (groups : Groups). (k : Key) → group new k ≡ cond (same_key key k) (left (group groups k)) (group groups k)) c.self.view_is cleaned
