-- One group has a place more.
use Rattle.std.proofs.Common.{◌≡◌, ℕ, List, [], ◌∷◌, ◌++◌, None, Some, ap, cond, ◌∙◌, refl, subst}
use Rattle.std.specs.Map.{lookup}
use Rattle.std.specs.Option.{IsSome}
use Rattle.std.proofs.lemmas.Result.{on_err_weaker, on_ok_weaker}
use Rattle.working_memory.specs.declared.groups.Key.{Key}
use Rattle.working_memory.specs.Groups.{Code, Groups, group, same_code, same_key}
use Rattle.working_memory.proofs.GroupLemmas.{grouped, grouped_same}
use Rattle.working_memory.proofs.groups.Groups.add.Goals as goal

pub returns-in-Some-clause-ok : goal.returns-in-Some-clause-ok
returns-in-Some-clause-ok c =
    let key = c.args.key in
    let code = c.code_of-code in
    let old : Groups = c.self.inside.groups.entries in
    let new : Groups = (c.get_mut.follows.lender c.push.new.self).entries in
    let held : List ℕ = c.push.new.self in
    let more : List ℕ → List ℕ = λ (places : List ℕ). places ++ c.args.place ∷ [] in
    let some : IsSome (lookup (same_code code.result) old) = subst IsSome c.in-Some.ensures.value refl in
    let grows : held ≡ more c.in-Some.group.now → (k : Key) → group new k ≡ cond (same_key key k) (more (group c.args.self.now k)) (group c.args.self.now k) =
    λ (pushed : held ≡ more c.in-Some.group.now).
    subst (λ (groups : Groups). (k : Key) → group new k ≡ cond (same_key key k) (more (group groups k)) (group groups k)) c.self.view_is
    (grouped old new key code.result more (Some c.in-Some.group.now) held code.ensures.code code.ensures.apart c.in-Some.ensures.value pushed (((c.get_mut.follows.holds c.push.new.self).3 some).0)) in
    on_ok_weaker c.push.result grows c.push.ensures.ok

pub returns-in-Some-clause-err : goal.returns-in-Some-clause-err
returns-in-Some-clause-err c =
    let code = c.code_of-code in
    let old : Groups = c.self.inside.groups.entries in
    let new : Groups = (c.get_mut.follows.lender c.push.new.self).entries in
    let held : List ℕ = c.push.new.self in
    let some : IsSome (lookup (same_code code.result) old) = subst IsSome c.in-Some.ensures.value refl in
    let stays : held ≡ c.in-Some.group.now → (k : Key) → group new k ≡ group c.args.self.now k =
    λ (same : held ≡ c.in-Some.group.now).
    subst (λ (groups : Groups). (k : Key) → group new k ≡ group groups k) c.self.view_is
    (grouped_same old new c.args.key code.result (Some c.in-Some.group.now) held code.ensures.code code.ensures.apart c.in-Some.ensures.value same (((c.get_mut.follows.holds c.push.new.self).3 some).0)) in
    on_err_weaker c.push.result stays c.push.ensures.err

pub returns-in_ok-insert-in-None-clause-ok : goal.returns-in_ok-insert-in-None-clause-ok
returns-in_ok-insert-in-None-clause-ok c =
    let key = c.args.key in
    let code = c.code_of-code in
    let old : Groups = c.self.inside.groups.entries in
    let new : Groups = c.insert.new.self.entries in
    let held : List ℕ = c.push-in-None.new.self in
    let more : List ℕ → List ℕ = λ (places : List ℕ). places ++ c.args.place ∷ [] in
    let first : held ≡ more [] = c.in_ok-push-in-None.ensures.ok ∙ ap more c.new-group.ensures in
    let now : (q : Code) → lookup (same_code q) new ≡ cond (same_code code.result q) (Some held) (lookup (same_code q) old) = rw c.get_mut.follows.holds-at-none at c.in_ok-insert-in-None.ensures.updates.0 in
    subst (λ (groups : Groups). (k : Key) → group new k ≡ cond (same_key key k) (more (group groups k)) (group groups k)) c.self.view_is
    (grouped old new key code.result more None held code.ensures.code code.ensures.apart c.in-None.ensures.value first now)
