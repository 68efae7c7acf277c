-- The list lies behind the others.
use Rattle.std.proofs.Common.{◌≡◌, ◌+◌, ◌≤◌, [], ◌∷◌, ◌++◌, ◌-◌, arith, length, min, rules, sym, subst, ◌∙◌, ap, length-append}
use Rattle.std.specs.Prelude.{vec_capacity, vec_len}
use Rattle.commit_journal.specs.Lists.{Kept, RiseTo, cut, most_items}
use Rattle.commit_journal.proofs.CutLemmas.{RiseTo-push, cut-push, few-more}
use Rattle.commit_journal.proofs.lists.Lists.push.Goals as goal

pub invariant_of-self : goal.invariant_of-self
invariant_of-self g c =
    let items = c.self.inside.items.items in
    let now = c.extend_from_slice.new.self.items in
    let more : now ≡ items ++ c.args.items.now = search rules in
    let size : length now ≡ length items + length c.args.items.now = ap length more ∙ length-append items c.args.items.now in
    let end : c.len.result ≡ length now = search rules in
    let room : length c.args.items.now ≤ min (vec_capacity c.self.inside.items) most_items - vec_len c.self.inside.items = subst (λ (kept : Kept _). length c.args.items.now ≤ kept.more_items) (sym c.self.view_is) c.requires.room.1 in
    let here : vec_len c.self.inside.items ≡ length items = search rules in
    let few : length items + length c.args.items.now ≤ most_items = few-more (length items) (length c.args.items.now) (vec_capacity c.self.inside.items) most_items (subst (λ n. length c.args.items.now ≤ min (vec_capacity c.self.inside.items) most_items - n) here room) c.self.invariant.1 in
    let rise : RiseTo 0 (c.self.inside.ends.items ++ c.len.result ∷ []) c.len.result = RiseTo-push 0 c.self.inside.ends.items (length items) c.len.result c.self.invariant.0 (omega (arith, size, end)) in
    (subst (λ ends. RiseTo 0 ends (length now)) (sym c.push_reserved.ensures.items) (subst (RiseTo 0 (c.self.inside.ends.items ++ c.len.result ∷ [])) end rise), omega (arith, size, few))

pub returns-clause-lists : goal.returns-clause-lists
returns-clause-lists g c =
    let ends = c.self.inside.ends.items in
    let items = c.self.inside.items.items in
    let more : c.extend_from_slice.new.self.items ≡ items ++ c.args.items.now = search rules in
    let end : c.len.result ≡ length items + length c.args.items.now = (let e : c.len.result ≡ length c.extend_from_slice.new.self.items = search rules in e) ∙ ap length more ∙ length-append items c.args.items.now in
    subst (λ (kept : Kept _). cut c.push_reserved.new.self.items c.extend_from_slice.new.self.items ≡ kept.lists ++ c.args.items.now ∷ []) c.self.view_is
    (ap (λ xs. cut c.push_reserved.new.self.items xs) more ∙ ap (λ es. cut es (items ++ c.args.items.now)) c.push_reserved.ensures.items ∙ cut-push ends items c.args.items.now c.len.result c.self.invariant.0 end)
