-- The element has the class and the values at its place.
use Rattle.std.proofs.Common.{◌≡◌, ◌+◌, ◌<◌, Some, arith, length, rules, slice_get, subst, sym}
use Rattle.std.proofs.lemmas.Option.{slice_get_read}
use Rattle.rule_base.specs.Views.{element_in}
use Rattle.commit_journal.specs.Newborns.{Made}
use Rattle.commit_journal.proofs.NumberedLemmas.{length-numbered, slice_get-numbered}
use Rattle.commit_journal.proofs.newborns.Newborns.at.Goals as goal

pub overflow_add-result : goal.overflow_add-result
overflow_add-result c =
    let inside = c.self.inside in
    let here : c.args.place < length inside.classes.items = subst (λ n. c.args.place < n) (length-numbered inside.first inside.classes.items inside.values.lists c.self.invariant.0) (subst (λ (made : Made). c.args.place < length made.elements) (sym c.self.view_is) c.requires) in
    omega (arith, here, c.self.invariant.1)

pub index-requires : goal.index-requires
index-requires c =
    let inside = c.self.inside in
    let here : c.args.place < length inside.classes.items = subst (λ n. c.args.place < n) (length-numbered inside.first inside.classes.items inside.values.lists c.self.invariant.0) (subst (λ (made : Made). c.args.place < length made.elements) (sym c.self.view_is) c.requires) in
    search rules

pub at-requires : goal.at-requires
at-requires c =
    let inside = c.self.inside in
    let here : c.args.place < length inside.classes.items = subst (λ n. c.args.place < n) (length-numbered inside.first inside.classes.items inside.values.lists c.self.invariant.0) (subst (λ (made : Made). c.args.place < length made.elements) (sym c.self.view_is) c.requires) in
    omega (arith, here, c.self.invariant.0)

pub returns : goal.returns
returns c =
    let inside = c.self.inside in
    let here : c.args.place < length inside.classes.items = subst (λ n. c.args.place < n) (length-numbered inside.first inside.classes.items inside.values.lists c.self.invariant.0) (subst (λ (made : Made). c.args.place < length made.elements) (sym c.self.view_is) c.requires) in
    let class : slice_get inside.classes.items c.args.place ≡ Some c.index.result.now = slice_get_read inside.classes.items (length inside.classes.items) c.args.place c.index.result.now (search rules) here c.index.ensures in
    subst (λ (made : Made). slice_get made.elements c.args.place ≡ Some (element_in (record { tag = inside.first + c.args.place; class = c.index.result.now; values = c.at.result }))) c.self.view_is
    (slice_get-numbered inside.first inside.classes.items inside.values.lists c.args.place c.index.result.now c.at.result.now class c.at.ensures)
