-- The element is as far behind the first one as its tag.
use Rattle.std.proofs.Common.{◌≡◌, ◌+◌, ◌-◌, ◌<◌, ◌≤◌, ◌∙◌, None, Some, ap, arith, length, rules, slice_get, subst, sym}
use Rattle.rule_base.specs.declared.element.Element.{Element}
use Rattle.rule_base.specs.Memory.{element_at}
use Rattle.rule_base.specs.Views.{element_in}
use Rattle.commit_journal.specs.Newborns.{Made, numbered}
use Rattle.commit_journal.proofs.NumberedLemmas.{element_at-before, element_at-behind, element_at-numbered, length-numbered}
use Rattle.commit_journal.proofs.newborns.Newborns.with_tag.Goals as goal

pub returns-then-tag-self : goal.returns-then-tag-self
returns-then-tag-self c =
    let inside = c.self.inside in
    subst (λ (made : Made). None ≡ element_at made.elements c.args.tag) c.self.view_is (sym (element_at-before inside.first inside.classes.items inside.values.lists c.args.tag c.if-tag-self.true))

pub at-requires : goal.at-requires
at-requires c =
    let inside = c.self.inside in
    let here : c.args.tag - inside.first < length inside.classes.items = search rules in
    subst (λ (made : Made). c.args.tag - inside.first < length made.elements) c.self.view_is (subst (λ n. c.args.tag - inside.first < n) (sym (length-numbered inside.first inside.classes.items inside.values.lists c.self.invariant.0)) here)

pub returns-then-place-len : goal.returns-then-place-len
returns-then-place-len c =
    let inside = c.self.inside in
    let place = c.args.tag - inside.first in
    let e : Element = element_in c.at.result in
    let tag : inside.first + place ≡ c.args.tag = omega (arith, c.if-tag-self.false) in
    let is = subst (λ (made : Made). slice_get made.elements place ≡ Some e) (sym c.self.view_is) c.at.ensures in
    subst (λ (made : Made). Some e ≡ element_at made.elements c.args.tag) c.self.view_is
    (sym (element_at-numbered inside.first inside.classes.items inside.values.lists place e is) ∙ ap (λ t. element_at (numbered inside.first inside.classes.items inside.values.lists) t) tag)

pub returns-else-place-len : goal.returns-else-place-len
returns-else-place-len c =
    let inside = c.self.inside in
    let past : length inside.classes.items ≤ c.args.tag - inside.first = search rules in
    subst (λ (made : Made). None ≡ element_at made.elements c.args.tag) c.self.view_is (sym (element_at-behind inside.first inside.classes.items inside.values.lists c.args.tag (omega (arith, past, c.if-tag-self.false))))
