-- The element is behind the others.
use Rattle.std.proofs.Common.{◌≡◌, ◌+◌, [], ◌∷◌, ◌++◌, ◌∙◌, ap, length, subst, sym}
use Rattle.rule_base.specs.Views.{element_in}
use Rattle.commit_journal.specs.Newborns.{Made, numbered}
use Rattle.commit_journal.proofs.NumberedLemmas.{element, numbered-push}
use Rattle.commit_journal.proofs.newborns.Newborns.push.Goals as goal

pub returns-clause-elements : goal.returns-clause-elements
returns-clause-elements c =
    let inside = c.self.inside in
    let first = inside.first in
    let class = c.args.element.class in
    let values = c.args.element.values.now in
    let elements = numbered first inside.classes.items inside.values.lists in
    let tag : first + length inside.classes.items ≡ c.args.element.tag = subst (λ (made : Made). made.next ≡ c.args.element.tag) (sym c.self.view_is) (sym c.requires.tag) in
    subst (λ (made : Made). numbered first c.push_reserved.new.self.items c.push.new.self.lists ≡ made.elements ++ element_in c.args.element ∷ []) c.self.view_is
    (ap (λ classes. numbered first classes c.push.new.self.lists) c.push_reserved.ensures.items
    ∙ ap (numbered first (inside.classes.items ++ class ∷ [])) c.push.ensures.lists
    ∙ numbered-push first inside.classes.items inside.values.lists class values c.self.invariant.0
    ∙ ap (λ t. elements ++ element t class values ∷ []) tag)
