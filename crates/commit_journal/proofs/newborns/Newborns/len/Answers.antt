-- There are as many elements as classes.
use Rattle.std.proofs.Common.{◌≡◌, length, rules, sym, subst, ◌∙◌}
use Rattle.commit_journal.specs.Newborns.{Made}
use Rattle.commit_journal.proofs.NumberedLemmas.{length-numbered}
use Rattle.commit_journal.proofs.newborns.Newborns.len.Goals as goal

pub returns : goal.returns
returns c =
    let inside = c.self.inside in
    let same : c.len.result ≡ length inside.classes.items = search rules in
    subst (λ (made : Made). c.len.result ≡ length made.elements) c.self.view_is (same ∙ sym (length-numbered inside.first inside.classes.items inside.values.lists c.self.invariant.0))
