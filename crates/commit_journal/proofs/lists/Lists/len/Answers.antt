-- There are as many lists as ends.
use Rattle.std.proofs.Common.{◌≡◌, rules, sym, subst, ◌∙◌, length}
use Rattle.commit_journal.specs.Lists.{Kept}
use Rattle.commit_journal.proofs.CutLemmas.{length-cut_from}
use Rattle.commit_journal.proofs.lists.Lists.len.Goals as goal

pub returns : goal.returns
returns g c = subst (λ (kept : Kept _). c.len.result ≡ length kept.lists) c.self.view_is (let same : c.len.result ≡ length c.self.inside.ends.items = search rules in same ∙ sym (length-cut_from 0 c.self.inside.ends.items c.self.inside.items.items))
