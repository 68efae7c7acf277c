-- The items of all lists are all items.
use Rattle.std.proofs.Common.{◌≡◌, List, sym, subst, ◌∙◌}
use Rattle.std.specs.List.{flat_map}
use Rattle.commit_journal.specs.Lists.{Kept}
use Rattle.commit_journal.proofs.CutLemmas.{flat_map-cut}
use Rattle.commit_journal.proofs.lists.Lists.items.Goals as goal

pub returns : goal.returns
returns g c =
    subst (λ (kept : Kept _). c.as_slice.result.now ≡ flat_map (λ (list : List _). list) kept.lists) c.self.view_is
    (c.as_slice.ensures.value ∙ sym (flat_map-cut c.self.inside.ends.items c.self.inside.items.items c.self.invariant.0))
