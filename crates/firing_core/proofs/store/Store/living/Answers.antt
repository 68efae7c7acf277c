-- What lies at the place, where that is in working memory, and else nothing.
use Rattle.std.proofs.Common.{None, cond, ap, option_to_list, slice_get, ◌∙◌, sym}
use Rattle.firing_core.specs.Store.{Stored, came}
use Rattle.firing_core.proofs.StoredLemmas.{living_is}
use Rattle.rule_base.specs.Numbers.{has_number}
use Rattle.firing_core.proofs.store.Store.living.Goals as goal

pub returns-then-has : goal.returns-then-has
returns-then-has c =
    let s = c.args.self.now in
    let told = c.has.ensures ∙ ap (λ (s : Stored). has_number s.places c.args.place) c.self.view_is in
    ap option_to_list (c.at.ensures ∙ sym (ap (λ b. cond b (slice_get (came s.base s.entries) c.args.place) None) c.if-has.true)) ∙ living_is s c.args.place c.has.result told

pub returns-else-has : goal.returns-else-has
returns-else-has c =
    let s = c.args.self.now in
    let told = c.has.ensures ∙ ap (λ (s : Stored). has_number s.places c.args.place) c.self.view_is in
    ap option_to_list (sym (ap (λ b. cond b (slice_get (came s.base s.entries) c.args.place) None) c.if-has.false)) ∙ living_is s c.args.place c.has.result told
