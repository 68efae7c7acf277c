-- Something that an entry gave birth to is accepted; or the entry is passed over.
use Rattle.std.proofs.Common.{◌≡◌, true, false, sym, ◌∙◌, subst}
use Rattle.rule_base.specs.Match.{accepts_some}
use Rattle.commit_journal.specs.EntryViews.{born_of}
use Rattle.firing_core.specs.Matching.{MayFilter}
use Rattle.firing_core.proofs.BornLemmas.{MayFilter-entry, MayFilter-later, accepts_some-entry, accepts_some-later}
use Rattle.firing_core.proofs.fired.accepts_born.Goals as goal

pub accepts_born_of-requires : goal.accepts_born_of-requires
accepts_born_of-requires c =
    let may = MayFilter-entry c.args.cond.now c.args.binds.now c.args.journal.now.entries c.loop-place.place c.entry.result c.entry.ensures c.loop-place.invariant.may in
    subst (MayFilter c.args.cond.now (born_of c.entry.result)) (sym c.loop-place.invariant.kept) may

pub returns-then-accepts_born_of-clause-found : goal.returns-then-accepts_born_of-clause-found
returns-then-accepts_born_of-clause-found c =
    let accepted = subst (λ b. true ≡ accepts_some c.args.cond.now b (born_of c.entry.result)) c.loop-place.invariant.kept c.if-accepts_born_of.ensures.found in
    sym (c.loop-place.invariant.left ∙ accepts_some-entry c.args.cond.now c.args.binds.now c.args.journal.now.entries c.loop-place.place c.entry.result c.entry.ensures (sym accepted))

pub loop-place-preserved : goal.loop-place-preserved
loop-place-preserved c =
    let refused = subst (λ b. false ≡ accepts_some c.args.cond.now b (born_of c.entry.result)) c.loop-place.invariant.kept c.if-accepts_born_of.ensures.found in
    record {
      left = c.loop-place.invariant.left ∙ accepts_some-later c.args.cond.now c.args.binds.now c.args.journal.now.entries c.loop-place.place c.entry.result c.entry.ensures (sym refused);
      may = MayFilter-later c.args.cond.now c.args.binds.now c.args.journal.now.entries c.loop-place.place c.entry.result c.entry.ensures c.loop-place.invariant.may;
      kept = c.if-accepts_born_of.ensures.kept ∙ c.loop-place.invariant.kept;
    }
