-- The index tells of one entry more.
use Rattle.std.proofs.Common.{◌+◌, List, arith, refl, take}
use Rattle.rule_base.specs.declared.instantiation.Choice.{Choice}
use Rattle.commit_journal.specs.EntryViews.{entry_in}
use Rattle.refraction_index.specs.Firings.{Index, Tells}
use Rattle.refraction_index.proofs.FiringLemmas.{tells-next}
use Rattle.refraction_index.proofs.index.RefractionIndex.take_in.Goals as goal

pub loop-place-preserved : goal.loop-place-preserved
loop-place-preserved c =
    let place = c.loop-place.place in
    let entries = c.args.journal.now.entries in
    let inside = c.loop-place.self-inside in
    let index : Index = record { seen = inside.seen; numbers = inside.numbers } in
    let after : Index = record { seen = place + 1; numbers = c.set.new.self } in
    record {
      reached = refl;
      kept = omega (arith, c.loop-place.invariant.kept);
      tells = λ (before : List Choice) (told : Tells before (take c.args.self.now.seen entries) c.args.self.now).
          tells-next before entries place (entry_in c.entry-entry.result) index after c.entry-entry.ensures (c.loop-place.invariant.tells before told) c.in_ok-set.ensures.ok;
    }
