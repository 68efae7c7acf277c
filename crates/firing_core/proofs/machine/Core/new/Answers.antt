-- The fields are those of a core at its base.
use Rattle.std.proofs.Common.{◌≡◌, ◌∙◌, List, [], None, false, ap, rules, sym, subst, refl}
use Rattle.std.specs.List.{AllByRecursion}
use Rattle.rule_base.specs.declared.entry.Entry.{Entry}
use Rattle.rule_base.specs.Fits.{Fits}
use Rattle.rule_base.specs.Memory.{HasSize}
use Rattle.rule_base.specs.Sound.{sizes_of}
use Rattle.rule_base.specs.State.{start}
use Rattle.commit_journal.specs.Entries.{born_in}
use Rattle.commit_journal.specs.ProgramRoom.{room_of}
use Rattle.interference.specs.Splits.{splits_of}
use Rattle.standing_claims.specs.declared.claim.Claim.{Claim}
use Rattle.standing_claims.specs.Standing.{Standing}
use Rattle.refraction_index.specs.Firings.{Tells}
use Rattle.firing_core.specs.declared.machine.Core.TheInside.{Inside}
use Rattle.firing_core.specs.CoreFields.{core_in}
use Rattle.firing_core.specs.CoreState.{CoreState}
use Rattle.firing_core.specs.Kept.{IsKept}
use Rattle.firing_core.proofs.FieldLemmas.{IsIndexOf-start, core_in-start, footprints-start}
use Rattle.firing_core.proofs.KeptLemmas.{no_room}
use Rattle.firing_core.proofs.LawfulLemmas.{IsKept-start}
use Rattle.firing_core.proofs.machine.Core.new.Goals as goal

pub invariant_of-result : goal.invariant_of-result
invariant_of-result c =
    let base = c.args.base in
    let inside : Inside = record { program = c.args.program; budget = c.args.budget; store = c.in_ok-store.store; halted = false; fault = None; claims = c.new-6.result; most = c.in_ok-most.most; splits = c.in_ok-splits.splits; index = c.in_ok-index.index; grouped = c.in_ok-grouped.grouped; binds = c.in_ok-binds.binds } in
    let made = c.in_ok-store.ensures in
    let begins : core_in inside ≡ record { program = c.args.program.value; base = base; budget = c.args.budget; state = start base; claims = []; given = 0; fault = None } = core_in-start inside base made.base made.memory made.next made.entries refl c.new-6.ensures refl in
    record {
      kept = subst IsKept (sym begins) (IsKept-start c.args.program.value base c.args.budget c.requires.sound c.requires.lawful c.requires.budget);
      index = IsIndexOf-start base inside.store.base inside.store.entries inside.index made.base c.in_ok-index.ensures.seen (subst (λ before. Tells before [] inside.index) (search rules) c.in_ok-index.ensures.tells);
      grouped = c.in_ok-grouped.ensures.grouping inside.store;
      splits = c.in_ok-splits.ensures ∙ ap splits_of c.deref.ensures;
      fitting = subst (AllByRecursion (λ (claim : Claim). Fits c.args.program.value claim.candidate)) (sym (ap (λ (s : Standing). s.claims) c.new-6.ensures)) tt;
      most = c.in_ok-most.ensures ∙ ap room_of c.deref-2.ensures;
      room = (no_room c.new-6.result.claims c.in_ok-most.most inside.store.room inside.store.spare (ap (λ (s : Standing). s.claims) c.new-6.ensures)).0;
      spare = (no_room c.new-6.result.claims c.in_ok-most.most inside.store.room inside.store.spare (ap (λ (s : Standing). s.claims) c.new-6.ensures)).1;
      footprints = footprints-start inside c.new-6.ensures;
      born = subst (λ (es : List Entry). AllByRecursion (HasSize (sizes_of c.args.program.value.classes)) (born_in es)) (sym made.entries) tt;
    }

pub returns-clause-begins : goal.returns-clause-begins
returns-clause-begins c =
    let inside : Inside = record { program = c.args.program; budget = c.args.budget; store = c.in_ok-store.store; halted = false; fault = None; claims = c.new-6.result; most = c.in_ok-most.most; splits = c.in_ok-splits.splits; index = c.in_ok-index.index; grouped = c.in_ok-grouped.grouped; binds = c.in_ok-binds.binds } in
    let made = c.in_ok-store.ensures in
    ap (λ (k : CoreState). k.state) (core_in-start inside c.args.base made.base made.memory made.next made.entries refl c.new-6.ensures refl)
