-- One condition element more.
use Rattle.std.proofs.Common.{◌<◌, List, arith, get_or, length, subst, sym, take}
use Rattle.std.proofs.lemmas.List.{get_or_default, take_more}
use Rattle.std.proofs.lemmas.List.Sums.{sum_by-take-le, sum_by_more, sum_by_more_le}
use Rattle.rule_base.proofs.EachLemmas.{Each-slice_get}
use Rattle.match_network.specs.declared.askers.Asker.{Asker}
use Rattle.match_network.specs.Rules.{AreWovenIn, IsDue}
use Rattle.match_network.specs.Tried.{due_tried}
use Rattle.match_network.proofs.ComeLemmas.{slice_get-here, some_at}
use Rattle.match_network.proofs.DueLemmas.{due_now, kept_now, not_before, stopped_at, woven_more}
use Rattle.match_network.proofs.DueWorkLemmas.{due_same}
use Rattle.match_network.proofs.GivenLemmas.{within-is}
use Rattle.match_network.proofs.TouchedLemmas.{touched_more, touched_none}
use Rattle.match_network.proofs.due.weave_all.Goals as goal

abbrev none : Asker
none = record { rule = 0; condition = 0 }

pub weave_counted-requires-clause-due : goal.weave_counted-requires-clause-due
weave_counted-requires-clause-due g c =
    let a = c.args.arrivals.now in
    let l = c.loop-number in
    let due = c.args.due.now in
    let asker = get_or due l.number none in
    let lt : l.number < length due = omega (arith, c.loop-number-test.true) in
    let at = Each-slice_get (IsDue a.came c.args.place c.args.rules.now) due l.number asker c.requires.due (slice_get-here due l.number asker lt (get_or_default due l.number none asker lt)) in
    let within : asker.rule < length l.rules = omega (arith, within-is c.args.rules.now asker.rule at.rule at.rule_is, l.invariant.woven.count) in
    let this = some_at l.rules asker.rule within in
    due_now a.came a.places c.args.place l.alpha (take l.number due) asker c.args.rules.now l.rules l.invariant.woven at this.item this.is

pub weave_counted-requires-clause-kept : goal.weave_counted-requires-clause-kept
weave_counted-requires-clause-kept g c rule there =
    let a = c.args.arrivals.now in
    let l = c.loop-number in
    let due = c.args.due.now in
    let asker = get_or due l.number none in
    let lt : l.number < length due = omega (arith, c.loop-number-test.true) in
    let at = Each-slice_get (IsDue a.came c.args.place c.args.rules.now) due l.number asker c.requires.due (slice_get-here due l.number asker lt (get_or_default due l.number none asker lt)) in
    kept_now a.came a.places c.args.place l.alpha (take l.number due) asker c.args.rules.now l.rules l.invariant.woven at rule there

pub returns-in_err-weave_counted-clause-stopped : goal.returns-in_err-weave_counted-clause-stopped
returns-in_err-weave_counted-clause-stopped g c =
    let a = c.args.arrivals.now in
    let l = c.loop-number in
    stopped_at a.came a.places c.args.place l.alpha c.weave_counted.new.alpha (take l.number c.args.due.now) (get_or c.args.due.now l.number none).rule c.args.rules.now l.rules c.weave_counted.new.rules c.in_err-weave_counted.ensures.step l.invariant.woven

pub returns-in_err-weave_counted-clause-touched : goal.returns-in_err-weave_counted-clause-touched
returns-in_err-weave_counted-clause-touched g c =
    let a = c.args.arrivals.now in
    let l = c.loop-number in
    let due = c.args.due.now in
    let asker = get_or due l.number none in
    let lt : l.number < length due = omega (arith, c.loop-number-test.true) in
    touched_more a.came a.places c.args.place c.args.alpha.now l.alpha c.weave_counted.new.alpha due l.number asker c.args.rules.now l.rules c.weave_counted.new.rules
    (slice_get-here due l.number asker lt (get_or_default due l.number none asker lt)) c.in_err-weave_counted.ensures.step l.invariant.touched

pub returns-in_err-weave_counted-clause-held : goal.returns-in_err-weave_counted-clause-held
returns-in_err-weave_counted-clause-held g c was = c.in_err-weave_counted.ensures.held (c.loop-number.invariant.held was)

pub returns-in_err-weave_counted-clause-steps : goal.returns-in_err-weave_counted-clause-steps
returns-in_err-weave_counted-clause-steps g c =
    let a = c.args.arrivals.now in
    let l = c.loop-number in
    let due = c.args.due.now in
    let asker = get_or due l.number none in
    let lt : l.number < length due = omega (arith, c.loop-number-test.true) in
    let at = Each-slice_get (IsDue a.came c.args.place c.args.rules.now) due l.number asker c.requires.due (slice_get-here due l.number asker lt (get_or_default due l.number none asker lt)) in
    omega (
      arith,
      l.invariant.steps,
      c.in_err-weave_counted.ensures.steps,
      due_same a.came a.places c.args.place l.alpha (take l.number due) asker c.args.rules.now l.rules l.invariant.woven at,
      sum_by_more_le (due_tried c.args.rules.now a.came a.places c.args.place) due l.number none lt,
    )

pub loop-number-init : goal.loop-number-init
loop-number-init g c = record {
  woven = c.requires.start;
  touched = touched_none c.args.arrivals.now.places c.args.due.now c.args.alpha.now c.args.rules.now;
  steps = omega (arith);
  held = λ was. was;
}

pub loop-number-preserved : goal.loop-number-preserved
loop-number-preserved g c =
    let a = c.args.arrivals.now in
    let l = c.loop-number in
    let due = c.args.due.now in
    let asker = get_or due l.number none in
    let lt : l.number < length due = omega (arith, c.loop-number-test.true) in
    let here = slice_get-here due l.number asker lt (get_or_default due l.number none asker lt) in
    let fresh = not_before due l.number asker lt (get_or_default due l.number none asker lt) (c.requires.once asker.rule asker.condition) in
    let at = Each-slice_get (IsDue a.came c.args.place c.args.rules.now) due l.number asker c.requires.due here in
    record {
      woven = subst (λ (done : List Asker). AreWovenIn a.came a.places c.args.place c.weave_counted.new.alpha done c.args.rules.now c.weave_counted.new.rules) (sym (take_more due l.number none lt))
          (woven_more a.came a.places c.args.place l.alpha c.weave_counted.new.alpha (take l.number due) asker c.args.rules.now l.rules c.weave_counted.new.rules
          c.requires.rising c.requires.below c.requires.place fresh c.in_ok-weave_counted.ensures.step c.in_ok-weave_counted.ensures.ok l.invariant.woven);
      touched = touched_more a.came a.places c.args.place c.args.alpha.now l.alpha c.weave_counted.new.alpha due l.number asker c.args.rules.now l.rules c.weave_counted.new.rules
          here c.in_ok-weave_counted.ensures.step l.invariant.touched;
      held = λ was. c.in_ok-weave_counted.ensures.held (l.invariant.held was);
      steps = omega (
        arith,
        l.invariant.steps,
        c.in_ok-weave_counted.ensures.steps,
        due_same a.came a.places c.args.place l.alpha (take l.number due) asker c.args.rules.now l.rules l.invariant.woven at,
        sum_by_more (due_tried c.args.rules.now a.came a.places c.args.place) due l.number none lt,
      );
    }

pub returns-clause-steps : goal.returns-clause-steps
returns-clause-steps g c =
    let a = c.args.arrivals.now in
    let l = c.loop-number in
    omega (arith, l.invariant.steps, sum_by-take-le (due_tried c.args.rules.now a.came a.places c.args.place) c.args.due.now l.number)
