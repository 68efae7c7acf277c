-- The element comes, or there is none.
use Rattle.std.proofs.Common.{◌≡◌, ◌+◌, ◌<◌, OnOk, arith, subst, sym}
use Rattle.std.specs.List.{AllByRecursion}
use Rattle.std.proofs.lemmas.Result.{on_ok_weaker}
use Rattle.rule_base.specs.declared.element.Element.{Element}
use Rattle.rule_base.specs.Views.{element_in}
use Rattle.firing_workers.proofs.BornLemmas.{found_has}
use Rattle.firing_workers.proofs.FeedingLemmas.{AllBelow-later}
use Rattle.firing_workers.proofs.TakingLemmas.{arrived_none, arrived_some}
use Rattle.firing_workers.proofs.following.take_in_one.Goals as goal

pub take_in-requires : goal.take_in-requires
take_in-requires g c =
    let e : Element = element_in c.in-Some.element in
    let same : e.tag ≡ c.args.tag = found_has c.args.core.now.state.memory c.args.tag e (sym c.in-Some.ensures) in
    subst (λ t. AllByRecursion (λ (x : Element). x.tag < t) c.args.part.now.network.arrivals.came) (sym same) c.requires

pub returns-in-Some-clause-came : goal.returns-in-Some-clause-came
returns-in-Some-clause-came g c =
    let e : Element = element_in c.in-Some.element in
    let same : e.tag ≡ c.args.tag = found_has c.args.core.now.state.memory c.args.tag e (sym c.in-Some.ensures) in
    subst (λ t. OnOk c.take_in.result (AllByRecursion (λ (x : Element). x.tag < t + 1) c.take_in.new.part.network.arrivals.came)) same c.take_in.ensures.came

pub returns-in-Some-clause-follows : goal.returns-in-Some-clause-follows
returns-in-Some-clause-follows g c =
    let e : Element = element_in c.in-Some.element in
    let memory = c.args.core.now.state.memory in
    let same : e.tag ≡ c.args.tag = found_has memory c.args.tag e (sym c.in-Some.ensures) in
    on_ok_weaker c.take_in.result (λ told program s follows late. arrived_some program s memory c.args.tag e c.take_in.new.part (sym c.in-Some.ensures) same (told program s follows (omega (arith, late, same)))) c.take_in.ensures.follows

pub returns-in-None-clause-came : goal.returns-in-None-clause-came
returns-in-None-clause-came g c = AllBelow-later c.args.tag (c.args.tag + 1) c.args.part.now.network.arrivals.came (omega arith) c.requires

pub returns-in-None-clause-follows : goal.returns-in-None-clause-follows
returns-in-None-clause-follows g c program s follows late =
    arrived_none program s c.args.core.now.state.memory c.args.tag c.args.part.now (sym c.in-None.ensures) follows late
