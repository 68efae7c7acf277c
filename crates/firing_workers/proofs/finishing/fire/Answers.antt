-- A firing is followed: the full match is marked, and the changes are taken in.
use Rattle.std.proofs.Common.{◌≡◌, ◌<◌, ℕ, arith, subst, sym}
use Rattle.std.proofs.lemmas.Result.{on_ok_weaker}
use Rattle.std.specs.List.{AllByRecursion}
use Rattle.rule_base.specs.declared.element.Element.{Element}
use Rattle.match_network.specs.Network.{Network}
use Rattle.firing_workers.proofs.FireLemmas.{next_is_later, settled_is_followed}
use Rattle.firing_workers.proofs.finishing.fire.Goals as goal

pub mark-requires : goal.mark-requires
mark-requires g c =
    let candidate = c.requires.may.of.candidate in
    (candidate.row, candidate.lives)

pub settle-requires-clause-came : goal.settle-requires-clause-came
settle-requires-clause-came g c =
    let of : (next : ℕ) → next ≡ c.args.core.now.state.next → AllByRecursion (λ (e : Element). e.tag < next) c.mark.new.self.network.arrivals.came =
    λ next is.
    subst (λ (n : Network). AllByRecursion (λ (e : Element). e.tag < next) n.arrivals.came) (sym c.mark.ensures.network)
    (subst (λ next. AllByRecursion (λ (e : Element). e.tag < next) c.args.part.now.network.arrivals.came) (sym is) c.requires.follows.came) in
    of c.next-from.result c.next-from.ensures

pub settle-requires-clause-from : goal.settle-requires-clause-from
settle-requires-clause-from g c =
    let k = c.args.core.now in
    let prepared = c.args.prepared.now in
    omega (arith, c.next-from.ensures, next_is_later k c.fire.new.self c.args.part.now prepared.choice prepared.bench.effect c.args.id c.requires.may c.in_ok-fire.ensures.fires)

pub returns-clause-fires : goal.returns-clause-fires
returns-clause-fires g c = on_ok_weaker c.settle.result (λ _. c.in_ok-fire.ensures.fires) c.settle.ensures

pub returns-clause-follows : goal.returns-clause-follows
returns-clause-follows g c =
    let k = c.args.core.now in
    let prepared = c.args.prepared.now in
    let marks = c.mark.ensures in
    on_ok_weaker c.settle.result
    (settled_is_followed k c.fire.new.self prepared.choice prepared.bench.effect c.args.id c.next-from.result c.args.part.now c.mark.new.self c.settle.new.part
    c.next-from.ensures c.requires.may c.requires.follows c.in_ok-fire.ensures.fires marks.network marks.refraction marks.marks)
    c.settle.ensures
