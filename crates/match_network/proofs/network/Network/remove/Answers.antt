-- What is kept stays right.
use Rattle.match_network.proofs.SetLemmas.{IsNetwork-without}
use Rattle.match_network.proofs.network.Network.remove.Goals as goal

pub invariant_of-self : goal.invariant_of-self
invariant_of-self c =
    let inside = c.self.inside in
    (IsNetwork-without inside.arrivals c.remove.new.self c.args.tag inside.set.alpha inside.set.rules.items inside.set.askers.items inside.set.negated_askers.items c.remove.ensures.left c.self.invariant.0, c.self.invariant.1)
