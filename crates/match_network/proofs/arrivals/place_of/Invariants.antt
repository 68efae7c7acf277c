-- The tag is neither before nor after what is left, of which a place is looked at.
use Rattle.std.proofs.Common.{◌-◌}
use Rattle.match_network.proofs.TagLemmas.{IsLeft}
use Rattle.match_network.proofs.arrivals.place_of.Given as goal

abbrev pub invariant-loop-low : goal.invariant-loop-low
invariant-loop-low l = IsLeft l.elements l.tag l.low l.high l.middle

abbrev pub decreases-loop-low : goal.decreases-loop-low
decreases-loop-low l = l.high - l.low
