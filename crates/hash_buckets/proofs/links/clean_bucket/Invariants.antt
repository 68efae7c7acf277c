-- The walk has cleaned the links from where it is on.
use Rattle.hash_buckets.proofs.CleanLemmas.{IsCleaning}
use Rattle.hash_buckets.proofs.links.clean_bucket.Given as goal

abbrev pub invariant-loop-at : goal.invariant-loop-at
invariant-loop-at g l = IsCleaning l.hash (g.L.Living.lives l.living) l.fn.links l.links l.first l.kept l.at

abbrev pub decreases-loop-at : goal.decreases-loop-at
decreases-loop-at g l = l.at
