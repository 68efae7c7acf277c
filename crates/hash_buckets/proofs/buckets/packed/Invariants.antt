-- What is filed so far is what lives among the links so far.
use Rattle.std.proofs.Common.{◌≡◌, length, take}
use Rattle.std.specs.List.{filter}
use Rattle.hash_buckets.specs.Links.{entries_of}
use Rattle.hash_buckets.proofs.buckets.packed.Given as goal

abbrev pub invariant-loop-link : goal.invariant-loop-link
invariant-loop-link g l = record {
  filed : l.buckets.entries ≡ filter (λ e. g.L.Living.lives l.living e.1) (entries_of (take l.link-index l.links));
  tight : l.buckets.links ≡ length l.buckets.entries;
}
