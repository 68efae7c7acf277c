-- No more is filed than there are links.
use Rattle.std.proofs.Common.{length, ap, arith}
use Rattle.hash_buckets.specs.Buckets.{Buckets}
use Rattle.hash_buckets.proofs.LinkLemmas.{length-entries_of}
use Rattle.hash_buckets.proofs.buckets.Buckets.len.Goals as goal

pub returns-clause-enough : goal.returns-clause-enough
returns-clause-enough c =
    let fewer = length-entries_of c.self.inside.links.items in
    let same = ap (λ (b : Buckets). length b.entries) c.self.view_is in
    omega (arith, fewer, same, c.len.ensures, c.self.inside.links.ok.0)
