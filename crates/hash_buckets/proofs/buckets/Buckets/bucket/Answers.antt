-- The walk begins at the newest link.
use Rattle.std.proofs.Common.{ℕ, Option, arith, length, reverse, ap, ◌∙◌}
use Rattle.std.specs.Option.{unwrap_or}
use Rattle.hash_buckets.specs.Buckets.{Buckets, numbers_of}
use Rattle.hash_buckets.specs.Links.{entries_of}
use Rattle.hash_buckets.proofs.BucketLemmas.{begun}
use Rattle.hash_buckets.proofs.LinkLemmas.{length-entries_of, length-numbers_of}
use Rattle.hash_buckets.proofs.buckets.Buckets.bucket.Goals as goal

pub invariant_of-result : goal.invariant_of-result
invariant_of-result c =
    let walk = (begun c.args.hash c.unwrap_or.result c.self.inside.links.items c.as_slice.result.now c.copied.result c.self.invariant.0 c.as_slice.ensures.value (ap (λ (found : Option ℕ). unwrap_or found 0) (c.copied.ensures ∙ c.get.ensures.value) ∙ c.self.invariant.1 c.args.hash) c.unwrap_or.ensures) in
    (walk.linked, walk.at)

pub returns-clause-numbers : goal.returns-clause-numbers
returns-clause-numbers c =
    let walk = (begun c.args.hash c.unwrap_or.result c.self.inside.links.items c.as_slice.result.now c.copied.result c.self.invariant.0 c.as_slice.ensures.value (ap (λ (found : Option ℕ). unwrap_or found 0) (c.copied.ensures ∙ c.get.ensures.value) ∙ c.self.invariant.1 c.args.hash) c.unwrap_or.ensures) in
    walk.whole ∙ ap (λ (b : Buckets). reverse (numbers_of b.entries c.args.hash)) c.self.view_is

pub returns-clause-few : goal.returns-clause-few
returns-clause-few c =
    let walk = (begun c.args.hash c.unwrap_or.result c.self.inside.links.items c.as_slice.result.now c.copied.result c.self.invariant.0 c.as_slice.ensures.value (ap (λ (found : Option ℕ). unwrap_or found 0) (c.copied.ensures ∙ c.get.ensures.value) ∙ c.self.invariant.1 c.args.hash) c.unwrap_or.ensures) in
    let links = c.self.inside.links.items in
    omega (arith, ap length walk.whole, length-numbers_of (entries_of links) c.args.hash, length-entries_of links, c.self.invariant.0.few)
