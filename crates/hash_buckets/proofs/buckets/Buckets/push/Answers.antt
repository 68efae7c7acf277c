-- The new link leads to the one that was the newest of its hash.
use Rattle.std.proofs.Common.{◌+◌, ◌++◌, ◌∷◌, [], ap, ◌∙◌, arith}
use Rattle.hash_buckets.specs.Buckets.{Buckets}
use Rattle.hash_buckets.proofs.LinkLemmas.{pushed}
use Rattle.hash_buckets.proofs.buckets.Buckets.push.Goals as goal

pub invariant_of-self-2 : goal.invariant_of-self-2
invariant_of-self-2 c =
    let all = (pushed c.self.inside.newest.entries c.insert.new.self.entries c.self.inside.links.items c.reserve.new.self.items c.push_reserved.new.self.items c.args.hash c.args.number c.unwrap_or.result c.len-place.result c.in_ok-older.older c.self.invariant (omega (arith, c.len-place.ensures, c.self.inside.links.ok.0)) (omega (arith, c.if-place.false)) c.reserve.ensures.items c.in_ok-older.ensures.old c.in_ok-older.ensures.updates.0 c.unwrap_or.ensures c.push_reserved.ensures.items) in
    (all.linked, all.knows)

pub returns-clause-ok : goal.returns-clause-ok
returns-clause-ok c =
    let all = (pushed c.self.inside.newest.entries c.insert.new.self.entries c.self.inside.links.items c.reserve.new.self.items c.push_reserved.new.self.items c.args.hash c.args.number c.unwrap_or.result c.len-place.result c.in_ok-older.older c.self.invariant (omega (arith, c.len-place.ensures, c.self.inside.links.ok.0)) (omega (arith, c.if-place.false)) c.reserve.ensures.items c.in_ok-older.ensures.old c.in_ok-older.ensures.updates.0 c.unwrap_or.ensures c.push_reserved.ensures.items) in
    all.entries ∙ ap (λ (b : Buckets). b.entries ++ (c.args.hash, c.args.number) ∷ []) c.self.view_is

pub returns-clause-links : goal.returns-clause-links
returns-clause-links c =
    let all = (pushed c.self.inside.newest.entries c.insert.new.self.entries c.self.inside.links.items c.reserve.new.self.items c.push_reserved.new.self.items c.args.hash c.args.number c.unwrap_or.result c.len-place.result c.in_ok-older.older c.self.invariant (omega (arith, c.len-place.ensures, c.self.inside.links.ok.0)) (omega (arith, c.if-place.false)) c.reserve.ensures.items c.in_ok-older.ensures.old c.in_ok-older.ensures.updates.0 c.unwrap_or.ensures c.push_reserved.ensures.items) in
    all.long ∙ ap (λ (b : Buckets). b.links + 1) c.self.view_is
