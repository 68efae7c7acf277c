-- The walk tells the number of the link that it is at, and goes on to the next older one.
use Rattle.std.proofs.Common.{ap, sym, ◌∙◌, arith, length}
use Rattle.hash_buckets.specs.declared.links.Link.{Link}
use Rattle.hash_buckets.proofs.BucketLemmas.{step_at}
use Rattle.hash_buckets.proofs.buckets.BucketIterator.next.Goals as goal

-- what is read past the end
abbrev none : Link
none = record { hash = 0; number = 0; next = 0 }

pub bounds-self-inside-self-inside : goal.bounds-self-inside-self-inside
bounds-self-inside-self-inside c =
    let step = step_at c.self.inside.hash c.self.inside.at c.self.inside.links.now none c.self.invariant.0 c.self.invariant.1 c.if-self-eq0.false in
    omega (arith, step.within, c.if-self-eq0.false)

pub invariant_of-self : goal.invariant_of-self
invariant_of-self c =
    let step = step_at c.self.inside.hash c.self.inside.at c.self.inside.links.now none c.self.invariant.0 c.self.invariant.1 c.if-self-eq0.false in
    (c.self.invariant.0, step.goes_on)

pub returns-clause-steps : goal.returns-clause-steps
returns-clause-steps c =
    let step = step_at c.self.inside.hash c.self.inside.at c.self.inside.links.now none c.self.invariant.0 c.self.invariant.1 c.if-self-eq0.false in
    sym c.self.view_is ∙ step.number

pub returns-clause-goes : goal.returns-clause-goes
returns-clause-goes c =
    let step = step_at c.self.inside.hash c.self.inside.at c.self.inside.links.now none c.self.invariant.0 c.self.invariant.1 c.if-self-eq0.false in
    omega (arith, ap length (sym c.self.view_is ∙ step.number))
