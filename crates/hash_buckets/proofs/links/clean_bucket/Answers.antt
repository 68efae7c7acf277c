-- Each link of the bucket is kept or cut out.
use Rattle.std.proofs.Common.{◌∙◌, sym, arith}
use Rattle.hash_buckets.specs.declared.links.Link.{Link}
use Rattle.hash_buckets.proofs.CleanLemmas.{cleaned_entries, cleaned_others, cleaning_begins, cleaning_cuts_at, cleaning_done, cleaning_keeps_at, cleaning_within}
use Rattle.hash_buckets.proofs.links.clean_bucket.Goals as goal

-- what is read past the end
abbrev none : Link
none = record { hash = 0; number = 0; next = 0 }

pub loop-at-init : goal.loop-at-init
loop-at-init g c = cleaning_begins c.args.hash (g.L.Living.lives c.args.living.now) c.args.links.now c.args.head c.requires.linked c.requires.head

pub bounds-links-at : goal.bounds-links-at
bounds-links-at g c =
    let within = cleaning_within c.args.hash (g.L.Living.lives c.args.living.now) c.args.links.now c.loop-at.links c.loop-at.first c.loop-at.kept c.loop-at.at none c.loop-at.invariant c.loop-at-test.true in
    omega (arith, within.at_fits, c.loop-at-test.true)

pub unlink-first-requires-clause-within : goal.unlink-first-requires-clause-within
unlink-first-requires-clause-within g c =
    (cleaning_within c.args.hash (g.L.Living.lives c.args.living.now) c.args.links.now c.loop-at.links c.loop-at.first c.loop-at.kept c.loop-at.at none c.loop-at.invariant c.loop-at-test.true).at_fits

pub unlink-first-requires-clause-kept : goal.unlink-first-requires-clause-kept
unlink-first-requires-clause-kept g c =
    (cleaning_within c.args.hash (g.L.Living.lives c.args.living.now) c.args.links.now c.loop-at.links c.loop-at.first c.loop-at.kept c.loop-at.at none c.loop-at.invariant c.loop-at-test.true).kept_fits

pub loop-at-smaller-then-is_living : goal.loop-at-smaller-then-is_living
loop-at-smaller-then-is_living g c =
    (cleaning_within c.args.hash (g.L.Living.lives c.args.living.now) c.args.links.now c.loop-at.links c.loop-at.first c.loop-at.kept c.loop-at.at none c.loop-at.invariant c.loop-at-test.true).lower

pub loop-at-preserved-then-is_living : goal.loop-at-preserved-then-is_living
loop-at-preserved-then-is_living g c =
    cleaning_keeps_at c.args.hash (g.L.Living.lives c.args.living.now) c.args.links.now c.loop-at.links c.loop-at.first c.loop-at.kept c.loop-at.at none c.loop-at.invariant c.loop-at-test.true (sym c.is_living.ensures ∙ c.if-is_living.true)

pub loop-at-smaller : goal.loop-at-smaller
loop-at-smaller g c =
    (cleaning_within c.args.hash (g.L.Living.lives c.args.living.now) c.args.links.now c.loop-at.links c.loop-at.first c.loop-at.kept c.loop-at.at none c.loop-at.invariant c.loop-at-test.true).lower

pub loop-at-preserved : goal.loop-at-preserved
loop-at-preserved g c =
    rw c.unlink-first.ensures.first
    (cleaning_cuts_at c.args.hash (g.L.Living.lives c.args.living.now) c.args.links.now c.loop-at.links c.unlink-first.new.links c.loop-at.first c.loop-at.kept c.loop-at.at none c.loop-at.invariant c.loop-at-test.true (sym c.is_living.ensures ∙ c.if-is_living.false) c.unlink-first.ensures.links)

pub returns-clause-entries : goal.returns-clause-entries
returns-clause-entries g c =
    cleaned_entries c.args.hash (g.L.Living.lives c.args.living.now) c.args.links.now c.loop-at.links
    (cleaning_done c.args.hash (g.L.Living.lives c.args.living.now) c.args.links.now c.loop-at.links c.loop-at.first c.loop-at.kept c.loop-at.at c.loop-at.invariant c.loop-at-test.false)

pub returns-clause-others : goal.returns-clause-others
returns-clause-others g c =
    cleaned_others c.args.hash (g.L.Living.lives c.args.living.now) c.args.links.now c.loop-at.links
    (cleaning_done c.args.hash (g.L.Living.lives c.args.living.now) c.args.links.now c.loop-at.links c.loop-at.first c.loop-at.kept c.loop-at.at c.loop-at.invariant c.loop-at-test.false)
