-- Nothing is left.
use Rattle.std.proofs.Common.{Some, None, reverse, ap, ◌∙◌}
use Rattle.hash_buckets.specs.Buckets.{numbers_of}
use Rattle.rule_base.specs.Views.{element_in}
use Rattle.alpha_memory.specs.Dispatch.{found_at}
use Rattle.alpha_memory.proofs.FoundLemmas.{walked}
use Rattle.alpha_memory.proofs.filing.find_all.Goals as goal

pub returns : goal.returns
returns c =
    let stores = c.args.stores.now in
    let numbers = c.args.numbers.now.entries in
    let attributes = c.args.attributes.now.entries in
    let e = element_in c.args.element in
    walked (λ a. found_at stores numbers e (Some a)) c.args.passed.now.items (found_at stores numbers e None) c.find_at.new.passed.items c.loop-attribute.passed.items c.loop-attribute.attribute-iterator c.into_iter-attribute-iterator.result c.bucket-attribute-items.result (reverse (numbers_of attributes e.class))
    c.in_ok-find_at.ensures c.loop-attribute.invariant.rest c.in-None.ensures.steps.0 c.into_iter-attribute-iterator.ensures.into_iter_gives
    (c.bucket-attribute-items.ensures.numbers ∙ ap (λ class. reverse (numbers_of attributes class)) c.from.ensures)
