-- The attribute is there, or comes once.
use Rattle.std.proofs.Common.{◌∙◌, ap, sym, [], ◌∷◌, ◌++◌}
use Rattle.std.proofs.lemmas.Result.{on_ok_weaker}
use Rattle.alpha_memory.specs.Dispatch.{how_often}
use Rattle.alpha_memory.proofs.ListingLemmas.{found-how_often, found-none, found-some, listed_before, listed_now}
use Rattle.alpha_memory.proofs.dispatch.list_attribute.Goals as goal

pub returns-then-is_among-clause-ok : goal.returns-then-is_among-clause-ok
returns-then-is_among-clause-ok c = λ class a.
    let entries = c.args.attributes.now.entries in
    let is = found-how_often entries c.args.class c.from-class.result c.args.attribute c.bucket.result c.is_among.result c.from-class.ensures c.bucket.ensures.numbers c.is_among.ensures in
    listed_before entries c.args.class c.args.attribute class a (found-some entries c.args.class c.args.attribute (sym is ∙ c.if-is_among.true))

pub returns-clause-ok : goal.returns-clause-ok
returns-clause-ok c =
    let entries = c.args.attributes.now.entries in
    let is = found-how_often entries c.args.class c.from-class.result c.args.attribute c.bucket.result c.is_among.result c.from-class.ensures c.bucket.ensures.numbers c.is_among.ensures in
    let none = found-none entries c.args.class c.args.attribute (sym is ∙ c.if-is_among.false) in
    on_ok_weaker c.push.result
    (λ pushed class a.
    ap (λ es. how_often es class a) (pushed ∙ ap (λ n. entries ++ (n, c.args.attribute) ∷ []) c.from-class.ensures)
    ∙ listed_now entries c.args.class c.args.attribute class a none)
    c.push.ensures.ok
