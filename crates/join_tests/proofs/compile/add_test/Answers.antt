-- The attribute and the part, besides.
use Rattle.std.proofs.Common.{◌≡◌, List, ◌&&◌, length, nat_lt, ap, ◌∙◌}
use Rattle.std.proofs.lemmas.Result.{on_ok_weaker}
use Rattle.rule_base.specs.declared.element.Element.{Element}
use Rattle.join_tests.specs.Joining.{joins}
use Rattle.join_tests.specs.Compiling.{attribute_of}
use Rattle.join_tests.proofs.PartLemmas.{AsksMore-part}
use Rattle.join_tests.proofs.compile.add_test.Goals as goal

pub returns-clause-asks : goal.returns-clause-asks
returns-clause-asks c =
    let test = c.args.test.now in
    let join = c.args.join.now in
    let needs : (es : List Element) (e : Element) → joins c.need.new.self es e ≡ (joins join es e && nat_lt (attribute_of test) (length e.values)) =
    λ es e. c.need.ensures.asks es e ∙ ap (λ n. joins join es e && nat_lt n (length e.values)) c.attribute_of.ensures in
    on_ok_weaker c.add.result (λ adds. AsksMore-part c.args.number c.args.sources.now test join c.need.new.self c.add.new.self c.in_ok-part.part c.in_ok-part.ensures.part needs adds) c.add.ensures.asks

pub returns-clause-back : goal.returns-clause-back
returns-clause-back c =
    let number = c.args.number in
    on_ok_weaker c.add.result (λ adds within back. adds number (c.need.ensures.back number back) (c.in_ok-part.ensures.back within)) c.add.ensures.back
