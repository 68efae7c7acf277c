-- The element is tried with those of the first places.
use Rattle.std.proofs.Common.{◌≡◌, List, ap, rules, sym, take, ◌∙◌}
use Rattle.rule_base.specs.declared.element.Element.{Element}
use Rattle.rule_base.specs.Views.{element_in}
use Rattle.join_tests.specs.Joining.{joins}
use Rattle.match_network.specs.Row.{elements_of, some_passes}
use Rattle.match_network.proofs.BlockLemmas.{elements_of-take}
use Rattle.match_network.proofs.negated.blocks_at.Goals as goal

pub returns : goal.returns
returns c =
    let n = c.args.negated.now in
    let came = c.args.arrivals.now.came in
    let row = c.args.row.now in
    let e = element_in c.at.result in
    let first : c.new-first.result ≡ elements_of came (take n.after row) = c.new-first.ensures ∙ ap (elements_of came) c.first_places.ensures in
    let whole : c.new-first.result ≡ take n.after (elements_of came row) = first ∙ sym (elements_of-take came row n.after c.requires.come) in
    let tried : c.admits.result ≡ joins n.join c.new-first.result e = search rules in
    tried ∙ ap (λ (es : List Element). joins n.join es e) whole ∙ ap (some_passes (joins n.join (take n.after (elements_of came row)))) (sym c.at.ensures)
