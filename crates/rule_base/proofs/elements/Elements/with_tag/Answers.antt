-- The element at hand has the tag, or is passed over.
use Rattle.std.proofs.Common.{rules, sym, ◌∙◌}
use Rattle.rule_base.specs.Views.{element_in}
use Rattle.rule_base.proofs.MemoryLemmas.{element_at-here, element_at-passed}
use Rattle.rule_base.proofs.elements.Elements.with_tag.Goals as goal

pub returns-then-element-tag : goal.returns-then-element-tag
returns-then-element-tag c =
    sym (c.loop-at.invariant ∙ element_at-here c.args.self.now c.loop-at.at c.args.tag (element_in c.at-element.result) c.at-element.ensures (search rules))

pub loop-at-preserved : goal.loop-at-preserved
loop-at-preserved c =
    c.loop-at.invariant ∙ element_at-passed c.args.self.now c.loop-at.at c.args.tag (element_in c.at-element.result) c.at-element.ensures (search rules)
