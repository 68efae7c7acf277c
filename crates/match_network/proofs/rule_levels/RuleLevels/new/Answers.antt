-- With no elements, bare stores and empty levels are right.
use Rattle.std.proofs.Common.{List, [], ap, length, nat_lt, subst, ◌∙◌}
use Rattle.join_tests.specs.declared.joins.Join.{Join}
use Rattle.join_tests.specs.declared.joins.Negated.{Negated}
use Rattle.alpha_memory.specs.Stores.{without_entries}
use Rattle.match_network.specs.Conditions.{AreFiled, joins_of, rows_of}
use Rattle.match_network.specs.Levels.{AreLevels}
use Rattle.match_network.specs.Negated.{AreNegatedAsked}
use Rattle.match_network.specs.Rules.{AreAsked}
use Rattle.match_network.proofs.NegatedLemmas.{bare_negated}
use Rattle.match_network.proofs.RuleLemmas.{bare_serve}
use Rattle.match_network.proofs.rule_levels.RuleLevels.new.Goals as goal

pub returns-clause-right : goal.returns-clause-right
returns-clause-right c =
    let all = c.in_ok-joins.joins.positives in
    let alpha = c.ask_negated.new.alpha in
    let levels = c.in_ok-levels.levels.items in
    let asked = subst (λ (js : List Join). AreAsked js c.ask_all.new.alpha c.in_ok-stores.stores) c.as_slice.ensures c.in_ok-stores.ensures.asked in
    record {
      count = c.in_ok-stores.ensures.count ∙ ap length c.as_slice.ensures;
      filed = subst (λ (js : List Join). AreFiled js [] [] levels) c.as_slice-3.ensures c.in_ok-levels.ensures.filed;
      served = bare_serve all alpha c.in_ok-stores.stores c.in_ok-negated.ensures.bare (λ at join there.
          let found = asked at join there in
          (found.0, found.1, c.in_ok-negated.ensures.serve.serves (without_entries join.pattern join.key (nat_lt 0 at)) found.0 found.2));
      right = subst (λ (js : List Join). AreLevels (joins_of js) [] [] (rows_of levels)) c.as_slice-3.ensures c.in_ok-levels.ensures.levels;
    }

pub returns-clause-negated_right : goal.returns-clause-negated_right
returns-clause-negated_right c =
    let all = c.in_ok-joins.joins.negated in
    let alpha = c.ask_negated.new.alpha in
    record {
      each = bare_negated all alpha c.in_ok-negated.negated c.in_ok-negated.ensures.bare
          (subst (λ (ns : List Negated). AreNegatedAsked ns alpha c.in_ok-negated.negated) c.as_slice-2.ensures c.in_ok-negated.ensures.asked);
    }
