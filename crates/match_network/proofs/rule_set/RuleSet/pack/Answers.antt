-- What is kept of all rules stays right.
use Rattle.std.proofs.Common.{◌≡◌, ◌++◌, List, ap, arith, drop, length, subst, sym, take, ◌∙◌}
use Rattle.std.specs.List.{AllByRecursion}
use Rattle.match_network.specs.Network.{IsNetwork, joins_in}
use Rattle.match_network.specs.Packing.{AreRepacked}
use Rattle.match_network.specs.Rules.{RuleRows}
use Rattle.match_network.proofs.PackingLemmas.{AreRepacked-joins, AreRepacked-none, FiledRule, IsNetwork-filed, IsNetwork-repacked}
use Rattle.match_network.proofs.RuleLemmas.{front_again}
use Rattle.match_network.proofs.rule_set.RuleSet.pack.Goals as goal

pub returns-in_err-pack_stores-clause-right : goal.returns-in_err-pack_stores-clause-right
returns-in_err-pack_stores-clause-right c =
    let a = c.args.arrivals.now in
    let set = c.args.self.now in
    let filed = IsNetwork-filed a.came a.places set.alpha set.rules.items set.askers.items set.negated_askers.items c.requires.right in
    IsNetwork-repacked a.came a.places set.alpha c.pack_stores.new.alpha set.rules.items set.rules.items set.askers.items set.negated_askers.items c.in_err-pack_stores.ensures.cleaned
    (AreRepacked-none a.came a.places set.rules.items filed) c.requires.right

pub pack_rules-requires : goal.pack_rules-requires
pack_rules-requires c =
    let a = c.args.arrivals.now in
    let set = c.args.self.now in
    let filed = IsNetwork-filed a.came a.places set.alpha set.rules.items set.askers.items set.negated_askers.items c.requires.right in
    record { filed = subst (AllByRecursion (FiledRule a.came a.places)) (sym c.as_mut_slice.ensures.value) filed }

pub returns-clause-joins : goal.returns-clause-joins
returns-clause-joins c =
    let a = c.args.arrivals.now in
    let rules = c.args.self.now.rules in
    let after = c.pack_rules.new.rules in
    let written : take rules.len (after ++ drop (length after) rules.items) ≡ after =
    front_again after (drop (length after) rules.items) rules.len (omega (arith, rules.ok.0, c.pack_rules.auto.rules, ap length c.as_mut_slice.ensures.value)) in
    ap joins_in written
    ∙ AreRepacked-joins a.came a.places rules.items after (subst (λ (rs : List RuleRows). AreRepacked a.came a.places rs after) c.as_mut_slice.ensures.value c.pack_rules.ensures.each)

pub returns-clause-right : goal.returns-clause-right
returns-clause-right c =
    let a = c.args.arrivals.now in
    let set = c.args.self.now in
    let rules = set.rules in
    let after = c.pack_rules.new.rules in
    let written : take rules.len (after ++ drop (length after) rules.items) ≡ after =
    front_again after (drop (length after) rules.items) rules.len (omega (arith, rules.ok.0, c.pack_rules.auto.rules, ap length c.as_mut_slice.ensures.value)) in
    let packed = subst (λ (rs : List RuleRows). AreRepacked a.came a.places rs after) c.as_mut_slice.ensures.value c.pack_rules.ensures.each in
    subst (λ (rs : List RuleRows). IsNetwork a.came a.places c.pack_stores.new.alpha rs set.askers.items set.negated_askers.items) (sym written)
    (IsNetwork-repacked a.came a.places set.alpha c.pack_stores.new.alpha rules.items after set.askers.items set.negated_askers.items c.in_ok-pack_stores.ensures.cleaned packed c.requires.right)
