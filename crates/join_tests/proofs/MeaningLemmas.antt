-- What a compiled rule means.
use Rattle.std.proofs.Common.{◌≡◌, ◌+◌, length, subst, arith}
use Rattle.rule_base.specs.declared.program.Rule.{Rule}
use Rattle.join_tests.specs.declared.joins.Joins.{Joins}
use Rattle.join_tests.specs.Sources.{Sources, no_sources}
use Rattle.join_tests.specs.Meaning.{IsCompiled}
use Rattle.join_tests.proofs.RuleLemmas.{Compiles, look_back}
use Rattle.join_tests.proofs.ReadingLemmas.{AreWithin-none}
use Rattle.join_tests.specs.Joining.{LooksBack}
use Rattle.join_tests.proofs.RowLemmas.{matched-first, matched-joined, matched-next}
use Rattle.join_tests.proofs.NegatedLemmas.{IsNegated-compiles, are_placed, length-compiled, negated_count-compiled}
use Rattle.join_tests.proofs.MatchLemmas.{match_of-joined}

pub IsCompiled-compiles : (rule : Rule) (compiled : Joins) (after : Sources) → Compiles 0 (no_sources rule.vars) rule.conds compiled.positives compiled.negated after → IsCompiled rule compiled
IsCompiled-compiles rule compiled after compiles = record {
  count = length-compiled rule.conds 0 (no_sources rule.vars) compiled.positives compiled.negated after compiles;
  count_negated = negated_count-compiled rule.conds 0 (no_sources rule.vars) compiled.positives compiled.negated after compiles;
  rows = λ es. matched-joined rule.vars rule.conds compiled.positives compiled.negated after es compiles;
  first_rows = λ n es. matched-first rule compiled.positives compiled.negated after n es compiles;
  next_row = λ n join es e at is. matched-next rule compiled.positives compiled.negated after n join es e compiles at is;
  negated = λ before rest further split sign.
      IsNegated-compiles rule.vars before rest further compiled.positives compiled.negated after sign (subst (λ conds. Compiles 0 (no_sources rule.vars) conds compiled.positives compiled.negated after) split compiles);
  places = are_placed rule.conds 0 (length compiled.positives) (no_sources rule.vars) compiled.positives compiled.negated after (omega arith) compiles;
  looks_back = λ n join at.
      let place : 0 + n ≡ n = omega arith in
      subst (λ m. LooksBack m join) place ((look_back rule.conds 0 (no_sources rule.vars) compiled.positives compiled.negated after (AreWithin-none rule.vars) compiles).positives n join at);
  negated_look_back = (look_back rule.conds 0 (no_sources rule.vars) compiled.positives compiled.negated after (AreWithin-none rule.vars) compiles).negated;
  matches = λ memory tags es are_at. match_of-joined rule compiled.positives compiled.negated after memory tags es compiles are_at;
}
