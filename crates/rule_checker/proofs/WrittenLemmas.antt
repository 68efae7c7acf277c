-- The rules of a checked program mean what is written.
use Rattle.std.proofs.Common.{◌≡◌, List, Ok, ap}
use Rattle.std.specs.List.{AllZip}
use Rattle.rule_base.specs.declared.program.Class.{Class}
use Rattle.rule_base.specs.declared.program.Rule.{Rule}
use Rattle.rule_base.specs.declared.program.Program.{Program}
use Rattle.ops_reader.specs.declared.form.Form.{Form}
use Rattle.rule_checker.specs.Checked.{checked}
use Rattle.rule_checker.specs.Scope.{variable_of}
use Rattle.rule_checker.specs.WrittenRules.{WrittenRule, written_rules}
use Rattle.rule_checker.specs.WrittenLaws.{MeansWhatIsWritten}
use Rattle.rule_checker.proofs.WrittenRuleLemmas.{IsCheckedTo, zip_map, checked-has_rules, HasSides, sides-of, sides-ask}
use Rattle.rule_checker.proofs.WrittenMatchLemmas.{sides-match}
use Rattle.rule_checker.proofs.WrittenEffectLemmas.{sides-act}

sides-mean : (classes : List Class) (w : WrittenRule) (rule : Rule) → HasSides classes w rule → MeansWhatIsWritten classes w rule
sides-mean classes w rule s = record {
  name = ap (λ (r : Rule). r.name) s.is;
  conditions = sides-ask classes w rule s;
  matches = record { number = variable_of s.left.scope; same = λ memory tags sized. sides-match classes w rule s memory tags sized };
  acts = sides-act classes w rule s;
}

pub checked-means : (forms : List Form) (p : Program) → checked forms ≡ Ok p → AllZip (MeansWhatIsWritten p.classes) (written_rules forms) p.rules
checked-means forms p e =
    let h = checked-has_rules forms p e in
    zip_map (IsCheckedTo p.classes) (MeansWhatIsWritten p.classes) (λ w rule is. sides-mean p.classes w rule (sides-of p.classes w rule h.once is)) (written_rules forms) p.rules h.rules
