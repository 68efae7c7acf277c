-- Forms that are read are those of the text.
use Rattle.std.proofs.Common.{length, ap, subst, arith}
use Rattle.ops_text.specs.Names.{Names}
use Rattle.ops_tokens.specs.Tokens.{tokens_of}
use Rattle.ops_reader.specs.Grammar.{IsText}
use Rattle.ops_command.proofs.program_file.program_of.Goals as goal

pub returns-in-Ok-clause-defines : goal.returns-in-Ok-clause-defines
returns-in-Ok-clause-defines c = record {
  forms = c.in_ok-forms.forms;
  text = subst (λ (first : Names). IsText first c.in_ok-forms.forms (tokens_of c.args.bytes.now) c.read_text.new.symbols) c.requires.nil c.in_ok-forms.ensures.text;
  declares = c.in-Ok.ensures.ok;
}

pub returns-in-Ok-clause-few_makes : goal.returns-in-Ok-clause-few_makes
returns-in-Ok-clause-few_makes c = omega (arith, c.in-Ok.ensures.makes, ap length c.forms.view_is, c.forms.invariant.few)
