use Rattle.std.proofs.Common.{codes, decimal}
use Rattle.std.specs.String.{string_bytes}
use Rattle.ops_command.specs.Refusals.{file_word}
use Rattle.ops_command.proofs.LineLemmas.{seven_pieces, IfOk-bytes}
use Rattle.ops_command.proofs.refusals.syntax_line.Goals as goal

pub returns : goal.returns
returns c = IfOk-bytes string_bytes c.format.result _ _ (seven_pieces (codes "ops: syntax error in ") (file_word c.args.file) (codes " at byte ") (decimal c.args.at) (codes ": ") c.args.why.now (codes "\n")) c.format.ensures.ok
