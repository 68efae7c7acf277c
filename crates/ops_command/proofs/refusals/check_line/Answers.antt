use Rattle.std.proofs.Common.{codes, decimal}
use Rattle.std.specs.String.{string_bytes}
use Rattle.ops_command.specs.Refusals.{file_word}
use Rattle.ops_command.proofs.LineLemmas.{seven_pieces, IfOk-bytes}
use Rattle.ops_command.proofs.refusals.check_line.Goals as goal

pub returns : goal.returns
returns c = IfOk-bytes string_bytes c.format.result _ _ (seven_pieces (codes "ops: check error in ") (file_word c.args.file) (codes ", form ") (decimal c.args.form) (codes ": ") c.args.why.now (codes "\n")) c.format.ensures.ok
