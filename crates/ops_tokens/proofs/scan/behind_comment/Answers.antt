-- The text is the line and what is behind it.
use Rattle.ops_tokens.proofs.CutLemmas.{line_cut}
use Rattle.ops_tokens.proofs.PlaceLemmas.{line_places}
use Rattle.ops_tokens.proofs.scan.behind_comment.Goals as goal

pub returns-clause-same : goal.returns-clause-same
returns-clause-same c = cc (line_cut c.args.text.now, c.split_at.ensures.back)

pub returns-clause-places : goal.returns-clause-places
returns-clause-places c = cc (line_places c.args.text.now, c.split_at.ensures.back)
