use Rattle.ops_tokens.proofs.CutLemmas.{falls_into_tokens}
use Rattle.ops_tokens.proofs.laws.text_falls_into_tokens.Goals as goal

pub returns : goal.returns
returns c = falls_into_tokens
