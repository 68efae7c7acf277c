-- Where the word has no value of 64 bits.
use Rattle.std.proofs.Common.{sym}
use Rattle.ops_tokens.proofs.WordLemmas.{bad_numeral}
use Rattle.ops_tokens.proofs.word.integer_token.Goals as goal

pub returns-in-None : goal.returns-in-None
returns-in-None c = sym (bad_numeral c.args.word.now c.requires c.in-None.ensures)
