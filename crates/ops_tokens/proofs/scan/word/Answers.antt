-- The text is the word and what is behind it.
use Rattle.ops_tokens.proofs.CutLemmas.{word_cut}
use Rattle.ops_tokens.proofs.PlaceLemmas.{word_place}
use Rattle.ops_tokens.proofs.scan.word.Goals as goal

pub returns-clause-next : goal.returns-clause-next
returns-clause-next c = cc (word_cut c.args.text.now c.requires, c.split_at.ensures.front, c.split_at.ensures.back)

pub returns-clause-place : goal.returns-clause-place
returns-clause-place c = cc (word_place c.args.text.now c.requires, c.split_at.ensures.back)
