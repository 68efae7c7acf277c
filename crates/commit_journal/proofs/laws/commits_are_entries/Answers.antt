-- The law is the lemma on tags that a commit gives.
use Rattle.commit_journal.proofs.CommitLemmas.{consecutive}
use Rattle.commit_journal.proofs.laws.commits_are_entries.Goals as goal

pub returns-clause-tags : goal.returns-clause-tags
returns-clause-tags c = consecutive
