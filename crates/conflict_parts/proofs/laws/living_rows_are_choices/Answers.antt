-- The laws are lemmas about the definitions.
use Rattle.conflict_parts.proofs.ChoiceLemmas.{living_rows_differ, living_rows_match, matches_are_living_rows}
use Rattle.conflict_parts.proofs.laws.living_rows_are_choices.Goals as goal

pub returns-clause-match_where_free : goal.returns-clause-match_where_free
returns-clause-match_where_free c = living_rows_match

pub returns-clause-all : goal.returns-clause-all
returns-clause-all c = matches_are_living_rows

pub returns-clause-once : goal.returns-clause-once
returns-clause-once c = living_rows_differ
