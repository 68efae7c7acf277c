-- How the fields of what a firing comes to give what contracts see of it.
use Rattle.rhs_actions.specs.declared.outcomes.Delta.TheInside as delta
use Rattle.rhs_actions.specs.declared.outcomes.Failed.TheInside as failed
use Rattle.rhs_actions.specs.Outcomes.{Fired, Faulted, IsEffect, IsFirstFailing}

abbrev pub fired_in : delta.Inside → Fired
fired_in d = record { program = d.program.value; rule = d.rule; elements = d.elements; effect = d.effect }

abbrev pub faulted_in : failed.Inside → Faulted
faulted_in f = record { program = f.program.value; rule = f.rule; elements = f.elements; action = f.action; cause = f.cause }

-- it is the effect of its rule
abbrev pub HoldsEffect : delta.Inside → Type 0
HoldsEffect d = IsEffect (fired_in d)

-- the action is the first failing one of its rule
abbrev pub HoldsFailure : failed.Inside → Type 0
HoldsFailure f = IsFirstFailing (faulted_in f)
