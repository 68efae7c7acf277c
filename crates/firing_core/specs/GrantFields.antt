-- How a grant's fields give what contracts see of it.
use Rattle.firing_core.specs.declared.grant.Grant.TheInside.{Inside}
use Rattle.firing_core.specs.Grants.{Granted, MayFireAway}

abbrev pub granted_in : Inside → Granted
granted_in grant = record { program = grant.program.value; number = grant.number; candidate = grant.candidate }

-- its rule may fire with its elements
abbrev pub HoldsGrant : Inside → Type 0
HoldsGrant grant = MayFireAway (granted_in grant)
