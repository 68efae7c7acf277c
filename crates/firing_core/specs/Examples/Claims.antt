-- What is claimed, refused, committed and dropped, in small programs.
use Rattle.std.specs.Prelude.{◌≡◌, ℕ, ◌^◌, ◌-◌, List, [], ◌∷◌, Bool, true, Option, Some, None, is_none, length, option_and_then, option_map}
use Rattle.rule_base.specs.declared.base.Refraction.TheVariants.{Once}
use Rattle.rule_base.specs.declared.action.Action.{Action}
use Rattle.rule_base.specs.declared.action.Action.TheVariants.{Halt, Modify, Remove}
use Rattle.rule_base.specs.declared.element.Element.{Element}
use Rattle.rule_base.specs.declared.entry.FaultCause.TheVariants.{Gone}
use Rattle.rule_base.specs.declared.instantiation.Candidate.{Candidate}
use Rattle.rule_base.specs.declared.program.Program.{Program}
use Rattle.rule_base.specs.Memory.{Memory}
use Rattle.rule_base.specs.State.{count, opening_base, start}
use Rattle.rule_base.specs.Examples.Matches.{choice}
use Rattle.rule_base.specs.Examples.Programs.{blocked, either, element, int, once, plain_rule}
use Rattle.firing_core.specs.declared.claims.Event.{Event}
use Rattle.firing_core.specs.declared.claims.Event.TheVariants as event
use Rattle.firing_core.specs.declared.claims.How.{How}
use Rattle.firing_core.specs.declared.claims.How.TheVariants as how
use Rattle.firing_core.specs.declared.claims.ClaimRefusal.{ClaimRefusal}
use Rattle.firing_core.specs.declared.claims.ClaimRefusal.TheVariants as refusal
use Rattle.firing_core.specs.CoreState.{CoreState, ended}
use Rattle.firing_core.specs.Refusals.{claim_refusal}
use Rattle.firing_core.specs.Events.{fold}

-- a core at the opening with these elements
abbrev pub core_of : Program → Memory → ℕ → CoreState
core_of program elements budget = record {
  program = program;
  base = opening_base elements Once;
  budget = budget;
  state = start (opening_base elements Once);
  claims = [];
  given = 0;
  fault = None;
}

-- (literalize a x) (p r (a) --> ACTIONS)
abbrev pub plain : List Action → Program
plain actions = record { classes = record { name = 1; attrs = 2 ∷ [] } ∷ []; rules = plain_rule actions ∷ []; makes = [] }

-- the candidate of a rule for one element
abbrev pub candidate_for : ℕ → Element → Candidate
candidate_for rule e = record { choice = choice rule (e.tag ∷ []); elements = e ∷ [] }

-- (a) with a tag
abbrev pub an_a : ℕ → Element
an_a tag = element tag 0 (int 0 ∷ [])

abbrev pub of_a : ℕ → Candidate
of_a tag = candidate_for 0 (an_a tag)

-- why a candidate is refused after events, whether they are possible, and how the core has ended
abbrev pub refused_after : CoreState → List Event → Candidate → Option ClaimRefusal
refused_after k events candidate = option_and_then (λ (after : CoreState). claim_refusal after candidate) (fold k events)

abbrev pub is_impossible : CoreState → List Event → Bool
is_impossible k events = is_none (fold k events)

abbrev pub ended_after : CoreState → List Event → Option How
ended_after k events = option_and_then ended (fold k events)

-- how many claims stand, how many were given a number, and how many firings there were
abbrev pub counts_after : CoreState → List Event → Option (ℕ × ℕ × ℕ)
counts_after k events = option_map (λ (after : CoreState). (length after.claims, after.given, count after.state)) (fold k events)

-- (p r (a) -->), of two elements with one firing to spend
abbrev pub two_of_one : CoreState
two_of_one = core_of (plain []) (an_a 1 ∷ an_a 2 ∷ []) 1

pub record AreBudgetRows : Type 0 where
  pub both : counts_after two_of_one (event.Claimed (of_a 1) ∷ event.Claimed (of_a 2) ∷ []) ≡ Some (2, 2, 0)
  pub one_fired : counts_after two_of_one (event.Claimed (of_a 1) ∷ event.Claimed (of_a 2) ∷ event.Committed 1 ∷ []) ≡ Some (1, 2, 1)
  pub spent : ended_after two_of_one (event.Claimed (of_a 1) ∷ event.Claimed (of_a 2) ∷ event.Committed 1 ∷ []) ≡ Some how.Budget
  pub too_late : is_impossible two_of_one (event.Claimed (of_a 1) ∷ event.Claimed (of_a 2) ∷ event.Committed 1 ∷ event.Committed 2 ∷ []) ≡ true
  pub dropped_late : counts_after two_of_one (event.Claimed (of_a 1) ∷ event.Claimed (of_a 2) ∷ event.Committed 1 ∷ event.Dropped 2 ∷ []) ≡ Some (0, 2, 1)
  pub refused : refused_after two_of_one (event.Claimed (of_a 1) ∷ event.Committed 1 ∷ []) (of_a 2) ≡ Some (refusal.Ended how.Budget)

-- the same with firings to spare
abbrev pub one_of_many : CoreState
one_of_many = core_of (plain []) (an_a 1 ∷ []) 9

pub record AreClaimedRows : Type 0 where
  pub claimed : refused_after one_of_many (event.Claimed (of_a 1) ∷ []) (of_a 1) ≡ Some (refusal.Claimed 1)
  pub fired : refused_after one_of_many (event.Claimed (of_a 1) ∷ event.Committed 1 ∷ []) (of_a 1) ≡ Some refusal.Fired
  pub free_again : refused_after one_of_many (event.Claimed (of_a 1) ∷ event.Dropped 1 ∷ []) (of_a 1) ≡ None
  pub numbered_on : counts_after one_of_many (event.Claimed (of_a 1) ∷ event.Dropped 1 ∷ event.Claimed (of_a 1) ∷ []) ≡ Some (1, 2, 0)
  -- no claim has this number, or has it still
  pub never_given : is_impossible one_of_many (event.Claimed (of_a 1) ∷ event.Committed 2 ∷ []) ≡ true
  pub committed_twice : is_impossible one_of_many (event.Claimed (of_a 1) ∷ event.Committed 1 ∷ event.Committed 1 ∷ []) ≡ true
  -- its effect doesn't fail
  pub no_fault : is_impossible one_of_many (event.Claimed (of_a 1) ∷ event.Faulted 1 ∷ []) ≡ true
  -- an element that isn't there, another with a tag that is, and a candidate whose tags aren't its elements'
  pub gone : claim_refusal one_of_many (of_a 2000) ≡ Some (refusal.Gone 2000)
  pub other : claim_refusal one_of_many (candidate_for 0 (element 1 0 (int 5 ∷ []))) ≡ Some (refusal.Gone 1)
  pub unfit : is_impossible one_of_many (event.Claimed (record { choice = choice 0 (1 ∷ []); elements = [] }) ∷ []) ≡ true
  pub full : claim_refusal (record one_of_many { given = 2 ^ 64 - 1 }) (of_a 1) ≡ Some (refusal.Full (2 ^ 64 - 1) 0)

-- (p r (a) --> (remove 1)), of two elements that share a stripe
abbrev pub far_apart : CoreState
far_apart = core_of (plain (Remove (0 ∷ []) ∷ [])) (an_a 1 ∷ an_a 1025 ∷ []) 9

pub record AreStripeRows : Type 0 where
  pub busy : refused_after far_apart (event.Claimed (of_a 1) ∷ []) (of_a 1025) ≡ Some (refusal.Busy (record { lock = 1; word = 1099511627776 }))
  pub free : refused_after far_apart (event.Claimed (of_a 1) ∷ event.Dropped 1 ∷ []) (of_a 1025) ≡ None
  -- a lock that is busy is told before an element that has gone
  pub gone : refused_after far_apart (event.Claimed (of_a 1) ∷ event.Committed 1 ∷ []) (of_a 1) ≡ Some (refusal.Gone 1)

-- `either` with its one element, which either rule would take
abbrev pub one_or_the_other : CoreState
one_or_the_other = core_of either (element 1 0 (int 1 ∷ []) ∷ []) 9

abbrev pub by_rule : ℕ → Candidate
by_rule rule = candidate_for rule (element 1 0 (int 1 ∷ []))

pub record AreRegionRows : Type 0 where
  pub busy : refused_after one_or_the_other (event.Claimed (by_rule 0) ∷ []) (by_rule 1) ≡ Some (refusal.Busy (record { lock = 1040; word = 1048576 }))
  pub unmatched : refused_after one_or_the_other (event.Claimed (by_rule 0) ∷ event.Committed 1 ∷ []) (by_rule 1) ≡ Some (refusal.Unmatched 2)
  -- a negated condition element that accepts something
  pub never_matched : claim_refusal (core_of blocked (element 1 0 (int 1 ∷ []) ∷ element 2 1 (int 1 ∷ []) ∷ []) 9) (candidate_for 0 (element 1 0 (int 1 ∷ []))) ≡ Some (refusal.Unmatched 2)

-- `once` with two keys: they share a region where their remainders by 16 are the same
abbrev pub keys : ℕ → ℕ → CoreState
keys one other = core_of once (element 1 0 (int one ∷ []) ∷ element 2 0 (int other ∷ []) ∷ []) 9

pub record AreKeyRows : Type 0 where
  pub apart : counts_after (keys 7 8) (event.Claimed (candidate_for 0 (element 1 0 (int 7 ∷ []))) ∷ event.Claimed (candidate_for 0 (element 2 0 (int 8 ∷ []))) ∷ []) ≡ Some (2, 2, 0)
  pub together : refused_after (keys 7 23) (event.Claimed (candidate_for 0 (element 1 0 (int 7 ∷ []))) ∷ []) (candidate_for 0 (element 2 0 (int 23 ∷ []))) ≡ Some (refusal.Busy (record { lock = 1047; word = 1099511627776 }))

-- (p r (a) --> (remove 1) (modify 1)), which fails, and (p r (a) --> (halt))
abbrev pub failing : CoreState
failing = core_of (plain (Remove (0 ∷ []) ∷ Modify 0 [] ∷ [])) (an_a 1 ∷ an_a 2 ∷ []) 9

abbrev pub halting : ℕ → CoreState
halting budget = core_of (plain (Halt ∷ [])) (an_a 1 ∷ an_a 2 ∷ []) budget

pub record AreEndingRows : Type 0 where
  pub fault : ended_after failing (event.Claimed (of_a 1) ∷ event.Faulted 1 ∷ []) ≡ Some how.Fault
  pub fault_told : option_and_then (λ (k : CoreState). k.fault) (fold failing (event.Claimed (of_a 1) ∷ event.Faulted 1 ∷ [])) ≡ Some (record { choice = choice 0 (1 ∷ []); action = 2; cause = Gone })
  pub no_commit : is_impossible failing (event.Claimed (of_a 1) ∷ event.Committed 1 ∷ []) ≡ true
  pub ended_by_fault : is_impossible failing (event.Claimed (of_a 1) ∷ event.Claimed (of_a 2) ∷ event.Faulted 1 ∷ event.Faulted 2 ∷ []) ≡ true
  pub halted : ended_after (halting 9) (event.Claimed (of_a 1) ∷ event.Committed 1 ∷ []) ≡ Some how.Halted
  -- a firing that halts and uses the budget up ends the core by its halt
  pub halted_last : ended_after (halting 1) (event.Claimed (of_a 1) ∷ event.Committed 1 ∷ []) ≡ Some how.Halted
