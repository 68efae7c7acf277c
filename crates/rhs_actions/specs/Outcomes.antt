-- What a firing comes to: its effect, or the action that fails.
use Rattle.std.specs.Prelude.{◌≡◌, ◌<◌, ℕ, List, [], Ok, Err, get_or, length}
use Rattle.rule_base.specs.declared.element.Element.{Element}
use Rattle.rule_base.specs.declared.program.Rule.{Rule}
use Rattle.rule_base.specs.declared.program.Program.{Program}
use Rattle.rule_base.specs.declared.entry.FaultCause.{FaultCause}
use Rattle.rule_base.specs.Effect.{Effect, effect as effect_of}

-- a rule that does nothing
abbrev pub no_rule : Rule
no_rule = record { name = 0; vars = 0; positives = 0; conds = []; actions = [] }

-- the program's rule with this number, where it has one
abbrev pub rule_at : Program → ℕ → Rule
rule_at program number = get_or program.rules number no_rule

-- a program, the number of one of its rules, the elements that it fires with, and what that does
pub record Fired : Type 0 where
  pub program : Program
  pub rule : ℕ
  pub elements : List Element
  pub effect : Effect

-- a program, the number of one of its rules, the elements that it fires with, and its first failing action, from 1, with the cause
pub record Faulted : Type 0 where
  pub program : Program
  pub rule : ℕ
  pub elements : List Element
  pub action : ℕ
  pub cause : FaultCause

-- it is the effect of a rule that there is, with its elements
pub record IsEffect (fired : Fired) : Type 0 where
  pub there : fired.rule < length fired.program.rules
  pub is : effect_of (rule_at fired.program fired.rule) fired.elements ≡ Ok fired.effect

-- it is the first failing action of a rule that there is, with its elements
pub record IsFirstFailing (faulted : Faulted) : Type 0 where
  pub there : faulted.rule < length faulted.program.rules
  pub is : effect_of (rule_at faulted.program faulted.rule) faulted.elements ≡ Err (record { action = faulted.action; cause = faulted.cause })
