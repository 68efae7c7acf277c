-- Endings as the command tells them: the status of each, and its words in the report.
use Rattle.std.specs.Prelude.{ℕ, List, ◌++◌, codes, decimal, slice_get}
use Rattle.std.specs.Option.{option_map_or}
use Rattle.rule_base.specs.declared.program.Rule.{Rule}
use Rattle.rule_base.specs.declared.program.Program.{Program}
use Rattle.rule_base.specs.declared.entry.FaultCause.{FaultCause}
use Rattle.rule_base.specs.declared.entry.FaultCause.TheVariants as cause
use Rattle.rule_base.specs.declared.entry.Ending.{Ending}
use Rattle.rule_base.specs.declared.entry.Ending.TheVariants as ending
use Rattle.ops_text.specs.Names.{Names}
use Rattle.form_printer.specs.CanonicalValues.{symbol_text, spaced}
use Rattle.ops_command.specs.declared.status.Status.{Status}
use Rattle.ops_command.specs.declared.status.Status.TheVariants as status

-- the status of a run that ends so
abbrev pub status_of : Ending → Status
status_of ending.Quiet = status.Quiet
status_of ending.Halted = status.Halted
status_of (ending.Spent n) = status.Spent n
status_of (ending.Fault choice action why) = status.Fault choice action why

-- why a right-hand side fails
abbrev pub cause_words : FaultCause → List ℕ
cause_words cause.DivideByZero = codes "divide by zero"
cause_words cause.Overflow = codes "overflow"
cause_words cause.NotANumber = codes "not a number"
cause_words cause.Gone = codes "gone"

-- the name of the rule with this number
abbrev pub rule_name : Program → Names → ℕ → List ℕ
rule_name program names number = option_map_or (λ (rule : Rule). symbol_text names rule.name) (slice_get program.rules number) (codes "")

-- how the report says that a run ended so
abbrev pub ending_words : Program → Names → Ending → List ℕ
ending_words program names ending.Quiet = codes "quiet"
ending_words program names ending.Halted = codes "halted"
ending_words program names (ending.Spent n) = codes "spent"
ending_words program names (ending.Fault choice action why) =
    codes "fault, rule " ++ rule_name program names choice.rule ++ codes ", action " ++ decimal action ++ codes ", " ++ cause_words why ++ codes ", tags" ++ spaced decimal choice.tags
