-- The line that is the whole report where nothing runs.
use Rattle.std.specs.Prelude.{ℕ, List, [], ◌++◌, codes, decimal}
use Rattle.ops_reader.specs.declared.refusal.SyntaxKind.{SyntaxKind}
use Rattle.ops_reader.specs.declared.refusal.SyntaxKind.TheVariants as syntax
use Rattle.rule_checker.specs.declared.refusal.CheckKind.{CheckKind}
use Rattle.rule_checker.specs.declared.refusal.CheckKind.TheVariants as check
use Rattle.ops_command.specs.declared.status.UsageKind.{UsageKind}
use Rattle.ops_command.specs.declared.status.UsageKind.TheVariants as usage
use Rattle.ops_command.specs.declared.status.FileKind.{FileKind}
use Rattle.ops_command.specs.declared.status.FileKind.TheVariants as file
use Rattle.ops_command.specs.declared.status.Status.{Status}
use Rattle.ops_command.specs.declared.status.Status.TheVariants as status

-- what is wrong with the words
abbrev pub usage_word : UsageKind → List ℕ
usage_word usage.Words = codes "words"
usage_word usage.Number = codes "number"

-- which file
abbrev pub file_word : FileKind → List ℕ
file_word file.Program = codes "program"
file_word file.Memory = codes "memory"

-- why a token is wrong
abbrev pub syntax_words : SyntaxKind → List ℕ
syntax_words syntax.Unclosed = codes "unclosed"
syntax_words syntax.Unexpected = codes "unexpected"
syntax_words syntax.BadNumeral = codes "bad numeral"
syntax_words syntax.LongSymbol = codes "long symbol"
syntax_words syntax.TooDeep = codes "too deep"
syntax_words syntax.NotInProfile = codes "not in profile"

-- which rule of the language is violated
abbrev pub check_words : CheckKind → List ℕ
check_words check.UnknownClass = codes "unknown class"
check_words check.UnknownAttribute = codes "unknown attribute"
check_words check.Twice = codes "twice"
check_words check.FirstNegated = codes "first negated"
check_words check.Unbound = codes "unbound"
check_words check.BadDesignator = codes "bad designator"
check_words check.TooMany = codes "too many"
check_words check.NotInitial = codes "not initial"

-- the line of a text that is none of the language
abbrev pub syntax_line : FileKind → ℕ → List ℕ → List ℕ
syntax_line kind at why = codes "ops: syntax error in " ++ file_word kind ++ codes " at byte " ++ decimal at ++ codes ": " ++ why ++ codes "\n"

-- the line of a form that violates a rule
abbrev pub check_line : FileKind → ℕ → List ℕ → List ℕ
check_line kind form why = codes "ops: check error in " ++ file_word kind ++ codes ", form " ++ decimal form ++ codes ": " ++ why ++ codes "\n"

-- the line of a status. The statuses that are no refusals have none
abbrev pub refusal_line : Status → List ℕ
refusal_line (status.Usage kind) = codes "ops: usage: " ++ usage_word kind ++ codes "\n"
refusal_line (status.ReadFault kind) = codes "ops: cannot read " ++ file_word kind ++ codes "\n"
refusal_line (status.TooLong kind) = codes "ops: " ++ file_word kind ++ codes " is too long\n"
refusal_line (status.Syntax kind at why) = syntax_line kind at (syntax_words why)
refusal_line (status.Check kind form why) = check_line kind form (check_words why)
refusal_line other = []
