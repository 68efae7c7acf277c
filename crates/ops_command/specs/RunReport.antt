-- The report of a run: what the rules wrote, and a line about how the run ended.
use Rattle.std.specs.Prelude.{ℕ, ◌-◌, List, [], ◌∷◌, ◌++◌, Bool, true, ◌==◌, if◌then◌else◌, length, slice_get, codes, decimal}
use Rattle.std.specs.Option.{option_map_or}
use Rattle.std.specs.List.{flat_map}
use Rattle.rule_base.specs.declared.entry.Entry.{Entry}
use Rattle.rule_base.specs.Layout.{layout}
use Rattle.rule_base.specs.declared.entry.Ending.{Ending}
use Rattle.rule_base.specs.declared.program.Program.{Program}
use Rattle.rule_base.specs.State.{State, count}
use Rattle.ops_text.specs.Names.{Names}
use Rattle.ops_command.specs.EndingWords.{ending_words}

-- whether a text ends with a line feed, or is empty
abbrev pub ends_line : List ℕ → Bool
ends_line text = option_map_or (λ byte. byte == 10) (slice_get text (length text - 1)) true

-- the text, and a line feed after it where it isn't empty and doesn't end with one
abbrev pub whole_lines : List ℕ → List ℕ
whole_lines text = if ends_line text then text else text ++ 10 ∷ []

-- what the rules wrote, over all firings as one list of pieces
abbrev pub written_text : List (List ℕ) → List Entry → List ℕ
written_text names entries = layout names (flat_map (λ (e : Entry). e.pieces) entries)

-- the line that sums a run up: how it ended, in these words, how many firings it had, how many elements are left and
-- which tag is the next
abbrev pub summary_line : List ℕ → ℕ → ℕ → ℕ → List ℕ
summary_line words firings elements next =
    codes "; " ++ words ++ codes ", firings " ++ decimal firings ++ codes ", elements " ++ decimal elements ++ codes ", next " ++ decimal next ++ codes "\n"

-- the report of a run of the program that came to this ending in this state
abbrev pub run_report : Program → Names → Ending → State → List ℕ
run_report program names end s =
    whole_lines (written_text names s.entries) ++ summary_line (ending_words program names end) (count s) (length s.memory) s.next
