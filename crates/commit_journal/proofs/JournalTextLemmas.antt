-- A line more in the text of a journal.
use Rattle.std.proofs.Common.{◌≡◌, ℕ, ◌+◌, List, [], ◌∷◌, ◌++◌, Some, map, slice_get, take, ◌∙◌, ap}
use Rattle.std.proofs.lemmas.List.{append-nil, map-append}
use Rattle.std.proofs.lemmas.Grind.{flat_map-append}
use Rattle.rule_base.specs.declared.entry.Entry.{Entry}
use Rattle.rule_base.specs.State.{choices_of}
use Rattle.rule_base.proofs.StepByStepLemmas.{take_next}
use Rattle.commit_journal.specs.JournalText.{choice_line, text_of_lines}

text_of_lines-push : (lines : List (List ℕ)) (line : List ℕ) → text_of_lines (lines ++ line ∷ []) ≡ text_of_lines lines ++ (line ++ 10 ∷ [])
text_of_lines-push lines line = flat_map-append (λ (l : List ℕ). l ++ 10 ∷ []) lines (line ∷ []) ∙ ap (λ rest. text_of_lines lines ++ rest) (append-nil (line ++ 10 ∷ []))

-- the lines so far, with the first one and with one more
pub choice_lines-next : (first : List ℕ) (entries : List Entry) (at : ℕ) (e : Entry) → slice_get entries at ≡ Some e → text_of_lines (first ∷ map choice_line (choices_of (take (at + 1) entries))) ≡ text_of_lines (first ∷ map choice_line (choices_of (take at entries))) ++ (choice_line e.choice ++ 10 ∷ [])
choice_lines-next first entries at e is =
    let taken : map choice_line (choices_of (take (at + 1) entries)) ≡ map choice_line (choices_of (take at entries)) ++ choice_line e.choice ∷ [] =
    ap (λ es. map choice_line (choices_of es)) (take_next entries at e is)
    ∙ ap (map choice_line) (map-append (λ (x : Entry). x.choice) (take at entries) (e ∷ []))
    ∙ map-append choice_line (choices_of (take at entries)) (e.choice ∷ []) in
    ap (λ lines. text_of_lines (first ∷ lines)) taken
    ∙ text_of_lines-push (first ∷ map choice_line (choices_of (take at entries))) (choice_line e.choice)
