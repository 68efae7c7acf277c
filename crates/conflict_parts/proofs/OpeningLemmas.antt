-- Full matches that come to stand, one after another.
use Rattle.std.proofs.Common.{◌≡◌, inl, inr, ℕ, ◌+◌, ◌<◌, ◌≤◌, ◌||◌, List, [], ◌∷◌, ◌++◌, true, false, Option, length, slice_index_or, ap, arith, subst, sym, ◌∙◌}
use Rattle.std.specs.List.{list_any}
use Rattle.std.specs.Option.{option_map_or}
use Rattle.std.proofs.lemmas.Bool.{cases_eq, eqb-true, or_cases}
use Rattle.std.proofs.lemmas.List.Folds.{list_any-append}
use Rattle.std.proofs.lemmas.Option.{slice_get_past}
use Rattle.match_network.specs.declared.askers.Asker.{Asker}
use Rattle.match_network.specs.Negated.{whole_rows}
use Rattle.match_network.specs.Rules.{RuleRows}
use Rattle.match_network.specs.Touched.{is_of}
use Rattle.conflict_parts.specs.declared.standing.RowId.{RowId}
use Rattle.conflict_parts.specs.declared.standing.Standing.{Standing}
use Rattle.conflict_parts.specs.declared.standing.Standing.TheVariants.{Open}
use Rattle.conflict_parts.specs.Change.{HasOpened, IsCovered}
use Rattle.conflict_parts.specs.Part.{AreNoMore, full_rows}
use Rattle.conflict_parts.specs.Queue.{IsOpened}
use Rattle.conflict_parts.specs.Standings.{with_standing}
use Rattle.conflict_parts.proofs.QueueLemmas.{opened_both, opened_none}
use Rattle.conflict_parts.proofs.StandingLemmas.{count-with_standing, count-with_standing_other}

pub has_opened-none : (rules : List RuleRows) (ss : List (List Standing)) (queue : List RowId) → AreNoMore rules ss → HasOpened rules ss queue ss queue
has_opened-none rules ss queue no_more = record { opened = opened_none ss queue; no_more = no_more; kept = λ rule covered. covered }

pub has_opened-both : (rules : List RuleRows) (old mid new : List (List Standing)) (before between queue : List RowId) → HasOpened rules old before mid between → HasOpened rules mid between new queue → HasOpened rules old before new queue
has_opened-both rules old mid new before between queue first second = record {
  opened = opened_both old mid new before between queue first.opened second.opened;
  no_more = second.no_more;
  kept = λ rule covered. second.kept rule (first.kept rule covered);
}

-- one more full match of a rule, that has some yet to stand
pub has_opened-one : (rules : List RuleRows) (ss new : List (List Standing)) (before queue : List RowId) (rule : ℕ) → AreNoMore rules ss → rule < length ss → length (slice_index_or ss rule []) < length (full_rows rules rule) → IsOpened ss before new queue → new ≡ with_standing ss rule Open → HasOpened rules ss before new queue
has_opened-one rules ss new before queue rule no_more lt more opened is = record {
  opened = opened;
  no_more = subst (λ (xs : List (List Standing)). AreNoMore rules xs) (sym is) (λ other.
      elim (cases_eq rule other) [
        | inl same ↦ subst (λ r. length (slice_index_or (with_standing ss rule Open) r []) ≤ length (full_rows rules r)) same (omega (arith, count-with_standing ss rule Open lt, more))
        | inr differs ↦ omega (arith, count-with_standing_other ss rule Open other differs, no_more other)
      ]);
  kept = subst (λ (xs : List (List Standing)). (other : ℕ) → IsCovered rules ss other → IsCovered rules xs other) (sym is) (λ other covered.
      elim (cases_eq rule other) [
        | inl same ↦ subst (λ r. length (full_rows rules r) ≤ length (slice_index_or ss r []) → length (full_rows rules r) ≤ length (slice_index_or (with_standing ss rule Open) r [])) same (λ was. omega (arith, count-with_standing ss rule Open lt, was)) covered
        | inr differs ↦ omega (arith, count-with_standing_other ss rule Open other differs, covered)
      ]);
}

-- or want of memory
pub has_opened-stopped : (rules : List RuleRows) (ss new : List (List Standing)) (before queue : List RowId) → AreNoMore rules ss → IsOpened ss before new queue → new ≡ ss → HasOpened rules ss before new queue
has_opened-stopped rules ss new before queue no_more opened is = record {
  opened = opened;
  no_more = subst (λ (xs : List (List Standing)). AreNoMore rules xs) (sym is) no_more;
  kept = λ rule covered. subst (λ (xs : List (List Standing)). IsCovered rules xs rule) (sym is) covered;
}

-- past the rules there is nothing to stand
pub covered-past : (rules : List RuleRows) (ss : List (List Standing)) (rule : ℕ) → length rules ≤ rule → IsCovered rules ss rule
covered-past rules ss rule le = omega (arith, ap (λ (found : Option RuleRows). length (option_map_or whole_rows found [])) (slice_get_past rules rule le))

-- all rules below a number, and one more
pub covered-next : (rules : List RuleRows) (old new : List (List Standing)) (before queue : List RowId) (count : ℕ) → HasOpened rules old before new queue → IsCovered rules new count → ((rule : ℕ) → rule < count → IsCovered rules old rule) → (rule : ℕ) → rule < count + 1 → IsCovered rules new rule
covered-next rules old new before queue count opened here below rule lt =
    elim (cases_eq count rule) [
      | inl same ↦ subst (IsCovered rules new) same here
      | inr differs ↦ opened.kept rule (below rule (omega (arith, lt, differs)))
    ]

-- the rules of those who were due, and of one more
pub covered-due : (rules : List RuleRows) (old new : List (List Standing)) (before queue : List RowId) (done more : List Asker) (asker : Asker) → more ≡ done ++ asker ∷ [] → HasOpened rules old before new queue → IsCovered rules new asker.rule → ((rule : ℕ) → list_any (is_of rule) done ≡ true → IsCovered rules old rule) → (rule : ℕ) → list_any (is_of rule) more ≡ true → IsCovered rules new rule
covered-due rules old new before queue done more asker is opened here below rule due =
    elim (or_cases (list_any (is_of rule) done) (is_of rule asker || false) (sym (ap (list_any (is_of rule)) is ∙ list_any-append (is_of rule) done (asker ∷ [])) ∙ due)) [
      | inl before ↦ opened.kept rule (below rule before)
      | inr last ↦
          elim (or_cases (is_of rule asker) false last) [
            | inl same ↦ subst (IsCovered rules new) (eqb-true asker.rule rule same) here
            | inr wrong ↦ absurd (let no : ⊥ = cc in no)
          ]
    ]
