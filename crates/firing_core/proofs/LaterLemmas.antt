-- A store later on: which of the places that had come are in working memory still.
use Rattle.std.proofs.Common.{◌≡◌, ℕ, ◌+◌, ◌<◌, List, [], ◌∷◌, ◌++◌, Bool, false, true, ◌||◌, ◌&&◌, ◌==◌, length, suc, zero, refl, ap, ◌∙◌, sym, append-nil, arith, length-append}
use Rattle.std.specs.List.{filter, range_with_len}
use Rattle.std.proofs.lemmas.Bool.{eqb-true}
use Rattle.std.proofs.lemmas.List.Folds.{list_any-append}
use Rattle.rule_base.specs.declared.instantiation.Choice.{Choice}
use Rattle.rule_base.specs.Effect.{Effect}
use Rattle.rule_base.specs.Step.{entry_of}
use Rattle.commit_journal.specs.Entries.{born_in}
use Rattle.working_memory.specs.Memory.{Places}
use Rattle.working_memory.proofs.PlaceLemmas.{has_number-filter}
use Rattle.firing_core.specs.Store.{IsLater, IsSameBesideMemory, IsStored, Stored, came}
use Rattle.firing_core.proofs.StoredLemmas.{IsCommit}
use Rattle.rule_base.specs.Numbers.{has_number}

-- a place among some of the places is among them all
second : (a b : Bool) → (a && b) ≡ true → b ≡ true
second true b both = both
second false b both = absurd (let wrong : ⊥ = cc in wrong)

pub has_number-some : (left : ℕ → Bool) (places some : List ℕ) (place : ℕ) → some ≡ filter left places → has_number some place ≡ true → has_number places place ≡ true
has_number-some left places some place is has =
    second (left place) (has_number places place) (sym (ap (λ ps. has_number ps place) is ∙ has_number-filter left places place) ∙ has)

-- a place before those of a range isn't among them
before_step : (first place : ℕ) (b rest : Bool) → (first == place) ≡ b → place < first → rest ≡ false → (b || rest) ≡ false
before_step first place true rest is lt none = absurd (omega (arith, lt, eqb-true first place is))
before_step first place false rest is lt none = none

before_range : (first count place : ℕ) → place < first → has_number (range_with_len first count) place ≡ false
before_range first zero place lt = refl
before_range first (suc count) place lt =
    before_step first place (first == place) (has_number (range_with_len (first + 1) count) place) refl lt (before_range (first + 1) count place (omega (arith, lt)))

-- so it is among the places before them
of_first : (a b : Bool) → b ≡ false → (a || b) ≡ true → a ≡ true
of_first true b none either = refl
of_first false true none either = absurd (let wrong : ⊥ = cc in wrong)
of_first false false none either = either

has_number-before : (places all : List ℕ) (first count place : ℕ) → all ≡ places ++ range_with_len first count → place < first → has_number all place ≡ true → has_number places place ≡ true
has_number-before places all first count place is lt has =
    of_first (has_number places place) (has_number (range_with_len first count) place) (before_range first count place lt)
    (sym (ap (λ ps. has_number ps place) is ∙ list_any-append (λ p. p == place) places (range_with_len first count)) ∙ has)

-- where nothing has changed
pub IsLater-same : (old new : Stored) → new.base ≡ old.base → new.entries ≡ old.entries → new.places ≡ old.places → IsLater old new
IsLater-same old new base entries places = record {
  base = base;
  more = [];
  entries = entries ∙ sym (append-nil old.entries);
  fewer = λ place lt has. sym (ap (λ ps. has_number ps place) places) ∙ has;
}

-- a commit behind one that took elements away
pub IsLater-commit : (old between new : Stored) (next count : ℕ) (c : Choice) (done : Effect) (before after : Places) → IsSameBesideMemory old between → IsStored between.base between.entries between.next before → before.places ≡ between.places → IsCommit next count c done between.entries new.entries before after → new.places ≡ after.places → new.base ≡ between.base → IsLater old new
IsLater-commit old between new next count c done before after same stored before_is is after_is base = record {
  base = base ∙ same.base;
  more = entry_of next c done ∷ [];
  entries = is.entries' ∙ ap (λ es. es ++ entry_of next c done ∷ []) same.entries;
  fewer = λ place lt has.
      let all : length (came between.base between.entries) ≡ before.came = length-append between.base.elements (born_in between.entries) ∙ sym stored.counted in
      let old_all : length (came old.base old.entries) ≡ length (came between.base between.entries) = (λ i. length (came (sym same.base i) (sym same.entries i))) in
      let within : place < before.came = omega (arith, all, old_all, lt) in
      same.fewer place (ap (λ ps. has_number ps place) (sym before_is) ∙ has_number-before before.places after.places before.came count place is.places within (ap (λ ps. has_number ps place) (sym after_is) ∙ has));
}
