-- What is left to fire, told by the living rows of a part that follows.
use Rattle.std.proofs.Common.{◌≡◌, ℕ, ◌⊎◌, List, Bool, true, false, Some, refl, ap, sym, ◌∙◌, subst, inl, inr}
use Rattle.std.specs.List.{AllByRecursion, list_any}
use Rattle.std.proofs.lemmas.Bool.{and_parts, false_from_ne_true}
use Rattle.rule_base.specs.declared.base.Refraction.{Refraction}
use Rattle.rule_base.specs.declared.base.Refraction.TheVariants.{Once, Renewed}
use Rattle.rule_base.specs.declared.instantiation.Choice.{Choice}
use Rattle.rule_base.specs.declared.program.Program.{Program}
use Rattle.rule_base.specs.Base.{StillMatch}
use Rattle.rule_base.specs.ConflictSet.{conflict_set}
use Rattle.rule_base.specs.Ending.{is_quiet}
use Rattle.rule_base.specs.Memory.{Memory}
use Rattle.rule_base.specs.State.{State, has_fired, same_choice}
use Rattle.rule_base.specs.Step.{is_listed, matches}
use Rattle.rule_base.proofs.EachLemmas.{Each-list_all, Each-weaker}
use Rattle.rule_base.proofs.ListedLemmas.{list_any-matches}
use Rattle.conflict_parts.specs.declared.standing.Standing.TheVariants.{Marked}
use Rattle.conflict_parts.specs.Choices.{IsRowOf, choice_at}
use Rattle.conflict_parts.specs.Part.{IsLivingRow, Part, is_free_row}
use Rattle.conflict_parts.specs.Standings.{is_marked, standing_at}
use Rattle.conflict_parts.proofs.ChoiceLemmas.{living_rows_match, matches_are_living_rows}
use Rattle.firing_workers.specs.Following.{Follows, stays_fired}
use Rattle.firing_workers.specs.FollowingLaws.{CandidatesAreLeft, MatchingIsSettled, NoneIsQuiet}
use Rattle.firing_workers.proofs.FiredLemmas.{Each-same, list_all-each, stays_fired-free, unfired_of}
use Rattle.firing_workers.proofs.FoundLemmas.{AllMatch-came}

-- the choices of the conflict set match
all_match : (program : Program) (s : State) (part : Part) → Follows program s part → AllByRecursion (λ (c : Choice). matches program s.memory c ≡ true) (conflict_set program s.memory)
all_match program s part follows =
    subst (λ (m : Memory). AllByRecursion (λ (c : Choice). matches program m c ≡ true) (conflict_set program m)) follows.memory
    (AllMatch-came program part.network.arrivals.came part.network.arrivals.places follows.of.rising)

-- a row's choice matches where the row is free
row_matches : (program : Program) (s : State) (part : Part) (rule number : ℕ) (row : List ℕ) → Follows program s part → IsLivingRow part.network rule number row → matches program s.memory (choice_at part.network rule row) ≡ is_free_row part.network rule row
row_matches program s part rule number row follows lives =
    ap (λ (m : Memory). matches program m (choice_at part.network rule row)) (sym follows.memory) ∙ living_rows_match program part.network rule number row follows.of lives

pub candidates_are_left : CandidatesAreLeft
candidates_are_left program s part id follows candidate =
    let c = choice_at part.network id.rule candidate.row in
    let unmarked : is_marked part.standings id.rule id.row ≡ false = rw candidate.stands refl in
    let unfired : has_fired s c ≡ false =
    unfired_of (has_fired s c) (stays_fired s.refraction (is_free_row part.network id.rule candidate.row))
    (sym (follows.marks id.rule id.row candidate.row candidate.lives) ∙ unmarked)
    (stays_fired-free s.refraction (is_free_row part.network id.rule candidate.row) candidate.free) in
    let matching : matches program s.memory c ≡ true = row_matches program s part id.rule id.row candidate.row follows candidate.lives ∙ candidate.free in
    record {
      matching = matching;
      unfired = unfired;
      not_quiet = false_from_ne_true (is_quiet program s) (λ quiet.
          let fired : has_fired s c ≡ true =
          Each-same (λ (d : Choice). has_fired s d ≡ true) c (conflict_set program s.memory) (Each-list_all (has_fired s) (conflict_set program s.memory) quiet) (list_any-matches program s.memory c matching) in
          let wrong : true ≡ false = sym fired ∙ unfired in
          let clash : ⊥ = cc in clash);
    }

-- a row that is free and no candidate stands for a fired choice
row_fired : (program : Program) (s : State) (part : Part) (c : Choice) → Follows program s part → (row : IsRowOf part.network c) → (standing_at part.standings c.rule row.number ≡ Some Marked) ⊎ (is_free_row part.network c.rule row.row ≡ false) → has_fired s c ≡ true
row_fired program s part c follows row (inl marked) =
    let is : is_marked part.standings c.rule row.number ≡ true = rw marked refl in
    let parts = and_parts (has_fired s (choice_at part.network c.rule row.row)) (stays_fired s.refraction (is_free_row part.network c.rule row.row)) (sym (follows.marks c.rule row.number row.row row.lives) ∙ is) in
    subst (λ (d : Choice). has_fired s d ≡ true) row.is parts.0
row_fired program s part c follows row (inr blocked) =
    let wrong : true ≡ false = sym row.free ∙ blocked in
    absurd (let clash : ⊥ = cc in clash)

pub none_is_quiet : NoneIsQuiet
none_is_quiet program s part follows none =
    list_all-each (has_fired s) (conflict_set program s.memory)
    (Each-weaker (λ (c : Choice). matches program s.memory c ≡ true) (λ (c : Choice). has_fired s c ≡ true)
    (λ c matching.
    let row = matches_are_living_rows program part.network c follows.of (ap (λ (m : Memory). matches program m c) follows.memory ∙ matching) in
    row_fired program s part c follows row (none c.rule row.number row.row row.lives))
    (conflict_set program s.memory) (all_match program s part follows))

settled_by : (r : Refraction) (program : Program) (memory : Memory) (fired : List Choice) (c : Choice) (free : Bool) → StillMatch r program memory fired → list_any (same_choice c) fired ≡ true → (is_listed program memory c ≡ true → free ≡ true) → stays_fired r free ≡ true
settled_by Once program memory fired c free matching any listed = refl
settled_by Renewed program memory fired c free matching any listed = listed (Each-same (λ (d : Choice). is_listed program memory d ≡ true) c fired matching any)

pub matching_is_settled : MatchingIsSettled
matching_is_settled program s part follows matching = record {
  stays = λ rule number row lives fired.
      let c = choice_at part.network rule row in
      settled_by s.refraction program s.memory s.fired c (is_free_row part.network rule row) matching fired (λ listed.
      sym (row_matches program s part rule number row follows lives)
      ∙ Each-same (λ (d : Choice). matches program s.memory d ≡ true) c (conflict_set program s.memory) (all_match program s part follows) listed);
}
