-- A part goes on following as a choice fires, as elements go, and as choices stop being fired.
use Rattle.std.proofs.Common.{◌≡◌, ℕ, ◌<◌, ◌==◌, ◌||◌, ◌&&◌, List, [], ◌∷◌, ◌++◌, Bool, true, false, not, Some, length, slice_get, refl, ap, sym, ◌∙◌, subst, inl, inr}
use Rattle.std.specs.List.{AllByRecursion, list_any}
use Rattle.std.proofs.lemmas.Bool.{and_from, eq-eqb, or_cases}
use Rattle.rule_base.specs.declared.base.Refraction.{Refraction}
use Rattle.rule_base.specs.declared.base.Refraction.TheVariants.{Once, Renewed}
use Rattle.rule_base.specs.declared.element.Element.{Element}
use Rattle.rule_base.specs.declared.instantiation.Choice.{Choice}
use Rattle.rule_base.specs.declared.program.Program.{Program}
use Rattle.rule_base.specs.Memory.{Memory}
use Rattle.rule_base.specs.State.{State, has_fired, same_choice}
use Rattle.rule_base.specs.Step.{is_listed, matches, memory_after, still_fired, without}
use Rattle.rule_base.proofs.ChoiceLemmas.{same_choice-equal, same_choice-itself}
use Rattle.rule_base.proofs.EachLemmas.{Each-append, Each-filter}
use Rattle.rule_base.proofs.ListedLemmas.{list_any-matches}
use Rattle.rule_base.proofs.StillFiredLemmas.{still_fired-listed}
use Rattle.match_network.specs.Arrivals.{has_tag, without_tag}
use Rattle.match_network.specs.Network.{Network}
use Rattle.match_network.specs.Row.{elements_of}
use Rattle.match_network.specs.Told.{AllAreTold}
use Rattle.conflict_parts.specs.declared.standing.RowId.{RowId}
use Rattle.conflict_parts.specs.declared.standing.Standing.{Standing}
use Rattle.conflict_parts.specs.Choices.{IsNetworkOf, choice_at}
use Rattle.conflict_parts.specs.Part.{IsLivingRow, Part, full_row, is_free_row}
use Rattle.conflict_parts.specs.Queue.{same_row}
use Rattle.conflict_parts.specs.Standings.{is_marked}
use Rattle.conflict_parts.proofs.ChoiceLemmas.{living_rows_differ, living_rows_match}
use Rattle.conflict_parts.proofs.QueueLemmas.{same_row-is}
use Rattle.conflict_parts.proofs.RowLemmas.{full_row-same, living-filter}
use Rattle.firing_workers.specs.Following.{Follows, IsSettled, stays_fired, with_changes, with_fired, with_removed}
use Rattle.firing_workers.specs.FollowingLaws.{CommitIsFollowed, MarkingIsFollowed, RemovalIsFollowed}
use Rattle.firing_workers.proofs.FiredLemmas.{and_false, fired-more, stays_fired-free, tags_below}
use Rattle.firing_workers.proofs.FreeLemmas.{free_of, free_of-fewer, memory-goes}

-- tests that hold together are the same
same_tests : (a b : Bool) → (a ≡ true → b ≡ true) → (b ≡ true → a ≡ true) → a ≡ b
same_tests true b there back = sym (there refl)
same_tests false true there back = back refl
same_tests false false there back = refl

-- a living row with the numbers of another is that row
this_row : (network : Network) (rule number : ℕ) (row : List ℕ) (id : RowId) (other : List ℕ) → IsLivingRow network rule number row → IsLivingRow network id.rule id.row other → same_row rule number id ≡ true → (rule ≡ id.rule) × (row ≡ other)
this_row network rule number row id other lives living same =
    let parts = same_row-is rule number id same in
    let here : full_row network.rules id.rule id.row ≡ Some row =
    subst (λ r. full_row network.rules r id.row ≡ Some row) (sym parts.0) (subst (λ n. full_row network.rules rule n ≡ Some row) (sym parts.1) lives.is) in
    (sym parts.0, full_row-same network.rules id.rule id.row row other here living.is)

-- so their choices are the same just where their numbers are
by_numbers : (program : Program) (network : Network) (rule number : ℕ) (row : List ℕ) (id : RowId) (other : List ℕ) → IsNetworkOf program network → IsLivingRow network rule number row → IsLivingRow network id.rule id.row other →
    same_choice (choice_at network rule row) (choice_at network id.rule other) ≡ same_row rule number id
by_numbers program network rule number row id other of lives living =
    same_tests (same_choice (choice_at network rule row) (choice_at network id.rule other)) (same_row rule number id)
    (λ same.
    let rule_is : rule ≡ id.rule = ap (λ (c : Choice). c.rule) (same_choice-equal (choice_at network rule row) (choice_at network id.rule other) same) in
    let number_is : number ≡ id.row =
    living_rows_differ program network rule number id.row row other of lives
    (subst (λ r. IsLivingRow network r id.row other) (sym rule_is) living)
    (subst (λ r. same_choice (choice_at network rule row) (choice_at network r other) ≡ true) (sym rule_is) same) in
    and_from (id.rule == rule) (id.row == number) (eq-eqb id.rule rule (sym rule_is)) (eq-eqb id.row number (sym number_is)))
    (λ same.
    let this = this_row network rule number row id other lives living same in
    ap (λ (c : Choice). same_choice c (choice_at network id.rule other)) (same_at network rule id.rule row other this.0 this.1) ∙ same_choice-itself (choice_at network id.rule other))
  where
    same_at : (network : Network) (rule second : ℕ) (row other : List ℕ) → rule ≡ second → row ≡ other → choice_at network rule row ≡ choice_at network second other
    same_at network rule second row other rule_is row_is = λ i. choice_at network (rule_is i) (row_is i)

marked_too : (fired stays same : Bool) → (same ≡ true → stays ≡ true) → ((fired && stays) || same) ≡ ((fired || same) && stays)
marked_too true true same free = refl
marked_too true false true free = let wrong : false ≡ true = free refl in absurd (let clash : ⊥ = cc in clash)
marked_too true false false free = refl
marked_too false stays true free = sym (free refl)
marked_too false stays false free = refl

-- the same network and refraction, with other marks
abbrev remarked : Part → List (List Standing) → Part
remarked old standings = record { network = old.network; standings = standings; refraction = old.refraction }

remarked_is : (old new : Part) → new.network ≡ old.network → new.refraction ≡ old.refraction → new ≡ remarked old new.standings
remarked_is old new network refraction = λ i. record { network = network i; standings = new.standings; refraction = refraction i }

marking : (program : Program) (s : State) (old : Part) (standings : List (List Standing)) (id : RowId) (row : List ℕ) → Follows program s old → IsSettled s old →
    IsLivingRow old.network id.rule id.row row → is_free_row old.network id.rule row ≡ true →
    ((rule number : ℕ) → is_marked standings rule number ≡ (is_marked old.standings rule number || same_row rule number id)) →
    Follows program (with_fired s (choice_at old.network id.rule row)) (remarked old standings) × IsSettled (with_fired s (choice_at old.network id.rule row)) (remarked old standings)
marking program s old standings id row follows settled living free marks =
    let network = old.network in
    let c = choice_at network id.rule row in
    let stays_there : (rule number : ℕ) (other : List ℕ) → IsLivingRow network rule number other → same_row rule number id ≡ true → stays_fired s.refraction (is_free_row network rule other) ≡ true =
    λ rule number other lives same.
    let this = this_row network rule number other id row lives living same in
    let is : is_free_row network rule other ≡ true =
    subst (λ r. is_free_row network r other ≡ true) (sym this.0) (subst (λ (o : List ℕ). is_free_row network id.rule o ≡ true) (sym this.1) free) in
    stays_fired-free s.refraction (is_free_row network rule other) is in
    let fired_now : (rule number : ℕ) (other : List ℕ) → IsLivingRow network rule number other → has_fired (with_fired s c) (choice_at network rule other) ≡ (has_fired s (choice_at network rule other) || same_row rule number id) =
    λ rule number other lives.
    fired-more (choice_at network rule other) c s.fired
    ∙ ap (λ b. has_fired s (choice_at network rule other) || b) (by_numbers program network rule number other id row follows.of lives living) in (
      record {
        of = follows.of;
        refraction = follows.refraction;
        memory = follows.memory;
        came = follows.came;
        fired = Each-append (λ (d : Choice). AllByRecursion (λ tag. tag < s.next) d.tags) s.fired (c ∷ []) follows.fired (tags_below s.next network.arrivals.came row follows.came, tt);
        marks = λ rule number other lives.
            marks rule number
            ∙ ap (λ b. b || same_row rule number id) (follows.marks rule number other lives)
            ∙ marked_too (has_fired s (choice_at network rule other)) (stays_fired s.refraction (is_free_row network rule other)) (same_row rule number id) (stays_there rule number other lives)
            ∙ ap (λ b. b && stays_fired s.refraction (is_free_row network rule other)) (sym (fired_now rule number other lives));
      },
      record {
        stays = λ rule number other lives fired.
            elim (or_cases (has_fired s (choice_at network rule other)) (same_row rule number id) (sym (fired_now rule number other lives) ∙ fired)) [
              | inl before ↦ settled.stays rule number other lives before
              | inr same ↦ stays_there rule number other lives same
            ];
      },
    )

pub marking_is_followed : MarkingIsFollowed
marking_is_followed program s old new id row follows settled living free network refraction marks =
    let c = choice_at old.network id.rule row in
    subst (λ (part : Part). Follows program (with_fired s c) part × IsSettled (with_fired s c) part) (sym (remarked_is old new network refraction))
    (marking program s old new.standings id row follows settled living free marks)

-- the part that is left as an element goes
abbrev lessened : Part → Part → ℕ → Part
lessened old new tag = record {
  network = record {
    arrivals = without_tag old.network.arrivals tag;
    rules = old.network.rules;
    due = new.network.due;
    negated_due = new.network.negated_due;
    held = new.network.held;
    left = new.network.left;
  };
  standings = new.standings;
  refraction = old.refraction;
}

lessened_is : (old new : Part) (tag : ℕ) → new.network.arrivals ≡ without_tag old.network.arrivals tag → new.network.rules ≡ old.network.rules → new.refraction ≡ old.refraction → new ≡ lessened old new tag
lessened_is old new tag arrivals rules refraction = λ i. record {
  network = record {
    arrivals = arrivals i;
    rules = rules i;
    due = new.network.due;
    negated_due = new.network.negated_due;
    held = new.network.held;
    left = new.network.left;
  };
  standings = new.standings;
  refraction = refraction i;
}

still_marked : (fired before after : Bool) → (fired ≡ true → before ≡ true) → (fired ≡ true → after ≡ true) → (fired && before) ≡ (fired && after)
still_marked true before after was is = was refl ∙ sym (is refl)
still_marked false before after was is = refl

stays_free : (r : Refraction) (before after : Bool) → (before ≡ true → after ≡ true) → stays_fired r before ≡ true → stays_fired r after ≡ true
stays_free Once before after more is = refl
stays_free Renewed before after more is = more is

removal : (program : Program) (s : State) (old new : Part) (tag : ℕ) → Follows program s old → IsSettled s old → AllAreTold (lessened old new tag).network →
    ((rule number : ℕ) → is_marked new.standings rule number ≡ is_marked old.standings rule number) →
    Follows program (with_removed s (tag ∷ [])) (lessened old new tag) × IsSettled (with_removed s (tag ∷ [])) (lessened old new tag)
removal program s old new tag follows settled told marks =
    let came = old.network.arrivals.came in
    let places = old.network.arrivals.places in
    let keep : ℕ → Bool = λ p. not (has_tag came tag p) in
    let now : Network = (lessened old new tag).network in
    let lived : (rule number : ℕ) (row : List ℕ) → IsLivingRow now rule number row → IsLivingRow old.network rule number row =
    λ rule number row lives. record { is = lives.is; lives = living-filter keep places row lives.lives } in
    let free_still : (rule : ℕ) (row : List ℕ) → is_free_row old.network rule row ≡ true → is_free_row now rule row ≡ true =
    λ rule row free.
    ap (λ (memory : Memory). free_of (slice_get old.network.rules rule) memory (elements_of came row)) (memory-goes came tag places)
    ∙ free_of-fewer (slice_get old.network.rules rule) (λ (e : Element). not (list_any (λ t. t == e.tag) (tag ∷ []))) (elements_of came places) (elements_of came row) free in
    let stays_still : (rule number : ℕ) (row : List ℕ) → IsLivingRow now rule number row → has_fired s (choice_at old.network rule row) ≡ true → stays_fired s.refraction (is_free_row now rule row) ≡ true =
    λ rule number row lives fired.
    stays_free s.refraction (is_free_row old.network rule row) (is_free_row now rule row) (free_still rule row) (settled.stays rule number row (lived rule number row lives) fired) in (
      record {
        of = record {
          compiled = follows.of.compiled;
          told = told;
          rising = follows.of.rising;
          below = Each-filter (λ place. place < length came) keep places follows.of.below;
        };
        refraction = follows.refraction;
        memory = memory-goes came tag places ∙ ap (λ (memory : Memory). without memory (tag ∷ [])) follows.memory;
        came = follows.came;
        fired = follows.fired;
        marks = λ rule number row lives.
            marks rule number
            ∙ follows.marks rule number row (lived rule number row lives)
            ∙ still_marked (has_fired s (choice_at old.network rule row)) (stays_fired s.refraction (is_free_row old.network rule row)) (stays_fired s.refraction (is_free_row now rule row))
            (settled.stays rule number row (lived rule number row lives)) (stays_still rule number row lives);
      },
      record { stays = λ rule number row lives fired. stays_still rule number row lives fired },
    )

pub removal_is_followed : RemovalIsFollowed
removal_is_followed program s old new tag follows settled arrivals rules told refraction marks =
    let same = lessened_is old new tag arrivals rules refraction in
    subst (λ (part : Part). Follows program (with_removed s (tag ∷ [])) part × IsSettled (with_removed s (tag ∷ [])) part) (sym same)
    (removal program s old new tag follows settled (subst (λ (part : Part). AllAreTold part.network) same told) marks)

-- what stays fired was fired
each_still : (r : Refraction) (P : Choice → Type 0) (program : Program) (memory : Memory) (fired : List Choice) → AllByRecursion P fired → AllByRecursion P (still_fired r program memory fired)
each_still Once P program memory fired each = each
each_still Renewed P program memory fired each = Each-filter P (is_listed program memory) fired each

-- and what is free is fired as before
fired_still : (r : Refraction) (program : Program) (memory : Memory) (fired : List Choice) (c : Choice) (free : Bool) → matches program memory c ≡ free → (list_any (same_choice c) fired && stays_fired r free) ≡ (list_any (same_choice c) (still_fired r program memory fired) && stays_fired r free)
fired_still Once program memory fired c free is = refl
fired_still Renewed program memory fired c false is = and_false (list_any (same_choice c) fired) ∙ sym (and_false (list_any (same_choice c) (still_fired Renewed program memory fired)))
fired_still Renewed program memory fired c true is = ap (λ b. b && true) (sym (still_fired-listed Renewed program memory fired c (list_any-matches program memory c is)))

pub commit_is_followed : CommitIsFollowed
commit_is_followed program s c done part follows = record {
  of = follows.of;
  refraction = follows.refraction;
  memory = follows.memory;
  came = follows.came;
  fired = each_still s.refraction (λ (d : Choice). AllByRecursion (λ tag. tag < (with_changes s c done).next) d.tags) program (memory_after s done) (s.fired ++ c ∷ []) follows.fired;
  marks = λ rule number row lives.
      follows.marks rule number row lives
      ∙ fired_still s.refraction program (memory_after s done) (s.fired ++ c ∷ []) (choice_at part.network rule row) (is_free_row part.network rule row)
      (ap (λ (memory : Memory). matches program memory (choice_at part.network rule row)) (sym follows.memory) ∙ living_rows_match program part.network rule number row follows.of lives);
}
