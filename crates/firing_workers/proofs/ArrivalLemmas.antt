-- A part goes on following as an element comes.
use Rattle.std.proofs.Common.{◌≡◌, ℕ, ◌+◌, ◌<◌, ◌≤◌, ◌&&◌, List, [], ◌∷◌, ◌++◌, Bool, true, false, not, Option, Some, None, length, length-append, option_map, slice_get, refl, ap, sym, ◌∙◌, subst, inl, inr, arith}
use Rattle.std.specs.List.{AllByRecursion}
use Rattle.std.proofs.lemmas.Bool.{false_from_ne_true}
use Rattle.std.proofs.lemmas.List.{length-map}
use Rattle.std.proofs.lemmas.Option.{slice_get-map}
use Rattle.rule_base.specs.declared.base.Refraction.{Refraction}
use Rattle.rule_base.specs.declared.base.Refraction.TheVariants.{Once, Renewed}
use Rattle.rule_base.specs.declared.element.Element.{Element}
use Rattle.rule_base.specs.declared.instantiation.Choice.{Choice}
use Rattle.rule_base.specs.declared.program.Program.{Program}
use Rattle.rule_base.specs.declared.program.Rule.{Rule}
use Rattle.rule_base.specs.Memory.{Memory, tags_of}
use Rattle.rule_base.specs.Numbers.{has_number}
use Rattle.rule_base.specs.State.{State, has_fired}
use Rattle.rule_base.proofs.EachLemmas.{Each-append, Each-weaker}
use Rattle.join_tests.specs.declared.joins.Joins.{Joins}
use Rattle.join_tests.specs.Meaning.{IsCompiled}
use Rattle.match_network.specs.Arrivals.{with_arrival}
use Rattle.match_network.specs.Levels.{HaveCome}
use Rattle.match_network.specs.Network.{AllHaveLevels, AreAllRight, Network, joins_in}
use Rattle.match_network.specs.Row.{elements_of}
use Rattle.match_network.specs.Rules.{AreCompiled, RuleRows}
use Rattle.match_network.specs.Told.{AllAreTold}
use Rattle.match_network.specs.Touched.{AllGrow}
use Rattle.match_network.proofs.ComeLemmas.{elements_of-come}
use Rattle.match_network.proofs.TagLemmas.{tags-push}
use Rattle.match_network.proofs.TakeLemmas.{last_came}
use Rattle.conflict_parts.specs.Choices.{choice_at}
use Rattle.conflict_parts.specs.Marks.{blocks_row, ends}
use Rattle.conflict_parts.specs.Part.{IsLivingRow, Part, full_row, full_rows, is_free_row}
use Rattle.conflict_parts.specs.Standings.{is_marked}
use Rattle.conflict_parts.proofs.RowLemmas.{living-below, rows_came, rows_grow}
use Rattle.firing_workers.specs.Following.{Follows, stays_fired, with_arrived}
use Rattle.firing_workers.specs.FollowingLaws.{ArrivalIsFollowed}
use Rattle.firing_workers.proofs.FiredLemmas.{has_tag_of, unfired-new}
use Rattle.firing_workers.proofs.FreeLemmas.{free_of, free_of-joins, free_of-more, memory-comes}

-- the rule with a number before its levels grew
record Before (old : List RuleRows) (number : ℕ) (after : RuleRows) : Type 0 where
  kept : RuleRows
  is : slice_get old number ≡ Some kept
  joins_are : after.joins ≡ kept.joins

before_step : (old : List RuleRows) (number : ℕ) (after : RuleRows) (found : Option RuleRows) → slice_get old number ≡ found → Some after.joins ≡ option_map (λ (r : RuleRows). r.joins) found → Before old number after
before_step old number after None at same = absurd (let wrong : ⊥ = cc in wrong)
before_step old number after (Some kept) at same = record { kept = kept; is = at; joins_are = (let is : after.joins ≡ kept.joins = cc in is) }

before_of : (old new : List RuleRows) (number : ℕ) (after : RuleRows) → joins_in new ≡ joins_in old → slice_get new number ≡ Some after → Before old number after
before_of old new number after same at =
    before_step old number after (slice_get old number) refl
    (ap (option_map (λ (r : RuleRows). r.joins)) (sym at) ∙ sym (slice_get-map (λ (r : RuleRows). r.joins) new number)
    ∙ ap (λ (js : List Joins). slice_get js number) same ∙ slice_get-map (λ (r : RuleRows). r.joins) old number)

compiled_still : (rules : List Rule) (old new : List RuleRows) → joins_in new ≡ joins_in old → AreCompiled rules old → AreCompiled rules new
compiled_still rules old new same compiled = record {
  count = sym (length-map new (λ (r : RuleRows). r.joins)) ∙ ap (λ (js : List Joins). length js) same ∙ length-map old (λ (r : RuleRows). r.joins) ∙ compiled.count;
  each = λ number rule rows at there.
      let before = before_of old new number rows same there in
      subst (IsCompiled rule) (sym before.joins_are) (compiled.each number rule before.kept at before.is);
}

-- the part that there is as an element comes
abbrev grown : Part → Part → Element → Part
grown old new e = record {
  network = record {
    arrivals = with_arrival old.network.arrivals e;
    rules = new.network.rules;
    due = new.network.due;
    negated_due = new.network.negated_due;
    held = new.network.held;
    left = new.network.left;
  };
  standings = new.standings;
  refraction = old.refraction;
}

grown_is : (old new : Part) (e : Element) → new.network.arrivals ≡ with_arrival old.network.arrivals e → new.refraction ≡ old.refraction → new ≡ grown old new e
grown_is old new e arrivals refraction = λ i. record {
  network = record {
    arrivals = arrivals i;
    rules = new.network.rules;
    due = new.network.due;
    negated_due = new.network.negated_due;
    held = new.network.held;
    left = new.network.left;
  };
  standings = new.standings;
  refraction = refraction i;
}

-- a row is free where it was, and the element doesn't stand in its way
free_grown : (old new : Part) (e : Element) (rule : ℕ) (row : List ℕ) → joins_in new.network.rules ≡ joins_in old.network.rules → AllByRecursion (λ p. p < length old.network.arrivals.came) old.network.arrivals.places → HaveCome old.network.arrivals.came row →
    is_free_row (grown old new e).network rule row ≡ (is_free_row old.network rule row && not (blocks_row (grown old new e).network rule row (length old.network.arrivals.came)))
free_grown old new e rule row joins below come =
    let came = old.network.arrivals.came in
    let places = old.network.arrivals.places in
    let block = blocks_row (grown old new e).network rule row (length came) in
    ap (λ (memory : Memory). free_of (slice_get new.network.rules rule) memory (elements_of (came ++ e ∷ []) row)) (memory-comes came places e below)
    ∙ free_of-more (slice_get new.network.rules rule) came e (elements_of came places) row
    ∙ ap (λ (es : List Element). free_of (slice_get new.network.rules rule) (elements_of came places) es && not block) (elements_of-come came e row come)
    ∙ ap (λ b. b && not block) (free_of-joins old.network.rules new.network.rules rule (elements_of came places) (elements_of came row) joins)

-- its mark ends where it stops being free
mark_ends : (r : Refraction) (network : Network) (rule : ℕ) (row : List ℕ) (place : ℕ) (fired free now : Bool) → now ≡ (free && not (blocks_row network rule row place)) → ((fired && stays_fired r free) && not (ends r network rule row place)) ≡ (fired && stays_fired r now)
mark_ends Once network rule row place true free now is = refl
mark_ends Once network rule row place false free now is = refl
mark_ends Renewed network rule row place true free now is = sym is
mark_ends Renewed network rule row place false free now is = refl

abbrev Marks : Part → Part → ℕ → Type 0
Marks old part place =
    (rule number : ℕ) (row : List ℕ) → IsLivingRow part.network rule number row →
    is_marked part.standings rule number ≡ (is_marked old.standings rule number && not (ends part.refraction part.network rule row place))

-- rows that were there
old_row : (program : Program) (s : State) (old new : Part) (e : Element) → Follows program s old → AreAllRight old.network → joins_in new.network.rules ≡ joins_in old.network.rules → Marks old (grown old new e) (length old.network.arrivals.came) →
    (rule number : ℕ) (row : List ℕ) → IsLivingRow (grown old new e).network rule number row → full_row old.network.rules rule number ≡ Some row →
    is_marked new.standings rule number ≡ (has_fired (with_arrived s e) (choice_at (grown old new e).network rule row) && stays_fired s.refraction (is_free_row (grown old new e).network rule row))
old_row program s old new e follows right joins marks rule number row lives was =
    let came = old.network.arrivals.came in
    let now : Network = (grown old new e).network in
    let come = rows_came old.network right rule number row was in
    let lived : IsLivingRow old.network rule number row = record { is = was; lives = living-below old.network.arrivals.places row (length came) come lives.lives } in
    let free = free_grown old new e rule row joins follows.of.below come in
    marks rule number row lives
    ∙ ap (λ r. is_marked old.standings rule number && not (ends r now rule row (length came))) follows.refraction
    ∙ ap (λ b. b && not (ends s.refraction now rule row (length came))) (follows.marks rule number row lived)
    ∙ mark_ends s.refraction now rule row (length came) (has_fired s (choice_at old.network rule row)) (is_free_row old.network rule row) (is_free_row now rule row) free
    ∙ ap (λ (es : List Element). has_fired s (let c : Choice = record { rule = rule; tags = tags_of es } in c) && stays_fired s.refraction (is_free_row now rule row)) (sym (elements_of-come came e row come))

-- rows that are new
new_row : (program : Program) (s : State) (old new : Part) (e : Element) → Follows program s old → s.next ≤ e.tag → ((rule number : ℕ) → is_marked old.standings rule number ≡ true → number < length (full_rows old.network.rules rule)) → Marks old (grown old new e) (length old.network.arrivals.came) →
    (rule number : ℕ) (row : List ℕ) → IsLivingRow (grown old new e).network rule number row → length (full_rows old.network.rules rule) ≤ number → has_number row (length old.network.arrivals.came) ≡ true →
    is_marked new.standings rule number ≡ (has_fired (with_arrived s e) (choice_at (grown old new e).network rule row) && stays_fired s.refraction (is_free_row (grown old new e).network rule row))
new_row program s old new e follows late no_more marks rule number row lives past has =
    let came = old.network.arrivals.came in
    let now : Network = (grown old new e).network in
    let unmarked : is_marked old.standings rule number ≡ false = false_from_ne_true (is_marked old.standings rule number) (λ marked. omega (arith, no_more rule number marked, past)) in
    let unfired : has_fired (with_arrived s e) (choice_at now rule row) ≡ false =
    unfired-new s.next e.tag (choice_at now rule row) s.fired follows.fired late (has_tag_of (came ++ e ∷ []) row (length came) e (last_came came e) has) in
    marks rule number row lives
    ∙ ap (λ b. b && not (ends old.refraction now rule row (length came))) unmarked
    ∙ sym (ap (λ b. b && stays_fired s.refraction (is_free_row now rule row)) unfired)

arrival : (program : Program) (s : State) (old new : Part) (e : Element) → Follows program s old → s.next ≤ e.tag →
    AreAllRight old.network → AllHaveLevels old.network → AllHaveLevels (grown old new e).network →
    joins_in new.network.rules ≡ joins_in old.network.rules →
    AllGrow (old.network.arrivals.came ++ e ∷ []) (length old.network.arrivals.came) old.network.rules new.network.rules → AllAreTold (grown old new e).network →
    ((rule number : ℕ) → is_marked old.standings rule number ≡ true → number < length (full_rows old.network.rules rule)) →
    Marks old (grown old new e) (length old.network.arrivals.came) →
    Follows program (with_arrived s e) (grown old new e)
arrival program s old new e follows late right long_old long_new joins grows told no_more marks =
    let came = old.network.arrivals.came in
    let places = old.network.arrivals.places in
    let now : Network = (grown old new e).network in
    record {
      of = record {
        compiled = compiled_still program.rules old.network.rules new.network.rules joins follows.of.compiled;
        told = told;
        rising = tags-push came e follows.of.rising (Each-weaker (λ (f : Element). f.tag < s.next) (λ (f : Element). f.tag < e.tag) (λ f lt. omega (arith, lt, late)) came follows.came);
        below = Each-append (λ place. place < length (came ++ e ∷ [])) places (length came ∷ [])
            (Each-weaker (λ place. place < length came) (λ place. place < length (came ++ e ∷ [])) (λ place lt. omega (arith, lt, length-append came (e ∷ []))) places follows.of.below)
            (omega (arith, length-append came (e ∷ [])), tt);
      };
      refraction = follows.refraction;
      memory = memory-comes came places e follows.of.below ∙ ap (λ (memory : Memory). memory ++ e ∷ []) follows.memory;
      came = Each-append (λ (f : Element). f.tag < e.tag + 1) came (e ∷ [])
          (Each-weaker (λ (f : Element). f.tag < s.next) (λ (f : Element). f.tag < e.tag + 1) (λ f lt. omega (arith, lt, late)) came follows.came) (omega arith, tt);
      fired = Each-weaker (λ (c : Choice). AllByRecursion (λ tag. tag < s.next) c.tags) (λ (c : Choice). AllByRecursion (λ tag. tag < e.tag + 1) c.tags)
          (λ c below. Each-weaker (λ tag. tag < s.next) (λ tag. tag < e.tag + 1) (λ tag lt. omega (arith, lt, late)) c.tags below) s.fired follows.fired;
      marks = λ rule number row lives.
          elim (rows_grow old.network now joins grows long_old long_new rule number row lives.is) [
            | inl was ↦ old_row program s old new e follows right joins marks rule number row lives was
            | inr further ↦ new_row program s old new e follows late no_more marks rule number row lives further.0 further.1
          ];
    }

pub arrival_is_followed : ArrivalIsFollowed
arrival_is_followed program s old new e follows late right long_old long_new arrivals joins grows told refraction no_more marks =
    let same = grown_is old new e arrivals refraction in
    subst (λ (part : Part). Follows program (with_arrived s e) part) (sym same)
    (arrival program s old new e follows late right long_old
    (subst (λ (part : Part). AllHaveLevels part.network) same long_new) joins
    (subst (λ (part : Part). AllGrow part.network.arrivals.came (length old.network.arrivals.came) old.network.rules part.network.rules) same grows)
    (subst (λ (part : Part). AllAreTold part.network) same told) no_more
    (subst (λ (part : Part). Marks old part (length old.network.arrivals.came)) same marks))
