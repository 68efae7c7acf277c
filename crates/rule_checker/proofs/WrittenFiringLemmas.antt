-- The choices of a checked program match and act as its text says: those of one rule at a time.
use Rattle.std.proofs.Common.{◌≡◌, ℕ, true, false, List, [], ◌∷◌, Option, None, Some, Result, Ok, Err, is_ok, option_map, option_and_then, slice_get, zero, suc, refl, ap}
use Rattle.std.specs.Option.{option_map_or}
use Rattle.std.specs.Result.{result_ok}
use Rattle.std.specs.List.{AllZip}
use Rattle.rule_base.specs.declared.instantiation.Choice.{Choice}
use Rattle.rule_base.specs.declared.program.Rule.{Rule}
use Rattle.rule_base.specs.declared.program.Program.{Program}
use Rattle.rule_base.specs.Bindings.{Bindings}
use Rattle.rule_base.specs.Memory.{Memory, elements_at}
use Rattle.rule_base.specs.Match.{match_of}
use Rattle.rule_base.specs.Effect.{Effect, Failure, effect}
use Rattle.rule_base.specs.Step.{matches}
use Rattle.ops_reader.specs.declared.form.Form.{Form}
use Rattle.rule_checker.specs.Checked.{checked}
use Rattle.rule_checker.specs.NamedBindings.{NamedValues}
use Rattle.rule_checker.specs.WrittenRules.{WrittenRule, written_rules}
use Rattle.rule_checker.specs.WrittenMatch.{written_match, MatchTheSame, AreOfClasses}
use Rattle.rule_checker.specs.WrittenEffect.{written_effect}
use Rattle.rule_checker.specs.WrittenFirings.{matches_written, effect_of_match, effect_written, FiresWhatIsWritten}
use Rattle.rule_checker.specs.WrittenLaws.{MeansWhatIsWritten}
use Rattle.rule_checker.proofs.WrittenLemmas.{checked-means}

-- what stands at a place of two lists side by side
abbrev BothAt : {A B : Type 0} → (A → B → Type 0) → Option A → Option B → Type 0
BothAt P None None = Unit {0}
BothAt P None (Some b) = ⊥
BothAt P (Some a) None = ⊥
BothAt P (Some a) (Some b) = P a b

zip-at : {A B : Type 0} (P : A → B → Type 0) (xs : List A) (ys : List B) (i : ℕ) → AllZip P xs ys → BothAt P (slice_get xs i) (slice_get ys i)
zip-at P [] [] i h = tt
zip-at P [] (y ∷ ys) i h = absurd h
zip-at P (x ∷ xs) [] i h = absurd h
zip-at P (x ∷ xs) (y ∷ ys) zero h = h.0
zip-at P (x ∷ xs) (y ∷ ys) (suc i) h = zip-at P xs ys i h.1

-- what matches the same is there in both or in neither
ok-same : (number : ℕ → Option ℕ) (r : Result Bindings ℕ) (w : Result NamedValues ℕ) → MatchTheSame number r w → is_ok r ≡ is_ok w
ok-same number (Err first) (Err second) h = refl
ok-same number (Err first) (Ok named) h = absurd h
ok-same number (Ok bindings) (Err second) h = absurd h
ok-same number (Ok bindings) (Ok named) h = refl

module _ (forms : List Form) (p : Program) (is : checked forms ≡ Ok p) (memory : Memory) (c : Choice) (sized : AreOfClasses p.classes memory) where
  both : BothAt (MeansWhatIsWritten p.classes) (slice_get (written_rules forms) c.rule) (slice_get p.rules c.rule)
  both = zip-at (MeansWhatIsWritten p.classes) (written_rules forms) p.rules c.rule (checked-means forms p is)

  matches-same : matches p memory c ≡ matches_written p.classes (written_rules forms) memory c
  matches-same = by (slice_get (written_rules forms) c.rule) (slice_get p.rules c.rule) both
    where
      by : (w : Option WrittenRule) (r : Option Rule) → BothAt (MeansWhatIsWritten p.classes) w r
          → option_map_or (λ (rule : Rule). is_ok (match_of rule c.tags memory)) r false ≡ option_map_or (λ (written : WrittenRule). is_ok (written_match p.classes written c.tags memory)) w false
      by None None h = refl
      by None (Some rule) h = absurd h
      by (Some w) None h = absurd h
      by (Some w) (Some rule) h = ok-same h.matches.number (match_of rule c.tags memory) (written_match p.classes w c.tags memory) (h.matches.same memory c.tags sized)

  -- the effect of a rule that matches
  effect-same : (w : WrittenRule) (rule : Rule) (h : MeansWhatIsWritten p.classes w rule) (r : Result Bindings ℕ) (n : Result NamedValues ℕ) → match_of rule c.tags memory ≡ r → written_match p.classes w c.tags memory ≡ n
      → MatchTheSame h.matches.number r n → is_ok r ≡ true
      → Some (effect rule (elements_at memory c.tags)) ≡ option_map (λ (bindings : NamedValues). written_effect p.classes w (elements_at memory c.tags) bindings) (result_ok n)
  effect-same w rule h (Err first) n is_match is_written same ok = absurd (cc)
  effect-same w rule h (Ok bindings) (Err second) is_match is_written same ok = absurd same
  effect-same w rule h (Ok bindings) (Ok named) is_match is_written same ok = ap (λ (e : Result Effect Failure). Some e) (h.acts.same memory c.tags bindings named sized is_match is_written)

  effects-same : matches p memory c ≡ true → option_map (λ (rule : Rule). effect rule (elements_at memory c.tags)) (slice_get p.rules c.rule) ≡ effect_written p.classes (written_rules forms) memory c
  effects-same = by (slice_get (written_rules forms) c.rule) (slice_get p.rules c.rule) both
    where
      by : (w : Option WrittenRule) (r : Option Rule) → BothAt (MeansWhatIsWritten p.classes) w r → option_map_or (λ (rule : Rule). is_ok (match_of rule c.tags memory)) r false ≡ true
          → option_map (λ (rule : Rule). effect rule (elements_at memory c.tags)) r ≡ option_and_then (effect_of_match p.classes memory c) w
      by None None h ok = refl
      by None (Some rule) h ok = absurd h
      by (Some w) None h ok = absurd h
      by (Some w) (Some rule) h ok =
          effect-same w rule h (match_of rule c.tags memory) (written_match p.classes w c.tags memory) refl refl (h.matches.same memory c.tags sized) ok

-- the choices of a checked program are those of its text
pub checked-fires : (forms : List Form) (p : Program) → checked forms ≡ Ok p → FiresWhatIsWritten (written_rules forms) p
checked-fires forms p is = record { same_matches = λ memory c sized. matches-same forms p is memory c sized; same_effects = λ memory c sized ok. effects-same forms p is memory c sized ok }
