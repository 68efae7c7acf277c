-- One rule more, and elements that go.
use Rattle.std.proofs.Common.{◌≡◌, inl, inr, ℕ, suc, ◌+◌, ◌<◌, List, [], ◌∷◌, ◌++◌, Bool, true, not, filter, length, map, Some, refl, ap, subst, sym, ◌∙◌, arith, slice_get, length-append}
use Rattle.std.proofs.lemmas.Bool.{cases_eq}
use Rattle.std.proofs.lemmas.List.{map-append}
use Rattle.rule_base.specs.declared.element.Element.{Element}
use Rattle.rule_base.specs.declared.program.Rule.{Rule}
use Rattle.rule_base.proofs.EachLemmas.{Each-append, Each-weaker}
use Rattle.join_tests.specs.Meaning.{IsCompiled}
use Rattle.alpha_memory.specs.Stores.{Store}
use Rattle.match_network.specs.declared.askers.Asker.{Asker}
use Rattle.match_network.specs.Arrivals.{Arrivals, has_tag, without_tag}
use Rattle.match_network.specs.Conditions.{entries_at, joins_of, rows_of}
use Rattle.match_network.specs.Negated.{AreNegatedServed, negated_in}
use Rattle.match_network.specs.Network.{IsNetwork}
use Rattle.match_network.specs.Rules.{AreAskers, AreBare, AreCompiled, GoesOn, IsAdded, IsRight, RuleRows}
use Rattle.match_network.proofs.ComeLemmas.{slice_get-more}
use Rattle.match_network.proofs.FilingLemmas.{levels_meet_removals, stores_meet_removals}
use Rattle.match_network.proofs.GivenLemmas.{within-is}
use Rattle.match_network.proofs.LevelLemmas.{places_may_go}
use Rattle.match_network.proofs.NegatedLemmas.{IsServed-without, negated_goes_on, negated_over}
use Rattle.match_network.proofs.RuleLemmas.{bare_right}

all_there : (rules : List RuleRows) → length (map (λ (rule : RuleRows). rule.stores) rules) ≡ length rules
all_there [] = refl
all_there (rule ∷ rules) = ap suc (all_there rules)

all_there_negated : (rules : List RuleRows) → length (negated_in rules) ≡ length rules
all_there_negated [] = refl
all_there_negated (rule ∷ rules) = ap suc (all_there_negated rules)

pub IsNetwork-push : (old new : List Store) (rules : List RuleRows) (rows : RuleRows) (askers more asks more_asks : List (List Asker)) → IsNetwork [] [] old rules askers asks → GoesOn old new → AreBare new → IsRight [] [] new rows → AreNegatedServed [] [] new rows → ((before : List (List ℕ)) → length before ≡ length rules → AreAskers before askers → AreAskers (before ++ rows.stores ∷ []) more) → ((before : List (List ℕ)) → length before ≡ length rules → AreAskers before asks → AreAskers (before ++ rows.negated ∷ []) more_asks) → IsNetwork [] [] new (rules ++ rows ∷ []) more more_asks
IsNetwork-push old new rules rows askers more asks more_asks held goes_on bare right served noted noted_negated = record {
  right = Each-append (IsRight [] [] new) rules (rows ∷ []) (Each-weaker (IsRight [] [] old) (IsRight [] [] new) (λ rule was. bare_right old new rule goes_on bare was) rules held.right) (right, tt);
  askers_are = subst (λ stores. AreAskers stores more) (sym (map-append (λ (rule : RuleRows). rule.stores) rules (rows ∷ [])))
      (noted (map (λ (rule : RuleRows). rule.stores) rules) (all_there rules) held.askers_are);
  negated_served = Each-append (AreNegatedServed [] [] new) rules (rows ∷ [])
      (Each-weaker (AreNegatedServed [] [] old) (AreNegatedServed [] [] new) (λ rule was. negated_goes_on old new rule goes_on bare was) rules held.negated_served) (served, tt);
  negated_askers_are = subst (λ stores. AreAskers stores more_asks) (sym (map-append (λ (rule : RuleRows). rule.negated) rules (rows ∷ [])))
      (noted_negated (negated_in rules) (all_there_negated rules) held.negated_askers_are);
}

-- the first rules are compiled
pub record AreCompiledTo (rules : List Rule) (count : ℕ) (kept : List RuleRows) : Type 0 where
  pub long : length kept ≡ count
  pub each : (number : ℕ) (rule : Rule) (rows : RuleRows) → slice_get rules number ≡ Some rule → slice_get kept number ≡ Some rows → IsCompiled rule rows.joins

pub AreCompiledTo-none : (rules : List Rule) → AreCompiledTo rules 0 []
AreCompiledTo-none rules = record { long = refl; each = λ number rule rows there kept. absurd (omega (arith, within-is [] number rows kept)) }

last_rows : (kept : List RuleRows) (rows : RuleRows) → slice_get (kept ++ rows ∷ []) (length kept) ≡ Some rows
last_rows [] rows = refl
last_rows (first ∷ kept) rows = last_rows kept rows

pub AreCompiledTo-more : (rules : List Rule) (count : ℕ) (kept new : List RuleRows) (this : Rule) → slice_get rules count ≡ Some this → IsAdded this kept new → AreCompiledTo rules count kept → AreCompiledTo rules (count + 1) new
AreCompiledTo-more rules count kept new this here added held = record {
  long = ap length added.is ∙ length-append kept (added.rows ∷ []) ∙ ap (λ n. n + 1) held.long;
  each = λ number rule rows there got.
      let at : slice_get (kept ++ added.rows ∷ []) number ≡ Some rows = ap (λ ks. slice_get ks number) (sym added.is) ∙ got in
      elim (cases_eq number count) [
        | inl same ↦
            let rule_found : Some this ≡ Some rule = sym here ∙ ap (slice_get rules) (sym same) ∙ there in
            let rule_is : this ≡ rule = cc in
            let rows_found : Some added.rows ≡ Some rows = sym (last_rows kept added.rows) ∙ ap (slice_get (kept ++ added.rows ∷ [])) (held.long ∙ sym same) ∙ at in
            let rows_is : added.rows ≡ rows = cc in
            subst (λ (r : RuleRows). IsCompiled rule r.joins) rows_is (subst (λ (r : Rule). IsCompiled r added.rows.joins) rule_is added.compiled)
        | inr apart ↦
            let lt : number < length kept =
            omega (arith, within-is (kept ++ added.rows ∷ []) number rows at, length-append kept (added.rows ∷ []), held.long, apart) in
            held.each number rule rows there (sym (slice_get-more kept number (added.rows ∷ []) lt) ∙ at)
      ];
}

pub AreCompiledTo-all : (rules : List Rule) (count : ℕ) (kept : List RuleRows) → count ≡ length rules → AreCompiledTo rules count kept → AreCompiled rules kept
AreCompiledTo-all rules count kept all held = record { count = held.long ∙ all; each = held.each }

-- with no rules, nobody asks
pub IsNetwork-none : (alpha : List Store) → IsNetwork [] [] alpha [] [] []
IsNetwork-none alpha = record {
  right = tt;
  askers_are = record { each = λ store rule condition. refl };
  negated_served = tt;
  negated_askers_are = record { each = λ store rule condition. refl };
}

-- elements go
pub IsRight-filter : (came : List Element) (places : List ℕ) (keep : ℕ → Bool) (alpha : List Store) (rule : RuleRows) → IsRight came places alpha rule → IsRight came (filter keep places) alpha rule
IsRight-filter came places keep alpha rule held = record {
  count = held.count;
  filed = levels_meet_removals rule.joins.positives came places keep rule.levels held.filed;
  served = λ at join there.
      let found = held.served at join there in
      (found.0, found.1, record { serves = found.2.serves; has = λ kept. stores_meet_removals join came places keep (entries_at alpha found.0) (found.2.has kept) });
  right = places_may_go (joins_of rule.joins.positives) came places keep (rows_of rule.levels) held.right;
}

pub IsNetwork-without : (old new : Arrivals) (tag : ℕ) (alpha : List Store) (rules : List RuleRows) (askers asks : List (List Asker)) → new ≡ without_tag old tag → IsNetwork old.came old.places alpha rules askers asks → IsNetwork new.came new.places alpha rules askers asks
IsNetwork-without old new tag alpha rules askers asks is held =
    subst (λ (a : Arrivals). IsNetwork a.came a.places alpha rules askers asks) (sym is)
    (record {
      right = Each-weaker (IsRight old.came old.places alpha) (IsRight old.came (filter (λ p. not (has_tag old.came tag p)) old.places) alpha)
          (λ rule was. IsRight-filter old.came old.places (λ p. not (has_tag old.came tag p)) alpha rule was) rules held.right;
      askers_are = held.askers_are;
      negated_served = negated_over old.came old.came old.places (filter (λ p. not (has_tag old.came tag p)) old.places) alpha alpha rules rules refl refl
          (λ join number was. IsServed-without join true old.came old.places (λ p. not (has_tag old.came tag p)) alpha number was) held.negated_served;
      negated_askers_are = held.negated_askers_are;
    })
