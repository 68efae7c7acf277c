-- What a network tells of what stands in the way of a row.
use Rattle.std.proofs.Common.{◌≡◌, ℕ, ◌+◌, ◌≤◌, List, length, Bool, true, IfSome, None, Option, Some, refl, subst, sym, ◌∙◌, slice_get}
use Rattle.std.specs.List.{AllByRecursion, list_all}
use Rattle.rule_base.specs.declared.element.Element.{Element}
use Rattle.rule_base.proofs.EachLemmas.{Each-slice_get, Each-weaker}
use Rattle.join_tests.specs.Meaning.{is_free}
use Rattle.alpha_memory.specs.Stores.{Store}
use Rattle.match_network.specs.declared.askers.Asker.{Asker}
use Rattle.match_network.specs.Conditions.{AreCleaned, joins_of, rows_of}
use Rattle.match_network.specs.Levels.{AreLevels}
use Rattle.match_network.specs.Negated.{IsWholeRow, blockers_tried, blocks, whole_rows}
use Rattle.match_network.specs.Network.{IsNetwork}
use Rattle.match_network.specs.Row.{elements_of}
use Rattle.match_network.specs.Rules.{IsRight, RuleRows}
use Rattle.match_network.proofs.NegatedLemmas.{negated_over}
use Rattle.match_network.proofs.StoreLemmas.{AreStores-cleaned, IsServed-cleaned}

-- of the stores only what is dead goes
pub IsNetwork-cleaned : (came : List Element) (places : List ℕ) (old new : List Store) (rules : List RuleRows) (askers asks : List (List Asker)) → AreCleaned places old new → IsNetwork came places old rules askers asks → IsNetwork came places new rules askers asks
IsNetwork-cleaned came places old new rules askers asks cleaned held = record {
  right = Each-weaker (IsRight came places old) (IsRight came places new)
      (λ rule was. record { count = was.count; filed = was.filed; served = AreStores-cleaned rule.joins.positives came places rule.stores old new cleaned was.served; right = was.right }) rules held.right;
  askers_are = held.askers_are;
  negated_served = negated_over came came places places old new rules rules refl refl (λ join number was. IsServed-cleaned join true came places old new number cleaned was) held.negated_served;
  negated_askers_are = held.negated_askers_are;
}

-- what a rule tells of one of its rows, as the network tells it
this_rule : (rules : List RuleRows) (rule number : ℕ) (this kept : RuleRows) (row : List ℕ) → slice_get rules rule ≡ Some this → IsWholeRow rules rule number kept row → this ≡ kept
this_rule rules rule number this kept row there w =
    let both : Some this ≡ Some kept = sym there ∙ w.rule_is in
    cc

if_more : {A : Type 0} (P Q : A → Type 0) → ((a : A) → P a → Q a) → (o : Option A) → IfSome o P → IfSome o Q
if_more P Q more None held = tt
if_more P Q more (Some a) held = more a held

pub kept_blocks : (rules : List RuleRows) (rule number : ℕ) (this : RuleRows) (came : List Element) (found : Option ℕ) → slice_get rules rule ≡ Some this → IfSome found (λ place. (row : List ℕ) → slice_get (whole_rows this) number ≡ Some row → blocks this.joins came row place ≡ true) → IfSome found (λ place. (kept : RuleRows) (row : List ℕ) → IsWholeRow rules rule number kept row → blocks kept.joins came row place ≡ true)
kept_blocks rules rule number this came found there held =
    if_more (λ place. (row : List ℕ) → slice_get (whole_rows this) number ≡ Some row → blocks this.joins came row place ≡ true) (λ place. (kept : RuleRows) (row : List ℕ) → IsWholeRow rules rule number kept row → blocks kept.joins came row place ≡ true)
    (λ place all kept row w.
    let same = this_rule rules rule number this kept row there w in
    subst (λ (r : RuleRows). blocks r.joins came row place ≡ true) same (all row (subst (λ (r : RuleRows). slice_get (whole_rows r) number ≡ Some row) (sym same) w.row_is))) found held

pub kept_told : (rules : List RuleRows) (rule number : ℕ) (this : RuleRows) (came : List Element) (place : ℕ) (answer : Bool) → slice_get rules rule ≡ Some this → ((row : List ℕ) → slice_get (whole_rows this) number ≡ Some row → answer ≡ blocks this.joins came row place) → (kept : RuleRows) (row : List ℕ) → IsWholeRow rules rule number kept row → answer ≡ blocks kept.joins came row place
kept_told rules rule number this came place answer there held kept row w =
    let same = this_rule rules rule number this kept row there w in
    subst (λ (r : RuleRows). answer ≡ blocks r.joins came row place) same (held row (subst (λ (r : RuleRows). slice_get (whole_rows r) number ≡ Some row) (sym same) w.row_is))

pub kept_free : (rules : List RuleRows) (rule number : ℕ) (this : RuleRows) (came : List Element) (places : List ℕ) → slice_get rules rule ≡ Some this → ((row : List ℕ) → slice_get (whole_rows this) number ≡ Some row → list_all (is_free (elements_of came places) (elements_of came row)) this.joins.negated ≡ true) → (kept : RuleRows) (row : List ℕ) → IsWholeRow rules rule number kept row → list_all (is_free (elements_of came places) (elements_of came row)) kept.joins.negated ≡ true
kept_free rules rule number this came places there held kept row w =
    let same = this_rule rules rule number this kept row there w in
    subst (λ (r : RuleRows). list_all (is_free (elements_of came places) (elements_of came row)) r.joins.negated ≡ true) same (held row (subst (λ (r : RuleRows). slice_get (whole_rows r) number ≡ Some row) (sym same) w.row_is))

pub kept_steps : (rules : List RuleRows) (rule number : ℕ) (this : RuleRows) (came : List Element) (places : List ℕ) (before after : ℕ) → slice_get rules rule ≡ Some this → ((row : List ℕ) → slice_get (whole_rows this) number ≡ Some row → after ≤ before + blockers_tried this.joins.negated came places row) → (kept : RuleRows) (row : List ℕ) → IsWholeRow rules rule number kept row → after ≤ before + blockers_tried kept.joins.negated came places row
kept_steps rules rule number this came places before after there held kept row w =
    let same = this_rule rules rule number this kept row there w in
    subst (λ (r : RuleRows). after ≤ before + blockers_tried r.joins.negated came places row) same (held row (subst (λ (r : RuleRows). slice_get (whole_rows r) number ≡ Some row) (sym same) w.row_is))

-- what is right of all is right of each
pub each_is_right : (came : List Element) (places : List ℕ) (alpha : List Store) (rules : List RuleRows) → AllByRecursion (IsRight came places alpha) rules → (number : ℕ) (kept : RuleRows) → slice_get rules number ≡ Some kept → AreLevels (joins_of kept.joins.positives) came places (rows_of kept.levels)
each_is_right came places alpha rules all number kept there = (Each-slice_get (IsRight came places alpha) rules number kept all there).right

pub each_has_levels : (came : List Element) (places : List ℕ) (alpha : List Store) (rules : List RuleRows) → AllByRecursion (IsRight came places alpha) rules → (number : ℕ) (kept : RuleRows) → slice_get rules number ≡ Some kept → length kept.levels ≡ length kept.joins.positives
each_has_levels came places alpha rules all number kept there = (Each-slice_get (IsRight came places alpha) rules number kept all there).filed.count
