-- How much is held as elements come, and of stores that were cleaned.
use Rattle.std.proofs.Common.{◌≡◌, ℕ, zero, suc, ◌+◌, ◌-◌, ◌<◌, ◌≤◌, ◌^◌, List, [], ◌∷◌, Bool, filter, get_or, length, min, None, Some, ap, sym, ◌∙◌, arith, set, slice_get, subst, take}
use Rattle.std.proofs.lemmas.List.Sums.{count_by-le-length, get_or-le-sum_by, length-filter, sum_by-cons, sum_by-set, sum_by_more}
use Rattle.rule_base.specs.declared.element.Element.{Element}
use Rattle.alpha_memory.specs.Stores.{Store, emptied, places_filed}
use Rattle.match_network.specs.Conditions.{AreCleaned}
use Rattle.match_network.specs.Held.{Covers, RowsHeld, all_rows, rows_filed}
use Rattle.match_network.specs.Joining.{IsCleaned}
use Rattle.match_network.specs.Rules.{IsStep, RuleRows}
use Rattle.match_network.proofs.DueLemmas.{rule-is, set_same}
use Rattle.match_network.proofs.GivenLemmas.{get_or-is, within-is}

-- what is cleaned of stores is fewer places
fewer_left : (keep : ℕ × ℕ → Bool) (entries : List (ℕ × ℕ)) → length (filter keep entries) ≤ length entries
fewer_left keep entries = let counted = length-filter keep entries in let few = count_by-le-length keep entries in omega (arith, counted, few)

pub places_cleaned : (places : List ℕ) (old new : List Store) → AreCleaned places old new → places_filed new ≤ places_filed old
places_cleaned places [] [] cleaned = omega arith
places_cleaned places [] (store ∷ new) cleaned = absurd (let there : Some (emptied store) ≡ None = cleaned.asks zero in let wrong : ⊥ = cc in wrong)
places_cleaned places (store ∷ old) [] cleaned = absurd (let there : None ≡ Some (emptied store) = cleaned.asks zero in let wrong : ⊥ = cc in wrong)
places_cleaned places (before ∷ old) (after ∷ new) cleaned =
    let first : IsCleaned places before.entries after.entries = cleaned.each zero in
    let here : length after.entries ≤ length before.entries = subst (λ es. length es ≤ length before.entries) (sym first.is) (fewer_left first.keep before.entries) in
    let rest = places_cleaned places old new (record { asks = λ n. cleaned.asks (suc n); each = λ n. cleaned.each (suc n) }) in
    omega (arith, here, rest, sum_by-cons (λ (s : Store). length s.entries) before old, sum_by-cons (λ (s : Store). length s.entries) after new)

-- one rule has other levels
all_rows-set : (rules : List RuleRows) (n : ℕ) (before after : RuleRows) → slice_get rules n ≡ Some before → all_rows (set rules n after) + rows_filed before.levels ≡ all_rows rules + rows_filed after.levels
all_rows-set rules n before after there =
    ap (λ (r : RuleRows). all_rows (set rules n after) + rows_filed r.levels) (sym (get_or-is rules n before before there))
    ∙ sum_by-set (λ (r : RuleRows). rows_filed r.levels) rules n after before (within-is rules n before there)

-- a count goes on by the rows that a rule got
pub goes_on_by : (held now before after : ℕ) (old new rows more : ℕ) → Covers held old → before ≡ min rows (2 ^ 64 - 1) → after ≡ min more (2 ^ 64 - 1) → now ≡ min (held + (after - before)) (2 ^ 64 - 1) → rows ≤ old → new + rows ≤ old + more → Covers now new
goes_on_by held now before after old new rows more covers before_is after_is now_is within change less =
    let small : held < 2 ^ 64 - 1 = omega (arith, less, now_is) in
    let was : old ≤ held = covers small in
    omega (arith, was, small, less, before_is, after_is, now_is, within, change)

rows_within : (rules : List RuleRows) (n : ℕ) (rule : RuleRows) → slice_get rules n ≡ Some rule → rows_filed rule.levels ≤ all_rows rules
rows_within rules n rule there =
    subst (λ (r : RuleRows). rows_filed r.levels ≤ all_rows rules) (get_or-is rules n rule rule there)
    (get_or-le-sum_by (λ (r : RuleRows). rows_filed r.levels) rules n rule (within-is rules n rule there))

pub woven_held : (came : List Element) (places : List ℕ) (place number : ℕ) (alpha more : List Store) (old new : List RuleRows) (held now before after : ℕ) (first last : RuleRows) → IsStep came places place number alpha more old new → first ≡ get_or old number first → last ≡ get_or new number last → before ≡ min (rows_filed first.levels) (2 ^ 64 - 1) → after ≡ min (rows_filed last.levels) (2 ^ 64 - 1) → now ≡ min (held + (after - before)) (2 ^ 64 - 1) → RowsHeld held old alpha → RowsHeld now new more
woven_held came places place number alpha more old new held now before after first last step first_is last_is before_is after_is now_is covers =
    let rows = rows_filed step.before.levels in
    let grown = rows_filed step.after.levels in
    let was : step.before ≡ first = rule-is old number step.before first step.before_is first_is in
    let written : slice_get new number ≡ Some step.after = ap (λ rs. slice_get rs number) step.is ∙ set_same old number step.after (within-is old number step.before step.before_is) in
    let is : step.after ≡ last = rule-is new number step.after last written last_is in
    let change : all_rows new + rows ≡ all_rows old + grown = ap (λ rs. all_rows rs + rows) step.is ∙ all_rows-set old number step.before step.after step.before_is in
    let fewer : places_filed more ≤ places_filed alpha = places_cleaned places alpha more step.cleaned in
    let within : rows ≤ all_rows old = rows_within old number step.before step.before_is in
    goes_on_by held now before after (all_rows old + places_filed alpha) (all_rows new + places_filed more) rows grown covers
    (before_is ∙ ap (λ (r : RuleRows). min (rows_filed r.levels) (2 ^ 64 - 1)) (sym was))
    (after_is ∙ ap (λ (r : RuleRows). min (rows_filed r.levels) (2 ^ 64 - 1)) (sym is))
    now_is (omega (arith, within)) (omega (arith, change, fewer))

-- some that is dead has gone
pub cleaned_held : (held : ℕ) (places : List ℕ) (rules : List RuleRows) (alpha more : List Store) → AreCleaned places alpha more → RowsHeld held rules alpha → RowsHeld held rules more
cleaned_held held places rules alpha more cleaned covers small = omega (arith, covers small, places_cleaned places alpha more cleaned)

-- an element was filed
pub filed_held : (held now : ℕ) (rules : List RuleRows) (alpha more : List Store) (passed : List ℕ) → places_filed more ≤ places_filed alpha + length passed → now ≡ min (held + length passed) (2 ^ 64 - 1) → RowsHeld held rules alpha → RowsHeld now rules more
filed_held held now rules alpha more passed few is covers small =
    let was : all_rows rules + places_filed alpha ≤ held = covers (omega (arith, small, is)) in
    omega (arith, was, small, few, is)

-- all was counted
pub both_counted : (count rows links : ℕ) (rules : List RuleRows) (alpha : List Store) → rows ≡ min (all_rows rules) (2 ^ 64 - 1) → Covers links (places_filed alpha) → count ≡ min (rows + links) (2 ^ 64 - 1) → RowsHeld count rules alpha
both_counted count rows links rules alpha rows_is covers is small =
    let less : links < 2 ^ 64 - 1 = omega (arith, small, is) in
    let enough : places_filed alpha ≤ links = covers less in
    omega (arith, enough, small, rows_is, is)

-- one store more was counted
pub links_more : (count now links number : ℕ) (alpha : List Store) (store : Store) → slice_get alpha number ≡ Some store → length store.entries ≤ links → now ≡ min (count + links) (2 ^ 64 - 1) → Covers count (places_filed (take number alpha)) → Covers now (places_filed (take (number + 1) alpha))
links_more count now links number alpha store there enough is covers small =
    let more : places_filed (take (number + 1) alpha) ≡ places_filed (take number alpha) + length (get_or alpha number store).entries =
    sum_by_more (λ (s : Store). length s.entries) alpha number store (within-is alpha number store there) in
    let long : length (get_or alpha number store).entries ≡ length store.entries = ap (λ (s : Store). length s.entries) (get_or-is alpha number store store there) in
    let was : places_filed (take number alpha) ≤ count = covers (omega (arith, small, is)) in
    omega (arith, was, more, long, enough, is, small)
