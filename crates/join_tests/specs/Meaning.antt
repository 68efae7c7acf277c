-- Meaning: what a compiled rule says of its rule. Nothing is asked of the rule or of the elements.
use Rattle.std.specs.Prelude.{◌≡◌, ℕ, ◌+◌, ◌≤◌, List, [], ◌∷◌, ◌++◌, Bool, true, not, ◌&&◌, Some, is_some, is_ok, filter, length, map, slice_get, take}
use Rattle.std.specs.List.{AllByRecursion, list_all, list_any}
use Rattle.rule_base.specs.declared.element.Element.{Element}
use Rattle.rule_base.specs.declared.condition.Cond.{Cond}
use Rattle.rule_base.specs.declared.program.Rule.{Rule}
use Rattle.rule_base.specs.Memory.{Memory, element_at}
use Rattle.rule_base.specs.Bindings.{Bindings, no_bindings}
use Rattle.rule_base.specs.Acceptance.{accepts}
use Rattle.rule_base.specs.SoundConditions.{positive_classes}
use Rattle.rule_base.specs.ElementMatch.{bindings_with, matched}
use Rattle.rule_base.specs.Match.{match_of}
use Rattle.join_tests.specs.declared.joins.Join.{Join}
use Rattle.join_tests.specs.declared.joins.Joins.{Joins}
use Rattle.join_tests.specs.declared.joins.Negated.{Negated}
use Rattle.join_tests.specs.Joining.{LooksBack, are_joined, joins}

-- the first condition elements that are positive, so many of them
abbrev pub first_positives : ℕ → Rule → List Cond
first_positives n rule = take n (filter (λ (c : Cond). not c.negated) rule.conds)

-- how many of the condition elements are negated
abbrev pub negated_count : List Cond → ℕ
negated_count conds = length (filter (λ (c : Cond). c.negated) conds)

-- whether no element of the memory joins the elements that stand before the negated condition element
abbrev pub is_free : Memory → List Element → Negated → Bool
is_free memory es negated = not (list_any (joins negated.join (take negated.after es)) memory)

-- what a negated condition element that stands after these becomes
pub record IsNegated (vars : ℕ) (before : List Cond) (further : Cond) (n : Negated) : Type 0 where
  -- its place among the positive ones
  pub place : n.after ≡ length (positive_classes before)
  -- it accepts an element, under the bindings that elements for those before it leave, where that joins them
  pub asks : (es : List Element) (bindings : Bindings) (e : Element) → matched before es (no_bindings vars) ≡ Some bindings → is_some (accepts further bindings e) ≡ joins n.join es e

-- the joins are those of the rule
pub record IsCompiled (rule : Rule) (compiled : Joins) : Type 0 where
  -- there is a join for each positive condition element, and one for each negated one
  pub count : length compiled.positives ≡ length (positive_classes rule.conds)
  pub count_negated : length compiled.negated ≡ negated_count rule.conds
  -- the rule takes these elements where each joins those before it
  pub rows : (es : List Element) → is_some (bindings_with rule es) ≡ are_joined compiled.positives es
  -- so do so many of its first positive condition elements
  pub first_rows : (n : ℕ) (es : List Element) → is_some (matched (first_positives n rule) es (no_bindings rule.vars)) ≡ are_joined (take n compiled.positives) es
  -- one element more is taken where it joins
  pub next_row : (n : ℕ) (join : Join) (es : List Element) (e : Element) → slice_get compiled.positives n ≡ Some join → is_some (matched (first_positives n rule) es (no_bindings rule.vars)) ≡ true →
      is_some (matched (first_positives (n + 1) rule) (es ++ e ∷ []) (no_bindings rule.vars)) ≡ joins join es e
  -- a negated condition element has its join at its place among them
  pub negated : (before rest : List Cond) (further : Cond) → rule.conds ≡ before ++ further ∷ rest → further.negated ≡ true →
      (n : Negated) × (slice_get compiled.negated (negated_count before) ≡ Some n) × IsNegated rule.vars before further n
  -- which stands after no more positive ones than there are
  pub places : AllByRecursion (λ (n : Negated). n.after ≤ length compiled.positives) compiled.negated
  -- each looks back at the elements before its own
  pub looks_back : (n : ℕ) (join : Join) → slice_get compiled.positives n ≡ Some join → LooksBack n join
  pub negated_look_back : AllByRecursion (λ (n : Negated). LooksBack n.after n.join) compiled.negated
  -- the rule matches in a memory where, besides, no negated condition element has an element there that joins
  pub matches : (memory : Memory) (tags : List ℕ) (es : List Element) → map (element_at memory) tags ≡ map (λ (e : Element). Some e) es →
      is_ok (match_of rule tags memory) ≡ (are_joined compiled.positives es && list_all (is_free memory es) compiled.negated)
