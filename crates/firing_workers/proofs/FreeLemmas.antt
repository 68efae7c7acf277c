-- Rows that are free, and the memory, as elements come and go.
use Rattle.std.proofs.Common.{◌≡◌, ℕ, ◌==◌, ◌||◌, ◌&&◌, List, [], ◌∷◌, ◌++◌, Bool, true, false, cond, not, Option, None, Some, length, option_map, slice_get, take, refl, ap, sym, ◌∙◌}
use Rattle.std.specs.List.{cons_option, filter, list_all, list_any}
use Rattle.std.specs.Option.{option_map_or}
use Rattle.std.proofs.lemmas.Bool.{and_from, and_parts, eq-eqb, eqb-true, ne_eqb, or_from, or_parts}
use Rattle.std.proofs.lemmas.List.Elements.{filter_map-append}
use Rattle.std.proofs.lemmas.List.Folds.{list_any-append}
use Rattle.std.proofs.lemmas.Option.{slice_get-map}
use Rattle.rule_base.specs.declared.element.Element.{Element}
use Rattle.rule_base.specs.Memory.{Memory}
use Rattle.rule_base.specs.Step.{without}
use Rattle.join_tests.specs.declared.joins.Joins.{Joins}
use Rattle.join_tests.specs.declared.joins.Negated.{Negated}
use Rattle.join_tests.specs.Joining.{joins}
use Rattle.join_tests.specs.Meaning.{is_free}
use Rattle.match_network.specs.Arrivals.{has_tag}
use Rattle.match_network.specs.Levels.{HaveCome}
use Rattle.match_network.specs.Negated.{blocks}
use Rattle.match_network.specs.Network.{joins_in}
use Rattle.match_network.specs.Row.{elements_of, some_passes}
use Rattle.match_network.specs.Rules.{RuleRows}
use Rattle.match_network.proofs.ComeLemmas.{elements_of-come}
use Rattle.match_network.proofs.TakeLemmas.{last_came}

-- an element goes from memory as its place does
goes_step : (came : List Element) (p : ℕ) (keep : Element → Bool) (stays : Bool) (rest : List ℕ) (memory : List Element) (found : Option Element) → slice_get came p ≡ found → ((e : Element) → found ≡ Some e → stays ≡ keep e) → elements_of came rest ≡ filter keep memory → elements_of came (cond stays (p ∷ rest) rest) ≡ filter keep (cons_option found memory)
goes_step came p keep true rest memory None at tells later = ap (λ found. cons_option found (elements_of came rest)) at ∙ later
goes_step came p keep false rest memory None at tells later = later
goes_step came p keep true rest memory (Some e) at tells later =
    ap (λ found. cons_option found (elements_of came rest)) at ∙ ap (λ es. e ∷ es) later ∙ ap (λ b. cond b (e ∷ filter keep memory) (filter keep memory)) (tells e refl)
goes_step came p keep false rest memory (Some e) at tells later = later ∙ ap (λ b. cond b (e ∷ filter keep memory) (filter keep memory)) (tells e refl)

turned : (a b : ℕ) (same : Bool) → (a == b) ≡ same → not same ≡ not ((b == a) || false)
turned a b true is = sym (ap (λ c. not (c || false)) (eq-eqb b a (sym (eqb-true a b is))))
turned a b false is =
    sym (ap (λ c. not (c || false)) (ne_eqb b a (λ same. let wrong : true ≡ false = sym (eq-eqb a b (sym same)) ∙ is in let clash : ⊥ = cc in clash)))

pub memory-goes : (came : List Element) (tag : ℕ) (places : List ℕ) → elements_of came (filter (λ p. not (has_tag came tag p)) places) ≡ without (elements_of came places) (tag ∷ [])
memory-goes came tag [] = refl
memory-goes came tag (p ∷ places) =
    goes_step came p (λ (e : Element). not ((tag == e.tag) || false)) (not (has_tag came tag p)) (filter (λ q. not (has_tag came tag q)) places) (elements_of came places) (slice_get came p) refl
    (λ e at. ap (λ found. not (some_passes (λ (x : Element). x.tag == tag) found)) at ∙ turned e.tag tag (e.tag == tag) refl)
    (memory-goes came tag places)

-- and comes
pub memory-comes : (came : List Element) (places : List ℕ) (e : Element) → HaveCome came places → elements_of (came ++ e ∷ []) (places ++ length came ∷ []) ≡ elements_of came places ++ e ∷ []
memory-comes came places e come =
    filter_map-append (slice_get (came ++ e ∷ [])) places (length came ∷ [])
    ∙ ap (λ es. es ++ cons_option (slice_get (came ++ e ∷ []) (length came)) []) (elements_of-come came e places come)
    ∙ ap (λ found. elements_of came places ++ cons_option found []) (last_came came e)

-- whether these elements are free of the negated condition elements of a rule that is kept, if there is one
abbrev pub free_of : Option RuleRows → Memory → List Element → Bool
free_of found memory es = option_map_or (λ (kept : RuleRows). list_all (is_free memory es) kept.joins.negated) found true

fewer_step : {X : Type 0} (p : X → Bool) (x : X) (rest : List X) (b : Bool) → p x ≡ false → list_any p rest ≡ false → list_any p (cond b (x ∷ rest) rest) ≡ false
fewer_step p x rest true fails none = or_from (p x) (list_any p rest) fails none
fewer_step p x rest false fails none = none

none_of_fewer : {X : Type 0} (p keep : X → Bool) (xs : List X) → list_any p xs ≡ false → list_any p (filter keep xs) ≡ false
none_of_fewer p keep [] none = none
none_of_fewer p keep (x ∷ xs) none =
    let parts = or_parts (p x) (list_any p xs) none in
    fewer_step p x (filter keep xs) (keep x) parts.0 (none_of_fewer p keep xs parts.1)

free_fewer : (keep : Element → Bool) (memory es : List Element) (n : Negated) (b : Bool) → list_any (joins n.join (take n.after es)) memory ≡ b → not b ≡ true → is_free (filter keep memory) es n ≡ true
free_fewer keep memory es n true is free = absurd (let wrong : ⊥ = cc in wrong)
free_fewer keep memory es n false is free = ap not (none_of_fewer (joins n.join (take n.after es)) keep memory is)

all_fewer : (keep : Element → Bool) (memory es : List Element) (all : List Negated) → list_all (is_free memory es) all ≡ true → list_all (is_free (filter keep memory) es) all ≡ true
all_fewer keep memory es [] free = refl
all_fewer keep memory es (n ∷ all) free =
    let parts = and_parts (is_free memory es n) (list_all (is_free memory es) all) free in
    and_from (is_free (filter keep memory) es n) (list_all (is_free (filter keep memory) es) all) (free_fewer keep memory es n (list_any (joins n.join (take n.after es)) memory) refl parts.0) (all_fewer keep memory es all parts.1)

-- what is free stays so as elements go
pub free_of-fewer : (found : Option RuleRows) (keep : Element → Bool) (memory es : List Element) → free_of found memory es ≡ true → free_of found (filter keep memory) es ≡ true
free_of-fewer None keep memory es free = refl
free_of-fewer (Some kept) keep memory es free = all_fewer keep memory es kept.joins.negated free

-- and as one comes where it doesn't stand in the way
gathered : (a b c d : Bool) → (not (a || (b || false)) && (c && not d)) ≡ ((not a && c) && not (b || d))
gathered true b c d = refl
gathered false true true d = refl
gathered false true false d = refl
gathered false false c d = refl

all_more : (memory : List Element) (e : Element) (es : List Element) (all : List Negated) → list_all (is_free (memory ++ e ∷ []) es) all ≡ (list_all (is_free memory es) all && not (list_any (λ (n : Negated). joins n.join (take n.after es) e) all))
all_more memory e es [] = refl
all_more memory e es (n ∷ all) =
    ap (λ b. not b && list_all (is_free (memory ++ e ∷ []) es) all) (list_any-append (joins n.join (take n.after es)) memory (e ∷ []))
    ∙ ap (λ b. not (list_any (joins n.join (take n.after es)) memory || (joins n.join (take n.after es) e || false)) && b) (all_more memory e es all)
    ∙ gathered (list_any (joins n.join (take n.after es)) memory) (joins n.join (take n.after es) e) (list_all (is_free memory es) all) (list_any (λ (m : Negated). joins m.join (take m.after es) e) all)

pub free_of-more : (found : Option RuleRows) (came : List Element) (e : Element) (memory : List Element) (row : List ℕ) →
    free_of found (memory ++ e ∷ []) (elements_of (came ++ e ∷ []) row) ≡ (free_of found memory (elements_of (came ++ e ∷ []) row) && not (option_map_or (λ (kept : RuleRows). blocks kept.joins (came ++ e ∷ []) row (length came)) found false))
free_of-more None came e memory row = refl
free_of-more (Some kept) came e memory row =
    let es = elements_of (came ++ e ∷ []) row in
    all_more memory e es kept.joins.negated
    ∙ ap (λ found. list_all (is_free memory es) kept.joins.negated && not (list_any (λ (n : Negated). some_passes (joins n.join (take n.after es)) found) kept.joins.negated)) (sym (last_came came e))

-- only the joins matter
by_joins : (found : Option RuleRows) (memory es : List Element) → free_of found memory es ≡ option_map_or (λ (all : Joins). list_all (is_free memory es) all.negated) (option_map (λ (kept : RuleRows). kept.joins) found) true
by_joins None memory es = refl
by_joins (Some kept) memory es = refl

pub free_of-joins : (old new : List RuleRows) (rule : ℕ) (memory es : List Element) → joins_in new ≡ joins_in old → free_of (slice_get new rule) memory es ≡ free_of (slice_get old rule) memory es
free_of-joins old new rule memory es same =
    let told : option_map (λ (kept : RuleRows). kept.joins) (slice_get new rule) ≡ option_map (λ (kept : RuleRows). kept.joins) (slice_get old rule) =
    sym (slice_get-map (λ (kept : RuleRows). kept.joins) new rule) ∙ ap (λ (js : List Joins). slice_get js rule) same ∙ slice_get-map (λ (kept : RuleRows). kept.joins) old rule in
    by_joins (slice_get new rule) memory es
    ∙ ap (λ (found : Option Joins). option_map_or (λ (all : Joins). list_all (is_free memory es) all.negated) found true) told
    ∙ sym (by_joins (slice_get old rule) memory es)
