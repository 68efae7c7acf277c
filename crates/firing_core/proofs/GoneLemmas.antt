-- Whether an element is in a memory with rising tags, told by the one that has its tag there.
use lib.Pointwise.{pointwise}
use Rattle.std.proofs.Common.{◌≡◌, ℕ, ◌≤◌, ◌+◌, List, [], ◌∷◌, Bool, true, false, cond, ◌&&◌, ◌||◌, ◌==◌, Some, drop, eqb, slice_get, refl, ap, ◌∙◌, sym, arith, rules, tests}
use Rattle.std.specs.List.{list_any}
use Rattle.std.specs.Option.{option_map_or}
use Rattle.std.proofs.lemmas.Bool.{eqb-true}
use Rattle.rule_base.specs.declared.element.Element.{Element}
use Rattle.rule_base.specs.Memory.{Memory, Rises, RisesFrom, element_at, tags_of, same_element}
use Rattle.rule_base.specs.Value.{same_value}
use Rattle.rule_base.proofs.MemoryLemmas.{Rises-from_above}
use Rattle.rule_base.proofs.StepByStepLemmas.{drop_next}
use Rattle.firing_core.specs.Refusals.{gone_tag}

-- whether the other element has the class and the values of this one
abbrev pub is_like : Element → Element → Bool
is_like e other = (e.class == other.class) && pointwise same_value e.values other.values

-- values that are compared alike are the same alike
pub pointwise_alike : {X : Type 0} (p q : X → X → Bool) → ((x y : X) → p x y ≡ q x y) → (xs ys : List X) → pointwise p xs ys ≡ pointwise q xs ys
pointwise_alike p q alike [] [] = refl
pointwise_alike p q alike [] (y ∷ ys) = refl
pointwise_alike p q alike (x ∷ xs) [] = refl
pointwise_alike p q alike (x ∷ xs) (y ∷ ys) = ap (λ b. b && pointwise p xs ys) (alike x y) ∙ ap (λ b. q x y && b) (pointwise_alike p q alike xs ys)

-- an element with a smaller tag is none of those above
none_above : (e : Element) (low : ℕ) (memory : Memory) → e.tag ≤ low → RisesFrom low (tags_of memory) → list_any (same_element e) memory ≡ false
none_above e low [] le rises = refl
none_above e low (x ∷ memory) le rises =
    let differs : eqb e.tag x.tag ≡ false = search (rules, tests, rises.0, le) in
    rw differs (none_above e x.tag memory (omega (arith, rises.0, le)) rises.1)

or_false : (b rest : Bool) → rest ≡ false → (b || rest) ≡ b
or_false true rest none = refl
or_false false rest none = none

-- the first element has the tag, or another one
there_step : (e x : Element) (memory : Memory) (b : Bool) → (x.tag == e.tag) ≡ b → Rises (tags_of (x ∷ memory)) → list_any (same_element e) memory ≡ option_map_or (is_like e) (element_at memory e.tag) false → list_any (same_element e) (x ∷ memory) ≡ option_map_or (is_like e) (cond b (Some x) (element_at memory e.tag)) false
there_step e x memory true is rises later =
    let tag_is : x.tag ≡ e.tag = eqb-true x.tag e.tag is in
    let same : eqb e.tag x.tag ≡ true = search (rules, tests, tag_is) in
    rw same (or_false (is_like e x) (list_any (same_element e) memory) (none_above e x.tag memory (omega (arith, tag_is)) rises))
there_step e x memory false is rises later =
    let differs : eqb e.tag x.tag ≡ false = turned (eqb e.tag x.tag) refl in
    rw differs later
  where
    turned : (b : Bool) → eqb e.tag x.tag ≡ b → b ≡ false
    turned false at = refl
    turned true at =
        let tag_is : e.tag ≡ x.tag = eqb-true e.tag x.tag at in
        let yes : eqb x.tag e.tag ≡ true = search (rules, tests, tag_is) in
        absurd (let wrong : ⊥ = cc in wrong)

pub there : (e : Element) (memory : Memory) → Rises (tags_of memory) → list_any (same_element e) memory ≡ option_map_or (is_like e) (element_at memory e.tag) false
there e [] rises = refl
there e (x ∷ memory) rises = there_step e x memory (x.tag == e.tag) refl rises (there e memory (Rises-from_above x.tag (tags_of memory) rises))

-- a search that goes by one element, and one that ends at it
gone_step : (memory rest : Memory) (e : Element) (there : Bool) → list_any (same_element e) memory ≡ there → gone_tag memory (e ∷ rest) ≡ cond there (gone_tag memory rest) (Some e.tag)
gone_step memory rest e true is = rw is refl
gone_step memory rest e false is = rw is refl

pub gone_tag-next : (memory elements : Memory) (at : ℕ) (e : Element) (there : Bool) → slice_get elements at ≡ Some e → there ≡ list_any (same_element e) memory → gone_tag memory (drop at elements) ≡ cond there (gone_tag memory (drop (at + 1) elements)) (Some e.tag)
gone_tag-next memory elements at e there is told = ap (gone_tag memory) (drop_next elements at e is) ∙ gone_step memory (drop (at + 1) elements) e there (sym told)
