-- What the groups are once the places under one code are others.
use Rattle.std.proofs.Common.{◌≡◌, ℕ, List, [], Bool, true, false, ◌&&◌, ◌==◌, cond, Option, None, Some, refl, ap, sym, ◌∙◌}
use Rattle.std.specs.Map.{lookup}
use Rattle.std.specs.Option.{unwrap_or}
use Rattle.std.proofs.lemmas.Bool.{eqb-true}
use Rattle.std.proofs.lemmas.Bool.Decides.{Decides-eqb, Decides-int_eq}
use Rattle.rule_base.specs.declared.value.Value.{Value}
use Rattle.rule_base.specs.declared.value.Value.TheVariants.{Int, Sym}
use Rattle.rule_base.specs.Value.{same_value}
use Rattle.working_memory.specs.declared.groups.Key.{Key}
use Rattle.working_memory.specs.Groups.{Code, Groups, code_of, group, is_symbol, number_of, same_code, same_key}

-- the same keys have the same code
both : (x y : Bool) → (x && y) ≡ true → (x ≡ true) × (y ≡ true)
both true true is = (refl, refl)
both true false is = absurd (let wrong : ⊥ = cc in wrong)
both false y is = absurd (let wrong : ⊥ = cc in wrong)

same_value-equal : (a b : Value) → same_value a b ≡ true → a ≡ b
same_value-equal (Int a) (Int b) same = ap (λ z. Int z) ((Decides-int_eq a b).0 same)
same_value-equal (Sym a) (Sym b) same = ap (λ n. Sym n) ((Decides-eqb a b).0 same)
same_value-equal (Int a) (Sym b) same = absurd (let wrong : ⊥ = cc in wrong)
same_value-equal (Sym a) (Int b) same = absurd (let wrong : ⊥ = cc in wrong)

same_key-code : (a b : Key) → same_key a b ≡ true → code_of a ≡ code_of b
same_key-code a b same =
    let parts = both ((a.class == b.class) && (a.attribute == b.attribute)) (same_value a.value b.value) same in
    let numbers = both (a.class == b.class) (a.attribute == b.attribute) parts.0 in
    let class : a.class ≡ b.class = eqb-true a.class b.class numbers.0 in
    let attribute : a.attribute ≡ b.attribute = eqb-true a.attribute b.attribute numbers.1 in
    let value : a.value ≡ b.value = same_value-equal a.value b.value parts.1 in
    ap (λ n. (n, a.attribute, is_symbol a.value, number_of a.value)) class
    ∙ ap (λ n. (b.class, n, is_symbol a.value, number_of a.value)) attribute
    ∙ ap (λ v. (b.class, b.attribute, is_symbol v, number_of v)) value

-- the group under a code is f of what was found there, and all others are as before
grouped_step : (old new : Groups) (key : Key) (code : Code) (f : List ℕ → List ℕ) (held : List ℕ) → code ≡ code_of key → held ≡ f (unwrap_or (lookup (same_code code) old) []) → (k : Key) (b : Bool) → same_key key k ≡ b → lookup (same_code (code_of k)) new ≡ cond b (Some held) (lookup (same_code (code_of k)) old) → group new k ≡ cond b (f (group old k)) (group old k)
grouped_step old new key code f held coded was k true same now =
    ap (λ (o : Option (List ℕ)). unwrap_or o []) now
    ∙ was
    ∙ ap (λ (c : Code). f (unwrap_or (lookup (same_code c) old) [])) (coded ∙ same_key-code key k same)
grouped_step old new key code f held coded was k false same now = ap (λ (o : Option (List ℕ)). unwrap_or o []) now

pub grouped : (old new : Groups) (key : Key) (code : Code) (f : List ℕ → List ℕ) (found : Option (List ℕ)) (held : List ℕ) → code ≡ code_of key → ((k : Key) → same_code code (code_of k) ≡ same_key key k) → found ≡ lookup (same_code code) old → held ≡ f (unwrap_or found []) → ((q : Code) → lookup (same_code q) new ≡ cond (same_code code q) (Some held) (lookup (same_code q) old)) → (k : Key) → group new k ≡ cond (same_key key k) (f (group old k)) (group old k)
grouped old new key code f found held coded apart at was now k =
    grouped_step old new key code f held coded (was ∙ ap (λ (o : Option (List ℕ)). f (unwrap_or o [])) at) k (same_key key k) refl
    (now (code_of k) ∙ ap (λ (b : Bool). cond b (Some held) (lookup (same_code (code_of k)) old)) (apart k))

-- where f leaves the group as it was
one_way : (b : Bool) (places : List ℕ) → cond b places places ≡ places
one_way true places = refl
one_way false places = refl

pub grouped_same : (old new : Groups) (key : Key) (code : Code) (found : Option (List ℕ)) (held : List ℕ) → code ≡ code_of key → ((k : Key) → same_code code (code_of k) ≡ same_key key k) → found ≡ lookup (same_code code) old → held ≡ unwrap_or found [] → ((q : Code) → lookup (same_code q) new ≡ cond (same_code code q) (Some held) (lookup (same_code q) old)) → (k : Key) → group new k ≡ group old k
grouped_same old new key code found held coded apart at was now k =
    grouped old new key code (λ places. places) found held coded apart at was now k ∙ one_way (same_key key k) (group old k)

-- where there is no group under a code, and f makes none
absent_step : (old : Groups) (key : Key) (code : Code) (f : List ℕ → List ℕ) → f [] ≡ [] → code ≡ code_of key → None ≡ lookup (same_code code) old → (k : Key) (b : Bool) → same_key key k ≡ b → group old k ≡ cond b (f (group old k)) (group old k)
absent_step old key code f none coded absent k true same =
    let here : group old k ≡ [] = ap (λ (c : Code). unwrap_or (lookup (same_code c) old) []) (sym (coded ∙ same_key-code key k same)) ∙ ap (λ (o : Option (List ℕ)). unwrap_or o []) (sym absent) in
    here ∙ sym (ap f here ∙ none)
absent_step old key code f none coded absent k false same = refl

pub grouped_absent : (old : Groups) (key : Key) (code : Code) (f : List ℕ → List ℕ) → f [] ≡ [] → code ≡ code_of key → None ≡ lookup (same_code code) old → (k : Key) → group old k ≡ cond (same_key key k) (f (group old k)) (group old k)
grouped_absent old key code f none coded absent k = absent_step old key code f none coded absent k (same_key key k) refl
