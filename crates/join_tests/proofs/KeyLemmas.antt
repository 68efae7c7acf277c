-- Keys, and what joins read: equal values have equal hashes, and what comes after those that are read changes nothing.
use Rattle.std.proofs.Common.{◌≡◌, ◌↔◌, ◌<◌, List, [], ◌∷◌, ◌++◌, Bool, true, false, ◌&&◌, length, refl, ◌∙◌, ap}
use Rattle.std.proofs.lemmas.Bool.Decides.{Decides-eqb, Decides-int_eq}
use Rattle.rule_base.specs.declared.value.Value.{Value}
use Rattle.rule_base.specs.declared.value.Value.TheVariants.{Int, Sym}
use Rattle.rule_base.specs.declared.element.Element.{Element}
use Rattle.rule_base.specs.Value.{same_value}
use Rattle.join_tests.specs.declared.joins.KeyPart.{KeyPart}
use Rattle.join_tests.specs.declared.joins.Join.{Join}
use Rattle.join_tests.specs.declared.joins.JoinTest.{JoinTest}
use Rattle.join_tests.proofs.ReadingLemmas.{value_in-first}
use Rattle.rule_base.specs.Predicate.{holds}
use Rattle.std.specs.List.{AllByRecursion, list_all}
use Rattle.join_tests.specs.Reading.{value_at, value_in}
use Rattle.join_tests.specs.Joining.{IsOther, LooksBack, joins, key_of_element, key_of_row, passes, same_key, tests_hold}
use Rattle.join_tests.specs.Hashing.{hash_of}

same_value-equal : (a b : Value) → same_value a b ≡ true → a ≡ b
same_value-equal (Int a) (Int b) is = ap Int ((Decides-int_eq a b).0 is)
same_value-equal (Sym a) (Sym b) is = ap Sym ((Decides-eqb a b).0 is)
same_value-equal (Int a) (Sym b) is = absurd (let wrong : ⊥ = cc in wrong)
same_value-equal (Sym a) (Int b) is = absurd (let wrong : ⊥ = cc in wrong)

same_value-itself : (a : Value) → same_value a a ≡ true
same_value-itself (Int a) = (Decides-int_eq a a).1 refl
same_value-itself (Sym a) = (Decides-eqb a a).1 refl

both : (a b : Bool) → (a && b) ≡ true → (a ≡ true) × (b ≡ true)
both true b is = (refl, is)
both false b is = absurd (let wrong : ⊥ = cc in wrong)

equal_values : (key : List KeyPart) (es : List Element) (e : Element) → same_key key es e ≡ true → key_of_element key e ≡ key_of_row key es
equal_values [] es e is = refl
equal_values (part ∷ key) es e is =
    let parts = both (same_value (value_at e part.attribute) (value_in es part.source)) (same_key key es e) is in
    ap (λ v. v ∷ key_of_element key e) (same_value-equal (value_at e part.attribute) (value_in es part.source) parts.0)
    ∙ ap (λ vs. value_in es part.source ∷ vs) (equal_values key es e parts.1)

same_parts : (key : List KeyPart) (es : List Element) (e : Element) → key_of_element key e ≡ key_of_row key es → same_key key es e ≡ true
same_parts [] es e same = refl
same_parts (part ∷ key) es e same =
    let here : value_at e part.attribute ≡ value_in es part.source = cc in
    let later : key_of_element key e ≡ key_of_row key es = cc in
    ap (λ v. same_value v (value_in es part.source) && same_key key es e) here
    ∙ ap (λ b. b && same_key key es e) (same_value-itself (value_in es part.source))
    ∙ same_parts key es e later

pub same_key-equal : (key : List KeyPart) (es : List Element) (e : Element) → (same_key key es e ≡ true) ↔ (key_of_element key e ≡ key_of_row key es)
same_key-equal key es e = (equal_values key es e, same_parts key es e)

pub hash-joins : (join : Join) (es : List Element) (e : Element) → joins join es e ≡ true → hash_of (key_of_element join.key e) ≡ hash_of (key_of_row join.key es)
hash-joins join es e is =
    let first = both (passes join.pattern e && same_key join.key es e) (tests_hold join.tests es e) is in
    ap hash_of (equal_values join.key es e (both (passes join.pattern e) (same_key join.key es e) first.0).1)

-- tests that answer the same of each that is there
all_same : {X : Type 0} (P : X → Type 0) (p q : X → Bool) (xs : List X) → ((x : X) → P x → p x ≡ q x) → AllByRecursion P xs → list_all p xs ≡ list_all q xs
all_same P p q [] same each = refl
all_same P p q (x ∷ xs) same each = ap (λ b. b && list_all p xs) (same x each.0) ∙ ap (λ b. q x && b) (all_same P p q xs same each.1)

-- a join doesn't see what comes after the elements that it looks back at
pub joins-more : (join : Join) (es more : List Element) (e : Element) → LooksBack (length es) join → joins join (es ++ more) e ≡ joins join es e
joins-more join es more e back =
    let same_part : (part : KeyPart) → part.source.condition < length es → same_value (value_at e part.attribute) (value_in (es ++ more) part.source) ≡ same_value (value_at e part.attribute) (value_in es part.source) =
    λ part lt. ap (same_value (value_at e part.attribute)) (value_in-first es more part.source lt) in
    let same_test : (t : JoinTest) → IsOther (length es) t → holds t.predicate (value_at e t.attribute) (value_in (es ++ more) t.source) ≡ holds t.predicate (value_at e t.attribute) (value_in es t.source) =
    λ t other. ap (holds t.predicate (value_at e t.attribute)) (value_in-first es more t.source other.0) in
    let keys : same_key join.key (es ++ more) e ≡ same_key join.key es e =
    all_same (λ (part : KeyPart). part.source.condition < length es) (λ (part : KeyPart). same_value (value_at e part.attribute) (value_in (es ++ more) part.source)) (λ (part : KeyPart). same_value (value_at e part.attribute) (value_in es part.source)) join.key same_part back.key in
    let tests : tests_hold join.tests (es ++ more) e ≡ tests_hold join.tests es e =
    all_same (IsOther (length es)) (λ (t : JoinTest). holds t.predicate (value_at e t.attribute) (value_in (es ++ more) t.source)) (λ (t : JoinTest). holds t.predicate (value_at e t.attribute) (value_in es t.source)) join.tests same_test back.tests in
    ap (λ b. (passes join.pattern e && b) && tests_hold join.tests (es ++ more) e) keys
    ∙ ap (λ b. (passes join.pattern e && same_key join.key es e) && b) tests
