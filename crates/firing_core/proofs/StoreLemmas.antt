-- What came, and the working memory at some of its places.
use Rattle.std.proofs.Common.{◌≡◌, ℕ, ◌+◌, ◌<◌, ◌≤◌, List, [], ◌∷◌, ◌++◌, Bool, true, false, not, cond, ◌||◌, ◌==◌, Option, None, Some, eqb, length, slice_get, suc, zero, refl, ap, ◌∙◌, subst, sym, append_assoc, arith, rules, tests, length-append}
use Rattle.std.specs.List.{AllByRecursion, filter, list_any, range_with_len}
use Rattle.std.proofs.lemmas.Bool.{eqb-true}
use Rattle.rule_base.specs.declared.element.Element.{Element}
use Rattle.rule_base.specs.Memory.{Memory, Rises, RisesFrom, element_at, tags_of}
use Rattle.rule_base.specs.Opening.{AreConsecutive}
use Rattle.rule_base.specs.Step.{without}
use Rattle.rule_base.proofs.MemoryLemmas.{AllBelow-consecutive, Rises-append}
use Rattle.firing_core.specs.Store.{IsPlaceOf, at_places}
use Rattle.firing_core.proofs.TagLemmas.{absent-append, same_place}
use Rattle.rule_base.specs.Numbers.{has_number}

-- consecutive tags rise
consecutive_from : (low first : ℕ) (elements : List Element) → low < first → AreConsecutive first (tags_of elements) → RisesFrom low (tags_of elements)
consecutive_from low first [] lt consecutive = tt
consecutive_from low first (e ∷ elements) lt consecutive =
    let above : low < e.tag = omega (arith, consecutive.0, lt) in
    (above, consecutive_from e.tag (first + 1) elements (omega (arith, consecutive.0)) consecutive.1)

consecutive_rises : (first : ℕ) (elements : List Element) → AreConsecutive first (tags_of elements) → Rises (tags_of elements)
consecutive_rises first [] consecutive = tt
consecutive_rises first (e ∷ elements) consecutive = consecutive_from e.tag (first + 1) elements (omega (arith, consecutive.0)) consecutive.1

-- and so do the tags of all that came
pub Rises-came : (next : ℕ) (elements born : List Element) → Rises (tags_of elements) → AllByRecursion (λ (e : Element). e.tag < next) elements → AreConsecutive next (tags_of born) → Rises (tags_of (elements ++ born))
Rises-came next elements born rising given consecutive =
    Rises-append next elements born rising given (λ low lt. consecutive_from low next born lt consecutive) (consecutive_rises next born consecutive)

-- one place more: the element that lies there, if one does, comes first
abbrev place_step : Option Element → List Element → List Element
place_step None rest = rest
place_step (Some e) rest = e ∷ rest

pub at_places-cons : (elements : List Element) (p : ℕ) (places : List ℕ) → at_places elements (p ∷ places) ≡ place_step (slice_get elements p) (at_places elements places)
at_places-cons elements p places = cons (slice_get elements p) refl
  where
    cons : (o : Option Element) → slice_get elements p ≡ o → at_places elements (p ∷ places) ≡ place_step o (at_places elements places)
    cons None is = rw is refl
    cons (Some e) is = rw is refl

-- the elements at places one behind another
pub at_places-append : (elements : List Element) (ps qs : List ℕ) → at_places elements (ps ++ qs) ≡ at_places elements ps ++ at_places elements qs
at_places-append elements [] qs = refl
at_places-append elements (p ∷ ps) qs =
    at_places-cons elements p (ps ++ qs) ∙ ap (place_step (slice_get elements p)) (at_places-append elements ps qs) ∙ step (slice_get elements p) ∙ sym (ap (λ es. es ++ at_places elements qs) (at_places-cons elements p ps))
  where
    step : (o : Option Element) → place_step o (at_places elements ps ++ at_places elements qs) ≡ place_step o (at_places elements ps) ++ at_places elements qs
    step None = refl
    step (Some e) = refl

-- what comes behind changes nothing at places that are taken
pub get_before : {X : Type 0} (xs ys : List X) (p : ℕ) → p < length xs → slice_get (xs ++ ys) p ≡ slice_get xs p
get_before [] ys p lt = absurd (omega (arith, lt))
get_before (x ∷ xs) ys zero lt = refl
get_before (x ∷ xs) ys (suc p) lt = get_before xs ys p (omega (arith, lt))

pub at_places-more : (elements more : List Element) (places : List ℕ) → AllByRecursion (λ p. p < length elements) places → at_places (elements ++ more) places ≡ at_places elements places
at_places-more elements more [] below = refl
at_places-more elements more (p ∷ places) below =
    at_places-cons (elements ++ more) p places ∙ ap (λ o. place_step o (at_places (elements ++ more) places)) (get_before elements more p below.0) ∙ ap (place_step (slice_get elements p)) (at_places-more elements more places below.1) ∙ sym (at_places-cons elements p places)

-- and at the places behind lies what comes there
get_behind : {X : Type 0} (xs : List X) (y : X) (ys : List X) → slice_get (xs ++ y ∷ ys) (length xs) ≡ Some y
get_behind [] y ys = refl
get_behind (x ∷ xs) y ys = get_behind xs y ys

pub at_places-new : (elements more : List Element) → at_places (elements ++ more) (range_with_len (length elements) (length more)) ≡ more
at_places-new elements [] = refl
at_places-new elements (e ∷ more) =
    let all = elements ++ e ∷ more in
    let joined : (elements ++ e ∷ []) ++ more ≡ all = append_assoc elements (e ∷ []) more in
    let longer : length (elements ++ e ∷ []) ≡ length elements + 1 = length-append elements (e ∷ []) in
    let rest : at_places all (range_with_len (length elements + 1) (length more)) ≡ more =
    subst (λ es. at_places es (range_with_len (length elements + 1) (length more)) ≡ more) joined (subst (λ n. at_places ((elements ++ e ∷ []) ++ more) (range_with_len n (length more)) ≡ more) longer (at_places-new (elements ++ e ∷ []) more)) in
    at_places-cons all (length elements) (range_with_len (length elements + 1) (length more)) ∙ ap (λ o. place_step o (at_places all (range_with_len (length elements + 1) (length more)))) (get_behind elements e more) ∙ ap (λ es. e ∷ es) rest

-- an element for each place
pub length-at_places : (elements : List Element) (places : List ℕ) → AllByRecursion (λ p. p < length elements) places → length (at_places elements places) ≡ length places
length-at_places elements [] below = refl
length-at_places elements (p ∷ places) below = ap length (at_places-cons elements p places) ∙ one (slice_get elements p) refl ∙ ap suc (length-at_places elements places below.1)
  where
    some : {X : Type 0} (xs : List X) (n : ℕ) → n < length xs → slice_get xs n ≡ None → ⊥
    some [] n lt is = omega (arith, lt)
    some (x ∷ xs) zero lt is = let wrong : ⊥ = cc in wrong
    some (x ∷ xs) (suc n) lt is = some xs n (omega (arith, lt)) is

    one : (o : Option Element) → slice_get elements p ≡ o → length (place_step o (at_places elements places)) ≡ suc (length (at_places elements places))
    one None is = absurd (some elements p below.0 is)
    one (Some e) is = refl

-- a tag that no element has, no element at any place has
absent_at : (elements : List Element) (p tag : ℕ) (e : Element) → element_at elements tag ≡ None → slice_get elements p ≡ Some e → (e.tag == tag) ≡ false
absent_at [] p tag e none is = absurd (let wrong : ⊥ = cc in wrong)
absent_at (x ∷ elements) zero tag e none is = let same : x ≡ e = cc in subst (λ (y : Element). (y.tag == tag) ≡ false) same (here (x.tag == tag) refl none)
  where
    here : (b : Bool) → (x.tag == tag) ≡ b → cond b (Some x) (element_at elements tag) ≡ None → (x.tag == tag) ≡ false
    here false at none' = at
    here true at none' = absurd (let wrong : ⊥ = cc in wrong)
absent_at (x ∷ elements) (suc p) tag e none is = absent_at elements p tag e (later (x.tag == tag) none) is
  where
    later : (b : Bool) → cond b (Some x) (element_at elements tag) ≡ None → element_at elements tag ≡ None
    later false none' = none'
    later true none' = absurd (let wrong : ⊥ = cc in wrong)

absent_step : (elements : List Element) (p tag : ℕ) (rest : List Element) (o : Option Element) → element_at elements tag ≡ None → slice_get elements p ≡ o → element_at rest tag ≡ None → element_at (place_step o rest) tag ≡ None
absent_step elements p tag rest None none is later = later
absent_step elements p tag rest (Some e) none is later = rw (absent_at elements p tag e none is) later

pub absent-at_places : (elements : List Element) (places : List ℕ) (tag : ℕ) → element_at elements tag ≡ None → element_at (at_places elements places) tag ≡ None
absent-at_places elements [] tag none = refl
absent-at_places elements (p ∷ places) tag none =
    ap (λ es. element_at es tag) (at_places-cons elements p places) ∙ absent_step elements p tag (at_places elements places) (slice_get elements p) none refl (absent-at_places elements places tag none)

-- the element with a tag is in working memory where its place is
-- (at the place itself, and at another one)
is_there : (elements : List Element) (p place : ℕ) (e x : Element) → slice_get elements place ≡ Some e → slice_get elements p ≡ Some x → (p == place) ≡ true → x ≡ e
is_there elements p place e x is of_x at =
    let moved : slice_get elements place ≡ Some x = subst (λ q. slice_get elements q ≡ Some x) (eqb-true p place at) of_x in
    let same : Some x ≡ Some e = sym moved ∙ is in
    cc

is_elsewhere : (elements : List Element) (p place : ℕ) (e x : Element) (b : Bool) → Rises (tags_of elements) → slice_get elements place ≡ Some e → slice_get elements p ≡ Some x → (p == place) ≡ false → (x.tag == e.tag) ≡ b → b ≡ false
is_elsewhere elements p place e x false rises is of_x at b_is = refl
is_elsewhere elements p place e x true rises is of_x at b_is =
    let place_is : p ≡ place = same_place p place elements x e rises of_x is (eqb-true x.tag e.tag b_is) in
    let yes : (p == place) ≡ true = search (rules, tests, place_is) in
    absurd (let wrong : ⊥ = cc in wrong)

not_none : (elements : List Element) (p place : ℕ) (e : Element) → slice_get elements place ≡ Some e → slice_get elements p ≡ None → (p == place) ≡ true → ⊥
not_none elements p place e is none at =
    let moved : slice_get elements place ≡ None = subst (λ q. slice_get elements q ≡ None) (eqb-true p place at) none in
    cc

found_step : (elements rest : List Element) (p place : ℕ) (later : Bool) (e : Element) (o : Option Element) (b : Bool) → Rises (tags_of elements) → slice_get elements place ≡ Some e → slice_get elements p ≡ o → (p == place) ≡ b → element_at rest e.tag ≡ cond later (Some e) None → element_at (place_step o rest) e.tag ≡ cond (b || later) (Some e) None
found_step elements rest p place later e None false rises is of_o of_b found = found
found_step elements rest p place later e None true rises is of_o of_b found = absurd (not_none elements p place e is of_o of_b)
found_step elements rest p place later e (Some x) false rises is of_o of_b found = rw (is_elsewhere elements p place e x (x.tag == e.tag) rises is of_o of_b refl) found
found_step elements rest p place later e (Some x) true rises is of_o of_b found =
    let same : x ≡ e = is_there elements p place e x is of_o of_b in
    let tag_is : x.tag ≡ e.tag = ap (λ (y : Element). y.tag) same in
    let yes : (x.tag == e.tag) ≡ true = search (rules, tests, tag_is) in
    rw yes (ap (λ y. Some y) same)

found_at : (elements : List Element) (places : List ℕ) (place : ℕ) (e : Element) → Rises (tags_of elements) → slice_get elements place ≡ Some e → element_at (at_places elements places) e.tag ≡ cond (has_number places place) (Some e) None
found_at elements [] place e rises is = refl
found_at elements (p ∷ places) place e rises is =
    ap (λ es. element_at es e.tag) (at_places-cons elements p places) ∙ found_step elements (at_places elements places) p place (has_number places place) e (slice_get elements p) (p == place) rises is refl refl (found_at elements places place e rises is)

pub element_at-places : (elements : List Element) (places : List ℕ) (tag place : ℕ) (e : Element) → Rises (tags_of elements) → slice_get elements place ≡ Some e → e.tag ≡ tag → element_at (at_places elements places) tag ≡ cond (has_number places place) (Some e) None
element_at-places elements places tag place e rises is same =
    subst (λ t. element_at (at_places elements places) t ≡ cond (has_number places place) (Some e) None) same (found_at elements places place e rises is)

-- without the tags of two lists: first without those of the one, then without those of the other
any_append : (tag : ℕ) (xs ys : List ℕ) → list_any (λ t. t == tag) (xs ++ ys) ≡ (list_any (λ t. t == tag) xs || list_any (λ t. t == tag) ys)
any_append tag [] ys = refl
any_append tag (x ∷ xs) ys = ap (λ b. (x == tag) || b) (any_append tag xs ys) ∙ sym (or_assoc (x == tag))
  where
    or_assoc : (b : Bool) → ((b || list_any (λ t. t == tag) xs) || list_any (λ t. t == tag) ys) ≡ (b || (list_any (λ t. t == tag) xs || list_any (λ t. t == tag) ys))
    or_assoc true = refl
    or_assoc false = refl

without_step : (e : Element) (xs ys : List ℕ) (memory both : Memory) (a b : Bool) → list_any (λ t. t == e.tag) xs ≡ a → list_any (λ t. t == e.tag) ys ≡ b → both ≡ without (without memory xs) ys → cond (not (a || b)) (e ∷ both) both ≡ without (without (e ∷ memory) xs) ys
without_step e xs ys memory both true b of_a of_b rest = rw of_a rest
without_step e xs ys memory both false true of_a of_b rest = rw of_a (rw of_b rest)
without_step e xs ys memory both false false of_a of_b rest = rw of_a (rw of_b (ap (λ es. e ∷ es) rest))

pub without-append : (memory : Memory) (xs ys : List ℕ) → without memory (xs ++ ys) ≡ without (without memory xs) ys
without-append [] xs ys = refl
without-append (e ∷ memory) xs ys =
    ap (λ b. cond (not b) (e ∷ without memory (xs ++ ys)) (without memory (xs ++ ys))) (any_append e.tag xs ys)
    ∙ without_step e xs ys memory (without memory (xs ++ ys)) (list_any (λ t. t == e.tag) xs) (list_any (λ t. t == e.tag) ys) refl refl (without-append memory xs ys)

-- a memory without a tag is what is left at the other places
turned : (n m : ℕ) (b : Bool) → (n == m) ≡ b → (m == n) ≡ b
turned n m true is =
    let same : m ≡ n = sym (eqb-true n m is) in
    search (rules, tests, same)
turned n m false is = other (m == n) refl
  where
    other : (b : Bool) → (m == n) ≡ b → b ≡ false
    other false is' = refl
    other true is' =
        let same : n ≡ m = sym (eqb-true m n is') in
        let yes : (n == m) ≡ true = search (rules, tests, same) in
        absurd (let wrong : ⊥ = cc in wrong)

left_step : (elements : List Element) (left : List ℕ) (rest : Memory) (p place : ℕ) (e : Element) (o : Option Element) (b : Bool) → Rises (tags_of elements) → slice_get elements place ≡ Some e → slice_get elements p ≡ o → (p == place) ≡ b → at_places elements left ≡ without rest (e.tag ∷ []) → at_places elements (cond (not b) (p ∷ left) left) ≡ without (place_step o rest) (e.tag ∷ [])
left_step elements left rest p place e None true rises is of_o of_b same = same
left_step elements left rest p place e None false rises is of_o of_b same = at_places-cons elements p left ∙ ap (λ o. place_step o (at_places elements left)) of_o ∙ same
left_step elements left rest p place e (Some x) true rises is of_o of_b same =
    let x_is : x ≡ e = is_there elements p place e x is of_o of_b in
    let tag_is : e.tag ≡ x.tag = sym (ap (λ (y : Element). y.tag) x_is) in
    let yes : (e.tag == x.tag) ≡ true = search (rules, tests, tag_is) in
    rw yes same
left_step elements left rest p place e (Some x) false rises is of_o of_b same =
    let differs : (e.tag == x.tag) ≡ false = turned x.tag e.tag false (is_elsewhere elements p place e x (x.tag == e.tag) rises is of_o of_b refl) in
    at_places-cons elements p left ∙ ap (λ o. place_step o (at_places elements left)) of_o ∙ rw differs (ap (λ es. x ∷ es) same)

left_at : (elements : List Element) (places : List ℕ) (place : ℕ) (e : Element) → Rises (tags_of elements) → slice_get elements place ≡ Some e → at_places elements (filter (λ p. not (p == place)) places) ≡ without (at_places elements places) (e.tag ∷ [])
left_at elements [] place e rises is = refl
left_at elements (p ∷ places) place e rises is =
    left_step elements (filter (λ q. not (q == place)) places) (at_places elements places) p place e (slice_get elements p) (p == place) rises is refl refl (left_at elements places place e rises is) ∙ sym (ap (λ es. without es (e.tag ∷ [])) (at_places-cons elements p places))

pub without-place : (elements : List Element) (places : List ℕ) (tag place : ℕ) (e : Element) → Rises (tags_of elements) → slice_get elements place ≡ Some e → e.tag ≡ tag → at_places elements (filter (λ p. not (p == place)) places) ≡ without (at_places elements places) (tag ∷ [])
without-place elements places tag place e rises is same =
    subst (λ t. at_places elements (filter (λ p. not (p == place)) places) ≡ without (at_places elements places) (t ∷ [])) same (left_at elements places place e rises is)

-- and a tag that nothing has takes nothing away
kept_step : (e : Element) (tag : ℕ) (memory : Memory) (b : Bool) → (e.tag == tag) ≡ b → cond b (Some e) (element_at memory tag) ≡ None → (element_at memory tag ≡ None → without memory (tag ∷ []) ≡ memory) → without (e ∷ memory) (tag ∷ []) ≡ e ∷ memory
kept_step e tag memory true is none later = absurd (let wrong : ⊥ = cc in wrong)
kept_step e tag memory false is none later = rw (turned e.tag tag false is) (ap (λ es. e ∷ es) (later none))

pub without-absent : (memory : Memory) (tag : ℕ) → element_at memory tag ≡ None → without memory (tag ∷ []) ≡ memory
without-absent [] tag none = refl
without-absent (e ∷ memory) tag none = kept_step e tag memory (e.tag == tag) refl none (without-absent memory tag)

-- what lies at a place of what came: of the base, or of what was born
pub get_left : {X : Type 0} (xs ys : List X) (p : ℕ) (x : X) → slice_get xs p ≡ Some x → slice_get (xs ++ ys) p ≡ Some x
get_left [] ys p x is = absurd (let wrong : ⊥ = cc in wrong)
get_left (z ∷ xs) ys zero x is = is
get_left (z ∷ xs) ys (suc p) x is = get_left xs ys p x is

get_right : {X : Type 0} (xs ys : List X) (i : ℕ) → slice_get (xs ++ ys) (length xs + i) ≡ slice_get ys i
get_right [] ys i = let same : 0 + i ≡ i = omega arith in ap (slice_get ys) same
get_right (x ∷ xs) ys i = let next : suc (length xs) + i ≡ suc (length xs + i) = omega arith in ap (slice_get (x ∷ (xs ++ ys))) next ∙ get_right xs ys i

get_past : {X : Type 0} (xs : List X) (p : ℕ) → length xs ≤ p → slice_get xs p ≡ None
get_past [] p le = refl
get_past (x ∷ xs) zero le = absurd (omega (arith, le))
get_past (x ∷ xs) (suc p) le = get_past xs p (omega (arith, le))

pub nothing_past : (elements born : List Element) (place : ℕ) → length elements + length born ≤ place → slice_get (elements ++ born) place ≡ None
nothing_past elements born place le = get_past (elements ++ born) place (omega (arith, length-append elements born, le))

-- consecutive tags: what has the i-th
get_consecutive : (first i : ℕ) (born : List Element) → AreConsecutive first (tags_of born) → i < length born → (x : Element) × (slice_get born i ≡ Some x) × (x.tag ≡ first + i)
get_consecutive first i [] consecutive lt = absurd (omega (arith, lt))
get_consecutive first zero (x ∷ born) consecutive lt = (x, refl, (let same : x.tag ≡ first + 0 = omega (arith, consecutive.0) in same))
get_consecutive first (suc i) (x ∷ born) consecutive lt =
    let found = get_consecutive (first + 1) i born consecutive.1 (omega (arith, lt)) in
    (found.0, found.1, (let same : found.0.tag ≡ first + suc i = omega (arith, found.2) in same))

at_consecutive : (first i : ℕ) (born : List Element) → AreConsecutive first (tags_of born) → i < length born → element_at born (first + i) ≡ slice_get born i
at_consecutive first i [] consecutive lt = absurd (omega (arith, lt))
at_consecutive first zero (x ∷ born) consecutive lt =
    let same : eqb x.tag (first + 0) ≡ true = search (rules, tests, consecutive.0) in
    rw same refl
at_consecutive first (suc i) (x ∷ born) consecutive lt =
    let differs : eqb x.tag (first + suc i) ≡ false = search (rules, tests, consecutive.0) in
    let next : first + 1 + i ≡ first + suc i = omega arith in
    let rest : element_at born (first + suc i) ≡ slice_get born i = subst (λ tag. element_at born tag ≡ slice_get born i) next (at_consecutive (first + 1) i born consecutive.1 (omega (arith, lt))) in
    rw differs rest

-- one that was born has its tag at its place
pub place-born : (elements born : List Element) (next i : ℕ) → AreConsecutive next (tags_of born) → i < length born → (x : Element) × (slice_get (elements ++ born) (length elements + i) ≡ Some x) × (x.tag ≡ next + i)
place-born elements born next i consecutive lt =
    let found = get_consecutive next i born consecutive lt in
    (found.0, get_right elements born i ∙ found.1, found.2)

pub born-place : (elements born : List Element) (next i : ℕ) → AreConsecutive next (tags_of born) → i < length born → element_at born (next + i) ≡ slice_get (elements ++ born) (length elements + i)
born-place elements born next i consecutive lt = at_consecutive next i born consecutive lt ∙ sym (get_right elements born i)

-- a tag that is above those of all, or below
absent_above_all : (bound tag : ℕ) (elements : List Element) → AllByRecursion (λ (e : Element). e.tag < bound) elements → bound ≤ tag → element_at elements tag ≡ None
absent_above_all bound tag [] below le = refl
absent_above_all bound tag (e ∷ elements) below le =
    let differs : eqb e.tag tag ≡ false = search (rules, tests, below.0, le) in
    rw differs (absent_above_all bound tag elements below.1 le)

absent_below_all : (first tag : ℕ) (born : List Element) → AreConsecutive first (tags_of born) → tag < first → element_at born tag ≡ None
absent_below_all first tag [] consecutive lt = refl
absent_below_all first tag (e ∷ born) consecutive lt =
    let differs : eqb e.tag tag ≡ false = search (rules, tests, consecutive.0, lt) in
    rw differs (absent_below_all (first + 1) tag born consecutive.1 (omega (arith, lt)))

pub absent-unborn : (elements born : List Element) (next tag : ℕ) → AllByRecursion (λ (e : Element). e.tag < next) elements → AreConsecutive next (tags_of born) → next + length born ≤ tag → element_at (elements ++ born) tag ≡ None
absent-unborn elements born next tag given consecutive le =
    absent-append tag elements born (absent_above_all next tag elements given (omega (arith, le))) (absent_above_all (next + length born) tag born (AllBelow-consecutive next born consecutive) le)

-- where one of the base lies, it lies among all
place_before : (elements born : List Element) (tag : ℕ) (o : Option ℕ) → IsPlaceOf elements tag o → element_at born tag ≡ None → IsPlaceOf (elements ++ born) tag o
place_before elements born tag None is none = absent-append tag elements born is none
place_before elements born tag (Some place) is none = (is.0, get_left elements born place is.0 is.1, is.2)

pub IsPlaceOf-base : (elements born : List Element) (next tag : ℕ) (o : Option ℕ) → IsPlaceOf elements tag o → AreConsecutive next (tags_of born) → tag < next → IsPlaceOf (elements ++ born) tag o
IsPlaceOf-base elements born next tag o is consecutive lt = place_before elements born tag o is (absent_below_all next tag born consecutive lt)
