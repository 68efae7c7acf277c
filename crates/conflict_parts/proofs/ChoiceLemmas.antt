-- The choices that living rows stand for: each matches where its row is free, and there is one row for each.
use Rattle.std.proofs.Common.{◌≡◌, ℕ, ◌+◌, ◌<◌, ◌≤◌, ◌==◌, List, [], ◌∷◌, Bool, true, false, cond, ◌&&◌, ◌||◌, Option, None, Some, Result, Ok, Err, filter, is_ok, is_some, length, map, slice_get, zero, suc, refl, ap, arith, subst, sym, ◌∙◌}
use Rattle.std.specs.List.{AllByRecursion, cons_option, list_all}
use Rattle.std.specs.Option.{option_map_or}
use Rattle.std.proofs.lemmas.Bool.{and_from, and_parts, eq-eqb, eqb-true}
use Rattle.std.proofs.lemmas.Option.{slice_get_within}
use Rattle.rule_base.specs.declared.element.Element.{Element}
use Rattle.rule_base.specs.declared.instantiation.Choice.{Choice}
use Rattle.rule_base.specs.declared.program.Program.{Program}
use Rattle.rule_base.specs.declared.program.Rule.{Rule}
use Rattle.rule_base.specs.Bindings.{Bindings}
use Rattle.rule_base.specs.ElementMatch.{bindings_with}
use Rattle.rule_base.specs.Match.{match_of}
use Rattle.rule_base.specs.Memory.{Memory, Rises, element_at, elements_at, tags_of}
use Rattle.rule_base.specs.Numbers.{has_number, same_numbers}
use Rattle.rule_base.specs.Step.{matches}
use Rattle.rule_base.proofs.EachLemmas.{Each-weaker}
use Rattle.rule_base.proofs.ElementMatchLemmas.{bindings_with-elements_at}
use Rattle.rule_base.proofs.TakenLemmas.{Each-matches}
use Rattle.join_tests.specs.declared.joins.Joins.{Joins}
use Rattle.join_tests.specs.Meaning.{IsCompiled, is_free}
use Rattle.alpha_memory.specs.Times.{times}
use Rattle.alpha_memory.proofs.TimesLemmas.{times-filter, times-map}
use Rattle.match_network.specs.Arrivals.{has_tag}
use Rattle.match_network.specs.Full.{memory_of, tags_at, takes_tags}
use Rattle.match_network.specs.Negated.{whole_rows}
use Rattle.match_network.specs.Network.{Network}
use Rattle.match_network.specs.Row.{elements_of, is_living, some_passes}
use Rattle.match_network.specs.Rules.{RuleRows}
use Rattle.match_network.proofs.ComeLemmas.{Each-has, some_at}
use Rattle.match_network.proofs.RowLemmas.{same_row, same_self}
use Rattle.match_network.proofs.TagLemmas.{has_tag_only}
use Rattle.conflict_parts.specs.Choices.{IsNetworkOf, IsRowOf, LivingRowsDiffer, LivingRowsMatch, MatchesAreLivingRows, choice_at}
use Rattle.conflict_parts.specs.Part.{IsLivingRow}
use Rattle.conflict_parts.proofs.RowLemmas.{full_rows-kept, whole_is, whole_of}

abbrev one : Bool → ℕ
one b = cond b 1 0

-- what is in a list once or more, by its number there
times-here : {X : Type 0} (test : X → Bool) (xs : List X) (i : ℕ) (x : X) → slice_get xs i ≡ Some x → test x ≡ true → 1 ≤ times test xs
times-here test [] i x at passes = absurd (let wrong : ⊥ = cc in wrong)
times-here test (y ∷ xs) zero x at passes =
    let same : y ≡ x = cc in
    let first : one (test y) ≡ 1 = ap one (ap test same ∙ passes) in
    omega (arith, first)
times-here test (y ∷ xs) (suc i) x at passes = omega (arith, times-here test xs i x at passes)

-- what is there once at most has one number
only_once : {X : Type 0} (test : X → Bool) (xs : List X) (i j : ℕ) (x y : X) → times test xs ≤ 1 → slice_get xs i ≡ Some x → slice_get xs j ≡ Some y → test x ≡ true → test y ≡ true → i ≡ j
only_once test [] i j x y few at also passes other = absurd (let wrong : ⊥ = cc in wrong)
only_once test (z ∷ xs) zero zero x y few at also passes other = refl
only_once test (z ∷ xs) zero (suc j) x y few at also passes other =
    let same : z ≡ x = cc in
    let first : one (test z) ≡ 1 = ap one (ap test same ∙ passes) in
    absurd (omega (arith, few, first, times-here test xs j y also other))
only_once test (z ∷ xs) (suc i) zero x y few at also passes other =
    let same : z ≡ y = cc in
    let first : one (test z) ≡ 1 = ap one (ap test same ∙ other) in
    absurd (omega (arith, few, first, times-here test xs i x at passes))
only_once test (z ∷ xs) (suc i) (suc j) x y few at also passes other = ap suc (only_once test xs i j x y (omega (arith, few)) at also passes other)

-- one of a list that passes a test
record Passing {X : Type 0} (test : X → Bool) (xs : List X) : Type 0 where
  number : ℕ
  item : X
  is : slice_get xs number ≡ Some item
  passes : test item ≡ true

passing_step : {X : Type 0} (test : X → Bool) (x : X) (xs : List X) (b : Bool) → test x ≡ b → 1 ≤ one b + times test xs → (1 ≤ times test xs → Passing test xs) → Passing test (x ∷ xs)
passing_step test x xs true is some later = record { number = 0; item = x; is = refl; passes = is }
passing_step test x xs false is some later =
    let rest = later (omega (arith, some)) in
    record { number = suc rest.number; item = rest.item; is = rest.is; passes = rest.passes }

some_passing : {X : Type 0} (test : X → Bool) (xs : List X) → 1 ≤ times test xs → Passing test xs
some_passing test [] some = absurd (omega (arith, some))
some_passing test (x ∷ xs) some = passing_step test x xs (test x) refl some (λ more. some_passing test xs more)

one_true : (b : Bool) → 1 ≤ one b → b ≡ true
one_true true some = refl
one_true false some = absurd (omega (arith, some))

one_few : (b : Bool) → one b ≤ 1
one_few true = omega arith
one_few false = omega arith

-- the tags are those of the elements that have them, where there are such
found_step : (memory : Memory) (tags : List ℕ) (found : Option Element) → is_some found ≡ true → map (element_at memory) tags ≡ map (λ (e : Element). Some e) (elements_at memory tags) → found ∷ map (element_at memory) tags ≡ map (λ (e : Element). Some e) (cons_option found (elements_at memory tags))
found_step memory tags None there rest = absurd (let wrong : ⊥ = cc in wrong)
found_step memory tags (Some e) there rest = ap (λ (found : List (Option Element)). Some e ∷ found) rest

tags_found : (memory : Memory) (tags : List ℕ) → list_all (λ t. is_some (element_at memory t)) tags ≡ true → map (element_at memory) tags ≡ map (λ (e : Element). Some e) (elements_at memory tags)
tags_found memory [] there = refl
tags_found memory (tag ∷ tags) there =
    let parts = and_parts (is_some (element_at memory tag)) (list_all (λ t. is_some (element_at memory t)) tags) there in
    found_step memory tags (element_at memory tag) parts.0 (tags_found memory tags parts.1)

-- a rule matches with tags that it takes where nothing joins at its negated condition elements
takes-matches : (rule : Rule) (joins : Joins) (memory : Memory) (tags : List ℕ) → IsCompiled rule joins → takes_tags rule memory tags ≡ true → is_ok (match_of rule tags memory) ≡ list_all (is_free memory (elements_at memory tags)) joins.negated
takes-matches rule joins memory tags compiled takes =
    let es = elements_at memory tags in
    let parts = and_parts (list_all (λ t. is_some (element_at memory t)) tags) (is_some (bindings_with rule es)) takes in
    compiled.matches memory tags es (tags_found memory tags parts.0)
    ∙ ap (λ b. b && list_all (is_free memory es) joins.negated) (sym (compiled.rows es) ∙ parts.1)

-- each element of a memory has a tag that is there
still_there : (f : Element) (memory : Memory) (e : Element) (b : Bool) → is_some (element_at memory e.tag) ≡ true → is_some (cond b (Some f) (element_at memory e.tag)) ≡ true
still_there f memory e true there = refl
still_there f memory e false there = there

here_first : (e : Element) (memory : Memory) (b : Bool) → b ≡ true → is_some (cond b (Some e) (element_at memory e.tag)) ≡ true
here_first e memory true is = refl
here_first e memory false is = absurd (let wrong : ⊥ = cc in wrong)

all_there : (memory : Memory) → AllByRecursion (λ (e : Element). is_some (element_at memory e.tag) ≡ true) memory
all_there [] = tt
all_there (f ∷ memory) = (
  here_first f memory (f.tag == f.tag) (eq-eqb f.tag f.tag refl),
  Each-weaker (λ (e : Element). is_some (element_at memory e.tag) ≡ true) (λ (e : Element). is_some (element_at (f ∷ memory) e.tag) ≡ true) (λ e there. still_there f memory e (f.tag == e.tag) there) memory (all_there memory),
)

all_pass : (test : ℕ → Bool) (tags : List ℕ) → AllByRecursion (λ t. test t ≡ true) tags → list_all test tags ≡ true
all_pass test [] each = refl
all_pass test (tag ∷ tags) each = and_from (test tag) (list_all test tags) each.0 (all_pass test tags each.1)

-- and a match takes its tags
match_binds : (rule : Rule) (memory : Memory) (tags : List ℕ) (r : Result Bindings ℕ) → match_of rule tags memory ≡ r → is_ok r ≡ true → is_some (bindings_with rule (elements_at memory tags)) ≡ true
match_binds rule memory tags (Err n) is ok = absurd (let wrong : ⊥ = cc in wrong)
match_binds rule memory tags (Ok bindings) is ok = ap (λ (o : Option Bindings). is_some o) (bindings_with-elements_at rule tags memory bindings is)

match_takes : (program : Program) (memory : Memory) (c : Choice) (rule : Rule) → matches program memory c ≡ true → is_ok (match_of rule c.tags memory) ≡ true → takes_tags rule memory c.tags ≡ true
match_takes program memory c rule ok of_rule =
    and_from (list_all (λ t. is_some (element_at memory t)) c.tags) (is_some (bindings_with rule (elements_at memory c.tags)))
    (all_pass (λ t. is_some (element_at memory t)) c.tags (Each-matches (λ t. is_some (element_at memory t) ≡ true) program memory c (all_there memory) ok))
    (match_binds rule memory c.tags (match_of rule c.tags memory) refl of_rule)

-- the element at a place in working memory is the one with its tag
at_step : (came : List Element) (rest : List ℕ) (p q : ℕ) (e : Element) (found : Option Element) (same : Bool) → slice_get came q ≡ found → (q == p) ≡ same → some_passes (λ (x : Element). x.tag == e.tag) found ≡ same → slice_get came p ≡ Some e → (same || has_number rest p) ≡ true → (has_number rest p ≡ true → element_at (elements_of came rest) e.tag ≡ Some e) → element_at (cons_option found (elements_of came rest)) e.tag ≡ Some e
at_step came rest p q e None true is same has at here later = absurd (let wrong : ⊥ = cc in wrong)
at_step came rest p q e None false is same has at here later = later here
at_step came rest p q e (Some f) true is same has at here later =
    ap (λ b. cond b (Some f) (element_at (elements_of came rest) e.tag)) has ∙ sym is ∙ ap (slice_get came) (eqb-true q p same) ∙ at
at_step came rest p q e (Some f) false is same has at here later = ap (λ b. cond b (Some f) (element_at (elements_of came rest) e.tag)) has ∙ later here

at_place : (came : List Element) (places : List ℕ) (p : ℕ) (e : Element) → Rises (tags_of came) → slice_get came p ≡ Some e → has_number places p ≡ true → element_at (elements_of came places) e.tag ≡ Some e
at_place came [] p e rises at here = absurd (let wrong : ⊥ = cc in wrong)
at_place came (q ∷ places) p e rises at here =
    let tagged : has_tag came e.tag p ≡ true = ap (some_passes (λ (x : Element). x.tag == e.tag)) at ∙ eq-eqb e.tag e.tag refl in
    at_step came places p q e (slice_get came q) (q == p) refl refl (has_tag_only came e.tag p q rises tagged) at here (λ later. at_place came places p e rises at later)

-- so the elements with the tags of a living row are the row's
row_elements : (came : List Element) (places row : List ℕ) → Rises (tags_of came) → AllByRecursion (λ p. p < length came) places → is_living places row ≡ true → elements_at (elements_of came places) (tags_at came row) ≡ elements_of came row
row_elements came places [] rises below lives = refl
row_elements came places (p ∷ row) rises below lives =
    let parts = and_parts (has_number places p) (is_living places row) lives in
    let memory = elements_of came places in
    let first = some_at came p (Each-has (λ q. q < length came) places p below parts.0) in
    subst (λ (found : Option Element). elements_at memory (tags_of (cons_option found (elements_of came row))) ≡ cons_option found (elements_of came row)) (sym first.is)
    (ap (λ (found : Option Element). cons_option found (elements_at memory (tags_at came row))) (at_place came places p first.item rises first.is parts.0)
    ∙ ap (λ (es : List Element). first.item ∷ es) (row_elements came places row rises below parts.1))

-- whether a row lives and has these tags
abbrev has_these : List Element → List ℕ → List ℕ → List ℕ → Bool
has_these came places tags row = same_numbers tags (tags_at came row) && is_living places row

-- there is one such row where the rule takes the tags
told_once : (program : Program) (network : Network) (number : ℕ) (rule : Rule) (kept : RuleRows) (tags : List ℕ) → IsNetworkOf program network → slice_get program.rules number ≡ Some rule → slice_get network.rules number ≡ Some kept →
    times (has_these network.arrivals.came network.arrivals.places tags) (whole_rows kept) ≡ one (takes_tags rule (memory_of network.arrivals) tags)
told_once program network number rule kept tags is there at =
    let came = network.arrivals.came in
    let places = network.arrivals.places in
    sym
    (times-map (same_numbers tags) (tags_at came) (filter (is_living places) (whole_rows kept))
    ∙ times-filter (λ row. same_numbers tags (tags_at came row)) (is_living places) (whole_rows kept))
    ∙ is.told number rule kept at (is.compiled.each number rule kept there at) tags

-- a living row, its rule, and what is kept of the rule
record IsRowAt (program : Program) (network : Network) (rule number : ℕ) (row : List ℕ) : Type 0 where
  of_program : Rule
  there : slice_get program.rules rule ≡ Some of_program
  kept : RuleRows
  at : slice_get network.rules rule ≡ Some kept
  row_is : slice_get (whole_rows kept) number ≡ Some row

row_at : (program : Program) (network : Network) (rule number : ℕ) (row : List ℕ) → IsNetworkOf program network → IsLivingRow network rule number row → IsRowAt program network rule number row
row_at program network rule number row is lives =
    let whole = whole_of network.rules rule number row lives.is in
    let found = some_at program.rules rule (omega (arith, slice_get_within network.rules rule whole.kept whole.is.rule_is, is.compiled.count)) in
    record { of_program = found.item; there = found.is; kept = whole.kept; at = whole.is.rule_is; row_is = whole.is.row_is }

has_own : (network : Network) (rule number : ℕ) (row : List ℕ) → IsLivingRow network rule number row → has_these network.arrivals.came network.arrivals.places (tags_at network.arrivals.came row) row ≡ true
has_own network rule number row lives =
    let tags = tags_at network.arrivals.came row in
    and_from (same_numbers tags tags) (is_living network.arrivals.places row) (same_self tags) lives.lives

pub living_rows_match : LivingRowsMatch
living_rows_match program network rule number row is lives =
    let whole = row_at program network rule number row is lives in
    let came = network.arrivals.came in
    let places = network.arrivals.places in
    let memory = memory_of network.arrivals in
    let tags = tags_at came row in
    let told = told_once program network rule whole.of_program whole.kept tags is whole.there whole.at in
    let some = times-here (has_these came places tags) (whole_rows whole.kept) number row whole.row_is (has_own network rule number row lives) in
    let takes : takes_tags whole.of_program memory tags ≡ true = one_true (takes_tags whole.of_program memory tags) (omega (arith, told, some)) in
    ap (λ (found : Option Rule). option_map_or (λ (r : Rule). is_ok (match_of r tags memory)) found false) whole.there
    ∙ takes-matches whole.of_program whole.kept.joins memory tags (is.compiled.each rule whole.of_program whole.kept whole.there whole.at) takes
    ∙ ap (λ (es : List Element). list_all (is_free memory es) whole.kept.joins.negated) (row_elements came places row is.rising is.below lives.lives)
    ∙ sym (ap (λ (found : Option RuleRows). option_map_or (λ (kept : RuleRows). list_all (is_free memory (elements_of came row)) kept.joins.negated) found true) whole.at)

-- a match of a rule has its row
row_of : (program : Program) (network : Network) (c : Choice) (found : Option Rule) → IsNetworkOf program network → slice_get program.rules c.rule ≡ found → matches program (memory_of network.arrivals) c ≡ true → option_map_or (λ (rule : Rule). is_ok (match_of rule c.tags (memory_of network.arrivals))) found false ≡ true → IsRowOf network c
row_of program network c None is at ok of_rule = absurd (let wrong : ⊥ = cc in wrong)
row_of program network c (Some rule) is at ok of_rule =
    let came = network.arrivals.came in
    let places = network.arrivals.places in
    let memory = memory_of network.arrivals in
    let kept = some_at network.rules c.rule (omega (arith, slice_get_within program.rules c.rule rule at, is.compiled.count)) in
    let takes : one (takes_tags rule memory c.tags) ≡ 1 = ap one (match_takes program memory c rule ok of_rule) in
    let told = told_once program network c.rule rule kept.item c.tags is at kept.is in
    let found = some_passing (has_these came places c.tags) (whole_rows kept.item) (omega (arith, told, takes)) in
    let parts = and_parts (same_numbers c.tags (tags_at came found.item)) (is_living places found.item) found.passes in
    let lives : IsLivingRow network c.rule found.number found.item = record {
      is = ap (λ (rows : List (List ℕ)). slice_get rows found.number) (full_rows-kept network.rules c.rule kept.item kept.is) ∙ found.is;
      lives = parts.1;
    } in
    let same : choice_at network c.rule found.item ≡ c =
    ap (λ (tags : List ℕ). let d : Choice = record { rule = c.rule; tags = tags } in d) (sym (same_row c.tags (tags_at came found.item) parts.0)) in
    record {
      number = found.number;
      row = found.item;
      lives = lives;
      is = same;
      free = sym (living_rows_match program network c.rule found.number found.item is lives) ∙ ap (λ (d : Choice). matches program memory d) same ∙ ok;
    }

pub matches_are_living_rows : MatchesAreLivingRows
matches_are_living_rows program network c is ok = row_of program network c (slice_get program.rules c.rule) is refl ok ok

pub living_rows_differ : LivingRowsDiffer
living_rows_differ program network rule number other row next is lives also same =
    let whole = row_at program network rule number row is lives in
    let came = network.arrivals.came in
    let places = network.arrivals.places in
    let tags = tags_at came row in
    let told = told_once program network rule whole.of_program whole.kept tags is whole.there whole.at in
    let few = one_few (takes_tags whole.of_program (memory_of network.arrivals) tags) in
    let parts = and_parts (rule == rule) (same_numbers tags (tags_at came next)) same in
    only_once (has_these came places tags) (whole_rows whole.kept) number other row next (omega (arith, told, few)) whole.row_is (whole_is network rule other next also whole.kept whole.at).row_is
    (has_own network rule number row lives) (and_from (same_numbers tags (tags_at came next)) (is_living places next) parts.1 also.lives)
