-- What each change leaves of the claims that stand and of their words.
use Rattle.std.proofs.Common.{◌≡◌, ◌≢◌, ℕ, ◌+◌, ◌-◌, ◌<◌, ◌≤◌, ◌^◌, List, [], ◌∷◌, ◌++◌, Bool, true, false, not, ◌||◌, None, filter, get_or, is_some, length, map, option_map, slice_get, take, ◌==◌, refl, sym, ◌∙◌, ap, subst, arith}
use Rattle.std.specs.List.{AllByRecursion, position_or_len, remove, zip}
use Rattle.std.proofs.Math.Seq.{take-append_seam}
use Rattle.std.proofs.lemmas.Bool.Decides.{nat_tests}
use Rattle.std.proofs.lemmas.List.{get_or-map, length-append, length-map, map-append}
use Rattle.std.proofs.lemmas.List.Edits.{length-remove}
use Rattle.std.proofs.lemmas.List.Folds.{find_at}
use Rattle.std.proofs.lemmas.List.Sums.{prefix_len-le-length}
use Rattle.std.proofs.lemmas.Option.{slice_get-get_or, slice_get_past}
use Rattle.rule_base.specs.declared.lock.Mode.{Mode}
use Rattle.rule_base.specs.declared.instantiation.Candidate.{Candidate}
use Rattle.rule_base.specs.Memory.{Rises}
use Rattle.rule_base.proofs.EachLemmas.{Each-append, Each-slice_get, Each-weaker}
use Rattle.interference.specs.Locks.{lock_count}
use Rattle.interference.specs.Words.{first_busy, word_of}
use Rattle.standing_claims.specs.declared.claim.Claim.{Claim}
use Rattle.standing_claims.specs.declared.held.Held.{Held}
use Rattle.standing_claims.specs.Amounts.{AreOfLocks, AreWordsOf, IsFootprint, amounts}
use Rattle.standing_claims.specs.Standing.{IsKept, Standing, claim_numbered, claims_without, footprints_without, is_full, numbers_of}
use Rattle.standing_claims.specs.Held.{claims_in, footprints_in, standing_with}
use Rattle.standing_claims.proofs.AmountLemmas.{amounts-le, first_busy-none, word_of-le, words-enough, words-push, words-remove}
use Rattle.standing_claims.proofs.RemoveLemmas.{Each-remove, Rises-push, Rises-remove, filter-numbered, find-map, map-filter, map-map, map-remove, remove-past, zip-map, zip-maps}

abbrev number_in : Held → ℕ
number_in h = h.claim.number

-- the place of the claim with a number
abbrev pub place_in : List Held → ℕ → ℕ
place_in held number = position_or_len (λ (h : Held). h.claim.number == number) held

-- what is written into a vector's slice is what it has afterwards
pub refilled : (count : ℕ) (words rest : List ℕ) → count ≡ length words → take count (words ++ rest) ≡ words
refilled count words rest is = ap (λ n. take n (words ++ rest)) is ∙ take-append_seam words rest

-- the claim with a number is the one at its place
pub numbered_at : (held : List Held) (number : ℕ) → claim_numbered (claims_in held) number ≡ option_map (λ (h : Held). h.claim) (slice_get held (place_in held number))
numbered_at held number =
    find-map (λ (h : Held). h.claim) (λ (claim : Claim). claim.number == number) held
    ∙ ap (option_map (λ (h : Held). h.claim)) (find_at (λ (h : Held). h.claim.number == number) held)

pub numbered_past : (held : List Held) (number : ℕ) → place_in held number ≡ length held → claim_numbered (claims_in held) number ≡ None
numbered_past held number past =
    numbered_at held number ∙ ap (option_map (λ (h : Held). h.claim)) (slice_get_past held (place_in held number) (omega (arith, past)))

pub numbered_within : (held : List Held) (number : ℕ) (h : Held) → place_in held number < length held → is_some (claim_numbered (claims_in held) number) ≡ true
numbered_within held number h lt =
    ap is_some (numbered_at held number ∙ ap (option_map (λ (h : Held). h.claim)) (slice_get-get_or held (place_in held number) h lt))

-- a place that isn't the end is within
pub place_within : (held : List Held) (number place count len : ℕ) → place ≡ place_in held number → count ≡ length held → len ≡ count → place ≢ len → place < length held
place_within held number place count len is same of_len other =
    let le = prefix_len-le-length (λ (h : Held). not (h.claim.number == number)) held in
    grind (arith)

-- what is left without the claim of a number
held_numbers : (held : List Held) → numbers_of (claims_in held) ≡ map number_in held
held_numbers held = map-map (λ (h : Held). h.claim) (λ (claim : Claim). claim.number) held

without : (held : List Held) (number : ℕ) → Rises (numbers_of (claims_in held)) → filter (λ (h : Held). not (h.claim.number == number)) held ≡ remove held (place_in held number)
without held number rises = filter-numbered number_in number held (subst Rises (held_numbers held) rises)

pub claims-without : (held : List Held) (number given spare : ℕ) → Rises (numbers_of (claims_in held)) → claims_in (remove held (place_in held number)) ≡ claims_without (standing_with held given spare) number
claims-without held number given spare rises =
    ap claims_in (sym (without held number rises)) ∙ map-filter (λ (h : Held). h.claim) (λ (claim : Claim). not (claim.number == number)) held

abbrev pair_of : Held → Claim × List (ℕ × Mode)
pair_of h = (h.claim, h.footprint)

abbrev stays : ℕ → Claim × List (ℕ × Mode) → Bool
stays number pair = not (pair.0.number == number)

abbrev second : Claim × List (ℕ × Mode) → List (ℕ × Mode)
second pair = pair.1

pub footprints-without : (held : List Held) (number given spare : ℕ) → Rises (numbers_of (claims_in held)) → footprints_in (remove held (place_in held number)) ≡ footprints_without (standing_with held given spare) number
footprints-without held number given spare rises =
    ap footprints_in (sym (without held number rises))
    ∙ sym (map-map pair_of second (filter (λ (h : Held). stays number (pair_of h)) held))
    ∙ ap (map second) (map-filter pair_of (stays number) held)
    ∙ sym (ap (λ pairs. map second (filter (stays number) pairs)) (zip-maps (λ (h : Held). h.claim) (λ (h : Held). h.footprint) held))

-- for callers: where each claim's footprint is a function of it, that stays so
pub footprints_without-by : (s : Standing) (number : ℕ) (by : Claim → List (ℕ × Mode)) → s.footprints ≡ map by s.claims → footprints_without s number ≡ map by (claims_without s number)
footprints_without-by s number by are =
    let pair : Claim → Claim × List (ℕ × Mode) = λ claim. (claim, by claim) in
    ap (λ footprints. map second (filter (stays number) (zip s.claims footprints))) are
    ∙ ap (λ pairs. map second (filter (stays number) pairs)) (zip-map by s.claims)
    ∙ ap (map second) (sym (map-filter pair (stays number) s.claims))
    ∙ map-map pair second (claims_without s number)

-- nothing goes with a number that no claim has
pub claims-same : (held : List Held) (number given spare : ℕ) → Rises (numbers_of (claims_in held)) → place_in held number ≡ length held → claims_in held ≡ claims_without (standing_with held given spare) number
claims-same held number given spare rises past =
    ap claims_in (sym (remove-past held)) ∙ ap (λ place. claims_in (remove held place)) (sym past) ∙ claims-without held number given spare rises

pub footprints-same : (held : List Held) (number given spare : ℕ) → Rises (numbers_of (claims_in held)) → place_in held number ≡ length held → footprints_in held ≡ footprints_without (standing_with held given spare) number
footprints-same held number given spare rises past =
    ap footprints_in (sym (remove-past held)) ∙ ap (λ place. footprints_in (remove held place)) (sym past) ∙ footprints-without held number given spare rises

-- the footprint at a place
pub footprint_at : (held : List Held) (place : ℕ) (h : Held) → place < length held → h ≡ get_or held place h → h.footprint ≡ get_or (footprints_in held) place []
footprint_at held place h lt is =
    ap (λ (x : Held). x.footprint) is ∙ sym (get_or-map (λ (x : Held). x.footprint) held place h [] lt)

-- so many words are there where a claim stands or has room
pub words_laid : (s : Standing) (words : List ℕ) → IsKept s words → 0 < length s.claims + s.spare → length words ≡ lock_count
words_laid s words kept some = kept.laid (kept.ready some)

pub words_there : (held : List Held) (given spare : ℕ) (words : List ℕ) (place : ℕ) → IsKept (standing_with held given spare) words → place < length held → 0 < length words
words_there held given spare words place kept lt = kept.ready (omega (arith, lt, length-map held (λ (h : Held). h.claim)))

pub locks_laid : (s : Standing) (words : List ℕ) (footprint : List (ℕ × Mode)) → IsKept s words → 0 < length words → AreOfLocks footprint → AllByRecursion (λ (d : ℕ × Mode). d.0 < length words) footprint
locks_laid s words footprint kept some of_locks =
    Each-weaker (λ (d : ℕ × Mode). d.0 < lock_count) (λ (d : ℕ × Mode). d.0 < length words) (λ d lt. omega (arith, lt, kept.laid some)) footprint of_locks

pub no_words : (words : List ℕ) → length words ≡ 0 → words ≡ []
no_words [] none = refl
no_words (word ∷ words) none = absurd (omega (arith, none))

-- nothing is busy before words are laid out
pub busy-none : (s : Standing) (words : List ℕ) (footprint : List (ℕ × Mode)) → IsKept s words → words ≡ [] → None ≡ first_busy (word_of s.footprints) footprint
busy-none s words footprint kept none =
    sym (first_busy-none (word_of s.footprints) footprint (λ lock. sym (kept.summed lock) ∙ ap (λ (ws : List ℕ). get_or ws lock 0) none))

-- a further claim has room in each word
not_full : (given count : ℕ) (a b : Bool) → (count == 4095) ≡ b → (a || b) ≡ false → count ≢ 4095
not_full given count false false is none = grind (arith, nat_tests)
not_full given count false true is none = absurd (let wrong : ⊥ = cc in wrong)
not_full given count true b is none = absurd (let wrong : ⊥ = cc in wrong)

few_before : (s : Standing) (words : List ℕ) → IsKept s words → is_full s.given (length s.claims) ≡ false → length s.claims < 4095
few_before s words kept room =
    let other : length s.claims ≢ 4095 = not_full s.given (length s.claims) (s.given == 2 ^ 64 - 1) (length s.claims == 4095) refl room in
    let few = kept.few in
    grind (arith)

pub words_fit : (held : List Held) (given spare : ℕ) (words : List ℕ) (footprint : List (ℕ × Mode)) → IsKept (standing_with held given spare) words → is_full given (length (claims_in held)) ≡ false → IsFootprint footprint → (lock : ℕ) → get_or words lock 0 + amounts footprint lock < 18446744073709551616
words_fit held given spare words footprint kept room taken lock =
    omega (
      arith,
      few_before (standing_with held given spare) words kept room,
      length-map held (λ (h : Held). h.claim),
      length-map held (λ (h : Held). h.footprint),
      kept.summed lock,
      word_of-le (footprints_in held) lock,
      amounts-le footprint lock taken.rising,
    )

-- one claim more
pub IsKept-push : (held held' : List Held) (given spare : ℕ) (words words' : List ℕ) (candidate : Candidate) (footprint : List (ℕ × Mode)) → IsKept (standing_with held given spare) words → is_full given (length (claims_in held)) ≡ false → 0 < spare → IsFootprint footprint → held' ≡ held ++ record { claim = record { number = given + 1; candidate = candidate }; footprint = footprint } ∷ [] → ((lock : ℕ) → get_or words' lock 0 ≡ get_or words lock 0 + amounts footprint lock) → length words' ≡ length words → IsKept (standing_with held' (given + 1) (spare - 1)) words'
IsKept-push held held' given spare words words' candidate footprint kept room some taken is more same =
    let last : Held = record { claim = record { number = given + 1; candidate = candidate }; footprint = footprint } in
    let claims : claims_in held' ≡ claims_in held ++ last.claim ∷ [] = ap claims_in is ∙ map-append (λ (h : Held). h.claim) held (last ∷ []) in
    let footprints : footprints_in held' ≡ footprints_in held ++ footprint ∷ [] = ap footprints_in is ∙ map-append (λ (h : Held). h.footprint) held (last ∷ []) in
    let numbers : numbers_of (claims_in held') ≡ numbers_of (claims_in held) ++ (given + 1) ∷ [] = ap numbers_of claims ∙ map-append (λ (claim : Claim). claim.number) (claims_in held) (last.claim ∷ []) in
    let count : length (claims_in held') ≡ length (claims_in held) + 1 = ap length claims ∙ length-append (claims_in held) (last.claim ∷ []) in
    let laid : length words ≡ lock_count = words_laid (standing_with held given spare) words kept (omega (arith, some)) in
    record {
      few = omega (arith, count, few_before (standing_with held given spare) words kept room);
      rising = subst Rises (sym numbers) (Rises-push (given + 1) (numbers_of (claims_in held)) kept.rising (Each-weaker (λ n. n ≤ given) (λ n. n < given + 1) (λ n le. omega (arith, le)) (numbers_of (claims_in held)) kept.numbered));
      numbered = subst (AllByRecursion (λ n. n ≤ given + 1)) (sym numbers)
          (Each-append (λ n. n ≤ given + 1) (numbers_of (claims_in held)) ((given + 1) ∷ []) (Each-weaker (λ n. n ≤ given) (λ n. n ≤ given + 1) (λ n le. omega (arith, le)) (numbers_of (claims_in held)) kept.numbered) (omega arith, tt));
      taken = subst (AllByRecursion IsFootprint) (sym footprints) (Each-append IsFootprint (footprints_in held) (footprint ∷ []) kept.taken (taken, tt));
      summed = subst (λ fs. AreWordsOf fs words') (sym footprints) (words-push (footprints_in held) footprint words words' taken.rising kept.summed more);
      laid = λ any. omega (arith, same, laid);
      ready = λ any. omega (arith, same, laid);
    }

-- one claim less
pub footprint_taken : (held : List Held) (given spare : ℕ) (words : List ℕ) (place : ℕ) (h : Held) → IsKept (standing_with held given spare) words → place < length held → h ≡ get_or held place h → IsFootprint h.footprint
footprint_taken held given spare words place h kept lt is =
    let within : place < length (footprints_in held) = omega (arith, lt, length-map held (λ (x : Held). x.footprint)) in
    subst IsFootprint (sym (footprint_at held place h lt is)) (Each-slice_get IsFootprint (footprints_in held) place (get_or (footprints_in held) place []) kept.taken (slice_get-get_or (footprints_in held) place [] within))

pub footprint_enough : (held : List Held) (given spare : ℕ) (words : List ℕ) (place : ℕ) (h : Held) → IsKept (standing_with held given spare) words → place < length held → h ≡ get_or held place h → (lock : ℕ) → amounts h.footprint lock ≤ get_or words lock 0
footprint_enough held given spare words place h kept lt is =
    words-enough (footprints_in held) place h.footprint words (omega (arith, lt, length-map held (λ (x : Held). x.footprint))) (footprint_at held place h lt is) (footprint_taken held given spare words place h kept lt is).rising kept.summed

pub IsKept-remove : (held held' : List Held) (given spare : ℕ) (words words' : List ℕ) (place : ℕ) (h : Held) → IsKept (standing_with held given spare) words → place < length held → h ≡ get_or held place h → held' ≡ remove held place → ((lock : ℕ) → get_or words' lock 0 + amounts h.footprint lock ≡ get_or words lock 0) → length words' ≡ length words → IsKept (standing_with held' given (spare + 1)) words'
IsKept-remove held held' given spare words words' place h kept lt is left less same =
    let claims : claims_in held' ≡ remove (claims_in held) place = ap claims_in left ∙ map-remove (λ (x : Held). x.claim) held place in
    let footprints : footprints_in held' ≡ remove (footprints_in held) place = ap footprints_in left ∙ map-remove (λ (x : Held). x.footprint) held place in
    let numbers : numbers_of (claims_in held') ≡ remove (numbers_of (claims_in held)) place = ap numbers_of claims ∙ map-remove (λ (claim : Claim). claim.number) (claims_in held) place in
    let old_count : length (claims_in held) ≡ length held = length-map held (λ (x : Held). x.claim) in
    let count : length (claims_in held') + 1 ≡ length (claims_in held) = ap (λ (cs : List Claim). length cs + 1) claims ∙ length-remove (claims_in held) place (omega (arith, lt, old_count)) in
    let within : place < length (footprints_in held) = omega (arith, lt, length-map held (λ (x : Held). x.footprint)) in
    let laid : length words ≡ lock_count = words_laid (standing_with held given spare) words kept (omega (arith, lt, old_count)) in
    record {
      few = omega (arith, count, kept.few);
      rising = subst Rises (sym numbers) (Rises-remove (numbers_of (claims_in held)) place kept.rising);
      numbered = subst (AllByRecursion (λ n. n ≤ given)) (sym numbers) (Each-remove (λ n. n ≤ given) (numbers_of (claims_in held)) place kept.numbered);
      taken = subst (AllByRecursion IsFootprint) (sym footprints) (Each-remove IsFootprint (footprints_in held) place kept.taken);
      summed = subst (λ fs. AreWordsOf fs words') (sym footprints)
          (words-remove (footprints_in held) place h.footprint words words' within (footprint_at held place h lt is) (footprint_taken held given spare words place h kept lt is).rising kept.summed less);
      laid = λ any. omega (arith, same, laid);
      ready = λ any. omega (arith, same, laid);
    }
