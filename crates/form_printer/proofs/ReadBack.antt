-- When what is printed of a thing is read as that thing again: for phrases joined from others.
use Rattle.std.proofs.Common.{◌≡◌, ℕ, ◌<◌, ◌≤◌, List, [], ◌∷◌, ◌++◌, length, codes, refl, sym, ◌∙◌, inl, inr, subst, arith}
use Rattle.std.specs.List.{AllByRecursion, flat_map}
use Rattle.ops_text.specs.Names.{Names}
use Rattle.ops_tokens.specs.declared.token.Keyword.{Keyword}
use Rattle.ops_tokens.specs.Token.{Token}
use Rattle.ops_reader.specs.Grammar.{Phrase, nothing, ◌⨾◌, either, any, the, keyword}
use Rattle.form_printer.specs.CanonicalValues.{spaced}
use Rattle.form_printer.proofs.LexedLemmas.{AreLexed}
use Rattle.form_printer.proofs.NumberLemmas.{IsGrown, grown_not, grown_twice}
use Rattle.form_printer.proofs.PrintedTokens.{HasTokens, HasTokensThere, EndsWords, tokens_then, tokens_apart, tokens_blank}

-- the text has tokens that spell the phrase with names that stay as they are
pub record Prints (phrase : Phrase) (names : Names) (text : List ℕ) : Type 0 where
  pub found : List Token
  pub has : HasTokens text found
  pub spelled : phrase names found names

-- the same whatever stands behind the text
pub record PrintsThere (phrase : Phrase) (names : Names) (text : List ℕ) : Type 0 where
  pub found : List Token
  pub has : HasTokensThere text found
  pub spelled : phrase names found names

both_spelled : (p q : Phrase) (names : Names) (found more : List Token) → p names found names → q names more names → (p ⨾ q) names (found ++ more) names
both_spelled p q names found more h k = record { front = found; back = more; between = names; cut = refl; of_first = h; of_second = k }

pub prints_there : (p : Phrase) (names : Names) (text : List ℕ) → PrintsThere p names text → Prints p names text
prints_there p names text h = record { found = h.found; has = λ rest end. h.has rest; spelled = h.spelled }

pub prints_then : {p q : Phrase} {names : Names} {text more : List ℕ} → PrintsThere p names text → Prints q names more → Prints (p ⨾ q) names (text ++ more)
prints_then {p} {q} {names} {text} {more} h k = record {
  found = h.found ++ k.found;
  has = tokens_then text more h.found k.found h.has k.has;
  spelled = both_spelled p q names h.found k.found h.spelled k.spelled;
}

pub prints_apart : {p q : Phrase} {names : Names} {text more : List ℕ} → EndsWords more → Prints p names text → Prints q names more → Prints (p ⨾ q) names (text ++ more)
prints_apart {p} {q} {names} {text} {more} apart h k = record {
  found = h.found ++ k.found;
  has = tokens_apart text more h.found k.found h.has apart k.has;
  spelled = both_spelled p q names h.found k.found h.spelled k.spelled;
}

pub prints_blank : {p : Phrase} {names : Names} {text : List ℕ} → Prints p names text → PrintsThere p names (text ++ codes " ")
prints_blank {p} {names} {text} h = record { found = h.found; has = tokens_blank text h.found h.has; spelled = h.spelled }

pub prints_after_blank : {p : Phrase} {names : Names} {text : List ℕ} → Prints p names text → Prints p names (codes " " ++ text)
prints_after_blank h = record { found = h.found; has = λ rest end. h.has rest end; spelled = h.spelled }

-- the numbers are those of names
abbrev pub AreWithin : Names → List ℕ → Type 0
AreWithin names numbers = AllByRecursion (λ n. n < length names) numbers

-- whatever tokens of a text spell the one phrase leave names that have these numbers, and what is printed with those
-- names, and any that come later, spells the other phrase
pub record IsReadBack (from to : Phrase) (numbers : List ℕ) (text : Names → List ℕ) : Type 0 where
  pub grown : (before : Names) (tokens : List Token) (after : Names) → from before tokens after → IsGrown before after
  pub named : (before : Names) (tokens : List Token) (after : Names) → from before tokens after → AreWithin after numbers
  pub prints : (before : Names) (tokens : List Token) (middle after : Names) → from before tokens middle → AreLexed tokens → IsGrown middle after → Prints to after (text after)

-- the phrase leaves the names as they are
abbrev pub KeepsNames : Phrase → Type 0
KeepsNames phrase = (before : Names) (tokens : List Token) (after : Names) → phrase before tokens after → after ≡ before

pub the_keeps : (token : Token) → KeepsNames (the token)
the_keeps token before tokens after h = h.1

pub keyword_keeps : (key : Keyword) → KeepsNames (keyword key)
keyword_keeps key before tokens after h = h.2

pub nothing_keeps : KeepsNames nothing
nothing_keeps before tokens after h = h.1

pub both_keep : (p q : Phrase) → KeepsNames p → KeepsNames q → KeepsNames (p ⨾ q)
both_keep p q one other before tokens after h = other h.between h.back after h.of_second ∙ one before h.front h.between h.of_first

front_lexed : (front back : List Token) → AreLexed (front ++ back) → AreLexed front
front_lexed [] back h = tt
front_lexed (token ∷ front) back h = (h.0, front_lexed front back h.1)

back_lexed : (front back : List Token) → AreLexed (front ++ back) → AreLexed back
back_lexed [] back h = h
back_lexed (token ∷ front) back h = back_lexed front back h.1

pub within_both : (names : Names) (ns ms : List ℕ) → AreWithin names ns → AreWithin names ms → AreWithin names (ns ++ ms)
within_both names [] ms h k = k
within_both names (n ∷ ns) ms h k = (h.0, within_both names ns ms h.1 k)

pub within_front : (names : Names) (ns ms : List ℕ) → AreWithin names (ns ++ ms) → AreWithin names ns
within_front names [] ms h = tt
within_front names (n ∷ ns) ms h = (h.0, within_front names ns ms h.1)

pub within_back : (names : Names) (ns ms : List ℕ) → AreWithin names (ns ++ ms) → AreWithin names ms
within_back names [] ms h = h
within_back names (n ∷ ns) ms h = within_back names ns ms h.1

within_longer : (names more : Names) (ns : List ℕ) → length names ≤ length more → AreWithin names ns → AreWithin more ns
within_longer names more [] longer h = tt
within_longer names more (n ∷ ns) longer h = (let small = h.0 in omega arith, within_longer names more ns longer h.1)

-- a phrase behind one that leaves the names as they are
pub read_behind : {x q q' r : Phrase} {numbers : List ℕ} {text whole : Names → List ℕ} → KeepsNames x → IsReadBack q q' numbers text
    → ((names : Names) → Prints q' names (text names) → Prints r names (whole names)) → IsReadBack (x ⨾ q) r numbers whole
read_behind {x} keeps k join = record {
  grown = λ before tokens after h. subst (λ names. IsGrown names after) (keeps before h.front h.between h.of_first) (k.grown h.between h.back after h.of_second);
  named = λ before tokens after h. k.named h.between h.back after h.of_second;
  prints = λ before tokens middle after h lexed later.
      join after (k.prints h.between h.back middle after h.of_second (back_lexed h.front h.back (subst AreLexed h.cut lexed)) later);
}

-- a phrase before one that leaves the names as they are
pub read_before : {x p p' r : Phrase} {numbers : List ℕ} {text whole : Names → List ℕ} → KeepsNames x → IsReadBack p p' numbers text
    → ((names : Names) → Prints p' names (text names) → Prints r names (whole names)) → IsReadBack (p ⨾ x) r numbers whole
read_before {x} {p} {p'} {r} {numbers} keeps k join = record {
  grown = λ before tokens after h. subst (λ names. IsGrown before names) (sym (keeps h.between h.back after h.of_second)) (k.grown before h.front h.between h.of_first);
  named = λ before tokens after h. subst (λ names. AreWithin names numbers) (sym (keeps h.between h.back after h.of_second)) (k.named before h.front h.between h.of_first);
  prints = λ before tokens middle after h lexed later.
      join after (k.prints before h.front h.between after h.of_first (front_lexed h.front h.back (subst AreLexed h.cut lexed)) (subst (λ names. IsGrown names after) (keeps h.between h.back middle h.of_second) later));
}

-- two phrases
pub read_both : {p p' q q' r : Phrase} {ns ms : List ℕ} {text more whole : Names → List ℕ} → IsReadBack p p' ns text → IsReadBack q q' ms more
    → ((names : Names) → Prints p' names (text names) → Prints q' names (more names) → Prints r names (whole names)) → IsReadBack (p ⨾ q) r (ns ++ ms) whole
read_both {p} {p'} {q} {q'} {r} {ns} {ms} one other join = record {
  grown = λ before tokens after h. grown_twice before h.between after (one.grown before h.front h.between h.of_first) (other.grown h.between h.back after h.of_second);
  named = λ before tokens after h.
      within_both after ns ms (within_longer h.between after ns (other.grown h.between h.back after h.of_second).longer (one.named before h.front h.between h.of_first)) (other.named h.between h.back after h.of_second);
  prints = λ before tokens middle after h lexed later.
      let all = subst AreLexed h.cut lexed in
      join after
      (one.prints before h.front h.between after h.of_first (front_lexed h.front h.back all) (grown_twice h.between middle after (other.grown h.between h.back middle h.of_second) later))
      (other.prints h.between h.back middle after h.of_second (back_lexed h.front h.back all) later);
}

-- one phrase or another
pub read_either : {p q r : Phrase} {ns : List ℕ} {text : Names → List ℕ} → IsReadBack p r ns text → IsReadBack q r ns text → IsReadBack (either p q) r ns text
read_either {p} {q} {r} {ns} {text} one other = record { grown = grown; named = named; prints = prints }
  where
    grown : (before : Names) (tokens : List Token) (after : Names) → either p q before tokens after → IsGrown before after
    grown before tokens after (inl h) = one.grown before tokens after h
    grown before tokens after (inr h) = other.grown before tokens after h

    named : (before : Names) (tokens : List Token) (after : Names) → either p q before tokens after → AreWithin after ns
    named before tokens after (inl h) = one.named before tokens after h
    named before tokens after (inr h) = other.named before tokens after h

    prints : (before : Names) (tokens : List Token) (middle after : Names) → either p q before tokens middle → AreLexed tokens → IsGrown middle after → Prints r after (text after)
    prints before tokens middle after (inl h) = one.prints before tokens middle after h
    prints before tokens middle after (inr h) = other.prints before tokens middle after h

pub prints_one : {p q : Phrase} {names : Names} {text : List ℕ} → Prints p names text → Prints (either p q) names text
prints_one h = record { found = h.found; has = h.has; spelled = inl h.spelled }

pub prints_other : {p q : Phrase} {names : Names} {text : List ℕ} → Prints q names text → Prints (either p q) names text
prints_other h = record { found = h.found; has = h.has; spelled = inr h.spelled }

-- what no tokens spell
pub read_never : {p r : Phrase} {ns : List ℕ} {text : Names → List ℕ} → ((before : Names) (tokens : List Token) (after : Names) → p before tokens after → ⊥) → IsReadBack p r ns text
read_never none = record {
  grown = λ before tokens after h. absurd (none before tokens after h);
  named = λ before tokens after h. absurd (none before tokens after h);
  prints = λ before tokens middle after h lexed later. absurd (none before tokens middle h);
}

-- the same with another spelling or other numbers
pub read_as : {p q r : Phrase} {ns ms : List ℕ} {text more : Names → List ℕ} → IsReadBack p q ns text
    → ((names : Names) → AreWithin names ns → AreWithin names ms)
    → ((names : Names) → Prints q names (text names) → Prints r names (more names)) → IsReadBack p r ms more
read_as k numbers join = record {
  grown = k.grown;
  named = λ before tokens after h. numbers after (k.named before tokens after h);
  prints = λ before tokens middle after h lexed later. join after (k.prints before tokens middle after h lexed later);
}

-- no token
read_nothing : IsReadBack nothing nothing [] (λ names. [])
read_nothing = record {
  grown = λ before tokens after h. subst (IsGrown before) (sym h.1) (grown_not before);
  named = λ before tokens after h. tt;
  prints = λ before tokens middle after h lexed later. record { found = []; has = λ rest end. refl; spelled = (refl, refl) };
}

-- a list of things
pub read_any : {A : Type 0} (phrase : A → Phrase) (numbers : A → List ℕ) (text : Names → A → List ℕ)
    → ((x : A) → IsReadBack (phrase x) (phrase x) (numbers x) (λ names. text names x))
    → ((names : Names) (xs : List A) → EndsWords (flat_map (text names) xs))
    → (xs : List A) → IsReadBack (any phrase xs) (any phrase xs) (flat_map numbers xs) (λ names. flat_map (text names) xs)
read_any phrase numbers text each apart [] = read_nothing
read_any phrase numbers text each apart (x ∷ xs) =
    read_both (each x) (read_any phrase numbers text each apart xs) (λ names h k. prints_apart (apart names xs) h k)

pub spaced_ends : {A : Type 0} (text_of : A → List ℕ) (xs : List A) → EndsWords (spaced text_of xs)
spaced_ends text_of [] rest end = end
spaced_ends text_of (x ∷ xs) rest end = refl

-- a list of things with a space before each
pub read_spaced : {A : Type 0} (phrase : A → Phrase) (numbers : A → List ℕ) (text : Names → A → List ℕ)
    → ((x : A) → IsReadBack (phrase x) (phrase x) (numbers x) (λ names. text names x))
    → (xs : List A) → IsReadBack (any phrase xs) (any phrase xs) (flat_map numbers xs) (λ names. spaced (text names) xs)
read_spaced phrase numbers text each =
    read_any phrase numbers (λ names x. codes " " ++ text names x) (λ x. read_as (each x) (λ names h. h) (λ names h. prints_after_blank h)) (λ names. spaced_ends (text names))
