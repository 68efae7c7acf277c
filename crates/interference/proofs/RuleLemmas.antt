-- What a rule asks of a class, and what it takes from another; and one number more in a range.
use Rattle.std.proofs.Common.{◌≡◌, ℕ, zero, suc, ◌+◌, List, [], ◌∷◌, ◌++◌, Bool, true, false, cond, if◌then◌else◌, ◌||◌, Option, Some, None, filter_map, flat_map, map, ◌==◌, refl, sym, ◌∙◌, ap, arith}
use Rattle.std.specs.List.{cons_option, filter, list_any, range_with_len}
use Rattle.std.specs.Option.{option_map_or}
use Rattle.std.proofs.lemmas.List.{map-append}
use Rattle.rule_base.specs.declared.lock.Mode.{Mode}
use Rattle.rule_base.specs.declared.lock.Mode.TheVariants.{Watch, Grow, Own}
use Rattle.rule_base.specs.declared.program.Rule.{Rule}
use Rattle.rule_base.specs.Chains.{only_if}
use Rattle.interference.specs.Modes.{asks, both, joined}
use Rattle.interference.specs.Given.{negated, positive}
use Rattle.interference.specs.Footprint.{designators, in_mode}
use Rattle.interference.specs.MayInterfere.{class_at, class_demands, classes_of, grown_classes, takes_from}
use Rattle.interference.specs.Finding.{takes_at}
use Rattle.interference.proofs.ModeLemmas.{joined-associative}
use Rattle.interference.proofs.FindingLemmas.{list_any-append}

-- demands of two lists
pub asks-append : (one other : List (ℕ × Mode)) (lock : ℕ) → asks (one ++ other) lock ≡ joined (asks one lock) (asks other lock)
asks-append [] other lock = refl
asks-append (demand ∷ one) other lock =
    ap (joined (only_if (demand.0 == lock) demand.1)) (asks-append one other lock) ∙ sym (joined-associative (only_if (demand.0 == lock) demand.1) (asks one lock) (asks other lock))

both-itself : (mode : Mode) → both mode mode ≡ mode
both-itself Watch = refl
both-itself Grow = refl
both-itself Own = refl

joined_or : (mode : Mode) (b rest : Bool) → joined (only_if b mode) (only_if rest mode) ≡ only_if (b || rest) mode
joined_or mode true true = ap (λ m. Some m) (both-itself mode)
joined_or mode true false = refl
joined_or mode false rest = refl

-- demands in one mode ask for the locks among them
pub asks-in_mode : (mode : Mode) (locks : List ℕ) (lock : ℕ) → asks (in_mode mode locks) lock ≡ only_if (list_any (λ k. k == lock) locks) mode
asks-in_mode mode [] lock = refl
asks-in_mode mode (first ∷ locks) lock =
    ap (joined (only_if (first == lock) mode)) (asks-in_mode mode locks lock) ∙ joined_or mode (first == lock) (list_any (λ k. k == lock) locks)

pub asks-class_demands : (rule : Rule) (class : ℕ) → asks (class_demands rule) class ≡ joined (only_if (list_any (λ k. k == class) (classes_of (negated rule.conds))) Watch) (only_if (list_any (λ k. k == class) (flat_map (grown_classes rule.conds) rule.actions)) Grow)
asks-class_demands rule class =
    let watched = classes_of (negated rule.conds) in
    let grown = flat_map (grown_classes rule.conds) rule.actions in
    asks-append (in_mode Watch watched) (in_mode Grow grown) class
    ∙ ap (λ o. joined o (asks (in_mode Grow grown) class)) (asks-in_mode Watch watched class)
    ∙ ap (joined (only_if (list_any (λ k. k == class) watched) Watch)) (asks-in_mode Grow grown class)

-- a test of what elements give
any_option : {X : Type 0} (p : X → Bool) (o : Option X) (xs : List X) → list_any p (cons_option o xs) ≡ (option_map_or p o false || list_any p xs)
any_option p None xs = refl
any_option p (Some x) xs = refl

any-filter_map : {X Y : Type 0} (p : Y → Bool) (f : X → Option Y) (xs : List X) → list_any p (filter_map f xs) ≡ list_any (λ x. option_map_or p (f x) false) xs
any-filter_map p f [] = refl
any-filter_map p f (x ∷ xs) = any_option p (f x) (filter_map f xs) ∙ ap (λ b. option_map_or p (f x) false || b) (any-filter_map p f xs)

any-flat_map : {X Y : Type 0} (p : Y → Bool) (f : X → List Y) (xs : List X) → list_any p (flat_map f xs) ≡ list_any (λ x. list_any p (f x)) xs
any-flat_map p f [] = refl
any-flat_map p f (x ∷ xs) = list_any-append p (f x) (flat_map f xs) ∙ ap (λ b. list_any p (f x) || b) (any-flat_map p f xs)

pub takes_from-actions : (one other : Rule) → takes_from one other ≡ list_any (λ a. list_any (takes_at one.conds other.conds) (designators a)) one.actions
takes_from-actions one other =
    any-filter_map (λ class. list_any (λ k. k == class) (classes_of (positive other.conds))) (class_at one.conds) (flat_map designators one.actions)
    ∙ any-flat_map (takes_at one.conds other.conds) designators one.actions

-- one number more in a range
pub range-next : (first count : ℕ) → range_with_len first (count + 1) ≡ range_with_len first count ++ (first + count) ∷ []
range-next first zero = ap (λ n. n ∷ []) (omega arith)
range-next first (suc count) =
    let next : suc count + 1 ≡ suc (count + 1) = omega arith in
    let same : first + 1 + count ≡ first + suc count = omega arith in
    ap (range_with_len first) next ∙ ap (λ rest. first ∷ rest) (range-next (first + 1) count) ∙ ap (λ n. first ∷ (range_with_len (first + 1) count ++ n ∷ [])) same

kept_behind : (b : Bool) (x : ℕ) (rest more both' : List ℕ) → both' ≡ rest ++ more → cond b (x ∷ both') both' ≡ cond b (x ∷ rest) rest ++ more
kept_behind true x rest more both' is = ap (λ ys. x ∷ ys) is
kept_behind false x rest more both' is = is

filter-append : (p : ℕ → Bool) (xs ys : List ℕ) → filter p (xs ++ ys) ≡ filter p xs ++ filter p ys
filter-append p [] ys = refl
filter-append p (x ∷ xs) ys = kept_behind (p x) x (filter p xs) (filter p ys) (filter p (xs ++ ys)) (filter-append p xs ys)

from_zero : (n : ℕ) → 0 + n ≡ n
from_zero n = omega arith

pub filter-range_next : (p : ℕ → Bool) (count : ℕ) → filter p (range_with_len 0 (count + 1)) ≡ filter p (range_with_len 0 count) ++ (if p count then count ∷ [] else [])
filter-range_next p count =
    ap (filter p) (range-next 0 count) ∙ filter-append p (range_with_len 0 count) ((0 + count) ∷ [])
    ∙ ap (λ n. filter p (range_with_len 0 count) ++ (if p n then n ∷ [] else [])) (from_zero count)

map-range_next : {Y : Type 0} (f : ℕ → Y) (count : ℕ) → map f (range_with_len 0 (count + 1)) ≡ map f (range_with_len 0 count) ++ f count ∷ []
map-range_next f count =
    ap (map f) (range-next 0 count) ∙ map-append f (range_with_len 0 count) ((0 + count) ∷ []) ∙ ap (λ n. map f (range_with_len 0 count) ++ f n ∷ []) (from_zero count)

pub map-range_push : {Y : Type 0} (f : ℕ → Y) (count : ℕ) (before after : List Y) (next : Y) → after ≡ before ++ next ∷ [] → before ≡ map f (range_with_len 0 count) → next ≡ f count → after ≡ map f (range_with_len 0 (count + 1))
map-range_push f count before after next is before_is next_is =
    is ∙ ap (λ all. all ++ next ∷ []) before_is ∙ ap (λ y. map f (range_with_len 0 count) ++ y ∷ []) next_is ∙ sym (map-range_next f count)

pub none-range_next : (p : ℕ → Bool) (count : ℕ) → list_any p (range_with_len 0 count) ≡ false → p count ≡ false → list_any p (range_with_len 0 (count + 1)) ≡ false
none-range_next p count none fails =
    ap (list_any p) (range-next 0 count) ∙ list_any-append p (range_with_len 0 count) ((0 + count) ∷ [])
    ∙ ap (λ b. b || list_any p ((0 + count) ∷ [])) none ∙ ap (λ n. p n || false) (from_zero count) ∙ ap (λ b. b || false) fails
