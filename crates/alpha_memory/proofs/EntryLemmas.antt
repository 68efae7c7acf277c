-- How often a place is under a hash in a store, once an element was filed, or places were cleaned or packed away.
use Rattle.std.proofs.Common.{◌≡◌, inl, inr, ℕ, ◌+◌, ◌==◌, ◌&&◌, ◌++◌, List, [], ◌∷◌, Bool, true, false, cond, map, refl, ap, sym, ◌∙◌, arith}
use Rattle.std.specs.List.{filter}
use Rattle.std.proofs.lemmas.Bool.{cases_eq}
use Rattle.std.proofs.lemmas.Bool.Decides.{nat_tests}
use Rattle.rule_base.specs.declared.element.Element.{Element}
use Rattle.join_tests.specs.declared.joins.KeyPart.{KeyPart}
use Rattle.join_tests.specs.Reading.{value_at}
use Rattle.join_tests.specs.Joining.{key_of_element}
use Rattle.join_tests.specs.Hashing.{hash_of}
use Rattle.alpha_memory.specs.Times.{times}
use Rattle.alpha_memory.specs.Stores.{Store, admits, attributes_of, filed, hash_at}
use Rattle.alpha_memory.specs.Dispatch.{how_often}
use Rattle.alpha_memory.proofs.TimesLemmas.{times-agree, times-and, times-filter, times-map}
use Rattle.alpha_memory.proofs.ListingLemmas.{how_often-push}

-- an element was filed, if the store lets it in and keeps places
filed_step : (s : Store) (hash number at n : ℕ) (let_in kept : Bool) → how_often (cond let_in (cond kept (record s { entries = s.entries ++ (hash, number) ∷ [] }) s) s).entries at n ≡ how_often s.entries at n + cond (let_in && kept && (hash == at) && (n == number)) 1 0
filed_step s hash number at n true true = how_often-push s.entries hash number at n
filed_step s hash number at n true false = omega arith
filed_step s hash number at n false true = omega arith
filed_step s hash number at n false false = omega arith

pub how_often-filed : (place : ℕ) (e : Element) (s : Store) (at n : ℕ) → how_often (filed place e s).entries at n ≡ how_often s.entries at n + cond (admits e s && s.is_kept && (hash_at s.attributes e == at) && (n == place)) 1 0
how_often-filed place e s at n = filed_step s (hash_at s.attributes e) place at n (admits e s) s.is_kept

values_at : (key : List KeyPart) (e : Element) → map (value_at e) (attributes_of key) ≡ key_of_element key e
values_at [] e = refl
values_at (part ∷ key) e = ap (λ vs. value_at e part.attribute ∷ vs) (values_at key e)

-- how often, as a count of entries
abbrev is_entry : ℕ → ℕ → ℕ × ℕ → Bool
is_entry hash n entry = (n == entry.1) && (entry.0 == hash)

how_often-entries : (entries : List (ℕ × ℕ)) (hash n : ℕ) → how_often entries hash n ≡ times (is_entry hash n) entries
how_often-entries entries hash n =
    times-map (λ m. n == m) (λ (e : ℕ × ℕ). e.1) (filter (λ e. e.0 == hash) entries)
    ∙ times-filter (λ (e : ℕ × ℕ). n == e.1) (λ e. e.0 == hash) entries

neither : (a b c : Bool) → a ≡ false → (a && b) ≡ (a && c)
neither true b c wrong = absurd (let impossible : ⊥ = cc in impossible)
neither false b c is = refl

-- a filter that keeps an entry of this hash and number, or none of them
kept_or_not : (keep : ℕ × ℕ → Bool) (hash n : ℕ) (entry : ℕ × ℕ) → (is_entry hash n entry && keep entry) ≡ (is_entry hash n entry && keep (hash, n))
kept_or_not keep hash n entry = elim (cases_eq n entry.1) [
  | inl number ↦ elim (cases_eq entry.0 hash) [
    | inl same ↦ ap (λ e. is_entry hash n entry && keep e) (ap (λ h. (h, entry.1)) same ∙ ap (λ m. (hash, m)) (sym number))
    | inr other ↦ neither (is_entry hash n entry) (keep entry) (keep (hash, n)) (let no : is_entry hash n entry ≡ false = grind (arith, nat_tests, other) in no)
  ]
  | inr other ↦ neither (is_entry hash n entry) (keep entry) (keep (hash, n)) (let no : is_entry hash n entry ≡ false = grind (arith, nat_tests, other) in no)
]

pub how_often-filter : (keep : ℕ × ℕ → Bool) (entries : List (ℕ × ℕ)) (hash n : ℕ) → how_often (filter keep entries) hash n ≡ cond (keep (hash, n)) (how_often entries hash n) 0
how_often-filter keep entries hash n =
    how_often-entries (filter keep entries) hash n
    ∙ times-filter (is_entry hash n) keep entries
    ∙ times-agree (λ e. is_entry hash n e && keep e) (λ e. is_entry hash n e && keep (hash, n)) (kept_or_not keep hash n) entries
    ∙ times-and (is_entry hash n) (keep (hash, n)) entries
    ∙ ap (λ k. cond (keep (hash, n)) k 0) (sym (how_often-entries entries hash n))

-- the hash under which an element is filed is that of what it brings to the key
pub hash_at-key : (key : List KeyPart) (e : Element) → hash_at (attributes_of key) e ≡ hash_of (key_of_element key e)
hash_at-key key e = ap hash_of (values_at key e)
