-- Levels with no rows are right where no element came.
use Rattle.std.proofs.Common.{◌≡◌, ℕ, ◌+◌, ◌<◌, List, [], ◌∷◌, ◌++◌, true, cond, drop, length, zero, suc, refl, ap, subst, sym, ◌∙◌, arith, length-append, inl, inr}
use Rattle.std.specs.List.{AllByRecursion}
use Rattle.std.proofs.lemmas.Bool.{cases_eq, cases_lt}
use Rattle.std.proofs.lemmas.List.{get_or_append_left, get_or_past, get_or_push}
use Rattle.rule_base.specs.Numbers.{same_numbers}
use Rattle.join_tests.specs.declared.joins.Join.{Join}
use Rattle.match_network.specs.Conditions.{AreFiled, IsLevelOf, joins_of, level_at, rows_of}
use Rattle.match_network.specs.Filed.{LevelRows, filed, living_entries, row_lives}
use Rattle.match_network.specs.Levels.{AreLevels, HaveCome}
use Rattle.match_network.specs.Row.{is_living, is_match}
use Rattle.alpha_memory.specs.Times.{times}

-- the level with this number, without rows
abbrev pub empty_level : ℕ → LevelRows
empty_level number = record { width = number + 1; rows = []; entries = [] }

-- so many levels, all without rows
pub record AreEmpty (levels : List LevelRows) (count : ℕ) : Type 0 where
  pub count_is : length levels ≡ count
  pub each : (number : ℕ) → number < count → level_at levels number ≡ empty_level number

pub AreEmpty-push : (levels more : List LevelRows) (count : ℕ) → AreEmpty levels count → more ≡ levels ++ empty_level count ∷ [] → AreEmpty more (count + 1)
AreEmpty-push levels more count held is = record {
  count_is = ap length is ∙ length-append levels (empty_level count ∷ []) ∙ ap (λ n. n + 1) held.count_is;
  each = λ number lt. elim (cases_eq number count) [
    | inl same ↦
        subst (λ n. level_at more n ≡ empty_level n) (sym same)
        (ap (λ ls. level_at ls count) is ∙ get_or_push levels (empty_level count) (record { width = 0; rows = []; entries = [] }) count held.count_is)
    | inr apart ↦
        ap (λ ls. level_at ls number) is
        ∙ get_or_append_left levels (empty_level count ∷ []) (record { width = 0; rows = []; entries = [] }) number (omega (arith, lt, apart, held.count_is))
        ∙ held.each number (omega (arith, lt, apart))
  ];
}

none_filed : (next : List Join) → filed next [] 0 [] ≡ []
none_filed [] = refl
none_filed (join ∷ rest) = refl

empty_is : (all : List Join) (number : ℕ) → IsLevelOf all [] [] number (empty_level number)
empty_is all number = record {
  width = refl;
  widths = tt;
  have_come = tt;
  filed = record { living = sym (ap (living_entries (row_lives [] [])) (none_filed (drop (number + 1) all))); numbered = tt };
}

pub empty_filed : (all : List Join) (levels : List LevelRows) (count : ℕ) → AreEmpty levels count → count ≡ length all → AreFiled all [] [] levels
empty_filed all levels count held is = record {
  count = held.count_is ∙ is;
  each = λ number lt. subst (IsLevelOf all [] [] number) (sym (held.each number (omega (arith, lt, held.count_is)))) (empty_is all number);
}

no_rows : (levels : List LevelRows) (count number : ℕ) → AreEmpty levels count → (level_at levels number).rows ≡ []
no_rows levels count number held = elim (cases_lt number count) [
  | inl lt ↦ ap (λ (l : LevelRows). l.rows) (held.each number lt)
  | inr le ↦ ap (λ (l : LevelRows). l.rows) (get_or_past levels number (record { width = 0; rows = []; entries = [] }) (omega (arith, le, held.count_is)))
]

once_step : (all : List Join) (levels : List LevelRows) (row : List ℕ) → is_living [] row ≡ true → times (same_numbers row) (rows_of levels (length row)) ≡ cond (is_match (joins_of all) [] row) 1 0
once_step all levels [] living = refl
once_step all levels (place ∷ row) living = absurd (let wrong : ⊥ = cc in wrong)

come_step : (levels : List LevelRows) (count width : ℕ) → AreEmpty levels count → AllByRecursion (HaveCome []) (rows_of levels width)
come_step levels count zero held = (tt, tt)
come_step levels count (suc number) held = subst (AllByRecursion (HaveCome [])) (sym (no_rows levels count number held)) tt

pub empty_right : (all : List Join) (levels : List LevelRows) (count : ℕ) → AreEmpty levels count → AreLevels (joins_of all) [] [] (rows_of levels)
empty_right all levels count held = record { once = once_step all levels; have_come = λ width. come_step levels count width held }
