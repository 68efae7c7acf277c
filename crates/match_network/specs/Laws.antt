-- What weaving gives, as laws.
use Rattle.std.specs.Prelude.{◌≡◌, ◌⊎◌, ℕ, ◌<◌, ◌==◌, List, [], ◌∷◌, ◌++◌, Bool, true, false, Some, filter, length, slice_get}
use Rattle.std.specs.List.{AllByRecursion, list_any}
use Rattle.rule_base.specs.declared.element.Element.{Element}
use Rattle.rule_base.specs.Memory.{Rises}
use Rattle.match_network.specs.Row.{Joins, is_living}
use Rattle.match_network.specs.Levels.{AreLevels, AreWoven, OnlyAdds}
use Rattle.match_network.specs.Woven.{Levels, woven}

-- an element comes: with nothing woven yet, the levels of the memory without it are on the way to the memory with it
abbrev pub WeavingBegins : Type 0
WeavingBegins =
    (joins : Joins) (came : List Element) (places : List ℕ) (e : Element) (levels : Levels) →
    AllByRecursion (λ p. p < length came) places →
    AreLevels joins came places levels →
    AreWoven joins (came ++ e ∷ []) (places ++ length came ∷ []) (length came) [] levels

-- one weave more, at a condition element that had none
abbrev pub WeavingGoesOn : Type 0
WeavingGoesOn =
    (joins : Joins) (came : List Element) (places : List ℕ) (place : ℕ) (done : List ℕ) (at : ℕ) (levels new : Levels) →
    Rises places → AllByRecursion (λ p. p < length came) places → place < length came →
    list_any (λ other. other == at) done ≡ false →
    ((width : ℕ) → new width ≡ woven joins came places place at levels width) →
    AreWoven joins came places place done levels →
    AreWoven joins came places place (at ∷ done) new

-- once the place was woven in wherever its element may join, the levels are right for the memory with it
abbrev pub WeavingEnds : Type 0
WeavingEnds =
    (joins : Joins) (came : List Element) (places : List ℕ) (place : ℕ) (e : Element) (done : List ℕ) (levels : Levels) →
    slice_get came place ≡ Some e →
    ((at : ℕ) (before : List Element) → joins at before e ≡ true → list_any (λ other. other == at) done ≡ true) →
    AreWoven joins came places place done levels →
    AreLevels joins came places levels

-- where weaving stopped midway and the place was taken out again, the levels are right for the memory as it was
abbrev pub WeavingMayStop : Type 0
WeavingMayStop =
    (joins : Joins) (came : List Element) (places : List ℕ) (e : Element) (levels new : Levels) →
    AllByRecursion (λ p. p < length came) places →
    OnlyAdds (came ++ e ∷ []) (length came) levels new →
    AreLevels joins came places levels →
    AreLevels joins (came ++ e ∷ []) places new

-- weaves one after another add only rows with the place
abbrev pub AddingGoesOn : Type 0
AddingGoesOn =
    (came : List Element) (place : ℕ) (old now new : Levels) →
    OnlyAdds came place old now → OnlyAdds came place now new → OnlyAdds came place old new

-- places that go change nothing in the levels
abbrev pub PlacesMayGo : Type 0
PlacesMayGo =
    (joins : Joins) (came : List Element) (places : List ℕ) (keep : ℕ → Bool) (levels : Levels) →
    AreLevels joins came places levels → AreLevels joins came (filter keep places) levels

-- dead rows may be dropped, of some levels or of all
abbrev pub DeadMayGo : Type 0
DeadMayGo =
    (joins : Joins) (came : List Element) (places : List ℕ) (levels new : Levels) →
    ((width : ℕ) → (new width ≡ levels width) ⊎ (new width ≡ filter (is_living places) (levels width))) →
    AreLevels joins came places levels → AreLevels joins came places new
