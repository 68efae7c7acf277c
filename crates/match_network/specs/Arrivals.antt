-- The elements that ever came, by place, and the places that are in working memory.
use Rattle.std.specs.Prelude.{◌≡◌, ℕ, ◌<◌, ◌^◌, ◌==◌, List, [], ◌∷◌, ◌++◌, Bool, filter, length, not, slice_get}
use Rattle.std.specs.List.{AllByRecursion}
use Rattle.rule_base.specs.declared.element.Element.{Element}
use Rattle.rule_base.specs.Memory.{Rises, tags_of}
use Rattle.match_network.specs.Row.{some_passes}

pub record Arrivals : Type 0 where
  pub came : List Element
  pub places : List ℕ

-- the tags rise, and there are fewer than there are numbers of 32 bits; the places rise, and each is one of theirs
pub record HaveArrived (came : List Element) (places : List ℕ) (count : ℕ) : Type 0 where
  pub counted : count ≡ length came
  pub few : length came < 2 ^ 32
  pub tags : Rises (tags_of came)
  pub rising : Rises places
  pub below : AllByRecursion (λ p. p < length came) places

-- one more element, which is in working memory
abbrev pub with_arrival : Arrivals → Element → Arrivals
with_arrival arrivals e = record { came = arrivals.came ++ e ∷ []; places = arrivals.places ++ length arrivals.came ∷ [] }

-- whether the element at a place has this tag
abbrev pub has_tag : List Element → ℕ → ℕ → Bool
has_tag came tag place = some_passes (λ (e : Element). e.tag == tag) (slice_get came place)

-- the element with a tag is in working memory no more
abbrev pub without_tag : Arrivals → ℕ → Arrivals
without_tag arrivals tag = record arrivals { places = filter (λ p. not (has_tag arrivals.came tag p)) arrivals.places }
