-- Whether a candidate fits, as a test and as a fact.
use Rattle.std.proofs.Common.{◌≡◌, ℕ, List, [], ◌∷◌, true, false, ◌&&◌, ◌↔◌, Option, Some, None, length, option_map, slice_get, ◌==◌, refl, ap}
use Rattle.std.specs.List.{AllByRecursion, list_all}
use Rattle.std.specs.Option.{option_map_or}
use Rattle.std.proofs.lemmas.Bool.Decides.{Decides-eqb}
use Rattle.std.proofs.lemmas.Slice.Eq.{bytes_eq-Decides}
use Rattle.rule_base.specs.declared.element.Element.{Element}
use Rattle.rule_base.specs.declared.instantiation.Candidate.{Candidate}
use Rattle.rule_base.specs.declared.program.Rule.{Rule}
use Rattle.rule_base.specs.declared.program.Program.{Program}
use Rattle.rule_base.specs.Fits.{Fits, has_size, is_fitting}
use Rattle.rule_base.specs.Memory.{HasSize, tags_of}
use Rattle.rule_base.specs.Sound.{sizes_of}
use Rattle.interference.proofs.OptionLemmas.{both_hold}
use Rattle.rule_base.specs.Numbers.{same_numbers}
use Rattle.interference.proofs.WordLemmas.{and_both}

-- one number that may be there
there_by : {X : Type 0} (f : X → ℕ) (n : ℕ) (o : Option X) → option_map_or (λ x. f x == n) o false ≡ true → option_map f o ≡ Some n
there_by f n None is = absurd (let wrong : ⊥ = cc in wrong)
there_by f n (Some x) is = ap (λ m. Some m) ((Decides-eqb (f x) n).0 is)

there_to : {X : Type 0} (f : X → ℕ) (n : ℕ) (o : Option X) → option_map f o ≡ Some n → option_map_or (λ x. f x == n) o false ≡ true
there_to f n None is = absurd (let wrong : ⊥ = cc in wrong)
there_to f n (Some x) is = (Decides-eqb (f x) n).1 (let same : f x ≡ n = cc in same)

size_by : (n : ℕ) (o : Option ℕ) → option_map_or (λ size. size == n) o false ≡ true → o ≡ Some n
size_by n None is = absurd (let wrong : ⊥ = cc in wrong)
size_by n (Some size) is = ap (λ m. Some m) ((Decides-eqb size n).0 is)

size_to : (n : ℕ) (o : Option ℕ) → o ≡ Some n → option_map_or (λ size. size == n) o false ≡ true
size_to n None is = absurd (let wrong : ⊥ = cc in wrong)
size_to n (Some size) is = (Decides-eqb size n).1 (let same : size ≡ n = cc in same)

sizes_by : (sizes : List ℕ) (elements : List Element) → list_all (has_size sizes) elements ≡ true → AllByRecursion (HasSize sizes) elements
sizes_by sizes [] all = tt
sizes_by sizes (e ∷ elements) all =
    let both = both_hold (has_size sizes e) (list_all (has_size sizes) elements) all in
    (size_by (length e.values) (slice_get sizes e.class) both.0, sizes_by sizes elements both.1)

sizes_to : (sizes : List ℕ) (elements : List Element) → AllByRecursion (HasSize sizes) elements → list_all (has_size sizes) elements ≡ true
sizes_to sizes [] all = refl
sizes_to sizes (e ∷ elements) all = and_both (has_size sizes e) (list_all (has_size sizes) elements) (size_to (length e.values) (slice_get sizes e.class) all.0) (sizes_to sizes elements all.1)

pub fitting_is_decided : (program : Program) (candidate : Candidate) → (is_fitting program candidate ≡ true) ↔ Fits program candidate
fitting_is_decided program candidate =
    let tags = same_numbers (tags_of candidate.elements) candidate.choice.tags in
    let o = slice_get program.rules candidate.choice.rule in
    let n = length candidate.elements in
    let positives = option_map_or (λ (rule : Rule). rule.positives == n) o false in
    let sizes = list_all (has_size (sizes_of program.classes)) candidate.elements in (
      λ fits. let outer = both_hold (tags && positives) sizes fits in let inner = both_hold tags positives outer.0 in record {
        tags = (bytes_eq-Decides (tags_of candidate.elements) candidate.choice.tags).0 inner.0;
        positives = there_by (λ (rule : Rule). rule.positives) n o inner.1;
        sized = sizes_by (sizes_of program.classes) candidate.elements outer.1;
      },
      λ fits. and_both (tags && positives) sizes
          (and_both tags positives ((bytes_eq-Decides (tags_of candidate.elements) candidate.choice.tags).1 fits.tags) (there_to (λ (rule : Rule). rule.positives) n o fits.positives))
          (sizes_to (sizes_of program.classes) candidate.elements fits.sized),
    )
