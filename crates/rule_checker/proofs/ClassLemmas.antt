-- What the look-ups of classes tell, and what one more class leaves as it was.
use Rattle.std.proofs.Common.{◌≡◌, ℕ, ◌<◌, Bool, true, false, not, cond, List, [], ◌∷◌, ◌++◌, Option, Some, option_map, map, filter, length, slice_get, slice_index, Ok, sym, ap, ◌∙◌, subst, arith, length-append}
use Rattle.std.specs.Option.{option_map_or}
use Rattle.std.specs.List.{AllByRecursion}
use Rattle.std.proofs.lemmas.List.{get_or_append_left, length-map}
use Rattle.std.proofs.lemmas.Option.{slice_get-map, slice_get-get_or}
use Rattle.rule_base.specs.declared.condition.Cond.{Cond}
use Rattle.rule_base.specs.declared.action.Action.{Action}
use Rattle.rule_base.specs.declared.action.Action.TheVariants as action
use Rattle.rule_base.specs.declared.program.Class.{Class}
use Rattle.rule_base.specs.declared.program.Rule.{Rule}
use Rattle.rule_base.specs.Sound.{sizes_of, SoundConds, SoundTests, SoundAction, SoundActions, SoundSets, positive_classes, known_after_cond, known_after_action, IsSoundRule}
use Rattle.rule_checker.specs.declared.refusal.CheckKind.TheVariants.{UnknownClass}
use Rattle.rule_checker.specs.Names.{number_in}
use Rattle.rule_checker.specs.Classes.{class_names, declared_class, attributes_at}
use Rattle.rule_checker.proofs.ListLemmas.{all_index, slice_get-front}
use Rattle.rule_checker.proofs.NumberLemmas.{number_in-within}
use Rattle.rule_checker.proofs.ResultLemmas.{found}

-- the size of the class at a number
pub sizes_of-at : (classes : List Class) (number : ℕ) → number < length classes → slice_get (sizes_of classes) number ≡ Some (length (attributes_at classes number))
sizes_of-at classes number within =
    let none : Class = record { name = 0; attrs = [] } in
    let at = slice_get-get_or classes number none within in
    slice_get-map (λ (c : Class). length c.attrs) classes number
    ∙ ap (λ (o : Option Class). option_map (λ (c : Class). length c.attrs) o) at
    ∙ ap (λ (o : Option Class). Some (length (option_map_or (λ (c : Class). c.attrs) o []))) (sym at)

-- a class that is declared has its size at its number
pub declared_class-size : (classes : List Class) (name number : ℕ) → declared_class classes name ≡ Ok number → slice_get (sizes_of classes) number ≡ Some (length (attributes_at classes number))
declared_class-size classes name number e =
    sizes_of-at classes number (omega (arith, number_in-within (class_names classes) name number (found (number_in (class_names classes) name) UnknownClass number e), length-map classes (λ (c : Class). c.name)))

-- the classes of positive condition elements are classes
pub positive_classes-within : (sizes : List ℕ) (vars : ℕ) (known : List ℕ) (conds : List Cond) → SoundConds sizes vars known conds → AllByRecursion (λ class. class < length sizes) (positive_classes conds)
positive_classes-within sizes vars known [] sound = tt
positive_classes-within sizes vars known (c ∷ conds) sound =
    by c.negated (positive_classes-within sizes vars (known_after_cond c.negated known c.tests) conds sound.2)
  where
    P : List ℕ → Type 0
    P = AllByRecursion (λ class. class < length sizes)

    by : (b : Bool) → P (positive_classes conds) → P (map (λ (d : Cond). d.class) (cond (not b) (c ∷ filter (λ (d : Cond). not d.negated) conds) (filter (λ (d : Cond). not d.negated) conds)))
    by true rest = rest
    by false rest = (sound.0, rest)

-- conditions that are sound stay so where one class more is declared
pub SoundConds-more : (sizes : List ℕ) (size vars : ℕ) (known : List ℕ) (conds : List Cond) → SoundConds sizes vars known conds → SoundConds (sizes ++ size ∷ []) vars known conds
SoundConds-more sizes size vars known [] sound = tt
SoundConds-more sizes size vars known (c ∷ conds) sound = (
  omega (arith, length-append sizes (size ∷ []), sound.0),
  subst (λ (n : ℕ). SoundTests n vars known c.tests) (sym (get_or_append_left sizes (size ∷ []) 0 c.class sound.0)) sound.1,
  SoundConds-more sizes size vars (known_after_cond c.negated known c.tests) conds sound.2,
)

SoundAction-more : (sizes : List ℕ) (size : ℕ) (classes : List ℕ) (vars : ℕ) (known : List ℕ) (a : Action) → AllByRecursion (λ class. class < length sizes) classes → SoundAction sizes classes vars known a → SoundAction (sizes ++ size ∷ []) classes vars known a
SoundAction-more sizes size classes vars known (action.Make class n sets) within sound = (slice_get-front sizes (size ∷ []) class n sound.0, sound.1)
SoundAction-more sizes size classes vars known (action.Modify at sets) within sound =
    (sound.0, subst (λ (n : ℕ). SoundSets n vars known sets) (sym (get_or_append_left sizes (size ∷ []) 0 (slice_index classes at) (all_index _ classes at within sound.0))) sound.1)
SoundAction-more sizes size classes vars known (action.Remove ats) within sound = sound
SoundAction-more sizes size classes vars known (action.Bind var value) within sound = sound
SoundAction-more sizes size classes vars known (action.Write items) within sound = sound
SoundAction-more sizes size classes vars known action.Halt within sound = sound

SoundActions-more : (sizes : List ℕ) (size : ℕ) (classes : List ℕ) (vars : ℕ) (known : List ℕ) (actions : List Action) → AllByRecursion (λ class. class < length sizes) classes → SoundActions sizes classes vars known actions → SoundActions (sizes ++ size ∷ []) classes vars known actions
SoundActions-more sizes size classes vars known [] within sound = tt
SoundActions-more sizes size classes vars known (a ∷ actions) within sound =
    (SoundAction-more sizes size classes vars known a within sound.0, SoundActions-more sizes size classes vars (known_after_action known a) actions within sound.1)

-- and so do rules
pub IsSoundRule-more : (sizes : List ℕ) (size : ℕ) (rule : Rule) → IsSoundRule sizes rule → IsSoundRule (sizes ++ size ∷ []) rule
IsSoundRule-more sizes size rule sound = record {
  few_conds = sound.few_conds;
  few_actions = sound.few_actions;
  positive_count = sound.positive_count;
  first_positive = sound.first_positive;
  bound_once = sound.bound_once;
  sound_conds = SoundConds-more sizes size rule.vars [] rule.conds sound.sound_conds;
  sound_actions = SoundActions-more sizes size _ rule.vars _ rule.actions (positive_classes-within sizes rule.vars [] rule.conds sound.sound_conds) sound.sound_actions;
}
