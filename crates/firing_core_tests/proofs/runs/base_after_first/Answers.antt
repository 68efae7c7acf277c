-- A run may begin where a choice for an element of an opening has fired.
use Rattle.std.proofs.Common.{◌≡◌, ◌≤◌, ◌+◌, [], ◌∷◌, ◌++◌, Some, length, option_map, slice_get, refl, ap, ◌∙◌, arith}
use Rattle.rule_base.specs.declared.base.Base.{Base}
use Rattle.rule_base.specs.declared.base.Refraction.TheVariants.{Once}
use Rattle.rule_base.specs.declared.instantiation.Choice.{Choice}
use Rattle.rule_base.specs.declared.program.Program.{Program}
use Rattle.rule_base.specs.declared.program.Rule.{Rule}
use Rattle.rule_base.specs.Base.{IsLawfulBase}
use Rattle.rule_base.specs.Memory.{Memory}
use Rattle.rule_base.specs.Opening.{IsOpening}
use Rattle.rule_base.specs.Sound.{sizes_of}
use Rattle.rule_base.proofs.BaseLemmas.{IsLawfulBase-opening}
use Rattle.rule_base.proofs.ChoiceLemmas.{IsDistinct-push}
use Rattle.firing_core_tests.proofs.runs.base_after_first.Goals as goal

abbrev first : Choice
first = record { rule = 0; tags = 1 ∷ [] }

IsLawfulBase-after_first : (program : Program) (elements : Memory) → IsOpening (sizes_of program.classes) elements → option_map (λ (rule : Rule). rule.positives) (slice_get program.rules 0) ≡ Some 1 → 1 ≤ length elements → IsLawfulBase program (record { elements = elements; next = length elements + 1; fired = first ∷ []; refraction = Once })
IsLawfulBase-after_first program elements opening positive some =
    let began = IsLawfulBase-opening program elements Once opening in
    record {
      memory = began.memory;
      given = began.given;
      from_one = began.from_one;
      few = began.few;
      distinct = IsDistinct-push [] first began.distinct refl;
      fitting = (record { positives = positive; given = ((omega arith, omega (arith, some)), tt) }, tt);
      matching = tt;
    }

pub returns : goal.returns
returns c =
    let fired : c.push.new.self ≡ first ∷ [] = c.in_ok-push.ensures.ok ∙ ap (λ (b : Base). b.fired ++ c.in_ok-first_choice.field-0 ∷ []) c.opening-base.ensures ∙ ap (λ (d : Choice). d ∷ []) c.in_ok-first_choice.ensures in
    rw (c.opening-base.ensures, fired) (IsLawfulBase-after_first c.args.program.now c.args.elements c.requires.opening c.requires.positive c.requires.some)
