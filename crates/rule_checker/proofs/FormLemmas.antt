-- What a refusal of one form says of all forms, and how many names one form has.
use Rattle.std.proofs.Common.{◌≡◌, ℕ, ◌+◌, ◌≤◌, ◌<◌, List, ◌∷◌, length, get_or, drop, Result, Ok, Err, refl, sym, ap, ◌∙◌, arith}
use Rattle.std.specs.List.{flat_map}
use Rattle.std.proofs.lemmas.List.{at_drop_more, at_drop_all}
use Rattle.std.proofs.lemmas.List.Folds.{length-flat_map-take}
use Rattle.rule_base.specs.Chains.{◌>>=◌}
use Rattle.ops_reader.specs.declared.form.Form.{Form}
use Rattle.ops_reader.specs.Named.{numbers_in_form}
use Rattle.rule_checker.specs.declared.refusal.CheckKind.{CheckKind}
use Rattle.rule_checker.specs.declared.refusal.Refusal.{Refusal}
use Rattle.rule_checker.specs.declared.refusal.Refusal.TheVariants.{Violated, OutOfMemory}
use Rattle.rule_checker.specs.declared.refusal.CheckRefusal.TheVariants as check
use Rattle.rule_checker.specs.Forms.{Violation, at_form, after_forms}
use Rattle.rule_checker.specs.Outcome.{Tells, TellsForm, refusal_at}

-- the form whose step is refused is the first violation
form_refused : {S : Type 0} (defined : Result S CheckKind) (more : S → Result S Violation) (number : ℕ) (refusal : Refusal) → Tells defined refusal → TellsForm (at_form number defined >>= more) (refusal_at number refusal)
form_refused {S} defined more number (Violated kind) tells = record { violated = λ form other same. at_kind form other same }
  where
    at_kind : (form : ℕ) (other : CheckKind) → check.Check number kind ≡ check.Check form other → (at_form number defined >>= more) ≡ Err (record { form = form; kind = other })
    at_kind form other same =
        let first : number ≡ form = cc in
        let second : kind ≡ other = cc in
        ap (λ (o : Result S CheckKind). at_form number o >>= more) (tells.violated kind refl) ∙ rw (first, second) refl
form_refused defined more number OutOfMemory tells = record { violated = λ form other same. absurd (cc) }

pub form_tells : {S : Type 0} (step : S → Form → Result S CheckKind) (number : ℕ) (s : S) (xs : List Form) (i : ℕ) (x : Form) (whole : Result S Violation) (refusal : Refusal)
    → Tells (step s x) refusal → x ≡ get_or xs i x → i < length xs → after_forms step number s (drop i xs) ≡ whole → TellsForm whole (refusal_at number refusal)
form_tells {S} step number s xs i x whole refusal tells is within same =
    let more = λ (next : S). after_forms step (number + 1) next (drop (i + 1) xs) in
    let ends : (at_form number (step s x) >>= more) ≡ whole =
    ap (λ y. after_forms step number s (y ∷ drop (i + 1) xs)) is ∙ sym (at_drop_more (after_forms step number s) xs i x within) ∙ same in
    let told = form_refused (step s x) more number refusal tells in
    record { violated = λ form kind violates. sym ends ∙ told.violated form kind violates }

-- a form has no more names than all forms have
pub names-within : (forms : List Form) (i : ℕ) (f : Form) → f ≡ get_or forms i f → i < length forms → length (numbers_in_form f) ≤ length (flat_map numbers_in_form forms)
names-within forms i f is within = omega (arith, ap (λ x. length (numbers_in_form x)) is, length-flat_map-take numbers_in_form forms i f within)

-- where no form is left, the walk passes
pub walk_passes : {S : Type 0} (step : S → Form → Result S CheckKind) (number : ℕ) (state : S) {slice forms : List Form} {i : ℕ} {whole : Result S Violation}
    → slice ≡ forms → length slice ≤ i → after_forms step number state (drop i forms) ≡ whole → whole ≡ Ok state
walk_passes step number state {slice} {forms} {i} same over left =
    sym left ∙ ap (λ fs. after_forms step number state (drop i fs)) (sym same) ∙ at_drop_all (after_forms step number state) slice i over
