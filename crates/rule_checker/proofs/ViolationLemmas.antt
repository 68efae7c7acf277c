-- The first violation, and what stands before and behind it.
use Rattle.std.proofs.Common.{◌≡◌, ◌↔◌, ℕ, ◌+◌, suc, List, [], ◌∷◌, ◌++◌, Result, Ok, Err, length, refl, sym, ap, ◌∙◌, arith}
use Rattle.rule_base.specs.declared.program.Program.{Program}
use Rattle.rule_base.specs.Chains.{◌>>=◌}
use Rattle.ops_reader.specs.declared.form.Form.{Form}
use Rattle.rule_checker.specs.declared.refusal.CheckKind.{CheckKind}
use Rattle.rule_checker.specs.Forms.{Violation, at_form, after_forms}
use Rattle.rule_checker.specs.Checked.{with_form, no_program, checked}
use Rattle.rule_checker.specs.Laws.{IsFirstViolation}

-- the same of a walk that goes on from a program, at the form with this number
record IsFirstFrom (number : ℕ) (start : Program) (forms : List Form) (violation : Violation) : Type 0 where
  front : List Form
  violating : Form
  behind : List Form
  parts : forms ≡ front ++ violating ∷ behind
  place : violation.form ≡ number + length front
  program : Program
  passed : after_forms with_form number start front ≡ Ok program
  refused : with_form program violating ≡ Err violation.kind

by_first : (number : ℕ) (p : Program) (f : Form) (fs : List Form) (v : Violation) (o : Result Program CheckKind) → with_form p f ≡ o
    → ((next : Program) → after_forms with_form (number + 1) next fs ≡ Err v → IsFirstFrom (number + 1) next fs v)
    → (at_form number o >>= λ next. after_forms with_form (number + 1) next fs) ≡ Err v → IsFirstFrom number p (f ∷ fs) v
by_first number p f fs v (Err kind) is later e =
    let same : record { form = number; kind = kind } ≡ v = cc in
    let h : v.form ≡ number = sym (ap (λ (x : Violation). x.form) same) in
    record { front = []; violating = f; behind = fs; parts = refl; place = omega arith; program = p; passed = refl; refused = is ∙ ap (λ (x : Violation). Err x.kind) same }
by_first number p f fs v (Ok next) is later e =
    let r = later next e in
    record {
      front = f ∷ r.front;
      violating = r.violating;
      behind = r.behind;
      parts = ap (λ gs. f ∷ gs) r.parts;
      place = omega (arith, r.place);
      program = r.program;
      passed = ap (λ (o : Result Program CheckKind). at_form number o >>= λ q. after_forms with_form (number + 1) q r.front) is ∙ r.passed;
      refused = r.refused;
    }

first_from : (number : ℕ) (p : Program) (forms : List Form) (v : Violation) → after_forms with_form number p forms ≡ Err v → IsFirstFrom number p forms v
first_from number p [] v e = absurd (cc)
first_from number p (f ∷ fs) v e = by_first number p f fs v (with_form p f) refl (λ next. first_from (number + 1) next fs v) e

pub checked-first : (forms : List Form) (v : Violation) → checked forms ≡ Err v → IsFirstViolation forms v
checked-first forms v e =
    let r = first_from 1 no_program forms v e in
    record { front = r.front; violating = r.violating; behind = r.behind; parts = r.parts; number = omega (arith, r.place); program = r.program; passed = r.passed; refused = r.refused }

-- a walk over forms and then over others goes on where the first ended
after_first : {S : Type 0} (step : S → Form → Result S CheckKind) (number : ℕ) (xs ys : List Form) (o : Result S Violation)
    → ((next : S) → after_forms step (number + 1) next (xs ++ ys) ≡ (after_forms step (number + 1) next xs >>= λ t. after_forms step (number + 1 + length xs) t ys))
    → (o >>= λ next. after_forms step (number + 1) next (xs ++ ys)) ≡ ((o >>= λ next. after_forms step (number + 1) next xs) >>= λ t. after_forms step (number + suc (length xs)) t ys)
after_first step number xs ys (Err v) goes_on = refl
after_first step number xs ys (Ok next) goes_on =
    let count : number + 1 + length xs ≡ number + suc (length xs) = omega arith in
    goes_on next ∙ ap (λ n. after_forms step (number + 1) next xs >>= λ t. after_forms step n t ys) count

pub after_forms-append : {S : Type 0} (step : S → Form → Result S CheckKind) (number : ℕ) (s : S) (xs ys : List Form)
    → after_forms step number s (xs ++ ys) ≡ (after_forms step number s xs >>= λ t. after_forms step (number + length xs) t ys)
after_forms-append step number s [] ys =
    let count : number ≡ number + 0 = omega arith in
    ap (λ n. after_forms step n s ys) count
after_forms-append step number s (x ∷ xs) ys = after_first step number xs ys (at_form number (step s x)) (λ next. after_forms-append step (number + 1) next xs ys)

-- forms behind the first violation don't matter
pub checked-append : (forms more : List Form) (v : Violation) → checked forms ≡ Err v → checked (forms ++ more) ≡ Err v
checked-append forms more v e =
    after_forms-append with_form 1 no_program forms more ∙ ap (λ (o : Result Program Violation). o >>= λ t. after_forms with_form (1 + length forms) t more) e

-- where a form can't be added to the program before it, that is the violation
first_is : (forms : List Form) (v : Violation) → IsFirstViolation forms v → checked forms ≡ Err v
first_is forms v h =
    let count : 1 + length h.front ≡ v.form = omega (arith, h.number) in
    ap checked h.parts
    ∙ after_forms-append with_form 1 no_program h.front (h.violating ∷ h.behind)
    ∙ ap (λ (o : Result Program Violation). o >>= λ t. after_forms with_form (1 + length h.front) t (h.violating ∷ h.behind)) h.passed
    ∙ ap (λ (o : Result Program CheckKind). at_form (1 + length h.front) o >>= λ t. after_forms with_form (1 + length h.front + 1) t h.behind) h.refused
    ∙ ap (λ n. Err (record { form = n; kind = v.kind })) count

pub checked-exactly : (forms : List Form) (v : Violation) → checked forms ≡ Err v ↔ IsFirstViolation forms v
checked-exactly forms v = (checked-first forms v, first_is forms v)
