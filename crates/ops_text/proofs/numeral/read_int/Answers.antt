-- Bytes that are no text are no integer.
use Rattle.std.proofs.Common.{◌≡◌, None, Ok, Err, Result}
use Rattle.std.specs.Result.{MatchResult, result_ok}
use Rattle.std.proofs.lemmas.Option.{none-some}
use Rattle.ops_text.proofs.NumeralLemmas.{IsUtf8-from_integer}
use Rattle.ops_text.proofs.numeral.read_int.Goals as goal

-- what is said of an error holds where there is no value
of_error : {T E : Type 0} (r : Result T E) (P : T → Type 0) (Q : E → Type 0) → None ≡ result_ok r → MatchResult r P Q → (e : E) × Q e
of_error (Ok x) P Q none said = absurd (none-some x none)
of_error (Err e) P Q none said = (e, said)

pub returns-in_err-ok : goal.returns-in_err-ok
returns-in_err-ok c = rw c.from_residual.ensures (λ short. (of_error _ _ _ c.in_err-ok.ensures.value c.from_utf8.ensures.cases).1.0 (IsUtf8-from_integer _ short.0))
