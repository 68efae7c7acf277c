-- Reading token by token is exact, by what is read, what is read to its end, and what can go on.
use Rattle.std.proofs.Common.{◌≡◌, List, [], ◌++◌, Option, Some, None, refl, sym, ap, ◌∙◌, IsSome}
use Rattle.std.specs.Option.{option_and_then}
use Rattle.std.proofs.lemmas.Option.{same_Some}
use Rattle.ops_text.specs.Names.{Names}
use Rattle.ops_reader.specs.declared.form.Form.{Form}
use Rattle.ops_tokens.specs.Token.{Token}
use Rattle.ops_reader.specs.Grammar.{IsText, any, form}
use Rattle.ops_reader.specs.Reading.{Read, start, run}
use Rattle.ops_reader.specs.Refusal.{BeginsText}
use Rattle.ops_reader.specs.Exact.{done, ReadsFronts, ReadsTexts, HasOneReading}
use Rattle.ops_reader.proofs.Phrases.{without_nothing}
use Rattle.ops_reader.proofs.Runs.{run-append, run_read, start_read}
use Rattle.ops_reader.proofs.Complete.{text_read}
use Rattle.ops_reader.proofs.Viable.{rest_of_form, form_ends}

pub done_is_text : (names : Names) (tokens : List Token) (forms : List Form) (after : Names) → run (start names) tokens ≡ Some (done forms after) → IsText names forms tokens after
done_is_text names tokens forms after e =
    without_nothing (any form forms) names tokens after (run_read names [] (start names) tokens (done forms after) (start_read names) e)

-- what is read can go on to a text
read_begins : (names : Names) (tokens : List Token) (read : Read) → run (start names) tokens ≡ Some read → BeginsText names tokens
read_begins names tokens read e =
    let end = form_ends read.names read.forms read.part in
    let more = rest_of_form read.part in (
      end.forms,
      more,
      end.names,
      done_is_text names (tokens ++ more) end.forms end.names
          (run-append (start names) tokens more ∙ ap (option_and_then (λ r. run r more)) e ∙ end.read),
    )

first_some : {A B : Type 0} (f : A → Option B) (o : Option A) (b : B) → option_and_then f o ≡ Some b → IsSome o
first_some f None b e = absurd (cc)
first_some f (Some a) b e = refl

begins_read : (names : Names) (tokens : List Token) → BeginsText names tokens → IsSome (run (start names) tokens)
begins_read names tokens (forms, more, after, h) =
    first_some (λ r. run r more) (run (start names) tokens) (done forms after) (sym (run-append (start names) tokens more) ∙ text_read names forms (tokens ++ more) after h)

pub reads_fronts : (names : Names) (tokens : List Token) → ReadsFronts names tokens
reads_fronts names tokens = record { goes_on = begins_read names tokens; no_longer = read_begins names tokens }

pub reads_texts : (names : Names) (tokens : List Token) (forms : List Form) (after : Names) → ReadsTexts names tokens forms after
reads_texts names tokens forms after = record { to_its_end = text_read names forms tokens after; nothing_else = done_is_text names tokens forms after }

pub one_reading : (names : Names) (tokens : List Token) → HasOneReading names tokens
one_reading names tokens forms others after later h k =
    let e : done forms after ≡ done others later =
    same_Some (done forms after) (done others later) (sym (text_read names forms tokens after h) ∙ text_read names others tokens later k) in
    (ap (λ r. r.forms) e, ap (λ r. r.names) e)
