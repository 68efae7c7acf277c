-- How what a sink holds grows by one call after another.
use Rattle.std.proofs.Common.{List, ℕ, ◌++◌, Option, Some, None, ap, ◌∙◌, append_assoc}
use Rattle.std.specs.Option.{option_map}
use Rattle.ops_text.specs.Output.{Extends}

-- bytes that come after bytes
pub Extends-append : (before between after : Option (List ℕ)) (first second : List ℕ) → Extends before between first → Extends between after second → Extends before after (first ++ second)
Extends-append None between after first second grown more = more ∙ ap (option_map (λ held. held ++ second)) grown
Extends-append (Some held) between after first second grown more = more ∙ ap (option_map (λ held. held ++ second)) grown ∙ ap Some (append_assoc held first second)
