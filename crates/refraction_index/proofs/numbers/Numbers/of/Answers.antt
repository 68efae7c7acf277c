-- What the map has under the words that were laid.
use Rattle.std.proofs.Common.{◌≡◌, ◌∷◌, List, ℕ, ap, rules, subst, ◌∙◌}
use Rattle.std.specs.Map.{lookup}
use Rattle.refraction_index.specs.Numbers.{Numbers, by_items, number_of}
use Rattle.refraction_index.proofs.NumberLemmas.{lookup-by_items}
use Rattle.rule_base.specs.Numbers.{same_numbers}
use Rattle.refraction_index.proofs.numbers.Numbers.of.Goals as goal

pub returns-clause-number : goal.returns-clause-number
returns-clause-number c =
    let entries = c.self.inside.by_words.entries in
    let words : c.as_slice.result.now ≡ c.args.choice.now.rule ∷ c.args.choice.now.tags = search rules in
    let found : c.copied.result ≡ lookup (λ k. Rattle.std.specs.Str.bytes_eq c.as_slice.result.now k.items) entries = search rules in
    subst (λ (numbers : Numbers). c.copied.result ≡ number_of numbers c.args.choice.now) c.self.view_is
    (found ∙ lookup-by_items c.as_slice.result.now entries ∙ ap (λ (these : List ℕ). lookup (same_numbers these) (by_items entries)) words)
