-- One choice has the number.
use Rattle.std.proofs.Common.{◌≡◌, ◌≤◌, ◌∷◌, List, ℕ, Some, ap, cond, length, rules, subst, ◌∙◌}
use Rattle.std.specs.Prelude.{vec_capacity}
use Rattle.std.specs.Map.{lookup}
use Rattle.rule_base.specs.State.{same_choice}
use Rattle.rule_base.specs.declared.instantiation.Choice.{Choice}
use Rattle.refraction_index.specs.Numbers.{Numbers, by_items, choice_with, number_of, words_of}
use Rattle.refraction_index.proofs.NumberLemmas.{lookup-set, within-set}
use Rattle.rule_base.specs.Numbers.{same_numbers}
use Rattle.refraction_index.proofs.numbers.Numbers.set.Goals as goal

pub invariant_of-self-2 : goal.invariant_of-self-2
invariant_of-self-2 c =
    let old = c.self.inside.by_words.entries in
    let new = c.insert.new.self.entries in
    let words = c.in_ok-words.words in
    let room : length words.items ≤ vec_capacity c.make_room.new.words = search rules in
    within-set (by_items old) (by_items new) (vec_capacity c.self.inside.question) (vec_capacity c.make_room.new.words) words.items c.args.number c.self.invariant c.make_room.ensures.kept room
    (λ (q : List ℕ). ap (λ es. lookup (same_numbers q) (by_items es)) c.in_ok-insert.ensures.entries ∙ lookup-set q old words c.args.number)

pub returns-clause-ok : goal.returns-clause-ok
returns-clause-ok c = λ (choice : Choice).
    let old = c.self.inside.by_words.entries in
    let new = c.insert.new.self.entries in
    let words = c.in_ok-words.words in
    let number = c.args.number in
    let laid : words.items ≡ c.args.rule ∷ c.args.tags.now = search rules in
    subst (λ (numbers : Numbers). number_of (by_items new) choice ≡ cond (same_choice choice (choice_with c.args.rule c.args.tags.now)) (Some number) (number_of numbers choice)) c.self.view_is
    (ap (λ es. lookup (same_numbers (words_of choice)) (by_items es)) c.in_ok-insert.ensures.entries
    ∙ lookup-set (words_of choice) old words number
    ∙ ap (λ (these : List ℕ). cond (same_numbers (words_of choice) these) (Some number) (number_of (by_items old) choice)) laid)
