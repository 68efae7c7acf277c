-- All that has the key is in the bucket.
use Rattle.std.proofs.Common.{◌≡◌, ℕ, ◌+◌, ◌≤◌, ◌∷◌, List, rules, subst, ◌∙◌}
use Rattle.std.specs.Result.{OnErr, OnOk}
use Rattle.rule_base.specs.Views.{element_in}
use Rattle.join_tests.specs.Hashing.{hash_of}
use Rattle.join_tests.specs.Joining.{key_of_element}
use Rattle.match_network.specs.Filed.{with_rows}
use Rattle.match_network.specs.SoFar.{IsPart}
use Rattle.match_network.proofs.FiledLemmas.{IsFiled-cleaned, hash_at-is, passed_came, taken_in}
use Rattle.match_network.proofs.TriedLemmas.{rows_tried_in}
use Rattle.match_network.proofs.stage.join_place.Goals as goal

pub take_place_in-requires-clause-numbered : goal.take_place_in-requires-clause-numbered
take_place_in-requires-clause-numbered g c =
    let stage = c.args.stage.now in
    (IsFiled-cleaned (stage.join.now ∷ stage.next.now) stage.arrivals.now.came stage.arrivals.now.places c.args.before.now c.clean.new.self c.element_hash-hash.result c.requires.filed c.clean.ensures.rows c.clean.ensures.entries).numbered

pub take_place_in-requires-clause-place : goal.take_place_in-requires-clause-place
take_place_in-requires-clause-place g c = passed_came c.args.stage.now.join.now c.args.stage.now.arrivals.now.came c.args.place c.requires.passes

pub returns-clause-ok : goal.returns-clause-ok
returns-clause-ok g c =
    let stage = c.args.stage.now in
    let came = stage.arrivals.now.came in
    let places = stage.arrivals.now.places in
    let e = element_in c.at-element.result in
    let hash : c.element_hash-hash.result ≡ hash_of (key_of_element stage.join.now.key e) = search rules in
    subst (λ (rows : List (List ℕ)). OnOk c.take_place_in.result (c.take_place_in.new.after ≡ with_rows stage.next.now came c.args.after.now rows))
    (taken_in stage.join.now stage.next.now came places c.args.place c.element_hash-hash.result c.args.before.now c.clean.new.self c.requires.filed c.requires.passes (hash ∙ hash_at-is stage.join.now came c.args.place e c.at-element.ensures) c.clean.ensures.rows c.clean.ensures.entries)
    c.take_place_in.ensures.ok

pub returns-clause-err : goal.returns-clause-err
returns-clause-err g c =
    let stage = c.args.stage.now in
    let came = stage.arrivals.now.came in
    let places = stage.arrivals.now.places in
    let e = element_in c.at-element.result in
    let hash : c.element_hash-hash.result ≡ hash_of (key_of_element stage.join.now.key e) = search rules in
    subst (λ (rows : List (List ℕ)). OnErr c.take_place_in.result (IsPart stage.next.now came c.args.after.now c.take_place_in.new.after rows))
    (taken_in stage.join.now stage.next.now came places c.args.place c.element_hash-hash.result c.args.before.now c.clean.new.self c.requires.filed c.requires.passes (hash ∙ hash_at-is stage.join.now came c.args.place e c.at-element.ensures) c.clean.ensures.rows c.clean.ensures.entries)
    c.take_place_in.ensures.err

pub returns-clause-filed : goal.returns-clause-filed
returns-clause-filed g c =
    let stage = c.args.stage.now in
    IsFiled-cleaned (stage.join.now ∷ stage.next.now) stage.arrivals.now.came stage.arrivals.now.places c.args.before.now c.clean.new.self c.element_hash-hash.result c.requires.filed c.clean.ensures.rows c.clean.ensures.entries

pub returns-clause-steps : goal.returns-clause-steps
returns-clause-steps g c =
    let stage = c.args.stage.now in
    let came = stage.arrivals.now.came in
    let places = stage.arrivals.now.places in
    let e = element_in c.at-element.result in
    let hash : c.element_hash-hash.result ≡ hash_of (key_of_element stage.join.now.key e) = search rules in
    let count = rows_tried_in stage.join.now stage.next.now came places c.args.place c.element_hash-hash.result c.args.before.now c.clean.new.self c.requires.filed (hash ∙ hash_at-is stage.join.now came c.args.place e c.at-element.ensures) c.clean.ensures.rows c.clean.ensures.entries in
    subst (λ n. c.take_place_in.new.steps ≤ c.args.steps.now + n) count c.take_place_in.ensures.steps
