-- All that has the key is in the bucket.
use Rattle.std.proofs.Common.{◌≡◌, ℕ, ◌+◌, ◌≤◌, List, refl, rules, subst, true}
use Rattle.std.specs.Result.{OnErr, OnOk}
use Rattle.match_network.specs.Filed.{row_hash, with_rows}
use Rattle.match_network.specs.SoFar.{IsPart}
use Rattle.match_network.specs.Conditions.{entries_at}
use Rattle.match_network.proofs.FiledLemmas.{IsCleaned-stays, IsStore-cleaned, extended_in}
use Rattle.match_network.proofs.StoreLemmas.{entries_cleaned, one_cleaned, IsServed-cleaned, served-within}
use Rattle.match_network.proofs.TriedLemmas.{places_tried_in}
use Rattle.match_network.proofs.stage.extend_row.Goals as goal

pub store-kept-requires : goal.store-kept-requires
store-kept-requires g c =
    let stage = c.args.stage.now in
    let a = stage.arrivals.now in
    served-within stage.join.now true a.came a.places c.clean.new.self c.args.store
    (IsServed-cleaned stage.join.now true a.came a.places c.args.alpha.now c.clean.new.self c.args.store (one_cleaned a.places c.args.alpha.now c.clean.new.self c.args.store c.row_hash-hash.result c.clean.ensures) c.requires.served)

pub extend_by-requires-clause-have_come : goal.extend_by-requires-clause-have_come
extend_by-requires-clause-have_come g c =
    let stage = c.args.stage.now in
    let a = stage.arrivals.now in
    let now = entries_cleaned a.places c.args.alpha.now c.clean.new.self c.args.store c.row_hash-hash.result c.store-kept.result.now c.clean.ensures c.store-kept.ensures in
    (IsStore-cleaned stage.join.now a.came a.places (entries_at c.args.alpha.now c.args.store) c.store-kept.result.now.entries
    (IsCleaned-stays a.places (entries_at c.args.alpha.now c.args.store) c.store-kept.result.now.entries c.row_hash-hash.result now) (c.requires.served.has refl)).have_come

pub returns-clause-ok : goal.returns-clause-ok
returns-clause-ok g c =
    let stage = c.args.stage.now in
    let a = stage.arrivals.now in
    let now = entries_cleaned a.places c.args.alpha.now c.clean.new.self c.args.store c.row_hash-hash.result c.store-kept.result.now c.clean.ensures c.store-kept.ensures in
    let hash : c.row_hash-hash.result ≡ row_hash stage.join.now a.came c.args.row.now = search rules in
    subst (λ (rows : List (List ℕ)). OnOk c.extend_by.result (c.extend_by.new.after ≡ with_rows stage.next.now a.came c.args.after.now rows))
    (extended_in stage.join.now a.came a.places c.args.row.now c.row_hash-hash.result (entries_at c.args.alpha.now c.args.store) c.store-kept.result.now.entries (c.requires.served.has refl) hash now)
    c.extend_by.ensures.ok

pub returns-clause-err : goal.returns-clause-err
returns-clause-err g c =
    let stage = c.args.stage.now in
    let a = stage.arrivals.now in
    let now = entries_cleaned a.places c.args.alpha.now c.clean.new.self c.args.store c.row_hash-hash.result c.store-kept.result.now c.clean.ensures c.store-kept.ensures in
    let hash : c.row_hash-hash.result ≡ row_hash stage.join.now a.came c.args.row.now = search rules in
    subst (λ (rows : List (List ℕ)). OnErr c.extend_by.result (IsPart stage.next.now a.came c.args.after.now c.extend_by.new.after rows))
    (extended_in stage.join.now a.came a.places c.args.row.now c.row_hash-hash.result (entries_at c.args.alpha.now c.args.store) c.store-kept.result.now.entries (c.requires.served.has refl) hash now)
    c.extend_by.ensures.err

pub returns-clause-stores : goal.returns-clause-stores
returns-clause-stores g c = one_cleaned c.args.stage.now.arrivals.now.places c.args.alpha.now c.clean.new.self c.args.store c.row_hash-hash.result c.clean.ensures

pub returns-clause-steps : goal.returns-clause-steps
returns-clause-steps g c =
    let stage = c.args.stage.now in
    let a = stage.arrivals.now in
    let now = entries_cleaned a.places c.args.alpha.now c.clean.new.self c.args.store c.row_hash-hash.result c.store-kept.result.now c.clean.ensures c.store-kept.ensures in
    let hash : c.row_hash-hash.result ≡ row_hash stage.join.now a.came c.args.row.now = search rules in
    let count = places_tried_in stage.join.now a.came a.places c.args.row.now c.row_hash-hash.result (entries_at c.args.alpha.now c.args.store) c.store-kept.result.now.entries (c.requires.served.has refl) hash now in
    subst (λ n. c.extend_by.new.steps ≤ c.args.steps.now + n) count c.extend_by.ensures.steps
