-- All that has the key is in the bucket.
use Rattle.std.proofs.Common.{◌≡◌, ℕ, ◌+◌, ◌≤◌, List, refl, reverse, rules, subst, true}
use Rattle.rule_base.specs.Numbers.{has_number}
use Rattle.hash_buckets.specs.Buckets.{numbers_of}
use Rattle.match_network.specs.Conditions.{entries_at}
use Rattle.match_network.specs.Filed.{row_hash}
use Rattle.match_network.specs.Joining.{agrees_at}
use Rattle.match_network.specs.Negated.{blocks_at}
use Rattle.match_network.specs.Tried.{places_tried}
use Rattle.match_network.proofs.BlockLemmas.{found_blocks, if_both, none_blocks}
use Rattle.match_network.proofs.FiledLemmas.{IsCleaned-stays, IsStore-cleaned}
use Rattle.match_network.proofs.StoreLemmas.{IsServed-cleaned, entries_cleaned, one_cleaned, served-within}
use Rattle.match_network.proofs.TriedLemmas.{places_tried_in}
use Rattle.match_network.proofs.negated.find_one.Goals as goal

pub store-kept-requires : goal.store-kept-requires
store-kept-requires g c =
    let join = c.args.negated.now.join in
    let a = c.args.arrivals.now in
    served-within join true a.came a.places c.clean.new.self c.args.store
    (IsServed-cleaned join true a.came a.places c.args.alpha.now c.clean.new.self c.args.store (one_cleaned a.places c.args.alpha.now c.clean.new.self c.args.store c.row_hash-hash.result c.clean.ensures) c.requires.served)

pub find_in-requires-clause-have_come : goal.find_in-requires-clause-have_come
find_in-requires-clause-have_come g c =
    let join = c.args.negated.now.join in
    let a = c.args.arrivals.now in
    let now = entries_cleaned a.places c.args.alpha.now c.clean.new.self c.args.store c.row_hash-hash.result c.store-kept.result.now c.clean.ensures c.store-kept.ensures in
    (IsStore-cleaned join a.came a.places (entries_at c.args.alpha.now c.args.store) c.store-kept.result.now.entries
    (IsCleaned-stays a.places (entries_at c.args.alpha.now c.args.store) c.store-kept.result.now.entries c.row_hash-hash.result now) (c.requires.served.has refl)).have_come

pub returns-clause-there : goal.returns-clause-there
returns-clause-there g c =
    let n = c.args.negated.now in
    let a = c.args.arrivals.now in
    let row = c.args.row.now in
    let before = c.first_places-before.result.now in
    let bucket = reverse (numbers_of c.store-kept.result.now.entries c.row_hash-hash.result) in
    let now = entries_cleaned a.places c.args.alpha.now c.clean.new.self c.args.store c.row_hash-hash.result c.store-kept.result.now c.clean.ensures c.store-kept.ensures in
    let hash : c.row_hash-hash.result ≡ row_hash n.join a.came before = search rules in
    if_both (λ p. has_number bucket p ≡ true) (λ p. agrees_at n.join a.came before p ≡ true) (λ p. has_number a.places p ≡ true)
    (λ p filed agrees. (found_blocks n a.came a.places row before c.row_hash-hash.result (entries_at c.args.alpha.now c.args.store) c.store-kept.result.now.entries p (c.requires.served.has refl) c.requires.come c.first_places-before.ensures hash now filed agrees).0)
    c.find_in.result c.find_in.ensures.filed c.find_in.ensures.agrees

pub returns-clause-blocks : goal.returns-clause-blocks
returns-clause-blocks g c =
    let n = c.args.negated.now in
    let a = c.args.arrivals.now in
    let row = c.args.row.now in
    let before = c.first_places-before.result.now in
    let bucket = reverse (numbers_of c.store-kept.result.now.entries c.row_hash-hash.result) in
    let now = entries_cleaned a.places c.args.alpha.now c.clean.new.self c.args.store c.row_hash-hash.result c.store-kept.result.now c.clean.ensures c.store-kept.ensures in
    let hash : c.row_hash-hash.result ≡ row_hash n.join a.came before = search rules in
    if_both (λ p. has_number bucket p ≡ true) (λ p. agrees_at n.join a.came before p ≡ true) (λ p. blocks_at n a.came row p ≡ true)
    (λ p filed agrees. (found_blocks n a.came a.places row before c.row_hash-hash.result (entries_at c.args.alpha.now c.args.store) c.store-kept.result.now.entries p (c.requires.served.has refl) c.requires.come c.first_places-before.ensures hash now filed agrees).1)
    c.find_in.result c.find_in.ensures.filed c.find_in.ensures.agrees

pub returns-clause-none : goal.returns-clause-none
returns-clause-none g c is =
    let n = c.args.negated.now in
    let a = c.args.arrivals.now in
    let row = c.args.row.now in
    let before = c.first_places-before.result.now in
    let now = entries_cleaned a.places c.args.alpha.now c.clean.new.self c.args.store c.row_hash-hash.result c.store-kept.result.now c.clean.ensures c.store-kept.ensures in
    let hash : c.row_hash-hash.result ≡ row_hash n.join a.came before = search rules in
    none_blocks n a.came a.places row before c.row_hash-hash.result (entries_at c.args.alpha.now c.args.store) c.store-kept.result.now.entries (c.requires.served.has refl) c.requires.come c.first_places-before.ensures hash now (c.find_in.ensures.none is)

pub returns-clause-cleaned : goal.returns-clause-cleaned
returns-clause-cleaned g c = one_cleaned c.args.arrivals.now.places c.args.alpha.now c.clean.new.self c.args.store c.row_hash-hash.result c.clean.ensures

pub returns-clause-steps : goal.returns-clause-steps
returns-clause-steps g c =
    let n = c.args.negated.now in
    let a = c.args.arrivals.now in
    let before = c.first_places-before.result.now in
    let now = entries_cleaned a.places c.args.alpha.now c.clean.new.self c.args.store c.row_hash-hash.result c.store-kept.result.now c.clean.ensures c.store-kept.ensures in
    let hash : c.row_hash-hash.result ≡ row_hash n.join a.came before = search rules in
    let count = places_tried_in n.join a.came a.places before c.row_hash-hash.result (entries_at c.args.alpha.now c.args.store) c.store-kept.result.now.entries (c.requires.served.has refl) hash now in
    subst (λ (ps : List ℕ). c.find_in.new.steps ≤ c.args.steps.now + places_tried n.join a.came a.places ps) c.first_places-before.ensures
    (subst (λ k. c.find_in.new.steps ≤ c.args.steps.now + k) count c.find_in.ensures.steps)
