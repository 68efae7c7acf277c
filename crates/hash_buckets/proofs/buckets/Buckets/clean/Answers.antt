-- Where no link is known under the hash, all stays.
use Rattle.std.proofs.Common.{◌≡◌, ◌∙◌, ℕ, Bool, None, Option, ap, length, nat_eq, sym}
use Rattle.std.specs.List.{filter}
use Rattle.std.specs.Map.{lookup}
use Rattle.std.specs.Option.{unwrap_or}
use Rattle.hash_buckets.specs.Buckets.{Buckets, stays}
use Rattle.hash_buckets.specs.Links.{newest}
use Rattle.hash_buckets.proofs.CleanLemmas.{none_to_clean}
use Rattle.hash_buckets.proofs.buckets.Buckets.clean.Goals as goal

pub returns-in_default-clause-entries : goal.returns-in_default-clause-entries
returns-in_default-clause-entries g c =
    let links = c.self.inside.links.items in
    let lives : ℕ → Bool = g.L.Living.lives c.args.living.now in
    let absent : None ≡ lookup (nat_eq c.args.hash) c.self.inside.newest.entries = c.in_default.ensures.value in
    let none : newest c.args.hash links (length links) ≡ 0 = sym (c.self.invariant.1 c.args.hash) ∙ ap (λ (found : Option ℕ). unwrap_or found 0) (sym absent) in
    none_to_clean c.args.hash lives links c.self.invariant.0 none
    ∙ ap (λ (b : Buckets). filter (stays c.args.hash lives) b.entries) c.self.view_is
