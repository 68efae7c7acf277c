-- At the start all of the bucket is left.
use Rattle.std.proofs.Common.{◌≡◌, ℕ, ◌<◌, List, ap, arith, length, reverse, subst, sym, ◌∙◌}
use Rattle.std.specs.List.{AllByRecursion, list_any}
use Rattle.rule_base.specs.Numbers.{has_number}
use Rattle.hash_buckets.specs.Buckets.{numbers_of}
use Rattle.alpha_memory.specs.Times.{times}
use Rattle.match_network.specs.Joining.{agrees_at}
use Rattle.match_network.specs.Tried.{has_key}
use Rattle.match_network.proofs.SoFarLemmas.{Each-bucket}
use Rattle.match_network.proofs.negated.find_in.Goals as goal

pub loop-place-init : goal.loop-place-init
loop-place-init g c =
    let stage = c.args.stage.now in
    let came = stage.arrivals.now.came in
    let all = reverse (numbers_of c.args.store.now.entries c.args.hash) in
    let whole : c.into_iter-place-iterator.result ≡ all = c.into_iter-place-iterator.ensures.into_iter_gives ∙ c.bucket-place-items.ensures.places in
    record {
      filed = λ p has. ap (λ (left : List ℕ). has_number left p) (sym whole) ∙ has;
      none = ap (list_any (agrees_at stage.join.now came c.args.row.now)) whole;
      within = subst (λ (left : List ℕ). AllByRecursion (λ n. n < length came) left) (sym whole) (Each-bucket (λ n. n < length came) c.args.store.now.entries c.args.hash c.requires.have_come);
      steps = omega (arith, ap (times (has_key stage.join.now came c.args.row.now)) whole);
    }
