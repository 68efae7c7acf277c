-- Those so far stand open.
use Rattle.std.proofs.Common.{◌≡◌, ℕ, [], if◌then◌else◌, length, slice_index_or, take}
use Rattle.std.specs.Option.{option_map}
use Rattle.conflict_parts.specs.declared.standing.Standing.{Standing}
use Rattle.conflict_parts.specs.declared.standing.Standing.TheVariants.{Open}
use Rattle.conflict_parts.specs.Queue.{is_queued}
use Rattle.conflict_parts.specs.Standings.{standing_at}
use Rattle.conflict_parts.proofs.renewing.open_each.Given as goal

abbrev pub invariant-loop-id : goal.invariant-loop-id
invariant-loop-id l = record {
  count : length l.standings ≡ length l.fn.standings;
  lengths : (rule : ℕ) → length (slice_index_or l.standings rule []) ≡ length (slice_index_or l.fn.standings rule []);
  each : (rule row : ℕ) → standing_at l.standings rule row
      ≡ (if is_queued (take l.id-index l.ids) rule row then option_map (λ (s : Standing). Open) (standing_at l.fn.standings rule row) else standing_at l.fn.standings rule row);
}
