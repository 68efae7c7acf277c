-- What has been passed over has no token.
use Rattle.std.proofs.Common.{◌≡◌, ◌≤◌, length}
use Rattle.ops_tokens.specs.Tokens.{tokens_of}
use Rattle.ops_tokens.specs.Places.{lefts_of}
use Rattle.ops_tokens.proofs.scan.next_token.Given as goal

abbrev pub invariant-loop-first : goal.invariant-loop-first
invariant-loop-first l = record {
  same : tokens_of l.rest ≡ tokens_of l.text;
  places : lefts_of l.rest ≡ lefts_of l.text;
  within : length l.rest ≤ length l.text;
}

abbrev pub decreases-loop-first : goal.decreases-loop-first
decreases-loop-first l = length l.rest
