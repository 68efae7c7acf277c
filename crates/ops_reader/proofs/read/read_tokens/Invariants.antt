-- The tokens in front of the rest have been read, and each byte that is gone gave at most one name and one form.
use Rattle.std.proofs.Common.{◌+◌, ◌≤◌, length}
use Rattle.ops_text.specs.Names.{KeepsNumbers}
use Rattle.ops_tokens.specs.Tokens.{tokens_of}
use Rattle.ops_tokens.specs.Places.{lefts_of}
use Rattle.ops_reader.specs.Outcome.{reading}
use Rattle.ops_reader.proofs.Reached.{HasReached}
use Rattle.ops_reader.proofs.read.read_tokens.Given as goal

abbrev pub invariant-loop-found : goal.invariant-loop-found
invariant-loop-found l = record {
  reached : HasReached l.initial.symbols l.bytes (tokens_of l.rest) (lefts_of l.rest) (reading l.symbols l.progress);
  within : length l.rest ≤ length l.bytes;
  few : length l.progress.forms + length l.rest ≤ length l.bytes;
  room : length l.symbols + length l.rest ≤ length l.initial.symbols + length l.bytes;
  stand : KeepsNumbers l.initial.symbols l.symbols;
}

abbrev pub decreases-loop-found : goal.decreases-loop-found
decreases-loop-found l = length l.rest
