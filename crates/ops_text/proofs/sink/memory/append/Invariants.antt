-- The bytes so far are appended, in the room that there is.
use Rattle.std.proofs.Common.{◌≡◌, ◌++◌, ◌+◌, take, vec_len, vec_capacity}
use Rattle.ops_text.proofs.sink.memory.append.Given as goal

abbrev pub invariant-loop-byte : goal.invariant-loop-byte
invariant-loop-byte l = record {
  appended : l.held.items ≡ l.initial.held.items ++ take l.byte-index l.bytes;
  length : vec_len l.held ≡ vec_len l.initial.held + l.byte-index;
  room : vec_capacity l.held ≡ vec_capacity l.initial.held;
}
