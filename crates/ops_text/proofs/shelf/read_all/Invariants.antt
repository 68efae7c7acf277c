-- What is read so far is the file's front, and there is room for a piece.
use Rattle.std.proofs.Common.{◌≡◌, ℕ, ◌+◌, ◌-◌, ◌<◌, ◌≤◌, List, take, vec_len}
use Rattle.std.specs.Option.{ForSome}
use Rattle.ops_text.proofs.shelf.read_all.Given as goal

abbrev pub invariant-loop-shelf : goal.invariant-loop-shelf
invariant-loop-shelf g l =
    let told = g.F.Shelf.told in
    let faults = g.F.Shelf.faults in
    record {
      front : ForSome (told l.initial.shelf l.name) (λ file. l.bytes.items ≡ take (vec_len l.bytes) file);
      room : 0 < vec_len l.piece;
      same : told l.shelf ≡ told l.initial.shelf;
      counted : faults l.shelf ≡ faults l.initial.shelf;
      later : (other : List ℕ) → faults l.initial.shelf other ≤ faults l.shelf other;
    }

-- how many bytes more may come
abbrev pub decreases-loop-shelf : goal.decreases-loop-shelf
decreases-loop-shelf g l = l.most + 1 - vec_len l.bytes
