-- How rooms add, multiply and fit, and the room that is left once an entry is taken in.
use Rattle.std.proofs.Common.{◌≡◌, ℕ, ◌+◌, ◌*◌, ◌^◌, ◌<◌, ◌≤◌, zero, suc, ◌∙◌, ap, arith, length, mul-le-mul_right, suc-mul}
use Rattle.rule_base.specs.declared.change.Piece.{Piece}
use Rattle.commit_journal.specs.declared.room.Room.{Room}
use Rattle.commit_journal.specs.Lists.{Kept}
use Rattle.commit_journal.specs.Newborns.{Made}
use Rattle.commit_journal.specs.Flat.{HaveRoom}
use Rattle.commit_journal.specs.Room.{FitsIn, larger_room, room_plus, room_times, room_without}

-- lists have less room by one list with so many items at most
abbrev pub HasLeft : {A : Type 0} → Kept A → Kept A → ℕ → Type 0
HasLeft old new items = (old.more_lists ≤ new.more_lists + 1) × (old.more_items ≤ new.more_items + items)

pub HaveRoom-push : (room need : Room) (firings firings' : ℕ) (tags tags' gone gone' : Kept ℕ) (made made' : Made) (pieces pieces' : Kept Piece) → HaveRoom room firings tags gone made pieces → FitsIn need room → need.entries ≡ 1 → firings ≤ firings' + 1 → HasLeft tags tags' need.tags → HasLeft gone gone' need.gone → HasLeft pieces pieces' need.pieces → (made.more_elements ≤ made'.more_elements + need.elements) × (made.more_values ≤ made'.more_values + need.values) → made'.next ≡ made.next + need.elements → length made'.elements ≡ length made.elements + need.elements → HaveRoom (room_without room need) firings' tags' gone' made' pieces'
HaveRoom-push room need firings firings' tags tags' gone gone' made made' pieces pieces' had fits one of_firings of_tags of_gone of_pieces of_made next size = record {
  for_entries = omega (arith, had.for_entries, fits.entries, one, of_firings);
  for_tags = (omega (arith, had.for_tags.0, fits.entries, one, of_tags.0), omega (arith, had.for_tags.1, fits.tags, of_tags.1));
  for_gone = (omega (arith, had.for_gone.0, fits.entries, one, of_gone.0), omega (arith, had.for_gone.1, fits.gone, of_gone.1));
  for_pieces = (omega (arith, had.for_pieces.0, fits.entries, one, of_pieces.0), omega (arith, had.for_pieces.1, fits.pieces, of_pieces.1));
  for_born = (omega (arith, had.for_born.0, fits.elements, of_made.0), omega (arith, had.for_born.1, fits.values, of_made.1));
  of_tags = omega (arith, had.of_tags, fits.elements, next);
  of_places = omega (arith, had.of_places, fits.elements, size);
}

-- each journal has no room at least
pub HaveRoom-none : (room : Room) (firings : ℕ) (tags gone : Kept ℕ) (made : Made) (pieces : Kept Piece) → room ≡ record { entries = 0; tags = 0; gone = 0; elements = 0; values = 0; pieces = 0 } → made.next < 2 ^ 64 → length made.elements < 2 ^ 32 → HaveRoom room firings tags gone made pieces
HaveRoom-none room firings tags gone made pieces none next few =
    let no_entries : room.entries ≡ 0 = ap (λ (r : Room). r.entries) none in
    let no_tags : room.tags ≡ 0 = ap (λ (r : Room). r.tags) none in
    let no_gone : room.gone ≡ 0 = ap (λ (r : Room). r.gone) none in
    let no_pieces : room.pieces ≡ 0 = ap (λ (r : Room). r.pieces) none in
    let no_elements : room.elements ≡ 0 = ap (λ (r : Room). r.elements) none in
    let no_values : room.values ≡ 0 = ap (λ (r : Room). r.values) none in
    record {
      for_entries = omega (arith, no_entries);
      for_tags = (omega (arith, no_entries), omega (arith, no_tags));
      for_gone = (omega (arith, no_entries), omega (arith, no_gone));
      for_pieces = (omega (arith, no_entries), omega (arith, no_pieces));
      for_born = (omega (arith, no_elements), omega (arith, no_values));
      of_tags = omega (arith, no_elements, next);
      of_places = omega (arith, no_elements, few);
    }

-- rooms with the same parts are the same
pub same_room : (a b : Room) → a.entries ≡ b.entries → a.tags ≡ b.tags → a.gone ≡ b.gone → a.elements ≡ b.elements → a.values ≡ b.values → a.pieces ≡ b.pieces → a ≡ b
same_room a b entries tags gone elements values pieces =
    ap (λ n. record { entries = n; tags = a.tags; gone = a.gone; elements = a.elements; values = a.values; pieces = a.pieces }) entries
    ∙ ap (λ n. record { entries = b.entries; tags = n; gone = a.gone; elements = a.elements; values = a.values; pieces = a.pieces }) tags
    ∙ ap (λ n. record { entries = b.entries; tags = b.tags; gone = n; elements = a.elements; values = a.values; pieces = a.pieces }) gone
    ∙ ap (λ n. record { entries = b.entries; tags = b.tags; gone = b.gone; elements = n; values = a.values; pieces = a.pieces }) elements
    ∙ ap (λ n. record { entries = b.entries; tags = b.tags; gone = b.gone; elements = b.elements; values = n; pieces = a.pieces }) values
    ∙ ap (λ n. record { entries = b.entries; tags = b.tags; gone = b.gone; elements = b.elements; values = b.values; pieces = n }) pieces

pub room_plus-commutes : (a b : Room) → room_plus a b ≡ room_plus b a
room_plus-commutes a b = same_room (room_plus a b) (room_plus b a) (omega arith) (omega arith) (omega arith) (omega arith) (omega arith) (omega arith)

pub room_plus-associates : (a b c : Room) → room_plus (room_plus a b) c ≡ room_plus a (room_plus b c)
room_plus-associates a b c = same_room (room_plus (room_plus a b) c) (room_plus a (room_plus b c)) (omega arith) (omega arith) (omega arith) (omega arith) (omega arith) (omega arith)

pub FitsIn-refl : (room : Room) → FitsIn room room
FitsIn-refl room = record { entries = omega arith; tags = omega arith; gone = omega arith; elements = omega arith; values = omega arith; pieces = omega arith }

pub FitsIn-trans : (a b c : Room) → FitsIn a b → FitsIn b c → FitsIn a c
FitsIn-trans a b c first second = record {
  entries = omega (arith, first.entries, second.entries);
  tags = omega (arith, first.tags, second.tags);
  gone = omega (arith, first.gone, second.gone);
  elements = omega (arith, first.elements, second.elements);
  values = omega (arith, first.values, second.values);
  pieces = omega (arith, first.pieces, second.pieces);
}

-- with the same room more, what fitted fits
pub FitsIn-room_plus : (a b c : Room) → FitsIn a b → FitsIn (room_plus a c) (room_plus b c)
FitsIn-room_plus a b c fits = record {
  entries = omega (arith, fits.entries);
  tags = omega (arith, fits.tags);
  gone = omega (arith, fits.gone);
  elements = omega (arith, fits.elements);
  values = omega (arith, fits.values);
  pieces = omega (arith, fits.pieces);
}

-- where both rooms fit, the first one does
pub FitsIn-first : (a b room : Room) → FitsIn (room_plus a b) room → FitsIn a room
FitsIn-first a b room fits = record {
  entries = omega (arith, fits.entries);
  tags = omega (arith, fits.tags);
  gone = omega (arith, fits.gone);
  elements = omega (arith, fits.elements);
  values = omega (arith, fits.values);
  pieces = omega (arith, fits.pieces);
}

-- and the second one fits in what the first one leaves
pub FitsIn-room_without : (a b room : Room) → FitsIn (room_plus a b) room → FitsIn b (room_without room a)
FitsIn-room_without a b room fits = record {
  entries = omega (arith, fits.entries);
  tags = omega (arith, fits.tags);
  gone = omega (arith, fits.gone);
  elements = omega (arith, fits.elements);
  values = omega (arith, fits.values);
  pieces = omega (arith, fits.pieces);
}

-- what holds either room holds the first one
pub FitsIn-larger_room : (a b : Room) → FitsIn a (larger_room a b)
FitsIn-larger_room a b = record { entries = omega arith; tags = omega arith; gone = omega arith; elements = omega arith; values = omega arith; pieces = omega arith }

-- and the second one
pub FitsIn-larger_room_second : (a b : Room) → FitsIn b (larger_room a b)
FitsIn-larger_room_second a b = record { entries = omega arith; tags = omega arith; gone = omega arith; elements = omega arith; values = omega arith; pieces = omega arith }

-- one time more is the room once more
times-next : (n x : ℕ) → (n + 1) * x ≡ n * x + x
times-next n x =
    let next : n + 1 ≡ suc n = omega arith in
    ap (λ k. k * x) next ∙ suc-mul n x

pub room_times-next : (n : ℕ) (room : Room) → room_times (n + 1) room ≡ room_plus (room_times n room) room
room_times-next n room = same_room (room_times (n + 1) room) (room_plus (room_times n room) room) (times-next n room.entries) (times-next n room.tags) (times-next n room.gone) (times-next n room.elements) (times-next n room.values) (times-next n room.pieces)

-- fewer times a room need no more than more times
pub FitsIn-room_times-less : (n m : ℕ) (room whole : Room) → n ≤ m → FitsIn (room_times m room) whole → FitsIn (room_times n room) whole
FitsIn-room_times-less n m room whole fewer fits = record {
  entries = omega (arith, mul-le-mul_right room.entries fewer, fits.entries);
  tags = omega (arith, mul-le-mul_right room.tags fewer, fits.tags);
  gone = omega (arith, mul-le-mul_right room.gone fewer, fits.gone);
  elements = omega (arith, mul-le-mul_right room.elements fewer, fits.elements);
  values = omega (arith, mul-le-mul_right room.values fewer, fits.values);
  pieces = omega (arith, mul-le-mul_right room.pieces fewer, fits.pieces);
}

-- where what needs no more than one of them is taken, one time less is left
pub FitsIn-room_times-without : (n : ℕ) (need room whole : Room) → FitsIn need room → FitsIn (room_times (n + 1) room) whole → FitsIn (room_times n room) (room_without whole need)
FitsIn-room_times-without n need room whole small fits = record {
  entries = omega (arith, times-next n room.entries, small.entries, fits.entries);
  tags = omega (arith, times-next n room.tags, small.tags, fits.tags);
  gone = omega (arith, times-next n room.gone, small.gone, fits.gone);
  elements = omega (arith, times-next n room.elements, small.elements, fits.elements);
  values = omega (arith, times-next n room.values, small.values, fits.values);
  pieces = omega (arith, times-next n room.pieces, small.pieces, fits.pieces);
}

-- and where there is one of them, that fits itself
pub FitsIn-room_times-one : (n : ℕ) (need room whole : Room) → FitsIn need room → 0 < n → FitsIn (room_times n room) whole → FitsIn need whole
FitsIn-room_times-one zero need room whole small some fits = absurd (let wrong : ⊥ = omega (arith, some) in wrong)
FitsIn-room_times-one (suc n) need room whole small some fits = record {
  entries = omega (arith, suc-mul n room.entries, small.entries, fits.entries);
  tags = omega (arith, suc-mul n room.tags, small.tags, fits.tags);
  gone = omega (arith, suc-mul n room.gone, small.gone, fits.gone);
  elements = omega (arith, suc-mul n room.elements, small.elements, fits.elements);
  values = omega (arith, suc-mul n room.values, small.values, fits.values);
  pieces = omega (arith, suc-mul n room.pieces, small.pieces, fits.pieces);
}
