-- Links in an arena: each names the next older one of its hash by its place plus 1, and 0 is none.
use Rattle.std.specs.Prelude.{◌≡◌, ℕ, ◌<◌, ◌^◌, Bool, true, zero, suc, ◌==◌, ◌&&◌, List, filter, if◌then◌else◌, map, not, nat_eq, reverse, slice_index_or, slice_set, take, length}
use Rattle.std.specs.Map.{lookup}
use Rattle.std.specs.Option.{unwrap_or}
use Rattle.hash_buckets.specs.Buckets.{numbers_of}
use Rattle.hash_buckets.specs.declared.links.Link.{Link}
use Rattle.hash_buckets.specs.declared.links.TheConstants.{UNLINKED}

-- what stands past the end: a link that is unlinked
abbrev pub no_link : Link
no_link = record { hash = 0; number = 0; next = UNLINKED }

-- the link at a place
abbrev pub link_at : List Link → ℕ → Link
link_at links place = slice_index_or links place no_link

-- whether a link wasn't unlinked
abbrev pub is_linked : Link → Bool
is_linked link = not (link.next == UNLINKED)

-- whether a link is linked under a hash
abbrev pub is_under : ℕ → Link → Bool
is_under hash link = (link.hash == hash) && is_linked link

-- the hash and the number of a link
abbrev pub entry_of : Link → ℕ × ℕ
entry_of link = (link.hash, link.number)

-- what is filed by links
abbrev pub entries_of : List Link → List (ℕ × ℕ)
entries_of links = map entry_of (filter is_linked links)

-- the last of the first n places that passes a test, plus 1, or 0 where none does
abbrev pub last_place : (ℕ → Bool) → ℕ → ℕ
last_place test zero = 0
last_place test (suc n) = if test n then suc n else last_place test n

-- the newest of the first n links that is linked under a hash
abbrev pub newest : ℕ → List Link → ℕ → ℕ
newest hash links n = last_place (λ place. is_under hash (link_at links place)) n

-- the numbers of the first n links under a hash, the newest first
abbrev pub bucket : ℕ → List Link → ℕ → List ℕ
bucket hash links n = reverse (numbers_of (entries_of (take n links)) hash)

-- each link that is linked names the newest of those before it with its hash, and places plus 1 fit 32 bits
pub record AreLinked (links : List Link) : Type 0 where
  pub few : length links < 2 ^ 32
  pub older : (place : ℕ) → is_linked (link_at links place) ≡ true → (link_at links place).next ≡ newest (link_at links place).hash links place

-- the newest link under each hash is known
abbrev pub AreKnown : List (ℕ × ℕ) → List Link → Type 0
AreKnown known links = (hash : ℕ) → unwrap_or (lookup (nat_eq hash) known) 0 ≡ newest hash links (length links)

-- links with another next one at a place
abbrev pub with_next : List Link → ℕ → ℕ → List Link
with_next links place next = slice_set links place (record (link_at links place) { next = next })

-- links with another next one after a link, if there is that link
abbrev pub with_next_after : List Link → ℕ → ℕ → List Link
with_next_after links zero next = links
with_next_after links (suc place) next = with_next links place next

-- the newest link, once the one after a link is another
abbrev pub first_after : ℕ → ℕ → ℕ → ℕ
first_after zero first next = next
first_after (suc place) first next = first
