-- The entries that flat arrays keep: their number, one more, each of them, those of a range, and what all have of one
-- kind.
use Rattle.std.proofs.Common.{◌≡◌, ℕ, ◌+◌, ◌-◌, ◌<◌, ◌≤◌, List, [], ◌∷◌, ◌++◌, Some, length, drop, map, option_map, slice_get, take, zero, suc, refl, sym, ◌∙◌, ap, subst, arith}
use Rattle.std.specs.List.{filter_map, flat_map, zip}
use Rattle.std.proofs.lemmas.List.{length-drop, length-map, map-append, take-map, take_rest}
use Rattle.std.proofs.lemmas.List.Folds.{flat_map-map}
use Rattle.std.specs.Prelude.{slice_index, slice_range}
use Rattle.std.proofs.lemmas.Option.{slice_get-map, slice_get_within}
use Rattle.rule_base.specs.declared.element.Element.{Element}
use Rattle.rule_base.specs.declared.change.Piece.{Piece}
use Rattle.rule_base.specs.declared.change.Tagged.TheVariants.{Gone, Born}
use Rattle.rule_base.specs.declared.entry.Entry.{Entry}
use Rattle.commit_journal.specs.declared.firing.Firing.{Firing}
use Rattle.commit_journal.specs.Lists.{RiseTo, cut}
use Rattle.commit_journal.specs.Entries.{born_by, born_in, entry_with, pieces_of}
use Rattle.commit_journal.specs.Firings.{Parts, born_ends, entries_of, entry_of, firing_before}
use Rattle.commit_journal.proofs.CutLemmas.{RiseTo-at, RiseTo-drop, RiseTo-range, cut-push, cut-range, cut_from-drop, flat_map-cut, flat_map-cut_from, length-cut_from, places_before, slice_get-cut_from}
use Rattle.commit_journal.proofs.BesideLemmas.{drop-map, drop-zip, flat_map-firsts, flat_map-same, flat_map-seconds, length-beside, slice_get-zip, take-zip, zip-push}

-- the entries with these parts, whose born elements are lists of their own
abbrev pub beside : List Firing → List (List ℕ) → List (List ℕ) → List (List Element) → List (List Piece) → List Entry
beside firings tags gone born pieces = map entry_of (zip firings (zip tags (zip gone (zip born pieces))))

-- each firing has its parts
pub record HaveLength (n : ℕ) (tags gone : List (List ℕ)) (born : List (List Element)) (pieces : List (List Piece)) : Type 0 where
  pub of_tags : length tags ≡ n
  pub of_gone : length gone ≡ n
  pub of_born : length born ≡ n
  pub of_pieces : length pieces ≡ n

same_length : {X Y : Type 0} (n : ℕ) (xs : List X) (ys : List Y) → length xs ≡ n → length ys ≡ n → length (zip xs ys) ≡ n
same_length n xs ys of_xs of_ys = length-beside xs ys (of_xs ∙ sym of_ys) ∙ of_ys

with_pieces : (n : ℕ) (tags gone : List (List ℕ)) (born : List (List Element)) (pieces : List (List Piece)) → HaveLength n tags gone born pieces → length (zip born pieces) ≡ n
with_pieces n tags gone born pieces have = same_length n born pieces have.of_born have.of_pieces

with_born : (n : ℕ) (tags gone : List (List ℕ)) (born : List (List Element)) (pieces : List (List Piece)) → HaveLength n tags gone born pieces → length (zip gone (zip born pieces)) ≡ n
with_born n tags gone born pieces have = same_length n gone (zip born pieces) have.of_gone (with_pieces n tags gone born pieces have)

with_gone : (n : ℕ) (tags gone : List (List ℕ)) (born : List (List Element)) (pieces : List (List Piece)) → HaveLength n tags gone born pieces → length (zip tags (zip gone (zip born pieces))) ≡ n
with_gone n tags gone born pieces have = same_length n tags (zip gone (zip born pieces)) have.of_tags (with_born n tags gone born pieces have)

length-of_beside : (firings : List Firing) (tags gone : List (List ℕ)) (born : List (List Element)) (pieces : List (List Piece)) → HaveLength (length firings) tags gone born pieces → length (beside firings tags gone born pieces) ≡ length firings
length-of_beside firings tags gone born pieces have =
    length-map (zip firings (zip tags (zip gone (zip born pieces)))) entry_of ∙ same_length (length firings) firings (zip tags (zip gone (zip born pieces))) refl (with_gone (length firings) tags gone born pieces have)

beside-push : (firings : List Firing) (tags gone : List (List ℕ)) (born : List (List Element)) (pieces : List (List Piece)) (f : Firing) (t g : List ℕ) (b : List Element) (p : List Piece) → HaveLength (length firings) tags gone born pieces → beside (firings ++ f ∷ []) (tags ++ t ∷ []) (gone ++ g ∷ []) (born ++ b ∷ []) (pieces ++ p ∷ []) ≡ beside firings tags gone born pieces ++ entry_of (f, (t, (g, (b, p)))) ∷ []
beside-push firings tags gone born pieces f t g b p have =
    let n = length firings in
    let one = zip-push born pieces b p (have.of_born ∙ sym have.of_pieces) in
    let two = ap (zip (gone ++ g ∷ [])) one ∙ zip-push gone (zip born pieces) g (b, p) (have.of_gone ∙ sym (with_pieces n tags gone born pieces have)) in
    let three = ap (zip (tags ++ t ∷ [])) two ∙ zip-push tags (zip gone (zip born pieces)) t (g, (b, p)) (have.of_tags ∙ sym (with_born n tags gone born pieces have)) in
    let four = ap (zip (firings ++ f ∷ [])) three ∙ zip-push firings (zip tags (zip gone (zip born pieces))) f (t, (g, (b, p))) (sym (with_gone n tags gone born pieces have)) in
    ap (map entry_of) four ∙ map-append entry_of (zip firings (zip tags (zip gone (zip born pieces)))) ((f, (t, (g, (b, p)))) ∷ [])

slice_get-of_beside : (firings : List Firing) (tags gone : List (List ℕ)) (born : List (List Element)) (pieces : List (List Piece)) (at : ℕ) (f : Firing) (t g : List ℕ) (b : List Element) (p : List Piece) → slice_get firings at ≡ Some f → slice_get tags at ≡ Some t → slice_get gone at ≡ Some g → slice_get born at ≡ Some b → slice_get pieces at ≡ Some p → slice_get (beside firings tags gone born pieces) at ≡ Some (entry_of (f, (t, (g, (b, p)))))
slice_get-of_beside firings tags gone born pieces at f t g b p of_f of_t of_g of_b of_p =
    let one = slice_get-zip born pieces at b p of_b of_p in
    let two = slice_get-zip gone (zip born pieces) at g (b, p) of_g one in
    let three = slice_get-zip tags (zip gone (zip born pieces)) at t (g, (b, p)) of_t two in
    slice_get-map entry_of (zip firings (zip tags (zip gone (zip born pieces)))) at ∙ ap (option_map entry_of) (slice_get-zip firings (zip tags (zip gone (zip born pieces))) at f (t, (g, (b, p))) of_f three)

drop-beside : (n : ℕ) (firings : List Firing) (tags gone : List (List ℕ)) (born : List (List Element)) (pieces : List (List Piece)) → drop n (beside firings tags gone born pieces) ≡ beside (drop n firings) (drop n tags) (drop n gone) (drop n born) (drop n pieces)
drop-beside n firings tags gone born pieces =
    let one = drop-zip n born pieces in
    let two = drop-zip n gone (zip born pieces) ∙ ap (zip (drop n gone)) one in
    let three = drop-zip n tags (zip gone (zip born pieces)) ∙ ap (zip (drop n tags)) two in
    let four = drop-zip n firings (zip tags (zip gone (zip born pieces))) ∙ ap (zip (drop n firings)) three in
    drop-map entry_of n (zip firings (zip tags (zip gone (zip born pieces)))) ∙ ap (map entry_of) four

take-beside : (n : ℕ) (firings : List Firing) (tags gone : List (List ℕ)) (born : List (List Element)) (pieces : List (List Piece)) → take n (beside firings tags gone born pieces) ≡ beside (take n firings) (take n tags) (take n gone) (take n born) (take n pieces)
take-beside n firings tags gone born pieces =
    let one = take-zip n born pieces in
    let two = take-zip n gone (zip born pieces) ∙ ap (zip (take n gone)) one in
    let three = take-zip n tags (zip gone (zip born pieces)) ∙ ap (zip (take n tags)) two in
    let four = take-zip n firings (zip tags (zip gone (zip born pieces))) ∙ ap (zip (take n firings)) three in
    take-map entry_of n (zip firings (zip tags (zip gone (zip born pieces)))) ∙ ap (map entry_of) four

-- the pieces of all, and the elements that came in all
pieces_of-beside : (firings : List Firing) (tags gone : List (List ℕ)) (born : List (List Element)) (pieces : List (List Piece)) → HaveLength (length firings) tags gone born pieces → pieces_of (beside firings tags gone born pieces) ≡ flat_map (λ (list : List Piece). list) pieces
pieces_of-beside firings tags gone born pieces have =
    let n = length firings in
    flat_map-map (λ (e : Entry). e.pieces) entry_of (zip firings (zip tags (zip gone (zip born pieces))))
    ∙ flat_map-seconds (λ (q : List ℕ × (List ℕ × (List Element × List Piece))). q.1.1.1) firings (zip tags (zip gone (zip born pieces))) (sym (with_gone n tags gone born pieces have))
    ∙ flat_map-seconds (λ (q : List ℕ × (List Element × List Piece)). q.1.1) tags (zip gone (zip born pieces)) (have.of_tags ∙ sym (with_born n tags gone born pieces have))
    ∙ flat_map-seconds (λ (q : List Element × List Piece). q.1) gone (zip born pieces) (have.of_gone ∙ sym (with_pieces n tags gone born pieces have))
    ∙ flat_map-seconds (λ (list : List Piece). list) born pieces (have.of_born ∙ sym have.of_pieces)

pub born_by-entry : (gone : List ℕ) (born : List Element) → filter_map born_by (map Gone gone ++ map Born born) ≡ born
born_by-entry [] [] = refl
born_by-entry [] (e ∷ born) = ap (λ rest. e ∷ rest) (born_by-entry [] born)
born_by-entry (tag ∷ gone) born = born_by-entry gone born

born_in-beside : (firings : List Firing) (tags gone : List (List ℕ)) (born : List (List Element)) (pieces : List (List Piece)) → HaveLength (length firings) tags gone born pieces → born_in (beside firings tags gone born pieces) ≡ flat_map (λ (list : List Element). list) born
born_in-beside firings tags gone born pieces have =
    let n = length firings in
    flat_map-map (λ (e : Entry). filter_map born_by e.changes) entry_of (zip firings (zip tags (zip gone (zip born pieces))))
    ∙ flat_map-same (λ (q : Parts). filter_map born_by (entry_of q).changes) (λ (q : Parts). q.1.1.1.0) (zip firings (zip tags (zip gone (zip born pieces)))) (λ q. born_by-entry q.1.1.0 q.1.1.1.0)
    ∙ flat_map-seconds (λ (q : List ℕ × (List ℕ × (List Element × List Piece))). q.1.1.0) firings (zip tags (zip gone (zip born pieces))) (sym (with_gone n tags gone born pieces have))
    ∙ flat_map-seconds (λ (q : List ℕ × (List Element × List Piece)). q.1.0) tags (zip gone (zip born pieces)) (have.of_tags ∙ sym (with_born n tags gone born pieces have))
    ∙ flat_map-seconds (λ (q : List Element × List Piece). q.0) gone (zip born pieces) (have.of_gone ∙ sym (with_pieces n tags gone born pieces have))
    ∙ flat_map-firsts (λ (list : List Element). list) born pieces (have.of_born ∙ sym have.of_pieces)

-- where the elements of a firing end doesn't show in its entry
beside-before : (by : ℕ) (firings : List Firing) (rest : List (List ℕ × (List ℕ × (List Element × List Piece)))) → map entry_of (zip (map (firing_before by) firings) rest) ≡ map entry_of (zip firings rest)
beside-before by [] rest = refl
beside-before by (f ∷ firings) [] = refl
beside-before by (f ∷ firings) (q ∷ rest) = ap (λ entries. entry_of (f, q) ∷ entries) (beside-before by firings rest)

-- the same of the arrays, whose elements lie in one list

lengths : (firings : List Firing) (tags gone : List (List ℕ)) (born : List Element) (pieces : List (List Piece)) → length tags ≡ length firings → length gone ≡ length firings → length pieces ≡ length firings → HaveLength (length firings) tags gone (cut (born_ends firings) born) pieces
lengths firings tags gone born pieces of_tags of_gone of_pieces = record {
  of_tags = of_tags;
  of_gone = of_gone;
  of_born = length-cut_from 0 (born_ends firings) born ∙ length-map firings (λ (f : Firing). f.born);
  of_pieces = of_pieces;
}

pub length-entries_of : (firings : List Firing) (tags gone : List (List ℕ)) (born : List Element) (pieces : List (List Piece)) → length tags ≡ length firings → length gone ≡ length firings → length pieces ≡ length firings → length (entries_of firings tags gone born pieces) ≡ length firings
length-entries_of firings tags gone born pieces of_tags of_gone of_pieces = length-of_beside firings tags gone (cut (born_ends firings) born) pieces (lengths firings tags gone born pieces of_tags of_gone of_pieces)

-- a place among the entries is one among the firings
pub within_firings : (firings : List Firing) (tags gone : List (List ℕ)) (born : List Element) (pieces : List (List Piece)) (at : ℕ) → length tags ≡ length firings → length gone ≡ length firings → length pieces ≡ length firings → at ≤ length (entries_of firings tags gone born pieces) → at ≤ length firings
within_firings firings tags gone born pieces at of_tags of_gone of_pieces within = subst (λ n. at ≤ n) (length-entries_of firings tags gone born pieces of_tags of_gone of_pieces) within

-- one entry more
pub entries_of-push : (firings : List Firing) (tags gone : List (List ℕ)) (born : List Element) (pieces : List (List Piece)) (f : Firing) (t g : List ℕ) (b : List Element) (p : List Piece) → length tags ≡ length firings → length gone ≡ length firings → length pieces ≡ length firings → RiseTo 0 (born_ends firings) (length born) → f.born ≡ length born + length b → entries_of (firings ++ f ∷ []) (tags ++ t ∷ []) (gone ++ g ∷ []) (born ++ b) (pieces ++ p ∷ []) ≡ entries_of firings tags gone born pieces ++ entry_of (f, (t, (g, (b, p)))) ∷ []
entries_of-push firings tags gone born pieces f t g b p of_tags of_gone of_pieces rise end =
    let lists = cut (born_ends firings) born in
    let ends : born_ends (firings ++ f ∷ []) ≡ born_ends firings ++ f.born ∷ [] = map-append (λ (x : Firing). x.born) firings (f ∷ []) in
    let of_born : cut (born_ends (firings ++ f ∷ [])) (born ++ b) ≡ lists ++ b ∷ [] = ap (λ es. cut es (born ++ b)) ends ∙ cut-push (born_ends firings) born b f.born rise end in
    ap (λ bs. beside (firings ++ f ∷ []) (tags ++ t ∷ []) (gone ++ g ∷ []) bs (pieces ++ p ∷ [])) of_born
    ∙ beside-push firings tags gone lists pieces f t g b p (lengths firings tags gone born pieces of_tags of_gone of_pieces)

-- where the elements of a firing end, and that this is behind where they begin
slice_index-born_ends : (firings : List Firing) (at : ℕ) (f : Firing) → slice_get firings at ≡ Some f → slice_index (born_ends firings) at ≡ f.born
slice_index-born_ends [] at f is = absurd (let wrong : ⊥ = cc in wrong)
slice_index-born_ends (g ∷ firings) zero f is = let same : g ≡ f = cc in ap (λ (x : Firing). x.born) same
slice_index-born_ends (g ∷ firings) (suc at) f is = slice_index-born_ends firings at f is

within_ends : (firings : List Firing) (at : ℕ) (f : Firing) → slice_get firings at ≡ Some f → at < length (born_ends firings)
within_ends firings at f is = subst (λ n. at < n) (sym (length-map firings (λ (x : Firing). x.born))) (slice_get_within firings at f is)

pub born_ends-rise : (firings : List Firing) (last at from : ℕ) (f : Firing) → RiseTo 0 (born_ends firings) last → slice_get firings at ≡ Some f → from ≡ slice_index (0 ∷ born_ends firings) at → from ≤ f.born
born_ends-rise firings last at from f rise is begin =
    omega (arith, (RiseTo-at 0 (born_ends firings) last at rise (within_ends firings at f is)).0, begin, slice_index-born_ends firings at f is)

-- an entry as a view shows it, whose elements lie between two places
pub slice_get-entry : (firings : List Firing) (tags gone : List (List ℕ)) (born : List Element) (pieces : List (List Piece)) (at from : ℕ) (f : Firing) (t g : List ℕ) (p : List Piece) → slice_get firings at ≡ Some f → slice_get tags at ≡ Some t → slice_get gone at ≡ Some g → slice_get pieces at ≡ Some p → from ≡ slice_index (0 ∷ born_ends firings) at → slice_get (entries_of firings tags gone born pieces) at ≡ Some (entry_with f.rule t g (take (f.born - from) (drop from born)) p f.halts)
slice_get-entry firings tags gone born pieces at from f t g p of_f of_t of_g of_p begin =
    let of_b : slice_get (cut (born_ends firings) born) at ≡ Some (slice_range born from f.born) =
    slice_get-cut_from 0 (born_ends firings) born at (within_ends firings at f of_f)
    ∙ ap (λ n. Some (slice_range born n (slice_index (born_ends firings) at))) (sym begin)
    ∙ ap (λ n. Some (slice_range born from n)) (slice_index-born_ends firings at f of_f) in
    slice_get-of_beside firings tags gone (cut (born_ends firings) born) pieces at f t g (slice_range born from f.born) p of_f of_t of_g of_b of_p

pub pieces_of-entries_of : (firings : List Firing) (tags gone : List (List ℕ)) (born : List Element) (pieces : List (List Piece)) → length tags ≡ length firings → length gone ≡ length firings → length pieces ≡ length firings → pieces_of (entries_of firings tags gone born pieces) ≡ flat_map (λ (list : List Piece). list) pieces
pieces_of-entries_of firings tags gone born pieces of_tags of_gone of_pieces = pieces_of-beside firings tags gone (cut (born_ends firings) born) pieces (lengths firings tags gone born pieces of_tags of_gone of_pieces)

pub born_in-entries_of : (firings : List Firing) (tags gone : List (List ℕ)) (born : List Element) (pieces : List (List Piece)) → length tags ≡ length firings → length gone ≡ length firings → length pieces ≡ length firings → RiseTo 0 (born_ends firings) (length born) → born_in (entries_of firings tags gone born pieces) ≡ born
born_in-entries_of firings tags gone born pieces of_tags of_gone of_pieces rise =
    born_in-beside firings tags gone (cut (born_ends firings) born) pieces (lengths firings tags gone born pieces of_tags of_gone of_pieces) ∙ flat_map-cut (born_ends firings) born rise

-- the elements that came behind a place lie behind where they begin
pub born_in-drop : (n : ℕ) (firings : List Firing) (tags gone : List (List ℕ)) (born : List Element) (pieces : List (List Piece)) → length tags ≡ length firings → length gone ≡ length firings → length pieces ≡ length firings → RiseTo 0 (born_ends firings) (length born) → n ≤ length firings → born_in (drop n (entries_of firings tags gone born pieces)) ≡ drop (slice_index (0 ∷ born_ends firings) n) born
born_in-drop n firings tags gone born pieces of_tags of_gone of_pieces rise within =
    let ends = born_ends firings in
    let lists = cut ends born in
    let begin = slice_index (0 ∷ ends) n in
    let have = lengths firings tags gone born pieces of_tags of_gone of_pieces in
    let there : n ≤ length ends = omega (arith, within, length-map firings (λ (f : Firing). f.born)) in
    ap born_in (drop-beside n firings tags gone lists pieces)
    ∙ born_in-beside (drop n firings) (drop n tags) (drop n gone) (drop n lists) (drop n pieces) (record {
      of_tags = omega (arith, length-drop n tags, length-drop n firings, have.of_tags);
      of_gone = omega (arith, length-drop n gone, length-drop n firings, have.of_gone);
      of_born = omega (arith, length-drop n lists, length-drop n firings, have.of_born);
      of_pieces = omega (arith, length-drop n pieces, length-drop n firings, have.of_pieces);
    })
    ∙ ap (flat_map (λ (list : List Element). list)) (sym (cut_from-drop 0 ends born n there))
    ∙ flat_map-cut_from begin (drop n ends) (length born) born (RiseTo-drop 0 ends (length born) n rise there)
    ∙ take_rest born begin

-- the firings of a range, and where their elements end
born_ends-before : (by : ℕ) (firings : List Firing) → born_ends (map (firing_before by) firings) ≡ places_before by (born_ends firings)
born_ends-before by [] = refl
born_ends-before by (f ∷ firings) = ap (λ ends. (f.born - by) ∷ ends) (born_ends-before by firings)

born_ends-range : (by : ℕ) (firings : List Firing) (m n : ℕ) → born_ends (map (firing_before by) (take n (drop m firings))) ≡ places_before by (take n (drop m (born_ends firings)))
born_ends-range by firings m n =
    born_ends-before by (take n (drop m firings))
    ∙ ap (places_before by) (sym (take-map (λ (f : Firing). f.born) n (drop m firings)) ∙ ap (take n) (sym (drop-map (λ (f : Firing). f.born) m firings)))

pub RiseTo-entries : (firings : List Firing) (last m n : ℕ) → RiseTo 0 (born_ends firings) last → m + n ≤ length firings → RiseTo 0 (born_ends (map (firing_before (slice_index (0 ∷ born_ends firings) m)) (take n (drop m firings)))) (slice_index (0 ∷ born_ends firings) (m + n) - slice_index (0 ∷ born_ends firings) m)
RiseTo-entries firings last m n rise within =
    let begin = slice_index (0 ∷ born_ends firings) m in
    let end = slice_index (0 ∷ born_ends firings) (m + n) in
    subst (λ ends. RiseTo 0 ends (end - begin)) (sym (born_ends-range begin firings m n))
    (RiseTo-range (born_ends firings) last m n rise (omega (arith, within, length-map firings (λ (f : Firing). f.born))))

pub entries_of-range : (firings : List Firing) (tags gone : List (List ℕ)) (born : List Element) (pieces : List (List Piece)) (m n : ℕ) → RiseTo 0 (born_ends firings) (length born) → m + n ≤ length firings → entries_of (map (firing_before (slice_index (0 ∷ born_ends firings) m)) (take n (drop m firings))) (take n (drop m tags)) (take n (drop m gone)) (slice_range born (slice_index (0 ∷ born_ends firings) m) (slice_index (0 ∷ born_ends firings) (m + n))) (take n (drop m pieces)) ≡ take n (drop m (entries_of firings tags gone born pieces))
entries_of-range firings tags gone born pieces m n rise within =
    let begin = slice_index (0 ∷ born_ends firings) m in
    let end = slice_index (0 ∷ born_ends firings) (m + n) in
    let lists = cut (born_ends firings) born in
    let some = map (firing_before begin) (take n (drop m firings)) in
    let of_born : cut (born_ends some) (slice_range born begin end) ≡ take n (drop m lists) =
    ap (λ ends. cut ends (slice_range born begin end)) (born_ends-range begin firings m n)
    ∙ cut-range (born_ends firings) born m n rise (omega (arith, within, length-map firings (λ (f : Firing). f.born))) in
    ap (λ bs. beside some (take n (drop m tags)) (take n (drop m gone)) bs (take n (drop m pieces))) of_born
    ∙ beside-before begin (take n (drop m firings)) (zip (take n (drop m tags)) (zip (take n (drop m gone)) (zip (take n (drop m lists)) (take n (drop m pieces)))))
    ∙ sym (ap (take n) (drop-beside m firings tags gone lists pieces) ∙ take-beside n (drop m firings) (drop m tags) (drop m gone) (drop m lists) (drop m pieces))
