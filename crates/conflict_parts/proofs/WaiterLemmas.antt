-- Those who wait at places, by their numbers.
use Rattle.std.proofs.Common.{◌≡◌, ℕ, ◌<◌, ◌==◌, List, [], ◌∷◌, ◌++◌, Bool, true, false, cond, filter, length, map, reverse, zero, suc, refl, ap, arith, subst, sym, ◌∙◌}
use Rattle.std.specs.List.{AllByRecursion}
use Rattle.std.proofs.lemmas.List.{map-append, reverse-append}
use Rattle.hash_buckets.specs.Buckets.{numbers_of}
use Rattle.match_network.proofs.SoFarLemmas.{Each-bucket}
use Rattle.conflict_parts.specs.declared.standing.RowId.{RowId}
use Rattle.conflict_parts.specs.Waiters.{AreWithin, id_at, waiters_at, waiters_of}

-- the full match with a number stays, and the last one has the next
id_at-more : (ids : List RowId) (number : ℕ) (more : List RowId) → number < length ids → id_at (ids ++ more) number ≡ id_at ids number
id_at-more [] number more lt = absurd (omega (arith, lt))
id_at-more (id ∷ ids) zero more lt = refl
id_at-more (id ∷ ids) (suc number) more lt = id_at-more ids number more (omega (arith, lt))

id_at-last : (ids : List RowId) (id : RowId) → id_at (ids ++ id ∷ []) (length ids) ≡ id
id_at-last [] id = refl
id_at-last (first ∷ ids) id = id_at-last ids id

waiters_of-more : (ids : List RowId) (more : List RowId) (entries : List (ℕ × ℕ)) → AreWithin ids entries → waiters_of (ids ++ more) entries ≡ waiters_of ids entries
waiters_of-more ids more [] within = refl
waiters_of-more ids more (e ∷ entries) within =
    ap (λ (id : RowId). (e.0, id) ∷ waiters_of (ids ++ more) entries) (id_at-more ids e.1 more within.0)
    ∙ ap (λ (ws : List (ℕ × RowId)). (e.0, id_at ids e.1) ∷ ws) (waiters_of-more ids more entries within.1)

-- one more waits
pub waiters_of-push : (ids : List RowId) (entries : List (ℕ × ℕ)) (place : ℕ) (id : RowId) → AreWithin ids entries → waiters_of (ids ++ id ∷ []) (entries ++ (place, length ids) ∷ []) ≡ waiters_of ids entries ++ (place, id) ∷ []
waiters_of-push ids entries place id within =
    map-append (λ (e : ℕ × ℕ). (e.0, id_at (ids ++ id ∷ []) e.1)) entries ((place, length ids) ∷ [])
    ∙ ap (λ (ws : List (ℕ × RowId)). ws ++ (place, id_at (ids ++ id ∷ []) (length ids)) ∷ []) (waiters_of-more ids (id ∷ []) entries within)
    ∙ ap (λ (last : RowId). waiters_of ids entries ++ (place, last) ∷ []) (id_at-last ids id)

-- those at one place are those of the bucket
waiters_at-step : (here : Bool) (ids : List RowId) (ws : List (ℕ × RowId)) (es : List (ℕ × ℕ)) (w : ℕ × RowId) (e : ℕ × ℕ) → w.1 ≡ id_at ids e.1 → map (λ (v : ℕ × RowId). v.1) ws ≡ map (id_at ids) (map (λ (f : ℕ × ℕ). f.1) es) → map (λ (v : ℕ × RowId). v.1) (cond here (w ∷ ws) ws) ≡ map (id_at ids) (map (λ (f : ℕ × ℕ). f.1) (cond here (e ∷ es) es))
waiters_at-step true ids ws es w e same rest = ap (λ (x : RowId). x ∷ map (λ (v : ℕ × RowId). v.1) ws) same ∙ ap (λ (xs : List RowId). id_at ids e.1 ∷ xs) rest
waiters_at-step false ids ws es w e same rest = rest

pub waiters_at-of : (ids : List RowId) (entries : List (ℕ × ℕ)) (place : ℕ) → waiters_at (waiters_of ids entries) place ≡ map (id_at ids) (numbers_of entries place)
waiters_at-of ids [] place = refl
waiters_at-of ids (e ∷ entries) place =
    waiters_at-step (e.0 == place) ids (filter (λ (w : ℕ × RowId). w.0 == place) (waiters_of ids entries)) (filter (λ (f : ℕ × ℕ). f.0 == place) entries) (e.0, id_at ids e.1) e refl (waiters_at-of ids entries place)

map-reverse : {X Y : Type 0} (f : X → Y) (xs : List X) → map f (reverse xs) ≡ reverse (map f xs)
map-reverse f [] = refl
map-reverse f (x ∷ xs) =
    ap (map f) (reverse-append (x ∷ []) xs) ∙ map-append f (reverse xs) (x ∷ [])
    ∙ ap (λ ys. ys ++ f x ∷ []) (map-reverse f xs) ∙ sym (reverse-append (f x ∷ []) (map f xs))

pub waiters_at-bucket : (ids : List RowId) (entries : List (ℕ × ℕ)) (place : ℕ) → map (id_at ids) (reverse (numbers_of entries place)) ≡ reverse (waiters_at (waiters_of ids entries) place)
waiters_at-bucket ids entries place = map-reverse (id_at ids) (numbers_of entries place) ∙ ap reverse (sym (waiters_at-of ids entries place))

-- a walk along a bucket begins
pub walk_within : (given ids : List RowId) (entries : List (ℕ × ℕ)) (place : ℕ) (numbers : List ℕ) → given ≡ ids → numbers ≡ reverse (numbers_of entries place) → AreWithin ids entries → AllByRecursion (λ (number : ℕ). number < length given) numbers
walk_within given ids entries place numbers same bucket within =
    subst (λ (ns : List ℕ). AllByRecursion (λ (number : ℕ). number < length given) ns) (sym bucket)
    (subst (λ (xs : List RowId). AllByRecursion (λ (number : ℕ). number < length xs) (reverse (numbers_of entries place))) (sym same)
    (Each-bucket (λ number. number < length ids) entries place within))

pub walk_whole : (given ids : List RowId) (entries : List (ℕ × ℕ)) (place : ℕ) (numbers : List ℕ) → given ≡ ids → numbers ≡ reverse (numbers_of entries place) → map (id_at given) numbers ≡ reverse (waiters_at (waiters_of ids entries) place)
walk_whole given ids entries place numbers same bucket =
    ap (λ (ns : List ℕ). map (id_at given) ns) bucket ∙ ap (λ (xs : List RowId). map (id_at xs) (reverse (numbers_of entries place))) same ∙ waiters_at-bucket ids entries place
