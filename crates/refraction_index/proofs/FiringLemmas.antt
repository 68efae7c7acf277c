-- When choices last fired, once one more has.
use Rattle.std.proofs.Common.{◌≡◌, ◌+◌, ◌<◌, ℕ, List, [], ◌∷◌, ◌++◌, Bool, true, false, cond, Option, None, Some, arith, length, slice_get, subst, take, refl, ap, sym, ◌∙◌}
use Rattle.std.specs.List.{list_any}
use Rattle.std.specs.Option.{option_or}
use Rattle.std.proofs.Math.Seq.{length-take-le}
use Rattle.std.proofs.lemmas.List.{take_more}
use Rattle.std.proofs.lemmas.Option.{get_or_from_slice_get, slice_get_within}
use Rattle.rule_base.specs.Chains.{only_if}
use Rattle.rule_base.specs.State.{same_choice}
use Rattle.rule_base.specs.declared.entry.Entry.{Entry}
use Rattle.rule_base.specs.declared.instantiation.Choice.{Choice}
use Rattle.refraction_index.specs.Firings.{Index, Tells, fired_at, last_from, place_of}

-- what wins over all else wins over what is asked last
over : (b : Bool) (m n : ℕ) (found less : Option ℕ) → m ≡ n → option_or (cond b (Some m) found) less ≡ cond b (Some n) (option_or found less)
over true m n found less same = ap (λ (k : ℕ). Some k) same
over false m n found less same = refl

-- where nothing else is told
only_last : (b : Bool) (m n : ℕ) → m ≡ n → option_or None (only_if b m) ≡ cond b (Some n) None
only_last true m n same = ap (λ (k : ℕ). Some k) same
only_last false m n same = refl

-- one entry more, behind so many
last_from-push : (count : ℕ) (entries : List Entry) (e : Entry) (c : Choice) → last_from count (entries ++ e ∷ []) c ≡ cond (same_choice c e.choice) (Some (count + length entries + 1)) (last_from count entries c)
last_from-push count [] e c = only_last (same_choice c e.choice) (count + 1) (count + 0 + 1) (omega arith)
last_from-push count (x ∷ entries) e c =
    ap (λ found. option_or found (only_if (same_choice c x.choice) (count + 1))) (last_from-push (count + 1) entries e c)
    ∙ over (same_choice c e.choice) (count + 1 + length entries + 1) (count + length (x ∷ entries) + 1) (last_from (count + 1) entries c) (only_if (same_choice c x.choice) (count + 1)) (omega arith)

-- one entry more in the journal
pub fired_at-push : (before : List Choice) (entries : List Entry) (e : Entry) (c : Choice) → fired_at before (entries ++ e ∷ []) c ≡ cond (same_choice c e.choice) (Some (length entries + 1)) (fired_at before entries c)
fired_at-push before entries e c =
    ap (λ found. option_or found (only_if (list_any (same_choice c) before) 0)) (last_from-push 0 entries e c)
    ∙ over (same_choice c e.choice) (0 + length entries + 1) (length entries + 1) (last_from 0 entries c) (only_if (list_any (same_choice c) before) 0) (omega arith)

-- an index that gives the entry's choice the new number tells of one entry more
tells-push : (before : List Choice) (entries : List Entry) (e : Entry) (index after : Index) (count : ℕ) → length entries ≡ count → Tells before entries index → ((c : Choice) → place_of after c ≡ cond (same_choice c e.choice) (Some (count + 1)) (place_of index c)) → Tells before (entries ++ e ∷ []) after
tells-push before entries e index after count long tells now c =
    now c
    ∙ ap (λ n. cond (same_choice c e.choice) (Some (n + 1)) (place_of index c)) (sym long)
    ∙ ap (cond (same_choice c e.choice) (Some (length entries + 1))) (tells c)
    ∙ sym (fired_at-push before entries e c)

-- the same, where the entry is the next one of a journal
pub tells-next : (before : List Choice) (entries : List Entry) (place : ℕ) (e : Entry) (index after : Index) → slice_get entries place ≡ Some e → Tells before (take place entries) index → ((c : Choice) → place_of after c ≡ cond (same_choice c e.choice) (Some (place + 1)) (place_of index c)) → Tells before (take (place + 1) entries) after
tells-next before entries place e index after at tells now =
    let within : place < length entries = slice_get_within entries place e at in
    let longer : take (place + 1) entries ≡ take place entries ++ e ∷ [] = take_more entries place e within ∙ ap (λ next. take place entries ++ next ∷ []) (get_or_from_slice_get entries place e e at) in
    subst (λ seen. Tells before seen after) (sym longer)
    (tells-push before (take place entries) e index after place (length-take-le place entries (omega (arith, within))) tells now)
