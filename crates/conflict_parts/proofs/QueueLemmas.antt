-- Who stands open and is in the queue, after one change more.
use Rattle.std.proofs.Common.{◌≡◌, ◌≢◌, ◌⊎◌, inl, inr, ℕ, ◌+◌, ◌-◌, ◌<◌, ◌==◌, List, [], ◌∷◌, ◌++◌, Bool, true, false, Option, None, Some, Result, Ok, Err, length, reverse, slice_get, slice_index_or, take, zero, suc, refl, ap, arith, subst, sym, ◌∙◌}
use Rattle.std.specs.List.{list_any}
use Rattle.std.specs.Result.{OnErr, OnOk}
use Rattle.std.specs.Option.{option_map, option_map_or}
use Rattle.std.proofs.lemmas.Bool.{and_from, and_parts, cases_Bool, eq-eqb, eqb-true, or_cases, or_left, or_right}
use Rattle.std.proofs.lemmas.List.Folds.{list_any-append}
use Rattle.std.proofs.lemmas.List.{reverse-append}
use Rattle.std.proofs.lemmas.Option.{slice_get_within}
use Rattle.match_network.proofs.ComeLemmas.{some_at}
use Rattle.conflict_parts.specs.declared.standing.RowId.{RowId}
use Rattle.conflict_parts.specs.declared.standing.Standing.{Standing}
use Rattle.conflict_parts.specs.declared.standing.Standing.TheVariants.{Open, Waiting}
use Rattle.conflict_parts.specs.Queue.{IsOpened, has_waiter, is_queued, same_row}
use Rattle.conflict_parts.specs.Waiters.{waiters_at}
use Rattle.conflict_parts.specs.Standings.{has_fired, is_marked, standing_at, with_set, with_standing}
use Rattle.conflict_parts.proofs.StandingLemmas.{length-with_set, length-with_standing, standing_at-past_row, with_set-other, with_set-same, with_standing-last, with_standing-other}

-- the numbers of one full match
pub same_row-is : (rule row : ℕ) (id : RowId) → same_row rule row id ≡ true → (id.rule ≡ rule) × (id.row ≡ row)
same_row-is rule row id same =
    let both = and_parts (id.rule == rule) (id.row == row) same in
    (eqb-true id.rule rule both.0, eqb-true id.row row both.1)

pub same_row-here : (id : RowId) → same_row id.rule id.row id ≡ true
same_row-here id = and_from (id.rule == id.rule) (id.row == id.row) (eq-eqb id.rule id.rule refl) (eq-eqb id.row id.row refl)

-- the queue with one more
pub queued-more : (queue more : List RowId) (rule row : ℕ) → is_queued queue rule row ≡ true → is_queued (queue ++ more) rule row ≡ true
queued-more queue more rule row is = list_any-append (same_row rule row) queue more ∙ or_left (list_any (same_row rule row) queue) (list_any (same_row rule row) more) is

pub queued-last : (queue : List RowId) (id : RowId) (rule row : ℕ) → same_row rule row id ≡ true → is_queued (queue ++ id ∷ []) rule row ≡ true
queued-last queue id rule row same =
    list_any-append (same_row rule row) queue (id ∷ []) ∙ or_right (list_any (same_row rule row) queue) (list_any (same_row rule row) (id ∷ [])) (or_left (same_row rule row id) false same)

-- and without its last one
pub queued-before : (queue : List RowId) (id : RowId) (rule row : ℕ) → is_queued (queue ++ id ∷ []) rule row ≡ true → (is_queued queue rule row ≡ true) ⊎ (same_row rule row id ≡ true)
queued-before queue id rule row is =
    elim (or_cases (is_queued queue rule row) (list_any (same_row rule row) (id ∷ [])) (sym (list_any-append (same_row rule row) queue (id ∷ [])) ∙ is)) [
      | inl here ↦ inl here
      | inr last ↦ inr (elim (or_cases (same_row rule row id) false last) [ inl same ↦ same | inr wrong ↦ absurd (let no : ⊥ = cc in no) ])
    ]

-- nothing has changed
pub opened_none : (ss : List (List Standing)) (queue : List RowId) → IsOpened ss queue ss queue
opened_none ss queue = record { count = refl; each = λ rule row. inl refl; queued = λ rule row is. is }

pub opened_queued : (ss : List (List Standing)) (queue more : List RowId) → IsOpened ss queue ss (queue ++ more)
opened_queued ss queue more = record { count = refl; each = λ rule row. inl refl; queued = λ rule row is. queued-more queue more rule row is }

-- one change after another
marked-as : (old new : List (List Standing)) (rule row : ℕ) → standing_at new rule row ≡ standing_at old rule row → is_marked new rule row ≡ is_marked old rule row
marked-as old new rule row same = ap (λ (o : Option Standing). option_map_or has_fired o false) same

pub opened_marks : (old new : List (List Standing)) (before queue : List RowId) → IsOpened old before new queue → (rule row : ℕ) → is_marked new rule row ≡ is_marked old rule row
opened_marks old new before queue opened rule row =
    elim (opened.each rule row) [
      | inl same ↦ marked-as old new rule row same
      | inr now ↦ ap (λ (o : Option Standing). option_map_or has_fired o false) now.stands ∙ sym now.unmarked
    ]

pub opened_both : (old mid new : List (List Standing)) (before between queue : List RowId) → IsOpened old before mid between → IsOpened mid between new queue → IsOpened old before new queue
opened_both old mid new before between queue first second = record {
  count = second.count ∙ first.count;
  each = λ rule row.
      elim (second.each rule row) [
        | inl same ↦
            elim (first.each rule row) [
              | inl was ↦ inl (same ∙ was)
              | inr now ↦ inr (record { unmarked = now.unmarked; stands = same ∙ now.stands; queued = second.queued rule row now.queued })
            ]
        | inr now ↦ inr (record { unmarked = sym (opened_marks old mid before between first rule row) ∙ now.unmarked; stands = now.stands; queued = now.queued })
      ];
  queued = λ rule row is. second.queued rule row (first.queued rule row is);
}

-- one full match more
pub opened_one : (ss : List (List Standing)) (queue : List RowId) (rule : ℕ) (id : RowId) → rule < length ss → id.rule ≡ rule → id.row ≡ length (slice_index_or ss rule []) → IsOpened ss queue (with_standing ss rule Open) (queue ++ id ∷ [])
opened_one ss queue rule id lt rule_is row_is = record {
  count = length-with_standing ss rule Open;
  each = λ other number.
      elim (cases_Bool (same_row other number id)) [
        | inl same ↦
            let is = same_row-is other number id same in
            let rule_same : rule ≡ other = sym rule_is ∙ is.0 in
            let row_same : length (slice_index_or ss rule []) ≡ number = sym row_is ∙ is.1 in
            inr (record {
              unmarked = subst (λ r. is_marked ss r number ≡ false) rule_same (subst (λ n. is_marked ss rule n ≡ false) row_same
                  (ap (λ (o : Option Standing). option_map_or has_fired o false) (standing_at-past_row ss rule (length (slice_index_or ss rule [])) (omega arith))));
              stands = subst (λ r. standing_at (with_standing ss rule Open) r number ≡ Some Open) rule_same (subst (λ n. standing_at (with_standing ss rule Open) rule n ≡ Some Open) row_same (with_standing-last ss rule Open lt));
              queued = queued-last queue id other number same;
            })
        | inr differs ↦
            inl (with_standing-other ss rule Open other number lt (λ rule_same row_same.
            let here = and_from (id.rule == other) (id.row == number) (eq-eqb id.rule other (rule_is ∙ rule_same)) (eq-eqb id.row number (row_is ∙ sym row_same)) in
            absurd (let wrong : ⊥ = cc in wrong)))
      ];
  queued = λ other number is. queued-more queue (id ∷ []) other number is;
}

-- it is in the queue also where memory ran out after that
pub opened_either : {E : Type 0} (r : Result (Unit {0}) E) (old new : List (List Standing)) (before queue : List RowId) (rule : ℕ) (id : RowId) → rule < length old → id.rule ≡ rule → id.row ≡ length (slice_index_or old rule []) → queue ≡ before ++ id ∷ [] → OnOk r (new ≡ with_standing old rule Open) → OnErr r (new ≡ old) → IsOpened old before new queue
opened_either (Ok x) old new before queue rule id lt rule_is row_is pushed ok err =
    subst (λ (q : List RowId). IsOpened old before new q) (sym pushed) (subst (λ (ss : List (List Standing)). IsOpened old before ss (before ++ id ∷ [])) (sym ok) (opened_one old before rule id lt rule_is row_is))
opened_either (Err e) old new before queue rule id lt rule_is row_is pushed ok err =
    subst (λ (q : List RowId). IsOpened old before new q) (sym pushed) (subst (λ (ss : List (List Standing)). IsOpened old before ss (before ++ id ∷ [])) (sym err) (opened_queued old before (id ∷ [])))

-- one that waits is woken
pub opened_woken : (ss : List (List Standing)) (queue : List RowId) (id : RowId) (place : ℕ) → standing_at ss id.rule id.row ≡ Some (Waiting place) → IsOpened ss queue (with_set ss id.rule id.row Open) (queue ++ id ∷ [])
opened_woken ss queue id place waits = record {
  count = length-with_set ss id.rule id.row Open;
  each = λ other number.
      elim (cases_Bool (same_row other number id)) [
        | inl same ↦
            let is = same_row-is other number id same in
            inr (record {
              unmarked = subst (λ r. is_marked ss r number ≡ false) is.0 (subst (λ n. is_marked ss id.rule n ≡ false) is.1 (ap (λ (o : Option Standing). option_map_or has_fired o false) waits));
              stands = subst (λ r. standing_at (with_set ss id.rule id.row Open) r number ≡ Some Open) is.0 (subst (λ n. standing_at (with_set ss id.rule id.row Open) id.rule n ≡ Some Open) is.1
                  (with_set-same ss id.rule id.row Open ∙ ap (option_map (λ (y : Standing). Open)) waits));
              queued = queued-last queue id other number same;
            })
        | inr differs ↦
            inl (with_set-other ss id.rule id.row Open other number (λ rule_same row_same.
            let here = and_from (id.rule == other) (id.row == number) (eq-eqb id.rule other rule_same) (eq-eqb id.row number row_same) in
            absurd (let wrong : ⊥ = cc in wrong)))
      ];
  queued = λ other number is. queued-more queue (id ∷ []) other number is;
}

pub woken-now : (ss : List (List Standing)) (id : RowId) (place : ℕ) → standing_at ss id.rule id.row ≡ Some (Waiting place) → standing_at (with_set ss id.rule id.row Open) id.rule id.row ≢ Some (Waiting place)
woken-now ss id place waits wrong =
    let now : standing_at (with_set ss id.rule id.row Open) id.rule id.row ≡ Some Open = with_set-same ss id.rule id.row Open ∙ ap (option_map (λ (y : Standing). Open)) waits in
    let clash : Some Open ≡ Some (Waiting place) = sym now ∙ wrong in
    cc

-- those who are left of a walk
pub any-reverse : {X : Type 0} (p : X → Bool) (xs : List X) → list_any p xs ≡ true → list_any p (reverse xs) ≡ true
any-reverse p [] is = is
any-reverse p (x ∷ xs) is =
    ap (list_any p) (reverse-append (x ∷ []) xs) ∙ list_any-append p (reverse xs) (x ∷ [])
    ∙ elim (or_cases (p x) (list_any p xs) is) [
      | inl here ↦ or_right (list_any p (reverse xs)) (list_any p (x ∷ [])) (or_left (p x) false here)
      | inr later ↦ or_left (list_any p (reverse xs)) (list_any p (x ∷ [])) (any-reverse p xs later)
    ]

-- those who still wait at the place are left of the walk
pub record AreLeft (place : ℕ) (all : List RowId) (ss : List (List Standing)) (left : List RowId) : Type 0 where
  pub each : (rule row : ℕ) → is_queued all rule row ≡ true → standing_at ss rule row ≡ Some (Waiting place) → is_queued left rule row ≡ true

pub AreLeft-next : (place : ℕ) (all : List RowId) (old new : List (List Standing)) (before queue : List RowId) (id : RowId) (left : List RowId) → AreLeft place all old (id ∷ left) → IsOpened old before new queue → standing_at new id.rule id.row ≢ Some (Waiting place) → AreLeft place all new left
AreLeft-next place all old new before queue id left was opened gone = record {
  each = λ rule row among waits.
      elim (opened.each rule row) [
        | inl same ↦
            elim (or_cases (same_row rule row id) (is_queued left rule row) (was.each rule row among (sym same ∙ waits))) [
              | inl here ↦
                  let is = same_row-is rule row id here in
                  absurd (gone (subst (λ r. standing_at new r id.row ≡ Some (Waiting place)) (sym is.0) (subst (λ n. standing_at new rule n ≡ Some (Waiting place)) (sym is.1) waits)))
              | inr later ↦ later
            ]
        | inr now ↦ absurd (let clash : Some Open ≡ Some (Waiting place) = sym now.stands ∙ waits in let wrong : ⊥ = cc in wrong)
      ];
}

pub AreLeft-none : (place : ℕ) (waiters : List (ℕ × RowId)) (ss : List (List Standing)) (left : List RowId) → left ≡ [] → AreLeft place (reverse (waiters_at waiters place)) ss left → (rule row : ℕ) → has_waiter waiters place rule row ≡ true → standing_at ss rule row ≢ Some (Waiting place)
AreLeft-none place waiters ss left none held rule row waits at =
    let still = held.each rule row (any-reverse (same_row rule row) (waiters_at waiters place) waits) at in
    let wrong : false ≡ true = ap (λ (queue : List RowId). is_queued queue rule row) (sym none) ∙ still in
    cc

-- the last of the queue, and those before it
ends_at : (queue : List RowId) (n : ℕ) (last : RowId) → length queue ≡ n + 1 → slice_get queue n ≡ Some last → queue ≡ take n queue ++ last ∷ []
ends_at [] n last long at = absurd (omega (arith, long))
ends_at (id ∷ []) zero last long at = let same : id ≡ last = cc in ap (λ (x : RowId). x ∷ []) same
ends_at (id ∷ other ∷ queue) zero last long at = absurd (omega (arith, long))
ends_at (id ∷ queue) (suc n) last long at = ap (λ (ids : List RowId). id ∷ ids) (ends_at queue n last (omega (arith, long)) at)

pub ends_with : (queue before : List RowId) (count : ℕ) (last : RowId) → count ≡ length queue → before ≡ take (count - 1) queue → slice_get queue (length queue - 1) ≡ Some last → queue ≡ before ++ last ∷ []
ends_with queue before count last count_is before_is at =
    let within = slice_get_within queue (length queue - 1) last at in
    ends_at queue (length queue - 1) last (omega (arith, within)) at
    ∙ ap (λ (ids : List RowId). ids ++ last ∷ []) (ap (λ n. take (n - 1) queue) (sym count_is) ∙ sym before_is)

pub ends_nowhere : (queue : List RowId) → slice_get queue (length queue - 1) ≡ None → queue ≡ []
ends_nowhere [] at = refl
ends_nowhere (id ∷ queue) at =
    let found = some_at (id ∷ queue) (length (id ∷ queue) - 1) (omega arith) in
    let both : None ≡ Some found.item = sym at ∙ found.is in
    absurd (let wrong : ⊥ = cc in wrong)
