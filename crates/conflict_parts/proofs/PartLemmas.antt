-- What is kept of full matches goes with the network, after each change.
use Rattle.std.proofs.Common.{◌≡◌, ◌≢◌, ◌⊎◌, inl, inr, ℕ, ◌<◌, ◌==◌, ◌||◌, List, [], ◌∷◌, ◌++◌, Bool, true, false, cond, not, replicate, Option, None, Some, filter, length, map, option_map, slice_get, slice_index_or, refl, ap, arith, subst, sym, ◌∙◌}
use Rattle.std.specs.List.{list_any}
use Rattle.std.specs.Option.{option_map_or}
use Rattle.std.proofs.lemmas.Bool.{and_from, cases_Bool, cases_lt, eq-eqb, not_from_false, or_left, or_right}
use Rattle.std.proofs.lemmas.List.{get_or-replicate, get_or_past, length-replicate, map-append}
use Rattle.std.proofs.lemmas.List.Elements.{filter-append}
use Rattle.std.proofs.lemmas.List.Folds.{list_any-append}
use Rattle.std.proofs.lemmas.Option.{slice_get_within}
use Rattle.rule_base.specs.declared.element.Element.{Element}
use Rattle.rule_base.specs.Numbers.{has_number}
use Rattle.match_network.specs.Arrivals.{Arrivals, has_tag, without_tag}
use Rattle.match_network.specs.Negated.{blocks, whole_rows}
use Rattle.match_network.specs.Network.{Network}
use Rattle.match_network.specs.Row.{is_living}
use Rattle.match_network.specs.Rules.{RuleRows}
use Rattle.match_network.specs.declared.askers.Asker.{Asker}
use Rattle.match_network.specs.Touched.{OthersStay, is_of}
use Rattle.match_network.proofs.ComeLemmas.{Each-has, some_at}
use Rattle.conflict_parts.specs.declared.standing.RowId.{RowId}
use Rattle.conflict_parts.specs.declared.standing.Standing.{Standing}
use Rattle.conflict_parts.specs.declared.standing.Standing.TheVariants.{Marked, Open, Waiting}
use Rattle.conflict_parts.specs.Change.{HasGrown, HasOpened, IsCovered, NoneWaits}
use Rattle.conflict_parts.specs.Part.{AreNoMore, IsBlockedAt, IsLivingRow, IsPart, full_row, full_rows, is_free_row}
use Rattle.conflict_parts.specs.Queue.{IsNowOpen, IsOpened, has_waiter, is_queued, same_row}
use Rattle.conflict_parts.specs.Standings.{has_fired, is_marked, standing_at, with_set}
use Rattle.conflict_parts.specs.Waiters.{waiters_at}
use Rattle.conflict_parts.proofs.QueueLemmas.{opened_none, queued-before, same_row-here, same_row-is}
use Rattle.conflict_parts.proofs.RowLemmas.{blocked_not_free, filter_has, has-more, living-below, living-filter, living-has, still_blocked}
use Rattle.conflict_parts.proofs.StandingLemmas.{length-with_set, lengths-with_set, with_set-other, with_set-same}

-- somebody stands where there is a number for him
pub record Stands (ss : List (List Standing)) (rule row : ℕ) : Type 0 where
  pub standing : Standing
  pub is : standing_at ss rule row ≡ Some standing

stands_at : (ss : List (List Standing)) (rule row : ℕ) → row < length (slice_index_or ss rule []) → Stands ss rule row
stands_at ss rule row lt = let found = some_at (slice_index_or ss rule []) row lt in record { standing = found.item; is = found.is }

stands_within : (ss : List (List Standing)) (rule row : ℕ) (standing : Standing) → standing_at ss rule row ≡ Some standing → row < length (slice_index_or ss rule [])
stands_within ss rule row standing is = slice_get_within (slice_index_or ss rule []) row standing is

-- nobody is left to be looked at
none_step : (network : Network) (ss : List (List Standing)) (waiters : List (ℕ × RowId)) (rule number : ℕ) (row : List ℕ) (standing : Standing) → IsPart network ss [] waiters → IsLivingRow network rule number row → standing_at ss rule number ≡ Some standing → (standing_at ss rule number ≡ Some Marked) ⊎ (is_free_row network rule row ≡ false)
none_step network ss waiters rule number row Open held lives is =
    let queued : false ≡ true = held.opened rule number row lives is in
    absurd (let wrong : ⊥ = cc in wrong)
none_step network ss waiters rule number row (Waiting place) held lives is = inr (blocked_not_free network rule number row place lives (held.blocked rule number row place lives is))
none_step network ss waiters rule number row Marked held lives is = inl is

pub part_none : (network : Network) (ss : List (List Standing)) (waiters : List (ℕ × RowId)) → IsPart network ss [] waiters → (rule number : ℕ) (row : List ℕ) → IsLivingRow network rule number row → (standing_at ss rule number ≡ Some Marked) ⊎ (is_free_row network rule row ≡ false)
part_none network ss waiters held rule number row lives =
    let stands = stands_at ss rule number (held.covered rule number row lives) in
    none_step network ss waiters rule number row stands.standing held lives stands.is

-- one that isn't open is dropped from the queue
pub part_dropped : (network : Network) (ss : List (List Standing)) (queue : List RowId) (last : RowId) (waiters : List (ℕ × RowId)) → IsPart network ss (queue ++ last ∷ []) waiters → ((row : List ℕ) → IsLivingRow network last.rule last.row row → standing_at ss last.rule last.row ≢ Some Open) → IsPart network ss queue waiters
part_dropped network ss queue last waiters held closed = record {
  count = held.count;
  no_more = held.no_more;
  covered = held.covered;
  opened = λ rule number row lives is.
      elim (queued-before queue last rule number (held.opened rule number row lives is)) [
        | inl here ↦ here
        | inr same ↦
            let at = same_row-is rule number last same in
            let lives_there : IsLivingRow network last.rule last.row row =
            subst (λ r. IsLivingRow network r last.row row) (sym at.0) (subst (λ n. IsLivingRow network rule n row) (sym at.1) lives) in
            absurd (closed row lives_there (subst (λ r. standing_at ss r last.row ≡ Some Open) (sym at.0) (subst (λ n. standing_at ss rule n ≡ Some Open) (sym at.1) is)))
      ];
  blocked = held.blocked;
  noted = held.noted;
}

-- one stands otherwise
set_cases : (ss : List (List Standing)) (id : RowId) (x : Standing) (rule row : ℕ) (y : Standing) → standing_at (with_set ss id.rule id.row x) rule row ≡ Some y → ((id.rule ≡ rule) × (id.row ≡ row) × (x ≡ y)) ⊎ (standing_at ss rule row ≡ Some y)
set_cases ss id x rule row y is =
    elim (cases_Bool (same_row rule row id)) [
      | inl same ↦
          let at = same_row-is rule row id same in
          let set : option_map (λ (old : Standing). x) (standing_at ss id.rule id.row) ≡ Some y =
          sym (with_set-same ss id.rule id.row x)
          ∙ subst (λ r. standing_at (with_set ss id.rule id.row x) r id.row ≡ Some y) (sym at.0) (subst (λ n. standing_at (with_set ss id.rule id.row x) rule n ≡ Some y) (sym at.1) is) in
          inl (at.0, at.1, given (standing_at ss id.rule id.row) x y set)
      | inr differs ↦
          inr (sym (with_set-other ss id.rule id.row x rule row (λ rule_same row_same.
          let here = and_from (id.rule == rule) (id.row == row) (eq-eqb id.rule rule rule_same) (eq-eqb id.row row row_same) in
          absurd (let wrong : ⊥ = cc in wrong))) ∙ is)
    ]
  where
    given : (found : Option Standing) (x y : Standing) → option_map (λ (old : Standing). x) found ≡ Some y → x ≡ y
    given None x y is = absurd (let wrong : ⊥ = cc in wrong)
    given (Some old) x y is = cc

pub part_set : (network : Network) (ss : List (List Standing)) (queue : List RowId) (waiters more : List (ℕ × RowId)) (id : RowId) (x : Standing) → IsPart network ss queue waiters → (x ≡ Open → ⊥) →
    ((place : ℕ) (rule row : ℕ) → has_waiter waiters place rule row ≡ true → has_waiter more place rule row ≡ true) →
    ((place : ℕ) (row : List ℕ) → x ≡ Waiting place → IsLivingRow network id.rule id.row row → IsBlockedAt network id.rule row place × (has_waiter more place id.rule id.row ≡ true)) →
    IsPart network (with_set ss id.rule id.row x) queue more
part_set network ss queue waiters more id x held closed kept waits = record {
  count = length-with_set ss id.rule id.row x ∙ held.count;
  no_more = λ rule. omega (arith, held.no_more rule, lengths-with_set ss id.rule id.row x rule);
  covered = λ rule number row lives. omega (arith, held.covered rule number row lives, lengths-with_set ss id.rule id.row x rule);
  opened = λ rule number row lives is.
      elim (set_cases ss id x rule number Open is) [
        | inl same ↦ absurd (closed same.2)
        | inr was ↦ held.opened rule number row lives was
      ];
  blocked = λ rule number row place lives is.
      elim (set_cases ss id x rule number (Waiting place) is) [
        | inl same ↦ subst (λ r. IsBlockedAt network r row place) same.0 (waits place row same.2 (moved rule number row same.0 same.1 lives)).0
        | inr was ↦ held.blocked rule number row place lives was
      ];
  noted = λ rule number row place lives is.
      elim (set_cases ss id x rule number (Waiting place) is) [
        | inl same ↦
            subst (λ r. has_waiter more place r number ≡ true) same.0 (subst (λ n. has_waiter more place id.rule n ≡ true) same.1
            (waits place row same.2 (moved rule number row same.0 same.1 lives)).1)
        | inr was ↦ kept place rule number (held.noted rule number row place lives was)
      ];
}
  where
    moved : (rule number : ℕ) (row : List ℕ) → id.rule ≡ rule → id.row ≡ number → IsLivingRow network rule number row → IsLivingRow network id.rule id.row row
    moved rule number row rule_is row_is lives = subst (λ r. IsLivingRow network r id.row row) (sym rule_is) (subst (λ n. IsLivingRow network rule n row) (sym row_is) lives)

-- one waits
waiters_at-push : (waiters : List (ℕ × RowId)) (place : ℕ) (id : RowId) (other : ℕ) → waiters_at (waiters ++ (place, id) ∷ []) other ≡ waiters_at waiters other ++ waiters_at ((place, id) ∷ []) other
waiters_at-push waiters place id other =
    ap (map (λ (w : ℕ × RowId). w.1)) (filter-append (λ (w : ℕ × RowId). w.0 == other) waiters ((place, id) ∷ []))
    ∙ map-append (λ (w : ℕ × RowId). w.1) (filter (λ (w : ℕ × RowId). w.0 == other) waiters) (filter (λ (w : ℕ × RowId). w.0 == other) ((place, id) ∷ []))

pub has_waiter-more : (waiters : List (ℕ × RowId)) (place : ℕ) (id : RowId) (other rule row : ℕ) → has_waiter waiters other rule row ≡ true → has_waiter (waiters ++ (place, id) ∷ []) other rule row ≡ true
has_waiter-more waiters place id other rule row has =
    ap (list_any (same_row rule row)) (waiters_at-push waiters place id other)
    ∙ list_any-append (same_row rule row) (waiters_at waiters other) (waiters_at ((place, id) ∷ []) other)
    ∙ or_left (has_waiter waiters other rule row) (list_any (same_row rule row) (waiters_at ((place, id) ∷ []) other)) has

last_waits : (place : ℕ) (id : RowId) (here : Bool) → here ≡ true → list_any (same_row id.rule id.row) (map (λ (w : ℕ × RowId). w.1) (cond here ((place, id) ∷ []) [])) ≡ true
last_waits place id true so = or_left (same_row id.rule id.row id) false (same_row-here id)
last_waits place id false so = absurd (let wrong : ⊥ = cc in wrong)

pub has_waiter-last : (waiters : List (ℕ × RowId)) (place : ℕ) (id : RowId) → has_waiter (waiters ++ (place, id) ∷ []) place id.rule id.row ≡ true
has_waiter-last waiters place id =
    ap (list_any (same_row id.rule id.row)) (waiters_at-push waiters place id place)
    ∙ list_any-append (same_row id.rule id.row) (waiters_at waiters place) (waiters_at ((place, id) ∷ []) place)
    ∙ or_right (has_waiter waiters place id.rule id.row) (list_any (same_row id.rule id.row) (waiters_at ((place, id) ∷ []) place)) (last_waits place id (place == place) (eq-eqb place place refl))

pub part_waits : (network : Network) (ss : List (List Standing)) (queue : List RowId) (waiters : List (ℕ × RowId)) (id : RowId) (place : ℕ) → ((row : List ℕ) → IsLivingRow network id.rule id.row row → IsBlockedAt network id.rule row place) → IsPart network ss queue waiters → IsPart network (with_set ss id.rule id.row (Waiting place)) queue (waiters ++ (place, id) ∷ [])
part_waits network ss queue waiters id place blocked held =
    part_set network ss queue waiters (waiters ++ (place, id) ∷ []) id (Waiting place) held (λ same. (let wrong : ⊥ = cc in wrong))
    (λ other rule row has. has_waiter-more waiters place id other rule row has)
    (λ other row same lives.
    let there : place ≡ other = cc in
    (subst (λ p. IsBlockedAt network id.rule row p) there (blocked row lives), subst (λ p. has_waiter (waiters ++ (place, id) ∷ []) p id.rule id.row ≡ true) there (has_waiter-last waiters place id)))

-- one is marked
pub part_marked : (network : Network) (ss : List (List Standing)) (queue : List RowId) (waiters : List (ℕ × RowId)) (id : RowId) → IsPart network ss queue waiters → IsPart network (with_set ss id.rule id.row Marked) queue waiters
part_marked network ss queue waiters id held =
    part_set network ss queue waiters waiters id Marked held (λ same. (let wrong : ⊥ = cc in wrong)) (λ place rule row has. has)
    (λ place row same lives. absurd (let wrong : ⊥ = cc in wrong))

-- the marks after one stands otherwise
marks_step : (ss : List (List Standing)) (id : RowId) (x : Standing) (rule row : ℕ) (same : Bool) → same_row rule row id ≡ same → is_marked (with_set ss id.rule id.row x) rule row ≡ cond same (option_map_or (λ (old : Standing). has_fired x) (standing_at ss rule row) false) (is_marked ss rule row)
marks_step ss id x rule row true is =
    let at = same_row-is rule row id is in
    subst (λ r. is_marked (with_set ss id.rule id.row x) r row ≡ option_map_or (λ (old : Standing). has_fired x) (standing_at ss r row) false) at.0
    (subst (λ n. is_marked (with_set ss id.rule id.row x) id.rule n ≡ option_map_or (λ (old : Standing). has_fired x) (standing_at ss id.rule n) false) at.1
    (ap (λ (o : Option Standing). option_map_or has_fired o false) (with_set-same ss id.rule id.row x) ∙ mapped (standing_at ss id.rule id.row)))
  where
    mapped : (found : Option Standing) → option_map_or has_fired (option_map (λ (old : Standing). x) found) false ≡ option_map_or (λ (old : Standing). has_fired x) found false
    mapped None = refl
    mapped (Some old) = refl
marks_step ss id x rule row false is =
    ap (λ (o : Option Standing). option_map_or has_fired o false) (with_set-other ss id.rule id.row x rule row (λ rule_same row_same.
    let here = and_from (id.rule == rule) (id.row == row) (eq-eqb id.rule rule rule_same) (eq-eqb id.row row row_same) in
    absurd (let wrong : ⊥ = cc in wrong)))

-- one that stood unmarked, and doesn't now
unmarked_step : (ss : List (List Standing)) (id : RowId) (x y : Standing) (rule row : ℕ) (same : Bool) → same_row rule row id ≡ same → has_fired x ≡ false → has_fired y ≡ false → standing_at ss id.rule id.row ≡ Some y → is_marked (with_set ss id.rule id.row x) rule row ≡ is_marked ss rule row
unmarked_step ss id x y rule row true is new old stood =
    let at = same_row-is rule row id is in
    let there : standing_at ss rule row ≡ Some y = subst (λ r. standing_at ss r row ≡ Some y) at.0 (subst (λ n. standing_at ss id.rule n ≡ Some y) at.1 stood) in
    marks_step ss id x rule row true is ∙ ap (λ (o : Option Standing). option_map_or (λ (z : Standing). has_fired x) o false) there ∙ new ∙ sym old
    ∙ ap (λ (o : Option Standing). option_map_or has_fired o false) (sym there)
unmarked_step ss id x y rule row false is new old stood = marks_step ss id x rule row false is

pub marks_waiting : (ss : List (List Standing)) (id : RowId) (place : ℕ) → standing_at ss id.rule id.row ≡ Some Open → (rule row : ℕ) → is_marked (with_set ss id.rule id.row (Waiting place)) rule row ≡ is_marked ss rule row
marks_waiting ss id place stood rule row = unmarked_step ss id (Waiting place) Open rule row (same_row rule row id) refl refl refl stood

marked_step : (ss : List (List Standing)) (id : RowId) (y : Standing) (rule row : ℕ) (same : Bool) → same_row rule row id ≡ same → standing_at ss id.rule id.row ≡ Some y → is_marked (with_set ss id.rule id.row Marked) rule row ≡ (is_marked ss rule row || same)
marked_step ss id y rule row true is stood =
    let at = same_row-is rule row id is in
    let there : standing_at ss rule row ≡ Some y = subst (λ r. standing_at ss r row ≡ Some y) at.0 (subst (λ n. standing_at ss id.rule n ≡ Some y) at.1 stood) in
    marks_step ss id Marked rule row true is ∙ ap (λ (o : Option Standing). option_map_or (λ (z : Standing). true) o false) there ∙ sym (or_right (is_marked ss rule row) true refl)
marked_step ss id y rule row false is stood = marks_step ss id Marked rule row false is ∙ sym (or_none (is_marked ss rule row))
  where
    or_none : (b : Bool) → (b || false) ≡ b
    or_none true = refl
    or_none false = refl

pub marks_marked : (network : Network) (ss : List (List Standing)) (queue : List RowId) (waiters : List (ℕ × RowId)) (id : RowId) (row : List ℕ) → IsPart network ss queue waiters → IsLivingRow network id.rule id.row row → (rule number : ℕ) → is_marked (with_set ss id.rule id.row Marked) rule number ≡ (is_marked ss rule number || same_row rule number id)
marks_marked network ss queue waiters id row held lives rule number =
    let stands = stands_at ss id.rule id.row (held.covered id.rule id.row row lives) in
    marked_step ss id stands.standing rule number (same_row rule number id) refl stands.is

-- one that waits isn't open
pub waiting-closed : (ss : List (List Standing)) (id : RowId) (place : ℕ) → standing_at (with_set ss id.rule id.row (Waiting place)) id.rule id.row ≢ Some Open
waiting-closed ss id place at = set_open (standing_at ss id.rule id.row) (sym (with_set-same ss id.rule id.row (Waiting place)) ∙ at)
  where
    set_open : (found : Option Standing) → option_map (λ (old : Standing). Waiting place) found ≡ Some Open → ⊥
    set_open None is = cc
    set_open (Some old) is = cc

-- what becomes of one that lives after a change: it lived before, and what it waits for stands in its way still; or it
-- is open
pub record Stays (old new : Network) (ss : List (List Standing)) (rule number : ℕ) (row : List ℕ) : Type 0 where
  pub lived : IsLivingRow old rule number row
  pub blocked : (place : ℕ) → standing_at ss rule number ≡ Some (Waiting place) → IsBlockedAt old rule row place → IsBlockedAt new rule row place

pub record IsOpen (ss : List (List Standing)) (queue : List RowId) (rule number : ℕ) : Type 0 where
  pub stands : standing_at ss rule number ≡ Some Open
  pub queued : is_queued queue rule number ≡ true

pub part_after : (old new : Network) (ss after : List (List Standing)) (before queue : List RowId) (waiters : List (ℕ × RowId)) → IsPart old ss before waiters → IsOpened ss before after queue → length new.rules ≡ length old.rules → AreNoMore new.rules after →
    ((rule number : ℕ) (row : List ℕ) → IsLivingRow new rule number row → Stays old new after rule number row ⊎ IsOpen after queue rule number) → IsPart new after queue waiters
part_after old new ss after before queue waiters held opened count no_more each = record {
  count = opened.count ∙ held.count ∙ sym count;
  no_more = no_more;
  covered = λ rule number row lives.
      elim (each rule number row lives) [
        | inl stays ↦
            let stood = stands_at ss rule number (held.covered rule number row stays.lived) in
            elim (opened.each rule number) [
              | inl same ↦ stands_within after rule number stood.standing (same ∙ stood.is)
              | inr now ↦ stands_within after rule number Open now.stands
            ]
        | inr is ↦ stands_within after rule number Open is.stands
      ];
  opened = λ rule number row lives at.
      elim (each rule number row lives) [
        | inl stays ↦
            elim (opened.each rule number) [
              | inl same ↦ opened.queued rule number (held.opened rule number row stays.lived (sym same ∙ at))
              | inr now ↦ now.queued
            ]
        | inr is ↦ is.queued
      ];
  blocked = λ rule number row place lives at.
      elim (each rule number row lives) [
        | inl stays ↦
            elim (opened.each rule number) [
              | inl same ↦ stays.blocked place at (held.blocked rule number row place stays.lived (sym same ∙ at))
              | inr now ↦ absurd (clash after rule number place now.stands at)
            ]
        | inr is ↦ absurd (clash after rule number place is.stands at)
      ];
  noted = λ rule number row place lives at.
      elim (each rule number row lives) [
        | inl stays ↦
            elim (opened.each rule number) [
              | inl same ↦ held.noted rule number row place stays.lived (sym same ∙ at)
              | inr now ↦ absurd (clash after rule number place now.stands at)
            ]
        | inr is ↦ absurd (clash after rule number place is.stands at)
      ];
}
  where
    clash : (ss : List (List Standing)) (rule row place : ℕ) → standing_at ss rule row ≡ Some Open → standing_at ss rule row ≡ Some (Waiting place) → ⊥
    clash ss rule row place stands waits =
        let both : Some Open ≡ Some (Waiting place) = sym stands ∙ waits in
        cc

-- some are opened in the same network
pub part_opened : (network : Network) (ss after : List (List Standing)) (before queue : List RowId) (waiters : List (ℕ × RowId)) → IsPart network ss before waiters → IsOpened ss before after queue → AreNoMore network.rules after → IsPart network after queue waiters
part_opened network ss after before queue waiters held opened no_more =
    part_after network network ss after before queue waiters held opened refl no_more (λ rule number row lives. inl (record { lived = lives; blocked = λ place at is. is }))

-- those that waited at a place are woken
pub part_woken : (network : Network) (ss after : List (List Standing)) (before queue : List RowId) (waiters : List (ℕ × RowId)) → IsPart network ss before waiters → IsOpened ss before after queue → ((rule : ℕ) → length (slice_index_or after rule []) ≡ length (slice_index_or ss rule [])) → IsPart network after queue waiters
part_woken network ss after before queue waiters held opened lengths =
    part_opened network ss after before queue waiters held opened (λ rule. omega (arith, held.no_more rule, lengths rule))

-- an element came, and was dead at once
pub part_undone : (old new left : Network) (e : Element) (ss after : List (List Standing)) (before queue : List RowId) (waiters : List (ℕ × RowId)) → HasGrown old new e → left.rules ≡ new.rules → left.arrivals.came ≡ new.arrivals.came → left.arrivals.places ≡ old.arrivals.places →
    IsPart old ss before waiters → IsOpened ss before after queue → AreNoMore new.rules after → IsPart left after queue waiters
part_undone old new left e ss after before queue waiters grown rules came places held opened no_more =
    part_after old left ss after before queue waiters held opened
    (ap (λ (rs : List RuleRows). length rs) rules ∙ grown.count)
    (subst (λ (rs : List RuleRows). AreNoMore rs after) (sym rules) no_more)
    (λ rule number row lives.
    let lives_before : is_living old.arrivals.places row ≡ true = subst (λ ps. is_living ps row ≡ true) places lives.lives in
    elim (grown.rows rule number row (ap (λ (rs : List RuleRows). full_row rs rule number) (sym rules) ∙ lives.is)) [
      | inl was ↦ inl (record {
        lived = record { is = was; lives = lives_before };
        blocked = λ place at blocked. record {
          there = ap (λ ps. has_number ps place) places ∙ blocked.there;
          stands = λ kept at_rule.
              ap (λ (es : List Element). blocks kept.joins es row place) came
              ∙ still_blocked old new e rule number row place grown was blocked kept (ap (λ (rs : List RuleRows). slice_get rs rule) (sym rules) ∙ at_rule);
        };
      })
      | inr further ↦
          let there = living-has old.arrivals.places row (length old.arrivals.came) lives_before further.1 in
          absurd (let lt : length old.arrivals.came < length old.arrivals.came = Each-has (λ p. p < length old.arrivals.came) old.arrivals.places (length old.arrivals.came) grown.below there in omega arith)
    ])

pub no_more-longer : (old new : Network) (e : Element) (ss : List (List Standing)) → HasGrown old new e → AreNoMore old.rules ss → AreNoMore new.rules ss
no_more-longer old new e ss grown no_more rule = omega (arith, no_more rule, grown.longer rule)

-- each rule was due and has all its full matches standing, or is as it was
pub due_or_same : (due : List Asker) (old new : List RuleRows) (ss : List (List Standing)) → OthersStay due old new → ((rule : ℕ) → list_any (is_of rule) due ≡ true → IsCovered new ss rule) → (rule : ℕ) → (slice_get new rule ≡ slice_get old rule) ⊎ IsCovered new ss rule
due_or_same due old new ss others covered rule =
    elim (cases_Bool (list_any (is_of rule) due)) [
      | inl so ↦ inr (covered rule so)
      | inr so ↦ inl (others rule so)
    ]

-- an element came
pub part_grown : (old new : Network) (e : Element) (ss after : List (List Standing)) (before queue : List RowId) (waiters : List (ℕ × RowId)) → HasGrown old new e → new.arrivals.places ≡ old.arrivals.places ++ length old.arrivals.came ∷ [] →
    IsPart old ss before waiters → IsOpened ss before after queue → AreNoMore new.rules after → ((rule : ℕ) → (slice_get new.rules rule ≡ slice_get old.rules rule) ⊎ IsCovered new.rules after rule) → IsPart new after queue waiters
part_grown old new e ss after before queue waiters grown places held opened no_more each =
    part_after old new ss after before queue waiters held opened grown.count no_more
    (λ rule number row lives.
    elim (grown.rows rule number row lives.is) [
      | inl was ↦ inl (record {
        lived = record { is = was; lives = living-below old.arrivals.places row (length old.arrivals.came) (grown.have_come rule number row was) (subst (λ ps. is_living ps row ≡ true) places lives.lives) };
        blocked = λ place at blocked. record {
          there = ap (λ ps. has_number ps place) places ∙ has-more old.arrivals.places (length old.arrivals.came) place blocked.there;
          stands = λ kept at_rule. still_blocked old new e rule number row place grown was blocked kept at_rule;
        };
      })
      | inr further ↦ inr (elim (each rule) [
        | inl same ↦
            let was : full_row old.rules rule number ≡ Some row = ap (λ (found : Option RuleRows). slice_get (option_map_or whole_rows found []) number) (sym same) ∙ lives.is in
            absurd (omega (arith, slice_get_within (full_rows old.rules rule) number row was, further.0))
        | inr covered ↦
            let stands = stands_at after rule number (omega (arith, slice_get_within (full_rows new.rules rule) number row lives.is, covered)) in
            elim (opened.each rule number) [
              | inl same ↦ absurd (omega (arith, stands_within ss rule number stands.standing (sym same ∙ stands.is), held.no_more rule, further.0))
              | inr now ↦ record { stands = now.stands; queued = now.queued }
            ]
      ])
    ])

-- an element goes
pub part_without : (old new : Network) (tag : ℕ) (ss : List (List Standing)) (queue : List RowId) (waiters : List (ℕ × RowId)) → new.arrivals ≡ without_tag old.arrivals tag → new.rules ≡ old.rules → NoneWaits old.arrivals tag ss waiters → IsPart old ss queue waiters → IsPart new ss queue waiters
part_without old new tag ss queue waiters arrivals rules none held =
    let keep : ℕ → Bool = λ p. not (has_tag old.arrivals.came tag p) in
    let places : new.arrivals.places ≡ filter keep old.arrivals.places = ap (λ (a : Arrivals). a.places) arrivals in
    let came : new.arrivals.came ≡ old.arrivals.came = ap (λ (a : Arrivals). a.came) arrivals in
    part_after old new ss ss queue queue waiters held (opened_none ss queue)
    (ap (λ (rs : List RuleRows). length rs) rules)
    (subst (λ (rs : List RuleRows). AreNoMore rs ss) (sym rules) held.no_more)
    (λ rule number row lives.
    let lived : IsLivingRow old rule number row = record {
      is = ap (λ (rs : List RuleRows). full_row rs rule number) (sym rules) ∙ lives.is;
      lives = living-filter keep old.arrivals.places row (subst (λ ps. is_living ps row ≡ true) places lives.lives);
    } in
    inl (record {
      lived = lived;
      blocked = λ place at blocked.
          let stays : has_tag old.arrivals.came tag place ≡ false =
          elim (cases_Bool (has_tag old.arrivals.came tag place)) [
            | inl goes ↦ absurd (none rule number place blocked.there goes (held.noted rule number row place lived at) at)
            | inr stays ↦ stays
          ] in
          record {
            there = ap (λ ps. has_number ps place) places ∙ filter_has keep old.arrivals.places place blocked.there (not_from_false (has_tag old.arrivals.came tag place) stays);
            stands = λ kept at_rule. ap (λ (es : List Element). blocks kept.joins es row place) came ∙ blocked.stands kept (ap (λ (rs : List RuleRows). slice_get rs rule) (sym rules) ∙ at_rule);
          };
    }))

-- there are no elements yet
nobody : (count rule row : ℕ) → standing_at (replicate count []) rule row ≡ None
nobody count rule row =
    elim (cases_lt rule count) [
      | inl lt ↦ ap (λ (of_rule : List Standing). slice_get of_rule row) (get_or-replicate count rule [] [] lt)
      | inr le ↦ ap (λ (of_rule : List Standing). slice_get of_rule row) (get_or_past (replicate count []) rule [] (omega (arith, le, length-replicate {A = List Standing} count [])))
    ]

pub part_new : (network : Network) (none ss : List (List Standing)) (count : ℕ) (before queue : List RowId) (waiters : List (ℕ × RowId)) → none ≡ replicate count [] → count ≡ length network.rules → HasOpened network.rules none before ss queue → ((rule : ℕ) → IsCovered network.rules ss rule) → IsPart network ss queue waiters
part_new network none ss count before queue waiters none_is count_is opened covered = record {
  count = opened.opened.count ∙ ap (λ (xs : List (List Standing)). length xs) none_is ∙ length-replicate count [] ∙ count_is;
  no_more = opened.no_more;
  covered = λ rule number row lives. omega (arith, covered rule, slice_get_within (full_rows network.rules rule) number row lives.is);
  opened = λ rule number row lives at. (stood rule number Open at).queued;
  blocked = λ rule number row place lives at. absurd (clash rule number place (stood rule number (Waiting place) at).stands at);
  noted = λ rule number row place lives at. absurd (clash rule number place (stood rule number (Waiting place) at).stands at);
}
  where
    stood : (rule number : ℕ) (x : Standing) → standing_at ss rule number ≡ Some x → IsNowOpen none ss queue rule number
    stood rule number x at =
        elim (opened.opened.each rule number) [
          | inl same ↦
              let was : None ≡ Some x = sym (ap (λ (xs : List (List Standing)). standing_at xs rule number) none_is ∙ nobody count rule number) ∙ (sym same ∙ at) in
              absurd (let wrong : ⊥ = cc in wrong)
          | inr now ↦ now
        ]

    clash : (rule number place : ℕ) → standing_at ss rule number ≡ Some Open → standing_at ss rule number ≡ Some (Waiting place) → ⊥
    clash rule number place stands waits =
        let both : Some Open ≡ Some (Waiting place) = sym stands ∙ waits in
        cc
