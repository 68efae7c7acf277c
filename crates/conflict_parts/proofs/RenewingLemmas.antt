-- Marks that end, and who is in the queue then.
use Rattle.std.proofs.Common.{◌≡◌, ◌⊎◌, inl, inr, ℕ, ◌+◌, ◌<◌, ◌≤◌, ◌==◌, ◌&&◌, ◌||◌, List, [], ◌∷◌, ◌++◌, Bool, true, false, not, if◌then◌else◌, Option, None, Some, length, slice_get, slice_index_or, take, suc, refl, ap, arith, subst, sym, ◌∙◌}
use Rattle.std.specs.List.{list_any}
use Rattle.std.specs.Option.{option_map, option_map_or}
use Rattle.std.proofs.lemmas.Bool.{and_from, and_right, cases_Bool, cases_eq, eq-eqb, eqb-true, not_from_true, or_cases, or_left, or_right}
use Rattle.std.proofs.lemmas.List.{append_assoc, append-nil}
use Rattle.std.proofs.lemmas.List.Folds.{list_any-append}
use Rattle.std.proofs.lemmas.Option.{slice_get_past, slice_get_within}
use Rattle.std.proofs.Math.Seq.{drop-append_seam, drop-length, take-suc}
use Rattle.rule_base.specs.declared.base.Refraction.TheVariants.{Once, Renewed}
use Rattle.match_network.specs.declared.askers.Asker.{Asker}
use Rattle.match_network.specs.Negated.{whole_rows}
use Rattle.match_network.specs.Network.{Network}
use Rattle.match_network.specs.Rules.{RuleRows}
use Rattle.match_network.specs.Touched.{is_of}
use Rattle.conflict_parts.specs.declared.standing.RowId.{RowId}
use Rattle.conflict_parts.specs.declared.standing.Standing.{Standing}
use Rattle.conflict_parts.specs.declared.standing.Standing.TheVariants.{Open}
use Rattle.conflict_parts.specs.Change.{HasOpened}
use Rattle.conflict_parts.specs.Marks.{blocks_row}
use Rattle.conflict_parts.specs.Part.{IsLivingRow, full_row, full_rows}
use Rattle.conflict_parts.specs.Queue.{is_queued, same_row}
use Rattle.conflict_parts.specs.Renewing.{AllAreNoted, AreDue, AreNoted, IsRenewed, behind}
use Rattle.conflict_parts.specs.Standings.{has_fired, is_marked, standing_at, with_set}
use Rattle.conflict_parts.proofs.OpeningLemmas.{has_opened-both}
use Rattle.conflict_parts.proofs.QueueLemmas.{opened_queued, same_row-is}
use Rattle.conflict_parts.proofs.RowLemmas.{full_rows-kept}
use Rattle.conflict_parts.proofs.StandingLemmas.{with_set-other, with_set-same}

-- how one stands that is there, where all of some have been opened
abbrev opened_if : Bool → Option Standing → Option Standing
opened_if opens standing = if opens then option_map (λ (s : Standing). Open) standing else standing

opened_again : (opens : Bool) (standing : Option Standing) → option_map (λ (s : Standing). Open) (opened_if opens standing) ≡ opened_if true standing
opened_again true None = refl
opened_again true (Some s) = refl
opened_again false standing = refl

-- one list more of those that are looked at
queued-one : (ids : List RowId) (id : RowId) (rule row : ℕ) → is_queued (ids ++ id ∷ []) rule row ≡ (is_queued ids rule row || (same_row rule row id || false))
queued-one ids id rule row = list_any-append (same_row rule row) ids (id ∷ [])

or_none : (x y : Bool) → y ≡ false → (x || (y || false)) ≡ x
or_none true y none = refl
or_none false y none = ap (λ t. t || false) none

or_last : (x y : Bool) → y ≡ true → (x || (y || false)) ≡ true
or_last x y here = or_right x (y || false) (ap (λ t. t || false) here)

-- one more is opened
pub each_open : (old mid new : List (List Standing)) (ids more : List RowId) (id : RowId) → more ≡ ids ++ id ∷ [] → new ≡ with_set mid id.rule id.row Open →
    ((rule row : ℕ) → standing_at mid rule row ≡ (if is_queued ids rule row then option_map (λ (s : Standing). Open) (standing_at old rule row) else standing_at old rule row)) →
    (rule row : ℕ) → standing_at new rule row ≡ (if is_queued more rule row then option_map (λ (s : Standing). Open) (standing_at old rule row) else standing_at old rule row)
each_open old mid new ids more id more_is new_is each rule row =
    let stood : (b : Bool) → is_queued (ids ++ id ∷ []) rule row ≡ b → opened_if b (standing_at old rule row) ≡ opened_if (is_queued more rule row) (standing_at old rule row) =
    λ b is. ap (λ t. opened_if t (standing_at old rule row)) (sym is ∙ ap (λ (queue : List RowId). is_queued queue rule row) (sym more_is)) in
    ap (λ (ss : List (List Standing)). standing_at ss rule row) new_is
    ∙ elim (cases_Bool (same_row rule row id)) [
      | inl same ↦
          let is = same_row-is rule row id same in
          subst (λ r. standing_at (with_set mid id.rule id.row Open) r row ≡ option_map (λ (s : Standing). Open) (standing_at mid r row)) is.0
          (subst (λ n. standing_at (with_set mid id.rule id.row Open) id.rule n ≡ option_map (λ (s : Standing). Open) (standing_at mid id.rule n)) is.1 (with_set-same mid id.rule id.row Open))
          ∙ ap (option_map (λ (s : Standing). Open)) (each rule row)
          ∙ opened_again (is_queued ids rule row) (standing_at old rule row)
          ∙ stood true (queued-one ids id rule row ∙ or_last (is_queued ids rule row) (same_row rule row id) same)
      | inr differs ↦
          with_set-other mid id.rule id.row Open rule row (λ rule_same row_same.
          let here = and_from (id.rule == rule) (id.row == row) (eq-eqb id.rule rule rule_same) (eq-eqb id.row row row_same) in
          absurd (let wrong : ⊥ = cc in wrong))
          ∙ each rule row
          ∙ stood (is_queued ids rule row) (queued-one ids id rule row ∙ or_none (is_queued ids rule row) (same_row rule row id) differs)
    ]

-- those up to a number, and one more
pub take-one : {X : Type 0} (xs : List X) (i : ℕ) (none : X) → i < length xs → take (i + 1) xs ≡ take i xs ++ slice_index_or xs i none ∷ []
take-one xs i none lt = ap (λ n. take n xs) (let next : i + 1 ≡ suc i = omega arith in next) ∙ take-suc xs i none lt

-- those that came behind others
pub behind-is : (before queue more : List RowId) → queue ≡ before ++ more → behind before queue ≡ more
behind-is before queue more is = ap (λ (q : List RowId). behind before q) is ∙ drop-append_seam before more

behind-both : (before mid queue : List RowId) → mid ≡ before ++ behind before mid → queue ≡ mid ++ behind mid queue → queue ≡ before ++ (behind before mid ++ behind mid queue)
behind-both before mid queue first second = second ∙ ap (λ (q : List RowId). q ++ behind mid queue) first ∙ append_assoc before (behind before mid) (behind mid queue)

queued-both : (before mid queue : List RowId) → mid ≡ before ++ behind before mid → queue ≡ mid ++ behind mid queue → (rule row : ℕ) →
    is_queued (behind before queue) rule row ≡ (is_queued (behind before mid) rule row || is_queued (behind mid queue) rule row)
queued-both before mid queue first second rule row =
    ap (λ (q : List RowId). is_queued q rule row) (behind-is before queue (behind before mid ++ behind mid queue) (behind-both before mid queue first second))
    ∙ list_any-append (same_row rule row) (behind before mid) (behind mid queue)

-- nobody came, or one after another
pub noted-none : (network : Network) (place : ℕ) (queue : List RowId) → AreNoted network place queue queue
noted-none network place queue =
    let none : behind queue queue ≡ [] = drop-length queue in
    record {
      is = sym (append-nil queue) ∙ ap (λ (q : List RowId). queue ++ q) (sym none);
      stands = λ rule number row queued is. absurd (let wrong : false ≡ true = sym (ap (λ (q : List RowId). is_queued q rule number) none) ∙ queued in let no : ⊥ = cc in no);
    }

pub noted-both : (network : Network) (place : ℕ) (before mid queue : List RowId) → AreNoted network place before mid → AreNoted network place mid queue → AreNoted network place before queue
noted-both network place before mid queue first second = record {
  is = behind-both before mid queue first.is second.is ∙ ap (λ (q : List RowId). before ++ q) (sym (behind-is before queue (behind before mid ++ behind mid queue) (behind-both before mid queue first.is second.is)));
  stands = λ rule number row queued is.
      elim (or_cases (is_queued (behind before mid) rule number) (is_queued (behind mid queue) rule number) (sym (queued-both before mid queue first.is second.is rule number) ∙ queued)) [
        | inl early ↦ first.stands rule number row early is
        | inr late ↦ second.stands rule number row late is
      ];
}

still_noted : (network : Network) (place : ℕ) (before mid queue : List RowId) → AreNoted network place before mid → AreNoted network place mid queue → (rule row : ℕ) → is_queued (behind before mid) rule row ≡ true → is_queued (behind before queue) rule row ≡ true
still_noted network place before mid queue first second rule row is =
    queued-both before mid queue first.is second.is rule row ∙ or_left (is_queued (behind before mid) rule row) (is_queued (behind mid queue) rule row) is

now_noted : (network : Network) (place : ℕ) (before mid queue : List RowId) → AreNoted network place before mid → AreNoted network place mid queue → (rule row : ℕ) → is_queued (behind mid queue) rule row ≡ true → is_queued (behind before queue) rule row ≡ true
now_noted network place before mid queue first second rule row is =
    queued-both before mid queue first.is second.is rule row ∙ or_right (is_queued (behind before mid) rule row) (is_queued (behind mid queue) rule row) is

-- those of a rule with numbers below one
abbrev pub AreNotedBelow : Network → ℕ → List (List Standing) → ℕ → ℕ → List RowId → List RowId → Type 0
AreNotedBelow network place standings rule count before queue =
    (number : ℕ) (row : List ℕ) → number < count → IsLivingRow network rule number row → is_marked standings rule number ≡ true → blocks_row network rule row place ≡ true → is_queued (behind before queue) rule number ≡ true

pub below-none : (network : Network) (place : ℕ) (standings : List (List Standing)) (rule : ℕ) (before queue : List RowId) → AreNotedBelow network place standings rule 0 before queue
below-none network place standings rule before queue number row lt = absurd (omega (arith, lt))

pub below-next : (network : Network) (place : ℕ) (standings : List (List Standing)) (rule count : ℕ) (before mid queue : List RowId) → AreNoted network place before mid → AreNoted network place mid queue →
    ((row : List ℕ) → IsLivingRow network rule count row → is_marked standings rule count ≡ true → blocks_row network rule row place ≡ true → is_queued (behind mid queue) rule count ≡ true) →
    AreNotedBelow network place standings rule count before mid → AreNotedBelow network place standings rule (count + 1) before queue
below-next network place standings rule count before mid queue first second here below number row lt lives marked blocks =
    elim (cases_eq count number) [
      | inl same ↦
          subst (λ n. is_marked standings rule n ≡ true → IsLivingRow network rule n row → is_queued (behind before queue) rule n ≡ true) same
          (λ marked_here lives_here. now_noted network place before mid queue first second rule count (here row lives_here marked_here blocks)) marked lives
      | inr differs ↦ still_noted network place before mid queue first second rule number (below number row (omega (arith, lt, differs)) lives marked blocks)
    ]

pub below-all : (network : Network) (place : ℕ) (standings : List (List Standing)) (rule count : ℕ) (kept : RuleRows) (before queue : List RowId) → slice_get network.rules rule ≡ Some kept → length (whole_rows kept) ≤ count →
    AreNotedBelow network place standings rule count before queue → AllAreNoted network place standings rule before queue
below-all network place standings rule count kept before queue at le below number row lives marked blocks =
    let within = slice_get_within (full_rows network.rules rule) number row lives.is in
    below number row (omega (arith, within, ap (λ (rows : List (List ℕ)). length rows) (full_rows-kept network.rules rule kept at), le)) lives marked blocks

-- past the rules there are none
pub noted-past : (network : Network) (place : ℕ) (standings : List (List Standing)) (rule : ℕ) (before queue : List RowId) → length network.rules ≤ rule → AllAreNoted network place standings rule before queue
noted-past network place standings rule before queue le number row lives marked blocks =
    let none : full_row network.rules rule number ≡ None = ap (λ (found : Option RuleRows). slice_get (option_map_or whole_rows found []) number) (slice_get_past network.rules rule le) in
    let both : None ≡ Some row = sym none ∙ lives.is in
    absurd (let wrong : ⊥ = cc in wrong)

-- the rules of those who were due, and of one more
pub noted-due : (network : Network) (place : ℕ) (standings : List (List Standing)) (before mid queue : List RowId) (done more : List Asker) (asker : Asker) → more ≡ done ++ asker ∷ [] → AreNoted network place before mid → AreNoted network place mid queue →
    AllAreNoted network place standings asker.rule mid queue → ((rule : ℕ) → list_any (is_of rule) done ≡ true → AllAreNoted network place standings rule before mid) →
    (rule : ℕ) → list_any (is_of rule) more ≡ true → AllAreNoted network place standings rule before queue
noted-due network place standings before mid queue done more asker is first second here below rule due =
    elim (or_cases (list_any (is_of rule) done) (is_of rule asker || false) (sym (ap (list_any (is_of rule)) is ∙ list_any-append (is_of rule) done (asker ∷ [])) ∙ due)) [
      | inl early ↦ λ number row lives marked blocks. still_noted network place before mid queue first second rule number (below rule early number row lives marked blocks)
      | inr last ↦
          elim (or_cases (is_of rule asker) false last) [
            | inl same ↦
                subst (λ r. AllAreNoted network place standings r before queue) (eqb-true asker.rule rule same)
                (λ number row lives marked blocks. now_noted network place before mid queue first second asker.rule number (here number row lives marked blocks))
            | inr wrong ↦ absurd (let no : ⊥ = cc in no)
          ]
    ]

-- no mark ends under `Once`
and_not_false : (x : Bool) → x ≡ (x && not false)
and_not_false true = refl
and_not_false false = refl

pub renewed-once : (network : Network) (place : ℕ) (ss : List (List Standing)) (queue : List RowId) → IsRenewed Once network place ss queue ss queue
renewed-once network place ss queue = record {
  count = refl;
  lengths = λ rule. refl;
  queued = λ rule number is. is;
  each = λ rule number. inl refl;
  marks = λ rule number row lives. and_not_false (is_marked ss rule number);
}

-- under `Renewed` those end that were noted
some_or_none : (stood stands : Option Standing) → stands ≡ option_map (λ (s : Standing). Open) stood → (stands ≡ stood) ⊎ (stands ≡ Some Open)
some_or_none None stands is = inl is
some_or_none (Some s) stands is = inr is

no_mark : (stood : Option Standing) → option_map_or has_fired (option_map (λ (s : Standing). Open) stood) false ≡ false
no_mark None = refl
no_mark (Some s) = refl

keeps_mark : (marked blocks : Bool) → (marked ≡ true → blocks ≡ true → ⊥) → marked ≡ (marked && not blocks)
keeps_mark true true never = absurd (never refl refl)
keeps_mark true false never = refl
keeps_mark false blocks never = refl

each_renewed : (old new : List (List Standing)) (queue : List RowId) (rule number : ℕ) (opens : Bool) → (opens ≡ true → is_queued queue rule number ≡ true) → standing_at new rule number ≡ opened_if opens (standing_at old rule number) →
    (standing_at new rule number ≡ standing_at old rule number) ⊎ ((standing_at new rule number ≡ Some Open) × (is_queued queue rule number ≡ true))
each_renewed old new queue rule number true among is =
    elim (some_or_none (standing_at old rule number) (standing_at new rule number) is) [
      | inl same ↦ inl same
      | inr opens ↦ inr (opens, among refl)
    ]
each_renewed old new queue rule number false among is = inl is

mark_renewed : (old new : List (List Standing)) (rule number : ℕ) (opens blocks : Bool) → (opens ≡ true → blocks ≡ true) → (is_marked old rule number ≡ true → blocks ≡ true → opens ≡ true) → standing_at new rule number ≡ opened_if opens (standing_at old rule number) →
    is_marked new rule number ≡ (is_marked old rule number && not blocks)
mark_renewed old new rule number true blocks stands all is =
    ap (λ (o : Option Standing). option_map_or has_fired o false) is ∙ no_mark (standing_at old rule number)
    ∙ sym (and_right (is_marked old rule number) (not blocks) (not_from_true blocks (stands refl)))
mark_renewed old new rule number false blocks stands all is =
    ap (λ (o : Option Standing). option_map_or has_fired o false) is
    ∙ keeps_mark (is_marked old rule number) blocks (λ marked blocked. let clash : false ≡ true = all marked blocked in let wrong : ⊥ = cc in wrong)

pub renewed-noted : (network : Network) (place : ℕ) (old new : List (List Standing)) (before queue ids : List RowId) → ids ≡ behind before queue → AreDue network place → AreNoted network place before queue →
    ((rule : ℕ) → list_any (is_of rule) network.negated_due ≡ true → AllAreNoted network place old rule before queue) → length new ≡ length old →
    ((rule : ℕ) → length (slice_index_or new rule []) ≡ length (slice_index_or old rule [])) →
    ((rule row : ℕ) → standing_at new rule row ≡ (if is_queued ids rule row then option_map (λ (s : Standing). Open) (standing_at old rule row) else standing_at old rule row)) →
    IsRenewed Renewed network place old before new queue
renewed-noted network place old new before queue ids ids_are due noted all count lengths each =
    let opens : (rule number : ℕ) → standing_at new rule number ≡ opened_if (is_queued (behind before queue) rule number) (standing_at old rule number) =
    λ rule number. each rule number ∙ ap (λ (q : List RowId). opened_if (is_queued q rule number) (standing_at old rule number)) ids_are in
    let whole : (rule number : ℕ) → is_queued queue rule number ≡ (is_queued before rule number || is_queued (behind before queue) rule number) =
    λ rule number. ap (λ (q : List RowId). is_queued q rule number) noted.is ∙ list_any-append (same_row rule number) before (behind before queue) in
    record {
      count = count;
      lengths = lengths;
      queued = λ rule number is. whole rule number ∙ or_left (is_queued before rule number) (is_queued (behind before queue) rule number) is;
      each = λ rule number.
          each_renewed old new queue rule number (is_queued (behind before queue) rule number) (λ is. whole rule number ∙ or_right (is_queued before rule number) (is_queued (behind before queue) rule number) is) (opens rule number);
      marks = λ rule number row lives.
          mark_renewed old new rule number (is_queued (behind before queue) rule number) (blocks_row network rule row place) (λ is. noted.stands rule number row is lives.is)
          (λ marked blocked. all rule (due rule row blocked) number row lives marked blocked) (opens rule number);
    }

-- others have come into the queue, and nothing else
pub has_opened-noted : (network : Network) (place : ℕ) (old mid new : List (List Standing)) (before between queue : List RowId) → HasOpened network.rules old before mid between → new ≡ mid → AreNoted network place between queue → HasOpened network.rules old before new queue
has_opened-noted network place old mid new before between queue opened same noted =
    subst (λ (ss : List (List Standing)). HasOpened network.rules old before ss queue) (sym same)
    (subst (λ (q : List RowId). HasOpened network.rules old before mid q) (sym noted.is)
    (has_opened-both network.rules old mid mid before between (between ++ behind between queue) opened
    (record { opened = opened_queued mid between (behind between queue); no_more = opened.no_more; kept = λ rule covered. covered })))
