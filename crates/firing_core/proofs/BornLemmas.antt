-- What was born in entries, gone through from a place on.
use Rattle.std.proofs.Common.{◌≡◌, ℕ, ◌+◌, List, [], ◌∷◌, ◌++◌, true, false, ◌||◌, Some, drop, is_some, slice_get, suc, zero, ◌∙◌, ap, subst}
use Rattle.std.specs.List.{AllByRecursion, filter_map}
use Rattle.std.proofs.lemmas.List.Folds.{list_any-append}
use Rattle.rule_base.specs.declared.condition.Cond.{Cond}
use Rattle.rule_base.specs.declared.element.Element.{Element}
use Rattle.rule_base.specs.declared.entry.Entry.{Entry}
use Rattle.rule_base.specs.Acceptance.{accepts}
use Rattle.rule_base.specs.Bindings.{Bindings}
use Rattle.rule_base.specs.Match.{accepts_some}
use Rattle.rule_base.proofs.StepByStepLemmas.{drop_next}
use Rattle.commit_journal.specs.declared.entry_view.EntryView.{EntryView}
use Rattle.commit_journal.specs.Entries.{born_by, born_in}
use Rattle.commit_journal.specs.EntryViews.{born_of, entry_in}
use Rattle.element_tests.specs.Asking.{MayAsk}
use Rattle.firing_core.specs.Matching.{MayFilter}
use Rattle.firing_core.proofs.MatchingLemmas.{Each-split}
use Rattle.commit_journal.proofs.EntryLemmas.{born_by-entry}

-- from an entry on: what it gave birth to, and what the later ones did
born_in-next : (entries : List Entry) (place : ℕ) (view : EntryView) → slice_get entries place ≡ Some (entry_in view) → born_in (drop place entries) ≡ born_of view ++ born_in (drop (place + 1) entries)
born_in-next entries place view here =
    ap born_in (drop_next entries place (entry_in view) here) ∙ ap (λ es. es ++ born_in (drop (place + 1) entries)) (born_by-entry view.gone.now (born_of view))

-- a condition element that may be asked of it all may be asked of the entry's, and of the later ones'
asked_next : (cond : Cond) (b : Bindings) (entries : List Entry) (place : ℕ) (view : EntryView) → slice_get entries place ≡ Some (entry_in view) → MayFilter cond (born_in (drop place entries)) b → AllByRecursion (MayAsk cond b) (born_of view) × AllByRecursion (MayAsk cond b) (born_in (drop (place + 1) entries))
asked_next cond b entries place view here may =
    Each-split (MayAsk cond b) (born_of view) (born_in (drop (place + 1) entries)) (subst (AllByRecursion (MayAsk cond b)) (born_in-next entries place view here) may.asked)

pub MayFilter-entry : (cond : Cond) (b : Bindings) (entries : List Entry) (place : ℕ) (view : EntryView) → slice_get entries place ≡ Some (entry_in view) → MayFilter cond (born_in (drop place entries)) b → MayFilter cond (born_of view) b
MayFilter-entry cond b entries place view here may = record { asked = (asked_next cond b entries place view here may).0; placed = may.placed }

pub MayFilter-later : (cond : Cond) (b : Bindings) (entries : List Entry) (place : ℕ) (view : EntryView) → slice_get entries place ≡ Some (entry_in view) → MayFilter cond (born_in (drop place entries)) b → MayFilter cond (born_in (drop (place + 1) entries)) b
MayFilter-later cond b entries place view here may = record { asked = (asked_next cond b entries place view here may).1; placed = may.placed }

-- it accepts something of it all where it accepts something of either
accepts_some-next : (cond : Cond) (b : Bindings) (entries : List Entry) (place : ℕ) (view : EntryView) → slice_get entries place ≡ Some (entry_in view) → accepts_some cond b (born_in (drop place entries)) ≡ (accepts_some cond b (born_of view) || accepts_some cond b (born_in (drop (place + 1) entries)))
accepts_some-next cond b entries place view here =
    ap (accepts_some cond b) (born_in-next entries place view here)
    ∙ list_any-append (λ (e : Element). is_some (accepts cond b e)) (born_of view) (born_in (drop (place + 1) entries))

pub accepts_some-entry : (cond : Cond) (b : Bindings) (entries : List Entry) (place : ℕ) (view : EntryView) → slice_get entries place ≡ Some (entry_in view) → accepts_some cond b (born_of view) ≡ true → accepts_some cond b (born_in (drop place entries)) ≡ true
accepts_some-entry cond b entries place view here accepted =
    accepts_some-next cond b entries place view here ∙ ap (λ first. first || accepts_some cond b (born_in (drop (place + 1) entries))) accepted

pub accepts_some-later : (cond : Cond) (b : Bindings) (entries : List Entry) (place : ℕ) (view : EntryView) → slice_get entries place ≡ Some (entry_in view) → accepts_some cond b (born_of view) ≡ false → accepts_some cond b (born_in (drop place entries)) ≡ accepts_some cond b (born_in (drop (place + 1) entries))
accepts_some-later cond b entries place view here refused =
    accepts_some-next cond b entries place view here ∙ ap (λ first. first || accepts_some cond b (born_in (drop (place + 1) entries))) refused

-- what holds of all that was born holds of what was born from a place on
pub each_born : (P : Element → Type 0) (n : ℕ) (entries : List Entry) → AllByRecursion P (born_in entries) → AllByRecursion P (born_in (drop n entries))
each_born P zero entries all = all
each_born P (suc n) [] all = all
each_born P (suc n) (entry ∷ entries) all = each_born P n entries (Each-split P (filter_map born_by entry.changes) (born_in entries) all).1
