-- Elements that were born since a choice was last seen to match: it is fired still where none of them blocks it.
use Rattle.std.proofs.Common.{◌≡◌, ℕ, ◌+◌, ◌<◌, ◌≤◌, List, [], ◌∷◌, ◌++◌, Bool, true, false, not, ◌&&◌, ◌==◌, Option, Some, None, inl, inr, length, refl, sym, ◌∙◌, ap, subst, arith, append_assoc, ◌⊎◌}
use Rattle.std.specs.Prelude.{IsSome}
use Rattle.std.specs.List.{AllByRecursion, filter, list_any}
use Rattle.std.proofs.lemmas.Bool.Decides.{Decides-eqb}
use Rattle.rule_base.specs.declared.base.Refraction.TheVariants.{Renewed}
use Rattle.rule_base.specs.declared.change.Change.{Change}
use Rattle.rule_base.specs.declared.change.Change.TheVariants.{Make, Remove}
use Rattle.rule_base.specs.declared.element.Element.{Element}
use Rattle.rule_base.specs.declared.instantiation.Choice.{Choice}
use Rattle.rule_base.specs.declared.program.Program.{Program}
use Rattle.rule_base.specs.Effect.{Effect, removed_tags}
use Rattle.rule_base.specs.Memory.{Memory, Rises, element_at, tags_of}
use Rattle.rule_base.specs.Sound.{sizes_of}
use Rattle.rule_base.specs.State.{IsState, State, has_fired, same_choice}
use Rattle.rule_base.specs.Step.{born, committed, is_listed, matches, memory_after, still_fired, without}
use Rattle.rule_base.proofs.AmongLemmas.{Among, Among-append_left, Among-append_right, IsFound-find}
use Rattle.rule_base.proofs.ChoiceLemmas.{any_filter, any_filtered}
use Rattle.rule_base.proofs.EachLemmas.{Each-append, Each-filter, Each-filtered, Each-weaker}
use Rattle.rule_base.proofs.ListedLemmas.{list_any-matches}
use Rattle.rule_base.proofs.MemoryLemmas.{AllFound-rising}
use Rattle.rule_base.proofs.StillFiredLemmas.{is_listed-matches}
use Rattle.refraction_index.specs.Beside.{AreThere, blocks_none}
use Rattle.refraction_index.proofs.BesideLemmas.{AreSame, blocks_none-append, blocks_none-fewer, blocks_none-itself, blocks_none-same, first_of_both, AreThere-matches, matches-beside, matches-elsewhere}
use Rattle.refraction_index.proofs.MemberLemmas.{AllAmong-itself, Among-either, Among-filter, Each-among, Each-any}

-- two tests of which each holds where the other does are the same
both_ways : (a b : Bool) → (a ≡ true → b ≡ true) → (b ≡ true → a ≡ true) → a ≡ b
both_ways true b there back = sym (there refl)
both_ways false true there back = back refl
both_ways false false there back = refl

-- an element that is found at a tag in one memory is found there in the other
abbrev pub Keeps : Memory → Memory → List ℕ → Type 0
Keeps memory old tags = AllByRecursion (λ tag. (e : Element) → element_at memory tag ≡ Some e → element_at old tag ≡ Some e) tags

pub Keeps-itself : (memory : Memory) (tags : List ℕ) → Keeps memory memory tags
Keeps-itself memory [] = tt
Keeps-itself memory (tag ∷ tags) = ((λ e at. at), Keeps-itself memory tags)

-- so tags that are there have the same elements in both
same_element : (tag : ℕ) (memory old : Memory) (o : Option Element) → element_at memory tag ≡ o → IsSome o → ((e : Element) → element_at memory tag ≡ Some e → element_at old tag ≡ Some e) → element_at memory tag ≡ element_at old tag
same_element tag memory old None at some keeps = absurd (let wrong : ⊥ = cc in wrong)
same_element tag memory old (Some e) at some keeps = at ∙ sym (keeps e at)

AreSame-kept : (memory old : Memory) (tags : List ℕ) → AreThere memory tags → Keeps memory old tags → AreSame memory old tags
AreSame-kept memory old [] there keeps = tt
AreSame-kept memory old (tag ∷ tags) there keeps = (same_element tag memory old (element_at memory tag) refl there.0 keeps.0, AreSame-kept memory old tags there.1 keeps.1)

AreSame-turned : (memory old : Memory) (tags : List ℕ) → AreSame memory old tags → AreSame old memory tags
AreSame-turned memory old tags same = Each-weaker (λ tag. element_at memory tag ≡ element_at old tag) (λ tag. element_at old tag ≡ element_at memory tag) (λ tag is. sym is) tags same

AreThere-kept : (memory old : Memory) (tags : List ℕ) → AreThere memory tags → Keeps memory old tags → AreThere old tags
AreThere-kept memory old [] there keeps = tt
AreThere-kept memory old (tag ∷ tags) there keeps =
    (subst (λ (o : Option Element). IsSome o) (same_element tag memory old (element_at memory tag) refl there.0 keeps.0) there.0, AreThere-kept memory old tags there.1 keeps.1)

-- what a memory keeps over two stretches
Keeps-over : (now memory old : Memory) (tags : List ℕ) → Keeps now memory tags → Keeps memory old tags → Keeps now old tags
Keeps-over now memory old [] one two = tt
Keeps-over now memory old (tag ∷ tags) one two = ((λ e at. two.0 e (one.0 e at)), Keeps-over now memory old tags one.1 two.1)

-- a choice that was seen to match in a memory from before, and which elements were born since: it is fired where none of
-- them blocks it
pub record IsSince (program : Program) (s : State) (c : Choice) (since : Memory) : Type 0 where
  pub old : Memory
  pub matched : matches program old c ≡ true
  pub from : AllByRecursion (λ (e : Element). Among e (old ++ since)) s.memory
  pub keeps : Keeps s.memory old c.tags
  pub given : AllByRecursion (λ tag. tag < s.next) c.tags
  pub free : has_fired s c ≡ true → blocks_none program old since c ≡ true
  pub fired : AreThere s.memory c.tags → blocks_none program old since c ≡ true → has_fired s c ≡ true

-- of a choice that matches this tells whether it is fired
pub has_fired-since : (program : Program) (s : State) (c : Choice) (since : Memory) → Rises (tags_of s.memory) → matches program s.memory c ≡ true → IsSince program s c since → has_fired s c ≡ matches program (s.memory ++ since) c
has_fired-since program s c since rises ok told =
    let there = AreThere-matches program s.memory c rises ok in
    let same : blocks_none program s.memory since c ≡ blocks_none program told.old since c = blocks_none-same program s.memory told.old since c (AreSame-kept s.memory told.old c.tags there told.keeps) in
    both_ways (has_fired s c) (blocks_none program told.old since c) told.free (told.fired there)
    ∙ sym same
    ∙ sym (matches-beside program s.memory since c rises ok)

-- the elements that changes make have tags from the next one on
born_from : (next : ℕ) (changes : List Change) → AllByRecursion (λ (e : Element). next ≤ e.tag) (born next changes)
born_from next [] = tt
born_from next (Remove tag ∷ changes) = born_from next changes
born_from next (Make class values ∷ changes) = (omega arith, Each-weaker (λ (e : Element). next + 1 ≤ e.tag) (λ (e : Element). next ≤ e.tag) (λ e le. omega (arith, le)) (born (next + 1) changes) (born_from (next + 1) changes))

-- where a commit leads: the choice matches, and the memory rises before and after
pub record IsCommit (program : Program) (s : State) (d : Choice) (done : Effect) : Type 0 where
  pub state : IsState (sizes_of program.classes) s
  pub after : IsState (sizes_of program.classes) (committed program s d done)
  pub matched : matches program s.memory d ≡ true

-- an element with a tag that was given before the commit was there before it
was_there : (s : State) (done : Effect) (tag : ℕ) (e : Element) → Rises (tags_of s.memory) → tag < s.next → e.tag ≡ tag → Among e (without s.memory (removed_tags done.changes)) ⊎ Among e (born s.next done.changes) → element_at s.memory tag ≡ Some e
was_there s done tag e rises lt same (inl there) =
    let stays = λ (x : Element). not (list_any (λ gone. gone == x.tag) (removed_tags done.changes)) in
    subst (λ t. element_at s.memory t ≡ Some e) same (Each-among (λ (x : Element). element_at s.memory x.tag ≡ Some x) e s.memory (AllFound-rising s.memory rises) (Among-filter stays e s.memory there))
was_there s done tag e rises lt same (inr there) = absurd (omega (arith, lt, same, Each-among (λ (x : Element). s.next ≤ x.tag) e (born s.next done.changes) (born_from s.next done.changes) there))

Keeps-commit : (s : State) (done : Effect) (tags : List ℕ) → Rises (tags_of s.memory) → AllByRecursion (λ tag. tag < s.next) tags → Keeps (memory_after s done) s.memory tags
Keeps-commit s done [] rises given = tt
Keeps-commit s done (tag ∷ tags) rises given = (
  λ (e : Element) (at : element_at (memory_after s done) tag ≡ Some e).
      let found = IsFound-find (λ (x : Element). x.tag == tag) (memory_after s done) e at in
      was_there s done tag e rises given.0 ((Decides-eqb e.tag tag).0 found.passes) (Among-either e (without s.memory (removed_tags done.changes)) (born s.next done.changes) found.there),
  Keeps-commit s done tags rises given.1,
)

-- each element after a commit was there before it, or was born by it
from_after : (s : State) (done : Effect) (old before : Memory) → AllByRecursion (λ (e : Element). Among e (old ++ before)) s.memory → AllByRecursion (λ (e : Element). Among e (old ++ (before ++ born s.next done.changes))) (memory_after s done)
from_after s done old before from =
    let new = born s.next done.changes in
    let stays = λ (x : Element). not (list_any (λ gone. gone == x.tag) (removed_tags done.changes)) in
    let InAll : Element → Type 0 = λ e. Among e (old ++ (before ++ new)) in
    Each-append InAll (without s.memory (removed_tags done.changes)) new
    (Each-filter InAll stays s.memory (Each-weaker (λ (e : Element). Among e (old ++ before)) InAll (λ e there. subst (λ (es : List Element). Among e es) (append_assoc old before new) (Among-append_left e (old ++ before) new there)) s.memory from))
    (Each-weaker (λ (e : Element). Among e new) InAll (λ e there. Among-append_right e old (before ++ new) (Among-append_right e before new there)) new (AllAmong-itself new))

-- the elements that a commit makes are there after it
new_among : (s : State) (done : Effect) → AllByRecursion (λ (e : Element). Among e (memory_after s done)) (born s.next done.changes)
new_among s done =
    let new = born s.next done.changes in
    Each-weaker (λ (e : Element). Among e new) (λ (e : Element). Among e (memory_after s done)) (λ e there. Among-append_right e (without s.memory (removed_tags done.changes)) new there) new (AllAmong-itself new)

-- under `Renewed` the fired choices after a commit
fired_after : (program : Program) (s : State) (d : Choice) (done : Effect) → s.refraction ≡ Renewed → (committed program s d done).fired ≡ filter (is_listed program (memory_after s done)) (s.fired ++ d ∷ [])
fired_after program s d done renewed = ap (λ r. still_fired r program (memory_after s done) (s.fired ++ d ∷ [])) renewed

-- one commit more
pub IsSince-commit : (program : Program) (s : State) (d : Choice) (done : Effect) (c : Choice) (old before : Memory) → s.refraction ≡ Renewed → IsCommit program s d done → matches program old c ≡ true → AllByRecursion (λ (e : Element). Among e (old ++ before)) s.memory → Keeps s.memory old c.tags → AllByRecursion (λ tag. tag < s.next) c.tags
    → (list_any (same_choice c) (s.fired ++ d ∷ []) ≡ true → blocks_none program old before c ≡ true)
    → (AreThere s.memory c.tags → blocks_none program old before c ≡ true → list_any (same_choice c) (s.fired ++ d ∷ []) ≡ true)
    → IsSince program (committed program s d done) c (before ++ born s.next done.changes)
IsSince-commit program s d done c old before renewed commit matched from keeps given free fired =
    let new = born s.next done.changes in
    let memory = memory_after s done in
    let rises : Rises (tags_of memory) = commit.after.elements.rising in
    let now : Keeps memory s.memory c.tags = Keeps-commit s done c.tags commit.state.elements.rising given in
    let all : Keeps memory old c.tags = Keeps-over memory s.memory old c.tags now keeps in
    let apart : blocks_none program old (before ++ new) c ≡ (blocks_none program old before c && blocks_none program old new c) = blocks_none-append program old before new c in
    let kept = fired_after program s d done renewed in
    record {
      old = old;
      matched = matched;
      from = from_after s done old before from;
      keeps = all;
      given = Each-weaker (λ tag. tag < s.next) (λ tag. tag < s.next + length new) (λ tag lt. omega (arith, lt)) c.tags given;
      free = λ (any : has_fired (committed program s d done) c ≡ true).
          let among : list_any (same_choice c) (filter (is_listed program memory) (s.fired ++ d ∷ [])) ≡ true = ap (λ (cs : List Choice). list_any (same_choice c) cs) (sym kept) ∙ any in
          let listed : is_listed program memory c ≡ true = Each-any (λ (x : Choice). is_listed program memory x ≡ true) c (filter (is_listed program memory) (s.fired ++ d ∷ [])) (Each-filtered (is_listed program memory) (s.fired ++ d ∷ [])) among in
          let ok : matches program memory c ≡ true = sym (is_listed-matches program memory c rises) ∙ listed in
          let same = AreSame-kept memory old c.tags (AreThere-matches program memory c rises ok) all in
          let by_new : blocks_none program old new c ≡ true = sym (blocks_none-same program memory old new c same) ∙ blocks_none-fewer program memory memory new c (new_among s done) (blocks_none-itself program memory c ok) in
          apart ∙ ap (λ b. b && blocks_none program old new c) (free (any_filtered c (is_listed program memory) (s.fired ++ d ∷ []) among)) ∙ by_new;
      fired = λ (there : AreThere memory c.tags) (none : blocks_none program old (before ++ new) c ≡ true).
          let by_before : blocks_none program old before c ≡ true = first_of_both (blocks_none program old before c) (blocks_none program old new c) (sym apart ∙ none) in
          let by_all : blocks_none program old (old ++ (before ++ new)) c ≡ true = blocks_none-append program old old (before ++ new) c ∙ ap (λ b. b && blocks_none program old (before ++ new) c) (blocks_none-itself program old c matched) ∙ none in
          let by_memory : blocks_none program old memory c ≡ true = blocks_none-fewer program old (old ++ (before ++ new)) memory c (from_after s done old before from) by_all in
          let same = AreSame-turned memory old c.tags (AreSame-kept memory old c.tags there all) in
          let listed : is_listed program memory c ≡ true = list_any-matches program memory c (matches-elsewhere program old memory c same matched by_memory) in
          ap (λ (cs : List Choice). list_any (same_choice c) cs) kept
          ∙ any_filter c (is_listed program memory) (s.fired ++ d ∷ []) (fired (AreThere-kept memory s.memory c.tags there now) by_before) listed;
    }
