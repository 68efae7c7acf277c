-- The walk of a match, condition element by condition element, and when a later memory has the same.
use Rattle.std.proofs.Common.{◌≡◌, ℕ, ◌+◌, List, [], ◌∷◌, Bool, true, false, not, Option, Some, None, inl, inr, Result, Ok, length, option_and_then, option_map, refl, sym, ◌∙◌, ap, subst}
use Rattle.std.specs.List.{cons_option}
use Rattle.rule_base.specs.declared.value.Value.{Value}
use Rattle.rule_base.specs.declared.element.Element.{Element}
use Rattle.rule_base.specs.declared.condition.Test.TheVariants.{Bind}
use Rattle.rule_base.specs.declared.condition.Cond.{Cond}
use Rattle.rule_base.specs.Chains.{only_if}
use Rattle.rule_base.specs.Memory.{Memory, element_at, elements_at}
use Rattle.rule_base.specs.Bindings.{Bindings}
use Rattle.rule_base.specs.Acceptance.{accepts}
use Rattle.rule_base.specs.Match.{accepts_some, after_cond, go_on, match_from}
use Rattle.rule_base.specs.Sound.{SoundConds, known_after_cond}
use Rattle.rule_base.proofs.AmongLemmas.{Among}
use Rattle.interference.specs.Given.{taken}
use Rattle.interference.proofs.BindingLemmas.{Agrees, Agrees-accepted, HasValue, IsAccepted-accepts, IsFilled-tests, Tells}
use Rattle.interference.proofs.GivenLemmas.{taken_by}

-- a positive condition element accepts the element with this tag, and the walk goes on with what it leaves
pub record Takes (memory : Memory) (first : Cond) (bindings : Bindings) (tag : ℕ) (Rest : Bindings → Type 0) : Type 0 where
  pub element : Element
  pub after : Bindings
  pub at : element_at memory tag ≡ Some element
  pub accepted : accepts first bindings element ≡ Some after
  pub rest : Rest after

-- a condition element of this sign holds, and the walk goes on
abbrev pub WalksBy : Bool → Cond → Memory → List ℕ → Bindings → (List ℕ → Bindings → Type 0) → Type 0
WalksBy true first memory tags bindings Rest = (accepts_some first bindings memory ≡ false) × Rest tags bindings
WalksBy false first memory [] bindings Rest = ⊥
WalksBy false first memory (tag ∷ tags) bindings Rest = Takes memory first bindings tag (Rest tags)

-- the condition elements match with these tags, from these bindings to the last
abbrev pub Walks : Memory → Bindings → List Cond → List ℕ → Bindings → Type 0
Walks memory last [] [] bindings = bindings ≡ last
Walks memory last [] (tag ∷ tags) bindings = ⊥
Walks memory last (first ∷ conds) tags bindings = WalksBy first.negated first memory tags bindings (Walks memory last conds)

-- what follows a condition element in the match
abbrev after_first : ℕ → List Cond → Memory → List ℕ × Bindings → Result Bindings ℕ
after_first number conds memory after = match_from (number + 1) conds memory after.0 after.1

abbrev RestWalks : ℕ → List Cond → Memory → Bindings → Type 0
RestWalks number conds memory last = (tags : List ℕ) (bindings : Bindings) → match_from number conds memory tags bindings ≡ Ok last → Walks memory last conds tags bindings

of_negated : (number : ℕ) (first : Cond) (conds : List Cond) (memory : Memory) (tags : List ℕ) (bindings last : Bindings) (b : Bool) → accepts_some first bindings memory ≡ b → RestWalks (number + 1) conds memory last → go_on {A = List ℕ × Bindings} number (only_if (not b) (tags, bindings)) (after_first number conds memory) ≡ Ok last → WalksBy true first memory tags bindings (Walks memory last conds)
of_negated number first conds memory tags bindings last true is rest ok = absurd (let wrong : ⊥ = cc in wrong)
of_negated number first conds memory tags bindings last false is rest ok = (is, rest tags bindings ok)

of_accepted : (number : ℕ) (first : Cond) (conds : List Cond) (memory : Memory) (tag : ℕ) (tags : List ℕ) (bindings last : Bindings) (e : Element) (o : Option Bindings) → element_at memory tag ≡ Some e → accepts first bindings e ≡ o → RestWalks (number + 1) conds memory last → go_on {A = List ℕ × Bindings} number (option_map (λ after. (tags, after)) o) (after_first number conds memory) ≡ Ok last → Takes memory first bindings tag (Walks memory last conds tags)
of_accepted number first conds memory tag tags bindings last e None at is rest ok = absurd (let wrong : ⊥ = cc in wrong)
of_accepted number first conds memory tag tags bindings last e (Some after) at is rest ok = record { element = e; after = after; at = at; accepted = is; rest = rest tags after ok }

of_present : (number : ℕ) (first : Cond) (conds : List Cond) (memory : Memory) (tag : ℕ) (tags : List ℕ) (bindings last : Bindings) (o : Option Element) → element_at memory tag ≡ o → RestWalks (number + 1) conds memory last → go_on {A = List ℕ × Bindings} number (option_map (λ after. (tags, after)) (option_and_then (accepts first bindings) o)) (after_first number conds memory) ≡ Ok last → Takes memory first bindings tag (Walks memory last conds tags)
of_present number first conds memory tag tags bindings last None at rest ok = absurd (let wrong : ⊥ = cc in wrong)
of_present number first conds memory tag tags bindings last (Some e) at rest ok = of_accepted number first conds memory tag tags bindings last e (accepts first bindings e) at refl rest ok

of_sign : (sign : Bool) (number : ℕ) (first : Cond) (conds : List Cond) (memory : Memory) (tags : List ℕ) (bindings last : Bindings) → RestWalks (number + 1) conds memory last → go_on number (after_cond sign first memory tags bindings) (after_first number conds memory) ≡ Ok last → WalksBy sign first memory tags bindings (Walks memory last conds)
of_sign true number first conds memory tags bindings last rest ok = of_negated number first conds memory tags bindings last (accepts_some first bindings memory) refl rest ok
of_sign false number first conds memory [] bindings last rest ok = absurd (let wrong : ⊥ = cc in wrong)
of_sign false number first conds memory (tag ∷ tags) bindings last rest ok = of_present number first conds memory tag tags bindings last (element_at memory tag) refl rest ok

-- a match that succeeds walks
pub Walks-match_from : (number : ℕ) (conds : List Cond) (memory : Memory) (last : Bindings) (tags : List ℕ) (bindings : Bindings) → match_from number conds memory tags bindings ≡ Ok last → Walks memory last conds tags bindings
Walks-match_from number [] memory last [] bindings ok = cc
Walks-match_from number [] memory last (tag ∷ tags) bindings ok = absurd (let wrong : ⊥ = cc in wrong)
Walks-match_from number (first ∷ conds) memory last tags bindings ok = of_sign first.negated number first conds memory tags bindings last (Walks-match_from (number + 1) conds memory last) ok

-- and what walks is a match that succeeds
abbrev RestMatches : ℕ → List Cond → Memory → Bindings → Type 0
RestMatches number conds memory last = (tags : List ℕ) (bindings : Bindings) → Walks memory last conds tags bindings → match_from number conds memory tags bindings ≡ Ok last

match_by_sign : (sign : Bool) (number : ℕ) (first : Cond) (conds : List Cond) (memory : Memory) (tags : List ℕ) (bindings last : Bindings) → RestMatches (number + 1) conds memory last → WalksBy sign first memory tags bindings (Walks memory last conds) → go_on number (after_cond sign first memory tags bindings) (after_first number conds memory) ≡ Ok last
match_by_sign true number first conds memory tags bindings last rest walks =
    ap (λ b. go_on {A = List ℕ × Bindings} number (only_if (not b) (tags, bindings)) (after_first number conds memory)) walks.0 ∙ rest tags bindings walks.1
match_by_sign false number first conds memory [] bindings last rest walks = absurd walks
match_by_sign false number first conds memory (tag ∷ tags) bindings last rest walks =
    ap (λ o. go_on {A = List ℕ × Bindings} number (option_map (λ after. (tags, after)) (option_and_then (accepts first bindings) o)) (after_first number conds memory)) walks.at
    ∙ ap (λ o. go_on {A = List ℕ × Bindings} number (option_map (λ after. (tags, after)) o) (after_first number conds memory)) walks.accepted
    ∙ rest tags walks.after walks.rest

pub match_from-Walks : (number : ℕ) (conds : List Cond) (memory : Memory) (last : Bindings) (tags : List ℕ) (bindings : Bindings) → Walks memory last conds tags bindings → match_from number conds memory tags bindings ≡ Ok last
match_from-Walks number [] memory last [] bindings walks = ap (λ b. Ok b) walks
match_from-Walks number [] memory last (tag ∷ tags) bindings walks = absurd walks
match_from-Walks number (first ∷ conds) memory last tags bindings walks = match_by_sign first.negated number first conds memory tags bindings last (match_from-Walks (number + 1) conds memory last) walks

-- each tag of a walk has its element
found_by_sign : (sign : Bool) (first : Cond) (conds : List Cond) (memory : Memory) (tags : List ℕ) (bindings last : Bindings) → ((ts : List ℕ) (b : Bindings) → Walks memory last conds ts b → (tag : ℕ) → Among tag ts → (e : Element) × (element_at memory tag ≡ Some e)) → WalksBy sign first memory tags bindings (Walks memory last conds) → (tag : ℕ) → Among tag tags → (e : Element) × (element_at memory tag ≡ Some e)
found_by_sign true first conds memory tags bindings last rest walks tag among = rest tags bindings walks.1 tag among
found_by_sign false first conds memory [] bindings last rest walks tag among = absurd among
found_by_sign false first conds memory (other ∷ tags) bindings last rest walks tag (inl same) = (walks.element, ap (element_at memory) same ∙ walks.at)
found_by_sign false first conds memory (other ∷ tags) bindings last rest walks tag (inr later) = rest tags walks.after walks.rest tag later

pub found_on_walk : (conds : List Cond) (memory : Memory) (tags : List ℕ) (bindings last : Bindings) → Walks memory last conds tags bindings → (tag : ℕ) → Among tag tags → (e : Element) × (element_at memory tag ≡ Some e)
found_on_walk [] memory [] bindings last walks tag among = absurd among
found_on_walk [] memory (other ∷ tags) bindings last walks tag among = absurd walks
found_on_walk (first ∷ conds) memory tags bindings last walks tag among = found_by_sign first.negated first conds memory tags bindings last (λ ts b. found_on_walk conds memory ts b last) walks tag among

-- the pairs of the first element and of those behind it
abbrev TellsAll : (ℕ → Option Value) → List (Cond × Element) → Type 0
TellsAll gives pairs = (pair : Cond × Element) → Among pair pairs → Tells gives pair

pairs_at : (first : Cond) (conds : List Cond) (memory : Memory) (tag : ℕ) (tags : List ℕ) (e : Element) → element_at memory tag ≡ Some e → taken_by false first conds (elements_at memory (tag ∷ tags)) ≡ (first, e) ∷ taken conds (elements_at memory tags)
pairs_at first conds memory tag tags e at = ap (λ o. taken_by false first conds (cons_option o (elements_at memory tags))) at

-- what negated condition elements refuse in a memory they refuse in a later one, under bindings that have only what is given
abbrev pub RefusesLater : (ℕ → Option Value) → Memory → Memory → Cond → Type 0
RefusesLater gives memory later c = (bindings : Bindings) → c.negated ≡ true → Agrees gives bindings → accepts_some c bindings memory ≡ false → accepts_some c bindings later ≡ false

-- then the walk is the same in the later memory, where it has the elements of the tags
abbrev StaysFound : Memory → Memory → List ℕ → Type 0
StaysFound memory later tags = (tag : ℕ) → Among tag tags → element_at later tag ≡ element_at memory tag

abbrev RestStays : (ℕ → Option Value) → Memory → Memory → Bindings → List Cond → Type 0
RestStays gives memory later last conds = (tags : List ℕ) (bindings : Bindings) → StaysFound memory later tags → TellsAll gives (taken conds (elements_at memory tags)) → Agrees gives bindings → Walks memory last conds tags bindings → Walks later last conds tags bindings

stays_by_sign : (sign : Bool) (gives : ℕ → Option Value) (memory later : Memory) (last : Bindings) (first : Cond) (conds : List Cond) (tags : List ℕ) (bindings : Bindings) → first.negated ≡ sign → RefusesLater gives memory later first → RestStays gives memory later last conds
    → StaysFound memory later tags → TellsAll gives (taken_by sign first conds (elements_at memory tags)) → Agrees gives bindings → WalksBy sign first memory tags bindings (Walks memory last conds) → WalksBy sign first later tags bindings (Walks later last conds)
stays_by_sign true gives memory later last first conds tags bindings is refuses rest found tells agrees walks =
    (refuses bindings is agrees walks.0, rest tags bindings found tells agrees walks.1)
stays_by_sign false gives memory later last first conds [] bindings is refuses rest found tells agrees walks = walks
stays_by_sign false gives memory later last first conds (tag ∷ tags) bindings is refuses rest found tells agrees walks =
    let all : TellsAll gives ((first, walks.element) ∷ taken conds (elements_at memory tags)) = subst (TellsAll gives) (pairs_at first conds memory tag tags walks.element walks.at) tells in
    record {
      element = walks.element;
      after = walks.after;
      at = found tag (inl refl) ∙ walks.at;
      accepted = walks.accepted;
      rest = rest tags walks.after (λ t among. found t (inr among)) (λ pair among. all pair (inr among)) (Agrees-accepted gives first walks.element bindings walks.after (all (first, walks.element) (inl refl)) agrees walks.accepted) walks.rest;
    }

pub Walks-later : (gives : ℕ → Option Value) (memory later : Memory) (last : Bindings) (conds : List Cond) → ((c : Cond) → Among c conds → RefusesLater gives memory later c) → RestStays gives memory later last conds
Walks-later gives memory later last [] refuses [] bindings found tells agrees walks = walks
Walks-later gives memory later last [] refuses (tag ∷ tags) bindings found tells agrees walks = walks
Walks-later gives memory later last (first ∷ conds) refuses tags bindings found tells agrees walks =
    stays_by_sign first.negated gives memory later last first conds tags bindings refl (refuses first (inl refl)) (Walks-later gives memory later last conds (λ c among. refuses c (inr among))) found tells agrees walks

-- the last bindings have only what is given
abbrev RestAgrees : (ℕ → Option Value) → Memory → Bindings → List Cond → Type 0
RestAgrees gives memory last conds = (tags : List ℕ) (bindings : Bindings) → TellsAll gives (taken conds (elements_at memory tags)) → Agrees gives bindings → Walks memory last conds tags bindings → Agrees gives last

agrees_by_sign : (sign : Bool) (gives : ℕ → Option Value) (memory : Memory) (last : Bindings) (first : Cond) (conds : List Cond) (tags : List ℕ) (bindings : Bindings) → RestAgrees gives memory last conds → TellsAll gives (taken_by sign first conds (elements_at memory tags)) → Agrees gives bindings → WalksBy sign first memory tags bindings (Walks memory last conds) → Agrees gives last
agrees_by_sign true gives memory last first conds tags bindings rest tells agrees walks = rest tags bindings tells agrees walks.1
agrees_by_sign false gives memory last first conds [] bindings rest tells agrees walks = absurd walks
agrees_by_sign false gives memory last first conds (tag ∷ tags) bindings rest tells agrees walks =
    let all : TellsAll gives ((first, walks.element) ∷ taken conds (elements_at memory tags)) = subst (TellsAll gives) (pairs_at first conds memory tag tags walks.element walks.at) tells in
    rest tags walks.after (λ pair among. all pair (inr among)) (Agrees-accepted gives first walks.element bindings walks.after (all (first, walks.element) (inl refl)) agrees walks.accepted) walks.rest

pub Agrees-walk : (gives : ℕ → Option Value) (memory : Memory) (last : Bindings) (conds : List Cond) → RestAgrees gives memory last conds
Agrees-walk gives memory last [] [] bindings tells agrees walks = subst (Agrees gives) walks agrees
Agrees-walk gives memory last [] (tag ∷ tags) bindings tells agrees walks = absurd walks
Agrees-walk gives memory last (first ∷ conds) tags bindings tells agrees walks = agrees_by_sign first.negated gives memory last first conds tags bindings (Agrees-walk gives memory last conds) tells agrees walks

-- and each variable that a positive condition element binds has a value in them
pub record IsFull (last : Bindings) (bindings : Bindings) (pairs : List (Cond × Element)) : Type 0 where
  pub stays : (w : ℕ) → HasValue bindings w → HasValue last w
  pub fills : (pair : Cond × Element) (attr var : ℕ) → Among pair pairs → Among (Bind attr var) pair.0.tests → HasValue last var

abbrev RestFills : List ℕ → ℕ → Memory → Bindings → List Cond → Type 0
RestFills sizes vars memory last conds = (known tags : List ℕ) (bindings : Bindings) → SoundConds sizes vars known conds → length bindings ≡ vars → Walks memory last conds tags bindings → IsFull last bindings (taken conds (elements_at memory tags))

fills_by_sign : (sign : Bool) (sizes : List ℕ) (vars : ℕ) (memory : Memory) (last : Bindings) (first : Cond) (conds : List Cond) (known tags : List ℕ) (bindings : Bindings) → RestFills sizes vars memory last conds → SoundConds sizes vars known (first ∷ conds) → length bindings ≡ vars → WalksBy sign first memory tags bindings (Walks memory last conds) → IsFull last bindings (taken_by sign first conds (elements_at memory tags))
fills_by_sign true sizes vars memory last first conds known tags bindings rest sound long walks = rest (known_after_cond first.negated known first.tests) tags bindings sound.2 long walks.1
fills_by_sign false sizes vars memory last first conds known [] bindings rest sound long walks = absurd walks
fills_by_sign false sizes vars memory last first conds known (tag ∷ tags) bindings rest sound long walks =
    let is = IsAccepted-accepts first bindings walks.element walks.after walks.accepted in
    let here = IsFilled-tests _ vars known first.tests bindings walks.after walks.element.values sound.1 long is.passed in
    let later = rest (known_after_cond first.negated known first.tests) tags walks.after sound.2 (here.long ∙ long) walks.rest in
    subst (IsFull last bindings) (sym (pairs_at first conds memory tag tags walks.element walks.at)) (record {
      stays = λ w has. later.stays w (here.stays w has);
      fills = λ pair attr var of_pair among. by_place walks.after walks.element (taken conds (elements_at memory tags)) pair attr var here.fills later.stays later.fills of_pair among;
    })
  where
    by_place : (after : Bindings) (e : Element) (pairs : List (Cond × Element)) (pair : Cond × Element) (attr var : ℕ) → ((at u : ℕ) → Among (Bind at u) first.tests → HasValue after u) → ((w : ℕ) → HasValue after w → HasValue last w) → ((p : Cond × Element) (at u : ℕ) → Among p pairs → Among (Bind at u) p.0.tests → HasValue last u) → Among pair ((first, e) ∷ pairs) → Among (Bind attr var) pair.0.tests → HasValue last var
    by_place after e pairs pair attr var fills stays later (inl same) among = stays var (fills attr var (subst (λ (p : Cond × Element). Among (Bind attr var) p.0.tests) same among))
    by_place after e pairs pair attr var fills stays later (inr there) among = later pair attr var there among

pub IsFull-walk : (sizes : List ℕ) (vars : ℕ) (memory : Memory) (last : Bindings) (conds : List Cond) → RestFills sizes vars memory last conds
IsFull-walk sizes vars memory last [] known [] bindings sound long walks = record { stays = λ w has. subst (λ b. HasValue b w) walks has; fills = λ pair attr var of_pair among. absurd of_pair }
IsFull-walk sizes vars memory last [] known (tag ∷ tags) bindings sound long walks = absurd walks
IsFull-walk sizes vars memory last (first ∷ conds) known tags bindings sound long walks = fills_by_sign first.negated sizes vars memory last first conds known tags bindings (IsFull-walk sizes vars memory last conds) sound long walks
