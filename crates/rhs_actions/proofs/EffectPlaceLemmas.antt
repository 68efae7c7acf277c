-- Effects in flat arrays: values that are added hide none, and a change that is added lies behind the others.
use Rattle.std.proofs.Common.{◌≡◌, ℕ, ◌+◌, ◌-◌, ◌≤◌, List, [], ◌∷◌, ◌++◌, Bool, Result, Ok, length, drop, take, replicate, refl, sym, ◌∙◌, ap, subst, arith, append_assoc}
use Rattle.std.specs.List.{sum_by}
use Rattle.std.proofs.lemmas.List.{drop-append-le, length-drop, length-take-le, map-append, take-append-drop, take-append-le, take_all}
use Rattle.std.proofs.lemmas.List.Sums.{sum_by-cons}
use Rattle.std.proofs.Math.Seq.{drop-append_seam, take-append_seam}
use Rattle.rule_base.specs.declared.value.Value.{Value}
use Rattle.rule_base.specs.declared.element.Element.{Element}
use Rattle.rule_base.specs.declared.action.Term.{Term}
use Rattle.rule_base.specs.declared.change.Change.TheVariants as change
use Rattle.rule_base.specs.declared.change.Piece.{Piece}
use Rattle.rule_base.specs.declared.entry.FaultCause.{FaultCause}
use Rattle.rule_base.specs.Chains.{◌>>=◌}
use Rattle.rule_base.specs.Value.{nil}
use Rattle.rule_base.specs.Bindings.{Bindings}
use Rattle.rule_base.specs.Term.{after_sets}
use Rattle.rule_base.specs.Effect.{Effect, Progress, changing, modified, removed_tags}
use Rattle.rule_base.specs.Step.{born}
use Rattle.rule_base.proofs.EachLemmas.{Each-append, Each-weaker}
use Rattle.rule_base.proofs.EffectLemmas.{makes}
use Rattle.rhs_actions.specs.declared.effect.Placed.{Placed}
use Rattle.rhs_actions.specs.declared.effect.Placed.TheVariants.{Remove, Make}
use Rattle.rhs_actions.specs.EffectPlaces.{AreWithin, IsWithin, LieAmong, change_of, changes_in, effect_in, sizes_of, tags_at}
use Rattle.rhs_actions.specs.Acting.{made, reached}

-- a change stays the same where more values follow
change_of-more : (values more : List Value) (place : Placed) → IsWithin values place → change_of (values ++ more) place ≡ change_of values place
change_of-more values more (Remove tag) within = refl
change_of-more values more (Make start size class) within =
    let there : size ≤ length (drop start values) = omega (arith, within, length-drop start values) in
    ap (λ vs. change.Make class vs) (ap (take size) (drop-append-le start values more (omega (arith, within))) ∙ take-append-le size (drop start values) more there)

pub changes_in-more : (values more : List Value) (places : List Placed) → AreWithin values places → changes_in (values ++ more) places ≡ changes_in values places
changes_in-more values more [] within = refl
changes_in-more values more (place ∷ places) within =
    ap (λ c. c ∷ changes_in (values ++ more) places) (change_of-more values more place within.0) ∙ ap (λ cs. change_of values place ∷ cs) (changes_in-more values more places within.1)

-- the tags that are removed don't depend on the values
pub removed_tags-places : (values : List Value) (places : List Placed) → removed_tags (changes_in values places) ≡ tags_at places
removed_tags-places values [] = refl
removed_tags-places values (Remove gone ∷ places) = ap (λ tags. gone ∷ tags) (removed_tags-places values places)
removed_tags-places values (Make start size class ∷ places) = removed_tags-places values places

pub tags_at-append : (places added : List Placed) → tags_at (places ++ added) ≡ tags_at places ++ tags_at added
tags_at-append [] added = refl
tags_at-append (Remove gone ∷ places) added = ap (λ tags. gone ∷ tags) (tags_at-append places added)
tags_at-append (Make start size class ∷ places) added = tags_at-append places added

-- tags that are added as their changes are
pub tags_at-added : (places added placed : List Placed) (gone tags : List ℕ) → gone ≡ tags_at places → placed ≡ places ++ added → tags ≡ gone ++ tags_at added → tags ≡ tags_at placed
tags_at-added places added placed gone tags gone_is placed_is tags_is =
    tags_is ∙ ap (λ ts. ts ++ tags_at added) gone_is ∙ sym (tags_at-append places added) ∙ ap tags_at (sym placed_is)

-- how many elements are made doesn't depend on the values
pub makes-values : (values others : List Value) (places : List Placed) → makes (changes_in values places) ≡ makes (changes_in others places)
makes-values values others [] = refl
makes-values values others (Remove gone ∷ places) = makes-values values others places
makes-values values others (Make start size class ∷ places) = ap (λ n. n + 1) (makes-values values others places)

-- values that stand behind a list: the values of an element that was made among them
pub record IsBehind (values more after : List Value) (start : ℕ) : Type 0 where
  pub begins : start ≡ length values
  pub before : take start after ≡ take start (values ++ more)
  pub long : length after ≡ length (values ++ more)

after_is : (values more after : List Value) (start : ℕ) → IsBehind values more after start → after ≡ values ++ drop start after
after_is values more after start behind =
    let first : take start (values ++ more) ≡ values = ap (λ n. take n (values ++ more)) behind.begins ∙ take-append_seam values more in
    sym (take-append-drop start after) ∙ ap (λ vs. vs ++ drop start after) (behind.before ∙ first)

-- the last change, and those before it
pub changes_in-made : (values more after : List Value) (places : List Placed) (start size class : ℕ)
    → AreWithin values places → IsBehind values more after start → size ≡ length after - start → changes_in after (places ++ Make start size class ∷ []) ≡ changes_in values places ++ change.Make class (drop start after) ∷ []
changes_in-made values more after places start size class within behind size_is =
    let old : changes_in after places ≡ changes_in values places = ap (λ vs. changes_in vs places) (after_is values more after start behind) ∙ changes_in-more values (drop start after) places within in
    let all : take size (drop start after) ≡ drop start after = take_all size (drop start after) (omega (arith, size_is, length-drop start after)) in
    map-append (change_of after) places (Make start size class ∷ [])
    ∙ ap (λ cs. cs ++ change.Make class (take size (drop start after)) ∷ []) old
    ∙ ap (λ vs. changes_in values places ++ change.Make class vs ∷ []) all

-- what lies behind the old values at first
begins_with : (values more : List Value) (start : ℕ) → start ≡ length values → drop start (values ++ more) ≡ more
begins_with values more start begins = ap (λ n. drop n (values ++ more)) begins ∙ drop-append_seam values more

-- a make, of what the arrays have become
pub made-is : (b : Bindings) (sets : List (ℕ × Term)) (values now after : List Value) (places placed : List Placed) (pieces : List Piece) (halts : Bool) (start size class attrs : ℕ)
    → AreWithin values places → now ≡ values ++ replicate attrs nil → start ≡ length values → size ≡ length after - start
    → after_sets b sets (drop start now) ≡ Ok (drop start after) → take start after ≡ take start now → length after ≡ length now → placed ≡ places ++ Make start size class ∷ []
    → made class attrs sets (reached b (effect_in values places pieces halts)) ≡ Ok (reached b (effect_in after placed pieces halts))
made-is b sets values now after places placed pieces halts start size class attrs within now_is begins size_is ok before long placed_is =
    let nils = replicate attrs nil in
    let behind : IsBehind values nils after start = record { begins = begins; before = before ∙ ap (take start) now_is; long = long ∙ ap length now_is } in
    let first : after_sets b sets nils ≡ Ok (drop start after) = ap (after_sets b sets) (sym (ap (drop start) now_is ∙ begins_with values nils start begins)) ∙ ok in
    let old = effect_in values places pieces halts in
    let changes : changes_in values places ++ change.Make class (drop start after) ∷ [] ≡ changes_in after placed =
    sym (ap (changes_in after) placed_is ∙ changes_in-made values nils after places start size class within behind size_is) in
    ap (λ (r : Result (List Value) FaultCause). r >>= λ values. Ok (changing (reached b old) (change.Make class values ∷ []))) first
    ∙ ap (λ cs. let e : Effect = record { changes = cs; pieces = pieces; halts = halts } in let r : Result Progress FaultCause = Ok (reached b e) in r) changes

-- and a modify
pub modified-is : (b : Bindings) (sets : List (ℕ × Term)) (e : Element) (values now after : List Value) (places removed placed : List Placed) (pieces : List Piece) (halts : Bool) (start size : ℕ)
    → AreWithin values places → now ≡ values ++ e.values → start ≡ length values → size ≡ length after - start
    → after_sets b sets (drop start now) ≡ Ok (drop start after) → take start after ≡ take start now → length after ≡ length now
    → removed ≡ places ++ Remove e.tag ∷ [] → placed ≡ removed ++ Make start size e.class ∷ []
    → modified e sets (reached b (effect_in values places pieces halts)) ≡ Ok (reached b (effect_in after placed pieces halts))
modified-is b sets e values now after places removed placed pieces halts start size within now_is begins size_is ok before long removed_is placed_is =
    let behind : IsBehind values e.values after start = record { begins = begins; before = before ∙ ap (take start) now_is; long = long ∙ ap length now_is } in
    let first : after_sets b sets e.values ≡ Ok (drop start after) = ap (after_sets b sets) (sym (ap (drop start) now_is ∙ begins_with values e.values start begins)) ∙ ok in
    let old = effect_in values places pieces halts in
    let last = change.Make e.class (drop start after) in
    let one_more : AreWithin values removed = subst (AreWithin values) (sym removed_is) (Each-append (IsWithin values) places (Remove e.tag ∷ []) within (tt, tt)) in
    let gone : changes_in values removed ≡ changes_in values places ++ change.Remove e.tag ∷ [] = ap (changes_in values) removed_is ∙ map-append (change_of values) places (Remove e.tag ∷ []) in
    let all : changes_in after placed ≡ (changes_in values places ++ change.Remove e.tag ∷ []) ++ last ∷ [] =
    ap (changes_in after) placed_is ∙ changes_in-made values e.values after removed start size e.class one_more behind size_is ∙ ap (λ cs. cs ++ last ∷ []) gone in
    let changes : changes_in values places ++ change.Remove e.tag ∷ last ∷ [] ≡ changes_in after placed = sym (all ∙ append_assoc (changes_in values places) (change.Remove e.tag ∷ []) (last ∷ [])) in
    ap (λ (r : Result (List Value) FaultCause). r >>= λ values. Ok (changing (reached b old) (change.Remove e.tag ∷ change.Make e.class values ∷ []))) first
    ∙ ap (λ cs. let e : Effect = record { changes = cs; pieces = pieces; halts = halts } in let r : Result Progress FaultCause = Ok (reached b e) in r) changes

-- places lie among more values, too
IsWithin-longer : (values after : List Value) (place : Placed) → length values ≤ length after → IsWithin values place → IsWithin after place
IsWithin-longer values after (Remove tag) longer within = tt
IsWithin-longer values after (Make start size class) longer within = omega (arith, longer, within)

sizes_of-append : (places added : List Placed) → sizes_of (places ++ added) ≡ sizes_of places + sizes_of added
sizes_of-append [] added = omega arith
sizes_of-append (place ∷ places) added = omega (arith, sizes_of-append places added)

-- and so do places that are added for values that are
pub LieAmong-added : (values after : List Value) (places added placed : List Placed) → LieAmong values places → length values + sizes_of added ≤ length after → AreWithin after added → placed ≡ places ++ added → LieAmong after placed
LieAmong-added values after places added placed among room within placed_is =
    let all : LieAmong after (places ++ added) = record {
      within = Each-append (IsWithin after) places added (Each-weaker (IsWithin values) (IsWithin after) (λ place. IsWithin-longer values after place (omega (arith, room))) places among.within) within;
      few = omega (arith, room, among.few, sizes_of-append places added);
    } in
    subst (LieAmong after) (sym placed_is) all

-- the elements that are made have the values that lie at their places
pub values-born : (values : List Value) (places : List Placed) (next : ℕ) → AreWithin values places → sum_by (λ (e : Element). length e.values) (born next (changes_in values places)) ≡ sizes_of places
values-born values [] next within = refl
values-born values (Remove tag ∷ places) next within = omega (arith, values-born values places next within.1)
values-born values (Make start size class ∷ places) next within =
    let long : length (take size (drop start values)) ≡ size = length-take-le size (drop start values) (omega (arith, within.0, length-drop start values)) in
    let first : Element = record { tag = next; class = class; values = take size (drop start values) } in
    omega (arith, sum_by-cons (λ (e : Element). length e.values) first (born (next + 1) (changes_in values places)), long, values-born values places (next + 1) within.1)
