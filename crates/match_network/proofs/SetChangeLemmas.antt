-- All rules, as an element comes.
use Rattle.std.proofs.Common.{◌≡◌, ℕ, zero, suc, ◌<◌, ◌≤◌, ◌==◌, List, [], ◌∷◌, ◌++◌, true, filter, length, map, None, Option, option_and_then, Some, refl, ap, subst, sym, ◌∙◌, arith, slice_get, Result, Ok, Err}
use Rattle.std.specs.List.{AllByRecursion, list_any}
use Rattle.std.specs.Option.{option_map}
use Rattle.std.specs.Result.{OnErr, OnOk}
use Rattle.std.proofs.lemmas.Bool.{eq-eqb}
use Rattle.std.proofs.lemmas.Option.{slice_get-map}
use Rattle.rule_base.specs.declared.element.Element.{Element}
use Rattle.rule_base.specs.Memory.{Rises, tags_of}
use Rattle.rule_base.proofs.EachLemmas.{Each-slice_get}
use Rattle.alpha_memory.specs.Stores.{AreFiledOrNot, Store, filed}
use Rattle.alpha_memory.specs.Times.{times}
use Rattle.join_tests.specs.declared.joins.Join.{Join}
use Rattle.join_tests.specs.declared.joins.Joins.{Joins}
use Rattle.join_tests.specs.declared.joins.Negated.{Negated}
use Rattle.join_tests.specs.Joining.{passes}
use Rattle.match_network.specs.declared.askers.Asker.{Asker}
use Rattle.match_network.specs.Arrivals.{Arrivals, has_tag, with_arrival, without_tag}
use Rattle.match_network.specs.Levels.{OnlyAdds}
use Rattle.match_network.specs.Row.{some_passes}
use Rattle.match_network.specs.Conditions.{IsServed, rows_of}
use Rattle.match_network.specs.Negated.{AreNegatedServed, negated_in}
use Rattle.match_network.specs.Touched.{AllGrow, AreNegatedDue, AreTouched}
use Rattle.match_network.specs.Network.{IsBefore, IsNetwork, joins_in, other_than}
use Rattle.match_network.specs.Rules.{AreAllDue, AreAskers, AreStopped, AreWovenIn, IsDue, IsRight, RuleRows, is_asker}
use Rattle.match_network.proofs.ComeLemmas.{some_at}
use Rattle.match_network.proofs.GivenLemmas.{within-is}
use Rattle.match_network.proofs.PassedLemmas.{all_due, asked_is_due, due_once, passed_is_due, store_of}
use Rattle.match_network.proofs.StopLemmas.{IsServed-either, each_by_number, rule_left, rules_stopped, without_last}
use Rattle.match_network.proofs.TagLemmas.{only_one_goes}
use Rattle.match_network.proofs.NegatedLemmas.{IsServed-without, negated_over}
use Rattle.match_network.proofs.StoreLemmas.{IsServed-cleaned}
use Rattle.match_network.proofs.TakeLemmas.{IsServed-filed, last_came, nothing_added, rule_ends, rules_begin}
use Rattle.rule_base.proofs.EachLemmas.{Each-weaker}

-- what is the same at each number is the same
pub same_parts : {X : Type 0} (part : RuleRows → X) (old now : List RuleRows) → length now ≡ length old → ((n : ℕ) (before after : RuleRows) → slice_get old n ≡ Some before → slice_get now n ≡ Some after → part after ≡ part before) → map part now ≡ map part old
same_parts part [] [] long same = refl
same_parts part [] (after ∷ now) long same = absurd (omega (arith, long))
same_parts part (before ∷ old) [] long same = absurd (omega (arith, long))
same_parts part (before ∷ old) (after ∷ now) long same =
    ap (λ x. x ∷ map part now) (same zero before after refl refl)
    ∙ ap (λ xs. part before ∷ xs) (same_parts part old now (omega (arith, long)) (λ n b a there got. same (suc n) b a there got))

pub stopped_joins : (came : List Element) (places : List ℕ) (place : ℕ) (alpha : List Store) (old now : List RuleRows) → AreStopped came places place alpha old now → joins_in now ≡ joins_in old
stopped_joins came places place alpha old now held = same_parts (λ (r : RuleRows). r.joins) old now held.count (λ n before after there got. (held.each n before after there got).joins)

-- the rules begin
pub set_begins : (now : Arrivals) (e : Element) (place : ℕ) (alpha more : List Store) (rules : List RuleRows) (askers asks : List (List Asker)) → IsBefore now e place alpha rules askers asks → more ≡ map (filed place e) alpha → AreWovenIn now.came now.places place more [] rules rules
set_begins now e place alpha more rules askers asks b is =
    let came = b.before.came in
    let at : (n : ℕ) → slice_get more n ≡ option_map (filed (length came) e) (slice_get alpha n) =
    λ n. ap (λ stores. slice_get stores n) is ∙ slice_get-map (filed place e) alpha n ∙ ap (λ p. option_map (filed p e) (slice_get alpha n)) b.place_is in
    subst (λ (a : Arrivals). AreWovenIn a.came a.places place more [] rules rules) (sym b.is)
    (subst (λ p. AreWovenIn (came ++ e ∷ []) (b.before.places ++ length came ∷ []) p more [] rules rules) (sym b.place_is)
    (rules_begin came b.before.places e alpha more rules b.below at b.held.right))

there_now : (now : Arrivals) (e : Element) (place : ℕ) (alpha : List Store) (rules : List RuleRows) (askers asks : List (List Asker)) → IsBefore now e place alpha rules askers asks → slice_get now.came place ≡ Some e
there_now now e place alpha rules askers asks b = ap (λ (a : Arrivals). slice_get a.came place) b.is ∙ ap (slice_get (b.before.came ++ e ∷ [])) b.place_is ∙ last_came b.before.came e

pub set_within : (now : Arrivals) (e : Element) (place : ℕ) (alpha : List Store) (rules : List RuleRows) (askers asks : List (List Asker)) → IsBefore now e place alpha rules askers asks → place < length now.came
set_within now e place alpha rules askers asks b = within-is now.came place e (there_now now e place alpha rules askers asks b)

pub set_due : (now : Arrivals) (e : Element) (place : ℕ) (alpha : List Store) (rules : List RuleRows) (askers asks : List (List Asker)) (due : List Asker) → IsBefore now e place alpha rules askers asks → AreAllDue e alpha askers due → AllByRecursion (IsDue now.came place rules) due
set_due now e place alpha rules askers asks due b d =
    subst (AllByRecursion (IsDue now.came place rules)) (sym d.is)
    (all_due b.before.came b.before.places now.came place e alpha rules askers d.passed (there_now now e place alpha rules askers asks b) b.held.right b.held.askers_are (record { once = d.once }))

pub set_once : (now : Arrivals) (e : Element) (place : ℕ) (alpha : List Store) (rules : List RuleRows) (askers asks : List (List Asker)) (due : List Asker) → IsBefore now e place alpha rules askers asks → AreAllDue e alpha askers due → (rule condition : ℕ) → times (is_asker rule condition) due ≤ 1
set_once now e place alpha rules askers asks due b d rule condition =
    subst (λ ds. times (is_asker rule condition) ds ≤ 1) (sym d.is)
    (due_once (map (λ (r : RuleRows). r.stores) rules) askers e alpha d.passed b.held.askers_are (record { once = d.once }) rule condition)

-- what the element was filed in serves the memory with it
served_now : (now : Arrivals) (e : Element) (place : ℕ) (alpha begun : List Store) (rules : List RuleRows) (askers asks : List (List Asker)) (join : Join) (number : ℕ) → (b : IsBefore now e place alpha rules askers asks) → begun ≡ map (filed place e) alpha → IsServed join true b.before.came b.before.places alpha number → IsServed join true now.came now.places begun number
served_now now e place alpha begun rules askers asks join number b is was =
    let came = b.before.came in
    let at : (n : ℕ) → slice_get begun n ≡ option_map (filed (length came) e) (slice_get alpha n) =
    λ n. ap (λ stores. slice_get stores n) is ∙ slice_get-map (filed place e) alpha n ∙ ap (λ p. option_map (filed p e) (slice_get alpha n)) b.place_is in
    subst (λ (a : Arrivals). IsServed join true a.came a.places begun number) (sym b.is)
    (IsServed-filed join true came b.before.places e alpha begun number b.below at was)

-- the rules end
pub set_ends : (now : Arrivals) (e : Element) (place : ℕ) (alpha begun more : List Store) (rules after : List RuleRows) (askers asks : List (List Asker)) (due : List Asker) → IsBefore now e place alpha rules askers asks → AreAllDue e alpha askers due → begun ≡ map (filed place e) alpha → AreTouched now.places due begun more rules after → AreWovenIn now.came now.places place more due rules after → IsNetwork now.came now.places more after askers asks
set_ends now e place alpha begun more rules after askers asks due b d is touched held = record {
  right = each_by_number (IsRight now.came now.places more) after (λ n rule there.
      let lt : n < length rules = omega (arith, within-is after n rule there, held.count) in
      let this = some_at rules n lt in
      let was = held.each n this.item rule this.is there in
      let old = Each-slice_get (IsRight b.before.came b.before.places alpha) rules n this.item b.held.right this.is in
      rule_ends now.came now.places place e more was.0 this.item rule (there_now now e place alpha rules askers asks b) old.count
      (λ at join join_is passed. was.1 at ∙ ap (list_any (is_asker n at)) d.is
      ∙ passed_is_due b.before.came b.before.places e alpha rules askers d.passed b.held.right b.held.askers_are (record { once = d.once }) n this.item at join this.is join_is passed)
      was.2);
  askers_are = subst (λ stores. AreAskers stores askers)
      (sym (same_parts (λ (r : RuleRows). r.stores) rules after held.count (λ n before now_rule there got. (held.each n before now_rule there got).2.stores))) b.held.askers_are;
  negated_served = negated_over b.before.came now.came b.before.places now.places alpha more rules after
      (same_parts (λ (r : RuleRows). r.joins) rules after held.count (λ n before now_rule there got. (held.each n before now_rule there got).2.joins)) touched.negated
      (λ join number was. IsServed-cleaned join true now.came now.places begun more number touched.cleaned (served_now now e place alpha begun rules askers asks join number b is was)) b.held.negated_served;
  negated_askers_are = subst (λ stores. AreAskers stores asks) (sym touched.negated) b.held.negated_askers_are;
}

-- or are left as they were
pub set_left : (now : Arrivals) (e : Element) (place : ℕ) (alpha more : List Store) (rules : List RuleRows) (askers asks : List (List Asker)) → IsBefore now e place alpha rules askers asks → AreFiledOrNot place e alpha more → IsNetwork now.came (filter (other_than place) now.places) more rules askers asks
set_left now e place alpha more rules askers asks b either =
    let came = b.before.came in
    let places = b.before.places in
    let at : AreFiledOrNot (length came) e alpha more = subst (λ p. AreFiledOrNot p e alpha more) b.place_is either in
    subst (λ (a : Arrivals). IsNetwork a.came (filter (other_than place) a.places) more rules askers asks) (sym b.is)
    (subst (λ p. IsNetwork (came ++ e ∷ []) (filter (other_than p) (places ++ length came ∷ [])) more rules askers asks) (sym b.place_is)
    (subst (λ ps. IsNetwork (came ++ e ∷ []) ps more rules askers asks) (sym (without_last places (length came) b.below))
    (record {
      right = Each-weaker (IsRight came places alpha) (IsRight (came ++ e ∷ []) places more) (λ rule was. rule_left came places e alpha more rule b.below at was) rules b.held.right;
      askers_are = b.held.askers_are;
      negated_served = negated_over came (came ++ e ∷ []) places places alpha more rules rules refl refl
          (λ join number was. IsServed-either join true came places e alpha more number b.below at was) b.held.negated_served;
      negated_askers_are = b.held.negated_askers_are;
    })))

-- or were stopped
pub set_stopped : (now : Arrivals) (e : Element) (place : ℕ) (alpha begun more : List Store) (rules after : List RuleRows) (askers asks : List (List Asker)) (due : List Asker) → IsBefore now e place alpha rules askers asks → begun ≡ map (filed place e) alpha → AreTouched now.places due begun more rules after → AreStopped now.came now.places place more rules after → IsNetwork now.came (filter (other_than place) now.places) more after askers asks
set_stopped now e place alpha begun more rules after askers asks due b is touched held =
    let came = b.before.came in
    let places = b.before.places in
    let at : AreStopped (came ++ e ∷ []) (places ++ length came ∷ []) (length came) more rules after =
    subst (λ p. AreStopped (came ++ e ∷ []) (places ++ length came ∷ []) p more rules after) b.place_is
    (subst (λ (a : Arrivals). AreStopped a.came a.places place more rules after) b.is held) in
    subst (λ (a : Arrivals). IsNetwork a.came (filter (other_than place) a.places) more after askers asks) (sym b.is)
    (subst (λ p. IsNetwork (came ++ e ∷ []) (filter (other_than p) (places ++ length came ∷ [])) more after askers asks) (sym b.place_is)
    (subst (λ ps. IsNetwork (came ++ e ∷ []) ps more after askers asks) (sym (without_last places (length came) b.below))
    (record {
      right = rules_stopped came places e alpha more rules after b.below b.held.right at;
      askers_are = subst (λ stores. AreAskers stores askers)
          (sym (same_parts (λ (r : RuleRows). r.stores) rules after held.count (λ n before now_rule there got. (held.each n before now_rule there got).stores))) b.held.askers_are;
      negated_served = negated_over came (came ++ e ∷ []) places places alpha more rules after
          (stopped_joins now.came now.places place more rules after held) touched.negated
          (λ join number was. subst (λ ps. IsServed join true (came ++ e ∷ []) ps more number) (without_last places (length came) b.below)
          (IsServed-without join true (came ++ e ∷ []) (places ++ length came ∷ []) (other_than (length came)) more number
          (subst (λ (a : Arrivals). IsServed join true a.came a.places more number) b.is
          (IsServed-cleaned join true now.came now.places begun more number touched.cleaned (served_now now e place alpha begun rules askers asks join number b is was))))) b.held.negated_served;
      negated_askers_are = subst (λ stores. AreAskers stores asks) (sym touched.negated) b.held.negated_askers_are;
    })))

-- the element that came is taken out again
has_its_tag : (came : List Element) (e : Element) → has_tag (came ++ e ∷ []) e.tag (length came) ≡ true
has_its_tag came e = ap (some_passes (λ (f : Element). f.tag == e.tag)) (last_came came e) ∙ eq-eqb e.tag e.tag refl

pub taken_out : (before now : Arrivals) (e : Element) → now ≡ with_arrival before e → Rises (tags_of now.came) → (without_tag now e.tag).places ≡ filter (other_than (length before.came)) now.places
taken_out before now e is tags = only_one_goes now.came e.tag (length before.came) now.places tags (ap (λ (a : Arrivals). has_tag a.came e.tag (length before.came)) is ∙ has_its_tag before.came e)

pub network_undone : (before now left : Arrivals) (e : Element) (place : ℕ) (alpha : List Store) (rules : List RuleRows) (askers asks : List (List Asker)) → now ≡ with_arrival before e → place ≡ length before.came → Rises (tags_of now.came) → left ≡ without_tag now e.tag → IsNetwork now.came (filter (other_than place) now.places) alpha rules askers asks → IsNetwork left.came left.places alpha rules askers asks
network_undone before now left e place alpha rules askers asks is place_is tags left_is held =
    subst (λ (a : Arrivals). IsNetwork a.came a.places alpha rules askers asks) (sym left_is)
    (subst (λ ps. IsNetwork now.came ps alpha rules askers asks) (sym (taken_out before now e is tags))
    (subst (λ p. IsNetwork now.came (filter (other_than p) now.places) alpha rules askers asks) place_is held))

pub places_undone : (before now left : Arrivals) (e : Element) → AllByRecursion (λ p. p < length before.came) before.places → now ≡ with_arrival before e → Rises (tags_of now.came) → left ≡ without_tag now e.tag → left.places ≡ before.places
places_undone before now left e below is tags left_is =
    ap (λ (a : Arrivals). a.places) left_is ∙ taken_out before now e is tags
    ∙ ap (λ (a : Arrivals). filter (other_than (length before.came)) a.places) is
    ∙ without_last before.places (length before.came) below

pub always_err : {T E P : Type 0} (r : Result T E) → P → OnErr r P
always_err (Ok x) held = tt
always_err (Err e) held = held

-- the levels of rules that were stopped, or are as they were, got only rows with the place
pub stopped_grow : (came : List Element) (places : List ℕ) (place : ℕ) (alpha : List Store) (old now : List RuleRows) → AreStopped came places place alpha old now → AllGrow came place old now
stopped_grow came places place alpha old now held number before after there got = (held.each number before after there got).adds

pub same_grow : (came : List Element) (place : ℕ) (old now : List RuleRows) → now ≡ old → AllGrow came place old now
same_grow came place old now same number before after there got =
    let both : Some before ≡ Some after = sym there ∙ ap (λ rs. slice_get rs number) (sym same) ∙ got in
    let is : before ≡ after = cc in
    subst (λ (r : RuleRows). OnlyAdds came place (rows_of before.levels) (rows_of r.levels)) is (nothing_added came place (rows_of before.levels))

-- each negated condition element that the element passes is due
pub set_negated_due : (now : Arrivals) (e : Element) (place : ℕ) (alpha : List Store) (rules after : List RuleRows) (askers asks : List (List Asker)) (due : List Asker) → IsBefore now e place alpha rules askers asks → AreAllDue e alpha asks due → joins_in after ≡ joins_in rules → AreNegatedDue e after due
set_negated_due now e place alpha rules after askers asks due b d same = record {
  each = λ number rule at n rule_is n_is passed. by number rule at n rule_is n_is passed (slice_get rules number) refl;
}
  where
    joins_at : (number : ℕ) (rule : RuleRows) → slice_get after number ≡ Some rule → option_map (λ (r : RuleRows). r.joins) (slice_get rules number) ≡ Some rule.joins
    joins_at number rule rule_is =
        sym (slice_get-map (λ (r : RuleRows). r.joins) rules number)
        ∙ ap (λ js. slice_get js number) (sym same)
        ∙ slice_get-map (λ (r : RuleRows). r.joins) after number
        ∙ ap (option_map (λ (r : RuleRows). r.joins)) rule_is

    by : (number : ℕ) (rule : RuleRows) (at : ℕ) (n : Negated) → slice_get after number ≡ Some rule → slice_get rule.joins.negated at ≡ Some n → passes n.join.pattern e ≡ true → (o : Option RuleRows) → slice_get rules number ≡ o → list_any (is_asker number at) due ≡ true
    by number rule at n rule_is n_is passed None is =
        let none : ◌≡◌ {A = Option Joins} None (Some rule.joins) = sym (ap (option_map (λ (r : RuleRows). r.joins)) is) ∙ joins_at number rule rule_is in
        absurd (let wrong : ⊥ = cc in wrong)
    by number rule at n rule_is n_is passed (Some was) is =
        let some : Some was.joins ≡ Some rule.joins = sym (ap (option_map (λ (r : RuleRows). r.joins)) is) ∙ joins_at number rule rule_is in
        let joins_are : was.joins ≡ rule.joins = cc in
        let served = Each-slice_get (AreNegatedServed b.before.came b.before.places alpha) rules number was b.held.negated_served is in
        let found = served.each at n (ap (λ (j : Joins). slice_get j.negated at) joins_are ∙ n_is) in
        let asks_it : store_of (negated_in rules) number at ≡ Some found.0 =
        ap (λ o. option_and_then (λ numbers. slice_get numbers at) o) (slice_get-map (λ (r : RuleRows). r.negated) rules number ∙ ap (option_map (λ (r : RuleRows). r.negated)) is) ∙ found.1 in
        subst (λ ds. list_any (is_asker number at) ds ≡ true) (sym d.is)
        (asked_is_due (negated_in rules) asks e alpha d.passed b.held.negated_askers_are (record { once = d.once }) number at n.join true found.0 asks_it found.2.serves passed)

pub always_ok : {T E P : Type 0} (r : Result T E) → P → OnOk r P
always_ok (Ok x) held = held
always_ok (Err e) held = tt

-- after want of memory the element that came is dead, and the levels got only rows with its place
pub grow_undone : (now left : Arrivals) (tag place first : ℕ) (old new : List RuleRows) → left ≡ without_tag now tag → place ≡ first → AllGrow now.came place old new → AllGrow left.came first old new
grow_undone now left tag place first old new left_is is held =
    subst (λ (a : Arrivals). AllGrow a.came first old new) (sym left_is)
    (subst (λ p. AllGrow now.came p old new) is held)
