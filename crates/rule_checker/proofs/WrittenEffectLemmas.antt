-- The effect of a rule that is checked is the one that is written: one action at a time.
use Rattle.std.proofs.Common.{◌≡◌, ℕ, ◌+◌, ◌≤◌, ◌<◌, Bool, true, false, if◌then◌else◌, List, [], ◌∷◌, ◌++◌, Option, None, Some, option_map, unwrap_or, Result, Ok, Err, fold, length, replicate, slice_get, refl, sym, ap, ◌∙◌, subst, arith, append_assoc, append-nil, length-set}
use Rattle.std.specs.Option.{option_map_or}
use Rattle.std.specs.List.{AllZip}
use Rattle.std.proofs.lemmas.List.{length-replicate}
use Rattle.std.proofs.lemmas.Option.{slice_get-map}
use Rattle.rule_base.specs.declared.value.Value.{Value}
use Rattle.rule_base.specs.declared.element.Element.{Element}
use Rattle.rule_base.specs.declared.condition.Cond.{Cond}
use Rattle.rule_base.specs.declared.action.Term.{Term}
use Rattle.rule_base.specs.declared.action.Item.{Item}
use Rattle.rule_base.specs.declared.action.Action.{Action}
use Rattle.rule_base.specs.declared.action.Action.TheVariants as action
use Rattle.rule_base.specs.declared.program.Class.{Class}
use Rattle.rule_base.specs.declared.program.Rule.{Rule}
use Rattle.rule_base.specs.declared.change.Change.{Change}
use Rattle.rule_base.specs.declared.change.Change.TheVariants as change
use Rattle.rule_base.specs.declared.entry.FaultCause.{FaultCause}
use Rattle.rule_base.specs.Chains.{◌>>=◌}
use Rattle.rule_base.specs.Value.{nil}
use Rattle.rule_base.specs.Bindings.{Bindings, no_bindings, bound}
use Rattle.rule_base.specs.Memory.{elements_at}
use Rattle.rule_base.specs.ElementMatch.{matched, bindings_with}
use Rattle.rule_base.specs.Effect.{Effect, Failure, Progress, after_action as after_checked, after_actions, after_modify, after_remove, beginning, changing, effect, is_gone, modified, of_action, unless_gone}
use Rattle.rule_base.specs.Term.{term_value, after_sets, item_pieces}
use Rattle.rule_base.proofs.ElementMatchLemmas.{bindings_with-elements_at}
use Rattle.ops_reader.specs.declared.form.At.{At}
use Rattle.ops_reader.specs.declared.form.FormTerm.{FormTerm}
use Rattle.ops_reader.specs.declared.form.FormItem.{FormItem}
use Rattle.ops_reader.specs.declared.form.FormCond.{FormCond}
use Rattle.ops_reader.specs.declared.form.FormAction.{FormAction}
use Rattle.ops_reader.specs.declared.form.FormAction.TheVariants as form_action
use Rattle.rule_checker.specs.declared.refusal.CheckKind.TheVariants.{UnknownClass}
use Rattle.rule_checker.specs.declared.scope.Scope.{Scope}
use Rattle.rule_checker.specs.declared.left_side.Elements.{Elements}
use Rattle.rule_checker.specs.declared.right_side.RightSide.{RightSide}
use Rattle.rule_checker.specs.Names.{number_in}
use Rattle.rule_checker.specs.Walk.{after_each}
use Rattle.rule_checker.specs.Classes.{class_names, declared_class, attributes_at}
use Rattle.rule_checker.specs.Scope.{variable_of, with_variable}
use Rattle.rule_checker.specs.Terms.{term_of, with_item}
use Rattle.rule_checker.specs.RightSide.{few_actions, known_designator, with_setting, with_designator, make_action, attributes_of, modify_action, set_variable, with_plain_action, with_bind, after_action, with_action}
use Rattle.rule_checker.specs.NamedBindings.{NamedValues, naming, SayTheSame}
use Rattle.rule_checker.specs.WrittenRules.{WrittenRule}
use Rattle.rule_checker.specs.WrittenTerms.{written_value, after_settings, written_pieces}
use Rattle.rule_checker.specs.Designators.{designated}
use Rattle.rule_checker.specs.WrittenMatch.{written_match, MatchTheSame}
use Rattle.rule_checker.specs.WrittenEffect.{WrittenProgress, with_changes, class_named, made_of_class, modified_anew, modified_unless, after_written_modify, removing, after_written_remove, after_written_action, after_written_actions, written_effect, HasWrittenEffect}
use Rattle.rule_checker.proofs.ResultLemmas.{passed, found, same_ok}
use Rattle.rule_checker.proofs.NamedLemmas.{IsNumbered, IsNumbered-more, SayTheSame-naming, SayTheSame-again}
use Rattle.rule_checker.proofs.WrittenRuleLemmas.{HasSides, with_action-grows}
use Rattle.rule_checker.proofs.WrittenMatchLemmas.{long-matched, sides-match}
use Rattle.rule_checker.proofs.WrittenTermLemmas.{ReadsTheSame, adds-each, term-gives, written_settings-give, written_items-give}
use Rattle.rule_checker.proofs.DesignatorLemmas.{StandsOn, stands-on}

-- two right-hand sides that have come equally far
pub record AreAtOne (scope : Scope) (vars : ℕ) (p : Progress) (q : WrittenProgress) : Type 0 where
  pub size : length p.bindings ≡ vars
  pub same : SayTheSame (variable_of scope) p.bindings q.bindings
  pub done : p.done ≡ q.done

-- both fail for the same cause, or both come equally far
abbrev pub EndTheSame : {F : Type 0} → Scope → ℕ → Result Progress F → Result WrittenProgress F → Type 0
EndTheSame scope vars (Err first) (Err second) = first ≡ second
EndTheSame scope vars (Err first) (Ok q) = ⊥
EndTheSame scope vars (Ok p) (Err second) = ⊥
EndTheSame scope vars (Ok p) (Ok q) = AreAtOne scope vars p q

reads-so : (scope : Scope) (bindings : Bindings) (named : NamedValues) → SayTheSame (variable_of scope) bindings named → ReadsTheSame scope bindings named
reads-so scope bindings named h = record { same = λ name var is. ap (λ (o : Option Value). unwrap_or o nil) (h.same name var is) }

-- what both get first is the same
end-by : {A : Type 0} (scope : Scope) (vars : ℕ) (o : Result A FaultCause) (f : A → Progress) (g : A → WrittenProgress) → ((a : A) → AreAtOne scope vars (f a) (g a)) → EndTheSame scope vars (o >>= λ a. Ok (f a)) (o >>= λ a. Ok (g a))
end-by scope vars (Ok a) f g h = h a
end-by scope vars (Err cause) f g h = refl

end-both : {A : Type 0} (scope : Scope) (vars : ℕ) (o w : Result A FaultCause) (f : A → Progress) (g : A → WrittenProgress) → o ≡ w → ((a : A) → AreAtOne scope vars (f a) (g a)) → EndTheSame scope vars (o >>= λ a. Ok (f a)) (w >>= λ a. Ok (g a))
end-both scope vars o w f g is h = subst (λ (r : Result _ FaultCause). EndTheSame scope vars (o >>= λ a. Ok (f a)) (r >>= λ a. Ok (g a))) is (end-by scope vars o f g h)

-- further changes
changing-both : (scope : Scope) (vars : ℕ) (p : Progress) (q : WrittenProgress) (more : List Change) → AreAtOne scope vars p q → AreAtOne scope vars (changing p more) (record q { done = with_changes q.done more })
changing-both scope vars p q more h = record { size = h.size; same = h.same; done = ap (λ (d : Effect). with_changes d more) h.done }

-- what an action comes to
pub record ActsAs (classes : List Class) (ws : List FormCond) (elements : List Element) (vars : ℕ) (right : RightSide) (w : FormAction) (next : RightSide) : Type 0 where
  pub action : Action
  pub more : next.actions ≡ right.actions ++ action ∷ []
  pub numbered : IsNumbered next.scope
  pub agree : (p : Progress) (q : WrittenProgress) → AreAtOne right.scope vars p q → EndTheSame next.scope vars (after_checked elements action p) (after_written_action classes ws elements w q)

plain-acts : (classes : List Class) (ws : List FormCond) (elements : List Element) (vars : ℕ) (right : RightSide) (w : FormAction) (a : Action) → IsNumbered right.scope
    → ((p : Progress) (q : WrittenProgress) → AreAtOne right.scope vars p q → EndTheSame right.scope vars (after_checked elements a p) (after_written_action classes ws elements w q))
    → ActsAs classes ws elements vars right w (with_plain_action right a)
plain-acts classes ws elements vars right w a numbered agree = record { action = a; more = refl; numbered = numbered; agree = agree }

-- a make
make-agrees : (classes : List Class) (ws : List FormCond) (elements : List Element) (vars : ℕ) (scope : Scope) (name : ℕ) (sets : List (ℕ × FormTerm)) (a : Action) → make_action classes scope name sets ≡ Ok a
    → (p : Progress) (q : WrittenProgress) → AreAtOne scope vars p q → EndTheSame scope vars (after_checked elements a p) (after_written_action classes ws elements (form_action.Make name sets) q)
make-agrees classes ws elements vars scope name sets a e p q h =
    let made = λ (class : ℕ) (attrs : List ℕ). after_each (with_setting attrs scope) [] sets >>= λ done. Ok (action.Make class (length attrs) done) in
    let c = passed (declared_class classes name) (λ class. made class (attributes_at classes class)) a e in
    let attrs = attributes_at classes c.0 in
    let d = passed (after_each (with_setting attrs scope) [] sets) (λ done. Ok (action.Make c.0 (length attrs) done)) a c.2 in
    let number : class_named classes name ≡ c.0 = ap (λ (o : Option ℕ). unwrap_or o 0) (found (number_in (class_names classes) name) UnknownClass c.0 c.1) in
    let values = replicate (length attrs) nil in
    let given = written_settings-give scope p.bindings q.bindings (reads-so scope p.bindings q.bindings h.same) attrs sets d.0 values d.1 in
    let agree = end-both scope vars (after_sets p.bindings d.0 values) (after_settings attrs q.bindings sets values) (λ vs. changing p (change.Make c.0 vs ∷ [])) (λ vs. record q { done = with_changes q.done (change.Make c.0 vs ∷ []) }) given
    (λ vs. changing-both scope vars p q (change.Make c.0 vs ∷ []) h) in
    let by_number : EndTheSame scope vars (after_checked elements (action.Make c.0 (length attrs) d.0) p) (made_of_class classes (class_named classes name) sets q) =
    subst (λ (class : ℕ). EndTheSame scope vars (after_checked elements (action.Make c.0 (length attrs) d.0) p) (made_of_class classes class sets q)) (sym number) agree in
    subst (λ (b : Action). EndTheSame scope vars (after_checked elements b p) (made_of_class classes (class_named classes name) sets q)) (same_ok d.2) by_number

-- a modify of an element
modified-agrees : (classes : List Class) (vars : ℕ) (scope : Scope) (attrs : List ℕ) (e : Element) (sets : List (ℕ × FormTerm)) (done : List (ℕ × Term)) → attrs ≡ attributes_at classes e.class → after_each (with_setting attrs scope) [] sets ≡ Ok done
    → (p : Progress) (q : WrittenProgress) → AreAtOne scope vars p q → EndTheSame scope vars (modified e done p) (modified_anew classes e sets q)
modified-agrees classes vars scope attrs e sets done attrs_are walk p q h =
    let given = written_settings-give scope p.bindings q.bindings (reads-so scope p.bindings q.bindings h.same) attrs sets done e.values walk in
    let both = given ∙ ap (λ (ns : List ℕ). after_settings ns q.bindings sets e.values) attrs_are in
    let more = λ (vs : List Value). change.Remove e.tag ∷ change.Make e.class vs ∷ [] in
    end-both scope vars (after_sets p.bindings done e.values) (after_settings (attributes_at classes e.class) q.bindings sets e.values) (λ vs. changing p (more vs)) (λ vs. record q { done = with_changes q.done (more vs) }) both
    (λ vs. changing-both scope vars p q (more vs) h)

modify-designated : (classes : List Class) (vars : ℕ) (scope : Scope) (sets : List (ℕ × FormTerm)) (done : List (ℕ × Term)) (o : Option Element)
    → ((e : Element) → o ≡ Some e → (p : Progress) (q : WrittenProgress) → AreAtOne scope vars p q → EndTheSame scope vars (modified e done p) (modified_anew classes e sets q))
    → (p : Progress) (q : WrittenProgress) → AreAtOne scope vars p q → EndTheSame scope vars (after_modify o done p) (after_written_modify classes o sets q)
modify-designated classes vars scope sets done None agree p q h = refl
modify-designated classes vars scope sets done (Some e) agree p q h =
    subst (λ (d : Effect). EndTheSame scope vars (unless_gone (is_gone e.tag d.changes) (modified e done p)) (modified_unless (is_gone e.tag q.done.changes) (modified_anew classes e sets q))) (sym h.done)
    (by (is_gone e.tag q.done.changes))
  where
    by : (b : Bool) → EndTheSame scope vars (unless_gone b (modified e done p)) (modified_unless b (modified_anew classes e sets q))
    by true = refl
    by false = agree e refl p q h

modify-agrees : (classes : List Class) (ws : List FormCond) (checked' : Elements) (elements : List Element) (vars : ℕ) (scope : Scope) (w : At) (sets : List (ℕ × FormTerm)) (a : Action) → StandsOn ws checked' elements → modify_action classes checked' scope w sets ≡ Ok a
    → (p : Progress) (q : WrittenProgress) → AreAtOne scope vars p q → EndTheSame scope vars (after_checked elements a p) (after_written_action classes ws elements (form_action.Modify w sets) q)
modify-agrees classes ws checked' elements vars scope w sets a stands e p q h =
    let made = λ (place : ℕ) (attrs : List ℕ). after_each (with_setting attrs scope) [] sets >>= λ done. Ok (action.Modify place done) in
    let c = passed (known_designator checked' w) (λ place. made place (attributes_of classes checked' place)) a e in
    let attrs = attributes_of classes checked' c.0 in
    let d = passed (after_each (with_setting attrs scope) [] sets) (λ done. Ok (action.Modify c.0 done)) a c.2 in
    let attributes = λ (x : Element) (is : slice_get elements c.0 ≡ Some x).
    ap (λ (ns : List ℕ). option_map_or (attributes_at classes) (slice_get ns c.0) []) stands.classes
    ∙ ap (λ (o : Option ℕ). option_map_or (attributes_at classes) o []) (slice_get-map (λ (y : Element). y.class) elements c.0 ∙ ap (λ (o : Option Element). option_map (λ (y : Element). y.class) o) is) in
    let agree = modify-designated classes vars scope sets d.0 (slice_get elements c.0) (λ x is p' q' h'. modified-agrees classes vars scope attrs x sets d.0 (attributes x is) d.1 p' q' h') p q h in
    let by_name : EndTheSame scope vars (after_modify (slice_get elements c.0) d.0 p) (after_written_modify classes (designated ws elements w) sets q) =
    subst (λ (o : Option Element). EndTheSame scope vars (after_modify (slice_get elements c.0) d.0 p) (after_written_modify classes o sets q)) (sym (stands.designates w c.0 c.1)) agree in
    subst (λ (b : Action). EndTheSame scope vars (after_checked elements b p) (after_written_modify classes (designated ws elements w) sets q)) (same_ok d.2) by_name

-- a remove of an element
removed-same : (o : Option Element) (p : Progress) (done : Effect) → p.done ≡ done → ((after_remove o p).done ≡ after_written_remove o done) × ((after_remove o p).bindings ≡ p.bindings)
removed-same None p done is = (is, refl)
removed-same (Some e) p done is =
    let here = by (is_gone e.tag p.done.changes) in
    (here.0 ∙ ap (λ (d : Effect). removing (is_gone e.tag d.changes) e d) is, here.1)
  where
    by : (b : Bool) → ((if b then p else changing p (change.Remove e.tag ∷ [])).done ≡ removing b e p.done) × ((if b then p else changing p (change.Remove e.tag ∷ [])).bindings ≡ p.bindings)
    by true = (refl, refl)
    by false = (refl, refl)

removes-same : (ws : List FormCond) (checked' : Elements) (elements : List Element) → StandsOn ws checked' elements → (ats : List At) (places : List ℕ) → AllZip (λ w place. known_designator checked' w ≡ Ok place) ats places
    → (p : Progress) (done : Effect) → p.done ≡ done
    → ((fold (λ before place. after_remove (slice_get elements place) before) p places).done ≡ fold (λ before at. after_written_remove (designated ws elements at) before) done ats)
    × ((fold (λ before place. after_remove (slice_get elements place) before) p places).bindings ≡ p.bindings)
removes-same ws checked' elements stands [] [] h p done is = (is, refl)
removes-same ws checked' elements stands [] (place ∷ places) h p done is = absurd h
removes-same ws checked' elements stands (w ∷ ats) [] h p done is = absurd h
removes-same ws checked' elements stands (w ∷ ats) (place ∷ places) h p done is =
    let first = removed-same (slice_get elements place) p done is in
    let here = first.0 ∙ ap (λ (o : Option Element). after_written_remove o done) (sym (stands.designates w place h.0)) in
    let rest = removes-same ws checked' elements stands ats places h.1 (after_remove (slice_get elements place) p) (after_written_remove (designated ws elements w) done) here in
    (rest.0, rest.1 ∙ first.1)

remove-agrees : (classes : List Class) (ws : List FormCond) (checked' : Elements) (elements : List Element) (vars : ℕ) (scope : Scope) (ats : List At) (places : List ℕ) → StandsOn ws checked' elements → after_each (with_designator checked') [] ats ≡ Ok places
    → (p : Progress) (q : WrittenProgress) → AreAtOne scope vars p q → EndTheSame scope vars (after_checked elements (action.Remove places) p) (after_written_action classes ws elements (form_action.Remove ats) q)
remove-agrees classes ws checked' elements vars scope ats places stands e p q h =
    let added = adds-each (known_designator checked') [] ats places e in
    let each = subst (λ (ns : List ℕ). AllZip (λ w place. known_designator checked' w ≡ Ok place) ats ns) (sym added.more) added.each in
    let both = removes-same ws checked' elements stands ats places each p q.done h.done in
    record { size = ap length both.1 ∙ h.size; same = subst (λ (b : Bindings). SayTheSame (variable_of scope) b q.bindings) (sym both.1) h.same; done = both.0 }

-- a bind
bind-acts : (classes : List Class) (ws : List FormCond) (elements : List Element) (vars : ℕ) (right : RightSide) (name : ℕ) (value : FormTerm) (t : Term) (o : Option ℕ) → IsNumbered right.scope → term_of right.scope value ≡ Ok t → variable_of right.scope name ≡ o
    → (set_variable right.scope name o).1.vars ≤ vars → ActsAs classes ws elements vars right (form_action.Bind name value) (with_bind right t (set_variable right.scope name o))
bind-acts classes ws elements vars right name value t None numbered e is room = record {
  action = action.Bind right.scope.vars t;
  more = refl;
  numbered = IsNumbered-more false right.scope name (right.scope.vars + 1) refl refl is numbered;
  agree = λ p q h.
      let given = term-gives right.scope p.bindings q.bindings (reads-so right.scope p.bindings q.bindings h.same) value t e in
      let within : right.scope.vars < length p.bindings = omega (arith, h.size, room) in
      end-both (with_variable false right.scope name) vars (term_value p.bindings t) (written_value q.bindings value) (λ v. record p { bindings = bound p.bindings right.scope.vars v }) (λ v. record q { bindings = naming q.bindings name v }) given
      (λ v. record {
        size = length-set p.bindings right.scope.vars (Some v) ∙ h.size;
        same = SayTheSame-naming false right.scope name p.bindings q.bindings v is numbered within h.same;
        done = h.done;
      });
}
bind-acts classes ws elements vars right name value t (Some var) numbered e is room = record {
  action = action.Bind var t;
  more = refl;
  numbered = numbered;
  agree = λ p q h.
      let given = term-gives right.scope p.bindings q.bindings (reads-so right.scope p.bindings q.bindings h.same) value t e in
      let within : var < length p.bindings = omega (arith, h.size, room, numbered.below name var is) in
      end-both right.scope vars (term_value p.bindings t) (written_value q.bindings value) (λ v. record p { bindings = bound p.bindings var v }) (λ v. record q { bindings = naming q.bindings name v }) given
      (λ v. record {
        size = length-set p.bindings var (Some v) ∙ h.size;
        same = SayTheSame-again right.scope name var p.bindings q.bindings v is numbered within h.same;
        done = h.done;
      });
}

-- a write
write-agrees : (classes : List Class) (ws : List FormCond) (elements : List Element) (vars : ℕ) (scope : Scope) (items : List FormItem) (done : List Item) → after_each (with_item scope) [] items ≡ Ok done
    → (p : Progress) (q : WrittenProgress) → AreAtOne scope vars p q → EndTheSame scope vars (after_checked elements (action.Write done) p) (after_written_action classes ws elements (form_action.Write items) q)
write-agrees classes ws elements vars scope items done e p q h =
    let given = written_items-give scope p.bindings q.bindings (reads-so scope p.bindings q.bindings h.same) items done e in
    end-both scope vars (item_pieces p.bindings done) (written_pieces q.bindings items) (λ more. record p { done = record { changes = p.done.changes; pieces = p.done.pieces ++ more; halts = p.done.halts } })
    (λ more. record q { done = record { changes = q.done.changes; pieces = q.done.pieces ++ more; halts = q.done.halts } }) given
    (λ more. record { size = h.size; same = h.same; done = ap (λ (d : Effect). record { changes = d.changes; pieces = d.pieces ++ more; halts = d.halts }) h.done })

-- an action of either kind
action-acts : (classes : List Class) (ws : List FormCond) (checked' : Elements) (elements : List Element) (vars : ℕ) → StandsOn ws checked' elements → (right : RightSide) (w : FormAction) (next : RightSide) → IsNumbered right.scope → next.scope.vars ≤ vars
    → after_action classes checked' right w ≡ Ok next → ActsAs classes ws elements vars right w next
action-acts classes ws checked' elements vars stands right (form_action.Make name sets) next numbered room e =
    let a = passed (make_action classes right.scope name sets) (λ a. Ok (with_plain_action right a)) next e in
    subst (ActsAs classes ws elements vars right (form_action.Make name sets)) (same_ok a.2)
    (plain-acts classes ws elements vars right (form_action.Make name sets) a.0 numbered (make-agrees classes ws elements vars right.scope name sets a.0 a.1))
action-acts classes ws checked' elements vars stands right (form_action.Modify w sets) next numbered room e =
    let a = passed (modify_action classes checked' right.scope w sets) (λ a. Ok (with_plain_action right a)) next e in
    subst (ActsAs classes ws elements vars right (form_action.Modify w sets)) (same_ok a.2)
    (plain-acts classes ws elements vars right (form_action.Modify w sets) a.0 numbered (modify-agrees classes ws checked' elements vars right.scope w sets a.0 stands a.1))
action-acts classes ws checked' elements vars stands right (form_action.Remove ats) next numbered room e =
    let a = passed (after_each (with_designator checked') [] ats) (λ done. Ok (with_plain_action right (action.Remove done))) next e in
    subst (ActsAs classes ws elements vars right (form_action.Remove ats)) (same_ok a.2)
    (plain-acts classes ws elements vars right (form_action.Remove ats) (action.Remove a.0) numbered (remove-agrees classes ws checked' elements vars right.scope ats a.0 stands a.1))
action-acts classes ws checked' elements vars stands right (form_action.Bind name value) next numbered room e =
    let t = passed (term_of right.scope value) (λ t. Ok (with_bind right t (set_variable right.scope name (variable_of right.scope name)))) next e in
    let same = same_ok t.2 in
    let within : (set_variable right.scope name (variable_of right.scope name)).1.vars ≤ vars = omega (arith, room, ap (λ (r : RightSide). r.scope.vars) same) in
    subst (ActsAs classes ws elements vars right (form_action.Bind name value)) same
    (bind-acts classes ws elements vars right name value t.0 (variable_of right.scope name) numbered t.1 refl within)
action-acts classes ws checked' elements vars stands right (form_action.Write items) next numbered room e =
    let a = passed (after_each (with_item right.scope) [] items) (λ done. Ok (with_plain_action right (action.Write done))) next e in
    subst (ActsAs classes ws elements vars right (form_action.Write items)) (same_ok a.2)
    (plain-acts classes ws elements vars right (form_action.Write items) (action.Write a.0) numbered (write-agrees classes ws elements vars right.scope items a.0 a.1))
action-acts classes ws checked' elements vars stands right form_action.Halt next numbered room e =
    subst (ActsAs classes ws elements vars right form_action.Halt) (same_ok e)
    (plain-acts classes ws elements vars right form_action.Halt action.Halt numbered
    (λ p q h. record { size = h.size; same = h.same; done = ap (λ (d : Effect). record { changes = d.changes; pieces = d.pieces; halts = true }) h.done }))

-- actions in order
pub record ActAs (classes : List Class) (ws : List FormCond) (elements : List Element) (vars : ℕ) (right : RightSide) (actions : List FormAction) (last : RightSide) : Type 0 where
  pub made : List Action
  pub more : last.actions ≡ right.actions ++ made
  pub agree : (number : ℕ) (p : Progress) (q : WrittenProgress) → AreAtOne right.scope vars p q
      → EndTheSame last.scope vars (after_actions number elements made p) (after_written_actions number classes ws elements actions q)

-- an action and those behind it
actions-agree : (middle last : Scope) (vars number : ℕ) (r : Result Progress FaultCause) (w : Result WrittenProgress FaultCause) (f : Progress → Result Progress Failure) (g : WrittenProgress → Result WrittenProgress Failure)
    → ((p : Progress) (q : WrittenProgress) → AreAtOne middle vars p q → EndTheSame last vars (f p) (g q)) → EndTheSame middle vars r w → EndTheSame last vars (of_action number r >>= f) (of_action number w >>= g)
actions-agree middle last vars number (Err first) (Err second) f g rest h = ap (λ (cause : FaultCause). record { action = number; cause = cause }) h
actions-agree middle last vars number (Err first) (Ok q) f g rest h = absurd h
actions-agree middle last vars number (Ok p) (Err second) f g rest h = absurd h
actions-agree middle last vars number (Ok p) (Ok q) f g rest h = rest p q h

actions-grow : (classes : List Class) (checked' : Elements) (right : RightSide) (actions : List FormAction) (last : RightSide) → after_each (with_action classes checked') right actions ≡ Ok last → right.scope.vars ≤ last.scope.vars
actions-grow classes checked' right [] last e = omega (arith, ap (λ (r : RightSide). r.scope.vars) (same_ok e))
actions-grow classes checked' right (w ∷ actions) last e =
    let t = passed (with_action classes checked' right w) (λ next. after_each (with_action classes checked') next actions) last e in
    omega (arith, with_action-grows classes checked' right w t.0 t.1, actions-grow classes checked' t.0 actions last t.2)

actions-act : (classes : List Class) (ws : List FormCond) (checked' : Elements) (elements : List Element) (vars : ℕ) → StandsOn ws checked' elements → (right : RightSide) (actions : List FormAction) (last : RightSide) → IsNumbered right.scope → last.scope.vars ≤ vars
    → after_each (with_action classes checked') right actions ≡ Ok last → ActAs classes ws elements vars right actions last
actions-act classes ws checked' elements vars stands right [] last numbered room e =
    subst (λ (r : RightSide). ActAs classes ws elements vars right [] r) (same_ok e) (record { made = []; more = sym (append-nil right.actions); agree = λ number p q h. h })
actions-act classes ws checked' elements vars stands right (w ∷ actions) last numbered room e =
    let t = passed (with_action classes checked' right w) (λ next. after_each (with_action classes checked') next actions) last e in
    let few = passed (few_actions right) (λ _. after_action classes checked' right w) t.0 t.1 in
    let grown = actions-grow classes checked' t.0 actions last t.2 in
    let first = action-acts classes ws checked' elements vars stands right w t.0 numbered (omega (arith, grown, room)) few.2 in
    let rest = actions-act classes ws checked' elements vars stands t.0 actions last first.numbered room t.2 in
    record {
      made = first.action ∷ rest.made;
      more = rest.more ∙ ap (λ (as' : List Action). as' ++ rest.made) first.more ∙ append_assoc right.actions (first.action ∷ []) rest.made;
      agree = λ number p q h.
          actions-agree t.0.scope last.scope vars number (after_checked elements first.action p) (after_written_action classes ws elements w q) (after_actions (number + 1) elements rest.made)
          (after_written_actions (number + 1) classes ws elements actions) (λ p' q' h'. rest.agree (number + 1) p' q' h') (first.agree p q h);
    }

-- what was done in the end
pub done-same : (scope : Scope) (vars : ℕ) (r : Result Progress Failure) (w : Result WrittenProgress Failure) → EndTheSame scope vars r w → (r >>= λ (p : Progress). Ok p.done) ≡ (w >>= λ (q : WrittenProgress). Ok q.done)
done-same scope vars (Err first) (Err second) h = ap (λ (f : Failure). Err f) h
done-same scope vars (Err first) (Ok q) h = absurd h
done-same scope vars (Ok p) (Err second) h = absurd h
done-same scope vars (Ok p) (Ok q) h = ap (λ (d : Effect). Ok d) h.done

-- a rule whose elements and bindings are those of a match
matched-effect : (classes : List Class) (w : WrittenRule) (rule : Rule) (s : HasSides classes w rule) (elements : List Element) (bindings : Bindings) (named : NamedValues) → bindings_with rule elements ≡ Some bindings
    → SayTheSame (variable_of s.left.scope) bindings named → effect rule elements ≡ written_effect classes w elements named
matched-effect classes w rule s elements bindings named is same =
    let conds : rule.conds ≡ s.walked.conds = ap (λ (x : Rule). x.conds) s.is ∙ s.walked.more in
    let match : matched s.walked.conds elements (no_bindings rule.vars) ≡ Some bindings = ap (λ (cs : List Cond). matched cs elements (no_bindings rule.vars)) (sym conds) ∙ is in
    let stands = stands-on classes rule.vars w.conds s.walked.conds s.left elements (no_bindings rule.vars) bindings s.walked.walked match in
    let start : RightSide = record { actions = []; scope = s.left.scope } in
    let room : s.right.scope.vars ≤ rule.vars = omega (arith, ap (λ (x : Rule). x.vars) s.is) in
    let act = actions-act classes w.conds s.left.elements elements rule.vars stands start w.actions s.right s.walked.numbered room s.right_is in
    let nothing : Effect = record { changes = []; pieces = []; halts = false } in
    let p : Progress = record { bindings = bindings; done = nothing } in
    let q : WrittenProgress = record { bindings = named; done = nothing } in
    let begins : beginning rule elements ≡ p = ap (λ (o : Option Bindings). record { bindings = unwrap_or o (no_bindings rule.vars); done = nothing }) is in
    let actions : rule.actions ≡ act.made = ap (λ (x : Rule). x.actions) s.is ∙ act.more in
    let ends = act.agree 1 p q (record { size = long-matched s.walked.conds elements (no_bindings rule.vars) bindings match ∙ length-replicate rule.vars None; same = same; done = refl }) in
    ap (λ (as' : List Action). after_actions 1 elements as' (beginning rule elements) >>= λ (r : Progress). Ok r.done) actions
    ∙ ap (λ (b : Progress). after_actions 1 elements act.made b >>= λ (r : Progress). Ok r.done) begins
    ∙ done-same s.right.scope rule.vars (after_actions 1 elements act.made p) (after_written_actions 1 classes w.conds elements w.actions q) ends

pub sides-act : (classes : List Class) (w : WrittenRule) (rule : Rule) → HasSides classes w rule → HasWrittenEffect classes w rule
sides-act classes w rule s = record {
  same = λ memory tags bindings named sized is written.
      let both = sides-match classes w rule s memory tags sized in
      let by_number = subst (λ (o : Result Bindings ℕ). MatchTheSame (variable_of s.left.scope) o (written_match classes w tags memory)) is both in
      let same = subst (λ (o : Result NamedValues ℕ). MatchTheSame (variable_of s.left.scope) (Ok bindings) o) written by_number in
      matched-effect classes w rule s (elements_at memory tags) bindings named (bindings_with-elements_at rule tags memory bindings is) same;
}
