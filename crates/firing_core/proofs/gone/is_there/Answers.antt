-- The element that has the tag in working memory is like this one, or isn't, or there is none.
use lib.Pointwise.{pointwise}
use Rattle.std.proofs.Common.{◌≡◌, ◌&&◌, ◌==◌, None, Some, rules, tests, refl, ap, ◌∙◌, sym, true, false}
use Rattle.std.specs.Option.{option_map_or}
use Rattle.rule_base.specs.Memory.{element_at}
use Rattle.rule_base.specs.Value.{same_value}
use Rattle.rule_base.specs.declared.value.Value.{Value}
use Rattle.rule_base.specs.declared.value.Value.TheVariants.{Int, Sym}
use Rattle.rule_base.specs.contracts.value.ValuePartialEq.TheImpl.{eq-value}
use Rattle.rule_base.specs.Views.{element_in}
use Rattle.firing_core.specs.Store.{memory_in}
use Rattle.firing_core.proofs.GoneLemmas.{is_like, pointwise_alike, there}
use Rattle.firing_core.proofs.gone.is_there.Goals as goal

-- what `==` on values computes
derived_eq : (a b : Value) → eq-value.it a b ≡ same_value a b
derived_eq (Int a) (Int b) = refl
derived_eq (Int a) (Sym b) = refl
derived_eq (Sym a) (Int b) = refl
derived_eq (Sym a) (Sym b) = refl

pub returns-then-element-found : goal.returns-then-element-found
returns-then-element-found c =
    let e = element_in c.args.element in
    let memory = memory_in c.args.store.now in
    let x = element_in c.in-Some.found in
    let at : element_at memory e.tag ≡ Some x = search rules in
    let same : (e.class == x.class) ≡ true = search (rules, tests, c.if-element-found.true) in
    let like : is_like e x ≡ c.eq.result = ap (λ b. b && pointwise same_value e.values x.values) same ∙ sym (pointwise_alike eq-value.it same_value derived_eq e.values x.values) ∙ sym c.eq.ensures in
    sym (there e memory c.requires ∙ ap (λ o. option_map_or (is_like e) o false) at ∙ like)

pub returns-else-element-found : goal.returns-else-element-found
returns-else-element-found c =
    let e = element_in c.args.element in
    let memory = memory_in c.args.store.now in
    let x = element_in c.in-Some.found in
    let at : element_at memory e.tag ≡ Some x = search rules in
    let differs : (e.class == x.class) ≡ false = search (rules, tests, c.if-element-found.false) in
    let like : is_like e x ≡ (e.class == x.class) = ap (λ b. b && pointwise same_value e.values x.values) differs ∙ sym differs in
    sym (there e memory c.requires ∙ ap (λ o. option_map_or (is_like e) o false) at ∙ like)

pub returns-in-None : goal.returns-in-None
returns-in-None c =
    let e = element_in c.args.element in
    let memory = memory_in c.args.store.now in
    let at : element_at memory e.tag ≡ None = search rules in
    sym (there e memory c.requires ∙ ap (λ o. option_map_or (is_like e) o false) at)
