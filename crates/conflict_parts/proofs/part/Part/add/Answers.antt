-- What an element makes comes to stand, and marks end, or it is taken out again.
use Rattle.std.proofs.Common.{List, ap, length, refl, subst, sym, ◌∙◌}
use Rattle.rule_base.specs.Views.{element_in}
use Rattle.match_network.specs.Arrivals.{Arrivals}
use Rattle.match_network.specs.Rules.{RuleRows}
use Rattle.match_network.specs.Touched.{AllGrow}
use Rattle.rule_base.specs.declared.element.Element.{Element}
use Rattle.conflict_parts.specs.Part.{Part}
use Rattle.conflict_parts.proofs.AddLemmas.{due_from, part_renewed}
use Rattle.conflict_parts.proofs.PartLemmas.{due_or_same, no_more-longer, part_grown, part_undone}
use Rattle.conflict_parts.proofs.QueueLemmas.{opened_none}
use Rattle.conflict_parts.proofs.part.Part.add.Goals as goal

pub invariant_of-self : goal.invariant_of-self
invariant_of-self g c =
    let inside = c.self.inside in
    let new = c.take_in.new.network in
    let e = element_in c.args.element in
    let told = c.in_err-take_in.ensures in
    part_undone inside.network new new e inside.standings inside.standings inside.queue.items inside.queue.items inside.waiters told.grown refl refl told.err c.self.invariant
    (opened_none inside.standings inside.queue.items) (no_more-longer inside.network new e inside.standings told.grown c.self.invariant.no_more)

pub returns-in_err-take_in-clause-grows : goal.returns-in_err-take_in-clause-grows
returns-in_err-take_in-clause-grows g c =
    let new = c.take_in.new.network in
    subst (λ (p : Part). AllGrow new.arrivals.came (length p.network.arrivals.came) p.network.rules new.rules) c.self.view_is c.in_err-take_in.ensures.grows

pub settle-settled-requires-clause-due : goal.settle-settled-requires-clause-due
settle-settled-requires-clause-due g c =
    let told = c.in_ok-take_in.ensures in
    due_from c.take_in.new.network c.self.inside.network.arrivals (element_in c.args.element) c.len-place.result told.ok
    (c.len-place.ensures.value ∙ ap (λ (a : Arrivals). length a.came) c.arrivals.ensures) told.negated_due

pub invariant_of-self-in-Err : goal.invariant_of-self-in-Err
invariant_of-self-in-Err g c =
    let inside = c.self.inside in
    let new = c.take_in.new.network in
    let told = c.in_ok-take_in.ensures in
    let opened = c.in-Err.ensures.err in
    part_undone inside.network new c.remove.new.self (element_in c.args.element) inside.standings c.settle-settled.new.standings inside.queue.items c.settle-settled.new.queue.items inside.waiters told.grown
    c.remove.ensures.rules (ap (λ (a : Arrivals). a.came) c.remove.ensures.arrivals) (told.undone c.remove.new.self.arrivals c.remove.ensures.arrivals) c.self.invariant opened.opened opened.no_more

pub returns-in-Err-clause-err : goal.returns-in-Err-clause-err
returns-in-Err-clause-err g c =
    c.in_ok-take_in.ensures.undone c.remove.new.self.arrivals c.remove.ensures.arrivals ∙ ap (λ (p : Part). p.network.arrivals.places) c.self.view_is

pub returns-in-Err-clause-grows : goal.returns-in-Err-clause-grows
returns-in-Err-clause-grows g c =
    let new = c.take_in.new.network in
    let left = c.remove.new.self in
    subst (λ (p : Part). AllGrow left.arrivals.came (length p.network.arrivals.came) p.network.rules left.rules) c.self.view_is
    (subst (λ (came : List Element). AllGrow came (length c.self.inside.network.arrivals.came) c.self.inside.network.rules left.rules) (sym (ap (λ (a : Arrivals). a.came) c.remove.ensures.arrivals))
    (subst (λ (rules : List RuleRows). AllGrow new.arrivals.came (length c.self.inside.network.arrivals.came) c.self.inside.network.rules rules) (sym c.remove.ensures.rules) c.in_ok-take_in.ensures.grows))

pub invariant_of-self-in_default : goal.invariant_of-self-in_default
invariant_of-self-in_default g c =
    let inside = c.self.inside in
    let new = c.take_in.new.network in
    let told = c.in_ok-take_in.ensures in
    let settled = c.in_default.ensures.ok in
    part_renewed inside.refraction new c.len-place.result settled.standings c.settle-settled.new.standings settled.among c.settle-settled.new.queue.items inside.waiters
    (part_grown inside.network new (element_in c.args.element) inside.standings settled.standings inside.queue.items settled.among inside.waiters told.grown
    (ap (λ (a : Arrivals). a.places) told.ok) c.self.invariant settled.opened.opened settled.opened.no_more
    (due_or_same new.due inside.network.rules new.rules settled.standings told.touched settled.all)) settled.renewed

pub returns-clause-grows : goal.returns-clause-grows
returns-clause-grows g c =
    let new = c.take_in.new.network in
    subst (λ (p : Part). AllGrow new.arrivals.came (length p.network.arrivals.came) p.network.rules new.rules) c.self.view_is c.in_ok-take_in.ensures.grows
