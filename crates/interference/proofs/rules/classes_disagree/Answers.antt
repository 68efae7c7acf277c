-- One class more, of which the modes go together or don't.
use Rattle.std.proofs.Common.{◌≡◌, ℕ, Bool, true, sym, ◌∙◌, ap, arith}
use Rattle.std.specs.List.{range_with_len}
use Rattle.rule_base.proofs.AmongLemmas.{list_any-among}
use Rattle.interference.specs.Modes.{asks}
use Rattle.interference.specs.MayInterfere.{class_demands, disagree}
use Rattle.interference.proofs.RegionLemmas.{Among-range}
use Rattle.interference.proofs.RuleLemmas.{none-range_next}
use Rattle.interference.proofs.rules.classes_disagree.Goals as goal

pub returns-then-disagree : goal.returns-then-disagree
returns-then-disagree c =
    let class = c.loop-class.class in
    let test : ℕ → Bool = λ k. disagree (asks (class_demands c.args.one.now) k) (asks (class_demands c.args.other.now) k) in
    let passes : test class ≡ true = sym (c.disagree.ensures ∙ ap (λ o. disagree o c.class_mode-in-loop-class.result) c.class_mode.ensures ∙ ap (disagree (asks (class_demands c.args.one.now) class)) c.class_mode-in-loop-class.ensures) ∙ c.if-disagree.true in
    sym (list_any-among test class (range_with_len 0 c.args.count) (Among-range 0 c.args.count class (omega arith) (omega (arith, c.loop-class-test.true))) passes)

pub loop-class-preserved : goal.loop-class-preserved
loop-class-preserved c =
    let class = c.loop-class.class in
    let test : ℕ → Bool = λ k. disagree (asks (class_demands c.args.one.now) k) (asks (class_demands c.args.other.now) k) in
    none-range_next test class c.loop-class.invariant (sym (c.disagree.ensures ∙ ap (λ o. disagree o c.class_mode-in-loop-class.result) c.class_mode.ensures ∙ ap (disagree (asks (class_demands c.args.one.now) class)) c.class_mode-in-loop-class.ensures) ∙ c.if-disagree.false)
