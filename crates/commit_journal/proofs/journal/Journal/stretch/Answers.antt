-- Past the last entry there is none.
use Rattle.std.proofs.Common.{◌≡◌, ◌+◌, ◌-◌, ◌∙◌, ap, arith, drop, length, min, subst, sym, take}
use Rattle.std.specs.Prelude.{IfOk}
use Rattle.std.proofs.lemmas.List.{drop-drop, drop_min, length-drop, take_min}
use Rattle.commit_journal.specs.Entries.{Recorded, born_in}
use Rattle.commit_journal.proofs.journal.Journal.stretch.Goals as goal

pub returns-clause-entries : goal.returns-clause-entries
returns-clause-entries c =
    let entries = c.args.self.now.entries in
    let from = c.args.from in
    let most = c.args.most in
    let from_is : c.min-from.result ≡ min from (length entries) = c.min-from.ensures ∙ ap (min from) c.len-len.ensures in
    let behind : drop c.min-from.result entries ≡ drop from entries = ap (λ n. drop n entries) from_is ∙ drop_min from entries in
    let left : c.len-len.result - c.min-from.result ≡ length (drop from entries) = omega (arith, length-drop from entries, from_is, c.len-len.ensures) in
    let count_is : c.min-count.result ≡ min most (length (drop from entries)) = c.min-count.ensures ∙ ap (min most) left in
    let same : take c.min-count.result (drop c.min-from.result entries) ≡ take most (drop from entries) =
    ap (take c.min-count.result) behind ∙ ap (λ n. take n (drop from entries)) count_is ∙ take_min most (drop from entries) in
    subst (λ es. IfOk c.range.result (λ (some : Recorded). some.entries ≡ es)) same c.range.ensures.entries

pub returns-clause-next : goal.returns-clause-next
returns-clause-next c =
    let entries = c.args.self.now.entries in
    let from = c.args.from in
    let most = c.args.most in
    let from_is : c.min-from.result ≡ min from (length entries) = c.min-from.ensures ∙ ap (min from) c.len-len.ensures in
    let behind : drop c.min-from.result entries ≡ drop from entries = ap (λ n. drop n entries) from_is ∙ drop_min from entries in
    let left : c.len-len.result - c.min-from.result ≡ length (drop from entries) = omega (arith, length-drop from entries, from_is, c.len-len.ensures) in
    let count_is : c.min-count.result ≡ min most (length (drop from entries)) = c.min-count.ensures ∙ ap (min most) left in
    let same : drop (c.min-from.result + c.min-count.result) entries ≡ drop most (drop from entries) =
    sym (drop-drop c.min-count.result c.min-from.result entries) ∙ ap (drop c.min-count.result) behind ∙ ap (λ n. drop n (drop from entries)) count_is ∙ drop_min most (drop from entries) in
    subst (λ es. IfOk c.range.result (λ (some : Recorded). some.next + length (born_in es) ≡ c.args.self.now.next)) same c.range.ensures.next
