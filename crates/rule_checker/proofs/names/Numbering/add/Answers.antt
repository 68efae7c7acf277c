-- A new name goes last.
use Rattle.std.proofs.Common.{◌≡◌, ◌++◌, ◌∷◌, [], None, nat_eq, ◌∙◌, ap}
use Rattle.std.specs.Map.{lookup}
use Rattle.indexmap.specs.IndexMap.{get}
use Rattle.indexmap.proofs.CallerLemmas.{insert_entry-new}
use Rattle.rule_checker.proofs.names.Numbering.add.Goals as goal

pub returns : goal.returns
returns c =
    let numbers = c.self.inside.numbers in
    let new : get nat_eq numbers c.args.name ≡ None = ap (lookup (nat_eq c.args.name)) c.self.view_is ∙ c.requires in
    c.in_ok-insert.ensures.entries ∙ insert_entry-new nat_eq numbers c.args.name c.args.number new ∙ ap (λ entries. entries ++ (c.args.name, c.args.number) ∷ []) c.self.view_is
