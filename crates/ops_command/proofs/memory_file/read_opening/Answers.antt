-- Without a memory file an empty one is read, which adds nothing and can't be faulty.
use Rattle.std.proofs.Common.{ap}
use Rattle.std.specs.Option.{option_copied}
use Rattle.ops_command.proofs.ResultLemmas.{IfOk-map, IfErr-map}
use Rattle.ops_command.proofs.EmptyTextLemmas.{GivesOpening-empty, IsRefusedMemory-empty}
use Rattle.ops_command.proofs.memory_file.read_opening.Goals as goal

pub returns-in-None-clause-gives : goal.returns-in-None-clause-gives
returns-in-None-clause-gives g c =
    IfOk-map (λ elements opens. GivesOpening-empty (g.F.Shelf.told c.args.shelf.now) (option_copied c.args.name) _ _ (ap option_copied c.in-None.is) opens)
    c.opening_of-in-None.result c.opening_of-in-None.ensures.opens

pub returns-in-None-clause-refused : goal.returns-in-None-clause-refused
returns-in-None-clause-refused g c =
    IfErr-map (λ said wrong. IsRefusedMemory-empty _ (option_copied c.args.name) _ said wrong) c.opening_of-in-None.result c.opening_of-in-None.ensures.refused
