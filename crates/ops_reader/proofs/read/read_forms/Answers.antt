-- The answers, from what has been read of the tokens.
use Rattle.std.proofs.Common.{ap, length, arith}
use Rattle.ops_reader.specs.declared.part.Progress.{Progress}
use Rattle.ops_tokens.specs.Tokens.{tokens_of}
use Rattle.ops_reader.specs.Outcome.{reading}
use Rattle.ops_tokens.proofs.TokenCounts.{a_byte_each}
use Rattle.ops_reader.proofs.FormShapes.{text_has_shape}
use Rattle.ops_reader.proofs.ReadLemmas.{whole_is_text}
use Rattle.ops_reader.proofs.Reached.{ends_early}
use Rattle.ops_reader.proofs.read.read_forms.Goals as goal

pub new-requires : goal.new-requires
new-requires c =
    let names = c.args.symbols.now in
    let after = c.read_tokens.new.symbols in
    let tokens = tokens_of c.args.bytes.now in
    let text = whole_is_text names after tokens c.in_ok-progress.progress c.in-Some.forms c.in_ok-progress.ensures.read c.in-Some.ensures.whole in
    let same = ap (λ (p : Progress). length p.forms) c.in-Some.ensures.whole in
    text_has_shape c.in-Some.forms names tokens after text (omega (arith, same, c.in_ok-progress.ensures.few)) (omega (arith, a_byte_each c.args.bytes.now))

pub returns-in-Some-clause-found : goal.returns-in-Some-clause-found
returns-in-Some-clause-found c =
    rw c.new.ensures
    (whole_is_text c.args.symbols.now c.read_tokens.new.symbols (tokens_of c.args.bytes.now) c.in_ok-progress.progress c.in-Some.forms c.in_ok-progress.ensures.read c.in-Some.ensures.whole)

pub returns-in-None-clause-refused : goal.returns-in-None-clause-refused
returns-in-None-clause-refused c =
    ends_early c.args.symbols.now c.args.bytes.now (reading c.read_tokens.new.symbols c.in_ok-progress.progress) c.in_ok-progress.ensures.read c.in-None.ensures.unfinished
