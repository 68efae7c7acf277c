-- One more token, or one that is refused.
use Rattle.std.proofs.Common.{◌≡◌, List, length, sym, ap, subst, arith}
use Rattle.std.proofs.lemmas.Result.{err_from_is_err_and}
use Rattle.ops_reader.specs.declared.form.Form.{Form}
use Rattle.ops_reader.specs.declared.part.FormPart.TheVariants as of_form
use Rattle.ops_tokens.specs.Token.{seen}
use Rattle.ops_tokens.specs.Tokens.{tokens_of}
use Rattle.ops_tokens.specs.Places.{lefts_of}
use Rattle.ops_reader.specs.Outcome.{reading}
use Rattle.ops_reader.proofs.Reached.{HasReached, reached_nothing, reached_found, reached_more, refused_here}
use Rattle.ops_reader.proofs.read.read_tokens.Goals as goal

pub loop-found-init : goal.loop-found-init
loop-found-init c =
    let names = c.args.symbols.now in
    let text = c.args.bytes.now in
    let none : length c.new.result ≡ 0 = ap length c.new.ensures in
    record {
      reached =
          subst (λ (forms : List Form). HasReached names text (tokens_of text) (lefts_of text) (record { names = names; forms = forms; part = of_form.Nothing }))
          (sym c.new.ensures) (reached_nothing names text);
      within = omega arith;
      few = omega (arith, none);
      room = omega arith;
      stand = λ number name h. h;
    }

pub loop-found-preserved : goal.loop-found-preserved
loop-found-preserved c =
    let names = c.args.symbols.now in
    let text = c.args.bytes.now in
    let from = reading c.loop-found.symbols c.loop-found.progress in
    let to = reading c.read_token.new.symbols c.in_ok-progress.progress in
    let rest = c.loop-found.rest.now in
    let found = c.in-Some.found in
    let behind = found.behind.now in
    let here =
    reached_found names text (tokens_of rest) (lefts_of rest) from (seen found.token) (tokens_of behind) found.left (lefts_of behind)
    c.loop-found.invariant.reached c.in-Some.ensures.next c.in-Some.ensures.place in
    record {
      reached = reached_more names text (seen found.token) (tokens_of behind) found.left (lefts_of behind) from to here c.in_ok-progress.ensures.read;
      within = omega (arith, c.in-Some.ensures.shorter);
      few = omega (arith, c.in_ok-progress.ensures.few, c.in-Some.ensures.shorter);
      room = omega (arith, c.in-Some.ensures.shorter);
      stand = λ number name h. c.read_token.ensures.grows.kept number name (c.loop-found.invariant.stand number name h);
    }

pub returns-in_err-progress-clause-refused : goal.returns-in_err-progress-clause-refused
returns-in_err-progress-clause-refused c =
    let names = c.args.symbols.now in
    let text = c.args.bytes.now in
    let from = reading c.loop-found.symbols c.loop-found.progress in
    let rest = c.loop-found.rest.now in
    let found = c.in-Some.found in
    let behind = found.behind.now in
    let here =
    reached_found names text (tokens_of rest) (lefts_of rest) from (seen found.token) (tokens_of behind) found.left (lefts_of behind)
    c.loop-found.invariant.reached c.in-Some.ensures.next c.in-Some.ensures.place in
    let p = err_from_is_err_and c.from_residual.result c.from_residual.ensures.1 in
    rw (p.1, p.2) (refused_here names text (seen found.token) (tokens_of behind) found.left (lefts_of behind) from _ here c.in_err-progress.ensures.refused)

pub returns-in_err-progress-clause-stand : goal.returns-in_err-progress-clause-stand
returns-in_err-progress-clause-stand c = λ number name h. c.read_token.ensures.grows.kept number name (c.loop-found.invariant.stand number name h)
