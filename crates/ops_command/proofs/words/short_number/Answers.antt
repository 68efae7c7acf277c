use Rattle.std.proofs.Common.{◌≡◌, true, ap, ◌∙◌, sym, refl}
use Rattle.std.specs.Result.{result_ok}
use Rattle.ops_command.specs.Words.{is_short_numeral}
use Rattle.ops_command.proofs.WordLemmas.{parsed_numeral}
use Rattle.ops_command.proofs.words.short_number.Goals as goal

pub returns-then-is_short_numeral : goal.returns-then-is_short_numeral
returns-then-is_short_numeral c =
    let word = c.args.word.now in
    let short : is_short_numeral word ≡ true = ap is_short_numeral (sym c.as_bytes.ensures.value) ∙ sym c.is_short_numeral.ensures ∙ c.if-is_short_numeral.true in
    c.ok.ensures.value ∙ ap result_ok (parsed_numeral word c.parse.result short c.parse.ensures.value.0) ∙ rw short refl
