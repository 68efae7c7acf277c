-- What a request asks for.
use Rattle.std.specs.Option.{option_copied}
use Rattle.ops_command.specs.declared.words.Request.{Request}
use Rattle.ops_command.specs.Words.{Asked}

-- what is asked for, as the bytes of words
abbrev pub asked_of : Request → Asked
asked_of request = record { program = request.program.now; memory = option_copied request.memory; budget = request.budget }
