use Rattle.std.proofs.Common.{◌≡◌, take, map, string_bytes}
use Rattle.cf_command.specs.Call.{texts as texts_of}
use Rattle.cf_run.proofs.program.texts.Given as goal

abbrev pub invariant-loop-word : goal.invariant-loop-word
invariant-loop-word l = texts_of l.words.items ≡ map string_bytes (take l.word-index l.owned)
