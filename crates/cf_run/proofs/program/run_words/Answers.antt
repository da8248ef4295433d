use Rattle.cf_run.proofs.Ending.{no_command, no_other_end}
use Rattle.cf_run.proofs.program.run_words.Goals as goal

pub returns-clause-by_command : goal.returns-clause-by_command
returns-clause-by_command g c = let ended = c.run_to_code.ensures.ended in (ended.status, ended.seals, ended.number_is, ended.by_command)

pub returns-clause-words : goal.returns-clause-words
returns-clause-words g c = let ended = c.run_to_code.ensures.ended in no_command _ _ (ended.status, ended.seals, ended.number_is, ended.by_command)

pub returns-clause-no_words : goal.returns-clause-no_words
returns-clause-no_words g c = let ended = c.run_to_code.ensures.ended in no_other_end _ _ (ended.status, ended.seals, ended.number_is, ended.by_command)
