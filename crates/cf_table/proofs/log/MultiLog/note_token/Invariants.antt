use Rattle.std.proofs.Common.{[]}
use Rattle.cf_law.specs.Steps.{new_pass}
use Rattle.cf_table.proofs.log.MultiLog.note_token.Given as goal

abbrev pub ghosts-split_as : goal.ghosts-split_as
ghosts-split_as a = record { stays = a.token.now.view; goes = new_pass [] (a.token.now.view).seen }
