use Rattle.clap.specs.Words.{app_of}
use Rattle.cf_command.proofs.Taken.{is-long}
use Rattle.cf_command.proofs.table.read_long.Goals as goal

pub parse-requires : goal.parse-requires
parse-requires c = is-long (app_of c.in_ok-program.program) c.in_ok-program.ensures
