use Rattle.std.proofs.Common.{rules, map}
use Rattle.clap.specs.Words.{app_of, subcommand_rows_of}
use Rattle.clap.specs.Words.{kind_of}
use Rattle.cf_command.proofs.Taken.{taken-ok, taken-err}
use Rattle.cf_command.proofs.table.parse.Goals as goal

pub returns-in-Ok : goal.returns-in-Ok
returns-in-Ok c =
    taken-ok (app_of c.args.program) (map (λ w. w.now) c.args.words.now) (subcommand_rows_of c.in-Ok.matches) c.requires
    c.in-Ok.ensures.kinds (λ e. (c.in-Ok.ensures.matches e).1)

pub returns : goal.returns
returns c =
    taken-err (app_of c.args.program) (map (λ w. w.now) c.args.words.now) (kind_of c.in-Err.error) c.requires (search rules)
    c.in-Err.ensures.kinds
