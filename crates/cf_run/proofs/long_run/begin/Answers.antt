use Rattle.std.proofs.lemmas.Result.{err_from_is_err_and}
use Rattle.cf_command.specs.Call.{long_by}
use Rattle.cf_run.proofs.Lengths.{long_unset, long_other, long_kind, long_unopened}
use Rattle.cf_run.proofs.long_run.begin.Goals as goal

pub returns-in_err-setup-clause-begins : goal.returns-in_err-setup-clause-begins
returns-in_err-setup-clause-begins g c =
    let p = err_from_is_err_and c.from_residual.result c.from_residual.ensures.1 in
    rw (p.1, p.2)
    (long_unset (g.F.Shelf.files c.args.shelf.now) (long_by c.args.command.now) (g.F.Shelf.rest c.args.shelf.now)
    (g.F.Shelf.rest c.read_setup.new.shelf) _ c.in_err-setup.ensures.read)

pub returns-in_err-schema-clause-begins : goal.returns-in_err-schema-clause-begins
returns-in_err-schema-clause-begins g c =
    let p = err_from_is_err_and c.from_residual-in_err-schema.result c.from_residual-in_err-schema.ensures.1 in
    rw (p.1, p.2)
    (long_other (g.F.Shelf.files c.args.shelf.now) (long_by c.args.command.now) (g.F.Shelf.rest c.args.shelf.now) c.in_ok-setup.setup
    (g.F.Shelf.rest c.read_setup.new.shelf) c.in_ok-setup.ensures.read _ c.in_err-schema.ensures)

pub returns-in_err-long-clause-begins : goal.returns-in_err-long-clause-begins
returns-in_err-long-clause-begins g c =
    let p = err_from_is_err_and c.from_residual-in_err-long.result c.from_residual-in_err-long.ensures.1 in
    rw (p.1, p.2)
    (long_unopened (g.F.Shelf.files c.args.shelf.now) (long_by c.args.command.now) (g.F.Shelf.rest c.args.shelf.now) c.in_ok-setup.setup
    (g.F.Shelf.rest c.read_setup.new.shelf) c.in_ok-setup.ensures.read)

pub returns-clause-begins : goal.returns-clause-begins
returns-clause-begins g c =
    record {
      set = c.in_ok-setup.ensures.read.0;
      kind = long_kind (g.F.Shelf.files c.args.shelf.now) (long_by c.args.command.now) (g.F.Shelf.rest c.args.shelf.now) c.in_ok-setup.setup
          (g.F.Shelf.rest c.read_setup.new.shelf) c.in_ok-setup.ensures.read c.in_ok-schema.schema c.in_ok-schema.ensures;
      read = c.in_ok-setup.ensures.lawful;
      left = c.in_ok-setup.ensures.read.1;
      is = c.in_ok-long.ensures;
    }
