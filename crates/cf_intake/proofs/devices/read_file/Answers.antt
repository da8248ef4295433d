use Rattle.std.proofs.lemmas.Result.{err_from_is_err_and}
use Rattle.cf_intake.proofs.Taking.{reads_opened, unopened_cause, unopened_reads}
use Rattle.cf_intake.proofs.devices.read_file.Goals as goal

pub returns-clause-read : goal.returns-clause-read
returns-clause-read g c =
    reads_opened (g.F.Shelf.files c.args.shelf.now) c.args.name.now c.args.limit (g.F.Shelf.rest c.args.shelf.now) (g.F.Shelf.rest c.open.new.self)
    (g.F.Shelf.rest c.read_rest.new.shelf) c.read_rest.result c.in_ok-open.ensures.opens c.read_rest.ensures.taken c.read_rest.ensures.stopped
    c.read_rest.ensures.present

pub returns-in_err-open-clause-read : goal.returns-in_err-open-clause-read
returns-in_err-open-clause-read g c =
    let p = err_from_is_err_and c.from_residual.result c.from_residual.ensures.1 in
    rw (p.1, p.2)
    (unopened_reads (g.F.Shelf.files c.args.shelf.now) c.args.name.now c.args.limit (g.F.Shelf.rest c.args.shelf.now)
    (g.F.Shelf.rest c.open.new.self) c.in_err-open.field-0.0
    c.in_err-open.ensures.opens)

pub returns-in_err-open-clause-cause : goal.returns-in_err-open-clause-cause
returns-in_err-open-clause-cause g c =
    let p = err_from_is_err_and c.from_residual.result c.from_residual.ensures.1 in
    rw (p.1, p.2) (unopened_cause (g.F.Shelf.faults c.args.shelf.now) (g.F.Shelf.faults c.open.new.self) c.in_err-open.field-0.0 c.in_err-open.ensures.cause)
