use Rattle.cf_intake.specs.declared.refusal.Stop.TheVariants as stops
use Rattle.cf_run.proofs.Watching.{opened_so, missing_so, failed_so, lacking_so}
use Rattle.cf_run.proofs.watched.open_capture.Goals as goal

pub returns-in-Ok-clause-opened : goal.returns-in-Ok-clause-opened
returns-in-Ok-clause-opened g c =
    opened_so (g.F.Shelf.files c.args.shelf.now) c.args.name.now (g.F.Shelf.rest c.args.shelf.now) (g.F.Shelf.rest c.open.new.self) c.in-Ok.ensures.opens

pub returns-in-Err-Missing-clause-opened : goal.returns-in-Err-Missing-clause-opened
returns-in-Err-Missing-clause-opened g c =
    missing_so (g.F.Shelf.files c.args.shelf.now) c.args.name.now (g.F.Shelf.rest c.args.shelf.now) (g.F.Shelf.rest c.open.new.self) c.in-Err-Missing.field-0
    c.in-Err-Missing.ensures.opens c.in-Err-Missing.field-0-is

pub returns-in-Err-Failed-clause-opened : goal.returns-in-Err-Failed-clause-opened
returns-in-Err-Failed-clause-opened g c =
    failed_so (g.F.Shelf.files c.args.shelf.now) c.args.name.now (g.F.Shelf.rest c.args.shelf.now) (g.F.Shelf.rest c.open.new.self) c.in-Err-Failed.field-0
    c.in-Err-Failed.ensures.opens stops.ReadFault c.in-Err-Failed.field-0-is

pub returns-in-Err-Memory-clause-opened : goal.returns-in-Err-Memory-clause-opened
returns-in-Err-Memory-clause-opened g c =
    lacking_so (g.F.Shelf.files c.args.shelf.now) c.args.name.now (g.F.Shelf.rest c.args.shelf.now) (g.F.Shelf.rest c.open.new.self) c.in-Err-Memory.field-0
    c.in-Err-Memory.ensures.opens stops.Memory c.in-Err-Memory.field-0-is
