use Rattle.std.proofs.Common.{◌^◌}
use Rattle.cf_row.specs.Schema6.{attrs_by}
use Rattle.cf_setup.specs.declared.source.Source.TheVariants.{Packets}
use Rattle.cf_intake.specs.Files.{captures}
use Rattle.cf_intake.specs.Refusals.{unopened}
use Rattle.cf_intake.proofs.Loading.{unread_halts}
use Rattle.cf_intake.proofs.Taking.{unopened_cause, unopened_reads, unread_cause}
use Rattle.cf_intake.proofs.files.open_packets.Goals as goal

pub returns-in-Err-clause-opened : goal.returns-in-Err-clause-opened
returns-in-Err-clause-opened g c =
    rw (c.from-in-Err.ensures, c.from.ensures)
    (λ schema truncated. unread_halts (captures (Packets schema) truncated (attrs_by schema)) (g.F.Shelf.files c.args.shelf.now) c.args.name.now
    (g.F.Shelf.rest c.args.shelf.now)
    (g.F.Shelf.rest c.open.new.self)
    (unopened c.in-Err.fault)
    (unopened_reads (g.F.Shelf.files c.args.shelf.now) c.args.name.now (2 ^ 32) (g.F.Shelf.rest c.args.shelf.now)
    (g.F.Shelf.rest c.open.new.self) c.in-Err.fault c.in-Err.ensures.opens))

pub returns-in-Err-clause-cause : goal.returns-in-Err-clause-cause
returns-in-Err-clause-cause g c =
    rw (c.from-in-Err.ensures, c.from.ensures) (unread_cause (g.F.Shelf.faults c.args.shelf.now) (g.F.Shelf.faults c.open.new.self) (unopened c.in-Err.fault)
    (unopened_cause (g.F.Shelf.faults c.args.shelf.now) (g.F.Shelf.faults c.open.new.self) c.in-Err.fault c.in-Err.ensures.cause))
