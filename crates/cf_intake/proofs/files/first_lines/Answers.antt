use Rattle.std.proofs.Common.{false}
use Rattle.cf_setup.specs.declared.source.Source.TheVariants.{Records}
use Rattle.std.proofs.lemmas.Result.{err_from_is_err_and}
use Rattle.cf_intake.specs.Files.{captures}
use Rattle.cf_intake.proofs.Loading.{unread_halts, first_read, first_fit}
use Rattle.cf_intake.proofs.files.first_lines.Goals as goal

pub returns-in_err-bytes-clause-read : goal.returns-in_err-bytes-clause-read
returns-in_err-bytes-clause-read g c =
    let p = err_from_is_err_and c.from_residual.result c.from_residual.ensures.1 in
    rw (p.1, p.2)
    (unread_halts (captures Records false c.args.schema.now) (g.F.Shelf.files c.args.shelf.now) c.args.name.now (g.F.Shelf.rest c.args.shelf.now)
    (g.F.Shelf.rest c.read_file.new.shelf) _ c.in_err-bytes.ensures.read)

pub returns-clause-read : goal.returns-clause-read
returns-clause-read g c =
    first_read c.args.schema.now (g.F.Shelf.files c.args.shelf.now) c.args.name.now c.in_ok-bytes.bytes.items (g.F.Shelf.rest c.args.shelf.now)
    (g.F.Shelf.rest c.read_file.new.shelf) c.args.most c.first_records_of.result c.in_ok-bytes.ensures.read (rw c.deref.ensures.value at c.first_records_of.ensures)

pub returns-clause-fit : goal.returns-clause-fit
returns-clause-fit g c = first_fit c.args.schema.now c.in_ok-bytes.bytes.items c.args.most c.first_records_of.result
    (rw c.deref.ensures.value at c.first_records_of.ensures)
