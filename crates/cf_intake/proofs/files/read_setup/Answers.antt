use Rattle.std.proofs.lemmas.Result.{err_from_is_err_and}
use Rattle.cf_intake.specs.Files.{setups}
use Rattle.cf_intake.proofs.Loading.{unread_halts}
use Rattle.cf_intake.proofs.PacketSchema.{packet_setup_schema}
use Rattle.cf_intake.proofs.SetupSize.{setup_read, setup_halts, text_of_ok}
use Rattle.cf_intake.proofs.files.read_setup.Goals as goal

pub returns-in_err-bytes-clause-read : goal.returns-in_err-bytes-clause-read
returns-in_err-bytes-clause-read g c =
    let p = err_from_is_err_and c.from_residual.result c.from_residual.ensures.1 in
    rw (p.1, p.2)
    (unread_halts setups (g.F.Shelf.files c.args.shelf.now) c.args.name.now (g.F.Shelf.rest c.args.shelf.now)
    (g.F.Shelf.rest c.read_file.new.shelf) _ c.in_err-bytes.ensures.read)

pub returns-in_err-parse_setup-clause-read : goal.returns-in_err-parse_setup-clause-read
returns-in_err-parse_setup-clause-read g c =
    let p = err_from_is_err_and c.from_residual-in_err-parse_setup.result c.from_residual-in_err-parse_setup.ensures.1 in
    rw (p.1, p.2)
    (setup_halts (g.F.Shelf.files c.args.shelf.now) c.args.name.now c.in_ok-bytes.bytes.items (g.F.Shelf.rest c.args.shelf.now)
    (g.F.Shelf.rest c.read_file.new.shelf) c.in_err-parse_setup.field-0.0 c.in_ok-bytes.ensures.read
    (rw c.deref.ensures.value at c.in_err-parse_setup.ensures.found))

pub returns-clause-read : goal.returns-clause-read
returns-clause-read g c =
    setup_read (g.F.Shelf.files c.args.shelf.now) c.args.name.now c.in_ok-bytes.bytes.items
    (g.F.Shelf.rest c.read_file.new.shelf) c.in_ok-parse_setup.field-0 c.in_ok-bytes.ensures.read
    (text_of_ok c.in_ok-bytes.bytes.items c.in_ok-parse_setup.field-0 (rw c.deref.ensures.value at c.in_ok-parse_setup.ensures.found))

pub returns-clause-lawful : goal.returns-clause-lawful
returns-clause-lawful g c =
    record {
      lawful = c.in_ok-parse_setup.ensures.lawful;
      schema = λ which packets. packet_setup_schema _ c.in_ok-parse_setup.field-0 which
          (text_of_ok _ c.in_ok-parse_setup.field-0 c.in_ok-parse_setup.ensures.found) packets;
    }
