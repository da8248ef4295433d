use Rattle.std.proofs.lemmas.Result.{err_from_is_err_and}
use Rattle.cf_intake.proofs.Loading.{packets_read}
use Rattle.cf_row.specs.Schema6.{attrs_by}
use Rattle.cf_report.specs.Dump.{IsListing}
use Rattle.cf_run.proofs.listed.list_rows.Goals as goal

pub returns-in_err-open_packets-clause-read : goal.returns-in_err-open_packets-clause-read
returns-in_err-open_packets-clause-read g c =
    let p = err_from_is_err_and c.from_residual-in_err-open_packets.result c.from_residual-in_err-open_packets.ensures.1 in
    rw (p.1, p.2) (c.in_err-open_packets.ensures.opened c.args.which c.args.truncated)

pub returns-clause-read : goal.returns-clause-read
returns-clause-read g c =
    packets_read c.args.which c.args.truncated (λ rows. IsListing (attrs_by c.args.which) rows c.list_packets.new.listing) (g.F.Shelf.files c.args.shelf.now)
    c.args.name.now (g.F.Shelf.rest c.args.shelf.now)
    (g.F.Shelf.rest c.open_packets.new.shelf)
    (g.F.Shelf.rest c.list_packets.new.shelf) c.list_packets.result c.in_ok-open_packets.ensures.opened c.list_packets.ensures.taken
