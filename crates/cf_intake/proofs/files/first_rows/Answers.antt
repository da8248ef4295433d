use Rattle.std.proofs.lemmas.Result.{err_from_is_err_and}
use Rattle.cf_intake.proofs.Loading.{packets_kept, lines_kept}
use Rattle.cf_intake.proofs.files.first_rows.Goals as goal

pub returns-in_ok-open_packets-in-Packets-clause-read : goal.returns-in_ok-open_packets-in-Packets-clause-read
returns-in_ok-open_packets-in-Packets-clause-read g c =
    rw c.in-Packets.is
    (packets_kept c.in-Packets.schema c.args.manner.truncated (g.F.Shelf.files c.args.shelf.now) c.args.name.now (g.F.Shelf.rest c.args.shelf.now)
    (g.F.Shelf.rest c.open_packets.new.shelf) (g.F.Shelf.rest c.first_packets.new.shelf) c.args.most c.first_packets.result
    c.in_ok-open_packets-in-Packets.ensures.opened c.first_packets.ensures.taken)

pub returns-in_err-open_packets-in-Packets-clause-read : goal.returns-in_err-open_packets-in-Packets-clause-read
returns-in_err-open_packets-in-Packets-clause-read g c =
    let p = err_from_is_err_and c.from_residual.result c.from_residual.ensures.1 in
    rw (p.1, p.2, c.in-Packets.is) (c.in_err-open_packets-in-Packets.ensures.opened c.in-Packets.schema c.args.manner.truncated)

pub returns-in_ok-rows-in-Records-clause-read : goal.returns-in_ok-rows-in-Records-clause-read
returns-in_ok-rows-in-Records-clause-read g c =
    rw c.in-Records.is
    (lines_kept c.args.manner.truncated c.in-Records.schema.now (g.F.Shelf.files c.args.shelf.now) c.args.name.now (g.F.Shelf.rest c.first_lines.new.shelf)
    c.args.most c.in_ok-rows-in-Records.rows.items c.in_ok-rows-in-Records.ensures.read)

pub returns-in_err-rows-in-Records-clause-read : goal.returns-in_err-rows-in-Records-clause-read
returns-in_err-rows-in-Records-clause-read g c =
    let p = err_from_is_err_and c.from_residual-in_err-rows-in-Records.result c.from_residual-in_err-rows-in-Records.ensures.1 in
    rw (p.1, p.2, c.in-Records.is) c.in_err-rows-in-Records.ensures.read
