use Rattle.std.proofs.Common.{arith, rules}
use Rattle.cf_append.proofs.Appending.{may_begin}
use Rattle.cf_table_tests.proofs.append_tests.begin.Goals as goal

pub take_ticket-found-requires-clause-lawful : goal.take_ticket-found-requires-clause-lawful
take_ticket-found-requires-clause-lawful g c =
    let is = c.num-number.ensures in
    let low = c.num-number.type_inv in
    may_begin c.args.log.now.shape c.args.pass.now.view c.args.row.now c.requires.fits (omega (arith, is, low)) c.requires.rest (search rules)
