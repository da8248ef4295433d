use Rattle.std.proofs.Common.{arith, rules}
use Rattle.cf_append.proofs.Appending.{may_begin}
use Rattle.cf_log_tests.proofs.lane_tests.measure_below.Goals as goal

pub take_ticket-requires-clause-lawful : goal.take_ticket-requires-clause-lawful
take_ticket-requires-clause-lawful g c =
    let is = c.num-number.ensures in
    let low = c.num-number.type_inv in
    may_begin c.args.log.now.shape c.args.second.view c.in_ok-one.one (search rules) (omega (arith, is, low)) c.requires.ready.1.rest (search rules)
