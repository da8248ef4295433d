use Rattle.std.proofs.Common.{arith}
use Rattle.cf_shape.proofs.Used.{before_fits}
use Rattle.cf_shape.proofs.places.place_cell.Goals as goal

pub place_ticket-requires-clause-index : goal.place_ticket-requires-clause-index
place_ticket-requires-clause-index c =
    let before = before_fits c.args.shape.now.lanes c.args.lane c.requires.lane in
    let count = rw c.lanes.ensures.lanes at c.cell_count-before.ensures.count in
    let words = rw c.schema.ensures at c.word_count.ensures.count in
    let word = c.requires.word in
    omega (arith, before, count, words, word, c.from.ensures)
