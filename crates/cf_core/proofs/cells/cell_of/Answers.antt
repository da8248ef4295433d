use Rattle.std.proofs.Common.{◌≡◌, ◌<◌, length, arith, ap, ◌∙◌}
use Rattle.cf_row.specs.Words.{word_count}
use Rattle.cf_shape.specs.Lanes.{lane_at}
use Rattle.cf_shape.specs.Uses.{cell_words}
use Rattle.cf_shape.specs.declared.lane.Lane.{Lane}
use Rattle.cf_core.proofs.Paths.{cells_first, cells_next, cell_use, plain_use}
use Rattle.cf_core.proofs.cells.cell_of.Goals as goal

pub returns-then-index-plain : goal.returns-then-index-plain
returns-then-index-plain c =
    let count : c.word_count.result ≡ word_count c.args.shape.now.schema = c.word_count.ensures.count ∙ ap word_count c.schema.ensures in
    plain_use c.args.shape.now c.args.index (omega (arith, count, c.if-index-plain.true))

pub loop-lane-init : goal.loop-lane-init
loop-lane-init c =
    let count : c.word_count.result ≡ word_count c.args.shape.now.schema = c.word_count.ensures.count ∙ ap word_count c.schema.ensures in
    omega (arith, count, c.if-index-plain.false, cells_first c.args.shape.now)

pub returns-then-left-count : goal.returns-then-left-count
returns-then-left-count c =
    let words : c.from-count.result ≡ cell_words (lane_at c.args.shape.now c.loop-lane.lane) = c.from-count.ensures ∙ c.cell_size.ensures in
    let low : c.loop-lane.lane < length c.args.shape.now.lanes = omega (arith, c.loop-lane-test.true, ap (length {A = Lane}) c.lanes-lanes.ensures.lanes) in
    cell_use c.args.shape.now c.args.index c.loop-lane.lane c.loop-lane.left c.loop-lane.invariant (low, omega (arith, c.if-left-count.true, words))

pub loop-lane-preserved : goal.loop-lane-preserved
loop-lane-preserved c =
    let words : c.from-count.result ≡ cell_words (lane_at c.args.shape.now c.loop-lane.lane) = c.from-count.ensures ∙ c.cell_size.ensures in
    let low : c.loop-lane.lane < length c.args.shape.now.lanes = omega (arith, c.loop-lane-test.true, ap (length {A = Lane}) c.lanes-lanes.ensures.lanes) in
    omega (arith, c.loop-lane.invariant, c.if-left-count.false, words, cells_next c.args.shape.now c.loop-lane.lane low)
