use Rattle.std.proofs.Common.{◌+◌, sym, arith}
use Rattle.std.proofs.lemmas.Grind.{common_steps}
use Rattle.cf_shape.proofs.Bounds.{ticket_few}
use Rattle.cf_table.proofs.Homing.{still_one}
use Rattle.cf_append.specs.Linking.{cell_from}
use Rattle.cf_append.proofs.Walking.{strides_then}
use Rattle.cf_append.proofs.Cells.{cell_next, filled_at, first_filled, may_next, next_filled, second_filled, store_strides, three_low}
use Rattle.cf_append.proofs.links.store_three.Goals as goal
use Rattle.cf_law.proofs.Shapes.{three_words}

pub store_cell-requires-clause-place : goal.store_cell-requires-clause-place
store_cell-requires-clause-place g c =
    (c.requires.place, omega (arith, three_low c.args.log.now.shape c.args.cell.lane c.args.cell.from c.requires.lane c.requires.at))

pub store_cell-requires-clause-lawful : goal.store_cell-requires-clause-lawful
store_cell-requires-clause-lawful g c =
    let s = c.args.log.now.shape in
    let p = c.args.pass.now in
    may_next s p p c.args.cell.offset c.args.cell.lane 0 c.args.cell.from c.args.words.first c.args._row.now
    (filled_at s c.args.cell.offset c.args._row.now (cell_from s c.args.cell.lane) c.args.cell.from p p (sym c.requires.at) c.requires.filled)
    c.requires.lane (omega arith) (omega (arith, c.requires.at)) c.requires.leads c.requires.words.first_is

pub store_cell-requires-2-clause-place : goal.store_cell-requires-2-clause-place
store_cell-requires-2-clause-place g c =
    (c.requires.place, omega (arith, three_low c.args.log.now.shape c.args.cell.lane c.args.cell.from c.requires.lane c.requires.at))

pub store_cell-requires-2-clause-lawful : goal.store_cell-requires-2-clause-lawful
store_cell-requires-2-clause-lawful g c =
    let s = c.args.log.now.shape in
    let m = c.store_cell.new.pass in
    may_next s c.args.pass.now m c.args.cell.offset c.args.cell.lane 1 (c.args.cell.from + 1) c.args.words.sum c.args._row.now
    (first_filled s c.args.pass.now m c.args.cell.offset c.args.cell.lane c.args.cell.from c.args.words.first c.args._row.now
    c.requires.at c.requires.filled c.store_cell.ensures.made)
    c.requires.lane (omega arith) (omega (arith, c.requires.at)) c.requires.leads c.requires.words.sum_is

pub store_cell-requires-3-clause-place : goal.store_cell-requires-3-clause-place
store_cell-requires-3-clause-place g c =
    (c.requires.place, omega (arith, three_low c.args.log.now.shape c.args.cell.lane c.args.cell.from c.requires.lane c.requires.at))

pub store_cell-requires-3-clause-lawful : goal.store_cell-requires-3-clause-lawful
store_cell-requires-3-clause-lawful g c =
    let s = c.args.log.now.shape in
    let n = c.store_cell-2.new.pass in
    may_next s c.args.pass.now n c.args.cell.offset c.args.cell.lane 2 (c.args.cell.from + 2) c.args.words.ends c.args._row.now
    (second_filled s c.args.pass.now c.store_cell.new.pass n c.args.cell.offset c.args.cell.lane c.args.cell.from c.args.words.first c.args.words.sum
    c.args._row.now c.requires.at c.requires.filled c.store_cell.ensures.made c.store_cell-2.ensures.made)
    c.requires.lane (omega arith) (omega (arith, c.requires.at)) c.requires.leads c.requires.words.ends_is

pub returns-clause-filled : goal.returns-clause-filled
returns-clause-filled g c =
    let s = c.args.log.now.shape in
    let row = c.args._row.now in
    let l = c.args.cell.lane in
    let i = c.args.cell.from in
    let three = three_words s l c.requires.lane.1 in
    next_filled s c.args.pass.now c.store_cell-2.new.pass c.store_cell-3.new.pass c.args.cell.offset (i + 2) (cell_from s (l + 1)) c.args.words.ends row
    (omega (arith, c.requires.at, three, cell_next s l c.requires.lane.0))
    (second_filled s c.args.pass.now c.store_cell.new.pass c.store_cell-2.new.pass c.args.cell.offset l i c.args.words.first c.args.words.sum row c.requires.at
    c.requires.filled c.store_cell.ensures.made c.store_cell-2.ensures.made) c.store_cell-3.ensures.made

pub returns-clause-kept : goal.returns-clause-kept
returns-clause-kept g c =
    let s = c.args.log.now.shape in
    let row = c.args._row.now in
    let o = c.args.cell.offset in
    let l = c.args.cell.lane in
    let i = c.args.cell.from in
    let p = c.args.pass.now in
    let m = c.store_cell.new.pass in
    let n = c.store_cell-2.new.pass in
    let z = c.store_cell-3.new.pass in
    let went = strides_then p m z (store_strides s p m o i c.args.words.first c.store_cell.ensures.made)
    (strides_then m n z (store_strides s m n o (i + 1) c.args.words.sum c.store_cell-2.ensures.made)
    (store_strides s n z o (i + 2) c.args.words.ends c.store_cell-3.ensures.made)) in
    record { of = still_one c.args.log.now p z c.requires.of went.same; strides = went; loads = grind (arith, common_steps) }

pub overflow_add-cell : goal.overflow_add-cell
overflow_add-cell g c =
    let s = c.args.log.now.shape in
    let low = three_low s c.args.cell.lane c.args.cell.from c.requires.lane c.requires.at in
    omega (arith, low, ticket_few s c.shape-lawful.ensures.lawful)

pub overflow_add-cell-2 : goal.overflow_add-cell-2
overflow_add-cell-2 g c =
    let s = c.args.log.now.shape in
    let low = three_low s c.args.cell.lane c.args.cell.from c.requires.lane c.requires.at in
    omega (arith, low, ticket_few s c.shape-lawful.ensures.lawful)
