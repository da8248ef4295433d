use Rattle.std.proofs.Common.{refl, arith, get_or}
use Rattle.cf_append.proofs.Appending.{may_fill, fills}
use Rattle.cf_append.proofs.appends.store_words.Goals as goal

pub store_cell-requires-clause-lawful : goal.store_cell-requires-clause-lawful
store_cell-requires-clause-lawful g c =
    let i = c.loop-i.i in
    let low = c.loop-i-test.true in
    let long = c.requires.words.0 in
    may_fill c.args.log.now.shape c.args.pass.now c.loop-i.pass c.args.offset i
    (get_or c.args.words.now i 0) c.args.row.now c.args.words.now c.loop-i.invariant.pass (omega (arith, low, long)) c.requires.words.1 refl

pub loop-i-preserved : goal.loop-i-preserved
loop-i-preserved g c =
    let i = c.loop-i.i in
    record {
      pass = fills c.args.log.now.shape c.args.pass.now c.loop-i.pass c.store_cell.new.pass c.args.offset i
          (get_or c.args.words.now i 0) c.args.row.now c.loop-i.invariant.pass c.store_cell.ensures.made;
      steps =
          (let one = c.store_cell.ensures.steps in let so_far = c.loop-i.invariant.steps in omega (arith, one, so_far));
    }
