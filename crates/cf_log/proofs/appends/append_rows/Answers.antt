use Rattle.cf_log.proofs.Chained.{found_at}
use Rattle.cf_log.proofs.Writers.{goes_first, goes_more, goes_refused}
use Rattle.cf_log.proofs.appends.append_rows.Goals as goal

pub loop-row-init : goal.loop-row-init
loop-row-init c = record {
  goes = goes_first c.args.log.now c.args.rows.now c.args.pass.now c.requires.of c.requires.rest;
  near = c.new-leaves.ensures c.args.log.now.shape c.args.pass.now.view;
}

pub returns-in-Err : goal.returns-in-Err
returns-in-Err c =
    goes_refused c.args.log.now c.args.rows.now c.args.pass.now c.loop-row.pass c.append_near.new.pass c.loop-row.row-index c.in-Err.fault
    c.row-item.result c.loop-row.invariant.goes
    (found_at c.args.rows.now c.loop-row.row-index c.row-item.result c.loop-row-test.true c.row-item.is) c.in-Err.ensures.appended

pub loop-row-preserved : goal.loop-row-preserved
loop-row-preserved c = record {
  goes = goes_more c.args.log.now c.args.rows.now c.args.pass.now c.loop-row.pass c.append_near.new.pass c.loop-row.row-index c.in-Ok.field-0
      c.row-item.result c.loop-row.invariant.goes
      (found_at c.args.rows.now c.loop-row.row-index c.row-item.result c.loop-row-test.true c.row-item.is) c.in-Ok.ensures.appended;
  near = c.in-Ok.ensures.near;
}
