use Rattle.cf_row.specs.Schema6.{attrs_by}
use Rattle.cf_records.proofs.Outcomes.{all_fit}
use Rattle.cf_intake.proofs.MoreRows.{more_rows}
use Rattle.cf_intake.proofs.rows.rows_of.Goals as goal

pub loop-frame-preserved : goal.loop-frame-preserved
loop-frame-preserved c = record {
  rows = more_rows c.args.schema c.args.frames.now c.loop-frame.frame-index c.frame-item.result c.row_of.result c.loop-frame.rows.items
      c.push.new.self.items c.loop-frame-test.true c.frame-item.is c.row_of.ensures.row c.loop-frame.invariant.rows c.in_ok-push.ensures.items;
  fit = all_fit
      (attrs_by c.args.schema) c.loop-frame.rows.items c.push.new.self.items c.row_of.result c.loop-frame.invariant.fit c.row_of.ensures.fits
      c.in_ok-push.ensures.items;
}
