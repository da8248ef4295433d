use Rattle.std.proofs.Common.{◌∙◌, ◌∷◌, [], ap, length-append, arith}
use Rattle.cf_pcap.specs.Capture.{FrameValue}
use Rattle.cf_row.specs.Schema6.{attrs_by}
use Rattle.cf_records.proofs.Outcomes.{all_fit}
use Rattle.cf_intake.specs.Rows.{row_by}
use Rattle.cf_intake.proofs.Numbering.{more_numbered}
use Rattle.cf_intake.proofs.rows.numbered_rows.Goals as goal

pub loop-frame-preserved : goal.loop-frame-preserved
loop-frame-preserved c =
    let v = c.loop-frame.invariant in
    let num = v.num in
    let up = c.saturating_add-num.ensures in
    let many = length-append c.loop-frame.yielded (c.in-Some.frame ∷ []) in
    record {
      rows = more_numbered c.args.schema c.args.first c.loop-frame.num c.loop-frame.yielded c.in-Some.frame c.row_of.result c.loop-frame.rows.items
          c.push.new.self.items v.rows num
          (c.row_of.ensures.row
          ∙ ap (λ (f : FrameValue). row_by c.args.schema (record f { num = c.loop-frame.num })) c.frame.view_is) c.in_ok-push.ensures.items;
      num = omega (arith, num, up, many);
      fit = all_fit (attrs_by c.args.schema) c.loop-frame.rows.items c.push.new.self.items c.row_of.result v.fit c.row_of.ensures.fits
          c.in_ok-push.ensures.items;
    }
