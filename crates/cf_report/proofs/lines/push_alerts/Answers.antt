use Rattle.std.proofs.Common.{string_bytes}
use Rattle.cf_row.proofs.Ranges.{step_range}
use Rattle.cf_report.specs.Report.{alert_lines_at}
use Rattle.cf_report.proofs.lines.push_alerts.Goals as goal

pub loop-place-preserved : goal.loop-place-preserved
loop-place-preserved c =
    step_range (alert_lines_at c.args.setup.now c.args.alerts.now) c.loop-place.place (string_bytes c.args.text.now) (string_bytes c.loop-place.text)
    (string_bytes c.push_each_alert.new.text) c.loop-place.invariant
    (rw (c.name_at.ensures, c.trigger_names-names.ensures.names, c.marks_at.ensures) at c.in_ok-push_each_alert.ensures)
