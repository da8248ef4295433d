use Rattle.std.proofs.Common.{◌≡◌, ◌++◌, string_bytes}
use Rattle.std.specs.List.{flat_map, range_with_len}
use Rattle.cf_report.specs.Report.{alert_lines_at}
use Rattle.cf_report.proofs.lines.push_alerts.Given as goal

abbrev pub invariant-loop-place : goal.invariant-loop-place
invariant-loop-place l = string_bytes l.text ≡ string_bytes l.initial.text ++ flat_map (alert_lines_at l.setup l.alerts) (range_with_len 0 l.place)
