use Rattle.std.proofs.Common.{◌≡◌, ◌++◌, string_bytes}
use Rattle.std.specs.List.{flat_map, range_with_len}
use Rattle.cf_plain.specs.Asks.{rows_in}
use Rattle.cf_report.specs.Answered.{tolds_of}
use Rattle.cf_report.specs.Report.{ask_line_at}
use Rattle.cf_report.proofs.lines.push_asks.Given as goal

abbrev pub invariant-loop-place : goal.invariant-loop-place
invariant-loop-place l =
    string_bytes l.text ≡ string_bytes l.initial.text ++ flat_map (ask_line_at l.setup (rows_in l.entries) (tolds_of l.setup.asks l.finals))
    (range_with_len 0 l.place)
