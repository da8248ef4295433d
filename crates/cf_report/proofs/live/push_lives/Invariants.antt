use Rattle.std.proofs.Common.{◌≡◌, ◌++◌, [], take, drop, string_bytes}
use Rattle.cf_plain.specs.Asks.{rows_in}
use Rattle.cf_report.specs.Report.{live_lines}
use Rattle.cf_report.proofs.live.push_lives.Given as goal

abbrev pub invariant-loop-place : goal.invariant-loop-place
invariant-loop-place l =
    string_bytes l.text ++ live_lines l.setup (rows_in l.entries) (take l.place l.lives)
    (drop l.place l.lives) ≡ string_bytes l.initial.text ++ live_lines l.setup (rows_in l.entries) [] l.lives
