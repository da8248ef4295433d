use Rattle.std.proofs.Common.{◌≡◌, ◌≤◌, take, length}
use Rattle.cf_report.specs.Report.{marks_before}
use Rattle.cf_report.proofs.live.marks_before.Given as goal

abbrev pub invariant-loop-place : goal.invariant-loop-place
invariant-loop-place l = record { within : l.place ≤ length l.earlier; same : marks_before l.earlier l.ask ≡ marks_before (take l.place l.earlier) l.ask }

abbrev pub decreases-loop-place : goal.decreases-loop-place
decreases-loop-place l = l.place
