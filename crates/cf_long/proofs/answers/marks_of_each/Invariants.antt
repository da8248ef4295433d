use Rattle.std.proofs.Common.{◌≡◌, map}
use Rattle.cf_report.specs.Report.{marks_of}
use Rattle.cf_long.proofs.answers.marks_of_each.Given as goal

abbrev pub invariant-loop-body : goal.invariant-loop-body
invariant-loop-body l = record { marks : l.all.items ≡ map marks_of l.yielded }
