use Rattle.std.proofs.Common.{◌≡◌, take}
use Rattle.cf_plain.specs.Asks.{rows_in}
use Rattle.cf_report.specs.Bodies.{nums_at}
use Rattle.cf_report.proofs.body.nums_of.Given as goal

abbrev pub invariant-loop-place : goal.invariant-loop-place
invariant-loop-place l = l.nums.items ≡ nums_at (rows_in l.entries) (take l.place-index l.places)
