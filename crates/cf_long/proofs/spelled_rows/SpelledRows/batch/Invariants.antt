use Rattle.std.proofs.Common.{◌≡◌, take, drop}
use Rattle.cf_long.proofs.spelled_rows.SpelledRows.batch.Given as goal

abbrev pub invariant-loop-place : goal.invariant-loop-place
invariant-loop-place l = l.rows.items ≡ take l.place (drop l.from l.self.rows)
