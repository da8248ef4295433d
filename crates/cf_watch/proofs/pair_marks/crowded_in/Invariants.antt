use Rattle.std.proofs.Common.{◌≡◌, ◌++◌}
use Rattle.cf_watch.specs.PairMarks.{crowds_on}
use Rattle.cf_watch.proofs.pair_marks.crowded_in.Given as goal

abbrev pub invariant-loop-number : goal.invariant-loop-number
invariant-loop-number l = l.crowded.items ++ l.number-iterator ≡ crowds_on l.buckets
