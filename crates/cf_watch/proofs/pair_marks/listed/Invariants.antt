use Rattle.std.proofs.Common.{◌≡◌, ◌++◌, map}
use Rattle.cf_watch.specs.PairMarks.{pair_fired}
use Rattle.cf_watch.proofs.pair_marks.listed.Given as goal

abbrev pub invariant-loop-number : goal.invariant-loop-number
invariant-loop-number l = l.marks.items ++ map pair_fired l.number-iterator ≡ map pair_fired l.values.entries
