use Rattle.std.proofs.Common.{◌≡◌, ◌++◌, map, take, drop}
use Rattle.cf_watch.specs.PairMarks.{with_crowd_told}
use Rattle.cf_watch.proofs.pair_marks.tell_crowds.Given as goal

abbrev pub invariant-loop-at : goal.invariant-loop-at
invariant-loop-at l = l.buckets ≡ map with_crowd_told (take l.at l.initial.buckets) ++ drop l.at l.initial.buckets
