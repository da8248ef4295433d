use Rattle.std.proofs.Common.{◌≡◌, ◌++◌, map, take, drop}
use Rattle.cf_watch.specs.PairMarks.{with_pairs_told}
use Rattle.cf_watch.proofs.pair_marks.tell_first_buckets.Given as goal

abbrev pub invariant-loop-at : goal.invariant-loop-at
invariant-loop-at l = l.buckets ≡ map (with_pairs_told l.trigger l.place) (take l.at l.initial.buckets) ++ drop l.at l.initial.buckets
