use Rattle.std.proofs.Common.{◌≡◌, ◌++◌, map, take, drop}
use Rattle.cf_watch.specs.Marks.{with_told}
use Rattle.cf_watch.proofs.marks.tell_first.Given as goal

abbrev pub invariant-loop-at : goal.invariant-loop-at
invariant-loop-at l = l.buckets ≡ map (with_told l.trigger l.place) (take l.at l.initial.buckets) ++ drop l.at l.initial.buckets
