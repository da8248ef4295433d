use Rattle.std.proofs.Common.{◌≡◌, take}
use Rattle.cf_watch.specs.PairMarks.{crowds_on}
use Rattle.cf_watch.proofs.pair_marks.crowd_numbers.Given as goal

abbrev pub invariant-loop-apart : goal.invariant-loop-apart
invariant-loop-apart l = l.numbers.keys ≡ crowds_on (take l.apart-index l.buckets)
