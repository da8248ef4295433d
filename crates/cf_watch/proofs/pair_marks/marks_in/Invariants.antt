use Rattle.std.proofs.Common.{◌≡◌, map, take}
use Rattle.cf_watch.specs.Marks.{meets}
use Rattle.cf_watch.specs.PairMarks.{marks_in, pair_fired}
use Rattle.cf_watch.proofs.pair_marks.marks_in.Given as goal

abbrev pub invariant-loop-apart : goal.invariant-loop-apart
invariant-loop-apart l = map pair_fired l.values.entries ≡ marks_in l.trigger (meets l.trigger) (take l.apart-index l.buckets)
