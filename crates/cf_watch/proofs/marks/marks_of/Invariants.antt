use Rattle.std.proofs.Common.{◌≡◌, filter, map, take}
use Rattle.cf_watch.specs.Marks.{fired_of, marks_of, meets}
use Rattle.cf_watch.proofs.marks.marks_of.Given as goal

abbrev pub invariant-loop-bucket : goal.invariant-loop-bucket
invariant-loop-bucket l = map fired_of l.values.entries ≡ marks_of l.trigger (filter (meets l.trigger) (take l.bucket-index l.buckets))
