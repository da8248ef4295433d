use Rattle.std.proofs.Common.{◌≡◌, ◌++◌, map}
use Rattle.cf_watch.specs.Marks.{fired_of}
use Rattle.cf_watch.proofs.marks.listed.Given as goal

abbrev pub invariant-loop-bucket : goal.invariant-loop-bucket
invariant-loop-bucket l = l.marks.items ++ map fired_of l.bucket-iterator ≡ map fired_of l.values.entries
