use Rattle.std.proofs.Common.{map, drop}
use Rattle.cf_watch.specs.PairMarks.{pair_fired}
use Rattle.cf_watch.proofs.Untold.{ArePut}
use Rattle.cf_watch.proofs.pair_marks.put_untold_at.Given as goal

abbrev pub invariant-loop-at : goal.invariant-loop-at
invariant-loop-at l = ArePut l.trigger l.place l.bucket l.pairs (drop l.at-index l.places) (map pair_fired l.initial.values.entries) (map pair_fired l.values.entries)
