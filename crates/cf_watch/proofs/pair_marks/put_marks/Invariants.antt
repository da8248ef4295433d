use Rattle.std.proofs.Common.{◌≡◌, filter, fold, map, take}
use Rattle.cf_watch.specs.Marks.{meets, put_mark}
use Rattle.cf_watch.specs.PairMarks.{pair_fired, pair_mark}
use Rattle.cf_watch.proofs.pair_marks.put_marks.Given as goal

abbrev pub invariant-loop-pair : goal.invariant-loop-pair
invariant-loop-pair l = map pair_fired l.values.entries
    ≡ fold put_mark (map pair_fired l.initial.values.entries) (map (pair_mark l.trigger l.bucket) (filter (meets l.trigger) (take l.pair-index l.pairs)))
