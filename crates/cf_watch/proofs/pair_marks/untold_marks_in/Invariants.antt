use Rattle.std.proofs.Common.{◌≡◌, map, take}
use Rattle.cf_watch.specs.Marks.{is_untold}
use Rattle.cf_watch.specs.PairMarks.{marks_in, pair_fired}
use Rattle.cf_watch.proofs.pair_marks.untold_marks_in.Given as goal

abbrev pub invariant-loop-apart : goal.invariant-loop-apart
invariant-loop-apart l = map pair_fired l.values.entries ≡ marks_in l.trigger (is_untold l.trigger l.place) (take l.apart-index l.buckets)
