use Rattle.std.proofs.Common.{◌≡◌}
use Rattle.std.specs.List.{list_any, range_with_len}
use Rattle.cf_watch.specs.PairMarks.{is_key_untold}
use Rattle.cf_watch.proofs.pair_marks.is_key_untold_for_any.Given as goal

abbrev pub invariant-loop-place : goal.invariant-loop-place
invariant-loop-place l = l.is_untold ≡ list_any (is_key_untold l.lane l.triggers l.buckets l.at) (range_with_len 0 l.place)
