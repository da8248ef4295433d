use Rattle.std.proofs.Common.{◌≡◌}
use Rattle.std.specs.List.{list_any, range_with_len}
use Rattle.cf_watch.specs.Marks.{is_bucket_untold}
use Rattle.cf_watch.proofs.marks.is_untold_for_any.Given as goal

abbrev pub invariant-loop-place : goal.invariant-loop-place
invariant-loop-place l = l.is_untold ≡ list_any (is_bucket_untold l.lane l.triggers l.bucket) (range_with_len 0 l.place)
