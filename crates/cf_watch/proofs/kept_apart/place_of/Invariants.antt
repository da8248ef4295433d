use Rattle.std.proofs.Common.{◌≡◌, ◌≤◌, length, drop, false}
use Rattle.cf_watch.specs.Pairs.{has_bucket}
use Rattle.cf_watch.proofs.kept_apart.place_of.Given as goal

abbrev pub invariant-loop-place : goal.invariant-loop-place
invariant-loop-place l = record {
  within : l.place ≤ length l.buckets;
  none_behind : has_bucket (drop l.place l.buckets) l.number ≡ false;
}

abbrev pub decreases-loop-place : goal.decreases-loop-place
decreases-loop-place l = l.place
