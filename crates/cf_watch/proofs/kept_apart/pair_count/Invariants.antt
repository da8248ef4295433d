use Rattle.std.proofs.Common.{◌≡◌, take}
use Rattle.cf_watch.specs.Pairs.{pair_count}
use Rattle.cf_watch.proofs.kept_apart.pair_count.Given as goal

abbrev pub invariant-loop-apart : goal.invariant-loop-apart
invariant-loop-apart l = l.count ≡ pair_count (take l.apart-index l.buckets)
