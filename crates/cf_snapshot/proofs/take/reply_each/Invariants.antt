use Rattle.std.proofs.Common.{◌≡◌, fold, map}
use Rattle.std.specs.List.{range_with_len}
use Rattle.cf_snapshot.specs.Snapshots.{after}
use Rattle.cf_snapshot.specs.declared.event.SnapEvent.TheVariants.{Reply}
use Rattle.cf_snapshot.proofs.Ending.{Stays}
use Rattle.cf_snapshot.proofs.take.reply_each.Given as goal

abbrev pub invariant-loop-host : goal.invariant-loop-host
invariant-loop-host l = record {
  stays : Stays l.fn.snap l.snap;
  state : l.snap ≡ fold after l.fn.snap (map Reply (range_with_len 0 l.host));
}
