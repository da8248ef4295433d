use Rattle.std.proofs.Common.{◌-◌, length, take}
use Rattle.cf_fill.specs.Filling.{Fills, IsFilling, KeepsLog}
use Rattle.cf_long.proofs.growing.load_kept.Given as goal

abbrev pub invariant-loop-at : goal.invariant-loop-at
invariant-loop-at g l = record {
  keeps : KeepsLog l.fn.log l.log;
  some : IsFilling l.log;
  fills : Fills l.fn.log l.log (take l.at l.kept.rows);
}

abbrev pub decreases-loop-at : goal.decreases-loop-at
decreases-loop-at g l = length l.kept.rows - l.at
