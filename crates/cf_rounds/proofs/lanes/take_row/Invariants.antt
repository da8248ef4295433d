use Rattle.std.proofs.Common.{◌≡◌, ◌++◌, take, drop}
use Rattle.cf_rounds.specs.Lanes.{keeps_from}
use Rattle.cf_rounds.proofs.lanes.take_row.Given as goal

abbrev pub invariant-loop-lane : goal.invariant-loop-lane
invariant-loop-lane l = l.kept ≡ keeps_from l.shape l.row 0 (take l.lane l.initial.kept) ++ drop l.lane l.initial.kept
