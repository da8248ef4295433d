use Rattle.std.proofs.Common.{◌≡◌}
use Rattle.std.specs.List.{list_any, range_with_len}
use Rattle.cf_rounds.specs.Lanes.{forgets_at}
use Rattle.cf_rounds.proofs.lanes.forgets_untold.Given as goal

abbrev pub invariant-loop-lane : goal.invariant-loop-lane
invariant-loop-lane l = l.is_found ≡ list_any (forgets_at l.shape l.triggers l.kept l.row) (range_with_len 0 l.lane)
