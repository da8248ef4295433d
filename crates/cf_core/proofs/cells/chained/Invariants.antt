use Rattle.std.proofs.Common.{◌≡◌, drop}
use Rattle.cf_fold.specs.Quads.{quad_of}
use Rattle.cf_law.specs.Words.{spot, link_to_newest}
use Rattle.cf_law.specs.Steps.{mine_chain}
use Rattle.cf_law.specs.Shapes.{layout}
use Rattle.cf_core.specs.Worlds.{amounts_with_row}
use Rattle.cf_core.proofs.cells.chained.Given as goal

abbrev pub invariant-loop-at : goal.invariant-loop-at
invariant-loop-at l =
    (l.previous ≡ link_to_newest (mine_chain (layout l.fn.shape) (spot l.lane l.path) (drop l.at l.mine)))
    × (l.quad ≡ quad_of (amounts_with_row l.fn.shape l.lane l.fn.row (mine_chain (layout l.fn.shape) (spot l.lane l.path) (drop l.at l.mine))))
