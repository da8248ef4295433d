use Rattle.std.proofs.Common.{◌≡◌, ◌+◌}
use Rattle.cf_row.specs.Words.{word_count}
use Rattle.cf_shape.specs.Uses.{cells_before}
use Rattle.cf_core.proofs.cells.cell_of.Given as goal

abbrev pub invariant-loop-lane : goal.invariant-loop-lane
invariant-loop-lane l = l.fn.index ≡ word_count l.fn.shape.schema + 1 + cells_before l.fn.shape l.lane + l.left
