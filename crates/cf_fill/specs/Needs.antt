-- How many nodes the rows of a log need, segment by segment: each segment holds a block of them.
use Rattle.std.specs.Prelude.{ℕ, ◌<◌, ◌≤◌, List, All, Any}
use Rattle.cf_row.specs.Row.{RowValue}
use Rattle.cf_shape.specs.Lanes.{ShapeValue}
use Rattle.cf_shape.specs.Nodes.{distinct}
use Rattle.cf_segments.specs.Blocks.{blocks}

-- the paths of each block need no more different nodes than that
abbrev pub NeedsAtMost : ShapeValue → ℕ → List RowValue → Type 0
NeedsAtMost shape most rows = All (λ part. distinct shape part ≤ most) (blocks shape.capacity rows)

-- the paths of some block need more
abbrev pub NeedsMore : ShapeValue → ℕ → List RowValue → Type 0
NeedsMore shape most rows = Any (λ part. most < distinct shape part) (blocks shape.capacity rows)
