use Rattle.std.proofs.Common.{◌≡◌, drop}
use Rattle.cf_row.specs.Expr.{holds_of}
use Rattle.cf_plain.specs.Asks.{row_at, rows_in}
use Rattle.cf_query.specs.Looking.{HasLooked}
use Rattle.cf_query.proofs.selection.Selection.any_compares.Given as goal

abbrev pub invariant-loop-conjunction : goal.invariant-loop-conjunction
invariant-loop-conjunction g l = record {
  rest : holds_of l.conjunction-items (row_at (rows_in ((g.P.Pass.held l.fn.pass).view).seen) l.offset)
      ≡ holds_of (drop l.conjunction-index l.conjunction-items) (row_at (rows_in ((g.P.Pass.held l.fn.pass).view).seen) l.offset);
  looked : HasLooked (g.P.Pass.held l.fn.pass) (g.P.Pass.held l.pass) l.fn.steps l.steps;
}
