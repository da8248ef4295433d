use Rattle.std.proofs.Common.{◌≡◌, ◌-◌, ◌≤◌, filter}
use Rattle.std.specs.List.{range_with_len}
use Rattle.cf_row.specs.Expr.{holds_of}
use Rattle.cf_plain.specs.Asks.{row_at, rows_in}
use Rattle.cf_query.specs.Looking.{HasLooked}
use Rattle.cf_query.specs.Stretches.{stretch}
use Rattle.cf_query.proofs.scans.scan.Given as goal

abbrev pub invariant-loop-offset : goal.invariant-loop-offset
invariant-loop-offset g l = record {
  low : l.from ≤ l.offset;
  found : (l.found).items ≡ filter (λ place. holds_of l.selection.expr
      (row_at (rows_in (stretch l.from l.to ((g.P.Pass.held l.fn.pass).view).seen)) place)) (range_with_len 0 (l.offset - l.from));
  looked : HasLooked (g.P.Pass.held l.fn.pass) (g.P.Pass.held l.pass) l.fn.steps l.steps;
}
