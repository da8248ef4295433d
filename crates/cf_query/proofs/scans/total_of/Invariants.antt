use Rattle.std.proofs.Common.{◌≡◌, ◌-◌, ◌≤◌, take}
use Rattle.cf_plain.specs.Asks.{rows_in}
use Rattle.cf_plain.specs.Totals.{total}
use Rattle.cf_query.specs.Looking.{HasLooked}
use Rattle.cf_query.specs.Stretches.{stretch}
use Rattle.cf_query.proofs.scans.total_of.Given as goal

abbrev pub invariant-loop-place : goal.invariant-loop-place
invariant-loop-place g l = record {
  low : l.from ≤ l.place;
  found : l.total ≡ total l.attr l.selection.expr (rows_in (take (l.place - l.from) (stretch l.from l.to ((g.P.Pass.held l.fn.pass).view).seen)));
  looked : HasLooked (g.P.Pass.held l.fn.pass) (g.P.Pass.held l.pass) l.fn.steps l.steps;
}
