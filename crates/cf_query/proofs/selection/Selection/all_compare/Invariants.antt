use Rattle.std.proofs.Common.{◌≡◌, drop}
use Rattle.std.specs.List.{list_all}
use Rattle.cf_row.specs.Expr.{atom_holds}
use Rattle.cf_plain.specs.Asks.{row_at, rows_in}
use Rattle.cf_query.specs.Looking.{HasLooked}
use Rattle.cf_query.proofs.selection.Selection.all_compare.Given as goal

abbrev pub invariant-loop-atom : goal.invariant-loop-atom
invariant-loop-atom g l = record {
  rest : list_all (atom_holds (row_at (rows_in ((g.P.Pass.held l.fn.pass).view).seen) l.offset)) l.atoms
      ≡ list_all (atom_holds (row_at (rows_in ((g.P.Pass.held l.fn.pass).view).seen) l.offset)) (drop l.atom-index l.atoms);
  looked : HasLooked (g.P.Pass.held l.fn.pass) (g.P.Pass.held l.pass) l.fn.steps l.steps;
}
