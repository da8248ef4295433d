use Rattle.std.proofs.Common.{◌≡◌, take}
use Rattle.cf_plain.specs.Asks.{rows_in}
use Rattle.cf_plain.specs.Totals.{total}
use Rattle.cf_plain.proofs.total.total_of_expr.Given as goal

abbrev pub invariant-loop-entry : goal.invariant-loop-entry
invariant-loop-entry l = l.total ≡ total l.attr l.expr (rows_in (take l.entry-index l.entries))
