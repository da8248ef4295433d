use Rattle.std.proofs.Common.{◌≡◌, ◌++◌, take}
use Rattle.cf_long.proofs.spelled_rows.SpelledRows.push_all.Given as goal

abbrev pub invariant-loop-row : goal.invariant-loop-row
invariant-loop-row l = record {
  schema : l.self.schema ≡ l.fn.self.schema;
  rows : l.self.rows ≡ l.fn.self.rows ++ take l.row-index l.rows;
}
