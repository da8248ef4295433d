use Rattle.std.proofs.Common.{◌≡◌, take, All}
use Rattle.cf_row.specs.Row.{Fits}
use Rattle.cf_row.specs.Schema6.{attrs_by}
use Rattle.cf_intake.specs.Rows.{packet_rows}
use Rattle.cf_intake.proofs.rows.rows_of.Given as goal

abbrev pub invariant-loop-frame : goal.invariant-loop-frame
invariant-loop-frame l = record {
  rows : l.rows.items ≡ packet_rows l.schema (take l.frame-index l.frames);
  fit : All (Fits (attrs_by l.schema)) l.rows.items;
}
