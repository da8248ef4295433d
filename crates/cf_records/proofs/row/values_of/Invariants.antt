use Rattle.std.proofs.Common.{take}
use Rattle.csv.specs.Records.{fields_of}
use Rattle.cf_records.specs.Records.{HaveValues}
use Rattle.cf_records.proofs.row.values_of.Given as goal

abbrev pub invariant-loop-column : goal.invariant-loop-column
invariant-loop-column l = HaveValues (take l.column l.attrs) (take l.column (fields_of l.line)) l.values.items
