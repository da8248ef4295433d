use Rattle.std.proofs.Common.{◌≡◌, take}
use Rattle.csv.specs.Records.{fields_of}
use Rattle.cf_records.specs.Records.{names_of}
use Rattle.cf_records.proofs.row.is_header.Given as goal

abbrev pub invariant-loop-column : goal.invariant-loop-column
invariant-loop-column l = take l.column (fields_of l.line) ≡ names_of (take l.column l.attrs)
