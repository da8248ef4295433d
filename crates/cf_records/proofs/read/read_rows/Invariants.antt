use Rattle.std.proofs.Common.{◌≡◌, List, ℕ, [], ◌∷◌, length, take, All}
use Rattle.cf_row.specs.Row.{Fits, RowValue}
use Rattle.cf_records.specs.Records.{names_of, AreRows, HasRead}
use Rattle.cf_records.proofs.read.read_rows.Given as goal

abbrev pub invariant-loop-num : goal.invariant-loop-num
invariant-loop-num l = (records : List (List (List ℕ))) × (all : List RowValue) × HasRead l.fn.bytes (names_of l.schema ∷ records) l.reader
    × AreRows l.schema 0 records all × (length records ≡ l.num) × All (Fits l.schema) all × (l.rows.items ≡ take l.most all)
