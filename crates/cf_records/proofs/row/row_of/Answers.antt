use Rattle.std.proofs.Common.{◌≡◌, true, subst, sym}
use Rattle.csv.specs.Records.{fields_of}
use Rattle.cf_row.specs.Row.{RowValue, values_fit}
use Rattle.cf_records.proofs.Values.{values_are_fit}
use Rattle.cf_records.proofs.row.row_of.Goals as goal

pub returns-clause-fits : goal.returns-clause-fits
returns-clause-fits c =
    subst (λ (row : RowValue). values_fit c.args.schema.now row.values ≡ true) (sym c.new.ensures)
    (values_are_fit c.args.schema.now (fields_of c.args.line.now) c.in_ok-values.values.items (rw c.attrs-attrs.ensures.attrs at c.in_ok-values.ensures))
