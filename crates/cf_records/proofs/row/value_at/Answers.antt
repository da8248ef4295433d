use Rattle.std.proofs.Common.{◌≡◌, List, ℕ, Option, Some, None, IfSome, slice_get}
use Rattle.csv.specs.Records.{fields_of}
use Rattle.cf_row.specs.declared.schema.Kind.{Kind}
use Rattle.cf_row.specs.declared.row.Value.{Value}
use Rattle.cf_filter.specs.Grammar.{ValueText}
use Rattle.cf_records.proofs.row.value_at.Goals as goal

value_found : (kind : Kind) (fields : List (List ℕ)) (column : ℕ) (field : List ℕ) (found : Option Value) → slice_get fields column ≡ Some field
    → IfSome found (ValueText kind field) → IfSome found (λ value. (text : List ℕ) × (slice_get fields column ≡ Some text) × ValueText kind text value)
value_found kind fields column field None is found = tt
value_found kind fields column field (Some value) is found = (field, is, found)

pub returns-clause-found : goal.returns-clause-found
returns-clause-found c =
    value_found c.args.kind (fields_of c.args.line.now) c.args.column c.field_at.result.now c.read_value.result c.field_at.ensures c.read_value.ensures.found
