-- Entries that are scanned.
use Rattle.std.specs.Prelude.{List, All}
use Rattle.cf_row.specs.declared.row.Entry.{Entry}
use Rattle.cf_row.specs.declared.schema.Attr.{Attr}
use Rattle.cf_row.specs.Row.{Fits}

-- each row fits
abbrev pub FitAll : List Attr → List Entry → Type 0
FitAll attrs entries = All (λ entry. Fits attrs entry.row) entries
