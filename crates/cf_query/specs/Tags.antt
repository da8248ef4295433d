-- The numbers of entries.
use Rattle.std.specs.Prelude.{ℕ, List, map}
use Rattle.cf_row.specs.declared.row.Entry.{Entry}

-- the number in the input of each entry's row
abbrev pub nums_of : List Entry → List ℕ
nums_of entries = map (λ entry. entry.row.num) entries
