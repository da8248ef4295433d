-- Entries of which only the numbers and the writers are known.
use Rattle.std.specs.Prelude.{ℕ, List, [], ◌∷◌, map}
use Rattle.cf_row.specs.declared.row.Entry.{Entry}

-- an entry with that number and writer, whose row has no values
abbrev pub bare_entry : ℕ → ℕ → Entry
bare_entry num writer = record { writer = writer; row = record { num = num; values = [] } }

-- the entries without the values of their rows
abbrev pub bare : List Entry → List Entry
bare entries = map (λ entry. bare_entry entry.row.num entry.writer) entries

-- as many entries as there are numbers and writers
abbrev pub bare_log : List ℕ → List ℕ → List Entry
bare_log [] writers = []
bare_log (num ∷ nums) [] = []
bare_log (num ∷ nums) (writer ∷ writers) = bare_entry num writer ∷ bare_log nums writers
