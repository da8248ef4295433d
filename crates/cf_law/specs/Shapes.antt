-- What a shape says of rows and words.
use Rattle.std.specs.Prelude.{ℕ, ◌+◌, ◌^◌, ◌&&◌, List, Bool, cond, nat_lt, Option, Some, None}
use Rattle.cf_row.specs.declared.schema.Attr.{Attr}
use Rattle.cf_row.specs.Row.{RowValue, values_fit}
use Rattle.cf_row.specs.Words.{word_count, spelled, entry_read}
use Rattle.cf_shape.specs.Lanes.{ShapeValue, selected_by, key_of, measure_of}
use Rattle.cf_shape.specs.Nodes.{levels_of}
use Rattle.cf_shape.specs.Uses.{use_at, is_measured}
use Rattle.cf_shape.specs.Places.{sizes_of}
use Rattle.cf_law.specs.Words.{entry, Layout}
use Rattle.cf_law.specs.Nibbles.{nibbles}

-- the row's path in a lane, the last nibble first, or None where the lane does not select the row
abbrev pub path_in : ShapeValue → RowValue → ℕ → Option (List ℕ)
path_in shape row lane = cond (selected_by shape lane row) (Some (nibbles (levels_of shape lane) (key_of shape lane row))) None

-- the row fits, with a number of 32 bits
abbrev pub row_fits : List Attr → RowValue → Bool
row_fits attrs row = values_fit attrs row.values && nat_lt row.num (2 ^ 32)

-- all that the law asks of a shape: its sizes, the paths and measures of rows, and which word of a ticket is for what
abbrev pub layout : ShapeValue → Layout
layout shape = record {
  sizes = sizes_of shape;
  levels = levels_of shape;
  path = path_in shape;
  fits = row_fits shape.schema;
  plain_words = word_count shape.schema + 1;
  spelled = λ r w. spelled (entry w r);
  reads = entry_read shape.schema;
  use_of = use_at shape;
  amount = λ r l. measure_of shape l r;
  is_measured = is_measured shape;
}
