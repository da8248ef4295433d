-- Rows that are kept as words.
use Rattle.std.specs.Prelude.{◌≡◌, ℕ, zero, suc, ◌+◌, ◌/◌, ◌^◌, ◌<◌, List, [], ◌∷◌, length, take, drop, All}
use Rattle.std.specs.List.{flat_map}
use Rattle.cf_row.specs.Row.{Fits, RowValue}
use Rattle.cf_row.specs.Words.{entry_read, spelled, word_count}
use Rattle.cf_row.specs.declared.schema.Attr.{Attr}

-- the schema, and the rows that are kept
pub record KeptValue : Type 0 where
  pub schema : List Attr
  pub rows : List RowValue

-- how many words a row takes: those of its values, and the tag
abbrev pub width_of : List Attr → ℕ
width_of attrs = word_count attrs + 1

-- the words of a row, as writer 0 would store it
abbrev pub row_words : RowValue → List ℕ
row_words row = spelled (record { writer = 0; row = row })

-- the row fits, and has a number of 32 bits
pub record MayBeKept (attrs : List Attr) (row : RowValue) : Type 0 where
  pub fits : Fits attrs row
  pub num : row.num < 2 ^ 32

-- so many rows that the words spell, side by side
abbrev pub rows_spelled : List Attr → ℕ → List ℕ → List RowValue
rows_spelled attrs zero words = []
rows_spelled attrs (suc count) words =
    (entry_read attrs (take (width_of attrs) words)).row ∷ rows_spelled attrs count (drop (width_of attrs) words)

-- the words of these rows, side by side
abbrev pub words_of_rows : List RowValue → List ℕ
words_of_rows rows = flat_map row_words rows

-- the rows that the words spell, side by side
abbrev pub rows_kept : List Attr → List ℕ → List RowValue
rows_kept attrs words = rows_spelled attrs (length words / width_of attrs) words

-- the words are those of some rows that may be kept
pub record AreRowWords (attrs : List Attr) (words : List ℕ) : Type 0 where
  pub rows : List RowValue
  pub may : All (MayBeKept attrs) rows
  pub words_are : words ≡ words_of_rows rows
