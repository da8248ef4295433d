-- The words in which a lane that measures keeps a link and a quad: the word of the link and the count, the sum, and the least and the greatest.
use Rattle.std.specs.Prelude.{◌≡◌, ℕ, zero, suc, ◌+◌, ◌*◌, ◌<◌, ◌^◌}
use Rattle.cf_fold.specs.Quads.{QuadValue, IsQuad}
use Rattle.cf_fold.specs.declared.cell.CellWords.{CellWords}

-- the word whose low 32 bits are the first number and whose high 32 bits are the second, where both are below 2^32
abbrev pub halves : ℕ → ℕ → ℕ
halves low high = low + 2 ^ 32 * high

-- the words of a measure after the first: the sum, then the least and the greatest
abbrev pub measure_word : ℕ → QuadValue → ℕ
measure_word zero q = q.sum
measure_word (suc j) q = halves q.least q.greatest

-- word j of the cell with that link and that quad
abbrev pub cell_word : ℕ → QuadValue → ℕ → ℕ
cell_word link q zero = halves link q.count
cell_word link q (suc j) = measure_word j q

-- the words are those of the cell with that link and that quad
pub record AreWordsOf (words : CellWords) (link : ℕ) (quad : QuadValue) : Type 0 where
  pub link_is_low : link < 2 ^ 32
  pub lawful : IsQuad quad
  pub first_is : words.first ≡ cell_word link quad 0
  pub sum_is : words.sum ≡ cell_word link quad 1
  pub ends_is : words.ends ≡ cell_word link quad 2
