-- Rows are read back from their words.
use Rattle.std.proofs.Common.{inl, inr, eq-or-lt_of_le, length-take, length-drop, ◌≡◌, ◌∙◌, ℕ, zero, suc, ◌+◌, ◌*◌, ◌/◌, ◌<◌, ◌≤◌, cond, Bool, true, false, List, [], ◌∷◌, ◌++◌, All, length, length-append, take, drop, get_or, refl, sym, ap, ap₂, arith, subst, suc-mul, mul-le-mul_right, zero-mul, add_comm, mul-div_cancel}
use Rattle.std.proofs.lemmas.Grind.{flat_map-append}
use Rattle.std.proofs.Math.Seq.{drop-append-add, take-add}
use Rattle.std.proofs.lemmas.List.{drop_at, take_all, take_at, append-nil}
use Rattle.std.proofs.lemmas.List.Elements.{All-head, All-push, All-tail}
use Rattle.cf_row.specs.Row.{RowValue}
use Rattle.cf_row.specs.Words.{AreSpelled, IsEntry, entry_read}
use Rattle.cf_row.specs.declared.row.Entry.{Entry}
use Rattle.cf_row.specs.declared.schema.Attr.{Attr}
use Rattle.cf_row.proofs.Spelling.{entry_back, spelled_long}
use Rattle.cf_long.specs.SpelledRows.{AreRowWords, MayBeKept, row_words, rows_kept, rows_spelled, width_of, words_of_rows}

-- the row, as writer 0 would write it
abbrev pub entry_of : RowValue → Entry
entry_of row = record { writer = 0; row = row }

module _ (attrs : List Attr) where
  pub row_entry : (row : RowValue) → MayBeKept attrs row → IsEntry attrs (entry_of row)
  row_entry row may = record { fits = may.fits; num = may.num; writer = omega arith }

  row_long : (row : RowValue) → MayBeKept attrs row → length (row_words row) ≡ width_of attrs
  row_long row may = spelled_long attrs (entry_of row) may.fits

  pub row_spelled : (row : RowValue) → MayBeKept attrs row → AreSpelled attrs (row_words row)
  row_spelled row may = record { entry = entry_of row; lawful = row_entry row may; spells = refl }

  pub words_long : (rows : List RowValue) → All (MayBeKept attrs) rows → length (words_of_rows rows) ≡ length rows * width_of attrs
  words_long [] may = sym (zero-mul (width_of attrs))
  words_long (row ∷ rows) may =
      let one = row_long row (All-head (MayBeKept attrs) row rows may) in
      let more = words_long rows (All-tail (MayBeKept attrs) row rows may) in
      length-append (row_words row) (words_of_rows rows)
      ∙ (ap₂ (λ a b. a + b) one more ∙ (add_comm (width_of attrs) (length rows * width_of attrs) ∙ sym (suc-mul (length rows) (width_of attrs))))

  rows_back : (rows : List RowValue) → All (MayBeKept attrs) rows → rows_spelled attrs (length rows) (words_of_rows rows) ≡ rows
  rows_back [] may = refl
  rows_back (row ∷ rows) may =
      let first = All-head (MayBeKept attrs) row rows may in
      let front = take_at (row_words row) (words_of_rows rows) (width_of attrs) (row_long row first) in
      let rest = drop_at (row_words row) (words_of_rows rows) (width_of attrs) (row_long row first) in
      let read : entry_read attrs (take (width_of attrs) (row_words row ++ words_of_rows rows)) ≡ entry_of row =
      ap (entry_read attrs) front ∙ entry_back attrs (entry_of row) (row_entry row first) in
      ap₂ (λ (e : Entry) (rs : List RowValue). e.row ∷ rs) read
      (ap (rows_spelled attrs (length rows)) rest ∙ rows_back rows (All-tail (MayBeKept attrs) row rows may))

  -- what is kept of the rows is these rows
  pub kept_back : (rows : List RowValue) → All (MayBeKept attrs) rows → rows_kept attrs (words_of_rows rows) ≡ rows
  kept_back rows may =
      let few : length (words_of_rows rows) / width_of attrs ≡ length rows =
      ap (λ n. n / width_of attrs) (words_long rows may) ∙ mul-div_cancel (length rows) (omega arith) in
      ap (λ n. rows_spelled attrs n (words_of_rows rows)) few ∙ rows_back rows may

  -- the rows that are read are those whose words are kept
  pub rows_are : (words : List ℕ) (is : AreRowWords attrs words) → rows_kept attrs words ≡ is.rows
  rows_are words is = ap (rows_kept attrs) is.words_are ∙ kept_back is.rows is.may

  words_more : (rows : List RowValue) (row : RowValue) → words_of_rows (rows ++ row ∷ []) ≡ words_of_rows rows ++ row_words row
  words_more rows row = flat_map-append row_words rows (row ∷ []) ∙ ap (λ ws. words_of_rows rows ++ ws) (append-nil (row_words row))

  -- the words of one row more, if they are kept
  pub pushed : (words then : List ℕ) (row : RowValue) (went : Bool) → AreRowWords attrs words → MayBeKept attrs row
      → then ≡ cond went (words ++ row_words row) words → AreRowWords attrs then
  pushed words then row true is may same = record {
    rows = is.rows ++ row ∷ [];
    may = All-push (MayBeKept attrs) is.rows row is.may may;
    words_are = same ∙ (ap (λ ws. ws ++ row_words row) is.words_are ∙ sym (words_more is.rows row));
  }
  pushed words then row false is may same = record { rows = is.rows; may = is.may; words_are = same ∙ is.words_are }

  -- and the rows that are read then
  pub rows_pushed : (words then : List ℕ) (row : RowValue) (went : Bool) → AreRowWords attrs words → MayBeKept attrs row
      → then ≡ cond went (words ++ row_words row) words → rows_kept attrs then ≡ cond went (rows_kept attrs words ++ row ∷ []) (rows_kept attrs words)
  unfolding pushed
  rows_pushed words then row true is may same =
      rows_are then (pushed words then row true is may same) ∙ ap (λ rs. rs ++ row ∷ []) (sym (rows_are words is))
  rows_pushed words then row false is may same = ap (rows_kept attrs) same

  -- as many rows are read as there are
  pub count_are : (words : List ℕ) → AreRowWords attrs words → length (rows_kept attrs words) ≡ length words / width_of attrs
  count_are words is =
      ap (λ (rs : List RowValue). length rs) (rows_are words is)
      ∙ sym (ap (λ (ws : List ℕ). length ws / width_of attrs) is.words_are
      ∙ (ap (λ n. n / width_of attrs) (words_long is.rows is.may) ∙ mul-div_cancel (length is.rows) (omega arith)))

  part_at : (rows : List RowValue) (place : ℕ) (d : RowValue) → All (MayBeKept attrs) rows → place < length rows
      → take (width_of attrs) (drop (place * width_of attrs) (words_of_rows rows)) ≡ row_words (get_or rows place d)
  part_at [] place d may low = absurd (omega (arith, low))
  part_at (row ∷ rows) zero d may low =
      let first = All-head (MayBeKept attrs) row rows may in
      ap (λ n. take (width_of attrs) (drop n (row_words row ++ words_of_rows rows))) (zero-mul (width_of attrs))
      ∙ take_at (row_words row) (words_of_rows rows) (width_of attrs) (row_long row first)
  part_at (row ∷ rows) (suc place) d may low =
      let first = All-head (MayBeKept attrs) row rows may in
      let rest = All-tail (MayBeKept attrs) row rows may in
      let long = row_long row first in
      let skipped : drop (suc place * width_of attrs) (row_words row ++ words_of_rows rows) ≡ drop (place * width_of attrs) (words_of_rows rows) =
      ap (λ n. drop n (row_words row ++ words_of_rows rows)) (suc-mul place (width_of attrs) ∙ add_comm (place * width_of attrs) (width_of attrs)
      ∙ ap (λ n. n + place * width_of attrs) (sym long)) ∙ drop-append-add (row_words row) (words_of_rows rows) (place * width_of attrs) in
      ap (take (width_of attrs)) skipped ∙ part_at rows place d rest (omega (arith, low))

  -- the words of the row at a place
  pub words_at : (words : List ℕ) (place : ℕ) (d : RowValue) → AreRowWords attrs words → place < length (rows_kept attrs words)
      → take (width_of attrs) (drop (place * width_of attrs) words) ≡ row_words (get_or (rows_kept attrs words) place d)
  words_at words place d is low =
      let same = rows_are words is in
      ap (λ (ws : List ℕ). take (width_of attrs) (drop (place * width_of attrs) ws)) is.words_are
      ∙ (part_at is.rows place d is.may (subst (λ (rs : List RowValue). place < length rs) same low)
      ∙ ap (λ (rs : List RowValue). row_words (get_or rs place d)) (sym same))

  pub may_at : (words : List ℕ) (place : ℕ) (d : RowValue) → AreRowWords attrs words → place < length (rows_kept attrs words)
      → MayBeKept attrs (get_or (rows_kept attrs words) place d)
  may_at words place d is low =
      let same = rows_are words is in
      subst (λ (rs : List RowValue). MayBeKept attrs (get_or rs place d)) (sym same)
      (is.may place d (subst (λ (rs : List RowValue). place < length rs) same low))

  -- they are there
  pub part_within : (words : List ℕ) (place : ℕ) → AreRowWords attrs words → place < length (rows_kept attrs words)
      → place * width_of attrs + width_of attrs ≤ length words
  part_within words place is low =
      let few : suc place ≤ length is.rows = subst (λ (rs : List RowValue). place < length rs) (rows_are words is) low in
      let most : suc place * width_of attrs ≤ length is.rows * width_of attrs = mul-le-mul_right (width_of attrs) few in
      let long : length words ≡ length is.rows * width_of attrs = ap (λ (ws : List ℕ). length ws) is.words_are ∙ words_long is.rows is.may in
      omega (arith, most, long, suc-mul place (width_of attrs))

-- a part of a list that is cut short only by the list's end
pub cut_by_end : {X : Type 0} (m n : ℕ) (xs : List X) → m ≤ n → (m < n → length xs ≤ m) → take m xs ≡ take n xs
cut_by_end m n xs low few = elim (eq-or-lt_of_le low) [
  | inl same ↦ ap (λ k. take k xs) same
  | inr less ↦ let all = few less in take_all m xs all ∙ sym (take_all n xs (omega (arith, all, low)))
]

cut_again : {X : Type 0} (n : ℕ) (xs : List X) → take (length (take n xs)) xs ≡ take n xs
cut_again zero xs = refl
cut_again (suc n) [] = refl
cut_again (suc n) (x ∷ xs) = ap (λ rest. x ∷ rest) (cut_again n xs)

-- a batch more of a list: it ends within the list, and has an element if the list goes on
pub batch_more : {X : Type 0} (at n : ℕ) (xs : List X) → take (at + length (take n (drop at xs))) xs ≡ take at xs ++ take n (drop at xs)
batch_more at n xs = take-add at (length (take n (drop at xs))) xs ∙ ap (λ rest. take at xs ++ rest) (cut_again n (drop at xs))

pub batch_within : {X : Type 0} (at n : ℕ) (xs : List X) → at < length xs → at + length (take n (drop at xs)) ≤ length xs
batch_within at n xs low = omega (arith, low, length-take n (drop at xs), length-drop at xs)

pub batch_some : {X : Type 0} (at n : ℕ) (xs : List X) → at < length xs → 0 < n → 0 < length (take n (drop at xs))
batch_some at n xs low some = omega (arith, low, some, length-take n (drop at xs), length-drop at xs)
