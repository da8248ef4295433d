-- What the words of an entry tell of its group.
use Rattle.std.proofs.Common.{◌≡◌, ◌∙◌, ℕ, suc, ◌+◌, ◌^◌, ◌<◌, ◌≤◌, Bool, true, false, List, [], ◌∷◌, ◌++◌, length, map, take, cond, append-nil, Some, slice_get, refl, ap, ap₂, sym, inl, inr, arith}
use Rattle.std.specs.List.{list_any, position_or_len}
use Rattle.std.proofs.lemmas.Bool.{cases_Bool, lt-ltb}
use Rattle.std.proofs.lemmas.List.{length-map, map-append, take_all}
use Rattle.cf_row.specs.declared.schema.Attr.{Attr}
use Rattle.cf_row.specs.declared.schema.Kind.{Kind}
use Rattle.cf_row.specs.declared.schema.Kind.TheVariants.{U8, U16, U32, U64, Bytes}
use Rattle.cf_row.specs.declared.row.Entry.{Entry}
use Rattle.cf_row.specs.declared.row.Value.TheVariants.{Num}
use Rattle.cf_row.specs.Expr.{number_of}
use Rattle.cf_row.specs.Row.{RowValue, value_at}
use Rattle.cf_row.specs.Schema.{IsSchema, is_u64, is_time_stamp, ts_place}
use Rattle.cf_row.proofs.Bytes.{both}
use Rattle.cf_shape.specs.Lanes.{ShapeValue, IsShape, lane_at, selected_by, measure_by, measure_of, is_number, option_passes}
use Rattle.cf_shape.proofs.Measured.{measure_low}
use Rattle.cf_plain.specs.Asks.{row_at, rows_in}
use Rattle.cf_plain.specs.Groups.{pair_of, row_group}
use Rattle.cf_plain.specs.declared.answer.Group.{Group}
use Rattle.cf_plain.proofs.Merging.{Pair}
use Rattle.cf_plain.proofs.Ones.{ones, ones_at}
use Rattle.cf_table.specs.Moves.{AreFit}
use Rattle.cf_table.specs.Values.{PassValue}
use Rattle.cf_table.proofs.Reading.{no_entry, entry_at}
use Rattle.std.proofs.lemmas.Option.{slice_get-get_or}
use Rattle.cf_walk.proofs.Tallied.{fits_of, row_is}

-- the attribute of the time is one of numbers
u64_number : (k : Kind) → is_u64 k ≡ true → is_number k ≡ true
u64_number U64 h = refl
u64_number U8 h = absurd (cc h)
u64_number U16 h = absurd (cc h)
u64_number U32 h = absurd (cc h)
u64_number (Bytes n) h = absurd (cc h)

record IsThere (attrs : List Attr) (k : ℕ) : Type 0 where
  within : k < length attrs
  number : option_passes is_number (slice_get attrs k) ≡ true

stamped_at : (attrs : List Attr) → list_any is_time_stamp attrs ≡ true → IsThere attrs (position_or_len is_time_stamp attrs)
stamped_at [] h = absurd (cc h)
stamped_at (a ∷ attrs) h = elim (cases_Bool (is_time_stamp a)) [
  | inl stamp ↦ rw stamp (record { within = omega arith; number = u64_number a.kind (both _ (is_u64 a.kind) stamp).1 })
  | inr other ↦
      let rest : list_any is_time_stamp attrs ≡ true = rw other at h in
      let there = stamped_at attrs rest in
      let e : 1 + position_or_len is_time_stamp attrs ≡ suc (position_or_len is_time_stamp attrs) = omega arith in
      rw (other, e) (record { within = (let lt = there.within in omega (arith, lt)); number = there.number })
]

pub time_there : (attrs : List Attr) → IsSchema attrs → option_passes is_number (slice_get attrs (ts_place attrs)) ≡ true
time_there attrs is =
    let there = stamped_at attrs is.stamped in
    rw (lt-ltb (position_or_len is_time_stamp attrs) (length attrs) there.within) there.number

-- what is measured of a row, by its word
pub amount_is : (shape : ShapeValue) (l : ℕ) (row : RowValue) (attr found : ℕ) → (lane_at shape l).measure ≡ Some attr → value_at row attr ≡ Num found
    → found ≡ measure_of shape l row
amount_is shape l row attr found e value = ap number_of (sym value) ∙ ap (λ m. measure_by m row) (sym e)

-- what is measured of an entry that was seen is below 2^32
pub amount_low : (shape : ShapeValue) (l : ℕ) (m : PassValue) (o found : ℕ) → IsShape shape → l < length shape.lanes → AreFit shape m.view
    → o < length (m.view).seen → found ≡ measure_of shape l (row_at (rows_in (m.view).seen) o) → found < 2 ^ 32
amount_low shape l m o found is there fit lt e =
    let entry = entry_at m.view o in
    let at : slice_get (m.view).seen o ≡ Some entry = slice_get-get_or (m.view).seen o no_entry lt in
    let low = measure_low shape l entry.row is there (fits_of shape entry (fit o entry at)) in
    let same : measure_of shape l entry.row ≡ measure_of shape l (row_at (rows_in (m.view).seen) o) = ap (measure_of shape l) (row_is (m.view).seen o entry at) in
    omega (arith, low, same, e)

-- One entry more, as a group of its own, or no group where it is not selected.
module _ (shape : ShapeValue) (l : ℕ) (rows : List RowValue) (o : ℕ) (lt : o < length rows) (each : List Group)
    (so_far : map pair_of each ≡ ones shape l (take o rows)) where
  pub one_group : (b : Bool) (g : Group) → b ≡ selected_by shape l (row_at rows o) → b ≡ true → pair_of g ≡ row_group shape l (row_at rows o)
      → map pair_of (each ++ g ∷ []) ≡ ones shape l (take (o + 1) rows)
  one_group b g is selected group =
      map-append pair_of each (g ∷ [])
      ∙ ap₂ (λ (gs : List Pair) (h : Pair). gs ++ h ∷ []) so_far group
      ∙ ap (λ (t : Bool). ones shape l (take o rows) ++ cond t (row_group shape l (row_at rows o) ∷ []) []) (sym selected ∙ is)
      ∙ sym (ones_at shape l rows o (row_at rows o) lt refl)

  pub no_group : (b : Bool) → b ≡ selected_by shape l (row_at rows o) → b ≡ false → map pair_of each ≡ ones shape l (take (o + 1) rows)
  no_group b is unselected =
      so_far
      ∙ sym (append-nil (ones shape l (take o rows)))
      ∙ ap (λ (t : Bool). ones shape l (take o rows) ++ cond t (row_group shape l (row_at rows o) ∷ []) []) (sym unselected ∙ is)
      ∙ sym (ones_at shape l rows o (row_at rows o) lt refl)

-- all entries
pub all_ones : (shape : ShapeValue) (l : ℕ) (seen : List Entry) (o : ℕ) (each : List Group) → length seen ≤ o
    → map pair_of each ≡ ones shape l (take o (rows_in seen)) → map pair_of each ≡ ones shape l (rows_in seen)
all_ones shape l seen o each past so_far =
    so_far ∙ ap (ones shape l) (take_all o (rows_in seen) (omega (arith, past, length-map seen (λ (e : Entry). e.row))))
