-- A window as its caller holds it, and what its calls do.
use Rattle.std.specs.Prelude.{◌≡◌, ℕ, ◌+◌, ◌*◌, ◌^◌, ◌<◌, ◌≤◌, ◌-◌, Bool, true, false, List, [], Some, slice_get, slice_index_or, length, drop, map, All}
use Rattle.cf_row.specs.Row.{RowValue}
use Rattle.cf_shape.specs.Lanes.{ShapeValue}
use Rattle.cf_window.specs.Segments.{WindowSegmentValue}
use Rattle.cf_window.specs.Windows.{after_row, drops, goes_in, is_refused, is_small, rows_in_all, with_last}
use Rattle.cf_window.specs.declared.window.Pushed.{Pushed}
use Rattle.cf_window.specs.declared.window.Pushed.TheVariants.{Full, Gone, NeedsDrop, NoNodes}

-- the shape of each segment, how many there may be, how many rows were dropped, the segments, and whether the last has refused a row
pub record WindowValue : Type 0 where
  pub shape : ShapeValue
  pub most : ℕ
  pub from : ℕ
  pub segments : List (List RowValue)
  pub is_spent : Bool

-- the rows of each segment
abbrev pub rows_each : List WindowSegmentValue → List (List RowValue)
rows_each segments = map (λ segment. segment.rows) segments

-- how many rows have come, with those that were dropped
abbrev pub count_of : WindowValue → ℕ
count_of window = window.from + length (rows_in_all window.segments)

abbrev pub IsOfShape : ShapeValue → WindowSegmentValue → Type 0
IsOfShape shape segment = segment.shape ≡ shape

-- Each segment has the shape, which has one writer, and there are no more than there may be, which have few rows together. Only of the
-- last one it matters whether it has refused a row.
pub record IsWindow (shape : ShapeValue) (most : ℕ) (segments : List WindowSegmentValue) : Type 0 where
  pub one : shape.writers ≡ 1
  pub shapes : All (IsOfShape shape) segments
  pub some : 0 < most
  pub few : length segments ≤ most
  pub bounded : most * shape.capacity ≤ 2 ^ 20

-- What a push did with a row: it has come; or nothing has come, since as many have come as are counted, since the oldest segment has to
-- be dropped for it first, or since it needs more nodes than an empty segment has.
abbrev pub HasPushed : WindowValue → RowValue → WindowValue → Pushed → Type 0
HasPushed old row new Full = (count_of old ≡ 2 ^ 64 - 1) × (new ≡ old)
HasPushed old row new Gone =
    (count_of old < 2 ^ 64 - 1)
    × (drops old.shape old.most old.segments row ≡ false)
    × (new ≡ record old { segments = after_row old.shape old.most old.segments row; is_spent = false })
    × (is_refused old.shape old.segments row ≡ false)
HasPushed old row new NeedsDrop =
    (count_of old < 2 ^ 64 - 1)
    × (drops old.shape old.most old.segments row ≡ true)
    × (is_small old.shape row ≡ true)
    × (new ≡ record old { is_spent = true })
HasPushed old row new NoNodes =
    (count_of old < 2 ^ 64 - 1)
    × (goes_in old.shape old.segments row ≡ false)
    × (is_small old.shape row ≡ false)
    × (new ≡ record old { is_spent = true })

-- the last segment, where there is one, has refused no row
abbrev pub IsOpenLast : List WindowSegmentValue → Type 0
IsOpenLast segments = (segment : WindowSegmentValue) → slice_get segments (length segments - 1) ≡ Some segment → segment.is_spent ≡ false

-- the row behind those of the last segment, where it was taken
abbrev pub with_taken : List (List RowValue) → RowValue → Bool → List (List RowValue)
with_taken segments row true = with_last segments row
with_taken segments row false = segments

-- Once the oldest segment is dropped the row comes without another, as it would have come before.
pub record ComesThen (old : WindowValue) (row : RowValue) (new : WindowValue) : Type 0 where
  pub room : drops new.shape new.most new.segments row ≡ false
  pub same : after_row new.shape new.most new.segments row ≡ after_row old.shape old.most old.segments row

-- the window with the row in the place of the oldest segment
abbrev pub replaced : WindowValue → RowValue → WindowValue
replaced old row = record old {
  from = old.from + length (slice_index_or old.segments 0 []);
  segments = after_row old.shape old.most old.segments row;
  is_spent = false;
}

-- the window without its oldest segment, whose last one takes no row then
abbrev pub without_oldest : WindowValue → WindowValue
without_oldest old = record old {
  from = old.from + length (slice_index_or old.segments 0 []);
  segments = drop 1 old.segments;
  is_spent = true;
}
