-- A log that goes on through several segments, each a log of its own.
use Rattle.std.specs.Prelude.{◌≡◌, ◌<◌, ◌≤◌, ◌+◌, ◌*◌, ◌%◌, ◌^◌, ℕ, List, [], ◌∷◌, ◌++◌, length, map, Some, slice_get}
use Rattle.std.specs.List.{flat_map, AllZip}
use Rattle.cf_row.specs.Row.{RowValue}
use Rattle.cf_row.specs.declared.row.Entry.{Entry}
use Rattle.cf_shape.specs.Lanes.{ShapeValue}
use Rattle.cf_table.specs.Values.{PassValue, IsOf}
use Rattle.cf_table.specs.Rule.{root_pass}
use Rattle.cf_table.specs.Moves.{HoldsAllBooks, OnlyLooked, SealValue}
use Rattle.cf_segments.specs.Blocks.{block}
use Rattle.cf_segments.specs.Loaded.{HasLoaded}
use Rattle.cf_segments.specs.declared.segments.Segment.{Segment}

-- The shape of each segment, how many segments there may be, those to which nothing is appended any more, and the one that rows
-- go to.
pub record SegmentsValue : Type 0 where
  pub shape : ShapeValue
  pub most : ℕ
  pub closed : List Segment
  pub current : Segment

-- a log in segments of the current one's shape
abbrev pub segments_of : ℕ → List Segment → Segment → SegmentsValue
segments_of most closed current = record { shape = (current.log).shape; most = most; closed = closed; current = current }

-- all segments, in order
abbrev pub all_of : SegmentsValue → List Segment
all_of s = s.closed ++ s.current ∷ []

-- the entries that a segment's root has seen
abbrev pub seen_of : Segment → List Entry
seen_of segment = (segment.root.view).seen

-- the entries of all segments, end to end
abbrev pub entries_of : SegmentsValue → List Entry
entries_of s = flat_map seen_of (all_of s)

-- the base of the current segment: how many rows the closed ones have room for
abbrev pub base_of : SegmentsValue → ℕ
base_of s = (s.shape).capacity * length s.closed

-- how many rows all segments have room for
abbrev pub room_of : SegmentsValue → ℕ
room_of s = s.most * (s.shape).capacity

-- The tails that some segments were told of, end to end, each counted from the first segment's first entry. Each segment has room
-- for n rows, and the first of these begins at the base.
abbrev pub laid_end_to_end : ℕ → ℕ → List (List ℕ) → List ℕ
laid_end_to_end n base [] = []
laid_end_to_end n base (told ∷ tolds) = map (λ tail. base + tail) told ++ laid_end_to_end n (base + n) tolds

-- those of which the roots of some segments were told
abbrev pub told_from : ℕ → ℕ → List Segment → List ℕ
told_from n base segments = laid_end_to_end n base (map (λ (segment : Segment). (segment.root.view).told) segments)

-- the tails that the roots of all segments were told of
abbrev pub told_of : SegmentsValue → List ℕ
told_of s = told_from (s.shape).capacity 0 (all_of s)

-- A log of the shape may go on through so many segments: they have room for 2^20 rows at most, and no batch of 4,096 rows lies in
-- two of them.
pub record AllowsSegments (shape : ShapeValue) (most : ℕ) : Type 0 where
  pub some : 1 ≤ most
  pub few : most ≤ 256
  pub rows : most * shape.capacity ≤ 2 ^ 20
  pub whole : 1 < most → shape.capacity % 4096 ≡ 0

-- the log has that shape, and its root holds all books at rest
pub record IsSegment (shape : ShapeValue) (segment : Segment) : Type 0 where
  pub shape_is : (segment.log).shape ≡ shape
  pub of : IsOf segment.root segment.log
  pub settled : HoldsAllBooks shape segment.root.view

-- a segment of the shape that was just opened
pub record IsOpened (shape : ShapeValue) (segment : Segment) : Type 0 where
  pub is : IsSegment shape segment
  pub root : segment.root.view ≡ root_pass (segment.log).shape

-- each segment is one of the shape, and there are no more than there may be
pub record IsSegments (s : SegmentsValue) : Type 0 where
  pub sizes : AllowsSegments s.shape s.most
  pub few : length s.closed < s.most
  pub each : (k : ℕ) (segment : Segment) → slice_get (all_of s) k ≡ Some segment → IsSegment s.shape segment

-- Segment k has loaded just block k of the rows, and all that come before the current one are full.
pub record HoldsRows (s : SegmentsValue) (rows : List RowValue) : Type 0 where
  pub are : IsSegments s
  pub each : (k : ℕ) (segment : Segment) → slice_get (all_of s) k ≡ Some segment
      → HasLoaded segment.log ((s.shape).capacity * k) (block (s.shape).capacity k rows) segment.root
  pub full : base_of s ≤ length rows
  pub room : length rows ≤ base_of s + (s.shape).capacity

-- The current segment is closed, and an empty one has come behind it.
pub record HasTurnedOver (before after : SegmentsValue) : Type 0 where
  pub same : after ≡ record before { closed = before.closed ++ before.current ∷ []; current = after.current }
  pub empty : seen_of after.current ≡ []
  pub entries : entries_of after ≡ entries_of before
  pub told : told_of after ≡ told_of before
  pub holds : (rows : List RowValue) → HoldsRows before rows → length rows ≡ base_of before + (before.shape).capacity → HoldsRows after rows

-- the segment is as it was but for its root's last look
pub record HasLooked (before after : Segment) : Type 0 where
  pub log : after.log ≡ before.log
  pub root : OnlyLooked before.root after.root

-- all segments are as they were but for their roots' last looks
pub record HaveLooked (before after : SegmentsValue) : Type 0 where
  pub same : after ≡ record before { closed = after.closed; current = after.current }
  pub closed : AllZip HasLooked before.closed after.closed
  pub current : HasLooked before.current after.current

-- what is left of a segment that is sealed
abbrev pub sealed : Segment → SealValue
sealed segment = record { entries = seen_of segment; told = (segment.root.view).told }

-- it is the same log, and its root the same pass, whatever the root holds and knows
pub record IsSameSegment (before after : Segment) : Type 0 where
  pub log : after.log ≡ before.log
  pub root : after.root ≡ record before.root { view = after.root.view }

-- the second list's first segments are those of the first list
abbrev pub AreFirst : List Segment → List Segment → Type 0
AreFirst [] others = Unit {0}
AreFirst (segment ∷ segments) [] = ⊥
AreFirst (segment ∷ segments) (other ∷ others) = IsSameSegment segment other × AreFirst segments others

-- They are the same segments, and others may have come behind them.
pub record SegmentsGoOn (before after : SegmentsValue) : Type 0 where
  pub shape : after.shape ≡ before.shape
  pub most : after.most ≡ before.most
  pub first : AreFirst (all_of before) (all_of after)

-- what the pass has seen, was told and holds stays
pub record Keeps (before after : PassValue) : Type 0 where
  pub same : after ≡ record before { view = after.view }
  pub seen : (after.view).seen ≡ (before.view).seen
  pub books : (after.view).books ≡ (before.view).books
  pub told : (after.view).told ≡ (before.view).told

-- the segment's log stays, and so does what its root has seen, was told and holds
pub record KeepsSegment (before after : Segment) : Type 0 where
  pub log : after.log ≡ before.log
  pub root : Keeps before.root after.root

-- all segments stay, with what their roots have seen, were told and hold
pub record KeepsAll (before after : SegmentsValue) : Type 0 where
  pub same : after ≡ record before { closed = after.closed; current = after.current }
  pub closed : AllZip KeepsSegment before.closed after.closed
  pub current : KeepsSegment before.current after.current
