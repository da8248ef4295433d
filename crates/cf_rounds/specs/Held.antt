-- Rounds as their caller holds them, and what their calls do.
use Rattle.std.specs.Prelude.{◌≡◌, ℕ, ◌+◌, ◌^◌, ◌<◌, ◌≤◌, Bool, true, false, List, [], ◌++◌, length, if◌then◌else◌}
use Rattle.std.specs.List.{flat_map}
use Rattle.cf_row.specs.Row.{RowValue}
use Rattle.cf_setup.specs.Setups.{SetupValue, shaped}
use Rattle.cf_watch.specs.declared.watched.Watched.{Watched}
use Rattle.cf_window.specs.Courses.{IsCourse}
use Rattle.cf_window.specs.Held.{WindowValue, count_of}
use Rattle.cf_window.specs.Windows.{after_row, goes_in, is_refused, is_small, rows_in_all}
use Rattle.cf_rounds.specs.Lanes.{AreCounted}
use Rattle.cf_rounds.specs.Lines.{RoundView, beat_text, is_beat, is_due, live_line}
use Rattle.cf_rounds.specs.Streams.{Standing, Stream, Terms, after_record, begun, course_of, forces, view_of}
use Rattle.cf_rounds.specs.declared.rounds.Taken.{Taken}
use Rattle.cf_rounds.specs.declared.rounds.Taken.TheVariants.{Full, Gone, NoNodes, Waits}

-- how the stream is watched, how many records there may be, where it stands, and whether the window's last segment has refused a record
pub record RoundsValue : Type 0 where
  pub terms : Terms
  pub limit : ℕ
  pub now : Standing
  pub is_spent : Bool

-- a window as a stream has it, with what is kept beside it, and the counts
abbrev pub standing_in : WindowValue → List Watched → (asked beaten last : ℕ) → Standing
standing_in window kept asked beaten last =
    record { segments = window.segments; count = count_of window; kept = kept; asked = asked; beaten = beaten; last = last }

-- what a round sees of a window, and of what is kept beside it
abbrev pub view_in : WindowValue → List Watched → ℕ → RoundView
view_in window kept last = record { from = window.from; to = count_of window; rows = rows_in_all window.segments; kept = kept; last = last }

-- The window's segments are logs of the setup, with one writer, and something is kept of each of its lanes. Fewer than 2^53 records may come.
pub record IsRounds (setup : SetupValue) (window : WindowValue) (kept : List Watched) (limit : ℕ) : Type 0 where
  pub shaped : window.shape ≡ shaped setup (window.shape).capacity 1 (window.shape).nodes
  pub lanes : length kept ≡ length setup.lanes
  pub counted : AreCounted (count_of window) kept
  pub few : limit < 2 ^ 53

-- After these records the stream is there.
pub record IsAt (rounds : RoundsValue) (rows : List RowValue) (stream : Stream) : Type 0 where
  pub come : IsCourse (rounds.terms).shape (rounds.terms).most rows (course_of stream)
  pub stands : rounds.now ≡ stream.now

-- what is fixed stays
pub record IsSetAs (old new : RoundsValue) : Type 0 where
  pub terms : new.terms ≡ old.terms
  pub limit : new.limit ≡ old.limit

-- the rounds of a stream before its first record
abbrev pub begun_on : Terms → ℕ → RoundsValue
begun_on terms limit = record { terms = terms; limit = limit; now = (begun terms).now; is_spent = false }

-- the live questions were asked if they were due
abbrev pub HasAsked : RoundsValue → List ℕ → RoundsValue → List ℕ → Type 0
HasAsked old before new after =
    let terms = old.terms in
    let now = old.now in
    let due = is_due terms.every now.asked now.count in
    (new ≡ record old { now = record now { asked = if due then now.count else now.asked } })
    × (after ≡ before ++ (if due then flat_map (live_line terms.shape terms.setup (view_of now)) (terms.setup).lives else []))

-- a beat came if it was due
abbrev pub HasBeaten : Bool → RoundsValue → List ℕ → RoundsValue → List ℕ → Type 0
HasBeaten is_last old before new after =
    let terms = old.terms in
    let now = old.now in
    let due = is_beat is_last terms.beat now.beaten now.count in
    (new ≡ record old { now = record now { beaten = if due then now.count else now.beaten } })
    × (after ≡ before ++ (if due then beat_text terms.shape terms.setup (view_of now) else []))

-- A record has gone into the window.
pub record HasMoved (old : WindowValue) (row : RowValue) (new : WindowValue) : Type 0 where
  pub segments : new.segments ≡ after_row old.shape old.most old.segments row
  pub count : count_of new ≡ count_of old + 1
  pub is_spent : new.is_spent ≡ false

-- A round has to come before the record, which would be taken then. The rounds stay where they are, but that the last segment may have
-- refused the record.
pub record WaitsFor (old : RoundsValue) (row : RowValue) (new : RoundsValue) : Type 0 where
  pub few : (old.now).count < old.limit
  pub small : is_small (old.terms).shape row ≡ true
  pub forced : forces old.terms old.now row ≡ true
  pub same : new ≡ record old { is_spent = new.is_spent }
  pub spent : new.is_spent ≡ true → goes_in (old.terms).shape (old.now).segments row ≡ false

-- What came of a record: as many have come as there may be; or it has come; or a round has to come before it; or no segment takes it.
abbrev pub HasAnswered : RoundsValue → RowValue → RoundsValue → Taken → Type 0
HasAnswered old row new Full = (old.limit ≤ (old.now).count) × (new ≡ old)
HasAnswered old row new Gone =
    ((old.now).count < old.limit)
    × (is_refused (old.terms).shape (old.now).segments row ≡ false)
    × (forces old.terms old.now row ≡ false)
    × (new ≡ record old { now = after_record old.terms old.now row; is_spent = false })
HasAnswered old row new Waits = WaitsFor old row new
HasAnswered old row new NoNodes =
    ((old.now).count < old.limit)
    × (is_refused (old.terms).shape (old.now).segments row ≡ true)
    × (new ≡ record old { is_spent = true })
