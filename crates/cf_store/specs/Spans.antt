-- Readers of logs of one setup that stand one behind the other answer as one reader of one log with the records of all.
use Rattle.std.specs.Prelude.{◌≡◌, ℕ, ◌+◌, ◌*◌, ◌<◌, ◌≤◌, ◌^◌, ◌==◌, Bool, true, false, List, [], ◌∷◌, ◌++◌, length, map, All, drop, get_or, slice_get, Some, None, Result, Ok, Err, Vec, if◌then◌else◌}
use Rattle.std.specs.List.{AllZip}
use Rattle.std.specs.Arc.{arc_value}
use Rattle.std.specs.Global.{Global}
use Rattle.std.specs.declared.alloc.AllocError.{AllocError}
use Rattle.cf_row.specs.declared.row.Entry.{Entry}
use Rattle.cf_row.specs.Row.{Fits, RowValue}
use Rattle.cf_shape.specs.Lanes.{ShapeValue, lane_at, has_by}
use Rattle.cf_shape.specs.Uses.{is_measured}
use Rattle.cf_setup.specs.Setups.{SetupValue}
use Rattle.cf_plain.specs.declared.ask.Ask.{Ask}
use Rattle.cf_plain.specs.Asks.{eval, row_at, rows_in}
use Rattle.cf_plain.specs.Groups.{groups}
use Rattle.cf_table.specs.Values.{PassValue}
use Rattle.cf_table.specs.Moves.{Begins}
use Rattle.cf_query.specs.Asking.{HasAsked}
use Rattle.cf_query.specs.Walks.{OnlyWalked}
use Rattle.cf_store.specs.Asks.{IsTold, groups_words, is_keyed}
use Rattle.cf_store.specs.Seen.{seen_text}
use Rattle.cf_store.specs.declared.held.Shared.{Shared}
use Rattle.cf_store.specs.declared.held.Reader.{Reader}
use Rattle.cf_store.specs.declared.reader.Told.{Told}
use Rattle.cf_store.specs.Values.{ShowsRow}
use Rattle.cf_store.specs.declared.shown.Head.{Head}
use Rattle.cf_store.specs.declared.shown.Shown.{Shown}
use Rattle.cf_store.specs.declared.shown.ShownValue.{ShownValue}
use Rattle.cf_store.specs.declared.refusals.AskRefusal.{AskRefusal}
use Rattle.cf_store.specs.declared.refusals.AskRefusal.TheVariants.{NoQuestion, Memory}
use Rattle.cf_store.specs.declared.refusals.LaneRefusal.{LaneRefusal}
use Rattle.cf_store.specs.declared.refusals.LaneRefusal.TheVariants as lanes
use Rattle.cf_store.specs.declared.refusals.RowRefusal.{RowRefusal}
use Rattle.cf_store.specs.declared.refusals.RowRefusal.TheVariants as rows
use Rattle.cf_store.specs.declared.refusals.AddRefusal.{AddRefusal}
use Rattle.cf_store.specs.declared.refusals.AddRefusal.TheVariants as adds

-- What is seen of logs that stand one behind the other, each of which takes so many records: what is seen of the first and, if that is all
-- that the log takes, behind it what is seen of the others.
abbrev pub seen_in : ℕ → List (List Entry) → List Entry
seen_in capacity [] = []
seen_in capacity (log ∷ logs) = log ++ (if length log == capacity then seen_in capacity logs else [])

-- the text of the setup, the setup and the shape of each log, the passes of the readers, and the words of the last answer
pub record SpanValue : Type 0 where
  pub text : List ℕ
  pub setup : SetupValue
  pub shape : ShapeValue
  pub passes : List PassValue
  pub words : List ℕ

-- what each pass has seen
abbrev pub seen_each : List PassValue → List (List Entry)
seen_each passes = map (λ pass. (pass.view).seen) passes

-- what the span has seen
abbrev pub seen_by : SpanValue → List Entry
seen_by span = seen_in span.shape.capacity (seen_each span.passes)

-- the log has the text and the shape of the span's logs
pub record IsLike (span : SpanValue) (shared : Shared) : Type 0 where
  pub text : shared.text.items ≡ span.text
  pub shape : shared.log.shape ≡ span.shape

-- the other log has the setup of the first and its shape
pub record AreLike (shared other : Shared) : Type 0 where
  pub text : other.text.items ≡ shared.text.items
  pub setup : other.setup ≡ shared.setup
  pub shape : other.log.shape ≡ shared.log.shape

-- so has each of these readers' logs
abbrev pub AllLike : Shared → List Reader → Type 0
AllLike shared readers = All (λ reader. AreLike shared (arc_value reader.of)) readers

-- the passes of these readers
abbrev pub passes_of : List Reader → List PassValue
passes_of readers = map (λ reader. reader.pass) readers

-- a span of the readers of these logs, of which the first shares this
abbrev pub span_of : Reader → List Reader → SpanValue
span_of first others = record {
  text = (arc_value first.of).text.items;
  setup = (arc_value first.of).setup;
  shape = (arc_value first.of).log.shape;
  passes = first.pass ∷ passes_of others;
  words = first.words.items;
}

-- all logs are like the first, and take at most 2^20 records together
pub record IsSpan (first : Reader) (others : List Reader) : Type 0 where
  pub like : AllLike (arc_value first.of) others
  pub few : (length others + 1) * (arc_value first.of).log.shape.capacity ≤ 2 ^ 20

-- The log of that number, from 0, is the last that is looked at: of each before it all is seen that it takes, and of it not, if there is one
-- behind it.
pub record IsLast (capacity : ℕ) (logs : List (List Entry)) (last : ℕ) : Type 0 where
  pub within : last < length logs
  pub full : (k : ℕ) → k < last → length (get_or logs k []) ≡ capacity
  pub stops : last + 1 < length logs → length (get_or logs last []) ≡ capacity → ⊥

-- The tails of the first logs were asked, up to that of the last that is looked at then, and no others.
pub record HaveAsked (shape : ShapeValue) (before after : List PassValue) : Type 0 where
  pub last : ℕ
  pub is_last : IsLast shape.capacity (seen_each after) last
  pub long : length after ≡ length before
  pub asked : (k : ℕ) (m n : PassValue) → k ≤ last → slice_get before k ≡ Some m → slice_get after k ≡ Some n → HasAsked shape m n
  pub others : (k : ℕ) → last < k → slice_get after k ≡ slice_get before k

-- The span asked how many records are seen. It keeps its words, and what it had seen it sees still.
pub record AsksTails (m n : SpanValue) : Type 0 where
  pub same : n ≡ record m { passes = n.passes }
  pub asked : HaveAsked m.shape m.passes n.passes
  pub longer : Begins (seen_by m) (seen_by n)

-- the passes only walked, and these are the words
pub record HaveWalked (m n : SpanValue) (words : List ℕ) : Type 0 where
  pub same : n ≡ record m { passes = n.passes; words = words }
  pub walked : AllZip OnlyWalked m.passes n.passes

-- the question of that number in the setup was asked of these entries, and the body is its meaning on them
pub record IsAnswerOn (setup : SetupValue) (shape : ShapeValue) (seen : List Entry) (question : ℕ) (told : Told) : Type 0 where
  pub ask : Ask
  pub at : slice_get setup.asks question ≡ Some ask
  pub tail : told.answer.tail ≡ length seen
  pub body : told.answer.body ≡ eval shape ask seen
  pub keyed : told.keyed ≡ is_keyed shape ask

-- What asking a question of the setup answers that is asked of what the span has seen. It keeps the words of the answer; refused, those that
-- it had.
abbrev pub AsksSpanSeen : ℕ → SpanValue → SpanValue → Result Head AskRefusal → Type 0
AsksSpanSeen question m n (Ok head) =
    HaveWalked m n n.words × ((told : Told) × IsAnswerOn m.setup m.shape (seen_by m) question told × IsTold told head n.words)
AsksSpanSeen question m n (Err NoQuestion) = (n ≡ m) × (slice_get m.setup.asks question ≡ None)
AsksSpanSeen question m n (Err Memory) = HaveWalked m n m.words

-- What asking it at the tail answers: the tails are asked, and then the question of what is seen. If there is no such question, nothing is
-- asked.
abbrev pub AsksSpanAt : ℕ → SpanValue → SpanValue → Result Head AskRefusal → Type 0
AsksSpanAt question m n (Ok head) = (k : SpanValue) × AsksTails m k × AsksSpanSeen question k n (Ok head)
AsksSpanAt question m n (Err NoQuestion) = (n ≡ m) × (slice_get m.setup.asks question ≡ None)
AsksSpanAt question m n (Err Memory) = (k : SpanValue) × AsksTails m k × AsksSpanSeen question k n (Err Memory)

-- the lane is there, measures something, and does not keep the rows of a bucket apart
pub record MeasuresIn (shape : ShapeValue) (lane : ℕ) : Type 0 where
  pub there : lane < length shape.lanes
  pub measured : is_measured shape lane ≡ true
  pub whole : has_by (lane_at shape lane).key ≡ false

-- the head and the words of the lane's groups in these entries
pub record AreGroupsIn (shape : ShapeValue) (lane : ℕ) (seen : List Entry) (head : Head) (words : List ℕ) : Type 0 where
  pub measures : MeasuresIn shape lane
  pub words_are : words ≡ groups_words (groups shape lane (rows_in seen))
  pub tail : head.tail ≡ length seen
  pub kind : head.kind ≡ 4
  pub count : head.count ≡ length words

-- What telling the groups of a lane answers, in what the span has seen. It keeps their words; refused, those that it had.
abbrev pub TellsSpanGroups : ℕ → SpanValue → SpanValue → Result Head LaneRefusal → Type 0
TellsSpanGroups lane m n (Ok head) = HaveWalked m n n.words × AreGroupsIn m.shape lane (seen_by m) head n.words
TellsSpanGroups lane m n (Err lanes.NoLane) = (n ≡ m) × (MeasuresIn m.shape lane → ⊥)
TellsSpanGroups lane m n (Err lanes.Memory) = HaveWalked m n m.words

-- The text is that of the report of what the span has seen, end to end; or there was no memory. The tails are not asked, and the span keeps
-- its words.
abbrev pub ReportsSpan : SpanValue → SpanValue → Result (Vec ℕ Global) AllocError → Type 0
ReportsSpan m n (Ok text) = HaveWalked m n m.words × (text.items ≡ seen_text m.shape m.setup (seen_by m))
ReportsSpan m n (Err e) = HaveWalked m n m.words

-- What reading the row at an offset answers, counted from the first record of the first log.
abbrev pub ReadsSpanRow : ℕ → SpanValue → SpanValue → Result RowValue RowRefusal → Type 0
ReadsSpanRow offset m n (Ok row) = HaveWalked m n m.words × (offset < length (seen_by m)) × (row ≡ row_at (rows_in (seen_by m)) offset)
    × Fits m.shape.schema row
ReadsSpanRow offset m n (Err rows.NoRow) = (n ≡ m) × (length (seen_by m) ≤ offset)
ReadsSpanRow offset m n (Err rows.Memory) = HaveWalked m n m.words

-- What adding a reader answers: its log comes behind the others; or the reader comes back, since its log is of another setup or shape, since
-- the logs would take more than 2^20 records, or since there is no memory.
abbrev pub AddsReader : Reader → SpanValue → SpanValue → Result Unit (Reader × AddRefusal) → Type 0
AddsReader reader m n (Ok done) = IsLike m (arc_value reader.of) × (n ≡ record m { passes = m.passes ++ reader.pass ∷ [] })
AddsReader reader m n (Err (back, adds.Unlike)) = (n ≡ m) × (back ≡ reader) × (IsLike m (arc_value reader.of) → ⊥)
AddsReader reader m n (Err (back, adds.Full)) = (n ≡ m) × (back ≡ reader) × IsLike m (arc_value reader.of)
    × (2 ^ 20 < (length m.passes + 1) * m.shape.capacity)
AddsReader reader m n (Err (back, adds.Memory)) = (n ≡ m) × (back ≡ reader) × IsLike m (arc_value reader.of)
    × ((length m.passes + 1) * m.shape.capacity ≤ 2 ^ 20)

-- What showing the row at an offset answers. Refused, nothing is shown.
abbrev pub ShowsSpanRow : ℕ → SpanValue → SpanValue → List ShownValue → List ShownValue → Result Shown RowRefusal → Type 0
ShowsSpanRow offset m n before after (Ok shown) =
    (row : RowValue) × ReadsSpanRow offset m n (Ok row) × (shown.number ≡ row.num) × ShowsRow row before after shown.count
ShowsSpanRow offset m n before after (Err refusal) = ReadsSpanRow offset m n (Err refusal) × (after ≡ before)

-- The first log was let go, and all else is as it was; or it is the only one, and stays.
abbrev pub DropsFirst : SpanValue → SpanValue → Bool → Type 0
DropsFirst m n true = (2 ≤ length m.passes) × (n ≡ record m { passes = drop 1 m.passes })
DropsFirst m n false = (length m.passes ≡ 1) × (n ≡ m)
