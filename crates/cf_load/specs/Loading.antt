-- What a log holds while it is loaded batch by batch, and what a reader beside the writers has answered.
use Rattle.std.specs.Prelude.{◌≡◌, ◌⊎◌, ◌<◌, ◌≤◌, ◌+◌, ◌%◌, ℕ, List, ◌++◌, length, map, take, slice_index_or}
use Rattle.std.specs.List.{flat_map, range_with_len, AllByRecursion}
use Rattle.cf_row.specs.Row.{RowValue}
use Rattle.cf_row.specs.declared.row.Entry.{Entry}
use Rattle.cf_plain.specs.History.{NeverFall}
use Rattle.cf_plain.specs.Order.{rows_of, written_by}
use Rattle.cf_plain.specs.Tails.{AreTails}
use Rattle.cf_shape.specs.Lanes.{ShapeValue}
use Rattle.cf_shape.specs.Nodes.{distinct}
use Rattle.cf_plain.specs.Asks.{eval}
use Rattle.cf_plain.specs.declared.ask.Ask.{Ask}
use Rattle.cf_plain.specs.declared.loaded.Live.{Live}
use Rattle.cf_plain.specs.Answered.{no_ask, turn_of}
use Rattle.cf_load.specs.declared.plan.LivePlan.{LivePlan}
use Rattle.cf_load.specs.declared.loads.LoadFault.{LoadFault}
use Rattle.cf_load.specs.declared.loads.LoadFault.TheVariants.{Full, NodesFull, Memory}
use Rattle.cf_segments.specs.Loaded.{HasLoaded}
use Rattle.cf_segments.specs.Needed.{HasRunOut}
use Rattle.cf_table.specs.Values.{PassValue, LogValue, IsOf}
use Rattle.cf_table.specs.Moves.{Begins, HoldsAllBooks}

-- Behind so many rows come so many more that all are of one batch, if there are several writers: in the order of a log all of them end
-- a batch before any begins the next one. One writer has but one order.
abbrev pub StayInBatch : ShapeValue → ℕ → ℕ → Type 0
StayInBatch shape count more = 1 < shape.writers → count % 4096 + more ≤ 4096

-- The rows, of which the first is row number `first`, need more different nodes than a writer has, and that writer's own are used
-- up, while the next of its rows wants one more. The root holds all books at rest, and each writer's entries are the first of its
-- rows.
pub record IsShort (log : LogValue) (first : ℕ) (rows : List RowValue) (writer : ℕ) (after : PassValue) : Type 0 where
  pub exists : writer < (log.shape).writers
  pub many : (log.shape).nodes < distinct log.shape rows
  pub out : HasRunOut log.shape first rows writer after.view
  pub of : IsOf after log
  pub settled : HoldsAllBooks log.shape after.view
  pub fronts : (w : ℕ) → w < (log.shape).writers → (left : List RowValue) × (written_by w (after.view).seen ++ left ≡ rows_of (log.shape).writers w first rows)

-- what the log holds after a fault in a batch: where memory is wanted, the rows before it alone or all rows of the batch too
abbrev pub HasStopped : LogValue → ℕ → List RowValue → List RowValue → PassValue → LoadFault → Type 0
HasStopped log first before rows n Full = ⊥
HasStopped log first before rows n (NodesFull writer) = IsShort log first (before ++ rows) writer n
HasStopped log first before rows n Memory = HasLoaded log first before n ⊎ HasLoaded log first (before ++ rows) n

-- What the reader did beside a batch: a live answer for each round and each live question, in this order, each the question's
-- meaning on as many entries as it saw. The lengths never fall.
pub record AsksBatch (shape : ShapeValue) (asks : List Ask) (lives : List ℕ) (rounds batch : ℕ) (before after : List Entry) (more : List Live) : Type 0 where
  pub turns : map (λ (live : Live). (turn_of live).0) more ≡ flat_map (λ round. map (λ ask. record { batch = batch; round = round; ask = ask }) lives)
      (range_with_len 0 rounds)
  pub rise : NeverFall (map (λ (live : Live). live.answer.tail) more)
  pub within : AllByRecursion (λ live. (length before ≤ live.answer.tail) × (live.answer.tail ≤ length after)) more
  pub bodies : AllByRecursion (λ live. live.answer.body ≡ eval shape (slice_index_or asks live.ask no_ask) (take live.answer.tail after)) more
  -- before begins after
  pub longer : Begins before after

-- What the reader did so far beside a batch: live answers in all turns of some rounds, and in the first turns of the next round, as
-- many as were asked in it.
pub record AsksSome (shape : ShapeValue) (asks : List Ask) (lives : List ℕ) (rounds asked batch : ℕ) (before after : List Entry)
    (more : List Live) : Type 0 where
  pub turns : map (λ (live : Live). (turn_of live).0) more ≡
      flat_map (λ round. map (λ ask. record { batch = batch; round = round; ask = ask }) lives) (range_with_len 0 rounds) ++ map
      (λ ask. record { batch = batch; round = rounds; ask = ask }) (take asked lives)
  pub rise : NeverFall (map (λ (live : Live). live.answer.tail) more)
  pub within : AllByRecursion (λ live. (length before ≤ live.answer.tail) × (live.answer.tail ≤ length after)) more
  pub bodies : AllByRecursion (λ live. live.answer.body ≡ eval shape (slice_index_or asks live.ask no_ask) (take live.answer.tail after)) more
  pub longer : Begins before after

-- the live answers so far are those of the first n entries: each in its turn, and each the question's meaning on what it saw
pub record HasAnswered (shape : ShapeValue) (asks : List Ask) (lives : List ℕ) (rounds n : ℕ) (seen : List Entry) (answers : List Live) : Type 0 where
  pub tails : AreTails n rounds lives (map turn_of answers)
  pub bodies : AllByRecursion (λ live. live.answer.body ≡ eval shape (slice_index_or asks live.ask no_ask) (take live.answer.tail seen)) answers

-- The reader asked beside a batch. What it had seen then begins what was seen after it.
pub record AsksBeside (shape : ShapeValue) (plan : LivePlan) (batch : ℕ) (before after : List Entry) (more : List Live) : Type 0 where
  pub read : List Entry
  pub asks : AsksBatch shape plan.asks.items plan.lives.items plan.rounds batch before read more
  pub begins : Begins read after
