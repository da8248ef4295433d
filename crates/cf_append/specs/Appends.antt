-- What appending and settling do to a writer's pass.
use Rattle.std.specs.Prelude.{ℕ, ◌+◌, ◌-◌, ◌*◌, ◌≡◌, ◌<◌, ◌≤◌, ◌⊎◌, List, [], ◌∷◌, ◌++◌, true, false, length, Some, None, IfOk}
use Rattle.std.specs.declared.result.Result.{Result}
use Rattle.std.specs.declared.result.Result.TheVariants.{Ok, Err}
use Rattle.cf_row.specs.Row.{RowValue, Fits}
use Rattle.cf_row.specs.Words.{word_count}
use Rattle.cf_shape.specs.Lanes.{ShapeValue}
use Rattle.cf_law.specs.Words.{Spot}
use Rattle.cf_law.specs.Passes.{Book, Pass}
use Rattle.cf_law.specs.Steps.{Knows}
use Rattle.cf_law.specs.Readers.{IsBounded}
use Rattle.cf_law.specs.Shapes.{layout}
use Rattle.cf_table.specs.Values.{PassValue, LogValue, IsOf, book_of}
use Rattle.cf_table.specs.Effects.{HasStepped, take_effect}
use Rattle.cf_table.specs.Moves.{HasAll, HasPaths, SeenFirst, AreFit, Begins, IsUnfinished, MarkedIsFull, Stops}
use Rattle.cf_append.specs.Paths.{KeepsSeen, HasUsed, IsOnPath, LacksNode, HasLeaves, with_nodes}
use Rattle.cf_append.specs.Linking.{lane_steps}
use Rattle.cf_append.specs.declared.appends.AppendFault.{AppendFault}
use Rattle.cf_append.specs.declared.appends.AppendFault.TheVariants.{Full, NodesFull}
use Rattle.cf_append.specs.declared.settles.Settled.{Settled}
use Rattle.cf_append.specs.declared.settles.Settled.TheVariants.{Covered, Behind}

-- the pass is the same one, it has seen no less, no ask is noted, and it knows each node that it knew
pub record PassGoesOn (before after : PassValue) : Type 0 where
  pub same : after ≡ record before { view = after.view }
  pub longer : Begins (before.view).seen (after.view).seen
  pub tails : (after.view).tails ≡ (before.view).tails
  pub told : (after.view).told ≡ (before.view).told
  pub knows : (s : Spot) (node : ℕ) → Knows before.view s node → Knows after.view s node

-- the steps of an append at most: for the row's words and lanes, and two for each place by which the read tail is moved and for one more
abbrev pub append_steps : ShapeValue → Pass → Pass → ℕ
append_steps shape before after =
    word_count shape.schema + 3 + lane_steps shape (length shape.lanes) + 2 * (length after.seen - length before.seen + 1)

-- covered exactly where the offset is below the entries seen, and behind only a record found unfinished, not above the offset
abbrev pub IsSettledTo : ShapeValue → ℕ → Pass → Pass → Settled → Type 0
IsSettledTo shape offset p q Covered = offset < length q.seen
IsSettledTo shape offset p q (Behind b) = (length q.seen ≤ offset) × (b ≤ offset) × IsUnfinished shape b p q

-- a writer's pass at rest: its one book has no ticket in flight
pub record Rests (pass : Pass) : Type 0 where
  pub one : pass.books ≡ book_of pass ∷ []
  pub free : (book_of pass).flight ≡ None

-- the pass is one of the log's, with one book and no ticket in flight
pub record IsReady (log : LogValue) (pass : PassValue) : Type 0 where
  pub of : IsOf pass log
  pub rest : Rests pass.view

-- a writer may append the row by the pass: it is one of the log's, with one book and no ticket in flight, and the row fits
pub record MayAppend (log : LogValue) (row : RowValue) (pass : PassValue) : Type 0 where
  pub of : IsOf pass log
  pub fits : Fits log.shape.schema row
  pub rest : Rests pass.view

-- with that book alone
abbrev pub with_book : Book → PassValue → PassValue
with_book b m = record m { view = record m.view { books = b ∷ [] } }

-- with the row's ticket at offset o in flight, whose first n words are stored
abbrev pub flying : ℕ → RowValue → ℕ → PassValue → PassValue
flying o row n m = with_book (record (book_of m.view) { flight = Some record { offset = o; row = row; filled = n; linked = [] } }) m

-- the book with that record finished beside those before it
abbrev pub with_own : ℕ → RowValue → Book → Book
with_own o row b = record b { mine = b.mine ++ record { offset = o; row = row } ∷ []; flight = None }

-- the book marked: a ticket of it lay past the last place
abbrev pub with_mark : Book → Book
with_mark b = record b { over = true }

-- The paths of the row are whole: nodes were used on them alone, and the leaf in each lane that selects the row is known.
pub record HasMade (shape : ShapeValue) (row : RowValue) (before after : PassValue) : Type 0 where
  pub strides : KeepsSeen before after
  pub used : HasUsed (IsOnPath shape row) before after
  pub leaves : List ℕ
  pub whole : HasLeaves shape row after.view leaves (length shape.lanes)

-- The row was appended at offset o, by a ticket that was taken once its paths were whole, as the pass's only change beside
-- what it has seen and knows, and the nodes that it used.
pub record IsAppended (shape : ShapeValue) (o : ℕ) (row : RowValue) (m n : PassValue) : Type 0 where
  pub open_book : (book_of m.view).over ≡ false
  pub before : PassValue
  pub paths : HasMade shape row m before
  pub taken : PassValue
  pub took : HasStepped shape (take_effect shape before.view row) before o taken
  pub room : o < shape.capacity
  pub fresh : length (m.view).seen ≤ o
  pub books : (n.view).books ≡ with_own o row (with_nodes paths.used.spots paths.used.label (book_of m.view)) ∷ []
  pub covered : (o < length (n.view).seen) ⊎ ((b : ℕ) × (b < o) × IsUnfinished shape b m.view n.view)

-- the ticket that was taken, once the paths were whole, lay past the last place, and so the book was marked
pub record IsLate (shape : ShapeValue) (row : RowValue) (m n : PassValue) : Type 0 where
  pub open_book : (book_of m.view).over ≡ false
  pub before : PassValue
  pub paths : HasMade shape row m before
  pub found : ℕ
  pub past : shape.capacity ≤ found
  pub took : HasStepped shape (take_effect shape before.view row) before found n
  pub books : (n.view).books ≡ with_mark (with_nodes paths.used.spots paths.used.label (book_of m.view)) ∷ []

-- the book was marked before, and all is as it was
pub record IsOver (before after : PassValue) : Type 0 where
  pub over : (book_of before.view).over ≡ true
  pub is : after ≡ before

-- no ticket was taken: the row's paths want a node, and all of the writer's are used
pub record IsNodesFull (shape : ShapeValue) (row : RowValue) (before after : PassValue) : Type 0 where
  pub open_book : (book_of before.view).over ≡ false
  pub strides : KeepsSeen before after
  pub used : HasUsed (IsOnPath shape row) before after
  pub stuck : LacksNode shape (IsOnPath shape row) before after

-- Full exactly where the book was marked, or is now that the ticket taken lay past the last place; NodesFull only where no
-- node is left for one that the row's paths want.
abbrev pub HasAppendAnswer : ShapeValue → RowValue → PassValue → PassValue → Result ℕ AppendFault → Type 0
HasAppendAnswer shape row m n (Ok o) = IsAppended shape o row m n
HasAppendAnswer shape row m n (Err Full) = IsOver m n ⊎ IsLate shape row m n
HasAppendAnswer shape row m n (Err NodesFull) = IsNodesFull shape row m n

-- The row was appended by the pass, or why it was not, apart from the steps that it took.
pub record HasAppended (shape : ShapeValue) (row : RowValue) (m n : PassValue) (r : Result ℕ AppendFault) : Type 0 where
  pub goes_on : PassGoesOn m n
  pub rest : Rests n.view
  pub answer : HasAppendAnswer shape row m n r
  pub begins : (((book_of m.view).over ≡ false) ⊎ SeenFirst m.view) → SeenFirst n.view
  pub stops : IfOk r (λ _. Stops shape m.view n.view)
  pub alone : shape.writers ≡ 1 → IfOk r (λ _. HasAll n.view)

-- The read tail was moved over each finished record, up to the first that isn't.
pub record HasMovedTail (shape : ShapeValue) (m n : PassValue) : Type 0 where
  pub goes_on : PassGoesOn m n
  pub books : (n.view).books ≡ (m.view).books
  pub stops : Stops shape m.view n.view
  pub begins : SeenFirst n.view
  pub fit : AreFit shape n.view
  pub alone : shape.writers ≡ 1 → Rests n.view → HasAll n.view
  pub full : shape.writers ≡ 1 → Rests n.view → MarkedIsFull shape n.view
  pub paths : shape.writers ≡ 1 → Rests n.view → HasPaths shape n.view
  pub bounds : IsBounded (layout shape) n.view

-- It was, and that is the answer on the record at this offset.
pub record HasSettledTo (shape : ShapeValue) (offset : ℕ) (m n : PassValue) (r : Settled) : Type 0 where
  pub moved : HasMovedTail shape m n
  pub answer : IsSettledTo shape offset m.view n.view r

-- It was moved on, if need be, until the record at this offset was covered.
pub record HasWaited (shape : ShapeValue) (offset : ℕ) (m n : PassValue) : Type 0 where
  pub goes_on : PassGoesOn m n
  pub books : (n.view).books ≡ (m.view).books
  pub covered : offset < length (n.view).seen
  pub stops : (n ≡ m) ⊎ Stops shape m.view n.view
  pub begins : SeenFirst m.view → SeenFirst n.view
  pub alone : shape.writers ≡ 1 → Rests m.view → HasAll m.view → HasAll n.view
