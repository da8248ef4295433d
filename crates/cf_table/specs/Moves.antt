-- How passes are dealt, gathered, forked and joined, and what a log is closed with.
use Rattle.std.specs.Prelude.{ℕ, ◌+◌, ◌<◌, ◌≤◌, ◌≡◌, ◌⊎◌, List, [], ◌∷◌, ◌++◌, true, false, length, map, take, Some, slice_get}
use Rattle.cf_row.specs.declared.row.Entry.{Entry}
use Rattle.cf_row.specs.Words.{IsEntry, spelled}
use Rattle.cf_shape.specs.Lanes.{ShapeValue}
use Rattle.cf_shape.specs.Places.{place_of}
use Rattle.cf_shape.specs.Places.WordName.{done}
use Rattle.cf_law.specs.Words.{spot}
use Rattle.cf_law.specs.Passes.{Own, Book, Pass}
use Rattle.cf_law.specs.Steps.{Holds, IsAtRest, joined_pass, new_pass}
use Rattle.cf_law.specs.Shapes.{layout}
use Rattle.cf_law.specs.Readers.{AtHome, HasNode, IsBounded, IsFit, mine_from}
use Rattle.cf_table.specs.declared.pass.Note.{Note}
use Rattle.cf_table.specs.Values.{PassValue, LogValue, IsOf}
use Rattle.cf_table.specs.Effects.{HasStepped, tail_effect}

-- the second list begins with the first
abbrev pub Begins : List Entry → List Entry → Type 0
Begins xs ys = take (length xs) ys ≡ xs

-- The other pass was joined, and then the read tail was loaded: what both had seen is seen.
pub record HasFolded (shape : ShapeValue) (before : PassValue) (q : Pass) (after : PassValue) : Type 0 where
  pub found : ℕ
  pub made : HasStepped shape (tail_effect (joined_pass before.view q) false) (record before { view = joined_pass before.view q }) found after
  pub own : Begins (before.view).seen (after.view).seen
  pub other : Begins q.seen (after.view).seen
  pub books : (after.view).books ≡ (before.view).books ++ q.books
  pub tails : (after.view).tails ≡ (before.view).tails
  pub told : (after.view).told ≡ ((before.view).told ++ q.told) ++ q.tails

-- what a root notes of a book
abbrev pub note_of : Book → Note
note_of b = record { writer = b.writer; over = b.over; used = length b.used }

-- the notes are those of the books, and within what a pass counts
pub record AreNoted (notes : List Note) (books : List Book) (nodes : ℕ) : Type 0 where
  pub notes_are : notes ≡ map note_of books
  pub few : nodes ≤ 65536
  pub bounds : (k : ℕ) (b : Book) → slice_get books k ≡ Some b → (b.writer < 16) × (length b.used ≤ nodes)

-- each writer's entries of all that was seen are what it finished
abbrev pub HasAll : Pass → Type 0
HasAll p = (k : ℕ) (b : Book) → Holds p k b → b.mine ≡ mine_from b.writer 0 p.seen

-- of the tickets that a held book has finished, those that were seen are the first, and nothing else was seen of its writer
abbrev pub SeenFirst : Pass → Type 0
SeenFirst p = (k : ℕ) (b : Book) → Holds p k b → take (length (mine_from b.writer 0 p.seen)) b.mine ≡ mine_from b.writer 0 p.seen

-- all books are held, one for each writer and at rest, and all that they have finished was seen
pub record HoldsAllBooks (shape : ShapeValue) (pass : Pass) : Type 0 where
  pub home : AtHome (layout shape) pass
  pub rest : IsAtRest pass
  pub count : length pass.books ≡ shape.writers
  pub all : HasAll pass

-- pass k of the dealt ones has the k-th book, and has seen as much
pub record IsDealt (log : LogValue) (before : PassValue) (k : ℕ) (pass : PassValue) : Type 0 where
  pub book : Book
  pub at : slice_get (before.view).books k ≡ Some book
  pub of : IsOf pass log
  pub view : pass.view ≡ new_pass (book ∷ []) (before.view).seen

-- the books left the pass, each for a pass of its own
pub record AreDealt (log : LogValue) (before : PassValue) (passes : List PassValue) (after : PassValue) : Type 0 where
  pub count : length passes ≡ length (before.view).books
  pub each : (k : ℕ) (h : PassValue) → slice_get passes k ≡ Some h → IsDealt log before k h
  pub root : after ≡ record before { view = record before.view { books = [] } }

-- Each writer's pass is one of these, and all are at rest.
pub record AreAll (log : LogValue) (passes : List PassValue) : Type 0 where
  pub of : (k : ℕ) (h : PassValue) → slice_get passes k ≡ Some h → IsOf h log
  pub rest : (k : ℕ) (h : PassValue) → slice_get passes k ≡ Some h → IsAtRest h.view
  pub count : length passes ≡ (log.shape).writers
  pub writers : (w : ℕ) → w < (log.shape).writers → (k : ℕ) × (h : PassValue) × (j : ℕ) × (b : Book) × (slice_get passes k ≡ Some h) × Holds h.view j b
      × (b.writer ≡ w)

-- the books of all the passes, in the order of the passes
unfoldable pub books_of : List PassValue → List Book
books_of [] = []
books_of (h ∷ hs) = (h.view).books ++ books_of hs

-- what a root is told by passes that come home in this order
unfoldable pub told_by : List ℕ → List PassValue → List ℕ
told_by told [] = told
told_by told (h ∷ hs) = told_by ((told ++ (h.view).told) ++ (h.view).tails) hs

-- how many tickets the books have finished
unfoldable pub tickets_in : List Book → ℕ
tickets_in [] = 0
tickets_in (b ∷ bs) = length b.mine + tickets_in bs

-- each entry that was seen fits, and its writer is one
abbrev pub AreFit : ShapeValue → Pass → Type 0
AreFit shape p = (o : ℕ) (e : Entry) → slice_get p.seen o ≡ Some e → IsFit (layout shape) e

-- the pass is one of the log's, and what it has seen are entries that the log may have
pub record IsReading (log : LogValue) (pass : PassValue) : Type 0 where
  pub of : IsOf pass log
  pub few : length (pass.view).seen ≤ (log.shape).capacity
  pub fit : AreFit log.shape pass.view

-- a book is marked only where all places are taken
abbrev pub MarkedIsFull : ShapeValue → Pass → Type 0
MarkedIsFull shape p = (k : ℕ) (b : Book) → Holds p k b → b.over ≡ true → length p.seen ≡ shape.capacity

-- each proper prefix of the path of an entry that was seen has a used node of a held book
abbrev pub HasPaths : ShapeValue → Pass → Type 0
HasPaths shape p = (o l d e : ℕ) (xs q : List ℕ) (x : Entry) → slice_get p.seen o ≡ Some x → (layout shape).path x.row l ≡ Some (d ∷ (xs ++ e ∷ q))
    → HasNode p (spot l (e ∷ q))

-- the last look, which was made since p, found the record at b unfinished
pub record IsUnfinished (shape : ShapeValue) (b : ℕ) (p q : Pass) : Type 0 where
  pub word : (q.look).word ≡ place_of shape (done b)
  pub value : (q.look).value ≡ 0
  pub since : (p.look).count < (q.look).count
  -- it is none that the pass itself finished
  pub other : (k j : ℕ) (book : Book) (x : Own) → Holds q k book → slice_get book.mine j ≡ Some x → x.offset ≡ b → ⊥

-- all places are covered, or the one after the last covered was found unfinished
abbrev pub Stops : ShapeValue → Pass → Pass → Type 0
Stops shape p q = (shape.capacity ≤ length q.seen) ⊎ IsUnfinished shape (length q.seen) p q

-- The read tail was moved up to the first ticket that isn't finished.
pub record HasSettled (shape : ShapeValue) (before after : PassValue) : Type 0 where
  pub same : after ≡ record before { view = after.view }
  pub books : (after.view).books ≡ (before.view).books
  pub tails : (after.view).tails ≡ (before.view).tails
  pub told : (after.view).told ≡ (before.view).told
  pub longer : Begins (before.view).seen (after.view).seen
  pub all : AtHome (layout shape) after.view → HasAll after.view
  pub full : AtHome (layout shape) after.view → MarkedIsFull shape after.view
  pub paths : AtHome (layout shape) after.view → HasPaths shape after.view
  pub bounds : IsBounded (layout shape) after.view
  pub fit : AreFit shape after.view

-- The passes came home in this order. All books are held, at rest, and what was seen are all tickets of all of them.
pub record HasGathered (shape : ShapeValue) (before : PassValue) (passes : List PassValue) (after : PassValue) : Type 0 where
  pub same : after ≡ record before { view = after.view }
  pub books : (after.view).books ≡ books_of passes
  pub tails : (after.view).tails ≡ (before.view).tails
  pub told : (after.view).told ≡ told_by (before.view).told passes
  pub own : Begins (before.view).seen (after.view).seen
  pub others : (k : ℕ) (h : PassValue) → slice_get passes k ≡ Some h → Begins (h.view).seen (after.view).seen
  pub settled : HoldsAllBooks shape after.view
  pub full : MarkedIsFull shape after.view
  pub paths : HasPaths shape after.view
  pub bounds : IsBounded (layout shape) after.view
  pub fit : AreFit shape after.view
  pub count : length (after.view).seen ≡ tickets_in (after.view).books

-- each of the passes, in this order, was folded in
unfoldable pub Gathers : ShapeValue → PassValue → List PassValue → PassValue → Type 0
Gathers shape m [] n = n ≡ m
Gathers shape m (h ∷ hs) n = (k : PassValue) × HasFolded shape m h.view k × Gathers shape k hs n

-- only the last look is another
abbrev pub OnlyLooked : PassValue → PassValue → Type 0
OnlyLooked m n = n ≡ record m { view = record m.view { look = (n.view).look } }

-- what a seal keeps: the entries of the log, and the tails of the asks that its root was told of
pub record SealValue : Type 0 where
  pub entries : List Entry
  pub told : List ℕ

-- the words are those of the entry at that offset, which is lawful
pub record AreWordsAt (shape : ShapeValue) (seen : List Entry) (offset : ℕ) (words : List ℕ) : Type 0 where
  pub entry : Entry
  pub at : slice_get seen offset ≡ Some entry
  pub lawful : IsEntry shape.schema entry
  pub spells : words ≡ spelled entry
