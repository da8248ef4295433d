-- What is asked of passes and their books, and what becomes of them.
use Rattle.std.specs.Prelude.{ℕ, ◌+◌, ◌*◌, ◌%◌, ◌^◌, ◌<◌, ◌≡◌, ◌⊎◌, suc, [], ◌∷◌, cond, nat_lt, length, Some, None, slice_get, true, false}
use Rattle.cf_row.specs.Row.{RowValue}
use Rattle.cf_law.specs.Words.{Spot}
use Rattle.cf_law.specs.Passes.{Own, Flight, Book, Cursor, Pass}
use Rattle.cf_law.specs.Steps.{book_with_flight, fresh_flight, HoldsInFlight, Holds, Knows, IsOwn, IsNamed}

-- just one book, which isn't marked and has no ticket in flight
abbrev pub MayTake : Pass → Type 0
MayTake p = (b : Book) × (p.books ≡ b ∷ []) × (b.over ≡ false) × (b.flight ≡ None)

-- the book after the write tail was found at n: with a ticket in flight for the row, or marked where n is past the last place
abbrev pub ticketed_at : ℕ → RowValue → ℕ → Book → Book
ticketed_at capacity row n b = cond (nat_lt n capacity) (book_with_flight b (fresh_flight n row)) (record b { over = true })

-- no ticket of that offset is in flight
abbrev pub NoneFlies : Pass → ℕ → Type 0
NoneFlies p offset = (j : ℕ) (b : Book) (f : Flight) → HoldsInFlight p j b f → f.offset ≡ offset → ⊥

-- no held book is of that writer
abbrev pub NoneHeld : Pass → ℕ → Type 0
NoneHeld p w = (j : ℕ) (b : Book) → Holds p j b → b.writer ≡ w → ⊥

-- the walk's link names the cell of that ticket in the walk's own lane
abbrev pub NamesTicket : Cursor → ℕ → ℕ → Type 0
NamesTicket c offset lane = (c.link ≡ suc offset) × (c.spot.lane ≡ lane)

-- the walk went by that ticket, whose cell's first word was found
abbrev pub gone_on_of : Cursor → ℕ → ℕ → Cursor
gone_on_of c offset found = record { writer = c.writer; spot = c.spot; link = found % 2 ^ 32; gone = offset ∷ c.gone; met = (offset, c.writer) ∷ c.met }

-- no known node has that number
abbrev pub NoneKnown : Pass → ℕ → Type 0
NoneKnown p n = (s : Spot) → Knows p s n → ⊥

-- the book has finished the ticket at offset o
abbrev pub HasFinished : Book → ℕ → Type 0
HasFinished b o = (j : ℕ) × (x : Own) × (slice_get b.mine j ≡ Some x) × (x.offset ≡ o)

-- the ticket at offset o is the book's one in flight
abbrev pub HasOpen : Book → ℕ → Type 0
HasOpen b o = (f : Flight) × (b.flight ≡ Some f) × (f.offset ≡ o)

-- the ticket at offset o is the book's, finished or in flight
abbrev pub Owns : Book → ℕ → Type 0
Owns b o = HasFinished b o ⊎ HasOpen b o

-- the pass may load the cells of that ticket and lane
abbrev pub MayRead : Pass → ℕ → ℕ → Type 0
MayRead p o l = IsOwn p o ⊎ ((o < length p.seen) ⊎ IsNamed p o l)

-- the node is the book's least one that is not used; m is the number of nodes of each writer
abbrev pub IsFreeIn : ℕ → Book → ℕ → Type 0
IsFreeIn m b node = (length b.used < m) × (b.writer * m + length b.used ≡ node)

-- b is the pass's j-th book, and the node is its least one that is not used; m is the number of nodes of each writer
abbrev pub IsFree : ℕ → Pass → ℕ → ℕ → Book → Type 0
IsFree m p node j b = Holds p j b × IsFreeIn m b node

-- the node is the least unused one of no held book; m is the number of nodes of each writer
abbrev pub NoneFree : ℕ → Pass → ℕ → Type 0
NoneFree m p node = (j : ℕ) (b : Book) → IsFree m p node j b → ⊥
