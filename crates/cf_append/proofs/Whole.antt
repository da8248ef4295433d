-- The steps of an append, put together.
use Rattle.std.proofs.Common.{◌≡◌, ℕ, ◌+◌, ◌*◌, ◌<◌, ◌≤◌, zero, suc, inl, inr, List, [], ◌∷◌, length, Bool, true, false, cond, Option, slice_get, take, refl, ap, sym, ◌∙◌, arith}
use Rattle.std.proofs.Math.Seq.{take-length}
use Rattle.std.specs.Bool.{nat_lt}
use Rattle.std.proofs.lemmas.Bool.{cases_lt}
use Rattle.std.proofs.lemmas.Bool.Decides.{nat_tests}
use Rattle.cf_row.proofs.Lists.{get_push_same}
use Rattle.cf_row.specs.Row.{RowValue}
use Rattle.cf_row.specs.Words.{word_count}
use Rattle.cf_row.specs.declared.row.Entry.{Entry}
use Rattle.cf_shape.specs.Lanes.{ShapeValue, IsShape}
use Rattle.cf_shape.specs.Nodes.{levels_of}
use Rattle.cf_shape.specs.Uses.{cell_count}
use Rattle.cf_law.specs.Passes.{Book, Own, Pass}
use Rattle.cf_law.specs.Steps.{Holds}
use Rattle.cf_table.specs.Values.{PassValue, book_of}
use Rattle.cf_table.specs.Effects.{HasStepped, HasSteppedUnseen, take_effect, finish_effect}
use Rattle.cf_table.proofs.Mays.{the_book}
use Rattle.cf_table.specs.Moves.{SeenFirst, Stops}
use Rattle.cf_append.specs.Appends.{PassGoesOn, HasMade, IsAppended, IsLate, with_own, flying, with_mark}
use Rattle.cf_append.specs.Paths.{KeepsSeen, HasFilings, with_nodes, path_steps}
use Rattle.cf_append.specs.declared.paths.Filing.{Filing}
use Rattle.cf_append.specs.Linking.{HasFilled, HasLinked, IsBookOf, lane_steps}
use Rattle.cf_append.proofs.Appending.{began}
use Rattle.cf_append.proofs.Settling.{stops_since}
use Rattle.cf_shape.proofs.KeyLevels.{levels_two}
use Rattle.cf_append.proofs.Walking.{strides_by, strides_then}
use Rattle.cf_append.proofs.Pathing.{filings_still, path_steps_none, path_steps_more}
use Rattle.cf_append.proofs.Cells.{filled_self, filled_then, linked_begin, linked_self, linked_then, closed_books, close_strides}

pub goes_by : (m n : PassValue) → KeepsSeen m n → PassGoesOn m n
goes_by m n went = record {
  same = went.same;
  longer = ap (λ (es : List Entry). take (length (m.view).seen) es) went.seen ∙ take-length (m.view).seen;
  tails = went.tails;
  told = went.told;
  knows = went.knows;
}

flown_strides : (m n : PassValue) (o k : ℕ) (row : RowValue) → n ≡ flying o row k m → KeepsSeen m n
flown_strides m n o k row is =
    let view = ap (λ (h : PassValue). h.view) is in
    strides_by m n (flying o row k m).view (is ∙ ap (λ (q : Pass). record m { view = q }) (sym view)) view refl refl refl (λ s node h. h) (omega arith)

-- the ticket was taken and the row's words are stored
pub record HasBegun (shape : ShapeValue) (row : RowValue) (p t f : PassValue) (o : ℕ) : Type 0 where
  pub room : o < shape.capacity
  pub took : HasStepped shape (take_effect shape p.view row) p o t
  pub is : f ≡ flying o row (word_count shape.schema + 1) t

pub begun_strides : (shape : ShapeValue) (row : RowValue) (p t f : PassValue) (o : ℕ) → HasBegun shape row p t f o → KeepsSeen p f
begun_strides shape row p t f o B =
    strides_then p t f (flown_strides p t o 0 row (began shape p t o row B.room B.took)) (flown_strides t f o (word_count shape.schema + 1) row B.is)

pub begun_filled : (shape : ShapeValue) (row : RowValue) (p t f : PassValue) (o : ℕ) → HasBegun shape row p t f o
    → HasFilled shape o row (word_count shape.schema + 1) p f
begun_filled shape row p t f o B =
    let k = word_count shape.schema + 1 in
    let all : f ≡ flying o row k p = B.is ∙ ap (λ (h : PassValue). flying o row k h) (began shape p t o row B.room B.took) in record {
      filled = k;
      books = ap (λ (h : PassValue). (h.view).books) all;
      from = omega arith;
      passed = λ i ge lt. absurd (omega (arith, ge, lt));
    }

pub begun_self : (shape : ShapeValue) (row : RowValue) (p t f : PassValue) (o : ℕ) → HasBegun shape row p t f o
    → HasFilled shape o row (word_count shape.schema + 1) f f
begun_self shape row p t f o B = filled_self shape o row (word_count shape.schema + 1) p f (begun_filled shape row p t f o B)

pub begun_writer : (shape : ShapeValue) (row : RowValue) (p t f : PassValue) (o : ℕ) → HasBegun shape row p t f o → (book_of f.view).writer < shape.writers
begun_writer shape row p t f o B =
    let is = began shape p t o row B.room B.took in
    let held : Holds t.view 0 (book_of (flying o row 0 p).view) = ap (λ (h : PassValue). slice_get (h.view).books 0) is in
    let low = B.took.told.bounds.writer 0 (book_of (flying o row 0 p).view) held in
    let one = ap (λ (h : PassValue). (book_of h.view).writer) is in
    let two = ap (λ (h : PassValue). (book_of h.view).writer) B.is in
    omega (arith, low, one, two)

pub begun_book : (shape : ShapeValue) (row : RowValue) (p t f : PassValue) (o : ℕ) → HasBegun shape row p t f o → IsBookOf shape (book_of f.view)
begun_book shape row p t f o B =
    let is = began shape p t o row B.room B.took in
    let b = book_of (flying o row 0 p).view in
    let held : Holds t.view 0 b = ap (λ (h : PassValue). slice_get (h.view).books 0) is in
    let bounds = B.took.told.bounds in
    let same : book_of f.view ≡ record b { flight = (book_of f.view).flight } =
    ap (λ (h : PassValue). book_of h.view) (B.is ∙ ap (λ (h : PassValue). flying o row (word_count shape.schema + 1) h) is)
    ∙ sym (ap (λ (h : PassValue). record b { flight = (book_of h.view).flight })
    (B.is ∙ ap (λ (h : PassValue). flying o row (word_count shape.schema + 1) h) is)) in
    let mine = ap (λ (c : Book). c.mine) same in
    let writer = ap (λ (c : Book). c.writer) same in
    let low = bounds.writer 0 b held in
    let few = bounds.few 0 b held in
    let long = ap (λ (xs : List Own). length xs) mine in record {
      writer = omega (arith, low, writer);
      rows = λ j x at.
          (let there = ap (λ (xs : List Own). slice_get xs j) (sym mine) ∙ at in (bounds.rows 0 j b x held there, bounds.offset 0 j b x held there));
      few = omega (arith, few, long);
    }

pub begun_filings : (shape : ShapeValue) (row : RowValue) (p t f : PassValue) (o : ℕ) (filed : List (Option Filing)) (k : ℕ) → HasBegun shape row p t f o
    → HasFilings shape row p.view filed k → HasFilings shape row f.view filed k
begun_filings shape row p t f o filed k B has = filings_still shape row p f filed k (begun_strides shape row p t f o B) has

-- the cells are stored
pub record HasCells (shape : ShapeValue) (row : RowValue) (p t f c : PassValue) (o : ℕ) : Type 0 where
  pub begun : HasBegun shape row p t f o
  pub strides : KeepsSeen f c
  pub filled : HasFilled shape o row (word_count shape.schema + 1 + cell_count shape.lanes) f c

pub cells_linked : (shape : ShapeValue) (row : RowValue) (p t f c : PassValue) (o : ℕ) → HasCells shape row p t f c o → HasLinked shape o row 0 p c
cells_linked shape row p t f c o C =
    linked_begin shape o row p c
    (filled_then shape o row (word_count shape.schema + 1) (word_count shape.schema + 1 + cell_count shape.lanes) p f c
    (begun_filled shape row p t f o C.begun) C.filled)

pub cells_self : (shape : ShapeValue) (row : RowValue) (p t f c : PassValue) (o : ℕ) → HasCells shape row p t f c o → HasLinked shape o row 0 c c
cells_self shape row p t f c o C = linked_self shape o row 0 p c (cells_linked shape row p t f c o C)

pub cells_writer : (shape : ShapeValue) (row : RowValue) (p t f c : PassValue) (o : ℕ) → HasCells shape row p t f c o → (book_of c.view).writer < shape.writers
cells_writer shape row p t f c o C =
    let low = begun_writer shape row p t f o C.begun in
    let same = Rattle.cf_append.proofs.Cells.filled_writer shape o row (word_count shape.schema + 1 + cell_count shape.lanes) f c C.filled in
    omega (arith, low, same)

-- all was linked, and the record is finished
pub record HasEnded (shape : ShapeValue) (row : RowValue) (p t f c l d : PassValue) (o : ℕ) : Type 0 where
  pub cells : HasCells shape row p t f c o
  pub strides : KeepsSeen c l
  pub linked : HasLinked shape o row (length shape.lanes) c l
  pub finishes : HasSteppedUnseen shape (finish_effect shape l.view o) l d

pub all_linked : (shape : ShapeValue) (row : RowValue) (p t f c l : PassValue) (o : ℕ) → HasCells shape row p t f c o
    → HasLinked shape o row (length shape.lanes) c l → HasLinked shape o row (length shape.lanes) p l
all_linked shape row p t f c l o C L = linked_then shape o row 0 (length shape.lanes) p c l (cells_linked shape row p t f c o C) L

pub ended_books : (shape : ShapeValue) (row : RowValue) (p t f c l d : PassValue) (o : ℕ) → HasEnded shape row p t f c l d o
    → (d.view).books ≡ with_own o row (book_of p.view) ∷ []
ended_books shape row p t f c l d o E = closed_books shape p l d o (length shape.lanes) row (all_linked shape row p t f c l o E.cells E.linked) E.finishes

pub ended_strides : (shape : ShapeValue) (row : RowValue) (p t f c l d : PassValue) (o : ℕ) → HasEnded shape row p t f c l d o → KeepsSeen p d
ended_strides shape row p t f c l d o E =
    strides_then p f d (begun_strides shape row p t f o E.cells.begun)
    (strides_then f c d E.cells.strides (strides_then c l d E.strides (close_strides shape l d o E.finishes)))

-- the book with its paths made
made_book : (shape : ShapeValue) (row : RowValue) (m p : PassValue) (P : HasMade shape row m p)
    → book_of p.view ≡ with_nodes P.used.spots P.used.label (book_of m.view)
made_book shape row m p P = the_book p.view (with_nodes P.used.spots P.used.label (book_of m.view)) P.used.books

-- All the steps of an append.
pub appended : (shape : ShapeValue) (row : RowValue) (m p t f c l d z : PassValue) (o : ℕ) → (book_of m.view).over ≡ false → HasMade shape row m p
    → HasEnded shape row p t f c l d o → (z.view).books ≡ (d.view).books → Stops shape d.view z.view → IsAppended shape o row m z
appended shape row m p t f c l d z o fresh P E kept stops =
    let own : Own = record { offset = o; row = row } in
    let b : Book = with_own o row (with_nodes P.used.spots P.used.label (book_of m.view)) in
    let books : (z.view).books ≡ b ∷ [] = kept
    ∙ (ended_books shape row p t f c l d o E ∙ ap (λ (x : Book). with_own o row x ∷ []) (made_book shape row m p P)) in
    let took = E.cells.begun.took in
    let room = E.cells.begun.room in
    let count = (strides_then m p d P.strides (ended_strides shape row p t f c l d o E)).looks in
    let ahead = took.told.tells.ahead 0 (omega arith) refl in
    let seen = ap (λ (es : List Entry). length es) P.strides.seen in record {
      open_book = fresh;
      before = p;
      paths = P;
      taken = t;
      took = took;
      room = room;
      fresh = omega (arith, ahead, seen);
      books = books;
      covered = elim stops [
        | inl all ↦ inl (omega (arith, all, room))
        | inr u ↦ elim (cases_lt o (length (z.view).seen)) [
          | inl lt ↦ inl lt
          | inr ge ↦
              let other : o ≡ length (z.view).seen → ⊥ =
              u.other 0 (length (book_of m.view).mine) b own (ap (λ (bs : List Book). slice_get bs 0) books) (get_push_same (book_of m.view).mine own) in
              let since = u.since in
              inr (
                length (z.view).seen,
                omega (arith, ge, other),
                record { word = u.word; value = u.value; since = omega (arith, since, count); other = u.other },
              )
        ]
      ];
    }

-- The read tail stops where the last step left it.
pub appended_stops : (shape : ShapeValue) (row : RowValue) (m p t f c l d z : PassValue) (o : ℕ) → HasMade shape row m p → HasEnded shape row p t f c l d o
    → Stops shape d.view z.view → Stops shape m.view z.view
appended_stops shape row m p t f c l d z o P E stops =
    stops_since shape m.view d.view z.view (strides_then m p d P.strides (ended_strides shape row p t f c l d o E)).looks stops

-- The ticket lay past the last place.
late_books : (shape : ShapeValue) (p n : PassValue) (found : ℕ) (row : RowValue) → shape.capacity ≤ found
    → HasStepped shape (take_effect shape p.view row) p found n → (n.view).books ≡ with_mark (book_of p.view) ∷ []
late_books shape p n found row past made =
    let high : nat_lt found shape.capacity ≡ false = grind (arith, nat_tests) in
    let b = book_of p.view in
    ap (λ (q : Pass). q.books) made.told.is
    ∙ ap (λ (t : Bool). cond t (Rattle.cf_law.specs.Steps.book_with_flight b (Rattle.cf_law.specs.Steps.fresh_flight found row))
    (record b { over = true }) ∷ []) high

pub late : (shape : ShapeValue) (row : RowValue) (m p n : PassValue) (found : ℕ) → (book_of m.view).over ≡ false → HasMade shape row m p
    → shape.capacity ≤ found → HasStepped shape (take_effect shape p.view row) p found n → IsLate shape row m n
late shape row m p n found fresh P past made = record {
  open_book = fresh;
  before = p;
  paths = P;
  found = found;
  past = past;
  took = made;
  books = late_books shape p n found row past made ∙ ap (λ (b : Book). with_mark b ∷ []) (made_book shape row m p P);
}

pub late_strides : (shape : ShapeValue) (p n : PassValue) (found : ℕ) (row : RowValue) → HasStepped shape (take_effect shape p.view row) p found n
    → KeepsSeen p n
late_strides shape p n found row made =
    strides_by p n ((take_effect shape p.view row).after found []) made.same made.told.is refl refl refl (λ s k h. h) (omega arith)

pub took_first : (shape : ShapeValue) (p n : PassValue) (found : ℕ) (row : RowValue) → HasStepped shape (take_effect shape p.view row) p found n
    → SeenFirst n.view
took_first shape p n found row made k b held = made.told.mine k b held

-- More places are covered than when the append ended.
pub waited : (shape : ShapeValue) (row : RowValue) (m z w : PassValue) (o : ℕ) → IsAppended shape o row m z → (w.view).books ≡ (z.view).books
    → o < length (w.view).seen → IsAppended shape o row m w
waited shape row m z w o all kept far =
    record {
      open_book = all.open_book;
      before = all.before;
      paths = all.paths;
      taken = all.taken;
      took = all.took;
      room = all.room;
      fresh = all.fresh;
      books = kept ∙ all.books;
      covered = inl far;
    }

-- The steps.
lane_steps_none : (shape : ShapeValue) → lane_steps shape 0 ≡ 0
unfolding lane_steps
lane_steps_none shape = refl

lane_steps_more : (shape : ShapeValue) (k : ℕ) → lane_steps shape (suc k) ≡ lane_steps shape k + (3 * levels_of shape k + 5)
unfolding lane_steps
lane_steps_more shape k = refl

pub all_steps : (shape : ShapeValue) (n : ℕ) → IsShape shape → n ≤ length shape.lanes → path_steps shape n + 8 * n ≤ lane_steps shape n
all_steps shape zero is le = omega (arith, path_steps_none shape, lane_steps_none shape)
all_steps shape (suc n) is le =
    let before = all_steps shape n is (omega (arith, le)) in
    let many = levels_two shape n is (omega (arith, le)) in
    omega (arith, before, many, path_steps_more shape n, lane_steps_more shape n)

pub path_within : (shape : ShapeValue) (n : ℕ) → path_steps shape n ≤ lane_steps shape n
path_within shape zero = omega (arith, path_steps_none shape, lane_steps_none shape)
path_within shape (suc n) = (let before = path_within shape n in omega (arith, before, path_steps_more shape n, lane_steps_more shape n))
