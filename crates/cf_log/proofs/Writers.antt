-- A log's writers: their passes are dealt, append rows, and come home.
use Rattle.std.proofs.Common.{◌≡◌, ◌∙◌, ◌+◌, ◌<◌, ◌≤◌, ◌++◌, ◌==◌, get_or, ℕ, zero, suc, List, [], ◌∷◌, length, map, take, drop, Some, slice_get, Ok, Err, inl, inr, refl, ap, sym, arith, append-nil, append_assoc}
use Rattle.std.proofs.lemmas.List.{map-append, take-append-drop}
use Rattle.std.proofs.lemmas.Option.{slice_get_within}
use Rattle.cf_row.specs.Row.{RowValue}
use Rattle.cf_shape.specs.Lanes.{ShapeValue}
use Rattle.cf_plain.specs.Order.{written_by}
use Rattle.cf_law.specs.Passes.{Own, Book, Pass}
use Rattle.cf_law.specs.Steps.{Holds}
use Rattle.cf_law.specs.Events.{tabulated, no_book}
use Rattle.cf_law.proofs.Fronts.{table_length, table_at}
use Rattle.cf_table.specs.Values.{PassValue, LogValue, IsOf, book_of}
use Rattle.cf_table.specs.Rule.{root_pass}
use Rattle.cf_table.specs.Moves.{AreDealt, AreAll, HasGathered}
use Rattle.cf_append.specs.Appends.{PassGoesOn, Rests, HasAppendAnswer, HasAppended}
use Rattle.cf_append.specs.declared.appends.AppendFault.{AppendFault}
use Rattle.cf_append.specs.declared.appends.AppendFault.TheVariants.{Full, NodesFull}
use Rattle.cf_append.proofs.Appending.{rests_by, rests_all}
use Rattle.cf_append.proofs.Answering.{same_writer}
use Rattle.cf_append.proofs.Settling.{goes_none, goes_then}
use Rattle.cf_log.specs.Writers.{rows_by, IsWriter, AreWriters, IsOpened, AppendsRows, HasJoined}
use Rattle.cf_log.specs.declared.passes.Opened.{Opened}
use Rattle.cf_log.proofs.Chained.{took_more}
use Rattle.cf_table.proofs.Homing.{book_in, some_at, still_one}
use Rattle.cf_query.proofs.Written.{mine_rows, fit_exist}

-- the rows of a book's tickets
abbrev pub rows_in_book : Book → List RowValue
rows_in_book b = map (λ own. own.row) b.mine

-- All books are dealt.
dealt_book : (log : LogValue) (m n : PassValue) (hs : List PassValue) (k : ℕ) (h : PassValue) → m.view ≡ root_pass log.shape → AreDealt log m hs n
    → slice_get hs k ≡ Some h → (h.view).books ≡ no_book k ∷ []
dealt_book log m n hs k h is dealt at =
    let d = dealt.each k h at in
    let w = (log.shape).writers in
    let there : slice_get (tabulated no_book w) k ≡ Some d.book = ap (λ (p : Pass). slice_get p.books k) (sym is) ∙ d.at in
    let lt : k < w = omega (arith, slice_get_within (tabulated no_book w) k d.book there, table_length no_book w) in
    let e : no_book k ≡ d.book = (let f : Some (no_book k) ≡ Some d.book = sym (table_at no_book w k lt) ∙ there in cc f) in
    ap (λ (p : Pass). p.books) d.view ∙ ap (λ (b : Book). b ∷ []) (sym e)

dealt_writer : (log : LogValue) (m n : PassValue) (hs : List PassValue) (k : ℕ) (h : PassValue) → m.view ≡ root_pass log.shape → AreDealt log m hs n
    → slice_get hs k ≡ Some h → IsWriter log k h
dealt_writer log m n hs k h is dealt at =
    let one = dealt_book log m n hs k h is dealt at in
    record {
      of = (dealt.each k h at).of;
      rest = rests_by h.view (no_book k) one refl;
      writer_is = ap (λ (bs : List Book). (get_or bs 0 (no_book 0)).writer) one;
    }

pub opened : (shape : ShapeValue) (o : Opened) (m : PassValue) → o.log.shape ≡ shape
    → m ≡ record { table = o.log.table; id = 0; nodes = (o.log.shape).nodes; view = root_pass o.log.shape } → AreDealt o.log m o.writers.items o.root
    → IsOpened shape o
opened shape o m shape_is is dealt =
    let view : m.view ≡ root_pass o.log.shape = ap (λ (h : PassValue). h.view) is in
    record {
      shape_is = shape_is;
      of = record {
        table = ap (λ (h : PassValue). h.table) dealt.root ∙ ap (λ (h : PassValue). h.table) is;
        nodes = ap (λ (h : PassValue). h.nodes) dealt.root ∙ ap (λ (h : PassValue). h.nodes) is;
      };
      away = ap (λ (h : PassValue). (h.view).books) dealt.root;
      nothing = ap (λ (h : PassValue). (h.view).seen) dealt.root ∙ ap (λ (p : Pass). p.seen) view;
      writers = record {
        count = dealt.count ∙ (ap (λ (p : Pass). length p.books) view ∙ table_length no_book (o.log.shape).writers);
        each = λ k h at. dealt_writer o.log m o.root o.writers.items k h view dealt at;
      };
      none = λ k h at. ap (λ (bs : List Book). rows_in_book (get_or bs 0 (no_book 0))) (dealt_book o.log m o.root o.writers.items k h view dealt at);
    }

-- Rows are appended.
book_first : (p : Pass) → Rests p → Holds p 0 (book_of p)
book_first p rests = ap (λ (bs : List Book). slice_get bs 0) rests.one

rows_more : (shape : ShapeValue) (row : RowValue) (m n : PassValue) (o : ℕ) → HasAppendAnswer shape row m n (Ok o) → rows_by n ≡ rows_by m ++ row ∷ []
rows_more shape row m n o done =
    let ticket : Own = record { offset = o; row = row } in
    ap (λ (bs : List Book). rows_in_book (get_or bs 0 (no_book 0))) done.books ∙ map-append (λ (own : Own). own.row) (book_of m.view).mine (ticket ∷ [])

rows_same : (shape : ShapeValue) (row : RowValue) (m n : PassValue) (f : AppendFault) → HasAppendAnswer shape row m n (Err f) → rows_by n ≡ rows_by m
rows_same shape row m n Full (inl over) = ap rows_by over.is
rows_same shape row m n Full (inr late) = ap (λ (bs : List Book). rows_in_book (get_or bs 0 (no_book 0))) late.books
rows_same shape row m n NodesFull done = ap (λ (bs : List Book). rows_in_book (get_or bs 0 (no_book 0))) done.used.books

-- the pass has appended the rows before row i
pub record Goes (log : LogValue) (rows : List RowValue) (m : PassValue) (i : ℕ) (n : PassValue) : Type 0 where
  pub of : IsOf n log
  pub goes_on : PassGoesOn m n
  pub rest : Rests n.view
  pub writer : (book_of n.view).writer ≡ (book_of m.view).writer
  pub rows_are : rows_by n ≡ rows_by m ++ take i rows

pub goes_first : (log : LogValue) (rows : List RowValue) (m : PassValue) → IsOf m log → Rests m.view → Goes log rows m 0 m
goes_first log rows m of rest =
    record { of = of; goes_on = goes_none m; rest = rest; writer = refl; rows_are = sym (append-nil (rows_by m)) }

pub goes_more : (log : LogValue) (rows : List RowValue) (m n p : PassValue) (i o : ℕ) (row : RowValue) → Goes log rows m i n → slice_get rows i ≡ Some row
    → HasAppended log.shape row n p (Ok o) → Goes log rows m (i + 1) p
goes_more log rows m n p i o row goes at done = record {
  of = still_one log n p goes.of (done.goes_on).same;
  goes_on = goes_then m n p goes.goes_on done.goes_on;
  rest = done.rest;
  writer = same_writer log.shape row n p (Ok o) done.answer ∙ goes.writer;
  rows_are = rows_more log.shape row n p o done.answer
      ∙ (ap (λ (rs : List RowValue). rs ++ row ∷ []) goes.rows_are
      ∙ (append_assoc (rows_by m) (take i rows) (row ∷ []) ∙ ap (λ (rs : List RowValue). rows_by m ++ rs) (sym (took_more rows i row at))));
}

next_left : (rows : List RowValue) (i : ℕ) (row : RowValue) → slice_get rows i ≡ Some row → drop i rows ≡ row ∷ drop (suc i) rows
next_left [] i row at = absurd (cc at)
next_left (r ∷ rows) zero row at = (let e : r ≡ row = cc at in ap (λ (x : RowValue). x ∷ rows) e)
next_left (r ∷ rows) (suc i) row at = next_left rows i row at

pub goes_refused : (log : LogValue) (rows : List RowValue) (m n p : PassValue) (i : ℕ) (f : AppendFault) (row : RowValue) → Goes log rows m i n
    → slice_get rows i ≡ Some row → HasAppended log.shape row n p (Err f) → AppendsRows log rows m p (Err f)
goes_refused log rows m n p i f row goes at done = record {
  goes_on = goes_then m n p goes.goes_on done.goes_on;
  rest = done.rest;
  writer = same_writer log.shape row n p (Err f) done.answer ∙ goes.writer;
  done = take i rows;
  left = drop i rows;
  split = take-append-drop i rows;
  rows_are = rows_same log.shape row n p f done.answer ∙ goes.rows_are;
  refused = (n, row, drop (suc i) rows, next_left rows i row at, done);
}

pub all_writers : (log : LogValue) (hs : List PassValue) → AreWriters log hs → AreAll log hs
all_writers log hs are = record {
  of = λ k h at. (are.each k h at).of;
  rest = λ k h at. rests_all h.view (are.each k h at).rest;
  count = are.count;
  writers = λ w lt.
      let there = some_at hs w (let count = are.count in omega (arith, lt, count)) in
      let is = are.each w there.0 there.1 in
      (w, there.0, 0, book_of (there.0).view, there.1, book_first (there.0).view is.rest, is.writer_is);
}

pub joined : (log : LogValue) (m n : PassValue) (hs : List PassValue) → IsOf m log → AreWriters log hs → HasGathered log.shape m hs n → HasJoined log m hs n
joined log m n hs of are gathered = record {
  gathered = gathered;
  of = still_one log m n of gathered.same;
  rows = λ k h at.
      let is = are.each k h at in
      let b = book_of h.view in
      let home = book_in hs k h b at (book_first h.view is.rest) in
      let mine = gathered.settled.all home.0 b (ap (λ (bs : List Book). slice_get bs home.0) gathered.books ∙ home.1) in
      sym (ap (map (λ (own : Own). own.row)) mine ∙ (mine_rows b.writer 0 (n.view).seen
      ∙ ap (λ (w : ℕ). written_by w (n.view).seen) is.writer_is));
  exist = fit_exist (log.shape).writers (n.view).seen (λ o e at. (gathered.fit o e at).1);
}
