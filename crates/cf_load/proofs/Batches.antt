-- The writers' passes come home after a batch: the log has the rows of the batch, each once.
use Rattle.std.proofs.Common.{◌≡◌, ℕ, zero, suc, ◌+◌, ◌*◌, ◌<◌, ◌≤◌, Bool, true, List, [], ◌∷◌, ◌++◌, length, get_or, take, drop, map, Some, slice_get, fold, refl, sym, ap, ap₂, subst, ◌∙◌, inl, inr, arith, length-append, append_assoc}
use Rattle.std.proofs.lemmas.Bool.{cases_Bool}
use Rattle.std.proofs.lemmas.List.{append-nil, append_cancel_left, take-append-drop}
use Rattle.std.proofs.lemmas.List.Concat.{flat_map-append}
use Rattle.std.proofs.lemmas.List.Sums.{fold-append}
use Rattle.std.proofs.lemmas.Option.{slice_get_within, slice_get-get_or}
use Rattle.std.specs.List.{All, AllZip, AllByRecursion, flat_map, list_any}
use Rattle.cf_row.proofs.Lists.{has_left, has_right}
use Rattle.cf_row.specs.Row.{RowValue}
use Rattle.cf_row.specs.declared.row.Entry.{Entry}
use Rattle.cf_plain.specs.Order.{rows_of, written_by}
use Rattle.cf_shape.specs.Lanes.{ShapeValue, IsShape}
use Rattle.cf_shape.specs.Nodes.{Node, nodes_for, nodes_of, same_node, add_node, distinct}
use Rattle.cf_law.specs.Words.{Spot}
use Rattle.cf_law.specs.Passes.{Own, Book, Pass}
use Rattle.cf_law.specs.Steps.{Holds, IsAtRest}
use Rattle.cf_table.specs.Values.{PassValue, LogValue, IsOf, book_of}
use Rattle.cf_table.specs.Moves.{Begins, AreDealt, AreAll, HasGathered, books_of, told_by}
use Rattle.cf_table.proofs.Homing.{still_one, book_in}
use Rattle.cf_append.specs.Appends.{Rests, IsReady}
use Rattle.cf_segments.specs.Needed.{IsNeeded, IsOut, HasNodes, HasRunOut}
use Rattle.cf_load.specs.Writing.{rows_of_book, RanOut, RunsOut, HasWritten}
use Rattle.cf_segments.specs.Loaded.{IsLogFrom, HasLoaded}
use Rattle.cf_load.specs.Loading.{IsShort, StayInBatch}
use Rattle.cf_segments.proofs.Alls.{all_drop}
use Rattle.cf_segments.proofs.Parts.{rows_append}
use Rattle.cf_load.proofs.Written.{WrotePart, all_written, log_more}
use Rattle.cf_segments.proofs.Pigeons.{in_either}
use Rattle.cf_segments.proofs.Nodes.{too_many}
use Rattle.cf_segments.proofs.Zips.{zip_at, zip_back, zip_long}
use Rattle.cf_segments.proofs.Loaded.{settled_still}
use Rattle.cf_plain.proofs.Orders.{written_append}
use Rattle.cf_query.proofs.Written.{mine_rows, fit_exist}

-- the one book of a pass at rest
pub only_book : (p : Pass) → Rests p → (j : ℕ) (b : Book) → Holds p j b → b ≡ book_of p
only_book p rests j b at = one j (ap (λ (bs : List Book). slice_get bs j) (sym rests.one) ∙ at)
  where
    one : (i : ℕ) → slice_get (book_of p ∷ []) i ≡ Some b → b ≡ book_of p
    one zero e = (let f : book_of p ≡ b = cc e in sym f)
    one (suc i) e = absurd (cc e)

-- a pass at rest holds its book
pub first_book : (p : Pass) → Rests p → Holds p 0 (book_of p)
first_book p rests = ap (λ (bs : List Book). slice_get bs 0) rests.one

-- a pass that was dealt is ready to write
pub ready_one : (log : LogValue) (first : ℕ) (rows : List RowValue) (m r : PassValue) (passes : List PassValue) → HasLoaded log first rows m
    → AreDealt log m passes r → (k : ℕ) (h : PassValue) → slice_get passes k ≡ Some h → IsReady log h
ready_one log first rows m r passes has dealt k h at =
    let d = dealt.each k h at in
    let book : book_of h.view ≡ d.book = ap (λ (p : Pass). book_of p) d.view in record {
      of = d.of;
      rest = record {
        one = ap (λ (p : Pass). p.books) d.view ∙ ap (λ (b : Book). b ∷ []) (sym book);
        free = ap (λ (b : Book). b.flight) book ∙ has.settled.rest k d.book d.at;
      };
    }

-- all passes that were dealt are ready to write
pub ready_passes : (log : LogValue) (first : ℕ) (rows : List RowValue) (m r : PassValue) (passes : List PassValue) → HasLoaded log first rows m
    → AreDealt log m passes r → All (IsReady log) passes
ready_passes log first rows m r passes has dealt k d lt = ready_one log first rows m r passes has dealt k (get_or passes k d) (slice_get-get_or passes k d lt)

-- passes that wrote may come home
pub homeward : (whole : Bool) (log : LogValue) (first : ℕ) (batch : List RowValue) (passes after : List PassValue) → All (IsReady log) passes
    → AreAll log passes → AllZip (HasWritten whole log first batch) passes after → AreAll log after
homeward whole log first batch passes after ready all wrote = record {
  of = λ k a at. of k a at;
  rest = λ k a at j b holds. rest k a at j b holds;
  count = sym (zip_long (HasWritten whole log first batch) passes after wrote) ∙ all.count;
  writers = λ w lt. writers w lt;
}
  where
    of : (k : ℕ) (a : PassValue) → slice_get after k ≡ Some a → IsOf a log
    of k a at =
        let z = zip_back (HasWritten whole log first batch) passes after k a wrote at in
        still_one log z.0 a (all.of k z.0 z.1) (z.2).same

    rest : (k : ℕ) (a : PassValue) → slice_get after k ≡ Some a → IsAtRest a.view
    rest k a at j b holds =
        let z = zip_back (HasWritten whole log first batch) passes after k a wrote at in
        ap (λ (c : Book). c.flight) (only_book a.view (z.2).rest j b holds) ∙ (z.2).rest.free

    writers : (w : ℕ) → w < (log.shape).writers → (k : ℕ) × (h : PassValue) × (j : ℕ) × (b : Book) × (slice_get after k ≡ Some h) × Holds h.view j b
        × (b.writer ≡ w)
    writers w lt =
        let r = all.writers w lt in
        let k : ℕ = r.0 in
        let h : PassValue = r.1 in
        let within : k < length passes = slice_get_within passes k h r.4 in
        let same : get_or passes k h ≡ h = (let f : Some (get_or passes k h) ≡ Some h = sym (slice_get-get_or passes k h within) ∙ r.4 in cc f) in
        let rests : Rests h.view = subst (λ (x : PassValue). Rests x.view) same (ready k h within).rest in
        let z = zip_at (HasWritten whole log first batch) passes after k h wrote r.4 in
        let mine : (book_of h.view).writer ≡ w = ap (λ (c : Book). c.writer) (sym (only_book h.view rests r.2 r.3 r.5)) ∙ r.6 in
        (k, z.0, 0, book_of (z.0).view, z.1, first_book (z.0).view (z.2).rest, (z.2).writer ∙ mine)

-- passes that were told nothing tell nothing
pub quiet : (whole : Bool) (log : LogValue) (first : ℕ) (batch : List RowValue) (hs gs : List PassValue) (ts : List ℕ)
    → AllZip (HasWritten whole log first batch) hs gs → ((k : ℕ) (h : PassValue) → slice_get hs k ≡ Some h → ((h.view).tails ≡ []) × ((h.view).told ≡ []))
    → told_by ts gs ≡ ts
unfolding told_by
quiet whole log first batch [] [] ts all each = refl
quiet whole log first batch [] (a ∷ gs) ts all each = absurd all
quiet whole log first batch (h ∷ hs) [] ts all each = absurd all
quiet whole log first batch (h ∷ hs) (a ∷ gs) ts all each =
    let e = each 0 h refl in
    let tails : (a.view).tails ≡ [] = (all.0).tails ∙ e.0 in
    let news : (a.view).told ≡ [] = (all.0).told ∙ e.1 in
    let none : (ts ++ (a.view).told) ++ (a.view).tails ≡ ts = rw (tails, news) (append-nil (ts ++ []) ∙ append-nil ts) in
    ap (λ (us : List ℕ). told_by us gs) none ∙ quiet whole log first batch hs gs ts all.1 (λ k x at. each (suc k) x at)

-- passes that were dealt and then wrote tell a root nothing
pub told_home : (whole : Bool) (log : LogValue) (first : ℕ) (batch : List RowValue) (m r : PassValue) (passes after : List PassValue)
    → AreDealt log m passes r → AllZip (HasWritten whole log first batch) passes after → (told : List ℕ) → told_by told after ≡ told
told_home whole log first batch m r passes after dealt wrote told =
    quiet whole log first batch passes after told wrote
    (λ k h at. (let d = dealt.each k h at in (ap (λ (p : Pass). p.tails) d.view, ap (λ (p : Pass). p.told) d.view)))

-- rows that are needed are so among more
pub needed_left : (shape : ShapeValue) (rows more : List RowValue) (s : Spot) → IsNeeded shape rows s → IsNeeded shape (rows ++ more) s
needed_left shape rows more s n = record { place = n.place; row = n.row; at = has_left rows more n.place n.row n.at; on = n.on }

pub needed_right : (shape : ShapeValue) (rows more : List RowValue) (s : Spot) → IsNeeded shape more s → IsNeeded shape (rows ++ more) s
needed_right shape rows more s n = (let h = has_right rows more n.row (n.place, n.at) in record { place = h.0; row = n.row; at = h.1; on = n.on })

-- a writer that ran out while some rows need one more node did so while more rows do
pub run_out_more : (shape : ShapeValue) (first : ℕ) (rows more : List RowValue) (w : ℕ) (p : Pass) → HasRunOut shape first rows w p
    → HasRunOut shape first (rows ++ more) w p
run_out_more shape first rows more w p r = record {
  place = r.place;
  book = r.book;
  held = r.held;
  writer_is = r.writer_is;
  out = record { full = r.out.full; apart = r.out.apart; at = r.out.at; needed = needed_left shape rows more r.out.at r.out.needed; other = r.out.other };
  next = r.next;
  left = r.left ++ rows_of shape.writers w (first + length rows) more;
  split = sym (append_assoc (written_by w p.seen) (r.next ∷ r.left) (rows_of shape.writers w (first + length rows) more))
      ∙ (ap (λ (rs : List RowValue). rs ++ rows_of shape.writers w (first + length rows) more) r.split ∙ sym (rows_append shape.writers w first rows more));
  wants = r.wants;
}

-- each of the books of passes at rest is a pass's one book
pub book_from : (after : List PassValue) → ((i : ℕ) (a : PassValue) → slice_get after i ≡ Some a → Rests a.view) → (k : ℕ) (b : Book)
    → slice_get (books_of after) k ≡ Some b → (i : ℕ) × (a : PassValue) × (slice_get after i ≡ Some a) × (b ≡ book_of a.view)
unfolding books_of
book_from [] rest k b at = absurd (cc at)
book_from (x ∷ xs) rest k b at = elim (in_either (x.view).books (books_of xs) k b at) [
  | inl here ↦ (0, x, refl, only_book x.view (rest 0 x refl) here.0 b here.1)
  | inr there ↦ (let r = book_from xs (λ i a h. rest (suc i) a h) there.0 b there.1 in (suc r.0, r.1, r.2, r.3))
]

-- The passes that wrote came home.
module _ (whole : Bool) (log : LogValue) (first : ℕ) (rows batch : List RowValue) (m r n : PassValue) (passes after : List PassValue)
    (has : HasLoaded log first rows m) (dealt : AreDealt log m passes r) (wrote : AllZip (HasWritten whole log (first + length rows) batch) passes after)
    (g : HasGathered log.shape r after n) where
  -- what was seen before, what came, and how many writers there are
  abbrev pub seen : List Entry
  seen = (m.view).seen

  abbrev pub new : List Entry
  new = drop (length (m.view).seen) (n.view).seen

  abbrev pub W : ℕ
  W = (log.shape).writers

  -- what was seen goes on
  pub goes_on : (n.view).seen ≡ seen ++ new
  goes_on =
      let kept : (r.view).seen ≡ seen = ap (λ (h : PassValue). (h.view).seen) dealt.root in
      let begins : take (length seen) (n.view).seen ≡ seen = subst (λ (es : List Entry). Begins es (n.view).seen) kept g.own in
      sym (take-append-drop (length seen) (n.view).seen) ∙ ap (λ (es : List Entry). es ++ new) begins

  -- each new entry is of a writer
  pub new_exist : AllByRecursion (λ e. e.writer < W) new
  new_exist = all_drop (λ e. e.writer < W) (length seen) (n.view).seen (fit_exist W (n.view).seen (λ o e at. (g.fit o e at).1))

  -- what a pass wrote whose writer had this book
  pub wrote_part : (w k : ℕ) (h a : PassValue) (b : Book) → Holds m.view k b → b.writer ≡ w → slice_get passes k ≡ Some h → slice_get after k ≡ Some a
      → HasWritten whole log (first + length rows) batch h a → length rows + length batch ≤ (log.shape).capacity
      → WrotePart whole W (first + length rows) batch new w
  wrote_part w k h a b held own at there wr room = record {
    left = wr.left;
    split = ap (λ rs. rs ++ wr.left) wrote_done ∙ (wr.split ∙ ap (λ v. rows_of W v (first + length rows) batch) writer);
    all = λ is. elim (wr.all is) [
      | inl none ↦ inl none
      | inr marked ↦ inr (omega (arith, full marked, ap length goes_on, length-append seen new, has.is.size, room))
    ];
  }
    where
      d : Rattle.cf_table.specs.Moves.IsDealt log m k h
      d = dealt.each k h at

      same : book_of h.view ≡ b
      same = (let f : Some d.book ≡ Some b = sym d.at ∙ held in let e : d.book ≡ b = cc f in ap (λ (p : Pass). book_of p) d.view ∙ e)

      writer : (book_of h.view).writer ≡ w
      writer = ap (λ (c : Book). c.writer) same ∙ own

      place : (i : ℕ) × (slice_get (books_of after) i ≡ Some (book_of a.view))
      place = book_in after k a (book_of a.view) there (first_book a.view wr.rest)

      holds : Holds n.view place.0 (book_of a.view)
      holds = ap (λ (bs : List Book). slice_get bs place.0) g.books ∙ place.1

      full : (book_of a.view).over ≡ true → length (n.view).seen ≡ (log.shape).capacity
      full marked = g.full place.0 (book_of a.view) holds marked

      before : rows_of_book (book_of h.view) ≡ written_by w seen
      before = ap rows_of_book same ∙ (ap (map (λ (o : Own). o.row)) (has.settled.all k b held) ∙ (mine_rows b.writer 0 seen ∙ ap (λ v. written_by v seen) own))

      now : rows_of_book (book_of a.view) ≡ written_by w seen ++ written_by w new
      now = ap (map (λ (o : Own). o.row)) (g.settled.all place.0 (book_of a.view) holds)
          ∙ (mine_rows (book_of a.view).writer 0 (n.view).seen
          ∙ (ap (λ v. written_by v (n.view).seen) (wr.writer ∙ writer) ∙ (ap (written_by w) goes_on ∙ written_append w seen new)))

      wrote_done : written_by w new ≡ wr.done
      wrote_done = append_cancel_left (written_by w seen) _ _ (sym now ∙ (wr.rows ∙ ap (λ rs. rs ++ wr.done) before))

  -- what each writer wrote
  pub part_of : length rows + length batch ≤ (log.shape).capacity → (w : ℕ) → w < W → WrotePart whole W (first + length rows) batch new w
  part_of room w lt =
      let home = has.settled.home w lt in
      let k : ℕ = home.0 in
      let b : Book = home.1 in
      let low : k < length passes = omega (arith, slice_get_within (m.view).books k b home.2, dealt.count) in
      let h : PassValue = get_or passes k m in
      let at : slice_get passes k ≡ Some h = slice_get-get_or passes k m low in
      let z = zip_at (HasWritten whole log (first + length rows) batch) passes after k h wrote at in
      wrote_part w k h z.0 b home.2 home.3 at z.1 z.2 room

  -- the root is still the log's
  pub home_again : IsOf n log
  home_again =
      let root : IsOf r log =
      still_one log m r has.of (dealt.root ∙ ap (λ (p : Pass). record m { view = p }) (ap (λ (h : PassValue). h.view) (sym dealt.root))) in
      still_one log r n root g.same

  -- a book that came home is that of a pass
  pub book_home : (k : ℕ) (b : Book) → Holds n.view k b → (i : ℕ) × (a : PassValue) × (slice_get after i ≡ Some a) × (b ≡ book_of a.view)
  book_home k b held =
      let there : slice_get (books_of after) k ≡ Some b = ap (λ (bs : List Book). slice_get bs k) (sym g.books) ∙ held in
      book_from after (λ i a at. ((zip_back (HasWritten whole log (first + length rows) batch) passes after i a wrote at).2).rest) k b there

  -- what its used nodes are for
  pub used_by : (i : ℕ) (a : PassValue) (j : ℕ) (s : Spot) → slice_get after i ≡ Some a → slice_get (book_of a.view).used j ≡ Some s
      → IsNeeded log.shape (rows ++ batch) s
  used_by i a j s at used =
      let z = zip_back (HasWritten whole log (first + length rows) batch) passes after i a wrote at in
      let d = dealt.each i z.0 z.1 in
      let same : book_of (z.0).view ≡ d.book = ap (λ (p : Pass). book_of p) d.view in
      elim ((z.2).used j s used) [
        | inl old ↦ needed_left log.shape rows batch s (has.nodes.needed i old.0 d.book s d.at (ap (λ (c : Book). slice_get c.used old.0) (sym same) ∙ old.1))
        | inr new ↦ needed_right log.shape rows batch s new
      ]

  -- the nodes at home
  pub nodes_home : HasNodes log.shape (rows ++ batch) n.view
  nodes_home = record {
    needed = λ k j b s held used. (let h = book_home k b held in used_by h.0 h.1 j s h.2 (ap (λ (c : Book). slice_get c.used j) (sym h.3) ∙ used));
    room = λ k b held. g.bounds.room k b held;
    paths = g.paths;
  }

-- Passes were dealt, each wrote of its rows of the batch what it could, and all came home: where there is room for all rows, all
-- are in the log.
pub batch_loaded : (log : LogValue) (first : ℕ) (rows batch : List RowValue) (m r n : PassValue) (passes after : List PassValue) → IsShape log.shape
    → HasLoaded log first rows m → StayInBatch log.shape (length rows) (length batch) → length rows + length batch ≤ (log.shape).capacity → AreDealt log m passes r
    → AllZip (HasWritten true log (first + length rows) batch) passes after → HasGathered log.shape r after n → HasLoaded log first (rows ++ batch) n
batch_loaded log first rows batch m r n passes after shape has few room dealt wrote g =
    let W = (log.shape).writers in
    let some : 0 < W = shape.writers.0 in
    let more : List Entry = drop (length (m.view).seen) (n.view).seen in
    let exist = new_exist true log first rows batch m r n passes after has dealt wrote g in
    let own : (w : ℕ) → w < W → written_by w more ≡ rows_of W w (first + length rows) batch =
    all_written W (first + length rows) batch more some exist (part_of true log first rows batch m r n passes after has dealt wrote g room) in
    let is : IsLogFrom first (rows ++ batch) W ((m.view).seen ++ more) =
    log_more first rows batch W (m.view).seen more some has.is has.own few exist own in
    record {
      of = home_again true log first rows batch m r n passes after has dealt wrote g;
      settled = g.settled;
      is = subst (IsLogFrom first (rows ++ batch) W) (sym (goes_on true log first rows batch m r n passes after has dealt wrote g)) is;
      own = λ w lt. ap (written_by w) (goes_on true log first rows batch m r n passes after has dealt wrote g)
          ∙ (written_append w (m.view).seen more ∙ (ap₂ (λ (a c : List RowValue). a ++ c) (has.own w lt) (own w lt) ∙ sym (rows_append W w first rows batch)));
      nodes = nodes_home true log first rows batch m r n passes after has dealt wrote g;
    }

-- a root whose books were dealt is the log's, holds none, and has seen as much
pub root_away : (log : LogValue) (m r : PassValue) (passes : List PassValue) → IsOf m log → AreDealt log m passes r → IsOf r log × ((r.view).books ≡ [])
    × ((r.view).seen ≡ (m.view).seen)
root_away log m r passes of dealt = (
  record { table = ap (λ (h : PassValue). h.table) dealt.root ∙ of.table; nodes = ap (λ (h : PassValue). h.nodes) dealt.root ∙ of.nodes },
  ap (λ (h : PassValue). (h.view).books) dealt.root,
  ap (λ (h : PassValue). (h.view).seen) dealt.root,
)

-- a root is told nothing by passes that wrote
pub told_same : (whole : Bool) (log : LogValue) (first : ℕ) (batch : List RowValue) (m r n : PassValue) (passes after : List PassValue)
    → AreDealt log m passes r → AllZip (HasWritten whole log first batch) passes after → HasGathered log.shape r after n → (n.view).told ≡ (m.view).told
told_same whole log first batch m r n passes after dealt wrote g = g.told
    ∙ (told_home whole log first batch m r passes after dealt wrote (r.view).told ∙ ap (λ (h : PassValue). (h.view).told) dealt.root)

-- A writer ran out of nodes in that batch: the rows before it and its own need more different ones than it has, and each writer's
-- entries are the first of its rows.
pub batch_out : (whole : Bool) (log : LogValue) (first : ℕ) (rows batch : List RowValue) (w : ℕ) (m r n : PassValue) (passes after : List PassValue)
    → IsShape log.shape → HasLoaded log first rows m → length rows + length batch ≤ (log.shape).capacity
    → AreDealt log m passes r → AllZip (HasWritten whole log (first + length rows) batch) passes after → RanOut log (first + length rows) batch w passes after
    → HasGathered log.shape r after n → IsShort log first (rows ++ batch) w n
batch_out whole log first rows batch w m r n passes after shape has room dealt wrote out g = record {
  exists = exists;
  many = too_many log.shape (rows ++ batch) mine shape
      (λ j s used. used_by whole log first rows batch m r n passes after has dealt wrote g out.place out.pass j s out.at used) all_used;
  out = record {
    place = book.0;
    book = mine;
    held = held;
    writer_is = runs.writer_is;
    out = all_used;
    next = runs.next;
    left = runs.left;
    split = split;
    wants = runs.wants;
  };
  of = home_again whole log first rows batch m r n passes after has dealt wrote g;
  settled = g.settled;
  fronts = fronts;
}
  where
    W : ℕ
    W = (log.shape).writers

    runs : RunsOut log (first + length rows) batch w out.old out.pass
    runs = out.runs

    mine : Book
    mine = book_of out.pass.view

    book : (i : ℕ) × (slice_get (books_of after) i ≡ Some mine)
    book = book_in after out.place out.pass mine out.at
        (first_book out.pass.view ((zip_back (HasWritten whole log (first + length rows) batch) passes after out.place out.pass wrote out.at).2).rest)

    held : Holds n.view book.0 mine
    held = ap (λ (bs : List Book). slice_get bs book.0) g.books ∙ book.1

    exists : w < W
    exists = subst (λ (v : ℕ). v < W) runs.writer_is (g.bounds.writer book.0 mine held)

    all_used : IsOut log.shape (rows ++ batch) mine
    all_used = record {
      full = runs.out.full;
      apart = runs.out.apart;
      at = runs.out.at;
      needed = needed_right log.shape rows batch runs.out.at runs.out.needed;
      other = runs.out.other;
    }

    -- what the writer had written before, and what it has written now
    before : rows_of_book (book_of out.old.view) ≡ rows_of W w first rows
    before =
        let d = dealt.each out.from out.old out.was_at in
        let same : book_of out.old.view ≡ d.book = ap (λ (p : Pass). book_of p) d.view in
        let own : (d.book).writer ≡ w = ap (λ (b : Book). b.writer) (sym same) ∙ runs.was in
        ap rows_of_book same
        ∙ (ap (map (λ (o : Own). o.row)) (has.settled.all out.from d.book d.at)
        ∙ (mine_rows (d.book).writer 0 (m.view).seen ∙ (ap (λ v. written_by v (m.view).seen) own ∙ has.own w exists)))

    now : rows_of_book mine ≡ written_by w (n.view).seen
    now = ap (map (λ (o : Own). o.row)) (g.settled.all book.0 mine held)
        ∙ (mine_rows mine.writer 0 (n.view).seen ∙ ap (λ v. written_by v (n.view).seen) runs.writer_is)

    split : written_by w (n.view).seen ++ runs.next ∷ runs.left ≡ rows_of W w first (rows ++ batch)
    split =
        ap (λ (rs : List RowValue). rs ++ runs.next ∷ runs.left) (sym now ∙ (runs.rows ∙ ap (λ (rs : List RowValue). rs ++ runs.done) before))
        ∙ (append_assoc (rows_of W w first rows) runs.done (runs.next ∷ runs.left)
        ∙ (ap (λ (rs : List RowValue). rows_of W w first rows ++ rs) runs.split ∙ sym (rows_append W w first rows batch)))

    fronts : (v : ℕ) → v < W → (left : List RowValue) × (written_by v (n.view).seen ++ left ≡ rows_of W v first (rows ++ batch))
    fronts v lt =
        let p = part_of whole log first rows batch m r n passes after has dealt wrote g room v lt in
        let new : List Entry = drop (length (m.view).seen) (n.view).seen in
        let written : written_by v (n.view).seen ≡ rows_of W v first rows ++ written_by v new =
        ap (written_by v) (goes_on whole log first rows batch m r n passes after has dealt wrote g)
        ∙ (written_append v (m.view).seen new ∙ ap (λ (rs : List RowValue). rs ++ written_by v new) (has.own v lt)) in (
          p.left,
          ap (λ (rs : List RowValue). rs ++ p.left) written
              ∙ (append_assoc (rows_of W v first rows) (written_by v new) p.left
              ∙ (ap (λ (rs : List RowValue). rows_of W v first rows ++ rs) p.split ∙ sym (rows_append W v first rows batch))),
        )

-- a node more makes them no fewer
no_fewer : (shape : ShapeValue) (nodes more : List Node) → length nodes ≤ length (fold add_node nodes more)
no_fewer shape nodes [] = omega arith
no_fewer shape nodes (x ∷ xs) = (let r = no_fewer shape (add_node nodes x) xs in let s = added nodes x in omega (arith, r, s))
  where
    added : (ns : List Node) (n : Node) → length ns ≤ length (add_node ns n)
    added ns n = elim (cases_Bool (list_any (same_node n) ns)) [
      | inl there ↦ rw there (omega arith)
      | inr new ↦ rw new (omega arith)
    ]

-- more rows need no fewer nodes
pub distinct_more : (shape : ShapeValue) (rows more : List RowValue) → distinct shape rows ≤ distinct shape (rows ++ more)
distinct_more shape rows more =
    let parts : nodes_of shape (rows ++ more) ≡ fold add_node (nodes_of shape rows) (flat_map (nodes_for shape) more) =
    ap (fold add_node []) (flat_map-append (nodes_for shape) rows more)
    ∙ fold-append add_node [] (flat_map (nodes_for shape) rows) (flat_map (nodes_for shape) more) in
    rw parts (no_fewer shape (nodes_of shape rows) (flat_map (nodes_for shape) more))

-- the reader came home too
pub short_kept : (log : LogValue) (first : ℕ) (rows : List RowValue) (w : ℕ) (n o : PassValue) → IsShort log first rows w n → IsOf o log
    → (o.view).books ≡ (n.view).books → (o.view).seen ≡ (n.view).seen → IsShort log first rows w o
short_kept log first rows w n o lacks of books seen_is = record {
  exists = lacks.exists;
  many = lacks.many;
  out = record {
    place = lacks.out.place;
    book = lacks.out.book;
    held = ap (λ (bs : List Book). slice_get bs lacks.out.place) books ∙ lacks.out.held;
    writer_is = lacks.out.writer_is;
    out = lacks.out.out;
    next = lacks.out.next;
    left = lacks.out.left;
    split =
        ap (λ (es : List Entry). written_by w es ++ lacks.out.next ∷ lacks.out.left) seen_is ∙ lacks.out.split;
    wants = lacks.out.wants;
  };
  of = of;
  settled = settled_still log.shape n o lacks.settled books seen_is;
  fronts = λ v lt. (let f = lacks.fronts v lt in (f.0, ap (λ (es : List Entry). written_by v es ++ f.0) seen_is ∙ f.1));
}
