-- How far a writer's pass is in its rows of a batch.
use Rattle.std.proofs.Common.{◌≡◌, ℕ, ◌+◌, ◌%◌, ◌<◌, ◌≤◌, Bool, true, false, Option, Some, None, IfSome, is_none, slice_get, slice_set, List, [], ◌∷◌, ◌++◌, length, get_or, drop, map, Ok, Err, refl, ap, sym, subst, ◌∙◌, ◌⊎◌, arith, inl, inr, eq-eqb, append_assoc, append-nil, drop-cons, add-one}
use Rattle.std.specs.declared.result.Result.{Result}
use Rattle.std.specs.Option.{option_or}
use Rattle.std.proofs.lemmas.Option.{slice_get-get_or}
use Rattle.std.specs.List.{AllZip}
use Rattle.std.proofs.lemmas.Bool.{ne_eqb}
use Rattle.std.proofs.lemmas.List.{map-append, drop_all}
use Rattle.std.proofs.Math.Seq.{take-length}
use Rattle.cf_row.proofs.Lists.{has_left, has_right}
use Rattle.cf_row.specs.Row.{RowValue}
use Rattle.cf_shape.specs.Lanes.{ShapeValue}
use Rattle.cf_law.specs.Passes.{Book, Own}
use Rattle.cf_law.specs.Events.{no_book}
use Rattle.cf_table.specs.Values.{PassValue, LogValue, IsOf, book_of}
use Rattle.cf_table.specs.Moves.{Begins}
use Rattle.cf_table.proofs.Settling.{begins_then}
use Rattle.cf_law.specs.Words.{Spot}
use Rattle.cf_append.specs.Paths.{IsOnPath, with_nodes}
use Rattle.cf_append.specs.Appends.{PassGoesOn, Rests, IsAppended, IsNodesFull, HasAppendAnswer, with_own, with_mark, IsReady}
use Rattle.cf_append.specs.declared.appends.AppendFault.{AppendFault}
use Rattle.cf_append.specs.declared.appends.AppendFault.TheVariants.{Full, NodesFull}
use Rattle.cf_plain.specs.Order.{rows_of}
use Rattle.cf_segments.specs.Needed.{IsNeeded}
use Rattle.cf_load.specs.Writing.{rows_of_book, RanOut, RunsOut, HasWritten}
use Rattle.cf_segments.proofs.Pigeons.{in_either}
use Rattle.cf_segments.proofs.Zips.{zip_append}

-- the writer's rows of the part of a batch from row i on, which is number k
abbrev pub left_of : LogValue → List RowValue → PassValue → ℕ → ℕ → List RowValue
left_of log batch m k i = rows_of (log.shape).writers (book_of m.view).writer k (drop i batch)

-- each used node was used before, or is needed by these rows
abbrev pub UsedFor : ShapeValue → List RowValue → PassValue → PassValue → Type 0
UsedFor shape rows m n = (j : ℕ) (s : Spot) → slice_get (book_of n.view).used j ≡ Some s → ((i : ℕ) × (slice_get (book_of m.view).used i ≡ Some s))
    ⊎ IsNeeded shape rows s

-- The pass has appended its rows of the batch before row i, which is number k.
pub record Goes (log : LogValue) (first : ℕ) (batch : List RowValue) (m : PassValue) (k i : ℕ) (n : PassValue) : Type 0 where
  pub same : n ≡ record m { view = n.view }
  pub ready : IsReady log n
  pub writer : (book_of n.view).writer ≡ (book_of m.view).writer
  pub number : k ≡ first + i
  pub done : List RowValue
  pub split : done ++ left_of log batch m k i ≡ left_of log batch m first 0
  pub rows : rows_of_book (book_of n.view) ≡ rows_of_book (book_of m.view) ++ done
  pub used : UsedFor log.shape batch m n
  pub longer : Begins (m.view).seen (n.view).seen
  pub tails : (n.view).tails ≡ (m.view).tails
  pub told : (n.view).told ≡ (m.view).told

pub goes_first : (log : LogValue) (first : ℕ) (batch : List RowValue) (m : PassValue) → IsReady log m → Goes log first batch m first 0 m
goes_first log first batch m ready = record {
  same = refl;
  ready = ready;
  writer = refl;
  number = omega arith;
  done = [];
  split = refl;
  rows = sym (append-nil (rows_of_book (book_of m.view)));
  used = λ j s at. inl (j, at);
  longer = take-length (m.view).seen;
  tails = refl;
  told = refl;
}

-- the pass stays one of the log's
of_same : (log : LogValue) (m n : PassValue) → n ≡ record m { view = n.view } → IsOf m log → IsOf n log
of_same log m n same of = record { table = ap (λ (h : PassValue). h.table) same ∙ of.table; nodes = ap (λ (h : PassValue). h.nodes) same ∙ of.nodes }

same_then : (m n p : PassValue) → n ≡ record m { view = n.view } → p ≡ record n { view = p.view } → p ≡ record m { view = p.view }
same_then m n p a b = b ∙ ap (λ (h : PassValue). record h { view = p.view }) a

-- the next row of the batch, and those that are left behind it
next_own : (writers w k i : ℕ) (batch : List RowValue) (row : RowValue) → i < length batch → get_or batch i row ≡ row → k % writers ≡ w
    → rows_of writers w k (drop i batch) ≡ row ∷ rows_of writers w (k + 1) (drop (i + 1) batch)
next_own writers w k i batch row low at own = ap (rows_of writers w k) (drop-cons batch i row low) ∙ rw (eq-eqb (k % writers) w own, at, add-one i) refl

next_other : (writers w k i : ℕ) (batch : List RowValue) (row : RowValue) → i < length batch → (k % writers ≡ w → ⊥)
    → rows_of writers w k (drop i batch) ≡ rows_of writers w (k + 1) (drop (i + 1) batch)
next_other writers w k i batch row low other = ap (rows_of writers w k) (drop-cons batch i row low) ∙ rw (ne_eqb (k % writers) w other, add-one i) refl

pub goes_other : (log : LogValue) (first : ℕ) (batch : List RowValue) (m : PassValue) (k i : ℕ) (n : PassValue) (row : RowValue)
    → Goes log first batch m k i n → i < length batch → (k % (log.shape).writers ≡ (book_of m.view).writer → ⊥) → Goes log first batch m (k + 1) (i + 1) n
goes_other log first batch m k i n row goes low other = record {
  same = goes.same;
  ready = goes.ready;
  writer = goes.writer;
  number = (let at = goes.number in omega (arith, at));
  done = goes.done;
  split = ap (λ (rs : List RowValue). goes.done ++ rs) (sym (next_other (log.shape).writers (book_of m.view).writer k i batch row low other)) ∙ goes.split;
  rows = goes.rows;
  used = goes.used;
  longer = goes.longer;
  tails = goes.tails;
  told = goes.told;
}

-- the row's nodes are used beside those before
used_more : (shape : ShapeValue) (batch : List RowValue) (m n p : PassValue) (i : ℕ) (row : RowValue) (spots : List Spot) → i < length batch
    → get_or batch i row ≡ row → UsedFor shape batch m n → (book_of p.view).used ≡ (book_of n.view).used ++ spots
    → ((j : ℕ) (s : Spot) → slice_get spots j ≡ Some s → IsOnPath shape row s) → UsedFor shape batch m p
used_more shape batch m n p i row spots low is used more on j s at =
    elim (in_either (book_of n.view).used spots j s (ap (λ (ss : List Spot). slice_get ss j) (sym more) ∙ at)) [
      | inl old ↦ used old.0 s old.1
      | inr new ↦ inr (record { place = i; row = row; at = slice_get-get_or batch i row low ∙ ap (λ (r : RowValue). Some r) is; on = on new.0 s new.1 })
    ]

-- one row more is done, and one less is left
longer_rows : (old now new done : List RowValue) (row : RowValue) → now ≡ old ++ done → new ≡ now ++ row ∷ [] → new ≡ old ++ (done ++ row ∷ [])
longer_rows old now new done row e f = f ∙ (ap (λ (rs : List RowValue). rs ++ row ∷ []) e ∙ append_assoc old done (row ∷ []))

shorter_left : (done before rest all : List RowValue) (row : RowValue) → before ≡ row ∷ rest → done ++ before ≡ all → (done ++ row ∷ []) ++ rest ≡ all
shorter_left done before rest all row e f = append_assoc done (row ∷ []) rest ∙ (ap (λ (rs : List RowValue). done ++ rs) (sym e) ∙ f)

-- the book of a pass at whose book a row was appended
book_is : (shape : ShapeValue) (o : ℕ) (row : RowValue) (n p : PassValue) (appended : IsAppended shape o row n p)
    → book_of p.view ≡ with_own o row (with_nodes appended.paths.used.spots appended.paths.used.label (book_of n.view))
book_is shape o row n p appended = ap (λ (bs : List Book). get_or bs 0 (no_book 0)) appended.books

pub goes_own : (log : LogValue) (first : ℕ) (batch : List RowValue) (m : PassValue) (k i : ℕ) (n p : PassValue) (o : ℕ) (row : RowValue)
    → Goes log first batch m k i n → i < length batch → get_or batch i row ≡ row → k % (log.shape).writers ≡ (book_of m.view).writer
    → PassGoesOn n p → Rests p.view → IsAppended log.shape o row n p → Goes log first batch m (k + 1) (i + 1) p
goes_own log first batch m k i n p o row goes low at own on rest appended =
    let w = (book_of m.view).writer in
    let is = book_is log.shape o row n p appended in
    let ticket : Own = record { offset = o; row = row } in record {
      same = same_then m n p goes.same on.same;
      ready = record { of = of_same log n p on.same (goes.ready).of; rest = rest };
      writer = ap (λ (b : Book). b.writer) is ∙ goes.writer;
      number = (let at = goes.number in omega (arith, at));
      done = goes.done ++ row ∷ [];
      split = shorter_left goes.done (left_of log batch m k i) (left_of log batch m (k + 1) (i + 1)) (left_of log batch m first 0) row
          (next_own (log.shape).writers w k i batch row low at own) goes.split;
      rows = longer_rows (rows_of_book (book_of m.view)) (rows_of_book (book_of n.view)) (rows_of_book (book_of p.view)) goes.done row goes.rows
          (ap rows_of_book is ∙ map-append (λ (own : Own). own.row) (book_of n.view).mine (ticket ∷ []));
      used = used_more log.shape batch m n p i row appended.paths.used.spots low at goes.used (ap (λ (b : Book). b.used) is) appended.paths.used.on;
      longer = begins_then (m.view).seen (n.view).seen (p.view).seen goes.longer on.longer;
      tails = on.tails ∙ goes.tails;
      told = on.told ∙ goes.told;
    }

pub goes_answered : (log : LogValue) (first : ℕ) (batch : List RowValue) (m : PassValue) (k i : ℕ) (n p : PassValue) (answer : Result ℕ AppendFault) (o : ℕ)
    (row : RowValue) → Goes log first batch m k i n → i < length batch → get_or batch i row ≡ row → k % (log.shape).writers ≡ (book_of m.view).writer
    → PassGoesOn n p → Rests p.view → HasAppendAnswer log.shape row n p answer → answer ≡ Ok o → Goes log first batch m (k + 1) (i + 1) p
goes_answered log first batch m k i n p answer o row goes low at own on rest answered ok =
    goes_own log first batch m k i n p o row goes low at own on rest (subst (λ (r : Result ℕ AppendFault). HasAppendAnswer log.shape row n p r) ok answered)

-- the whole batch was gone through
pub ends : (log : LogValue) (first : ℕ) (batch : List RowValue) (m : PassValue) (k i : ℕ) (n : PassValue) → Goes log first batch m k i n → length batch ≤ i
    → HasWritten true log first batch m n
ends log first batch m k i n goes far = record {
  same = goes.same;
  rest = (goes.ready).rest;
  writer = goes.writer;
  done = goes.done;
  left = [];
  split = ap (λ (rs : List RowValue). goes.done ++ rows_of (log.shape).writers (book_of m.view).writer k rs) (sym (drop_all i batch far)) ∙ goes.split;
  rows = goes.rows;
  all = λ whole. inl refl;
  used = goes.used;
  longer = goes.longer;
  tails = goes.tails;
  told = goes.told;
}

-- the book has as much finished, and nodes for a row of the batch are used
record Stopped (shape : ShapeValue) (batch : List RowValue) (m n p : PassValue) : Type 0 where
  pub writer : (book_of p.view).writer ≡ (book_of n.view).writer
  pub mine : (book_of p.view).mine ≡ (book_of n.view).mine
  pub used : UsedFor shape batch m p

-- the batch stops there
stopped_at : (whole : Bool) (log : LogValue) (first : ℕ) (batch : List RowValue) (m : PassValue) (k i : ℕ) (n p : PassValue) → Goes log first batch m k i n
    → PassGoesOn n p → Rests p.view → Stopped log.shape batch m n p → (whole ≡ true → (book_of p.view).over ≡ true) → HasWritten whole log first batch m p
stopped_at whole log first batch m k i n p goes on rest book over = record {
  same = same_then m n p goes.same on.same;
  rest = rest;
  writer = book.writer ∙ goes.writer;
  done = goes.done;
  left = left_of log batch m k i;
  split = goes.split;
  rows = ap (map (λ (own : Own). own.row)) book.mine ∙ goes.rows;
  all = λ is. inr (over is);
  used = book.used;
  longer = begins_then (m.view).seen (n.view).seen (p.view).seen goes.longer on.longer;
  tails = on.tails ∙ goes.tails;
  told = on.told ∙ goes.told;
}

-- the log was found full
pub stops_full : (log : LogValue) (first : ℕ) (batch : List RowValue) (m : PassValue) (k i : ℕ) (n p : PassValue) (answer : Result ℕ AppendFault)
    (row : RowValue) → Goes log first batch m k i n → i < length batch → get_or batch i row ≡ row
    → PassGoesOn n p → Rests p.view → HasAppendAnswer log.shape row n p answer → answer ≡ Err Full → HasWritten true log first batch m p
stops_full log first batch m k i n p answer row goes low at on rest answered err =
    elim (subst (λ (r : Result ℕ AppendFault). HasAppendAnswer log.shape row n p r) err answered) [
      | inl over ↦
          let is = ap (λ (h : PassValue). book_of h.view) over.is in
          stopped_at true log first batch m k i n p goes on rest
          (record {
            writer = ap (λ (b : Book). b.writer) is;
            mine = ap (λ (b : Book). b.mine) is;
            used = λ j s there. goes.used j s (ap (λ (b : Book). slice_get b.used j) (sym is) ∙ there);
          })
          (λ whole. ap (λ (b : Book). b.over) is ∙ over.over)
      | inr late ↦
          let is : book_of p.view ≡ with_mark (with_nodes late.paths.used.spots late.paths.used.label (book_of n.view)) =
          ap (λ (bs : List Book). get_or bs 0 (no_book 0)) late.books in
          stopped_at true log first batch m k i n p goes on rest
          (record {
            writer = ap (λ (b : Book). b.writer) is;
            mine = ap (λ (b : Book). b.mine) is;
            used = used_more log.shape batch m n p i row late.paths.used.spots low at goes.used (ap (λ (b : Book). b.used) is) late.paths.used.on;
          })
          (λ whole. ap (λ (b : Book). b.over) is)
    ]

-- the writer's nodes are used up
pub stops_out : (log : LogValue) (first : ℕ) (batch : List RowValue) (m : PassValue) (k i : ℕ) (n p : PassValue) (answer : Result ℕ AppendFault)
    (row : RowValue) → Goes log first batch m k i n → i < length batch → get_or batch i row ≡ row
    → PassGoesOn n p → Rests p.view → HasAppendAnswer log.shape row n p answer → answer ≡ Err NodesFull → HasWritten false log first batch m p
    × ((w : ℕ) → w ≡ (book_of m.view).writer → k % (log.shape).writers ≡ (book_of m.view).writer → RunsOut log first batch w m p)
stops_out log first batch m k i n p answer row goes low at on rest answered err =
    let out : IsNodesFull log.shape row n p = subst (λ (r : Result ℕ AppendFault). HasAppendAnswer log.shape row n p r) err answered in
    let is : book_of p.view ≡ with_nodes out.used.spots out.used.label (book_of n.view) = ap (λ (bs : List Book). get_or bs 0 (no_book 0)) out.used.books in
    let writer : (book_of p.view).writer ≡ (book_of n.view).writer = ap (λ (b : Book). b.writer) is in (
      stopped_at false log first batch m k i n p goes on rest
          (record {
            writer = writer;
            mine = ap (λ (b : Book). b.mine) is;
            used = used_more log.shape batch m n p i row out.used.spots low at goes.used (ap (λ (b : Book). b.used) is) out.used.on;
          })
          (λ whole. absurd (cc whole)),
      (λ w w_is own. record {
        was = sym w_is;
        writer_is = writer ∙ (goes.writer ∙ sym w_is);
        out = record {
          full = out.stuck.full;
          apart = out.stuck.apart;
          at = out.stuck.at;
          needed = record { place = i; row = row; at = slice_get-get_or batch i row low ∙ ap (λ (r : RowValue). Some r) at; on = out.stuck.on };
          other = out.stuck.other;
        };
        done = goes.done;
        next = row;
        left = left_of log batch m (k + 1) (i + 1);
        split = ap (λ (rs : List RowValue). goes.done ++ rs) (sym (next_own (log.shape).writers (book_of m.view).writer k i batch row low at own))
            ∙ (goes.split ∙ ap (λ (v : ℕ). rows_of (log.shape).writers v first batch) (sym w_is));
        rows = ap (λ (b : Book). rows_of_book b) is ∙ goes.rows;
        wants = out.stuck.on;
      }),
    )

-- a batch of which no more is said
pub less_said : (whole : Bool) (log : LogValue) (first : ℕ) (batch : List RowValue) (m n : PassValue) → HasWritten whole log first batch m n
    → HasWritten false log first batch m n
less_said whole log first batch m n w = record {
  same = w.same;
  rest = w.rest;
  writer = w.writer;
  done = w.done;
  left = w.left;
  split = w.split;
  rows = w.rows;
  all = λ is. absurd (cc is);
  used = w.used;
  longer = w.longer;
  tails = w.tails;
  told = w.told;
}

pub less_said_all : (whole : Bool) (log : LogValue) (first : ℕ) (batch : List RowValue) (ms ns : List PassValue)
    → AllZip (HasWritten whole log first batch) ms ns
    → AllZip (HasWritten false log first batch) ms ns
less_said_all whole log first batch [] [] all = tt
less_said_all whole log first batch [] (n ∷ ns) all = absurd all
less_said_all whole log first batch (m ∷ ms) [] all = absurd all
less_said_all whole log first batch (m ∷ ms) (n ∷ ns) all = (less_said whole log first batch m n all.0, less_said_all whole log first batch ms ns all.1)

-- the halves of the passes, and which of them ran out of nodes
pub both_wrote : (log : LogValue) (first : ℕ) (batch : List RowValue) (ms more ns others : List PassValue) (a b : Option ℕ)
    → AllZip (HasWritten (is_none a) log first batch) ms ns → AllZip (HasWritten (is_none b) log first batch) more others
    → AllZip (HasWritten (is_none (option_or a b)) log first batch) (ms ++ more) (ns ++ others)
both_wrote log first batch ms more ns others None b low high = half b low high
  where
    half : (c : Option ℕ) → AllZip (HasWritten true log first batch) ms ns → AllZip (HasWritten (is_none c) log first batch) more others
        → AllZip (HasWritten (is_none c) log first batch) (ms ++ more) (ns ++ others)
    half None l h = zip_append (HasWritten true log first batch) ms more ns others l h
    half (Some w) l h = zip_append (HasWritten false log first batch) ms more ns others (less_said_all true log first batch ms ns l) h
both_wrote log first batch ms more ns others (Some w) b low high =
    zip_append (HasWritten false log first batch) ms more ns others low (less_said_all (is_none b) log first batch more others high)

out_low : (log : LogValue) (first : ℕ) (batch : List RowValue) (w : ℕ) (ms more ns others : List PassValue) → RanOut log first batch w ms ns
    → RanOut log first batch w (ms ++ more) (ns ++ others)
out_low log first batch w ms more ns others r = record {
  from = r.from;
  old = r.old;
  was_at = has_left ms more r.from r.old r.was_at;
  place = r.place;
  pass = r.pass;
  at = has_left ns others r.place r.pass r.at;
  runs = r.runs;
}

out_high : (log : LogValue) (first : ℕ) (batch : List RowValue) (w : ℕ) (ms more ns others : List PassValue) → RanOut log first batch w more others
    → RanOut log first batch w (ms ++ more) (ns ++ others)
out_high log first batch w ms more ns others r =
    let was = has_right ms more r.old (r.from, r.was_at) in
    let is = has_right ns others r.pass (r.place, r.at) in
    record { from = was.0; old = r.old; was_at = was.1; place = is.0; pass = r.pass; at = is.1; runs = r.runs }

pub either_out : (log : LogValue) (first : ℕ) (batch : List RowValue) (ms more ns others : List PassValue) (a b : Option ℕ)
    → IfSome a (λ w. RanOut log first batch w ms ns) → IfSome b (λ w. RanOut log first batch w more others)
    → IfSome (option_or a b) (λ w. RanOut log first batch w (ms ++ more) (ns ++ others))
either_out log first batch ms more ns others (Some w) b low high = out_low log first batch w ms more ns others low
either_out log first batch ms more ns others None None low high = tt
either_out log first batch ms more ns others None (Some w) low high = out_high log first batch w ms more ns others high

-- the one pass ran out
pub first_out : (log : LogValue) (first : ℕ) (batch : List RowValue) (ms : List PassValue) (m n : PassValue) (a : Option ℕ) → 0 < length ms
    → m ≡ get_or ms 0 m → IfSome a (λ w. RunsOut log first batch w m n) → IfSome a (λ w. RanOut log first batch w ms (slice_set ms 0 n))
first_out log first batch [] m n a some is out = absurd (omega (arith, some))
first_out log first batch (x ∷ ms) m n None some is out = tt
first_out log first batch (x ∷ ms) m n (Some w) some is out =
    record { from = 0; old = m; was_at = ap (λ (p : PassValue). Some p) (sym is); place = 0; pass = n; at = refl; runs = out }
