-- A writer's pass may come home after it appended, and the places of a log stay those of its writers.
use Rattle.std.proofs.Common.{◌≡◌, ◌∙◌, ◌≤◌, ℕ, List, [], ◌∷◌, ◌++◌, Some, Result, Ok, Err, inl, inr, zero, suc, length, map, take, slice_get, get_or, set, All, ap, refl, sym, subst, arith, append-nil, length-take}
use Rattle.std.proofs.lemmas.List.{take-append-le}
use Rattle.std.proofs.lemmas.Option.{get_or_from_slice_get, slice_get_within}
use Rattle.cf_row.specs.Row.{RowValue}
use Rattle.cf_shape.specs.Lanes.{ShapeValue}
use Rattle.cf_law.specs.Words.{Spot}
use Rattle.cf_law.specs.Passes.{Book, Own}
use Rattle.cf_law.specs.Events.{no_book}
use Rattle.cf_table.specs.Values.{PassValue, LogValue, IsOf, book_of}
use Rattle.cf_table.proofs.Settling.{begins_then}
use Rattle.cf_append.specs.declared.appends.AppendFault.{AppendFault}
use Rattle.cf_append.specs.declared.appends.AppendFault.TheVariants.{Full, NodesFull}
use Rattle.cf_append.proofs.Answering.{same_writer}
use Rattle.cf_store.specs.Homes.{Comes, HasLooked, HaveLooked, IsFront, IsSuccessor, MayCome, PlaceValue, at_home, taken_home}
use Rattle.cf_append.specs.Appends.{HasAppendAnswer, HasAppended, IsReady}
use Rattle.cf_store.specs.Parts.{IsPlaceOf}

-- what a list begins with it begins with when it is longer
front_more : {X : Type 0} (xs ys zs ws : List X) → IsFront xs ys → zs ≡ ys ++ ws → IsFront xs zs
front_more {X} xs ys zs ws front is =
    let e = ap (λ (l : List X). length l) front in
    let f = length-take (length xs) ys in
    ap (take (length xs)) is ∙ (take-append-le (length xs) ys ws (omega (arith, e, f)) ∙ front)

-- whatever appending a row answers, the pass has its rows and its used nodes, and then perhaps more
grown : (shape : ShapeValue) (row : RowValue) (m n : PassValue) (r : Result ℕ AppendFault) → HasAppendAnswer shape row m n r
    → (rows : List Own) × (spots : List Spot) × ((book_of n.view).mine ≡ (book_of m.view).mine ++ rows) × ((book_of n.view).used ≡ (book_of m.view).used ++ spots)
grown shape row m n (Ok o) done = (
  record { offset = o; row = row } ∷ [],
  done.paths.used.spots,
  ap (λ (bs : List Book). (get_or bs 0 (no_book 0)).mine) done.books,
  ap (λ (bs : List Book). (get_or bs 0 (no_book 0)).used) done.books,
)
grown shape row m n (Err Full) (inl over) = (
  [],
  [],
  ap (λ (h : PassValue). (book_of h.view).mine) over.is ∙ sym (append-nil (book_of m.view).mine),
  ap (λ (h : PassValue). (book_of h.view).used) over.is ∙ sym (append-nil (book_of m.view).used),
)
grown shape row m n (Err Full) (inr late) = (
  [],
  late.paths.used.spots,
  ap (λ (bs : List Book). (get_or bs 0 (no_book 0)).mine) late.books ∙ sym (append-nil (book_of m.view).mine),
  ap (λ (bs : List Book). (get_or bs 0 (no_book 0)).used) late.books,
)
grown shape row m n (Err NodesFull) done = (
  [],
  done.used.spots,
  ap (λ (bs : List Book). (get_or bs 0 (no_book 0)).mine) done.used.books ∙ sym (append-nil (book_of m.view).mine),
  ap (λ (bs : List Book). (get_or bs 0 (no_book 0)).used) done.used.books,
)

-- a pass may come home as before when it has appended
pub may_still : (shape : ShapeValue) (row : RowValue) (m n : PassValue) (r : Result ℕ AppendFault) (way way' : List PassValue) → way' ≡ way → MayCome way m
    → HasAppended shape row m n r → MayCome way' n
may_still shape row m n r way way' same may did first at =
    let before = may first (ap (λ (w : List PassValue). slice_get w 0) (sym same) ∙ at) in
    let more = grown shape row m n r did.answer in
    record {
      table = ap (λ (p : PassValue). p.table) did.goes_on.same ∙ before.table;
      nodes = ap (λ (p : PassValue). p.nodes) did.goes_on.same ∙ before.nodes;
      writer = same_writer shape row m n r did.answer ∙ before.writer;
      rows = front_more (book_of first.view).mine (book_of m.view).mine (book_of n.view).mine more.0 before.rows more.2;
      used = front_more (book_of first.view).used (book_of m.view).used (book_of n.view).used more.1 before.used more.3;
      seen = begins_then (first.view).seen (m.view).seen (n.view).seen before.seen did.goes_on.longer;
      rest = did.rest;
    }

pub one_first : (first other : PassValue) → slice_get (first ∷ []) 0 ≡ Some other → first ≡ other
one_first first other at = cc at

-- the first pass may come home
pub may_first : (first : PassValue) (way : List PassValue) (log : LogValue) → way ≡ first ∷ [] → IsReady log first → MayCome way first
may_first first way log is ready other at =
    subst (λ (p : PassValue). IsSuccessor p first) (one_first first other (ap (λ (w : List PassValue). slice_get w 0) (sym is) ∙ at)) record {
      table = refl;
      nodes = refl;
      writer = refl;
      rows = Rattle.std.proofs.Math.Seq.take-length (book_of first.view).mine;
      used = Rattle.std.proofs.Math.Seq.take-length (book_of first.view).used;
      seen = Rattle.std.proofs.Math.Seq.take-length (first.view).seen;
      rest = ready.rest;
    }

pub first_in : (came : List PassValue) → 1 ≤ length came → (first : PassValue) × (slice_get came 0 ≡ Some first)
first_in [] some = absurd (omega (arith, some))
first_in (first ∷ others) some = (first, refl)

-- a pass that comes to a place of the log is one of the log's
pub comes_ready : (log : LogValue) (place : PlaceValue) (pass : PassValue) → IsPlaceOf log place → Comes place pass → IsReady log pass
comes_ready log place pass of (inl home) = of.home pass home
comes_ready log place pass of (inr came) =
    let begins = first_in place.came (of.away came.0) in
    let one = of.first came.0 begins.0 begins.1 in
    let like = came.1 begins.0 begins.1 in
    record { of = record { table = like.table ∙ one.table; nodes = like.nodes ∙ one.nodes }; rest = like.rest }

-- a place with a pass of the log at home
pub home_placed : (log : LogValue) (place : PlaceValue) (pass : PassValue) → place.home ≡ Some pass → IsReady log pass → IsPlaceOf log place
home_placed log place pass is ready = record {
  home = λ other at. subst (IsReady log) (cc (sym is ∙ at)) ready;
  away = λ none. absurd (cc (sym is ∙ none));
  first = λ none. absurd (cc (sym is ∙ none));
}

-- a place that the pass was taken from
pub away_placed : (log : LogValue) (pass : PassValue) → IsReady log pass → IsPlaceOf log (taken_home pass)
away_placed log pass ready = record {
  home = λ other at. absurd (cc at);
  away = λ none. omega arith;
  first = λ none other at. subst (λ (p : PassValue). IsOf p log) (one_first pass other at) ready.of;
}

placed_map : (log : LogValue) (hs : List PassValue) → All (IsReady log) hs → All (IsPlaceOf log) (map at_home hs)
placed_map log [] all k d lt = absurd (omega (arith, lt))
placed_map log (h ∷ hs) all zero d lt = home_placed log (at_home h) h refl (all 0 h (omega arith))
placed_map log (h ∷ hs) all (suc k) d lt = placed_map log hs (λ j e low. all (suc j) e (omega (arith, low))) k d (omega (arith, lt))

pub all_placed : (log : LogValue) (hs : List PassValue) (ps : List PlaceValue) → ps ≡ map at_home hs → All (IsReady log) hs → All (IsPlaceOf log) ps
all_placed log hs ps is ready = subst (All (IsPlaceOf log)) (sym is) (placed_map log hs ready)

one_looked : (log : LogValue) (m n : PlaceValue) → HasLooked m n → IsPlaceOf log m → IsPlaceOf log n
one_looked log m n (inl same) of = subst (IsPlaceOf log) (sym same) record { home = of.home; away = of.away; first = of.first }
one_looked log m n (inr came) of =
    home_placed log n came.1.0 (ap (λ (p : PlaceValue). p.home) came.1.1) (comes_ready log m came.1.0 of (inr (came.0, came.1.2)))

-- places that were looked at
pub looked_placed : (log : LogValue) (ms ns : List PlaceValue) → HaveLooked ms ns → All (IsPlaceOf log) ms → All (IsPlaceOf log) ns
looked_placed log [] [] looked all k d lt = absurd (omega (arith, lt))
looked_placed log [] (n ∷ ns) looked all k d lt = absurd looked
looked_placed log (m ∷ ms) [] looked all k d lt = absurd looked
looked_placed log (m ∷ ms) (n ∷ ns) looked all zero d lt = one_looked log m n looked.0 (all 0 m (omega arith))
looked_placed log (m ∷ ms) (n ∷ ns) looked all (suc k) d lt =
    looked_placed log ms ns looked.1 (λ j e low. all (suc j) e (omega (arith, low))) k d (omega (arith, lt))

-- one place of them was changed
pub set_placed : (log : LogValue) (ps : List PlaceValue) (k : ℕ) (p : PlaceValue) → All (IsPlaceOf log) ps → IsPlaceOf log p
    → All (IsPlaceOf log) (set ps k p)
set_placed log [] k p all one j d lt = absurd (omega (arith, lt))
set_placed log (q ∷ ps) zero p all one zero d lt = one
set_placed log (q ∷ ps) zero p all one (suc j) d lt = all (suc j) d (omega (arith, lt))
set_placed log (q ∷ ps) (suc k) p all one zero d lt = all 0 d (omega arith)
set_placed log (q ∷ ps) (suc k) p all one (suc j) d lt = set_placed log ps k p (λ i e low. all (suc i) e (omega (arith, low))) one j d (omega (arith, lt))

-- the place at k is one of the log's
pub placed_at : (log : LogValue) (ps : List PlaceValue) (k : ℕ) (p : PlaceValue) → All (IsPlaceOf log) ps → slice_get ps k ≡ Some p → IsPlaceOf log p
placed_at log ps k p all at = subst (IsPlaceOf log) (get_or_from_slice_get ps k p p at) (all k p (slice_get_within ps k p at))
