-- The versions in cells.
use Rattle.std.proofs.Common.{◌≡◌, ◌∙◌, ℕ, zero, suc, ◌+◌, ◌-◌, ◌%◌, ◌^◌, ◌<◌, ◌≤◌, inl, inr, List, [], ◌∷◌, ◌++◌, length, map, Bool, true, false, cond, ◌==◌, Option, Some, None, slice_get, refl, sym, ap, ap₂, subst, arith}
use Rattle.std.specs.Bool.{nat_lt}
use Rattle.std.proofs.lemmas.Bool.{cases_Bool}
use Rattle.std.proofs.lemmas.List.{length-map}
use Rattle.cf_row.specs.Row.{RowValue, values_fit}
use Rattle.cf_row.specs.Words.{word_count}
use Rattle.cf_row.specs.declared.row.Entry.{Entry}
use Rattle.cf_row.proofs.Bytes.{both}
use Rattle.cf_fold.specs.Quads.{QuadValue, quad_of, IsQuad}
use Rattle.cf_fold.specs.Cells.{AreWordsOf}
use Rattle.cf_fold.specs.declared.cell.CellWords.{CellWords}
use Rattle.cf_fold.proofs.Lawful.{AreLow, quad_is_lawful}
use Rattle.cf_shape.specs.Lanes.{ShapeValue, IsShape, lane_at, measure_of}
use Rattle.cf_shape.specs.Uses.{cells_before, cell_words, is_measured}
use Rattle.cf_shape.proofs.Used.{before_fits, version_at}
use Rattle.cf_shape.proofs.Measured.{measure_low}
use Rattle.cf_shape.specs.Nodes.{levels_of}
use Rattle.cf_law.specs.Words.{Spot, spot, Layout, version_word, link_to_newest}
use Rattle.cf_law.proofs.Cells.{version_to_cell}
use Rattle.cf_law.specs.Nibbles.{nibbles}
use Rattle.cf_law.specs.Passes.{Cursor, Pass}
use Rattle.cf_law.specs.Steps.{cursor_after_cell, met_of}
use Rattle.cf_law.specs.Readers.{IsFit, pick_at, picks}
use Rattle.cf_law.specs.Shapes.{layout}
use Rattle.cf_table.specs.Values.{PassValue}
use Rattle.cf_table.specs.Effects.{HasStepped, cell_effect}
use Rattle.cf_walk.specs.Walks.{OnlyWalked, Met, ChainSteps, IsEntryOf, leaf_of, amounts_below, leaf_amounts}
use Rattle.cf_walk.proofs.Counted.{IsCounting}
use Rattle.cf_walk.proofs.Picked.{picks_next, picks_zero, pick_some}
use Rattle.cf_walk.proofs.Walked.{walked_by, IsWalking}
use Rattle.cf_law.proofs.Shapes.{three_words}

pub cell_only : (shape : ShapeValue) (m n : PassValue) (o l i found : ℕ) → HasStepped shape (cell_effect shape m.view o l i) m found n → OnlyWalked m n
cell_only shape m n o l i found made =
    let told = made.told in
    walked_by m n _ _ _ made.same told.is
    (λ r k known. subst (λ (ks : List (Spot × ℕ)). (j : ℕ) × (slice_get ks j ≡ Some (r, k))) (sym (ap (λ (p : Pass). p.known) told.is)) known)

-- the word of a version
pub version_is : (shape : ShapeValue) (m n : PassValue) (lane key w o i found : ℕ) (seen : List Entry) (x : IsEntryOf shape lane key w o seen)
    → lane < length shape.lanes → i < cell_words (lane_at shape lane) → (m.view).seen ≡ seen → HasStepped shape (cell_effect shape m.view o lane i) m found n
    → found ≡ version_word (layout shape) lane i (picks (layout shape) w (leaf_of shape lane key) seen o) (x.entry).row
version_is shape m n lane key w o i found seen x there small same made =
    let sh = layout shape in
    let k = word_count shape.schema + 1 + cells_before shape lane + i in
    let fits = before_fits shape.lanes lane there in
    let at : slice_get (m.view).seen o ≡ Some x.entry = ap (λ (es : List Entry). slice_get es o) same ∙ x.at in
    let told : found ≡ version_word sh lane i (picks sh (x.entry).writer (spot lane (nibbles (levels_of shape lane) key)) (m.view).seen o) (x.entry).row =
    (made.told.tells.entry o k refl).cells x.entry lane i (nibbles (levels_of shape lane) key) at (omega (arith, fits, small))
    (version_at shape lane i there small) (x.stands).1 in
    told ∙ ap₂ (λ (v : ℕ) (es : List Entry). version_word sh lane i (picks sh v (leaf_of shape lane key) es o) (x.entry).row) (x.stands).0 same

-- the newest of a chain lies below its end
top_at : (a b : Bool) (o : ℕ) (r : RowValue) (xs : List (ℕ × RowValue)) → link_to_newest xs ≤ o
    → link_to_newest (cond a (cond b ((o, r) ∷ []) []) [] ++ xs) ≤ suc o
top_at true true o r xs le = omega arith
top_at true false o r xs le = omega (arith, le)
top_at false b o r xs le = omega (arith, le)

top_pick : (sh : Layout) (w : ℕ) (s : Spot) (o : ℕ) (x : Option Entry) (xs : List (ℕ × RowValue)) → link_to_newest xs ≤ o
    → link_to_newest (pick_at sh w s o x ++ xs) ≤ suc o
top_pick sh w s o None xs le = omega (arith, le)
top_pick sh w s o (Some e) xs le = top_at _ _ o e.row xs le

top_picks : (sh : Layout) (w : ℕ) (s : Spot) (seen : List Entry) (n : ℕ) → link_to_newest (picks sh w s seen n) ≤ n
top_picks sh w s seen zero = (let e : link_to_newest (picks sh w s seen 0) ≡ 0 = ap link_to_newest (picks_zero sh w s seen) in omega (arith, e))
top_picks sh w s seen (suc o) =
    (let e = ap link_to_newest (picks_next sh w s seen o) in let le = top_pick sh w s o (slice_get seen o) (picks sh w s seen o) (top_picks sh w s seen o) in
    omega (arith, e, le))

-- what the lane measures of the entry and of those before it
pub amounts_upto : (shape : ShapeValue) (lane key w o : ℕ) (seen : List Entry) (x : IsEntryOf shape lane key w o seen)
    → amounts_below shape lane key seen w (o + 1) ≡ map (λ y. measure_of shape lane y)
    ((x.entry).row ∷ map (λ y. y.1) (picks (layout shape) w (leaf_of shape lane key) seen o))
amounts_upto shape lane key w o seen x =
    let sh = layout shape in
    let s = leaf_of shape lane key in
    let next : o + 1 ≡ suc o = omega arith in
    ap (amounts_below shape lane key seen w) next
    ∙ ap (λ (xs : List (ℕ × RowValue)). map (λ y. measure_of shape lane y) (map (λ y. y.1) xs))
    (picks_next sh w s seen o
    ∙ (ap (λ (e : Option Entry). pick_at sh w s o e ++ picks sh w s seen o) x.at
    ∙ ap (λ (xs : List (ℕ × RowValue)). xs ++ picks sh w s seen o) (pick_some sh w s o x.entry x.stands)))

-- what the lane measures is below 2^32
low_at : (f : RowValue → ℕ) (a b : Bool) (o : ℕ) (r : RowValue) (xs : List (ℕ × RowValue)) → f r < 2 ^ 32
    → AreLow (map f (map (λ (y : ℕ × RowValue). y.1) xs)) → AreLow (map f (map (λ (y : ℕ × RowValue). y.1) (cond a (cond b ((o, r) ∷ []) []) [] ++ xs)))
low_at f true true o r xs lt all = (lt, all)
low_at f true false o r xs lt all = all
low_at f false b o r xs lt all = all

low_pick : (shape : ShapeValue) (lane w : ℕ) (s : Spot) (o : ℕ) (x : Option Entry) (xs : List (ℕ × RowValue))
    → ((e : Entry) → x ≡ Some e → measure_of shape lane e.row < 2 ^ 32) → AreLow (map (λ y. measure_of shape lane y) (map (λ (y : ℕ × RowValue). y.1) xs))
    → AreLow (map (λ y. measure_of shape lane y) (map (λ (y : ℕ × RowValue). y.1) (pick_at (layout shape) w s o x ++ xs)))
low_pick shape lane w s o None xs low all = all
low_pick shape lane w s o (Some e) xs low all = low_at (λ y. measure_of shape lane y) _ _ o e.row xs (low e refl) all

pub low_picks : (shape : ShapeValue) (lane w : ℕ) (s : Spot) (seen : List Entry) (n : ℕ)
    → ((o : ℕ) (e : Entry) → slice_get seen o ≡ Some e → measure_of shape lane e.row < 2 ^ 32)
    → AreLow (map (λ y. measure_of shape lane y) (map (λ (y : ℕ × RowValue). y.1) (picks (layout shape) w s seen n)))
low_picks shape lane w s seen zero low =
    subst (λ (xs : List (ℕ × RowValue)). AreLow (map (λ y. measure_of shape lane y) (map (λ (y : ℕ × RowValue). y.1) xs)))
    (sym (picks_zero (layout shape) w s seen)) tt
low_picks shape lane w s seen (suc o) low =
    subst (λ (xs : List (ℕ × RowValue)). AreLow (map (λ y. measure_of shape lane y) (map (λ (y : ℕ × RowValue). y.1) xs)))
    (sym (picks_next (layout shape) w s seen o))
    (low_pick shape lane w s o (slice_get seen o) (picks (layout shape) w s seen o) (low o) (low_picks shape lane w s seen o low))

fits_low : (shape : ShapeValue) (lane : ℕ) (e : Entry) → IsShape shape → lane < length shape.lanes → IsFit (layout shape) e
    → measure_of shape lane e.row < 2 ^ 32
fits_low shape lane e is there fit = measure_low shape lane e.row is there (both (values_fit shape.schema (e.row).values) (nat_lt (e.row).num (2 ^ 32)) fit.0).0

-- the three words of a cell of an entry that was seen
pub read : (shape : ShapeValue) (m a b c : PassValue) (lane key w o first sum ends : ℕ) → IsShape shape → lane < length shape.lanes
    → is_measured shape lane ≡ true → o < shape.capacity → IsEntryOf shape lane key w o (m.view).seen
    → ((k : ℕ) (e : Entry) → slice_get (m.view).seen k ≡ Some e → IsFit (layout shape) e) → (a.view).seen ≡ (m.view).seen → (b.view).seen ≡ (m.view).seen
    → HasStepped shape (cell_effect shape m.view o lane 0) m first a → HasStepped shape (cell_effect shape a.view o lane 1) a sum b
    → HasStepped shape (cell_effect shape b.view o lane 2) b ends c
    → AreWordsOf (record { first = first; sum = sum; ends = ends }) (link_to_newest (picks (layout shape) w (leaf_of shape lane key) (m.view).seen o))
    (quad_of (amounts_below shape lane key (m.view).seen w (o + 1)))
read shape m a b c lane key w o first sum ends is there measured few x fit sa sb ma mb mc =
    let seen = (m.view).seen in
    let three = three_words shape lane measured in
    let before = picks (layout shape) w (leaf_of shape lane key) seen o in
    let r = (x.entry).row in
    let capacity = is.capacity in
    let low = low_picks shape lane w (leaf_of shape lane key) seen o (λ k e at. fits_low shape lane e is there (fit k e at)) in
    let counts : IsQuad (quad_of (map (λ y. measure_of shape lane y) (r ∷ map (λ y. y.1) before))) =
    quad_is_lawful (map (λ y. measure_of shape lane y) (r ∷ map (λ y. y.1) before)) (fits_low shape lane x.entry is there (fit o x.entry x.at), low) in
    let words : CellWords = record { first = first; sum = sum; ends = ends } in
    let top = top_picks (layout shape) w (leaf_of shape lane key) seen o in
    subst (λ (xs : List ℕ). AreWordsOf words (link_to_newest before) (quad_of xs)) (sym (amounts_upto shape lane key w o seen x))
    (version_to_cell (layout shape) lane before r words measured (omega (arith, top, few, capacity)) counts
    (version_is shape m a lane key w o 0 first seen x there (omega (arith, three)) refl ma)
    (version_is shape a b lane key w o 1 sum seen x there (omega (arith, three)) sa mb)
    (version_is shape b c lane key w o 2 ends seen x there (omega (arith, three)) sb mc))

-- a load of a cell forgets nothing that walks went by
walk_keeps : (o l i n : ℕ) (c : Option Cursor) (k : ℕ) (x : ℕ × ℕ) → slice_get (met_of c) k ≡ Some x → (j : ℕ)
    × (slice_get (met_of (cursor_after_cell o l i n c)) j ≡ Some x)
walk_keeps o l i n None k x at = (k, at)
walk_keeps o l (suc i) n (Some c) k x at = (k, at)
walk_keeps o l zero n (Some c) k x at = elim (cases_Bool (c.link == suc o)) [
  | inr e ↦ (
    k,
    ap (λ (b : Bool). slice_get
        (met_of (cond b
        (cond (c.spot.lane == l) (Some record { writer = c.writer; spot = c.spot; link = n % 2 ^ 32; gone = o ∷ c.gone; met = (o, c.writer) ∷ c.met }) (Some c))
        (Some c))) k) e ∙ at,
  )
  | inl e ↦ elim (cases_Bool (c.spot.lane == l)) [
    | inr f ↦ (
      k,
      ap (λ (b : Bool). slice_get
          (met_of (cond b
          (cond (c.spot.lane == l) (Some record { writer = c.writer; spot = c.spot; link = n % 2 ^ 32; gone = o ∷ c.gone; met = (o, c.writer) ∷ c.met })
          (Some c)) (Some c))) k) e
          ∙ (ap (λ (b : Bool). slice_get
          (met_of (cond b (Some record { writer = c.writer; spot = c.spot; link = n % 2 ^ 32; gone = o ∷ c.gone; met = (o, c.writer) ∷ c.met })
          (Some c))) k) f ∙ at),
    )
    | inl f ↦ (
      suc k,
      ap (λ (b : Bool). slice_get
          (met_of (cond b
          (cond (c.spot.lane == l) (Some record { writer = c.writer; spot = c.spot; link = n % 2 ^ 32; gone = o ∷ c.gone; met = (o, c.writer) ∷ c.met })
          (Some c)) (Some c))) (suc k)) e
          ∙ (ap (λ (b : Bool). slice_get
          (met_of (cond b (Some record { writer = c.writer; spot = c.spot; link = n % 2 ^ 32; gone = o ∷ c.gone; met = (o, c.writer) ∷ c.met }) (Some c)))
          (suc k)) f ∙ at),
    )
  ]
]

pub cell_keeps : (shape : ShapeValue) (m n : PassValue) (o l i found : ℕ) → HasStepped shape (cell_effect shape m.view o l i) m found n → (k v : ℕ)
    → Met m.view k v → Met n.view k v
cell_keeps shape m n o l i found made k v x =
    let y = walk_keeps o l i found (m.view).cursor x.0 (k, v) x.1 in
    (y.0, ap (λ (p : Pass). slice_get (met_of p.cursor) y.0) made.told.is ∙ y.1)

-- no entry, no amount
pub no_amounts : (shape : ShapeValue) (lane key w link : ℕ) (seen : List Entry) → link ≡ 0
    → picks (layout shape) w (leaf_of shape lane key) seen link ≡ picks (layout shape) w (leaf_of shape lane key) seen (length seen)
    → ◌≡◌ {A = QuadValue} (record { count = 0; sum = 0; least = 0; greatest = 0 }) (quad_of (amounts_below shape lane key seen w (length seen)))
no_amounts shape lane key w link seen none same =
    ap (λ (xs : List (ℕ × RowValue)). quad_of (map (λ y. measure_of shape lane y) (map (λ y. y.1) xs)))
    (sym (picks_zero (layout shape) w (leaf_of shape lane key) seen) ∙ (ap (picks (layout shape) w (leaf_of shape lane key) seen) (sym none) ∙ same))

pub same_amounts : (shape : ShapeValue) (lane key w link : ℕ) (seen : List Entry) → 0 < link
    → picks (layout shape) w (leaf_of shape lane key) seen link ≡ picks (layout shape) w (leaf_of shape lane key) seen (length seen)
    → quad_of (amounts_below shape lane key seen w (link - 1 + 1)) ≡ quad_of (amounts_below shape lane key seen w (length seen))
same_amounts shape lane key w link seen some same =
    let e : link - 1 + 1 ≡ link = omega (arith, some) in
    ap (λ (xs : List (ℕ × RowValue)). quad_of (map (λ y. measure_of shape lane y) (map (λ y. y.1) xs)))
    (ap (picks (layout shape) w (leaf_of shape lane key) seen) e ∙ same)

pub entry_of : (shape : ShapeValue) (lane key w link : ℕ) (seen old : List Entry) (p : Pass) → old ≡ seen → 0 < link → link ≤ length seen
    → IsWalking shape seen w (leaf_of shape lane key) link p → IsEntryOf shape lane key w (link - 1) old
entry_of shape lane key w link seen old p same some le walking =
    let next : link ≡ suc (link - 1) = omega (arith, some) in
    let e = walking.tells.names (link - 1) next (omega (arith, some, le)) in
    record { entry = e.0; at = ap (λ (es : List Entry). slice_get es (link - 1)) same ∙ e.1; stands = e.2 }

-- the walk down to the newest entry that was seen, and its three words
pub quad_steps : (shape : ShapeValue) (w : ℕ) (f m n : PassValue) (link before steps after found : ℕ) → IsCounting shape w f m link 0 (before + 1) steps
    → ((k v : ℕ) → Met m.view k v → Met n.view k v) → after ≤ steps + found → ChainSteps shape w f n found before after
quad_steps shape w f m n link before steps after found c keeps more =
    let count = c.count in
    let went = c.went in
    record {
      fresh = c.fresh;
      went = record {
        distinct = went.distinct;
        within = went.within;
        met = λ o h. keeps o w (went.met o h);
        apart = went.apart;
        keeps = λ o v x. keeps o v (went.keeps o v x);
      };
      steps = omega (arith, count, more);
    }

-- a chain has no more entries than were seen
pick_few : (sh : Layout) (w : ℕ) (s : Spot) (o : ℕ) (x : Option Entry) (xs : List (ℕ × RowValue)) → length (pick_at sh w s o x ++ xs) ≤ suc (length xs)
pick_few sh w s o None xs = omega arith
pick_few sh w s o (Some e) xs = few _ _
  where
    few : (a b : Bool) → length (cond a (cond b ((o, e.row) ∷ []) []) [] ++ xs) ≤ suc (length xs)
    few true true = omega arith
    few true false = omega arith
    few false b = omega arith

picks_few : (sh : Layout) (w : ℕ) (s : Spot) (seen : List Entry) (n : ℕ) → length (picks sh w s seen n) ≤ n
picks_few sh w s seen zero = (let e = ap (λ (xs : List (ℕ × RowValue)). length xs) (picks_zero sh w s seen) in omega (arith, e))
picks_few sh w s seen (suc o) =
    let e = ap (λ (xs : List (ℕ × RowValue)). length xs) (picks_next sh w s seen o) in
    let a = pick_few sh w s o (slice_get seen o) (picks sh w s seen o) in
    let b = picks_few sh w s seen o in
    omega (arith, e, a, b)

pub amounts_few : (shape : ShapeValue) (lane key w n : ℕ) (seen : List Entry) → length (amounts_below shape lane key seen w n) ≤ n
amounts_few shape lane key w n seen =
    let a = length-map (map (λ (y : ℕ × RowValue). y.1) (picks (layout shape) w (leaf_of shape lane key) seen n)) (λ y. measure_of shape lane y) in
    let b = length-map (picks (layout shape) w (leaf_of shape lane key) seen n) (λ (y : ℕ × RowValue). y.1) in
    let c = picks_few (layout shape) w (leaf_of shape lane key) seen n in
    omega (arith, a, b, c)

-- The quads of a leaf, writer by writer.
pub amounts_start : (shape : ShapeValue) (lane key : ℕ) (seen : List Entry)
    → ◌≡◌ {A = QuadValue} (record { count = 0; sum = 0; least = 0; greatest = 0 }) (quad_of (leaf_amounts shape lane key seen 0))
unfolding leaf_amounts
amounts_start shape lane key seen = refl

pub amounts_next : (shape : ShapeValue) (lane key w next : ℕ) (seen old : List Entry) (total quad merged : QuadValue) → next ≡ suc w → old ≡ seen
    → total ≡ quad_of (leaf_amounts shape lane key seen w) → quad ≡ quad_of (amounts_below shape lane key old w (length old))
    → ((xs ys : List ℕ) → total ≡ quad_of xs → quad ≡ quad_of ys → merged ≡ quad_of (xs ++ ys)) → merged ≡ quad_of (leaf_amounts shape lane key seen next)
unfolding leaf_amounts
amounts_next shape lane key w next seen old total quad merged one same a b both' =
    both' (leaf_amounts shape lane key seen w) (amounts_below shape lane key seen w (length seen)) a
    (b ∙ ap (λ (es : List Entry). quad_of (amounts_below shape lane key es w (length es))) same)
    ∙ ap (λ (k : ℕ). quad_of (leaf_amounts shape lane key seen k)) (sym one)
