-- The segments of a log, end to end.
use Rattle.std.proofs.Common.{◌≡◌, ◌<◌, ◌≤◌, ◌+◌, ◌-◌, ◌*◌, ◌/◌, ◌%◌, ℕ, zero, suc, List, [], ◌∷◌, ◌++◌, length, get_or, map, take, drop, Some, slice_get, refl, sym, ap, ap₂, subst, ◌∙◌, arith, inl, inr, length-append, append_assoc, append-nil, mul-zero, mul-suc, mul-le-mul_left, mul_assoc, mul_comm, ◌^◌}
use Rattle.std.proofs.Math.Seq.{drop-drop}
use Rattle.std.proofs.lemmas.Bool.{cases_eq, cases_lt}
use Rattle.std.proofs.lemmas.List.{length-take, map-append, take-append-drop, drop_at}
use Rattle.std.proofs.lemmas.Option.{slice_get-get_or}
use Rattle.std.proofs.lemmas.List.Concat.{flat_map-append}
use Rattle.std.specs.List.{All, flat_map, AllZip}
use Rattle.cf_row.proofs.Lists.{get_push_same, get_push_other, has_left}
use Rattle.cf_row.specs.Row.{RowValue}
use Rattle.cf_row.specs.declared.row.Entry.{Entry}
use Rattle.cf_plain.specs.Order.{rows_of, written_by, IsLogOf}
use Rattle.cf_law.specs.Passes.{Pass}
use Rattle.cf_shape.specs.Lanes.{ShapeValue}
use Rattle.cf_table.specs.Values.{PassValue, LogValue, IsOf}
use Rattle.cf_table.specs.Moves.{SealValue}
use Rattle.cf_segments.specs.Blocks.{block}
use Rattle.cf_segments.specs.Loaded.{IsLogFrom, HasLoaded}
use Rattle.cf_segments.specs.Segments.{SegmentsValue, segments_of, all_of, seen_of, entries_of, base_of, told_from, AllowsSegments, IsSegment, IsOpened, IsSegments, HoldsRows, HasTurnedOver, HasLooked, HaveLooked, sealed}
use Rattle.cf_segments.specs.declared.segments.Segment.{Segment}
use Rattle.cf_segments.proofs.Alls.{all_append}
use Rattle.cf_segments.proofs.Loaded.{opened, settled_still}
use Rattle.cf_segments.proofs.Zips.{zip_back, zip_long, zip_append}
use Rattle.cf_segments.proofs.Blocks.{first_block, whole_block, next_block}
use Rattle.cf_segments.proofs.Parts.{part_after, part_before, rows_append}
use Rattle.cf_plain.proofs.Orders.{written_append}

-- a part of what lies behind a list
part_behind : {X : Type 0} (m i j : ℕ) (xs ys : List X) → i ≡ length xs + j → take m (drop i (xs ++ ys)) ≡ take m (drop j ys)
part_behind m i j xs ys at = ap (λ (k : ℕ). take m (drop k (xs ++ ys))) at
    ∙ ap (take m) (sym (drop-drop j (length xs) (xs ++ ys)) ∙ ap (drop j) (drop_at xs ys (length xs) refl))

-- a log of some whole batches, and then a log of the rows behind them
pub log_join : (first b : ℕ) (xs ys : List RowValue) (writers : ℕ) (es fs : List Entry) → IsLogFrom first xs writers es
    → IsLogFrom (first + length xs) ys writers fs → length xs ≡ 4096 * b → IsLogFrom first (xs ++ ys) writers (es ++ fs)
log_join first b xs ys writers es fs one two long = record {
  size = length-append es fs ∙ (ap₂ (λ i j. i + j) one.size two.size ∙ sym (length-append xs ys));
  exist = all_append (λ e. e.writer < writers) es fs one.exist two.exist;
  own = λ c w lt. elim (cases_lt c b) [
    | inl before ↦
        let far : 4096 * c + 4096 ≤ 4096 * b = omega (arith, before) in
        ap (written_by w) (part_before 4096 (4096 * c) es fs (omega (arith, far, one.size, long)))
        ∙ (one.own c w lt ∙ ap (rows_of writers w (first + 4096 * c)) (sym (part_before 4096 (4096 * c) xs ys (omega (arith, far, long)))))
    | inr since ↦
        let j : ℕ = 4096 * (c - b) in
        let at : 4096 * c ≡ length xs + j = omega (arith, since, long) in
        let number : first + length xs + j ≡ first + 4096 * c = omega (arith, at) in
        ap (written_by w) (part_behind 4096 (4096 * c) j es fs (omega (arith, at, one.size)))
        ∙ (two.own (c - b) w lt
        ∙ (ap (λ (n : ℕ). rows_of writers w n (take 4096 (drop j ys))) number
        ∙ ap (rows_of writers w (first + 4096 * c)) (sym (part_behind 4096 (4096 * c) j xs ys at))))
  ];
}

-- from the first row on
pub from_first : (rows : List RowValue) (writers : ℕ) (log : List Entry) → IsLogFrom 0 rows writers log → IsLogOf rows writers log
from_first rows writers log is = record {
  size = is.size;
  exist = is.exist;
  own = λ b w lt. is.own b w lt ∙ ap (λ (n : ℕ). rows_of writers w n (take 4096 (drop (4096 * b) rows))) (let e : 0 + 4096 * b ≡ 4096 * b = omega arith in e);
}

module _ (n writers : ℕ) where
  -- segment k of some has block k of the rows, of which the first is row number `first`
  abbrev pub HaveBlocks : ℕ → List Segment → List RowValue → Type 0
  HaveBlocks first segments rows =
      (k : ℕ) (segment : Segment) → slice_get segments k ≡ Some segment
      → IsLogFrom (first + n * k) (block n k rows) writers (seen_of segment)
      × ((w : ℕ) → w < writers → written_by w (seen_of segment) ≡ rows_of writers w (first + n * k) (block n k rows))

  -- behind the first segment stand those of the rows behind its block
  later : (first : ℕ) (segment : Segment) (segments : List Segment) (rows : List RowValue) → HaveBlocks first (segment ∷ segments) rows
      → HaveBlocks (first + n) segments (drop n rows)
  later first segment segments rows have k g at =
      let step = mul-suc n k in
      let number : first + n * suc k ≡ first + n + n * k = omega (arith, step) in
      let made = have (suc k) g at in (
        subst (λ (i : ℕ). IsLogFrom i (block n k (drop n rows)) writers (seen_of g)) number
            (subst (λ (rs : List RowValue). IsLogFrom (first + n * suc k) rs writers (seen_of g)) (next_block n k rows) made.0),
        λ w lt. made.1 w lt
            ∙ (ap (rows_of writers w (first + n * suc k)) (next_block n k rows) ∙ ap (λ (i : ℕ). rows_of writers w i (block n k (drop n rows))) number),
      )

  -- the first segment's own rows
  front_long : (m : ℕ) (rows : List RowValue) → n * suc m ≤ length rows → length (take n rows) ≡ n
  front_long m rows full = (let step = mul-suc n m in let long = length-take n rows in omega (arith, full, step, long))

  back_full : (m : ℕ) (rows : List RowValue) → n * suc m ≤ length rows → length rows ≤ n * suc m + n → (n * m ≤ length (drop n rows))
      × (length (drop n rows) ≤ n * m + n)
  back_full m rows full room =
      let step = mul-suc n m in
      let all = ap length (take-append-drop n rows) in
      let sum = length-append (take n rows) (drop n rows) in
      let front = front_long m rows full in
      (omega (arith, full, step, all, sum, front), omega (arith, room, step, all, sum, front))

  -- the entries of segments that hold the rows block by block are a log of them
  pub chain_log : (first : ℕ) (closed : List Segment) (current : Segment) (rows : List RowValue) → (0 < length closed → n % 4096 ≡ 0)
      → HaveBlocks first (closed ++ current ∷ []) rows → n * length closed ≤ length rows → length rows ≤ n * length closed + n
      → IsLogFrom first rows writers (flat_map seen_of (closed ++ current ∷ []))
  chain_log first [] current rows whole have full room =
      let none = mul-zero n in
      let at : first + n * 0 ≡ first = omega (arith, none) in
      subst (IsLogFrom first rows writers) (sym (append-nil (seen_of current)))
      (subst (λ (rs : List RowValue). IsLogFrom first rs writers (seen_of current)) (whole_block n rows (omega (arith, room, none)))
      (subst (λ (i : ℕ). IsLogFrom i (block n 0 rows) writers (seen_of current)) at (have 0 current refl).0))
  chain_log first (c ∷ cs) current rows whole have full room =
      let none = mul-zero n in
      let at : first + n * 0 ≡ first = omega (arith, none) in
      let n_whole : n % 4096 ≡ 0 = whole (omega arith) in
      let long : length (take n rows) ≡ n = front_long (length cs) rows full in
      let rest_full = back_full (length cs) rows full room in
      let batches : length (take n rows) ≡ 4096 * (n / 4096) = omega (arith, n_whole, long) in
      let one : IsLogFrom first (take n rows) writers (seen_of c) =
      subst (λ (rs : List RowValue). IsLogFrom first rs writers (seen_of c)) (first_block n rows)
      (subst (λ (i : ℕ). IsLogFrom i (block n 0 rows) writers (seen_of c)) at (have 0 c refl).0) in
      let rest : IsLogFrom (first + n) (drop n rows) writers (flat_map seen_of (cs ++ current ∷ [])) =
      chain_log (first + n) cs current (drop n rows) (λ some. n_whole) (later first c (cs ++ current ∷ []) rows have) rest_full.0 rest_full.1 in
      subst (λ (rs : List RowValue). IsLogFrom first rs writers (seen_of c ++ flat_map seen_of (cs ++ current ∷ []))) (take-append-drop n rows)
      (log_join first (n / 4096) (take n rows) (drop n rows) writers (seen_of c) (flat_map seen_of (cs ++ current ∷ [])) one
      (subst (λ (i : ℕ). IsLogFrom (first + i) (drop n rows) writers (flat_map seen_of (cs ++ current ∷ []))) (sym long) rest) batches)

  -- and each writer's are its rows
  pub chain_own : (first : ℕ) (closed : List Segment) (current : Segment) (rows : List RowValue) → HaveBlocks first (closed ++ current ∷ []) rows
      → n * length closed ≤ length rows → length rows ≤ n * length closed + n
      → (w : ℕ) → w < writers → written_by w (flat_map seen_of (closed ++ current ∷ [])) ≡ rows_of writers w first rows
  chain_own first [] current rows have full room w lt =
      let none = mul-zero n in
      let at : first + n * 0 ≡ first = omega (arith, none) in
      ap (written_by w) (append-nil (seen_of current))
      ∙ ((have 0 current refl).1 w lt
      ∙ (ap (λ (i : ℕ). rows_of writers w i (block n 0 rows)) at ∙ ap (rows_of writers w first) (whole_block n rows (omega (arith, room, none)))))
  chain_own first (c ∷ cs) current rows have full room w lt =
      let none = mul-zero n in
      let at : first + n * 0 ≡ first = omega (arith, none) in
      let long : length (take n rows) ≡ n = front_long (length cs) rows full in
      let rest_full = back_full (length cs) rows full room in
      let one : written_by w (seen_of c) ≡ rows_of writers w first (take n rows) = (have 0 c refl).1 w lt
      ∙ (ap (λ (i : ℕ). rows_of writers w i (block n 0 rows)) at ∙ ap (rows_of writers w first) (first_block n rows)) in
      let rest : written_by w (flat_map seen_of (cs ++ current ∷ [])) ≡ rows_of writers w (first + n) (drop n rows) =
      chain_own (first + n) cs current (drop n rows) (later first c (cs ++ current ∷ []) rows have) rest_full.0 rest_full.1 w lt in
      written_append w (seen_of c) (flat_map seen_of (cs ++ current ∷ []))
      ∙ (ap₂ (λ (a b : List RowValue). a ++ b) one rest
      ∙ (ap (λ (i : ℕ). rows_of writers w first (take n rows) ++ rows_of writers w (first + i) (drop n rows)) (sym long)
      ∙ (sym (rows_append writers w first (take n rows) (drop n rows)) ∙ ap (rows_of writers w first) (take-append-drop n rows))))

-- segments that hold the rows have their blocks
have_blocks : (s : SegmentsValue) (rows : List RowValue) → HoldsRows s rows → HaveBlocks (s.shape).capacity (s.shape).writers 0 (all_of s) rows
have_blocks s rows holds k g at =
    let n = (s.shape).capacity in
    let number : n * k ≡ 0 + n * k = omega arith in
    let is = holds.each k g at in
    let shape : (g.log).shape ≡ s.shape = (holds.are.each k g at).shape_is in (
      subst (λ (i : ℕ). IsLogFrom i (block n k rows) (s.shape).writers (seen_of g)) number
          (subst (λ (h : ShapeValue). IsLogFrom (n * k) (block n k rows) h.writers (seen_of g)) shape is.is),
      λ w lt. subst (λ (h : ShapeValue). written_by w (seen_of g) ≡ rows_of h.writers w (n * k) (block n k rows)) shape
          (is.own w (subst (λ (h : ShapeValue). w < h.writers) (sym shape) lt))
          ∙ ap (λ (i : ℕ). rows_of (s.shape).writers w i (block n k rows)) number,
    )

-- The entries of all segments are a log of the rows that they hold, and each writer's are its rows.
pub rows_are_log : (s : SegmentsValue) (rows : List RowValue) → HoldsRows s rows
    → IsLogOf rows (s.shape).writers (entries_of s) × ((w : ℕ) → w < (s.shape).writers → written_by w (entries_of s) ≡ rows_of (s.shape).writers w 0 rows)
rows_are_log s rows holds =
    let is = holds.are in
    let n = (s.shape).capacity in
    let W = (s.shape).writers in
    let have = have_blocks s rows holds in
    let few = is.few in (
      from_first rows W (entries_of s) (chain_log n W 0 s.closed s.current rows (λ some. is.sizes.whole (omega (arith, some, few))) have holds.full holds.room),
      chain_own n W 0 s.closed s.current rows have holds.full holds.room,
    )

-- one more segment's tails
pub told_push : (n base : ℕ) (segments : List Segment) (segment : Segment)
    → told_from n base (segments ++ segment ∷ []) ≡ told_from n base segments ++ map (λ tail. base + n * length segments + tail) (segment.root.view).told
told_push n base [] segment =
    let none = mul-zero n in
    let at : base ≡ base + n * 0 = omega (arith, none) in
    append-nil (map (λ tail. base + tail) (segment.root.view).told) ∙ ap (λ (i : ℕ). map (λ tail. i + tail) (segment.root.view).told) at
told_push n base (g ∷ gs) segment =
    let step = mul-suc n (length gs) in
    let at : base + n + n * length gs ≡ base + n * suc (length gs) = omega (arith, step) in
    let first : List ℕ = map (λ tail. base + tail) (g.root.view).told in
    ap (λ (ts : List ℕ). first ++ ts) (told_push n (base + n) gs segment)
    ∙ (sym (append_assoc first (told_from n (base + n) gs) (map (λ tail. base + n + n * length gs + tail) (segment.root.view).told))
    ∙ ap (λ (i : ℕ). (first ++ told_from n (base + n) gs) ++ map (λ tail. i + tail) (segment.root.view).told) at)

module _ (shape : ShapeValue) (segment : Segment) (new : IsOpened shape segment) where
  -- a segment just opened has seen nothing, and was told nothing
  pub opened_seen : seen_of segment ≡ []
  opened_seen = ap (λ (p : Pass). p.seen) new.root

  pub opened_told : (segment.root.view).told ≡ []
  opened_told = ap (λ (p : Pass). p.told) new.root

  -- and has loaded no row, from any number on
  pub opened_empty : (first : ℕ) → HasLoaded segment.log first [] segment.root
  opened_empty first = opened segment.log first segment.root new.is.of new.root

  -- the first segment is open
  pub open_lawful : (most : ℕ) → AllowsSegments shape most → IsSegments (segments_of most [] segment)
  open_lawful most sizes = (let some = sizes.some in record {
    sizes = subst (λ (h : ShapeValue). AllowsSegments h most) (sym new.is.shape_is) sizes;
    few = omega (arith, some);
    each = λ k g at. only k g at;
  })
    where
      only : (k : ℕ) (g : Segment) → slice_get (segment ∷ []) k ≡ Some g → IsSegment (segment.log).shape g
      only zero g at =
          let e : segment ≡ g = cc at in
          subst (λ (h : ShapeValue). IsSegment h g) (sym new.is.shape_is) (subst (IsSegment shape) e new.is)
      only (suc k) g at = absurd (cc at)

  pub open_holds : (most : ℕ) → AllowsSegments shape most → HoldsRows (segments_of most [] segment) []
  open_holds most sizes = (let none = mul-zero (segment.log).shape.capacity in record {
    are = open_lawful most sizes;
    each = λ k g at. only k g at;
    full = omega (arith, none);
    room = omega arith;
  })
    where
      only : (k : ℕ) (g : Segment) → slice_get (segment ∷ []) k ≡ Some g
          → HasLoaded g.log ((segment.log).shape.capacity * k) (block (segment.log).shape.capacity k []) g.root
      only zero g at =
          let n = (segment.log).shape.capacity in
          let e : segment ≡ g = cc at in
          subst (λ (h : Segment). HasLoaded h.log (n * 0) (block n 0 []) h.root) e
          (subst (λ (rs : List RowValue). HasLoaded segment.log (n * 0) rs segment.root) (sym (part_after n (n * 0) [] (omega arith)))
          (opened_empty (n * 0)))
      only (suc k) g at = absurd (cc at)

-- A segment was opened behind the current one.
module _ (most : ℕ) (closed : List Segment) (current next : Segment) (new : IsOpened (current.log).shape next) (room : length closed + 1 < most) where
  -- the shape, and the segments so far
  abbrev shape : ShapeValue
  shape = (current.log).shape

  abbrev before : List Segment
  before = closed ++ current ∷ []

  -- which segment is the last
  is_last : (k : ℕ) (g : Segment) → slice_get (before ++ next ∷ []) k ≡ Some g → k ≡ length before → next ≡ g
  is_last k g at last = (let f : Some next ≡ Some g = sym (get_push_same before next) ∙ (ap (slice_get (before ++ next ∷ [])) (sym last) ∙ at) in cc f)

  pub turn_lawful : IsSegments (segments_of most closed current) → IsSegments (segments_of most (closed ++ current ∷ []) next)
  turn_lawful is = (let long = length-append closed (current ∷ []) in record {
    sizes = subst (λ (h : ShapeValue). AllowsSegments h most) (sym new.is.shape_is) is.sizes;
    few = omega (arith, room, long);
    each = λ k g at. subst (λ (h : ShapeValue). IsSegment h g) (sym new.is.shape_is) (one k g at);
  })
    where
      one : (k : ℕ) (g : Segment) → slice_get (before ++ next ∷ []) k ≡ Some g → IsSegment shape g
      one k g at = elim (cases_eq k (length before)) [
        | inl last ↦ subst (IsSegment shape) (is_last k g at last) new.is
        | inr other ↦ is.each k g (sym (get_push_other before next k other) ∙ at)
      ]

  turn_holds : (rows : List RowValue) → HoldsRows (segments_of most closed current) rows → length rows ≡ shape.capacity * length closed + shape.capacity
      → HoldsRows (record { shape = shape; most = most; closed = closed ++ current ∷ []; current = next }) rows
  turn_holds rows holds long =
      let n = shape.capacity in
      let more = length-append closed (current ∷ []) in
      let step : n * length before ≡ n * length closed + n = ap (λ (k : ℕ). n * k) (let e : length before ≡ suc (length closed) = omega (arith, more) in e)
      ∙ mul-suc n (length closed) in record {
        are = subst (λ (h : ShapeValue). IsSegments (record { shape = h; most = most; closed = closed ++ current ∷ []; current = next })) new.is.shape_is
            (turn_lawful holds.are);
        each = λ k g at. one k g at;
        full = omega (arith, long, step);
        room = omega (arith, long, step);
      }
    where
      one : (k : ℕ) (g : Segment) → slice_get (before ++ next ∷ []) k ≡ Some g → HasLoaded g.log (shape.capacity * k) (block shape.capacity k rows) g.root
      one k g at = elim (cases_eq k (length before)) [
        | inl last ↦
            let n = shape.capacity in
            let more = length-append closed (current ∷ []) in
            let step : n * k ≡ n * length closed + n = ap (λ (i : ℕ). n * i) (let e : k ≡ suc (length closed) = omega (arith, last, more) in e)
            ∙ mul-suc n (length closed) in
            subst (λ (h : Segment). HasLoaded h.log (n * k) (block n k rows) h.root) (is_last k g at last)
            (subst (λ (rs : List RowValue). HasLoaded next.log (n * k) rs next.root) (sym (part_after n (n * k) rows (omega (arith, long, step))))
            (opened_empty shape next new (n * k)))
        | inr other ↦ holds.each k g (sym (get_push_other before next k other) ∙ at)
      ]

  pub has_turned : HasTurnedOver (segments_of most closed current) (segments_of most (closed ++ current ∷ []) next)
  has_turned = subst
      (λ (h : ShapeValue). HasTurnedOver (segments_of most closed current) (record { shape = h; most = most; closed = closed ++ current ∷ []; current = next }))
      (sym new.is.shape_is) (record {
        same = refl;
        empty = opened_seen shape next new;
        entries = flat_map-append seen_of before (next ∷ [])
            ∙ (ap (λ (es : List Entry). flat_map seen_of before ++ (es ++ [])) (opened_seen shape next new) ∙ append-nil (flat_map seen_of before));
        told = told_push shape.capacity 0 before next
            ∙ (ap (λ (ts : List ℕ). told_from shape.capacity 0 before ++ map (λ tail. 0 + shape.capacity * length before + tail) ts)
            (opened_told shape next new)
            ∙ append-nil (told_from shape.capacity 0 before));
        holds = turn_holds;
      })

-- a segment that was looked at
looked_segment : (shape : ShapeValue) (old new : Segment) → IsSegment shape old → HasLooked old new → IsSegment shape new
looked_segment shape old new is looked = record {
  shape_is = ap (λ (l : LogValue). l.shape) looked.log ∙ is.shape_is;
  of = subst (IsOf new.root) (sym looked.log)
      (record { table = ap (λ (h : PassValue). h.table) looked.root ∙ is.of.table; nodes = ap (λ (h : PassValue). h.nodes) looked.root ∙ is.of.nodes });
  settled = settled_still shape old.root new.root is.settled (ap (λ (h : PassValue). (h.view).books) looked.root)
      (ap (λ (h : PassValue). (h.view).seen) looked.root);
}

-- all segments were looked at
pub looked_lawful : (most : ℕ) (closed others : List Segment) (current other : Segment) → IsSegments (segments_of most closed current)
    → AllZip HasLooked closed others → HasLooked current other → IsSegments (segments_of most others other)
looked_lawful most closed others current other is zip last =
    let same : (other.log).shape ≡ (current.log).shape = ap (λ (l : LogValue). l.shape) last.log in
    let long = zip_long HasLooked closed others zip in
    let few = is.few in
    subst (λ (h : ShapeValue). IsSegments (record { shape = h; most = most; closed = others; current = other })) (sym same) (record {
      sizes = is.sizes;
      few = omega (arith, few, long);
      each = λ k g at.
          (let z = zip_back HasLooked (closed ++ current ∷ []) (others ++ other ∷ []) k g
          (zip_append HasLooked closed (current ∷ []) others (other ∷ []) zip (last, tt)) at in
          looked_segment (current.log).shape z.0 g (is.each k z.0 z.1) z.2);
    })

pub looked_none : (segment : Segment) → HasLooked segment segment
looked_none segment = record { log = refl; root = refl }

pub each_none : (gs : List Segment) → AllZip HasLooked gs gs
each_none [] = tt
each_none (g ∷ gs) = (looked_none g, each_none gs)

pub have_none : (s : SegmentsValue) → HaveLooked s s
have_none s = record { same = refl; closed = each_none s.closed; current = looked_none s.current }

-- each segment is one of the shape
pub current_is : (s : SegmentsValue) → IsSegments s → IsSegment s.shape s.current
current_is s is = is.each (length s.closed) s.current (get_push_same s.closed s.current)

pub closed_are : (s : SegmentsValue) → IsSegments s → All (IsSegment s.shape) s.closed
closed_are s is k d lt = is.each k (get_or s.closed k d) (has_left s.closed (s.current ∷ []) k (get_or s.closed k d) (slice_get-get_or s.closed k d lt))

-- a look changes no seal
looked_sealed : (old new : Segment) → HasLooked old new → sealed new ≡ sealed old
looked_sealed old new looked =
    ap₂ (λ (es : List Entry) (ts : List ℕ). record { entries = es; told = ts }) (ap (λ (h : PassValue). (h.view).seen) looked.root)
    (ap (λ (h : PassValue). (h.view).told) looked.root)

pub all_sealed : (s t : SegmentsValue) → HaveLooked s t → map sealed t.closed ++ sealed t.current ∷ [] ≡ map sealed (all_of s)
all_sealed s t looked =
    ap₂ (λ (xs : List SealValue) (x : SealValue). xs ++ x ∷ []) (each s.closed t.closed looked.closed) (looked_sealed s.current t.current looked.current)
    ∙ sym (map-append sealed s.closed (s.current ∷ []))
  where
    each : (gs hs : List Segment) → AllZip HasLooked gs hs → map sealed hs ≡ map sealed gs
    each [] [] all = refl
    each [] (h ∷ hs) all = absurd all
    each (g ∷ gs) [] all = absurd all
    each (g ∷ gs) (h ∷ hs) all = ap₂ (λ (x : SealValue) (xs : List SealValue). x ∷ xs) (looked_sealed g h all.0) (each gs hs all.1)

-- there is room for 2^20 rows at most
pub room_few : (s : SegmentsValue) → IsSegments s → base_of s + (s.shape).capacity ≤ 2 ^ 20
room_few s is =
    let n = (s.shape).capacity in
    let few = is.few in
    let far : n * suc (length s.closed) ≤ n * s.most = mul-le-mul_left n (let e : suc (length s.closed) ≤ s.most = omega (arith, few) in e) in
    let step = mul-suc n (length s.closed) in
    let turn = mul_comm n s.most in
    let rows = is.sizes.rows in
    omega (arith, far, step, turn, rows)

-- the current segment begins with a batch of its own
pub base_whole : (s : SegmentsValue) → IsSegments s → base_of s % 4096 ≡ 0
base_whole s is = elim (cases_lt 0 (length s.closed)) [
  | inl some ↦
      let n = (s.shape).capacity in
      let few = is.few in
      let whole : n % 4096 ≡ 0 = is.sizes.whole (omega (arith, some, few)) in
      let size : n ≡ 4096 * (n / 4096) = omega (arith, whole) in
      let all : n * length s.closed ≡ 4096 * (n / 4096 * length s.closed) = ap (λ (k : ℕ). k * length s.closed) size
      ∙ mul_assoc 4096 (n / 4096) (length s.closed) in
      omega (arith, all)
  | inr none ↦
      let zero_long : length s.closed ≡ 0 = omega (arith, none) in
      let all : base_of s ≡ 0 = ap (λ (k : ℕ). (s.shape).capacity * k) zero_long ∙ mul-zero (s.shape).capacity in
      omega (arith, all)
]
