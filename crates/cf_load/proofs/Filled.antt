-- The current segment is filled.
use Rattle.std.proofs.Common.{◌≡◌, ◌<◌, ◌≤◌, ◌+◌, ◌*◌, ℕ, suc, List, [], ◌∷◌, ◌++◌, length, map, take, drop, Some, slice_get, refl, sym, ap, subst, ◌∙◌, arith, inl, inr, length-append, append_assoc, append-nil, mul-suc, mul-le-mul_left, Result, Ok, Err, MatchResult}
use Rattle.std.proofs.lemmas.Bool.{cases_eq}
use Rattle.std.proofs.lemmas.List.{length-drop, take_all, drop-append-le, take-append-drop}
use Rattle.std.proofs.lemmas.List.Concat.{flat_map-append}
use Rattle.std.proofs.lemmas.Option.{slice_get_within}
use Rattle.std.proofs.Math.Seq.{take-append_seam, take_at}
use Rattle.std.specs.List.{flat_map}
use Rattle.cf_row.proofs.Lists.{get_push_same, get_push_other}
use Rattle.cf_row.specs.Row.{RowValue}
use Rattle.cf_row.specs.declared.row.Entry.{Entry}
use Rattle.cf_plain.specs.Order.{rows_of, written_by}
use Rattle.cf_shape.specs.Lanes.{ShapeValue}
use Rattle.cf_shape.specs.Nodes.{distinct}
use Rattle.cf_table.specs.Values.{PassValue, LogValue, IsOf}
use Rattle.cf_table.specs.Moves.{HoldsAllBooks}
use Rattle.cf_segments.specs.Blocks.{block}
use Rattle.cf_segments.specs.Loaded.{HasLoaded}
use Rattle.cf_load.specs.Loading.{IsShort, HasStopped}
use Rattle.cf_load.specs.Loads.{LacksNodes, HaveStopped}
use Rattle.cf_segments.specs.Needed.{HasRunOut}
use Rattle.cf_segments.specs.Segments.{SegmentsValue, all_of, seen_of, entries_of, base_of, told_from, told_of, IsSegment, IsSegments, HoldsRows, IsSameSegment, AreFirst, SegmentsGoOn, KeepsAll}
use Rattle.cf_load.specs.declared.loads.LoadFault.{LoadFault}
use Rattle.cf_load.specs.declared.loads.LoadFault.TheVariants.{Full, NodesFull, Memory}
use Rattle.cf_segments.specs.declared.segments.Segment.{Segment}
use Rattle.cf_segments.proofs.Chains.{rows_are_log, told_push}
use Rattle.cf_segments.proofs.Kept.{kept_base, kept_holds}
use Rattle.cf_segments.proofs.Parts.{part_before, rows_append}
use Rattle.cf_plain.proofs.Orders.{written_append}

-- the segments, with that root in the current one
abbrev pub filled : SegmentsValue → PassValue → SegmentsValue
filled s root = record s { current = record { log = s.current.log; root = root } }

-- what stands before the same end
cancel_right : {X : Type 0} (xs ys zs : List X) → xs ++ zs ≡ ys ++ zs → xs ≡ ys
cancel_right xs ys zs same =
    let sum = ap length same in
    let long : length xs ≡ length ys = omega (arith, sum, length-append xs zs, length-append ys zs) in
    sym (take-append_seam xs zs) ∙ (ap (take (length xs)) same ∙ take_at ys zs (length xs) (sym long))

-- the entries of the closed segments and those of the current one
pub entries_split : (s : SegmentsValue) → entries_of s ≡ flat_map seen_of s.closed ++ seen_of s.current
entries_split s = flat_map-append seen_of s.closed (s.current ∷ []) ∙ ap (λ (es : List Entry). flat_map seen_of s.closed ++ es) (append-nil (seen_of s.current))

first_last : (gs : List Segment) (g h : Segment) → IsSameSegment g h → AreFirst (gs ++ g ∷ []) (gs ++ h ∷ [])
first_last [] g h same = (same, tt)
first_last (f ∷ fs) g h same = (record { log = refl; root = refl }, first_last fs g h same)

-- they go on
pub filled_goes : (s : SegmentsValue) (root : PassValue) → root ≡ record s.current.root { view = root.view } → SegmentsGoOn s (filled s root)
filled_goes s root same =
    record {
      shape = refl;
      most = refl;
      first = first_last s.closed s.current (record { log = s.current.log; root = root }) (record { log = refl; root = same });
    }

-- what the current root was told of comes at the end
pub filled_told : (s : SegmentsValue) (root : PassValue) (more : List ℕ)
    → map (λ tail. base_of s + tail) (root.view).told ≡ map (λ tail. base_of s + tail) (s.current.root.view).told ++ more
    → told_of (filled s root) ≡ told_of s ++ more
filled_told s root more is =
    let n = (s.shape).capacity in
    let first : List ℕ = told_from n 0 s.closed in
    let zero_base : 0 + base_of s ≡ base_of s = omega arith in
    let now = told_push n 0 s.closed (record { log = s.current.log; root = root }) in
    let old = told_push n 0 s.closed s.current in
    now
    ∙ (ap (λ (i : ℕ). first ++ map (λ tail. i + tail) (root.view).told) zero_base
    ∙ (ap (λ (ts : List ℕ). first ++ ts) is
    ∙ (sym (append_assoc first (map (λ tail. base_of s + tail) (s.current.root.view).told) more)
    ∙ ap (λ (ts : List ℕ). ts ++ more) (sym (old ∙ ap (λ (i : ℕ). first ++ map (λ tail. i + tail) (s.current.root.view).told) zero_base)))))

module _ (s : SegmentsValue) (root : PassValue) where
  -- the current segment then
  abbrev now : Segment
  now = record { log = s.current.log; root = root }

  -- which it is
  is_now : (k : ℕ) (g : Segment) → slice_get (s.closed ++ now ∷ []) k ≡ Some g → k ≡ length s.closed → now ≡ g
  is_now k g at last = (let f : Some now ≡ Some g = sym (get_push_same s.closed now) ∙ (ap (slice_get (s.closed ++ now ∷ [])) (sym last) ∙ at) in cc f)

  -- the others
  is_other : (k : ℕ) (g : Segment) → slice_get (s.closed ++ now ∷ []) k ≡ Some g → (k ≡ length s.closed → ⊥) → slice_get (all_of s) k ≡ Some g
  is_other k g at other = get_push_other s.closed s.current k other ∙ (sym (get_push_other s.closed now k other) ∙ at)

  pub filled_lawful : IsSegments s → IsOf root s.current.log → HoldsAllBooks (s.current.log).shape root.view → IsSegments (filled s root)
  filled_lawful is of settled =
      let same : (s.current.log).shape ≡ s.shape = (is.each (length s.closed) s.current (get_push_same s.closed s.current)).shape_is in
      let mine : IsSegment s.shape now = record { shape_is = same; of = of; settled = subst (λ (h : ShapeValue). HoldsAllBooks h root.view) same settled } in
      record {
        sizes = is.sizes;
        few = is.few;
        each = λ k g at. elim (cases_eq k (length s.closed)) [
          | inl last ↦ subst (IsSegment s.shape) (is_now k g at last) mine
          | inr other ↦ is.each k g (is_other k g at other)
        ];
      }

module _ (s : SegmentsValue) (before : List RowValue) (holds : HoldsRows s before) where
  -- the current segment's rows
  abbrev pub own_rows : List RowValue
  own_rows = block (s.shape).capacity (length s.closed) before

  pub current_has : HasLoaded s.current.log (base_of s) own_rows s.current.root
  current_has = holds.each (length s.closed) s.current (get_push_same s.closed s.current)

  -- they are all behind the base
  own_is : own_rows ≡ drop (base_of s) before
  own_is = (let room = holds.room in let rest = length-drop (base_of s) before in
      take_all (s.shape).capacity (drop (base_of s) before) (omega (arith, room, rest)))

  pub own_long : base_of s + length own_rows ≡ length before
  own_long = (let same = ap length own_is in let rest = length-drop (base_of s) before in let full = holds.full in omega (arith, same, rest, full))

  -- with more behind them
  own_more : (rows : List RowValue) → length before + length rows ≤ base_of s + (s.shape).capacity
      → block (s.shape).capacity (length s.closed) (before ++ rows) ≡ own_rows ++ rows
  own_more rows room =
      let full = holds.full in
      let rest = length-drop (base_of s) before in
      let all = length-append (drop (base_of s) before) rows in
      ap (take (s.shape).capacity) (drop-append-le (base_of s) before rows full)
      ∙ (take_all (s.shape).capacity (drop (base_of s) before ++ rows) (omega (arith, room, full, rest, all))
      ∙ ap (λ (rs : List RowValue). rs ++ rows) (sym own_is))

  -- the current segment has loaded rows more
  pub filled_holds : (root : PassValue) (rows : List RowValue) → length before + length rows ≤ base_of s + (s.shape).capacity
      → HasLoaded s.current.log (base_of s) (own_rows ++ rows) root → HoldsRows (filled s root) (before ++ rows)
  filled_holds root rows room has =
      let n = (s.shape).capacity in
      let full = holds.full in
      let sum = length-append before rows in record {
        are = filled_lawful s root holds.are has.of has.settled;
        each = λ k g at. elim (cases_eq k (length s.closed)) [
          | inl last ↦
              subst (λ (h : Segment). HasLoaded h.log (n * k) (block n k (before ++ rows)) h.root) (is_now s root k g at last)
              (subst (λ (i : ℕ). HasLoaded s.current.log (n * i) (block n i (before ++ rows)) root) (sym last)
              (subst (λ (rs : List RowValue). HasLoaded s.current.log (base_of s) rs root) (sym (own_more rows room)) has))
          | inr other ↦
              let low : k < length s.closed =
              slice_get_within s.closed k g (sym (get_push_other s.closed (record { log = s.current.log; root = root }) k other) ∙ at) in
              let far : n * suc k ≤ n * length s.closed = mul-le-mul_left n (let e : suc k ≤ length s.closed = omega (arith, low) in e) in
              let step = mul-suc n k in
              subst (λ (rs : List RowValue). HasLoaded g.log (n * k) rs g.root) (sym (part_before n (n * k) before rows (omega (arith, far, step, full))))
              (holds.each k g (is_other s root k g at other))
        ];
        full = omega (arith, full, sum);
        room = omega (arith, room, sum);
      }

  -- or no row
  pub filled_none : (root : PassValue) → HasLoaded s.current.log (base_of s) own_rows root → HoldsRows (filled s root) before
  filled_none root has =
      let room = holds.room in
      subst (HoldsRows (filled s root)) (append-nil before)
      (filled_holds root [] (omega (arith, room))
      (subst (λ (rs : List RowValue). HasLoaded s.current.log (base_of s) rs root) (sym (append-nil own_rows)) has))

  -- or a writer ran out of nodes
  pub filled_short : (root : PassValue) (rows : List RowValue) (w : ℕ) → length before + length rows ≤ base_of s + (s.shape).capacity
      → IsShort s.current.log (base_of s) (own_rows ++ rows) w root → LacksNodes (filled s root) (before ++ rows) w
  filled_short root rows w room short =
      let same : (s.current.log).shape ≡ s.shape = (holds.are.each (length s.closed) s.current (get_push_same s.closed s.current)).shape_is in record {
        are = filled_lawful s root holds.are short.of short.settled;
        exists = subst (λ (h : ShapeValue). w < h.writers) same short.exists;
        place = length s.closed;
        many = subst (λ (rs : List RowValue). (s.shape).nodes < distinct s.shape rs) (sym (own_more rows room))
            (subst (λ (h : ShapeValue). h.nodes < distinct h (own_rows ++ rows)) same short.many);
        out = subst (λ (rs : List RowValue). HasRunOut s.shape (base_of s) rs w root.view) (sym (own_more rows room))
            (subst (λ (h : ShapeValue). HasRunOut h (base_of s) (own_rows ++ rows) w root.view) same short.out);
        fronts = λ v lt. fronts v lt;
      }
    where
      W : ℕ
      W = (s.shape).writers

      fronts : (v : ℕ) → v < (s.shape).writers → (left : List RowValue)
          × (written_by v (entries_of (filled s root)) ++ left ≡ rows_of (s.shape).writers v 0 (before ++ rows))
      fronts v lt =
          let writers = (s.shape).writers in
          let base = base_of s in
          let front = take base before in
          let closed = flat_map seen_of s.closed in
          let shape_is : (s.current.log).shape ≡ s.shape = (holds.are.each (length s.closed) s.current (get_push_same s.closed s.current)).shape_is in
          let full = holds.full in
          let part : front ++ own_rows ≡ before = ap (λ (rs : List RowValue). front ++ rs) own_is ∙ take-append-drop base before in
          let long : length front ≡ base =
          (let sum = ap length part in let pair = length-append front own_rows in let own = own_long in omega (arith, sum, pair, own)) in
          let own : written_by v (seen_of s.current) ≡ rows_of writers v base own_rows =
          subst (λ (h : ShapeValue). written_by v (seen_of s.current) ≡ rows_of h.writers v base own_rows) shape_is
          (current_has.own v (subst (λ (h : ShapeValue). v < h.writers) (sym shape_is) lt)) in
          let split : (more : List RowValue) → rows_of writers v 0 (front ++ more) ≡ rows_of writers v 0 front ++ rows_of writers v base more =
          λ more. rows_append writers v 0 front more
          ∙ ap (λ (i : ℕ). rows_of writers v 0 front ++ rows_of writers v i more) (let e : 0 + length front ≡ base = omega (arith, long) in e) in
          let all : written_by v closed ++ written_by v (seen_of s.current) ≡ rows_of writers v 0 front ++ written_by v (seen_of s.current) =
          sym (written_append v closed (seen_of s.current))
          ∙ (ap (written_by v) (sym (entries_split s))
          ∙ ((rows_are_log s before holds).1 v lt
          ∙ (ap (rows_of writers v 0) (sym part) ∙ (split own_rows ∙ ap (λ (rs : List RowValue). rows_of writers v 0 front ++ rs) (sym own))))) in
          let before_is : written_by v closed ≡ rows_of writers v 0 front =
          cancel_right (written_by v closed) (rows_of writers v 0 front) (written_by v (seen_of s.current)) all in
          let f = short.fronts v (subst (λ (h : ShapeValue). v < h.writers) (sym shape_is) lt) in
          let tail : written_by v (root.view).seen ++ f.0 ≡ rows_of writers v base (own_rows ++ rows) =
          subst (λ (h : ShapeValue). written_by v (root.view).seen ++ f.0 ≡ rows_of h.writers v base (own_rows ++ rows)) shape_is f.1 in (
            f.0,
            ap (λ (es : List Entry). written_by v es ++ f.0) (entries_split (filled s root))
                ∙ (ap (λ (rs : List RowValue). rs ++ f.0)
                (written_append v closed (root.view).seen ∙ ap (λ (rs : List RowValue). rs ++ written_by v (root.view).seen) before_is)
                ∙ (append_assoc (rows_of writers v 0 front) (written_by v (root.view).seen) f.0
                ∙ (ap (λ (rs : List RowValue). rows_of writers v 0 front ++ rs) tail
                ∙ (sym (split (own_rows ++ rows))
                ∙ ap (rows_of writers v 0) (sym (append_assoc front own_rows rows) ∙ ap (λ (rs : List RowValue). rs ++ rows) part))))),
          )

  -- what is left after a fault
  pub filled_stopped : (root : PassValue) (rows : List RowValue) (fault : LoadFault) → length before + length rows ≤ base_of s + (s.shape).capacity
      → HasStopped s.current.log (base_of s) own_rows rows root fault → HaveStopped before rows (filled s root) fault
  filled_stopped root rows Full room stopped = stopped
  filled_stopped root rows (NodesFull w) room stopped = filled_short root rows w room stopped
  filled_stopped root rows Memory room stopped = elim stopped [
    | inl none ↦ inl (filled_none root none)
    | inr all ↦ inr (filled_holds root rows room all)
  ]

  -- what the current segment's log answered, said of all segments
  pub filled_result : {T : Type 0} (root : PassValue) (rows : List RowValue) (result : Result T LoadFault)
      → length before + length rows ≤ base_of s + (s.shape).capacity
      → MatchResult result (λ x. HasLoaded s.current.log (base_of s) (own_rows ++ rows) root) (HasStopped s.current.log (base_of s) own_rows rows root)
      → MatchResult result (λ x. HoldsRows (filled s root) (before ++ rows)) (HaveStopped before rows (filled s root))
  filled_result root rows (Ok x) room made = filled_holds root rows room made
  filled_result root rows (Err fault) room made = filled_stopped root rows fault room made

-- whatever was answered, the books are home
pub home_after : {T : Type 0} (log : LogValue) (first : ℕ) (before rows : List RowValue) (root : PassValue) (result : Result T LoadFault)
    → MatchResult result (λ x. HasLoaded log first (before ++ rows) root) (HasStopped log first before rows root) → IsOf root log
    × HoldsAllBooks log.shape root.view
home_after log first before rows root (Ok x) made = (made.of, made.settled)
home_after log first before rows root (Err Full) made = absurd made
home_after log first before rows root (Err (NodesFull w)) made = (made.of, made.settled)
home_after log first before rows root (Err Memory) made = elim made [
  | inl none ↦ (none.of, none.settled)
  | inr all ↦ (all.of, all.settled)
]

-- the closed segments are full
pub closed_long : (s : SegmentsValue) (rows : List RowValue) → HoldsRows s rows → length (flat_map seen_of s.closed) ≡ base_of s
closed_long s rows holds =
    let all = (rows_are_log s rows holds).0.size in
    let parts = ap length (entries_split s) in
    let sum = length-append (flat_map seen_of s.closed) (seen_of s.current) in
    let own = (current_has s rows holds).is.size in
    let long = own_long s rows holds in
    omega (arith, all, parts, sum, own, long)

module _ (s t : SegmentsValue) (keeps : KeepsAll s t) (before : List RowValue) (holds : HoldsRows s before) (base : ℕ) (base_is : base ≡ base_of s) where
  -- segments that were asked still hold the rows
  abbrev pub still : HoldsRows t before
  still = kept_holds s t keeps before holds

  pub still_long : base + length (own_rows t before still) ≡ length before
  still_long = (let long = own_long t before still in let same = kept_base s t keeps in omega (arith, long, same, base_is))

  pub still_has : HasLoaded t.current.log base (own_rows t before still) t.current.root
  still_has = subst (λ (i : ℕ). HasLoaded t.current.log i (own_rows t before still) t.current.root) (kept_base s t keeps ∙ sym base_is)
      (current_has t before still)
