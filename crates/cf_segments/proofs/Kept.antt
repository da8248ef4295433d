-- Segments that keep what they hold, and segments that go on.
use Rattle.std.proofs.Common.{◌≡◌, ◌+◌, ◌*◌, ℕ, List, [], ◌∷◌, ◌++◌, length, map, slice_get, refl, sym, ap, ap₂, subst, ◌∙◌, arith, ◌≤◌}
use Rattle.std.specs.List.{flat_map, AllZip}
use Rattle.cf_row.specs.Row.{RowValue}
use Rattle.cf_row.specs.declared.row.Entry.{Entry}
use Rattle.cf_shape.specs.Lanes.{ShapeValue}
use Rattle.cf_table.specs.Values.{PassValue, LogValue, IsOf}
use Rattle.cf_segments.specs.Blocks.{block}
use Rattle.cf_segments.specs.Loaded.{HasLoaded}
use Rattle.cf_segments.specs.Segments.{SegmentsValue, segments_of, all_of, seen_of, entries_of, base_of, told_from, told_of, AllowsSegments, IsSegment, IsSegments, HoldsRows, HasTurnedOver, IsSameSegment, AreFirst, SegmentsGoOn, KeepsSegment, KeepsAll}
use Rattle.cf_segments.specs.declared.segments.Segment.{Segment}
use Rattle.cf_segments.proofs.Zips.{zip_back, zip_long, zip_append}
use Rattle.cf_query.specs.Asking.{HasAsked}
use Rattle.cf_segments.proofs.Keeping.{keeps_asked, keeps_none, keeps_then, settled_kept, still_holds}
use Rattle.cf_law.specs.Passes.{Pass}
use Rattle.cf_law.specs.Steps.{new_pass}
use Rattle.cf_table.specs.Moves.{HoldsAllBooks}
use Rattle.cf_segments.specs.Readers.{Reads}

-- a segment that keeps what it holds is the same, and one of the shape
pub kept_same : (old new : Segment) → KeepsSegment old new → IsSameSegment old new
kept_same old new keeps = record { log = keeps.log; root = keeps.root.same }

pub kept_segment : (shape : ShapeValue) (old new : Segment) → IsSegment shape old → KeepsSegment old new → IsSegment shape new
kept_segment shape old new is keeps = record {
  shape_is = ap (λ (l : LogValue). l.shape) keeps.log ∙ is.shape_is;
  of = subst (IsOf new.root) (sym keeps.log)
      (record { table = ap (λ (h : PassValue). h.table) keeps.root.same ∙ is.of.table; nodes = ap (λ (h : PassValue). h.nodes) keeps.root.same ∙ is.of.nodes });
  settled = settled_kept shape old.root new.root keeps.root is.settled;
}

pub kept_loaded : (first : ℕ) (rows : List RowValue) (old new : Segment) → HasLoaded old.log first rows old.root → KeepsSegment old new
    → HasLoaded new.log first rows new.root
kept_loaded first rows old new has keeps =
    subst (λ (l : LogValue). HasLoaded l first rows new.root) (sym keeps.log) (still_holds old.log first rows old.root new.root has keeps.root)

pub segment_none : (g : Segment) → KeepsSegment g g
segment_none g = record { log = refl; root = keeps_none g.root }

pub segment_then : (f g h : Segment) → KeepsSegment f g → KeepsSegment g h → KeepsSegment f h
segment_then f g h a b = record { log = b.log ∙ a.log; root = keeps_then f.root g.root h.root a.root b.root }

pub segments_none : (gs : List Segment) → AllZip KeepsSegment gs gs
segments_none [] = tt
segments_none (g ∷ gs) = (segment_none g, segments_none gs)

pub segments_then : (fs gs hs : List Segment) → AllZip KeepsSegment fs gs → AllZip KeepsSegment gs hs → AllZip KeepsSegment fs hs
segments_then [] [] [] a b = tt
segments_then [] [] (h ∷ hs) a b = absurd b
segments_then [] (g ∷ gs) hs a b = absurd a
segments_then (f ∷ fs) [] hs a b = absurd a
segments_then (f ∷ fs) (g ∷ gs) [] a b = absurd b
segments_then (f ∷ fs) (g ∷ gs) (h ∷ hs) a b = (segment_then f g h a.0 b.0, segments_then fs gs hs a.1 b.1)

-- what all have seen and were told stays
pub segments_seen : (gs hs : List Segment) → AllZip KeepsSegment gs hs → flat_map seen_of hs ≡ flat_map seen_of gs
segments_seen [] [] all = refl
segments_seen [] (h ∷ hs) all = absurd all
segments_seen (g ∷ gs) [] all = absurd all
segments_seen (g ∷ gs) (h ∷ hs) all = ap₂ (λ (es fs : List Entry). es ++ fs) (all.0).root.seen (segments_seen gs hs all.1)

pub segments_told : (n base : ℕ) (gs hs : List Segment) → AllZip KeepsSegment gs hs → told_from n base hs ≡ told_from n base gs
segments_told n base [] [] all = refl
segments_told n base [] (h ∷ hs) all = absurd all
segments_told n base (g ∷ gs) [] all = absurd all
segments_told n base (g ∷ gs) (h ∷ hs) all =
    ap₂ (λ (ts us : List ℕ). map (λ tail. base + tail) ts ++ us) (all.0).root.told (segments_told n (base + n) gs hs all.1)

pub segments_first : (gs hs : List Segment) → AllZip KeepsSegment gs hs → AreFirst gs hs
segments_first [] hs all = tt
segments_first (g ∷ gs) [] all = absurd all
segments_first (g ∷ gs) (h ∷ hs) all = (kept_same g h all.0, segments_first gs hs all.1)

module _ (s t : SegmentsValue) (keeps : KeepsAll s t) where
  -- all segments, one by one
  pub kept_each : AllZip KeepsSegment (all_of s) (all_of t)
  kept_each = zip_append KeepsSegment s.closed (s.current ∷ []) t.closed (t.current ∷ []) keeps.closed (keeps.current, tt)

  pub kept_shape : t.shape ≡ s.shape
  kept_shape = ap (λ (u : SegmentsValue). u.shape) keeps.same

  pub kept_most : t.most ≡ s.most
  kept_most = ap (λ (u : SegmentsValue). u.most) keeps.same

  pub kept_entries : entries_of t ≡ entries_of s
  kept_entries = segments_seen (all_of s) (all_of t) kept_each

  pub kept_told : told_of t ≡ told_of s
  kept_told = ap (λ (h : ShapeValue). told_from h.capacity 0 (all_of t)) kept_shape ∙ segments_told (s.shape).capacity 0 (all_of s) (all_of t) kept_each

  pub kept_goes : SegmentsGoOn s t
  kept_goes = record { shape = kept_shape; most = kept_most; first = segments_first (all_of s) (all_of t) kept_each }

  pub kept_lawful : IsSegments s → IsSegments t
  kept_lawful is = (let few = is.few in let long = zip_long KeepsSegment s.closed t.closed keeps.closed in record {
    sizes = subst (λ (u : SegmentsValue). AllowsSegments u.shape u.most) (sym keeps.same) is.sizes;
    few = omega (arith, few, long, kept_most);
    each = λ k g at. subst (λ (h : ShapeValue). IsSegment h g) (sym kept_shape)
        (let z = zip_back KeepsSegment (all_of s) (all_of t) k g kept_each at in kept_segment s.shape z.0 g (is.each k z.0 z.1) z.2);
  })

  pub kept_holds : (rows : List RowValue) → HoldsRows s rows → HoldsRows t rows
  kept_holds rows holds =
      let n = (s.shape).capacity in
      let long = zip_long KeepsSegment s.closed t.closed keeps.closed in
      let base : (t.shape).capacity * length t.closed ≡ n * length s.closed = ap₂ (λ (h : ShapeValue) (k : ℕ). h.capacity * k) kept_shape (sym long) in
      let size : (t.shape).capacity ≡ n = ap (λ (h : ShapeValue). h.capacity) kept_shape in
      let full = holds.full in
      let room = holds.room in record {
        are = kept_lawful holds.are;
        each = λ k g at. subst (λ (h : ShapeValue). HasLoaded g.log (h.capacity * k) (block h.capacity k rows) g.root) (sym kept_shape)
            (let z = zip_back KeepsSegment (all_of s) (all_of t) k g kept_each at in kept_loaded (n * k) (block n k rows) z.0 g (holds.each k z.0 z.1) z.2);
        full = omega (arith, full, base);
        room = omega (arith, room, base, size);
      }

pub kept_base : (s t : SegmentsValue) → KeepsAll s t → base_of t ≡ base_of s
kept_base s t keeps = ap₂ (λ (h : ShapeValue) (k : ℕ). h.capacity * k) (kept_shape s t keeps) (sym (zip_long KeepsSegment s.closed t.closed keeps.closed))

pub all_none : (s : SegmentsValue) → KeepsAll s s
all_none s = record { same = refl; closed = segments_none s.closed; current = segment_none s.current }

pub all_then : (s t u : SegmentsValue) → KeepsAll s t → KeepsAll t u → KeepsAll s u
all_then s t u a b = record {
  same = b.same ∙ ap (λ (v : SegmentsValue). record v { closed = u.closed; current = u.current }) a.same;
  closed = segments_then s.closed t.closed u.closed a.closed b.closed;
  current = segment_then s.current t.current u.current a.current b.current;
}

same_then : (f g h : Segment) → IsSameSegment f g → IsSameSegment g h → IsSameSegment f h
same_then f g h a b = record { log = b.log ∙ a.log; root = b.root ∙ ap (λ (m : PassValue). record m { view = h.root.view }) a.root }

first_then : (fs gs hs : List Segment) → AreFirst fs gs → AreFirst gs hs → AreFirst fs hs
first_then [] gs hs a b = tt
first_then (f ∷ fs) [] hs a b = absurd a
first_then (f ∷ fs) (g ∷ gs) [] a b = absurd b
first_then (f ∷ fs) (g ∷ gs) (h ∷ hs) a b = (same_then f g h a.0 b.0, first_then fs gs hs a.1 b.1)

first_more : (gs hs : List Segment) → AreFirst gs (gs ++ hs)
first_more [] hs = tt
first_more (g ∷ gs) hs = (record { log = refl; root = refl }, first_more gs hs)

pub goes_none : (s : SegmentsValue) → SegmentsGoOn s s
goes_none s = kept_goes s s (all_none s)

pub goes_then : (s t u : SegmentsValue) → SegmentsGoOn s t → SegmentsGoOn t u → SegmentsGoOn s u
goes_then s t u a b = record { shape = b.shape ∙ a.shape; most = b.most ∙ a.most; first = first_then (all_of s) (all_of t) (all_of u) a.first b.first }

-- a segment came behind
pub goes_turned : (s t : SegmentsValue) → HasTurnedOver s t → SegmentsGoOn s t
goes_turned s t turned = record {
  shape = ap (λ (u : SegmentsValue). u.shape) turned.same;
  most = ap (λ (u : SegmentsValue). u.most) turned.same;
  first = subst (AreFirst (all_of s)) (sym (ap all_of turned.same)) (first_more (all_of s) (t.current ∷ []));
}

-- after an ask of a segment's root, also one that was refused
pub asked_segment : (shape : ShapeValue) (g : Segment) (n : PassValue) → IsSegment shape g → HasAsked (g.log).shape g.root n
    → KeepsSegment g (record { log = g.log; root = n })
asked_segment shape g n is asked =
    record { log = refl; root = keeps_asked shape g.root n (subst (λ (h : ShapeValue). HasAsked h g.root n) is.shape_is asked) is.settled }

-- and of the current one's, where the closed ones were kept
pub kept_current : (most : ℕ) (closed others : List Segment) (current : Segment) (n : PassValue) → AllZip KeepsSegment closed others
    → KeepsSegment current (record { log = current.log; root = n })
    → KeepsAll (segments_of most closed current) (segments_of most others (record { log = current.log; root = n }))
kept_current most closed others current n zip last = record { same = refl; closed = zip; current = last }

-- and where each was kept
pub kept_both : (most : ℕ) (closed others : List Segment) (f g : Segment) → AllZip KeepsSegment closed others → KeepsSegment f g
    → KeepsAll (segments_of most closed f) (segments_of most others g)
kept_both most closed others f g zip last =
    let with_log : LogValue → SegmentsValue = λ l. record { shape = l.shape; most = most; closed = others; current = g } in
    record { same = ap with_log last.log; closed = zip; current = last }

-- a pass that was forked off a segment's root, when that had loaded the read tail
pub forked : (shape : ShapeValue) (g : Segment) (n r : PassValue) → IsSegment shape g → HasAsked (g.log).shape g.root n → IsOf r g.log
    → r.view ≡ new_pass [] (n.view).seen → Reads g r
forked shape g n r is asked of view =
    let seen : (r.view).seen ≡ (n.view).seen = ap (λ (p : Pass). p.seen) view in record {
      is = record {
        of = of;
        few = subst (λ (es : List Entry). length es ≤ ((g.log).shape).capacity) (sym seen) asked.few;
        fit = λ o e at. asked.fit o e (ap (λ (es : List Entry). slice_get es o) (sym seen) ∙ at);
      };
      seen = seen ∙ asked.stays (subst (λ (h : ShapeValue). HoldsAllBooks h g.root.view) (sym is.shape_is) is.settled);
    }
