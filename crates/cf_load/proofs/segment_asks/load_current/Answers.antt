use Rattle.std.proofs.Common.{◌≡◌, ◌+◌, ◌++◌, IfOk, MatchResult, ℕ, List, length, map, sym, ap, subst, ◌∙◌, arith}
use Rattle.std.proofs.lemmas.Result.{IfOk-weaker}
use Rattle.std.specs.List.{flat_map}
use Rattle.cf_row.specs.Row.{RowValue}
use Rattle.cf_row.specs.declared.row.Entry.{Entry}
use Rattle.cf_shape.specs.Lanes.{ShapeValue}
use Rattle.cf_load.specs.Loading.{AsksBeside, HasStopped, StayInBatch}
use Rattle.cf_segments.specs.Loaded.{HasLoaded}
use Rattle.cf_load.specs.Planned.{tails_of}
use Rattle.cf_load.specs.Priors.{IsFoundBefore, KnowsBefore, entries_before}
use Rattle.cf_segments.specs.Segments.{SegmentsValue, HoldsRows, KeepsAll, base_of, entries_of, seen_of, segments_of}
use Rattle.cf_segments.proofs.Chains.{base_whole}
use Rattle.cf_load.proofs.Filled.{entries_split, filled, filled_goes, filled_lawful, filled_result, filled_told, home_after, own_rows, still, still_has, still_long}
use Rattle.cf_segments.proofs.Kept.{all_none, goes_then, kept_base, kept_entries, kept_goes, kept_shape, kept_told, segments_seen}
use Rattle.cf_load.proofs.segment_asks.load_current.Given.{Over}
use Rattle.cf_load.proofs.segment_asks.load_current.Goals as goal

pub load_batch-requires-clause-loaded : goal.load_batch-requires-clause-loaded
load_batch-requires-clause-loaded g c κs within =
    let old : SegmentsValue = c.args.segments.now in
    let s : SegmentsValue = segments_of c.segments.inside.most c.segments.inside.closed.items c.segments.inside.current in
    let kept : KeepsAll old s = subst (KeepsAll old) (sym c.segments.view_is) (all_none old) in
    let had = c.requires.loaded in
    let base = c.requires.prior.base in
    let long = still_long old s kept had.0 had.2 c.args.beside.now.prior.now.base base in
    let there = had.1 in (
      own_rows s had.0 (still old s kept had.0 had.2 c.args.beside.now.prior.now.base base),
      omega (arith, long, there),
      still_has old s kept had.0 had.2 c.args.beside.now.prior.now.base base,
    )

pub load_batch-requires-clause-prior : goal.load_batch-requires-clause-prior
load_batch-requires-clause-prior g c κs within =
    subst (λ (t : SegmentsValue). IsFoundBefore t.shape c.args.beside.now.plan.now c.args.beside.now.prior.now) (sym c.segments.view_is) c.requires.prior.is

pub load_batch-requires-clause-whole : goal.load_batch-requires-clause-whole
load_batch-requires-clause-whole g c κs within =
    let old : SegmentsValue = c.args.segments.now in
    let s : SegmentsValue = segments_of c.segments.inside.most c.segments.inside.closed.items c.segments.inside.current in
    let kept : KeepsAll old s = subst (KeepsAll old) (sym c.segments.view_is) (all_none old) in
    let whole = base_whole s c.segments.invariant.0 in
    let base = c.requires.prior.base in
    let same = kept_base old s kept in
    omega (arith, whole, base, same)

pub load_batch-requires-clause-few : goal.load_batch-requires-clause-few
load_batch-requires-clause-few g c κs within =
    subst (λ (t : SegmentsValue). StayInBatch t.shape c.args.beside.now.first (length c.args.rows.now)) (sym c.segments.view_is) c.requires.few

-- the segments before the batch, which keep what they held before they were asked
abbrev before_batch : (g : Over) → goal.After-load_batch g → SegmentsValue
before_batch g c = segments_of c.segments.inside.most c.segments.inside.closed.items c.segments.inside.current

kept : (g : Over) (c : goal.After-load_batch g) → KeepsAll c.args.segments.now (before_batch g c)
kept g c = subst (KeepsAll c.args.segments.now) (sym c.segments.view_is) (all_none c.args.segments.now)

-- what the batch answered
answered : (g : Over) (c : goal.After-load_batch g) (rows : List RowValue) → length rows ≡ c.args.beside.now.first
    → (holds : HoldsRows c.args.segments.now rows)
    → MatchResult c.load_batch.result
    (λ x. HasLoaded c.segments.inside.current.log (base_of (before_batch g c))
    (own_rows (before_batch g c) rows
    (still c.args.segments.now (before_batch g c)
    (kept g c) rows holds c.args.beside.now.prior.now.base c.requires.prior.base) ++ c.args.rows.now) c.load_batch.new.root)
    (HasStopped c.segments.inside.current.log (base_of (before_batch g c))
    (own_rows (before_batch g c) rows
    (still c.args.segments.now (before_batch g c)
    (kept g c) rows holds c.args.beside.now.prior.now.base c.requires.prior.base)) c.args.rows.now c.load_batch.new.root)
answered g c rows long holds =
    let old : SegmentsValue = c.args.segments.now in
    let s : SegmentsValue = before_batch g c in
    let base = c.requires.prior.base in
    let own : List RowValue = own_rows s rows (still old s (kept g c) rows holds c.args.beside.now.prior.now.base base) in
    let there = still_long old s (kept g c) rows holds c.args.beside.now.prior.now.base base in
    subst (λ (i : ℕ). MatchResult c.load_batch.result (λ x. HasLoaded c.segments.inside.current.log i (own ++ c.args.rows.now) c.load_batch.new.root)
    (HasStopped c.segments.inside.current.log i own c.args.rows.now c.load_batch.new.root)) (base ∙ sym (kept_base old s (kept g c)))
    (c.load_batch.ensures.loaded own (omega (arith, there, long)) (still_has old s (kept g c) rows holds c.args.beside.now.prior.now.base base))

pub invariant_of-segments : goal.invariant_of-segments
invariant_of-segments g c =
    let s : SegmentsValue = before_batch g c in
    let had = c.requires.loaded in
    let own : List RowValue = own_rows s had.0 (still c.args.segments.now s (kept g c) had.0 had.2 c.args.beside.now.prior.now.base c.requires.prior.base) in
    let home = home_after c.segments.inside.current.log (base_of s) own c.args.rows.now c.load_batch.new.root c.load_batch.result
    (answered g c had.0 had.1 had.2) in
    (filled_lawful s c.load_batch.new.root c.segments.invariant.0 home.0 home.1, c.segments.invariant.1)

pub returns-clause-same : goal.returns-clause-same
returns-clause-same g c =
    let s : SegmentsValue = before_batch g c in
    goes_then c.args.segments.now s (filled s c.load_batch.new.root) (kept_goes c.args.segments.now s (kept g c))
    (filled_goes s c.load_batch.new.root c.load_batch.ensures.same)

pub returns-clause-base : goal.returns-clause-base
returns-clause-base g c = kept_base c.args.segments.now (before_batch g c) (kept g c)

pub returns-clause-loaded : goal.returns-clause-loaded
returns-clause-loaded g c rows long holds =
    let old : SegmentsValue = c.args.segments.now in
    let s : SegmentsValue = before_batch g c in
    let base = kept_base old s (kept g c) in
    let size = ap (λ (h : ShapeValue). h.capacity) (kept_shape old s (kept g c)) in
    let room = c.requires.room in
    filled_result s rows
    (still old s (kept g c) rows holds c.args.beside.now.prior.now.base c.requires.prior.base) c.load_batch.new.root c.args.rows.now c.load_batch.result
    (omega (arith, room, long, base, size)) (answered g c rows long holds)

pub returns-clause-asked : goal.returns-clause-asked
returns-clause-asked g c =
    let old : SegmentsValue = c.args.segments.now in
    let s : SegmentsValue = before_batch g c in
    let t : SegmentsValue = filled s c.load_batch.new.root in
    let plan = c.args.beside.now.plan.now in
    let batch = c.args.beside.now.batch in
    let closed : entries_before c.args.beside.now.prior.now ≡ flat_map seen_of s.closed = c.requires.prior.entries
    ∙ sym (segments_seen old.closed s.closed (kept g c).closed) in
    let first : entries_before c.args.beside.now.prior.now ++ seen_of s.current ≡ entries_of old = ap (λ (es : List Entry). es ++ seen_of s.current) closed
    ∙ (sym (entries_split s) ∙ kept_entries old s (kept g c)) in
    let last : entries_before c.args.beside.now.prior.now ++ (c.load_batch.new.root.view).seen ≡ entries_of t =
    ap (λ (es : List Entry). es ++ (c.load_batch.new.root.view).seen) closed ∙ sym (entries_split t) in
    subst (λ (h : ShapeValue). IfOk c.load_batch.result (λ more. AsksBeside h plan batch (entries_of old) (entries_of t) more.items))
    (kept_shape old s (kept g c))
    (subst (λ (es : List Entry). IfOk c.load_batch.result (λ more. AsksBeside s.shape plan batch es (entries_of t) more.items)) first
    (subst (λ (es : List Entry). IfOk c.load_batch.result
    (λ more. AsksBeside s.shape plan batch (entries_before c.args.beside.now.prior.now ++ seen_of s.current) es more.items)) last c.load_batch.ensures.asked))

pub returns-clause-told : goal.returns-clause-told
returns-clause-told g c =
    let old : SegmentsValue = c.args.segments.now in
    let s : SegmentsValue = before_batch g c in
    let root = c.load_batch.new.root in
    let base : c.args.beside.now.prior.now.base ≡ base_of s = c.requires.prior.base ∙ sym (kept_base old s (kept g c)) in
    IfOk-weaker c.load_batch.result _ _ (λ more told.
    filled_told s root (tails_of more.items)
    (subst (λ (i : ℕ). map (λ tail. i + tail) (root.view).told ≡ map (λ tail. i + tail) (s.current.root.view).told ++ tails_of more.items) base told)
    ∙ ap (λ (ts : List ℕ). ts ++ tails_of more.items) (kept_told old s (kept g c))) c.load_batch.ensures.told

pub returns-clause-known : goal.returns-clause-known
returns-clause-known g c =
    let s : SegmentsValue = before_batch g c in
    let known : KnowsBefore s c.args.beside.now.plan.now c.args.beside.now.prior.now =
    subst (λ (t : SegmentsValue). KnowsBefore t c.args.beside.now.plan.now c.args.beside.now.prior.now) (sym c.segments.view_is) c.requires.prior in
    record { is = known.is; base = known.base; entries = known.entries }
