-- Rows are taken in lists, and loaded in whole batches.
use Rattle.std.proofs.Common.{◌≡◌, ◌⊎◌, inl, inr, ℕ, ◌+◌, ◌-◌, ◌*◌, ◌<◌, ◌≤◌, ◌%◌, min, true, false, List, [], ◌++◌, length, take, drop, All, Result, Ok, Err, IfOk, sym, ap, ap₂, subst, ◌∙◌, arith, length-append}
use Rattle.std.specs.Prelude.{if◌then◌else◌, is_ok, slice_range}
use Rattle.std.proofs.Math.Seq.{take-add}
use Rattle.std.proofs.lemmas.Bool.{both_ways}
use Rattle.std.proofs.lemmas.List.{append-nil, append_assoc, length-drop, length-take, take-append-drop}
use Rattle.std.proofs.lemmas.List.Elements.{All-append, All-drop, All-take}
use Rattle.cf_row.specs.Row.{RowValue, Fits}
use Rattle.cf_shape.specs.Lanes.{ShapeValue}
use Rattle.cf_load.specs.Loaders.{LoaderValue, MayLoad}
use Rattle.cf_load.specs.declared.plan.LivePlan.{LivePlan}
use Rattle.cf_load.specs.Loads.{LacksNodes}
use Rattle.cf_segments.specs.Segments.{SegmentsValue, AllowsSegments, room_of}
use Rattle.cf_load.proofs.Loaders.{lacks_more, may_batch}
use Rattle.cf_fill.specs.Filling.{FillingValue, AreLoaded, HasBatch, HasCome, HasRows, IsFilled, IsLoadedSo, IsWaiting, LoadsWaiting, LoadsWhole}
use Rattle.cf_fill.proofs.Filled.{fit_after, loaded_of}

module _ (s t : SegmentsValue) (rows : List RowValue) (old mid : LoaderValue) (count k : ℕ) (loads : LoadsWaiting (take count rows) s t old mid)
    (going : mid.stopped ≡ false) where
  part_is : slice_range rows count (count + k) ≡ take k (drop count rows)
  part_is = let n : count + k - count ≡ k = omega arith in ap (λ (i : ℕ). take i (drop count rows)) n

  -- those before the next part are loaded
  pub front_loaded : (before : List RowValue) → IsLoadedSo s before old → IsLoadedSo t (before ++ take count rows) mid
  front_loaded before so = loaded_of t (before ++ take count rows) mid (loads before so) going

  -- the next part waits
  pub next_part : HasRows s rows old → t.shape ≡ s.shape → t.most ≡ s.most → 0 < k → count + k ≤ length rows → MayLoad t mid.plan mid.count k
      → HasBatch t (slice_range rows count (count + k)) mid
  next_part has shape most some more may =
      let front = length-take count rows in
      let back = length-drop count rows in
      let size : length (take k (drop count rows)) ≡ k = (let cut = length-take k (drop count rows) in omega (arith, cut, back, more)) in
      let long = length-append has.before (take count rows) in
      let few = has.room in
      let room : room_of t ≡ room_of s = ap₂ (λ (n : ℕ) (h : ShapeValue). n * h.capacity) most shape in
      subst (λ (rs : List RowValue). HasBatch t rs mid) (sym part_is) (record {
        before = has.before ++ take count rows;
        loaded = front_loaded has.before has.loaded;
        some = omega (arith, size, some);
        may = subst (MayLoad t mid.plan mid.count) (sym size) may;
        room = omega (arith, long, front, size, few, room, more);
        fit = subst (λ (h : ShapeValue). All (Fits h.schema) (take k (drop count rows))) (sym shape)
            (All-take (Fits (s.shape).schema) k (drop count rows) (All-drop (Fits (s.shape).schema) count rows has.fit));
      })

  -- and is loaded
  pub loads_next : (u : SegmentsValue) (new : LoaderValue) → LoadsWaiting (slice_range rows count (count + k)) t u mid new
      → LoadsWaiting (take (count + k) rows) s u old new
  loads_next u new next = λ before so.
      let all : (before ++ take count rows) ++ slice_range rows count (count + k) ≡ before ++ take (count + k) rows =
      append_assoc before (take count rows) (slice_range rows count (count + k))
      ∙ ap (λ (rs : List RowValue). before ++ rs)
      (ap (λ (rs : List RowValue). take count rows ++ rs) part_is ∙ sym (take-add count k rows)) in
      subst (λ (rs : List RowValue). AreLoaded u rs new) all (next (before ++ take count rows) (front_loaded before so))

-- the next batch may be loaded behind whole batches
pub next_batch : (s t : SegmentsValue) (rows : List RowValue) (old mid : LoaderValue) (count : ℕ) → LoadsWaiting (take count rows) s t old mid
    → mid.stopped ≡ false → HasRows s rows old → t.shape ≡ s.shape → t.most ≡ s.most → 0 < old.plan.rounds → count % 4096 ≡ 0
    → count + 4096 ≤ length rows → HasBatch t (slice_range rows count (count + 4096)) mid
next_batch s t rows old mid count loads going has shape most due whole more =
    let so = front_loaded s t rows old mid count 4096 loads going has.before has.loaded in
    let front = length-take count rows in
    let long = length-append has.before (take count rows) in
    let had = has.whole due in
    let few = has.room in
    let room : room_of t ≡ room_of s = ap₂ (λ (n : ℕ) (h : ShapeValue). n * h.capacity) most shape in
    next_part s t rows old mid count 4096 loads going has shape most (omega arith) more
    (subst (λ (n : ℕ). MayLoad t mid.plan n 4096) (sym so.loading.count)
    (may_batch t mid.plan (has.before ++ take count rows) 4096 so.loading.loaded (omega (arith, long, front, had, whole, more)) (omega arith)
    (omega (arith, long, front, few, room, more))))

-- Once the loader was stopped, more rows lack nodes too.
pub loads_stopped : (s t : SegmentsValue) (rows : List RowValue) (old new : LoaderValue) (count : ℕ) → LoadsWaiting (take count rows) s t old new
    → new.stopped ≡ true → LoadsWaiting rows s t old new
loads_stopped s t rows old new count loads stopped = λ before so. elim (loads before so) [
  | inl held ↦ absurd (both_ways new.stopped held.loading.going stopped)
  | inr lacks ↦
      let all : (before ++ take count rows) ++ drop count rows ≡ before ++ rows =
      append_assoc before (take count rows) (drop count rows) ∙ ap (λ (rs : List RowValue). before ++ rs) (take-append-drop count rows) in
      inr (
        stopped,
        (
          lacks.1.0,
          subst (λ (rs : List RowValue). LacksNodes t rs lacks.1.0) all
              (lacks_more t (before ++ take count rows) (drop count rows) lacks.1.0 lacks.1.1),
        ),
      )
]

-- rows come
module _ (f : FillingValue) (first rows : List RowValue) (is : IsFilled f first) (fit : All (Fits (f.segments.shape).schema) rows) where
  longer : length (first ++ rows) ≡ length first + length rows
  longer = length-append first rows

  fit_all : All (Fits (f.segments.shape).schema) (first ++ rows)
  fit_all = All-append (Fits (f.segments.shape).schema) first rows is.fit fit

  -- that are counted, and do not wait
  pub pass_on : (left : List RowValue) → left ≡ [] → (room_of f.segments < f.count + length rows) ⊎ (f.loader.stopped ≡ true)
      → IsFilled (record f { waiting = left; count = min (f.count + length rows) (room_of f.segments + 1) }) (first ++ rows)
  pass_on left none why =
      let counted = is.count_is in
      let long = longer in record {
        allowed = is.allowed;
        count_is = omega (arith, counted, long);
        fit = fit_all;
        going = λ going few. elim why [
          | inl many ↦ absurd (omega (arith, many, counted, long, few))
          | inr stopped ↦ absurd (both_ways f.loader.stopped going stopped)
        ];
        lacking = λ stopped. (let lacks = is.lacking stopped in (lacks.0, lacks_more f.segments first rows lacks.0 lacks.1));
        idle = λ _. none;
      }

  -- that are counted, behind those that are loaded
  pub all_come : (f.count + length rows ≤ room_of f.segments) × (f.loader.stopped ≡ false) → f.loader.plan.rounds ≡ 0
      → HasCome (record f { count = min (f.count + length rows) (room_of f.segments + 1) }) first rows
  all_come due quiet =
      let counted = is.count_is in
      let low = due.0 in
      let awaits = is.going due.1 (omega (arith, counted, low)) in
      let all : first ≡ awaits.before = awaits.rows_are ∙ (ap (λ (rs : List RowValue). awaits.before ++ rs) (awaits.none quiet) ∙ append-nil awaits.before) in
      record {
        allowed = is.allowed;
        count_is = omega (arith, counted, low);
        few = omega (arith, counted, low);
        fit = fit_all;
        quiet = quiet;
        none = awaits.none quiet;
        loaded = subst (λ (rs : List RowValue). IsLoadedSo f.segments rs f.loader) (sym all) awaits.loaded;
      }

  -- that are counted, and wait
  pub all_wait : (now : List RowValue) → now ≡ f.waiting ++ rows → (f.count + length rows ≤ room_of f.segments) × (f.loader.stopped ≡ false)
      → 0 < f.loader.plan.rounds
      → IsWaiting (record f { waiting = now; count = min (f.count + length rows) (room_of f.segments + 1) }) (first ++ rows)
  all_wait now grown due rounds =
      let counted = is.count_is in
      let long = longer in
      let low = due.0 in
      let awaits = is.going due.1 (omega (arith, counted, low)) in record {
        due = rounds;
        allowed = is.allowed;
        count_is = omega (arith, counted, long, low);
        few = omega (arith, counted, long, low);
        fit = fit_all;
        going = due.1;
        before = awaits.before;
        rows_are = ap (λ (rs : List RowValue). rs ++ rows) awaits.rows_are ∙ append_assoc awaits.before f.waiting rows
            ∙ ap (λ (rs : List RowValue). awaits.before ++ rs) (sym grown);
        whole = awaits.whole rounds;
        loaded = awaits.loaded;
      }

-- rows that came behind those that are loaded
module _ (f : FillingValue) (before rows : List RowValue) (is : HasCome f before rows) where
  -- are at hand for the loader
  pub come_rows : HasRows f.segments rows f.loader
  come_rows =
      let quiet = is.quiet in record {
        before = before;
        loaded = is.loaded;
        whole = λ due. absurd (omega (arith, due, quiet));
        room = is.few;
        fit = fit_after (f.segments.shape).schema before rows is.fit;
      }

  -- and are loaded
  pub come_done : (t : SegmentsValue) (new : LoaderValue) → t.shape ≡ f.segments.shape → t.most ≡ f.segments.most → new.plan ≡ f.loader.plan
      → LoadsWaiting rows f.segments t f.loader new
      → IsFilled (record { segments = t; loader = new; waiting = f.waiting; count = f.count }) (before ++ rows)
  come_done t new shape most plan loads =
      let room : room_of t ≡ room_of f.segments = ap₂ (λ (n : ℕ) (h : ShapeValue). n * h.capacity) most shape in
      let counted = is.count_is in
      let low = is.few in
      let long = length-append before rows in
      let quiet : new.plan.rounds ≡ 0 = ap (λ (p : LivePlan). p.rounds) plan ∙ is.quiet in
      let done = loads before is.loaded in record {
        allowed = subst (λ (h : ShapeValue). AllowsSegments h t.most) (sym shape)
            (subst (λ (n : ℕ). AllowsSegments f.segments.shape n) (sym most) is.allowed);
        count_is = omega (arith, room, counted, long, low);
        fit = subst (λ (h : ShapeValue). All (Fits h.schema) (before ++ rows)) (sym shape) is.fit;
        going = λ goes _. record {
          before = before ++ rows;
          rows_are = sym (ap (λ (rs : List RowValue). (before ++ rows) ++ rs) is.none ∙ append-nil (before ++ rows));
          whole = λ due. absurd (omega (arith, due, quiet));
          few = (let size : length f.waiting ≡ 0 = ap (λ (rs : List RowValue). length rs) is.none in omega (arith, size));
          none = λ _. is.none;
          loaded = loaded_of t (before ++ rows) new done goes;
        };
        lacking = λ stopped. elim done [
          | inl so ↦ absurd (both_ways new.stopped so.loading.going stopped)
          | inr lacks ↦ lacks.1
        ];
        idle = λ _. is.none;
      }

module _ (f : FillingValue) (rows : List RowValue) (is : IsWaiting f rows) where
  size_now : length rows ≡ length is.before + length f.waiting
  size_now = ap (λ (rs : List RowValue). length rs) is.rows_are ∙ length-append is.before f.waiting

  pub waiting_rows : HasRows f.segments f.waiting f.loader
  waiting_rows =
      let size = size_now in
      let few = is.few in record {
        before = is.before;
        loaded = is.loaded;
        whole = λ _. is.whole;
        room = omega (arith, size, few);
        fit = fit_after (f.segments.shape).schema is.before f.waiting
            (subst (λ (rs : List RowValue). All (Fits (f.segments.shape).schema) rs) is.rows_are is.fit);
      }

  module _ (count : ℕ) (t : SegmentsValue) (new : LoaderValue) (shape : t.shape ≡ f.segments.shape) (most : t.most ≡ f.segments.most)
      (plan : new.plan ≡ f.loader.plan) (done : LoadsWhole count f.waiting f.segments t f.loader new) where
    loaded_now : AreLoaded t (is.before ++ take count f.waiting) new
    loaded_now = done.loads is.before is.loaded

    rows_now : rows ≡ (is.before ++ take count f.waiting) ++ drop count f.waiting
    rows_now = is.rows_are ∙ ap (λ (rs : List RowValue). is.before ++ rs) (sym (take-append-drop count f.waiting))
        ∙ sym (append_assoc is.before (take count f.waiting) (drop count f.waiting))

    lacks_now : AreLoaded t (is.before ++ take count f.waiting) new → new.stopped ≡ true → (writer : ℕ) × LacksNodes t rows writer
    lacks_now (inl so) stopped = absurd (both_ways new.stopped so.loading.going stopped)
    lacks_now (inr lacks) stopped = (
      lacks.1.0,
      subst (λ (rs : List RowValue). LacksNodes t rs lacks.1.0) (sym rows_now)
          (lacks_more t (is.before ++ take count f.waiting) (drop count f.waiting) lacks.1.0 lacks.1.1),
    )

    -- the whole batches are loaded, and what is left waits, or nothing once the loader was stopped
    pub batches_done : (left : List RowValue) → (new.stopped ≡ true → left ≡ []) → (new.stopped ≡ false → left ≡ drop count f.waiting)
        → IsFilled (record { segments = t; loader = new; waiting = left; count = f.count }) rows
    batches_done left gone kept =
        let room : room_of t ≡ room_of f.segments = ap₂ (λ (n : ℕ) (h : ShapeValue). n * h.capacity) most shape in
        let counted = is.count_is in
        let low = is.few in record {
          allowed = subst (λ (h : ShapeValue). AllowsSegments h t.most) (sym shape)
              (subst (λ (n : ℕ). AllowsSegments f.segments.shape n) (sym most) is.allowed);
          count_is = omega (arith, room, counted, low);
          fit = subst (λ (h : ShapeValue). All (Fits h.schema) rows) (sym shape) is.fit;
          going = λ goes _.
              let within = done.within in
              let whole = done.whole in
              let had = is.whole in
              let short = done.few goes in
              let front = length-take count f.waiting in
              let back = length-drop count f.waiting in
              let long = length-append is.before (take count f.waiting) in
              let size : length left ≡ length (drop count f.waiting) = ap (λ (rs : List RowValue). length rs) (kept goes) in record {
                before = is.before ++ take count f.waiting;
                rows_are = rows_now ∙ ap (λ (rs : List RowValue). (is.before ++ take count f.waiting) ++ rs) (sym (kept goes));
                whole = λ _. omega (arith, long, front, within, whole, had);
                few = omega (arith, size, back, short);
                none = λ quiet. (let rounds = is.due in let same : new.plan.rounds ≡ f.loader.plan.rounds = ap (λ (p : LivePlan). p.rounds) plan in
                    absurd (omega (arith, rounds, same, quiet)));
                loaded = loaded_of t (is.before ++ take count f.waiting) new loaded_now goes;
              };
          lacking = lacks_now loaded_now;
          idle = λ why. elim why [ inl stopped ↦ gone stopped | inr many ↦ absurd (omega (arith, many, room, low)) ];
        }

-- what a list has after another was put behind it
pub appended : {T E : Type 0} (r : Result T E) (now all kept : List RowValue) → now ≡ (if is_ok r then all else kept) → IfOk r (λ _. now ≡ all)
appended (Ok x) now all kept is = is
appended (Err e) now all kept is = tt

-- rows are counted by as many
pub counted_as : (f : FillingValue) (m n : ℕ) → m ≡ n
    → ◌≡◌ {A = FillingValue} (record f { count = min (f.count + m) (room_of f.segments + 1) }) (record f { count = min (f.count + n) (room_of f.segments + 1) })
counted_as f m n same = ap (λ (k : ℕ). record f { count = min (f.count + k) (room_of f.segments + 1) }) same

-- copies of rows came
pub copies_came : (f : FillingValue) (copied rows : List RowValue) → copied ≡ rows → IsFilled f copied → IsFilled f rows
copies_came f copied rows same is = subst (λ (rs : List RowValue). IsFilled f rs) same is
