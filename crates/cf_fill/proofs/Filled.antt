-- A log is filled row by row.
use Rattle.std.proofs.Common.{append-nil, ◌≡◌, ◌⊎◌, inl, inr, ℕ, ◌+◌, ◌*◌, ◌<◌, ◌≤◌, ◌%◌, Bool, true, false, List, [], ◌++◌, length, map, All, refl, sym, ap, ap₂, subst, ◌∙◌, arith, length-append, mul_comm}
use Rattle.std.proofs.lemmas.Bool.{both_ways, cases_lt, false_from_ne_true}
use Rattle.std.proofs.lemmas.Bool.Decides.{leb_tells}
use Rattle.std.proofs.lemmas.List.{drop_at}
use Rattle.std.proofs.lemmas.List.Elements.{All-nil, All-drop}
use Rattle.cf_row.specs.declared.row.Entry.{Entry}
use Rattle.cf_row.specs.Row.{RowValue, Fits}
use Rattle.cf_row.specs.declared.schema.Attr.{Attr}
use Rattle.cf_shape.specs.Lanes.{ShapeValue}
use Rattle.cf_plain.specs.Answered.{LoadedValue, answer_on}
use Rattle.cf_plain.specs.declared.finding.Finding.{Finding}
use Rattle.cf_plain.specs.declared.loaded.Live.{Live}
use Rattle.cf_table.specs.Moves.{SealValue}
use Rattle.cf_plain.specs.Order.{IsLogOf, order_of}
use Rattle.cf_load.specs.Tags.{nums_of}
use Rattle.cf_load.specs.Loaders.{LoaderValue, IsFresh, IsLoading, IsFinished, IsFoundIn, MayLoad}
use Rattle.cf_load.specs.Loading.{HasAnswered}
use Rattle.cf_segments.specs.Segments.{SegmentsValue, HoldsRows, KeepsSegment, all_of, entries_of, room_of, sealed, told_of}
use Rattle.cf_load.proofs.Loaders.{may_batch}
use Rattle.cf_load.specs.Planned.{tails_of, marks_on}
use Rattle.cf_load.specs.declared.plan.LivePlan.{LivePlan}
use Rattle.cf_segments.specs.declared.segments.Sealing.{Sealing}
use Rattle.cf_segments.proofs.Zips.{zip_long}
use Rattle.cf_segments.proofs.Chains.{rows_are_log}
use Rattle.cf_segments.proofs.Kept.{kept_base, kept_shape}
use Rattle.cf_command.specs.declared.words.LogSizes.{LogSizes}
use Rattle.cf_setup.specs.Setups.{SetupValue}
use Rattle.cf_fill.specs.Filling.{FillingValue, KeepsLog, IsLoadedFor, IsLoadedSo, AreLoaded, HasBatch, IsFilled, LoadsWaiting, IsFilledFor, WaitFew, most_waiting}
use Rattle.cf_fill.specs.Logs.{IsPlanOf, IsLogClosed, IsLogFound, IsLogSealed, IsUnmade}
use Rattle.cf_fill.specs.Needs.{NeedsMore}
use Rattle.cf_fill.specs.Seals.{AreSeals}
use Rattle.cf_fill.specs.Work.{shape_for}
use Rattle.cf_fill.specs.declared.log.Unmade.{Unmade}
use Rattle.cf_fill.proofs.Sealing.{are_seals, needs_at_most, needs_more}

-- a log just opened has no rows
pub none_filled : (f : FillingValue) (plan : LivePlan) → HoldsRows f.segments [] → f.segments.closed ≡ [] → told_of f.segments ≡ [] → IsFresh plan f.loader
    → (HoldsRows f.segments [] → IsLoading f.segments [] f.loader) → f.waiting ≡ [] → f.count ≡ 0 → IsFilled f []
none_filled f plan holds one told fresh begins none zero = record {
  allowed = holds.are.sizes;
  count_is = omega (arith, zero);
  fit = All-nil (Fits (f.segments.shape).schema);
  going = λ _ _. record {
    before = [];
    rows_are = sym none;
    whole = λ _. refl;
    none = λ _. none;
    few = (let size : length f.waiting ≡ 0 = ap (λ (rs : List RowValue). length rs) none in omega (arith, size));
    loaded = record {
      loading = begins holds;
      told = told ∙ ap (λ (ls : List Live). tails_of ls) (sym fresh.lives);
      begun = λ some. (let size = ap length one in absurd (omega (arith, some, size)));
    };
  };
  lacking = λ stopped. absurd (both_ways f.loader.stopped fresh.going stopped);
  idle = λ _. none;
}

pub fit_after : (attrs : List Attr) (before waiting : List RowValue) → All (Fits attrs) (before ++ waiting) → All (Fits attrs) waiting
fit_after attrs before waiting fit =
    subst (λ (rs : List RowValue). All (Fits attrs) rs) (drop_at before waiting (length before) refl)
    (All-drop (Fits attrs) (length before) (before ++ waiting) fit)

-- the rows that came, while there is room for them
module _ (f : FillingValue) (rows : List RowValue) (is : IsFilled f rows) where
  pub over : room_of f.segments < f.count → room_of f.segments < length rows
  over many = let counted = is.count_is in omega (arith, counted, many)

  pub within : f.count ≤ room_of f.segments → length rows ≤ room_of f.segments
  within few = let counted = is.count_is in omega (arith, counted, few)

  -- none waits, or the loader is stopped
  pub last_loaded : f.count ≤ room_of f.segments → (f.loader.stopped ≡ true) ⊎ ((f.loader.stopped ≡ false) × (f.waiting ≡ []))
      → AreLoaded f.segments rows f.loader
  last_loaded few (inl stopped) = inr (stopped, is.lacking stopped)
  last_loaded few (inr none) =
      let awaits = is.going none.0 (within few) in
      let all : rows ≡ awaits.before = awaits.rows_are ∙ ap (λ (rs : List RowValue). awaits.before ++ rs) none.1 ∙ append-nil awaits.before in
      inl (subst (λ (rs : List RowValue). IsLoadedSo f.segments rs f.loader) (sym all) awaits.loaded)

  pub last_batch : f.count ≤ room_of f.segments → f.loader.stopped ≡ false → 0 < length f.waiting → HasBatch f.segments f.waiting f.loader
  last_batch few going some =
      let room = within few in
      let awaits = is.going going room in
      let short = awaits.few in
      let size : length rows ≡ length awaits.before + length f.waiting = ap (λ (rs : List RowValue). length rs) awaits.rows_are
      ∙ length-append awaits.before f.waiting in
      record {
        before = awaits.before;
        loaded = awaits.loaded;
        some = some;
        may = elim (cases_lt 0 f.loader.plan.rounds) [
          | inl due ↦
              let whole = awaits.whole due in
              subst (λ (n : ℕ). MayLoad f.segments f.loader.plan n (length f.waiting)) (sym awaits.loaded.loading.count)
              (may_batch f.segments f.loader.plan awaits.before (length f.waiting) awaits.loaded.loading.loaded whole (omega (arith, short))
              (omega (arith, room, size)))
          | inr quiet ↦
              let none : length f.waiting ≡ 0 = ap (λ (rs : List RowValue). length rs) (awaits.none (omega (arith, quiet))) in
              absurd (omega (arith, none, some))
        ];
        room = omega (arith, room, size);
        fit = fit_after (f.segments.shape).schema awaits.before f.waiting
            (subst (λ (rs : List RowValue). All (Fits (f.segments.shape).schema) rs) awaits.rows_are is.fit);
      }

  pub all_loaded : (t : SegmentsValue) (new : LoaderValue) → f.count ≤ room_of f.segments → f.loader.stopped ≡ false
      → LoadsWaiting f.waiting f.segments t f.loader new → AreLoaded t rows new
  all_loaded t new few going loads =
      let awaits = is.going going (within few) in
      subst (λ (rs : List RowValue). AreLoaded t rs new) (sym awaits.rows_are) (loads awaits.before awaits.loaded)

-- What is known of a loader that was stopped, and of one that goes on.

pub lack_of : (s : SegmentsValue) (rows : List RowValue) (loader : LoaderValue) → AreLoaded s rows loader → loader.stopped ≡ true
    → NeedsMore s.shape (s.shape).nodes rows
lack_of s rows loader (inl so) stopped = absurd (both_ways loader.stopped so.loading.going stopped)
lack_of s rows loader (inr lacks) stopped = let l = lacks.1.1 in needs_more s.shape (s.shape).nodes rows l.place l.many

pub loaded_of : (s : SegmentsValue) (rows : List RowValue) (loader : LoaderValue) → AreLoaded s rows loader → loader.stopped ≡ false → IsLoadedSo s rows loader
loaded_of s rows loader (inl so) going = so
loaded_of s rows loader (inr lacks) going = absurd (both_ways loader.stopped going lacks.0)

-- what is told of a log that was finished and closed
pub log_closed : (s t : SegmentsValue) (rows : List RowValue) (loader : LoaderValue) (answered : LoadedValue) (entries : List Entry) (seals : List SealValue)
    → IsLoadedSo s rows loader → IsFinished rows loader s t answered → entries ≡ entries_of t → seals ≡ map sealed (all_of t)
    → IsLogClosed s.shape loader.plan rows entries seals answered
log_closed s t rows loader answered entries seals so finished seen made =
    let shape : t.shape ≡ s.shape = kept_shape s t finished.keeps in
    let base = kept_base s t finished.keeps in
    let many = zip_long KeepsSegment s.closed t.closed finished.keeps.closed in
    let begun = so.begun in
    let told : told_of t ≡ tails_of answered.lives = finished.told ∙ (so.told ∙ ap (λ (ls : List Live). tails_of ls) (sym finished.lives_are)) in record {
      is = subst (λ (es : List Entry). IsLogOf rows (s.shape).writers es) (sym seen)
          (subst (λ (h : ShapeValue). IsLogOf rows h.writers (entries_of t)) shape (rows_are_log t rows finished.loaded).0);
      finals = finished.finals ∙ ap (λ (es : List Entry). map (answer_on s.shape es) loader.plan.asks.items) (sym seen);
      alerts = finished.alerts ∙ ap (λ (es : List Entry). map (marks_on s.shape es) loader.plan.triggers.items) (sym seen);
      lives = subst
          (λ (es : List Entry). HasAnswered s.shape loader.plan.asks.items loader.plan.lives.items loader.plan.rounds (length rows) es answered.lives)
          (sym seen) finished.lives;
      seals_are = subst (λ (h : ShapeValue). AreSeals h.capacity entries (tails_of answered.lives) seals) shape
          (are_seals t rows finished.loaded (λ some. (let past = begun (omega (arith, some, many)) in omega (arith, past, base))) entries
          (tails_of answered.lives) seals seen told made);
      few_nodes = needs_at_most s.shape ((s.shape).writers * (s.shape).nodes) rows finished.few_nodes;
    }

-- and what is told of it once it is finished and closed, with the shape and the plan that it began with
pub closed_at : (shape : ShapeValue) (plan : LivePlan) (s t : SegmentsValue) (rows : List RowValue) (loader : LoaderValue) (answered : LoadedValue)
    (entries : List Entry) (seals : List SealValue) → IsLoadedFor shape plan rows s loader
    → ((all : List RowValue) → IsLoading s all loader → IsFinished all loader s t answered) → entries ≡ entries_of t → seals ≡ map sealed (all_of t)
    → IsLogClosed shape plan rows entries seals answered
closed_at shape plan s t rows loader answered entries seals loaded finished seen made =
    subst (λ (h : ShapeValue). IsLogClosed h plan rows entries seals answered) loaded.shape_is
    (subst (λ (p : LivePlan). IsLogClosed s.shape p rows entries seals answered) loaded.plan_is
    (log_closed s t rows loader answered entries seals loaded.so (finished rows loaded.so.loading) seen made))

-- the same where what was found is told
pub found_at : (shape : ShapeValue) (plan : LivePlan) (s t : SegmentsValue) (rows : List RowValue) (loader : LoaderValue) (sealing : Sealing)
    (found : List Finding) → IsLoadedFor shape plan rows s loader → ((all : List RowValue) → IsLoading s all loader → IsFoundIn all loader s t found)
    → sealing.nums.items ≡ nums_of (entries_of t) → sealing.writers.items ≡ order_of (entries_of t) → IsLogFound shape plan rows sealing found
found_at shape plan s t rows loader sealing found loaded finds nums writers =
    let is = finds rows loaded.so.loading in
    let same : t.shape ≡ s.shape = kept_shape s t is.keeps in
    let made : IsLogFound s.shape loader.plan rows sealing found = record {
      entries = entries_of t;
      nums = nums;
      writers = writers;
      is = subst (λ (h : ShapeValue). IsLogOf rows h.writers (entries_of t)) same (rows_are_log t rows is.loaded).0;
      found_are = is.found_are;
      few_nodes = is.few_nodes;
    } in
    subst (λ (h : ShapeValue). IsLogFound h plan rows sealing found) loaded.shape_is
    (subst (λ (p : LivePlan). IsLogFound s.shape p rows sealing found) loaded.plan_is made)

-- what comes of a log later keeps it too
pub keeps_then : (a b c : FillingValue) → KeepsLog a b → KeepsLog b c → KeepsLog a c
keeps_then a b c first then = record { shape = then.shape ∙ first.shape; most = then.most ∙ first.most; plan = then.plan ∙ first.plan }

pub keeps_all : (f : FillingValue) → KeepsLog f f
keeps_all f = record { shape = refl; most = refl; plan = refl }

-- Few rows wait.

is_either : (b : Bool) → (b ≡ true) ⊎ (b ≡ false)
is_either true = inl refl
is_either false = inr refl

split_le : (a b : ℕ) → (a ≤ b) ⊎ (b < a)
split_le a b = elim (leb_tells a b) [ inl low ↦ inl low.1 | inr high ↦ inr high.1 ]

some_or_idle : (f : FillingValue) (rows : List RowValue)
    → (f.loader.stopped ≡ true) ⊎ (room_of f.segments < length rows) ⊎ ((f.loader.stopped ≡ false) × (length rows ≤ room_of f.segments))
some_or_idle f rows = elim (is_either f.loader.stopped) [
  | inl stopped ↦ inl stopped
  | inr going ↦ elim (split_le (length rows) (room_of f.segments)) [ inl few ↦ inr (inr (going, few)) | inr many ↦ inr (inl many) ]
]

-- those that wait are what whole batches leave of all, or none
module _ (f : FillingValue) (rows : List RowValue) (is : IsFilled f rows) where
  left_over : f.loader.stopped ≡ false → length rows ≤ room_of f.segments → 0 < f.loader.plan.rounds → length f.waiting ≡ length rows % 4096
  left_over going few due =
      let awaits = is.going going few in
      let size : length rows ≡ length awaits.before + length f.waiting = ap (λ (rs : List RowValue). length rs) awaits.rows_are
      ∙ length-append awaits.before f.waiting in
      let whole = awaits.whole due in
      let short = awaits.few in
      omega (arith, size, whole, short)

  pub waits_short : length f.waiting < 4096
  waits_short = elim (some_or_idle f rows) [
    | inl stopped ↦ (let none : length f.waiting ≡ 0 = ap (λ (rs : List RowValue). length rs) (is.idle (inl stopped)) in omega (arith, none))
    | inr (inl many) ↦ (let none : length f.waiting ≡ 0 = ap (λ (rs : List RowValue). length rs) (is.idle (inr many)) in omega (arith, none))
    | inr (inr going) ↦ (is.going going.0 going.1).few
  ]

-- once more came, no more wait than those behind the batch that was at hand
pub waits_few : (old new : FillingValue) (first rows : List RowValue) → IsFilled old first → IsFilled new (first ++ rows) → KeepsLog old new
    → (old.loader.stopped ≡ true → new.loader.stopped ≡ true)
    → length new.waiting ≤ (length old.waiting + length rows) % 4096
waits_few old new first rows is then keeps stops = elim (some_or_idle new (first ++ rows)) [
  | inl stopped ↦ (let none : length new.waiting ≡ 0 = ap (λ (rs : List RowValue). length rs) (then.idle (inl stopped)) in omega (arith, none))
  | inr (inl many) ↦ (let none : length new.waiting ≡ 0 = ap (λ (rs : List RowValue). length rs) (then.idle (inr many)) in omega (arith, none))
  | inr (inr going) ↦ elim (cases_lt 0 new.loader.plan.rounds) [
    | inl due ↦ (
        let size = length-append first rows in
        let rounds : new.loader.plan.rounds ≡ old.loader.plan.rounds = ap (λ (p : LivePlan). p.rounds) keeps.plan in
        let few = going.1 in
        let went : old.loader.stopped ≡ false = false_from_ne_true old.loader.stopped (λ stopped. both_ways new.loader.stopped going.0 (stops stopped)) in
        let room : room_of new.segments ≡ room_of old.segments = ap₂ (λ (n : ℕ) (h : ShapeValue). n * h.capacity) keeps.most keeps.shape in
        let had = left_over old first is went (omega (arith, size, few, room)) (omega (arith, due, rounds)) in
        let has = left_over new (first ++ rows) then going.0 few due in
        omega (arith, size, had, has))
    | inr quiet ↦ (
        let none : length new.waiting ≡ 0 = ap (λ (rs : List RowValue). length rs) ((then.going going.0 going.1).none (omega (arith, quiet))) in
        omega (arith, none))
  ]
]

-- those that are read meanwhile end the next batch, and no more than a piece brings
pub ahead_few : (plan : LivePlan) (wanted before rows size ahead : ℕ) → wanted ≤ 4096
    → (0 < plan.rounds → wanted + (before + size) % 4096 ≡ 4096) → size ≡ rows → ahead < wanted + 4096 → WaitFew plan (before + rows) ahead
ahead_few plan wanted before rows size ahead most ends same few =
    (omega (arith, most, few), λ due. let is = ends due in omega (arith, is, same, few))

-- with no round no row waits
pub waits_none : (f : FillingValue) (rows : List RowValue) → IsFilled f rows → f.loader.plan.rounds ≡ 0 → length f.waiting ≡ 0
waits_none f rows is quiet = elim (some_or_idle f rows) [
  | inl stopped ↦ ap (λ (rs : List RowValue). length rs) (is.idle (inl stopped))
  | inr (inl many) ↦ ap (λ (rs : List RowValue). length rs) (is.idle (inr many))
  | inr (inr going) ↦ ap (λ (rs : List RowValue). length rs) ((is.going going.0 going.1).none quiet)
]

-- So with those that were read meanwhile few wait.
pub next_few : (old new : FillingValue) (first rows : List RowValue) (ahead : ℕ) → IsFilled new first → KeepsLog old new
    → length new.waiting ≤ (length old.waiting + length rows) % 4096 → WaitFew old.loader.plan (length old.waiting + length rows) ahead
    → length new.waiting + ahead ≤ most_waiting
next_few old new first rows ahead is keeps wait few = elim (cases_lt 0 old.loader.plan.rounds) [
  | inl due ↦ (let both = few.1 due in omega (arith, wait, both))
  | inr quiet ↦ (
      let rounds : new.loader.plan.rounds ≡ old.loader.plan.rounds = ap (λ (p : LivePlan). p.rounds) keeps.plan in
      let none = waits_none new first is (omega (arith, quiet, rounds)) in
      let most = few.0 in omega (arith, none, most))
]

-- A log that is filled for a setup.

-- it is so still when rows came
pub filled_on : (setup : SetupValue) (sizes : LogSizes) (rounds : ℕ) (old new : FillingValue) (rows : List RowValue) → IsFilledFor setup sizes rounds old []
    → KeepsLog old new → IsFilled new rows
    → IsFilledFor setup sizes rounds new rows
filled_on setup sizes rounds old new rows is keeps took = record {
  shape = keeps.shape ∙ is.shape;
  most = keeps.most ∙ is.most;
  plan = subst (λ (p : LivePlan). IsPlanOf setup rounds p) (sym keeps.plan) is.plan;
  filled = took;
}

module _ (setup : SetupValue) (sizes : LogSizes) (rounds : ℕ) (f : FillingValue) (rows : List RowValue) (is : IsFilledFor setup sizes rounds f rows) where
  room_for : room_of f.segments ≡ sizes.capacity * sizes.segments
  room_for = ap₂ (λ (n : ℕ) (h : ShapeValue). n * h.capacity) is.most is.shape ∙ mul_comm sizes.segments sizes.capacity

  -- more rows came than it may hold
  pub filled_over : room_of f.segments < f.count → sizes.capacity * sizes.segments < length rows
  filled_over many = let past = over f rows is.filled many in let same = room_for in omega (arith, past, same)

  -- or as many as it may
  pub filled_within : f.count ≤ room_of f.segments → length rows ≤ sizes.capacity * sizes.segments
  filled_within few = let low = within f rows is.filled few in let same = room_for in omega (arith, low, same)

  -- as where no more came than it may hold
  pub filled_few : length rows ≤ sizes.capacity * sizes.segments → f.count ≤ room_of f.segments
  filled_few few = let counted = is.filled.count_is in let same = room_for in omega (arith, counted, few, same)

  -- then it is closed
  pub filled_sealed : (sealing : Sealing) (answered : LoadedValue)
      → ((all : List RowValue) → IsFilled f all → IsLogSealed f.segments.shape f.loader.plan all sealing answered)
      → IsLogSealed (shape_for setup sizes) f.loader.plan rows sealing answered
  filled_sealed sealing answered made =
      subst (λ (h : ShapeValue). IsLogSealed h f.loader.plan rows sealing answered) is.shape (made rows is.filled)

  -- or lacks nodes, or memory
  pub filled_unmade : (why : Unmade) → ((all : List RowValue) → IsFilled f all → IsUnmade f.segments.shape all why) → IsUnmade (shape_for setup sizes) rows why
  filled_unmade why unmade = subst (λ (h : ShapeValue). IsUnmade h rows why) is.shape (unmade rows is.filled)
