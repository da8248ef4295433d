-- A loader goes on, batch by batch, and then answers.
use Rattle.std.proofs.Common.{◌≡◌, ◌<◌, ◌≤◌, ◌+◌, ◌-◌, ◌*◌, ◌%◌, ℕ, suc, List, [], ◌∷◌, ◌++◌, get_or, length, length-append, append_assoc, map, take, drop, min, append-nil, Some, slice_get, sym, ap, ap₂, subst, ◌∙◌, arith, inl, inr, Result, Ok, Err, IfOk, MatchResult, mul-suc, mul-le-mul_left, mul-zero, one-mul}
use Rattle.std.proofs.lemmas.Bool.{cases_lt}
use Rattle.std.proofs.lemmas.List.{length-drop, length-take, take_all, take-append-le, drop-append-le, take-append-drop}
use Rattle.std.proofs.lemmas.Option.{slice_get-get_or}
use Rattle.std.proofs.lemmas.List.Elements.{All-append, All-take, All-drop}
use Rattle.std.proofs.Math.Seq.{take-add, take-append-add}
use Rattle.std.specs.List.{All}
use Rattle.std.specs.declared.alloc.AllocError.{AllocError}
use Rattle.cf_row.specs.Row.{RowValue, Fits}
use Rattle.cf_row.specs.declared.row.Entry.{Entry}
use Rattle.cf_fold.specs.declared.trigger.Trigger.{Trigger}
use Rattle.cf_plain.specs.Order.{rows_of, written_by}
use Rattle.cf_shape.specs.Lanes.{ShapeValue, IsShape}
use Rattle.cf_shape.specs.Nodes.{distinct}
use Rattle.cf_plain.specs.Answered.{LoadedValue, answer_on}
use Rattle.cf_plain.specs.declared.ask.Ask.{Ask}
use Rattle.cf_plain.specs.declared.finding.Finding.{Finding}
use Rattle.cf_plain.specs.declared.loaded.Live.{Live}
use Rattle.cf_table.proofs.Settling.{begins_then}
use Rattle.cf_load.specs.declared.plan.LivePlan.{LivePlan}
use Rattle.cf_load.specs.declared.loads.LoadFault.{LoadFault}
use Rattle.cf_load.specs.declared.loads.LoadFault.TheVariants.{Full, NodesFull, Memory}
use Rattle.cf_segments.specs.declared.segments.Segment.{Segment}
use Rattle.cf_segments.specs.Blocks.{block}
use Rattle.cf_load.specs.Loading.{HasAnswered, AsksBeside, StayInBatch}
use Rattle.cf_segments.specs.Needed.{HasRunOut}
use Rattle.cf_load.specs.Loads.{LacksNodes, HasSome, HaveStopped, IsLoaded}
use Rattle.cf_segments.specs.Segments.{SegmentsValue, all_of, base_of, entries_of, room_of, told_of, IsSegments, HoldsRows, SegmentsGoOn, KeepsAll}
use Rattle.cf_load.specs.Loaders.{LoaderValue, IsLoading, IsBatched, IsRefused, IsFinished, IsFoundIn, MayLoad, StayInSegment}
use Rattle.cf_load.specs.Planned.{IsPlan, IsSamePlan, asks_of, finding_on, marks_on, tails_of}
use Rattle.cf_load.specs.Priors.{KnowsBefore}
use Rattle.cf_load.proofs.Batches.{distinct_more, run_out_more}
use Rattle.cf_segments.proofs.Chains.{base_whole, rows_are_log}
use Rattle.cf_load.proofs.Enough.{loaded_few}
use Rattle.cf_segments.proofs.Kept.{kept_entries, kept_goes, kept_holds, kept_told, goes_none, goes_then}
use Rattle.cf_load.proofs.Loading.{answered_beside}
use Rattle.cf_segments.proofs.Parts.{part_after, rows_append}

-- segments that go on have room for as many rows
pub same_room : (s t : SegmentsValue) → SegmentsGoOn s t → room_of t ≡ room_of s
same_room s t same = ap₂ (λ (n : ℕ) (h : ShapeValue). n * h.capacity) same.most same.shape

-- segments that hold rows have as many entries
pub entries_long : (s : SegmentsValue) (rows : List RowValue) → HoldsRows s rows → length (entries_of s) ≡ length rows
entries_long s rows holds = (rows_are_log s rows holds).0.size

-- a batch is loaded, and its answers come after those before
pub goes_on : (before rows : List RowValue) (old new : LoaderValue) (b : ℕ) (s t : SegmentsValue) (more : List Live) → IsLoading s before old
    → HoldsRows t (before ++ rows) → SegmentsGoOn s t → base_of t ≤ length before → (0 < old.plan.rounds → length before ≡ 4096 * b)
    → 0 < length rows → (0 < old.plan.rounds → length rows ≤ 4096)
    → length before + length rows ≤ room_of s → All (Fits (s.shape).schema) rows → AsksBeside s.shape old.plan b (entries_of s) (entries_of t) more
    → told_of t ≡ told_of s ++ tails_of more → new ≡ record old { count = old.count + length rows; lives = old.lives ++ more; found = new.found }
    → KnowsBefore t old.plan new.found → IsBatched before rows old new s t
goes_on before rows old new b s t more is has same within long some few room fits beside told now known = record {
  same = same;
  within = within;
  more = more;
  loader = now;
  told = told;
  longer = begins_then (entries_of s) beside.read (entries_of t) beside.asks.longer beside.begins;
  loading = subst (λ (loader : LoaderValue). IsLoading t (before ++ rows) loader) (sym now) (record {
    plan = subst (λ (h : ShapeValue). IsPlan h old.plan) (sym same.shape) is.plan;
    going = is.going;
    count = ap (λ (k : ℕ). k + length rows) is.count ∙ sym (length-append before rows);
    few = (let l = length-append before rows in let most = same_room s t same in omega (arith, l, room, most));
    fit = subst (λ (h : ShapeValue). All (Fits h.schema) (before ++ rows)) (sym same.shape) (All-append (Fits (s.shape).schema) before rows is.fit fits);
    loaded = has;
    answered = subst
        (λ (h : ShapeValue). HasAnswered h old.plan.asks.items old.plan.lives.items old.plan.rounds (length (before ++ rows)) (entries_of t)
        (old.lives ++ more)) (sym same.shape)
        (answered_beside s.shape before rows old.plan b (entries_of s) (entries_of t) old.lives more (entries_long s before is.loaded)
        (entries_long t (before ++ rows) has) long some few is.answered beside);
    known = known;
  });
}

-- a block of rows that go on begins with the same
pub block_more : (n k : ℕ) (xs ys : List RowValue) → (rest : List RowValue) × (block n k (xs ++ ys) ≡ block n k xs ++ rest)
block_more n k xs ys = elim (cases_lt (length xs) (n * k)) [
  | inl past ↦ (block n k (xs ++ ys), ap (λ (rs : List RowValue). rs ++ block n k (xs ++ ys)) (sym (part_after n (n * k) xs (omega (arith, past)))))
  | inr there ↦
      let at : drop (n * k) (xs ++ ys) ≡ drop (n * k) xs ++ ys = drop-append-le (n * k) xs ys (omega (arith, there)) in
      elim (cases_lt (length (drop (n * k) xs)) n) [
        | inl short ↦
            let l : ℕ = length (drop (n * k) xs) in
            let sum : n ≡ l + (n - l) = omega (arith, short) in (
              take (n - l) ys,
              ap (take n) at
                  ∙ (ap (λ (i : ℕ). take i (drop (n * k) xs ++ ys)) sum
                  ∙ (take-append-add (drop (n * k) xs) ys (n - l)
                  ∙ ap (λ (rs : List RowValue). rs ++ take (n - l) ys) (sym (take_all n (drop (n * k) xs) (omega (arith, short)))))),
            )
        | inr long ↦ ([], ap (take n) at ∙ (take-append-le n (drop (n * k) xs) ys (omega (arith, long)) ∙ sym (append-nil (block n k xs))))
      ]
]

-- more rows want more nodes too
pub lacks_more : (s : SegmentsValue) (rows more : List RowValue) (w : ℕ) → LacksNodes s rows w → LacksNodes s (rows ++ more) w
lacks_more s rows more w lacks =
    let n = (s.shape).capacity in
    let b = block_more n lacks.place rows more in
    let d = distinct_more s.shape (block n lacks.place rows) b.0 in
    let last = block_more n (length s.closed) rows more in
    let many = lacks.many in record {
      are = lacks.are;
      exists = lacks.exists;
      place = lacks.place;
      many = subst (λ (rs : List RowValue). (s.shape).nodes < distinct s.shape rs) (sym b.1) (omega (arith, many, d));
      out = subst (λ (rs : List RowValue). HasRunOut s.shape (base_of s) rs w s.current.root.view) (sym last.1)
          (run_out_more s.shape (base_of s) (block n (length s.closed) rows) last.0 w s.current.root.view lacks.out);
      fronts = λ v lt. (let f = lacks.fronts v lt in let W = (s.shape).writers in (
        f.0 ++ rows_of W v (0 + length rows) more,
        sym (append_assoc (written_by v (entries_of s)) f.0 (rows_of W v (0 + length rows) more))
            ∙ (ap (λ (rs : List RowValue). rs ++ rows_of W v (0 + length rows) more) f.1 ∙ sym (rows_append W v 0 rows more)),
      ));
    }

-- each block of the rows that segments hold needs no more nodes than all writers of a segment have
pub blocks_few : (s : SegmentsValue) (rows : List RowValue) → IsShape s.shape → All (Fits (s.shape).schema) rows → HoldsRows s rows → (k : ℕ)
    → distinct s.shape (block (s.shape).capacity k rows) ≤ (s.shape).writers * (s.shape).nodes
blocks_few s rows lawful fits holds k =
    let n = (s.shape).capacity in
    elim (cases_lt k (length (all_of s))) [
      | inl there ↦
          let g : Segment = get_or (all_of s) k s.current in
          let at : slice_get (all_of s) k ≡ Some g = slice_get-get_or (all_of s) k s.current there in
          let same : (g.log).shape ≡ s.shape = (holds.are.each k g at).shape_is in
          let fit : All (Fits (s.shape).schema) (block n k rows) =
          All-take (Fits (s.shape).schema) n (drop (n * k) rows) (All-drop (Fits (s.shape).schema) (n * k) rows fits) in
          subst (λ (h : ShapeValue). distinct h (block n k rows) ≤ h.writers * h.nodes) same
          (loaded_few g.log (n * k) (block n k rows) g.root (subst IsShape (sym same) lawful)
          (subst (λ (h : ShapeValue). All (Fits h.schema) (block n k rows)) (sym same) fit) (holds.each k g at))
      | inr past ↦
          let more = length-append s.closed (s.current ∷ []) in
          let far : n * suc (length s.closed) ≤ n * k = mul-le-mul_left n (let e : suc (length s.closed) ≤ k = omega (arith, past, more) in e) in
          let step = mul-suc n (length s.closed) in
          let room = holds.room in
          subst (λ (rs : List RowValue). distinct s.shape rs ≤ (s.shape).writers * (s.shape).nodes)
          (sym (part_after n (n * k) rows (omega (arith, far, step, room)))) (omega arith)
    ]

-- what the loader's answers say of all entries
pub finishes : (rows : List RowValue) (loader : LoaderValue) (s t : SegmentsValue) (answered : LoadedValue) → IsShape s.shape → IsLoading s rows loader
    → KeepsAll s t
    → answered.finals ≡ map (answer_on s.shape (entries_of s)) loader.plan.asks.items
    → answered.alerts ≡ map (marks_on s.shape (entries_of s)) loader.plan.triggers.items → answered.lives ≡ loader.lives
    → IsFinished rows loader s t answered
finishes rows loader s t answered shape is keeps finals alerts lives =
    let same : entries_of t ≡ entries_of s = kept_entries s t keeps in record {
      keeps = keeps;
      loaded = kept_holds s t keeps rows is.loaded;
      told = kept_told s t keeps;
      finals = finals ∙ ap (λ (es : List Entry). map (answer_on s.shape es) loader.plan.asks.items) (sym same);
      alerts = alerts ∙ ap (λ (es : List Entry). map (marks_on s.shape es) loader.plan.triggers.items) (sym same);
      lives_are = lives;
      lives = subst
          (λ (es : List Entry). HasAnswered s.shape loader.plan.asks.items loader.plan.lives.items loader.plan.rounds (length rows) es answered.lives)
          (sym same)
          (subst (HasAnswered s.shape loader.plan.asks.items loader.plan.lives.items loader.plan.rounds (length rows) (entries_of s)) (sym lives) is.answered);
      few_nodes = blocks_few s rows shape is.fit is.loaded;
    }

-- and what is left where memory is wanted
pub finishes_if : (rows : List RowValue) (loader : LoaderValue) (s t : SegmentsValue) (result : Result LoadedValue AllocError) → IsShape s.shape
    → IsLoading s rows loader → KeepsAll s t
    → IfOk result (λ (answered : LoadedValue). answered.finals ≡ map (answer_on s.shape (entries_of s)) loader.plan.asks.items)
    → IfOk result (λ (answered : LoadedValue). answered.alerts ≡ map (marks_on s.shape (entries_of s)) loader.plan.triggers.items)
    → IfOk result (λ (answered : LoadedValue). answered.lives ≡ loader.lives)
    → MatchResult result (IsFinished rows loader s t) (λ x. KeepsAll s t × HoldsRows t rows)
finishes_if rows loader s t (Ok answered) shape is keeps finals alerts lives = finishes rows loader s t answered shape is keeps finals alerts lives
finishes_if rows loader s t (Err e) shape is keeps finals alerts lives = (keeps, kept_holds s t keeps rows is.loaded)

-- what is found at the end, and what is left where memory is wanted
pub finds_if : {T : Type 0} (rows : List RowValue) (loader : LoaderValue) (s t : SegmentsValue) (result : Result T AllocError) (items : T → List Finding)
    → IsShape s.shape → IsLoading s rows loader → KeepsAll s t
    → IfOk result (λ found. items found ≡ map (finding_on s.shape (entries_of s)) (asks_of loader.plan))
    → MatchResult result (λ found. IsFoundIn rows loader s t (items found)) (λ x. KeepsAll s t × HoldsRows t rows)
finds_if rows loader s t (Ok found) items shape is keeps found_are = record {
  keeps = keeps;
  loaded = kept_holds s t keeps rows is.loaded;
  found_are = found_are ∙ ap (λ (es : List Entry). map (finding_on s.shape es) (asks_of loader.plan)) (sym (kept_entries s t keeps));
  few_nodes = blocks_few s rows shape is.fit is.loaded;
}
finds_if rows loader s t (Err e) items shape is keeps found_are = (keeps, kept_holds s t keeps rows is.loaded)

-- the part of a list from some place on, to its end or as many as a batch has
pub part_is : {X : Type 0} (xs : List X) (from to : ℕ) → from ≤ length xs → to ≡ min (length xs) (from + 4096)
    → take (to - from) (drop from xs) ≡ take 4096 (drop from xs)
part_is xs from to low is =
    let rest = length-drop from xs in
    elim (cases_lt (length xs) (from + 4096)) [
      | inl lt ↦ take_all (to - from) (drop from xs) (omega (arith, is, lt, rest)) ∙ sym (take_all 4096 (drop from xs) (omega (arith, lt, rest)))
      | inr ge ↦ ap (λ n. take n (drop from xs)) (let e : to - from ≡ 4096 = omega (arith, is, ge) in e)
    ]

-- the first batches of some rows, and one more
pub more_of : (rows part : List RowValue) (b : ℕ) → part ≡ take 4096 (drop (4096 * b) rows) → take (4096 * b) rows ++ part ≡ take (4096 * (b + 1)) rows
more_of rows part b is =
    let e : 4096 * b + 4096 ≡ 4096 * (b + 1) = omega arith in
    ap (λ (rs : List RowValue). take (4096 * b) rows ++ rs) is ∙ (sym (take-add (4096 * b) 4096 rows) ∙ ap (λ i. take i rows) e)

-- a fault in one of the batches of some rows
pub some_of : (rows before part : List RowValue) (s t : SegmentsValue) (i j : ℕ) (fault : LoadFault) → before ≡ take i rows → before ++ part ≡ take j rows
    → length rows ≤ room_of s → IsRefused before part s t fault → HasSome rows t fault
some_of rows before part s t i j Full front both few left =
    absurd (let l = length-append before part in let k = ap length both in let u = length-take j rows in omega (arith, left.0, l, k, u, few))
some_of rows before part s t i j (NodesFull w) front both few left =
    let more = lacks_more t (before ++ part) (drop j rows) w left.2 in
    subst (λ (rs : List RowValue). LacksNodes t rs w) (ap (λ (rs : List RowValue). rs ++ drop j rows) both ∙ take-append-drop j rows) more
some_of rows before part s t i j Memory front both few left = elim left.2 [
  | inl none ↦ (i, subst (HoldsRows t) front none)
  | inr all ↦ (j, subst (HoldsRows t) both all)
]

-- what a refused batch leaves of the segments
pub refused_goes : (before part : List RowValue) (s t : SegmentsValue) (fault : LoadFault) → IsRefused before part s t fault → SegmentsGoOn s t
refused_goes before part s t Full left = subst (SegmentsGoOn s) (sym left.1) (goes_none s)
refused_goes before part s t (NodesFull w) left = left.1
refused_goes before part s t Memory left = left.1

-- all batches of a load, and then the answers
pub loads : (rows : List RowValue) (plan : LivePlan) (loader : LoaderValue) (s t u : SegmentsValue) (answered : LoadedValue) → IsSamePlan plan loader.plan
    → IsLoading t rows loader → SegmentsGoOn s t → told_of t ≡ told_of s ++ tails_of loader.lives
    → IsFinished rows loader t u answered → IsLoaded rows plan s u answered
loads rows plan loader s t u answered same is goes told made = record {
  few = (let few = is.few in let most = same_room s t goes in omega (arith, few, most));
  same = goes_then s t u goes (kept_goes t u made.keeps);
  loaded = made.loaded;
  finals = made.finals ∙ ap₂ (λ (h : ShapeValue) (asks : List Ask). map (answer_on h (entries_of u)) asks) goes.shape same.asks;
  alerts = made.alerts ∙ ap₂ (λ (h : ShapeValue) (triggers : List Trigger). map (marks_on h (entries_of u)) triggers) goes.shape same.triggers;
  lives = subst (λ (h : ShapeValue). HasAnswered h plan.asks.items plan.lives.items plan.rounds (length rows) (entries_of u) answered.lives) goes.shape
      (subst (λ (k : ℕ). HasAnswered t.shape plan.asks.items plan.lives.items k (length rows) (entries_of u) answered.lives) same.rounds
      (subst (λ (ls : List ℕ). HasAnswered t.shape plan.asks.items ls loader.plan.rounds (length rows) (entries_of u) answered.lives) same.lives
      (subst (λ (asks : List Ask). HasAnswered t.shape asks loader.plan.lives.items loader.plan.rounds (length rows)
      (entries_of u) answered.lives) same.asks made.lives)));
  told = made.told ∙ (told ∙ ap (λ (ls : List Live). told_of s ++ tails_of ls) (sym made.lives_are));
  few_nodes = subst (λ (h : ShapeValue). (k : ℕ) → distinct h (block h.capacity k rows) ≤ h.writers * h.nodes) goes.shape made.few_nodes;
}

-- a batch has room in the current segment, where one of its rows has
pub batch_room : (s : SegmentsValue) (count k : ℕ) → IsSegments s → count % 4096 ≡ 0 → k ≤ 4096 → count < base_of s + (s.shape).capacity
    → count + k ≤ room_of s → count + k ≤ base_of s + (s.shape).capacity
batch_room s count k is begins few some room = elim (cases_lt 1 s.most) [
  | inl many ↦ (let whole = is.sizes.whole many in let base = base_whole s is in omega (arith, begins, few, some, whole, base))
  | inr one ↦
      let low = is.sizes.some in
      let most : s.most ≡ 1 = omega (arith, one, low) in
      let all : room_of s ≡ (s.shape).capacity = ap (λ (n : ℕ). n * (s.shape).capacity) most ∙ one-mul (s.shape).capacity in
      omega (arith, room, all)
]

-- and in the next one, where the current one is full
next_room : (s : SegmentsValue) (count k : ℕ) → IsSegments s → count ≡ base_of s + (s.shape).capacity → k ≤ 4096 → 0 < k → count + k ≤ room_of s
    → k ≤ (s.shape).capacity
next_room s count k is full few some room = elim (cases_lt 1 s.most) [
  | inl many ↦ (let whole = is.sizes.whole many in elim (cases_lt 0 (s.shape).capacity) [
    | inl size ↦ omega (arith, whole, few, size)
    | inr zero ↦
        let none : (s.shape).capacity ≡ 0 = omega (arith, zero) in
        let all : room_of s ≡ 0 = ap (λ (n : ℕ). s.most * n) none ∙ mul-zero s.most in
        absurd (omega (arith, all, room, some))
  ])
  | inr one ↦
      let low = is.sizes.some in
      let most : s.most ≡ 1 = omega (arith, one, low) in
      let all : room_of s ≡ (s.shape).capacity = ap (λ (n : ℕ). n * (s.shape).capacity) most ∙ one-mul (s.shape).capacity in
      absurd (omega (arith, room, all, full, some))
]

-- rows that stay in a segment have room in the current one, where the first of them has
pub segment_room : (s t : SegmentsValue) (count k : ℕ) → SegmentsGoOn s t → base_of s ≤ count → base_of t ≤ count
    → count < base_of t + (t.shape).capacity → StayInSegment s count k → count + k ≤ base_of t + (t.shape).capacity
segment_room s t count k same full full_now some stay =
    let n = (s.shape).capacity in
    let i = length s.closed in
    let j = length t.closed in
    let size : (t.shape).capacity ≡ n = ap (λ (h : ShapeValue). h.capacity) same.shape in
    let base : base_of t ≡ n * j = ap (λ (c : ℕ). c * j) size in
    elim (cases_lt i j) [
      | inl later ↦
          let far : n * suc i ≤ n * j = mul-le-mul_left n (let e : suc i ≤ j = omega (arith, later) in e) in
          let step = mul-suc n i in
          elim stay [
            | inl here ↦ omega (arith, here, far, step, base, size)
            | inr next ↦ omega (arith, next.0, next.1, far, step, base, size)
          ]
      | inr sooner ↦
          let back : n * j ≤ n * i = mul-le-mul_left n (let e : j ≤ i = omega (arith, sooner) in e) in
          elim (cases_lt j i) [
            | inl before ↦
                let far : n * suc j ≤ n * i = mul-le-mul_left n (let e : suc j ≤ i = omega (arith, before) in e) in
                let step = mul-suc n j in
                absurd (omega (arith, far, step, base, size, full, some))
            | inr same_place ↦
                let e : j ≡ i = omega (arith, sooner, same_place) in
                let at : base_of t ≡ n * i = base ∙ ap (λ (c : ℕ). n * c) e in
                elim stay [
                  | inl here ↦ omega (arith, here, at, size)
                  | inr next ↦ absurd (omega (arith, next.0, at, size, some))
                ]
          ]
    ]

-- what may be loaded at once has room in the current segment
pub may_room : (s t : SegmentsValue) (plan : LivePlan) (count k : ℕ) → SegmentsGoOn s t → IsSegments t → base_of s ≤ count → base_of t ≤ count
    → count < base_of t + (t.shape).capacity → count + k ≤ room_of t → MayLoad s plan count k → count + k ≤ base_of t + (t.shape).capacity
may_room s t plan count k same is full full_now some room may = elim (cases_lt 0 plan.rounds) [
  | inl due ↦ batch_room t count k is (may.whole due) (may.few due) some room
  | inr quiet ↦ segment_room s t count k same full full_now some (may.segment (omega (arith, quiet)))
]

-- and stays in a batch
pub may_stay : (s : SegmentsValue) (plan : LivePlan) (count k : ℕ) → MayLoad s plan count k → StayInBatch s.shape count k
may_stay s plan count k may several = elim (cases_lt 0 plan.rounds) [
  | inl due ↦ (let whole = may.whole due in let few = may.few due in omega (arith, whole, few))
  | inr quiet ↦ may.batch (omega (arith, quiet)) several
]

-- whole batches before, and the batch that is next or the last rows
pub may_batch : (s : SegmentsValue) (plan : LivePlan) (rows : List RowValue) (k : ℕ) → HoldsRows s rows → length rows % 4096 ≡ 0 → k ≤ 4096
    → length rows + k ≤ room_of s → MayLoad s plan (length rows) k
may_batch s plan rows k holds whole few room = record {
  whole = λ _. whole;
  few = λ _. few;
  batch = λ _ _. omega (arith, whole, few);
  segment = λ _. elim (cases_lt (length rows) (base_of s + (s.shape).capacity)) [
    | inl some ↦ inl (batch_room s (length rows) k holds.are whole few some room)
    | inr past ↦
        let most = holds.room in
        let full : length rows ≡ base_of s + (s.shape).capacity = omega (arith, past, most) in
        elim (cases_lt 0 k) [
          | inl more ↦ inr (full, next_room s (length rows) k holds.are full few more room)
          | inr none ↦ inl (omega (arith, full, none))
        ]
  ];
}

-- what a batch leaves that was refused beside its rows
pub refused : (before rows : List RowValue) (s t : SegmentsValue) (fault : LoadFault) → length before + length rows ≤ room_of s → SegmentsGoOn s t
    → HaveStopped before rows t fault → IsRefused before rows s t fault
refused before rows s t Full room goes stopped = absurd stopped
refused before rows s t (NodesFull w) room goes stopped = (room, goes, stopped)
refused before rows s t Memory room goes stopped = (room, goes, stopped)
