-- The marks of streams of few buckets and few pairs.
use Rattle.std.proofs.Common.{◌≡◌, ℕ, ◌+◌, ◌-◌, ◌^◌, ◌≤◌, ◌<◌, Bool, true, false, nat_lt, ◌&&◌, ◌==◌, List, [], ◌∷◌, ◌++◌, length, map, filter, fold, min, All, refl, sym, ap, ap₂, subst, ◌∙◌, inl, inr, arith, append-nil, append_assoc, Option, Some}
use Rattle.std.proofs.lemmas.Bool.{cases_Bool, cases_order, cond-false, cond-true, eq-eqb, false≢true, le-ltb, lt-ltb, ne_eqb}
use Rattle.std.proofs.lemmas.List.{map-append, take_all}
use Rattle.std.proofs.lemmas.List.Elements.{All-nil, recursion_from_All}
use Rattle.std.specs.List.{AllByRecursion, flat_map}
use Rattle.std.specs.Option.{unwrap_or}
use Rattle.cf_row.specs.Row.{Fits, RowValue}
use Rattle.cf_fold.specs.Quads.{QuadValue, quad_of}
use Rattle.cf_fold.specs.Triggers.{fires_of, part_of}
use Rattle.cf_fold.specs.declared.trigger.Trigger.{Trigger}
use Rattle.cf_shape.specs.Lanes.{ShapeValue, both_keys, by_in, group_key, has_by, key_of, lane_at, measure_of, selected_by}
use Rattle.cf_shape.specs.declared.lane.Key.{Key}
use Rattle.cf_shape.specs.declared.lane.Key.TheVariants as keys
use Rattle.cf_plain.specs.Asks.{mark_of, marks_in, marks_over}
use Rattle.cf_plain.specs.Groups.{ascending, first_key, group_of, has_key, insert_into, key_of_mark, keys_in, other_key}
use Rattle.cf_plain.specs.declared.answer.Fired.{Fired}
use Rattle.cf_plain.proofs.BothKeys.{first_back, keys_back, other_back}
use Rattle.cf_plain.proofs.Grouped.{any_ascending, rise_ascending}
use Rattle.cf_plain.proofs.Rising.{rising_is_one}
use Rattle.cf_watch.specs.Kept.{BucketValue}
use Rattle.cf_watch.specs.Laws.{Step, took, shown_mark, values_of}
use Rattle.cf_watch.specs.Marks.{by_bucket, meets, put_mark}
use Rattle.cf_watch.specs.Pairs.{ApartValue, IsKeptApart, apart_after, apart_by, most_apart, most_pairs, taking_apart}
use Rattle.cf_watch.specs.PairMarks.{apart_marks, marks_at, pair_mark}
use Rattle.cf_watch.specs.PairLaws.{after_pair_step, after_pair_steps}
use Rattle.cf_watch.proofs.Keys.{by_low, key_low}
use Rattle.cf_watch.proofs.PairRows.{pair_step, rows_are_pair_steps}
use Rattle.cf_watch.proofs.Placing.{kept_taking_apart}
use Rattle.cf_watch.proofs.Totals.{selected}
use Rattle.cf_watch.proofs.Whole.{buckets_in, has, has_filter, longer, rise_filter, shorter_front}
use Rattle.cf_watch.proofs.WholePairs.{IsWhole, IsWholeBucket, all_numbers, number, numbers_at, took_whole}

-- a lane that keeps keys apart
by_there : (key : Key) (row : RowValue) → has_by key ≡ true → by_in key row ≡ Some (unwrap_or (by_in key row) 0)
by_there (keys.Attr attr) row has = absurd (false≢true has)
by_there keys.Bucket row has = absurd (false≢true has)
by_there (keys.BucketBy attr) row has = refl

pair_key : (shape : ShapeValue) (lane : ℕ) (row : RowValue) → has_by (lane_at shape lane).key ≡ true
    → group_key shape lane row ≡ number (key_of shape lane row) (apart_by shape lane row)
pair_key shape lane row apart = ap (both_keys (key_of shape lane row)) (by_there (lane_at shape lane).key row apart)

abbrev group_step : ShapeValue → ℕ → RowValue → Step
group_step shape lane row = took (group_key shape lane row) (measure_of shape lane row)

groups_are : (shape : ShapeValue) (lane : ℕ) (rows : List RowValue) → buckets_in (map (group_step shape lane) rows) ≡ map (group_key shape lane) rows
groups_are shape lane [] = refl
groups_are shape lane (row ∷ rows) = ap (λ ns. group_key shape lane row ∷ ns) (groups_are shape lane rows)

values_are : (shape : ShapeValue) (lane q : ℕ) (rows : List RowValue)
    → values_of q (map (group_step shape lane) (selected shape lane rows)) ≡ map (measure_of shape lane) (filter (has_key shape lane q) rows)
values_are shape lane q [] = refl
values_are shape lane q (row ∷ rows) = elim (cases_Bool (selected_by shape lane row)) [
  | inl takes ↦ elim (cases_Bool (group_key shape lane row == q)) [
    | inl same ↦ rw (takes, same) (ap (λ vs. measure_of shape lane row ∷ vs) (values_are shape lane q rows))
    | inr other ↦ rw (takes, other) (values_are shape lane q rows)
  ]
  | inr passes ↦ rw passes (values_are shape lane q rows)
]

-- all rows one after another
module _ (shape : ShapeValue) (lane : ℕ) (apart : has_by (lane_at shape lane).key ≡ true) where
  abbrev buckets_of : List RowValue → List ℕ
  buckets_of rows = map (key_of shape lane) rows

  abbrev steps_of : List RowValue → List Step
  steps_of rows = map (group_step shape lane) rows

  row_whole : (kept : List ApartValue) (bs : List ℕ) (ss : List Step) (count : ℕ) (row : RowValue) → IsKeptApart kept count → IsWhole kept bs ss → Fits shape.schema row
      → length (ascending (bs ++ key_of shape lane row ∷ [])) ≤ most_apart → length (ascending (buckets_in ss ++ group_key shape lane row ∷ [])) ≤ most_pairs
      → IsWhole (after_pair_step kept (pair_step shape lane row)) (bs ++ key_of shape lane row ∷ []) (ss ++ group_step shape lane row ∷ [])
  row_whole kept bs ss count row lawful is fits few fewer =
      let b : ℕ = key_of shape lane row in
      let k : ℕ = apart_by shape lane row in
      let n : ℕ = measure_of shape lane row in
      let e : group_key shape lane row ≡ number b k = pair_key shape lane row apart in
      let fewer' : length (ascending (buckets_in ss ++ number b k ∷ [])) ≤ most_pairs =
      subst (λ q. length (ascending (buckets_in ss ++ q ∷ [])) ≤ most_pairs) e fewer in
      subst (λ q. IsWhole (taking_apart kept b k n) (bs ++ b ∷ []) (ss ++ took q n ∷ [])) (sym e)
      (took_whole kept bs ss count b k n lawful is (by_low shape lane row fits) (key_low shape lane row fits) few fewer')

  rows_whole : (kept : List ApartValue) (bs : List ℕ) (ss : List Step) (count : ℕ) (rows : List RowValue) → IsKeptApart kept count → IsWhole kept bs ss
      → AllByRecursion (Fits shape.schema) rows → length (ascending (bs ++ buckets_of rows)) ≤ most_apart
      → length (ascending (buckets_in ss ++ map (group_key shape lane) rows)) ≤ most_pairs
      → IsWhole (fold after_pair_step kept (map (pair_step shape lane) rows)) (bs ++ buckets_of rows) (ss ++ steps_of rows)
  rows_whole kept bs ss count [] lawful is fit few fewer = rw (append-nil bs, append-nil ss) is
  rows_whole kept bs ss count (row ∷ rows) lawful is fit few fewer =
      let b : ℕ = key_of shape lane row in
      let g : ℕ = group_key shape lane row in
      let e : (bs ++ b ∷ []) ++ buckets_of rows ≡ bs ++ buckets_of (row ∷ rows) = append_assoc bs (b ∷ []) (buckets_of rows) in
      let f : (ss ++ group_step shape lane row ∷ []) ++ steps_of rows ≡ ss ++ steps_of (row ∷ rows) = append_assoc ss (group_step shape lane row ∷ []) (steps_of rows) in
      let h : (buckets_in ss ++ g ∷ []) ++ map (group_key shape lane) rows ≡ buckets_in ss ++ map (group_key shape lane) (row ∷ rows) =
      append_assoc (buckets_in ss) (g ∷ []) (map (group_key shape lane) rows) in
      let i : buckets_in (ss ++ group_step shape lane row ∷ []) ≡ buckets_in ss ++ g ∷ [] = buckets_push ss row in
      let few' : length (ascending ((bs ++ b ∷ []) ++ buckets_of rows)) ≤ most_apart = rw e few in
      let fewer' : length (ascending ((buckets_in ss ++ g ∷ []) ++ map (group_key shape lane) rows)) ≤ most_pairs = rw h fewer in
      let front : length (ascending (bs ++ b ∷ [])) ≤ most_apart = let short = shorter_front (bs ++ b ∷ []) (buckets_of rows) in omega (arith, few', short) in
      let front_pairs : length (ascending (buckets_in ss ++ g ∷ [])) ≤ most_pairs =
      let short = shorter_front (buckets_in ss ++ g ∷ []) (map (group_key shape lane) rows) in omega (arith, fewer', short) in
      let one = row_whole kept bs ss count row lawful is fit.0 front front_pairs in
      let rest = rows_whole (after_pair_step kept (pair_step shape lane row)) (bs ++ b ∷ []) (ss ++ group_step shape lane row ∷ []) (count + 1) rows
      (kept_taking_apart kept count b (apart_by shape lane row) (measure_of shape lane row) lawful) one fit.1 few'
      (subst (λ ns. length (ascending (ns ++ map (group_key shape lane) rows)) ≤ most_pairs) (sym i) fewer') in
      subst (λ cs. IsWhole (fold after_pair_step kept (map (pair_step shape lane) (row ∷ rows))) cs (ss ++ steps_of (row ∷ rows))) e
      (subst (λ cs. IsWhole (fold after_pair_step kept (map (pair_step shape lane) (row ∷ rows))) ((bs ++ b ∷ []) ++ buckets_of rows) cs) f rest)
    where
      buckets_push : (ss : List Step) (row : RowValue) → buckets_in (ss ++ group_step shape lane row ∷ []) ≡ buckets_in ss ++ group_key shape lane row ∷ []
      buckets_push ss row = Rattle.std.proofs.lemmas.List.Concat.flat_map-append Rattle.cf_watch.proofs.Whole.bucket_in ss (group_step shape lane row ∷ [])

-- marks by the numbers of pairs
module _ (shape : ShapeValue) (trigger : Trigger) (rows : List RowValue) where
  abbrev lane : ℕ
  lane = trigger.agg

  abbrev quad : ℕ → QuadValue
  quad q = (group_of shape lane rows q).1

  abbrev mark_on : ℕ → Fired
  mark_on q = shown_mark (mark_of trigger (group_of shape lane rows q))

  abbrev fires : ℕ → Bool
  fires q = fires_of trigger (quad q)

  key_on : (q : ℕ) → key_of_mark (mark_on q) ≡ q
  key_on q = keys_back q

  put_on : (ms : List ℕ) (q : ℕ) → put_mark (map mark_on ms) (mark_on q) ≡ map mark_on (insert_into ms q)
  put_on [] q = refl
  put_on (m ∷ ms) q =
      let mine : key_of_mark (mark_on q) ≡ q = key_on q in
      let its : key_of_mark (mark_on m) ≡ m = key_on m in
      elim (cases_order q m) [
        | inl e ↦
            let no : nat_lt (key_of_mark (mark_on q)) (key_of_mark (mark_on m)) ≡ false = le-ltb _ _ (omega (arith, mine, its, e)) in
            let yes : (key_of_mark (mark_on q) == key_of_mark (mark_on m)) ≡ true = eq-eqb _ _ (omega (arith, mine, its, e)) in
            rw (no, yes, le-ltb q m (omega (arith, e)), eq-eqb q m e) (ap (λ (x : ℕ). mark_on x ∷ map mark_on ms) e)
        | inr (inl below) ↦
            let yes : nat_lt (key_of_mark (mark_on q)) (key_of_mark (mark_on m)) ≡ true = lt-ltb _ _ (omega (arith, mine, its, below)) in
            rw (yes, lt-ltb q m below) refl
        | inr (inr above) ↦
            let no : nat_lt (key_of_mark (mark_on q)) (key_of_mark (mark_on m)) ≡ false = le-ltb _ _ (omega (arith, mine, its, above)) in
            let other : (key_of_mark (mark_on q) == key_of_mark (mark_on m)) ≡ false = ne_eqb _ _ (λ e. omega (arith, mine, its, e, above)) in
            rw (no, other, le-ltb q m (omega (arith, above)), ne_eqb q m (λ e. omega (arith, e, above))) (ap (λ (xs : List Fired). mark_on m ∷ xs) (put_on ms q))
      ]

  all_on : (ms qs : List ℕ) → fold put_mark (map mark_on ms) (map mark_on qs) ≡ map mark_on (fold insert_into ms qs)
  all_on ms [] = refl
  all_on ms (q ∷ qs) = ap (λ xs. fold put_mark xs (map mark_on qs)) (put_on ms q) ∙ all_on (insert_into ms q) qs

  -- the marks on all rows
  shown_on : (qs : List ℕ) → map shown_mark (marks_in trigger (map (group_of shape lane rows) qs)) ≡ map mark_on (filter fires qs)
  shown_on [] = refl
  shown_on (q ∷ qs) = elim (cases_Bool (fires q)) [
    | inl fired ↦ rw fired (ap (λ (ms : List Fired). mark_on q ∷ ms) (shown_on qs))
    | inr quiet ↦ rw quiet (shown_on qs)
  ]

  -- those on what is kept
  abbrev IsQuad : ℕ → BucketValue → Type 0
  IsQuad b pair = (pair.bucket < 2 ^ 64) × (pair.quad ≡ quad (number b pair.bucket))

  one_mark : (b : ℕ) (pair : BucketValue) → b < 2 ^ 64 → IsQuad b pair → pair_mark trigger b pair ≡ mark_on (number b pair.bucket)
  one_mark b pair low is =
      let first : first_key (number b pair.bucket) ≡ b = first_back b (Some pair.bucket) low is.0 in
      let other : other_key (number b pair.bucket) ≡ Some pair.bucket = other_back b (Some pair.bucket) low is.0 in
      ap (λ (q : QuadValue). record { bucket = b; key = Some pair.bucket; value = min (part_of trigger.part q) (2 ^ 64 - 1) }) is.1
      ∙ ap₂ (λ (x : ℕ) (y : Option ℕ). record { bucket = x; key = y; value = min (part_of trigger.part (quad (number b pair.bucket))) (2 ^ 64 - 1) }) (sym first) (sym other)

  marks_of_bucket : (b : ℕ) (pairs : List BucketValue) → b < 2 ^ 64 → AllByRecursion (IsQuad b) pairs
      → map (pair_mark trigger b) (filter (meets trigger) pairs) ≡ map mark_on (filter fires (map (λ pair. number b pair.bucket) pairs))
  marks_of_bucket b [] low all = refl
  marks_of_bucket b (x ∷ xs) low all =
      let q : ℕ = number b x.bucket in
      let rest = marks_of_bucket b xs low all.1 in
      elim (cases_Bool (fires q)) [
        | inl fired ↦
            let met : meets trigger x ≡ true = ap (fires_of trigger) all.0.1 ∙ fired in
            ap (map (pair_mark trigger b)) (cond-true (meets trigger x) (x ∷ filter (meets trigger) xs) (filter (meets trigger) xs) met)
            ∙ ap₂ (λ (m : Fired) (ms : List Fired). m ∷ ms) (one_mark b x low all.0) rest
            ∙ sym (ap (map mark_on) (cond-true (fires q) (q ∷ filter fires (map (λ pair. number b pair.bucket) xs)) (filter fires (map (λ pair. number b pair.bucket) xs)) fired))
        | inr quiet ↦
            let unmet : meets trigger x ≡ false = ap (fires_of trigger) all.0.1 ∙ quiet in
            ap (map (pair_mark trigger b)) (cond-false (meets trigger x) (x ∷ filter (meets trigger) xs) (filter (meets trigger) xs) unmet)
            ∙ rest
            ∙ sym (ap (map mark_on) (cond-false (fires q) (q ∷ filter fires (map (λ pair. number b pair.bucket) xs)) (filter fires (map (λ pair. number b pair.bucket) xs)) quiet))
      ]

  filter_append : (xs ys : List ℕ) → filter fires (xs ++ ys) ≡ filter fires xs ++ filter fires ys
  filter_append xs ys = Rattle.std.proofs.lemmas.List.Elements.filter-append fires xs ys

  record IsMeant (a : ApartValue) : Type 0 where
    low : a.bucket < 2 ^ 64
    pairs : AllByRecursion (IsQuad a.bucket) a.pairs

  marks_of_all : (kept : List ApartValue) → AllByRecursion IsMeant kept → flat_map (marks_at trigger (meets trigger)) kept ≡ map mark_on (filter fires (all_numbers kept))
  marks_of_all [] all = refl
  marks_of_all (a ∷ rest) all =
      ap₂ (λ (xs ys : List Fired). xs ++ ys) (marks_of_bucket a.bucket a.pairs all.0.low all.0.pairs) (marks_of_all rest all.1)
      ∙ sym (map-append mark_on (filter fires (numbers_at a)) (filter fires (all_numbers rest)))
      ∙ ap (map mark_on) (sym (filter_append (numbers_at a) (all_numbers rest)))

  pub whole_pairs : has_by (lane_at shape trigger.agg).key ≡ true → All (Fits shape.schema) rows
      → length (ascending (map (key_of shape trigger.agg) (filter (selected_by shape trigger.agg) rows))) ≤ most_apart
      → length (keys_in shape trigger.agg rows) ≤ most_pairs
      → apart_marks trigger true (apart_after shape trigger.agg rows).buckets ≡ map shown_mark (marks_over shape trigger rows)
  whole_pairs apart fit few fewer =
      let rs : List RowValue = selected shape lane rows in
      let ks : List ApartValue = after_pair_steps (map (pair_step shape lane) rs) in
      let ss : List Step = map (group_step shape lane) rs in
      let ns : List ℕ = map (group_key shape lane) rs in
      let is : IsWhole ks (map (key_of shape lane) rs) ss =
      rows_whole shape lane apart [] [] [] 0 rs (record { few = omega arith; bounded = omega arith; separate = tt; apart = All-nil _ })
      (record { buckets = λ q. refl; members = λ q. refl; size = refl; pairs = refl; quads = All-nil (IsWholeBucket []) })
      (recursion_from_All (Fits shape.schema) rs (Rattle.std.proofs.lemmas.List.Elements.All-filter (selected_by shape lane) (Fits shape.schema) rows fit)) few fewer in
      let meant : AllByRecursion IsMeant ks = recursion_from_All IsMeant ks (λ i d lt. let one = is.quads i d lt in record {
        low = one.low;
        pairs = recursion_from_All (IsQuad _) _ (λ j e below. let p = one.pairs j e below in (p.0, p.1 ∙ ap quad_of (values_are shape lane _ rows)));
      }) in
      let same : (q : ℕ) → has (all_numbers ks) q ≡ has (ascending ns) q =
      λ q. is.members q ∙ ap (λ xs. has xs q) (groups_are shape lane rs) ∙ sym (any_ascending ns q) in
      let order : ascending (filter fires (all_numbers ks)) ≡ filter fires (ascending ns) =
      rising_is_one (ascending (filter fires (all_numbers ks))) (filter fires (ascending ns)) (rise_ascending (filter fires (all_numbers ks)))
      (rise_filter fires (ascending ns) (rise_ascending ns))
      (λ q. any_ascending (filter fires (all_numbers ks)) q ∙ has_filter fires (all_numbers ks) q ∙ ap (λ t. fires q && t) (same q) ∙ sym (has_filter fires (ascending ns) q)) in
      ap (apart_marks trigger true) (rows_are_pair_steps shape lane rows)
      ∙ ap (λ xs. by_bucket (flat_map (marks_at trigger (meets trigger)) xs)) (take_all (length ks) ks (omega arith))
      ∙ ap by_bucket (marks_of_all ks meant)
      ∙ all_on [] (filter fires (all_numbers ks))
      ∙ ap (map mark_on) order
      ∙ sym (shown_on (ascending ns))
