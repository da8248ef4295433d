-- Streams of few buckets, of which none is forgotten.
use Rattle.std.proofs.Common.{◌≡◌, ℕ, suc, ◌+◌, ◌-◌, ◌^◌, ◌≤◌, ◌<◌, Bool, true, false, ◌||◌, ◌&&◌, ◌==◌, List, [], ◌∷◌, ◌++◌, length, map, filter, fold, min, All, refl, sym, ap, ap₂, ◌∙◌, inl, inr, arith, append-nil, append_assoc, get_or, None}
use Rattle.std.proofs.lemmas.Bool.{cases_Bool, cond-false, cond-true, cases_eq, cases_order, eq-eqb, eqb-false, false≢true, le-ltb, lt-leb, lt-ltb, ne_eqb, or_parts}
use Rattle.std.proofs.lemmas.List.{length-append, length_push, length-map, take_all}
use Rattle.std.proofs.lemmas.List.Concat.{flat_map-append}
use Rattle.std.proofs.lemmas.List.Elements.{All-weaker, recursion_from_All}
use Rattle.std.proofs.lemmas.List.Folds.{list_any-append}
use Rattle.std.proofs.lemmas.List.Sums.{fold-append, fold_push}
use Rattle.std.specs.List.{AllByRecursion, flat_map, list_any}
use Rattle.cf_row.specs.Row.{Fits, RowValue}
use Rattle.cf_fold.specs.Quads.{QuadValue, quad_of}
use Rattle.cf_fold.specs.Triggers.{fires_of, part_of}
use Rattle.cf_fold.specs.declared.trigger.Trigger.{Trigger}
use Rattle.cf_shape.specs.Lanes.{ShapeValue, group_key, has_by, key_of, lane_at, measure_of, selected_by}
use Rattle.cf_plain.specs.Asks.{mark_of, marks_in, marks_over}
use Rattle.cf_plain.specs.Groups.{ascending, group_of, has_key, insert_into, keys_in}
use Rattle.cf_plain.specs.declared.answer.Fired.{Fired}
use Rattle.cf_plain.proofs.Grouped.{Rise, any_ascending, rise_ascending}
use Rattle.cf_plain.proofs.Rising.{rising_is_one}
use Rattle.cf_watch.specs.Kept.{BucketValue, begun, is_full, is_kept, is_of, is_other, kept_after, most_kept, taking, with_record}
use Rattle.cf_watch.specs.Laws.{Step, took, told, after_step, after_steps, shown_mark, value_in, values_of}
use Rattle.cf_watch.specs.Marks.{by_bucket, mark_in, marks_on, meets, put_mark, settled_count, telling}
use Rattle.cf_watch.proofs.Keys.{AreLow, key_low, low_ascending, plain_key, plain_keys}
use Rattle.cf_watch.proofs.Distinct.{kept_same, number_of, numbers}
use Rattle.cf_watch.proofs.Since.{all_since}
use Rattle.cf_watch.proofs.Told.{numbers_first}
use Rattle.cf_watch.proofs.Totals.{row_step, rows_are_steps, selected}

-- the bucket of a record
abbrev pub bucket_in : Step → List ℕ
bucket_in (took b n) = b ∷ []
bucket_in (told trigger place) = []

abbrev pub buckets_in : List Step → List ℕ
buckets_in steps = flat_map bucket_in steps

abbrev pub has : List ℕ → ℕ → Bool
has xs q = list_any (λ n. q == n) xs

or_assoc : (a b c : Bool) → (a || b || c) ≡ (a || (b || c))
or_assoc true b c = refl
or_assoc false b c = refl

or_swap : (a b c : Bool) → (a || (b || c)) ≡ (b || (a || c))
or_swap true true c = refl
or_swap true false c = refl
or_swap false b c = refl

pub or_false : (a : Bool) → (a || false) ≡ a
or_false true = refl
or_false false = refl

pub eq_swap : (a b : ℕ) → (a == b) ≡ (b == a)
eq_swap a b = elim (cases_eq a b) [
  | inl e ↦ eq-eqb a b e ∙ sym (eq-eqb b a (sym e))
  | inr ne ↦ ne_eqb a b ne ∙ sym (ne_eqb b a (λ e. ne (sym e)))
]

-- lists that ascend
pub grows_by_one : (xs : List ℕ) (b : ℕ) → has xs b ≡ false → length (insert_into xs b) ≡ suc (length xs)
grows_by_one [] b none = refl
grows_by_one (m ∷ ms) b none =
    let parts = or_parts (b == m) (has ms b) none in
    elim (cases_order b m) [
      | inl e ↦ absurd (eqb-false b m parts.0 e)
      | inr (inl below) ↦ rw (lt-ltb b m below) refl
      | inr (inr above) ↦ rw (le-ltb b m (omega (arith, above)), parts.0) (ap suc (grows_by_one ms b parts.1))
    ]

never_shorter : (xs : List ℕ) (b : ℕ) → length xs ≤ length (insert_into xs b)
never_shorter [] b = omega arith
never_shorter (m ∷ ms) b = elim (cases_order b m) [
  | inl e ↦ rw (le-ltb b m (omega (arith, e)), eq-eqb b m e) (omega arith)
  | inr (inl below) ↦ rw (lt-ltb b m below) (omega arith)
  | inr (inr above) ↦ rw (le-ltb b m (omega (arith, above)), ne_eqb b m (λ e. omega (arith, e, above))) (omega (arith, never_shorter ms b))
]

pub longer : (ms ns : List ℕ) → length ms ≤ length (fold insert_into ms ns)
longer ms [] = omega arith
longer ms (n ∷ ns) = omega (arith, never_shorter ms n, longer (insert_into ms n) ns)

none_above : (q m : ℕ) (xs : List ℕ) → q < m → AllByRecursion (λ x. m < x) xs → has xs q ≡ false
none_above q m [] lt all = refl
none_above q m (x ∷ xs) lt all = rw (ne_eqb q x (λ e. omega (arith, e, lt, all.0))) (none_above q m xs lt all.1)

pub stays_as_long : (xs : List ℕ) (b : ℕ) → Rise xs → has xs b ≡ true → length (insert_into xs b) ≡ length xs
stays_as_long [] b rise found = absurd (false≢true found)
stays_as_long (m ∷ ms) b rise found = elim (cases_order b m) [
  | inl e ↦ rw (le-ltb b m (omega (arith, e)), eq-eqb b m e) refl
  | inr (inl below) ↦ absurd (false≢true (sym (none_above b m ms below rise.0) ∙ sym (ap (λ t. t || has ms b) (ne_eqb b m (λ e. omega (arith, e, below)))) ∙ found))
  | inr (inr above) ↦
      let differ : (b == m) ≡ false = ne_eqb b m (λ e. omega (arith, e, above)) in
      rw (le-ltb b m (omega (arith, above)), differ) (ap suc (stays_as_long ms b rise.1 (sym (ap (λ t. t || has ms b) differ) ∙ found)))
]

-- the kept buckets are all that came
pub record IsAll (kept : List BucketValue) (bs : List ℕ) : Type 0 where
  pub members : (q : ℕ) → is_kept kept q ≡ has bs q
  pub size : length kept ≡ length (ascending bs)

split_members : (kept : List BucketValue) (b n q : ℕ)
    → (is_kept (filter (is_other b) kept) q || is_kept (map (with_record n) (filter (is_of b) kept)) q) ≡ is_kept kept q
split_members [] b n q = refl
split_members (k ∷ ks) b n q = elim (cases_Bool (k.bucket == b)) [
  | inl same ↦ rw same
      (or_swap (is_kept (filter (is_other b) ks) q) (k.bucket == q) (is_kept (map (with_record n) (filter (is_of b) ks)) q)
      ∙ ap (λ t. (k.bucket == q) || t) (split_members ks b n q))
  | inr other ↦ rw other
      (or_assoc (k.bucket == q) (is_kept (filter (is_other b) ks) q) (is_kept (map (with_record n) (filter (is_of b) ks)) q)
      ∙ ap (λ t. (k.bucket == q) || t) (split_members ks b n q))
]

taken_members : (kept : List BucketValue) (b n q : ℕ)
    → is_kept (filter (is_other b) kept ++ map (with_record n) (filter (is_of b) kept)) q ≡ is_kept kept q
taken_members kept b n q =
    list_any-append (is_of q) (filter (is_other b) kept) (map (with_record n) (filter (is_of b) kept)) ∙ split_members kept b n q

split_length : (kept : List BucketValue) (b n : ℕ) → length (filter (is_other b) kept) + length (map (with_record n) (filter (is_of b) kept)) ≡ length kept
split_length [] b n = refl
split_length (k ∷ ks) b n = elim (cases_Bool (k.bucket == b)) [
  | inl same ↦ rw same (omega (arith, split_length ks b n))
  | inr other ↦ rw other (omega (arith, split_length ks b n))
]

pub ascending_push : (bs : List ℕ) (b : ℕ) → ascending (bs ++ b ∷ []) ≡ insert_into (ascending bs) b
ascending_push bs b = fold_push insert_into [] bs b

pub has_push : (bs : List ℕ) (b q : ℕ) → has (bs ++ b ∷ []) q ≡ (has bs q || (q == b))
has_push bs b q = list_any-append (λ n. q == n) bs (b ∷ []) ∙ ap (λ t. has bs q || t) (or_false (q == b))

pub has_again : (bs : List ℕ) (b q : ℕ) → has bs b ≡ true → has bs q ≡ (has bs q || (q == b))
has_again bs b q found = elim (cases_eq q b) [
  | inl e ↦ let here : has bs q ≡ true = ap (has bs) e ∙ found in rw here refl
  | inr ne ↦ rw (ne_eqb q b ne) (sym (or_false (has bs q)))
]

-- a record more, for which there is room
took_all : (kept : List BucketValue) (bs : List ℕ) (b n : ℕ) → IsAll kept bs → length (ascending (bs ++ b ∷ [])) ≤ most_kept
    → IsAll (taking kept b n) (bs ++ b ∷ [])
took_all kept bs b n is few = elim (cases_Bool (is_kept kept b)) [
  | inl found ↦
      let there : has bs b ≡ true = sym (is.members b) ∙ found in
      rw found (record {
        members = λ q. taken_members kept b n q ∙ is.members q ∙ has_again bs b q there ∙ sym (has_push bs b q);
        size = length-append (filter (is_other b) kept) (map (with_record n) (filter (is_of b) kept)) ∙ split_length kept b n ∙ is.size
            ∙ sym (stays_as_long (ascending bs) b (rise_ascending bs) (any_ascending bs b ∙ there)) ∙ sym (ap length (ascending_push bs b));
      })
  | inr none ↦
      let lacks : has bs b ≡ false = sym (is.members b) ∙ none in
      let one : length (ascending (bs ++ b ∷ [])) ≡ suc (length (ascending bs)) =
      ap length (ascending_push bs b) ∙ grows_by_one (ascending bs) b (any_ascending bs b ∙ lacks) in
      let room : is_full kept ≡ false = lt-leb most_kept (length kept) (omega (arith, one, is.size, few)) in
      rw (none, room) (record {
        members = λ q. list_any-append (is_of q) kept (begun b n ∷ []) ∙ ap₂ (λ s t. s || t) (is.members q) (or_false (b == q) ∙ eq_swap b q) ∙ sym (has_push bs b q);
        size = length_push kept (begun b n) ∙ omega (arith, one, is.size);
      })
]

told_all : (kept : List BucketValue) (bs : List ℕ) (trigger : Trigger) (place : ℕ) → IsAll kept bs → IsAll (telling trigger place kept) bs
told_all kept bs trigger place is =
    let same : numbers kept ≡ numbers (telling trigger place kept) = numbers_first trigger place (settled_count trigger false (length kept)) kept in
    record {
      members = λ q. sym (kept_same number_of kept (telling trigger place kept) q same) ∙ is.members q;
      size = sym (length-map (telling trigger place kept) (λ k. k.bucket)) ∙ ap length (sym same) ∙ length-map kept (λ k. k.bucket) ∙ is.size;
    }

more_all : (kept : List BucketValue) (bs : List ℕ) (s : Step) → IsAll kept bs → length (ascending (bs ++ bucket_in s)) ≤ most_kept
    → IsAll (after_step kept s) (bs ++ bucket_in s)
more_all kept bs (took b n) is few = took_all kept bs b n is few
more_all kept bs (told trigger place) is few = rw (append-nil bs) (told_all kept bs trigger place is)

pub shorter_front : (xs ys : List ℕ) → length (ascending xs) ≤ length (ascending (xs ++ ys))
shorter_front xs ys = let e = ap length (fold-append insert_into [] xs ys) in omega (arith, e, longer (ascending xs) ys)

from_all : (kept : List BucketValue) (bs : List ℕ) (steps : List Step) → IsAll kept bs → length (ascending (bs ++ buckets_in steps)) ≤ most_kept
    → IsAll (fold after_step kept steps) (bs ++ buckets_in steps)
from_all kept bs [] is few = rw (append-nil bs) is
from_all kept bs (s ∷ steps) is few =
    let e : (bs ++ bucket_in s) ++ buckets_in steps ≡ bs ++ (bucket_in s ++ buckets_in steps) = append_assoc bs (bucket_in s) (buckets_in steps) in
    let few' : length (ascending ((bs ++ bucket_in s) ++ buckets_in steps)) ≤ most_kept = rw e few in
    let front : length (ascending (bs ++ bucket_in s)) ≤ most_kept = omega (arith, few', shorter_front (bs ++ bucket_in s) (buckets_in steps)) in
    rw e at (from_all (after_step kept s) (bs ++ bucket_in s) steps (more_all kept bs s is front) few')

all_kept : (steps : List Step) → length (ascending (buckets_in steps)) ≤ most_kept → IsAll (after_steps steps) (buckets_in steps)
all_kept steps few = from_all [] [] steps (record { members = λ q. refl; size = refl }) few

pub no_values : (b : ℕ) (steps : List Step) → has (buckets_in steps) b ≡ false → values_of b steps ≡ []
no_values b [] none = refl
no_values b (took q n ∷ steps) none =
    let parts = or_parts (b == q) (has (buckets_in steps) b) none in
    let other : (q == b) ≡ false = eq_swap q b ∙ parts.0 in
    rw (other, no_values b steps parts.1) refl
no_values b (told trigger place ∷ steps) none = no_values b steps none

whole_quads : (steps : List Step) → length (ascending (buckets_in steps)) ≤ most_kept → All (λ k. k.quad ≡ quad_of (values_of k.bucket steps)) (after_steps steps)
whole_quads steps few = λ i d lt.
    let since = all_since steps i d lt in
    let past : List Step = since.0 in
    let rest : List Step = since.1 in
    let k : BucketValue = get_or (after_steps steps) i d in
    let cut : buckets_in steps ≡ buckets_in past ++ buckets_in rest = ap buckets_in since.2 ∙ flat_map-append bucket_in past rest in
    let front : length (ascending (buckets_in past)) ≤ most_kept =
    let e = ap (λ bs. length (ascending bs)) cut in omega (arith, few, e, shorter_front (buckets_in past) (buckets_in rest)) in
    let none : values_of k.bucket past ≡ [] = no_values k.bucket past (sym ((all_kept past front).members k.bucket) ∙ since.3.was_not) in
    let all : values_of k.bucket steps ≡ values_of k.bucket rest =
    ap (values_of k.bucket) since.2 ∙ flat_map-append (value_in k.bucket) past rest ∙ ap (λ vs. vs ++ values_of k.bucket rest) none in
    since.3.whole ∙ ap quad_of (sym all)

-- marks by the numbers of buckets
abbrev mark_at : Trigger → (ℕ → QuadValue) → ℕ → Fired
mark_at trigger quad q = record { bucket = q; key = None; value = min (part_of trigger.part (quad q)) (2 ^ 64 - 1) }

abbrev fires_at : Trigger → (ℕ → QuadValue) → ℕ → Bool
fires_at trigger quad q = fires_of trigger (quad q)

marks_by_numbers : (trigger : Trigger) (quad : ℕ → QuadValue) (ks : List BucketValue) → AllByRecursion (λ k. k.quad ≡ quad k.bucket) ks
    → map (mark_in trigger) (filter (meets trigger) ks) ≡ map (mark_at trigger quad) (filter (fires_at trigger quad) (numbers ks))
marks_by_numbers trigger quad [] all = refl
marks_by_numbers trigger quad (k ∷ ks) all =
    let rest = marks_by_numbers trigger quad ks all.1 in
    elim (cases_Bool (fires_at trigger quad k.bucket)) [
      | inl fired ↦
          let met : meets trigger k ≡ true = ap (fires_of trigger) all.0 ∙ fired in
          ap (map (mark_in trigger)) (cond-true (meets trigger k) (k ∷ filter (meets trigger) ks) (filter (meets trigger) ks) met)
          ∙ ap₂ (λ (m : Fired) (ms : List Fired). m ∷ ms)
          (ap (λ (q : QuadValue). record { bucket = k.bucket; key = None; value = min (part_of trigger.part q) (2 ^ 64 - 1) }) all.0) rest
          ∙ sym (ap (map (mark_at trigger quad)) (cond-true (fires_at trigger quad k.bucket) (k.bucket ∷ filter (fires_at trigger quad) (numbers ks)) (filter (fires_at trigger quad) (numbers ks)) fired))
      | inr quiet ↦
          let unmet : meets trigger k ≡ false = ap (fires_of trigger) all.0 ∙ quiet in
          ap (map (mark_in trigger)) (cond-false (meets trigger k) (k ∷ filter (meets trigger) ks) (filter (meets trigger) ks) unmet)
          ∙ rest
          ∙ sym (ap (map (mark_at trigger quad)) (cond-false (fires_at trigger quad k.bucket) (k.bucket ∷ filter (fires_at trigger quad) (numbers ks)) (filter (fires_at trigger quad) (numbers ks)) quiet))
    ]

put_at : (trigger : Trigger) (quad : ℕ → QuadValue) (ms : List ℕ) (q : ℕ)
    → put_mark (map (mark_at trigger quad) ms) (mark_at trigger quad q) ≡ map (mark_at trigger quad) (insert_into ms q)
put_at trigger quad [] q = refl
put_at trigger quad (m ∷ ms) q = elim (cases_order q m) [
  | inl e ↦ rw (le-ltb q m (omega (arith, e)), eq-eqb q m e) (ap (λ (x : ℕ). mark_at trigger quad x ∷ map (mark_at trigger quad) ms) e)
  | inr (inl below) ↦ rw (lt-ltb q m below) refl
  | inr (inr above) ↦ rw (le-ltb q m (omega (arith, above)), ne_eqb q m (λ e. omega (arith, e, above)))
      (ap (λ (xs : List Fired). mark_at trigger quad m ∷ xs) (put_at trigger quad ms q))
]

by_at : (trigger : Trigger) (quad : ℕ → QuadValue) (ms qs : List ℕ)
    → fold put_mark (map (mark_at trigger quad) ms) (map (mark_at trigger quad) qs) ≡ map (mark_at trigger quad) (fold insert_into ms qs)
by_at trigger quad ms [] = refl
by_at trigger quad ms (q ∷ qs) =
    ap (λ xs. fold put_mark xs (map (mark_at trigger quad) qs)) (put_at trigger quad ms q) ∙ by_at trigger quad (insert_into ms q) qs

-- what passes of ascending lists
above_filter : (p : ℕ → Bool) (m : ℕ) (xs : List ℕ) → AllByRecursion (λ x. m < x) xs → AllByRecursion (λ x. m < x) (filter p xs)
above_filter p m [] all = tt
above_filter p m (x ∷ xs) all = elim (cases_Bool (p x)) [
  | inl pass ↦ rw pass (all.0, above_filter p m xs all.1)
  | inr fail ↦ rw fail (above_filter p m xs all.1)
]

pub rise_filter : (p : ℕ → Bool) (xs : List ℕ) → Rise xs → Rise (filter p xs)
rise_filter p [] rise = tt
rise_filter p (x ∷ xs) rise = elim (cases_Bool (p x)) [
  | inl pass ↦ rw pass (above_filter p x xs rise.0, rise_filter p xs rise.1)
  | inr fail ↦ rw fail (rise_filter p xs rise.1)
]

and_none : (a : Bool) → false ≡ (a && false)
and_none true = refl
and_none false = refl

pub has_filter : (p : ℕ → Bool) (xs : List ℕ) (q : ℕ) → has (filter p xs) q ≡ (p q && has xs q)
has_filter p [] q = and_none (p q)
has_filter p (x ∷ xs) q = elim (cases_eq q x) [
  | inl e ↦ elim (cases_Bool (p x)) [
    | inl pass ↦ let here : p q ≡ true = ap p e ∙ pass in rw (pass, here, eq-eqb q x e) refl
    | inr fail ↦ let here : p q ≡ false = ap p e ∙ fail in rw (fail, here) (has_filter p xs q ∙ ap (λ t. t && has xs q) here)
  ]
  | inr ne ↦ elim (cases_Bool (p x)) [
    | inl pass ↦ rw (pass, ne_eqb q x ne) (has_filter p xs q)
    | inr fail ↦ rw (fail, ne_eqb q x ne) (has_filter p xs q)
  ]
]

has_numbers : (kept : List BucketValue) (q : ℕ) → has (numbers kept) q ≡ is_kept kept q
has_numbers [] q = refl
has_numbers (k ∷ ks) q = ap₂ (λ s t. s || t) (eq_swap q k.bucket) (has_numbers ks q)

-- the marks of groups
shown_groups : (shape : ShapeValue) (trigger : Trigger) (rows : List RowValue) (qs : List ℕ) → AreLow qs
    → map shown_mark (map (mark_of trigger) (filter (λ g. fires_of trigger g.1) (map (group_of shape trigger.agg rows) qs)))
    ≡ map (mark_at trigger (λ q. (group_of shape trigger.agg rows q).1)) (filter (fires_at trigger (λ q. (group_of shape trigger.agg rows q).1)) qs)
shown_groups shape trigger rows [] low = refl
shown_groups shape trigger rows (q ∷ qs) low = elim (cases_Bool (fires_of trigger (group_of shape trigger.agg rows q).1)) [
  | inl fired ↦ rw (fired, lt-ltb q (2 ^ 64) low.0)
      (ap (λ (ms : List Fired). mark_at trigger (λ b. (group_of shape trigger.agg rows b).1) q ∷ ms) (shown_groups shape trigger rows qs low.1))
  | inr quiet ↦ rw quiet (shown_groups shape trigger rows qs low.1)
]

-- what steps of rows bring
values_are : (shape : ShapeValue) (lane q : ℕ) (rows : List RowValue) → has_by (lane_at shape lane).key ≡ false
    → values_of q (map (row_step shape lane) (selected shape lane rows)) ≡ map (measure_of shape lane) (filter (has_key shape lane q) rows)
values_are shape lane q [] plain = refl
values_are shape lane q (row ∷ rows) plain =
    let key : (group_key shape lane row == q) ≡ (key_of shape lane row == q) = ap (λ k. k == q) (plain_key shape lane row plain) in
    elim (cases_Bool (selected_by shape lane row)) [
      | inl takes ↦ elim (cases_Bool (key_of shape lane row == q)) [
        | inl same ↦ rw (takes, key ∙ same, same) (ap (λ vs. measure_of shape lane row ∷ vs) (values_are shape lane q rows plain))
        | inr other ↦ rw (takes, key ∙ other, other) (values_are shape lane q rows plain)
      ]
      | inr passes ↦ rw passes (values_are shape lane q rows plain)
    ]

keys_low : (shape : ShapeValue) (lane : ℕ) (rows : List RowValue) → AllByRecursion (Fits shape.schema) rows → AreLow (map (key_of shape lane) (selected shape lane rows))
keys_low shape lane [] fit = tt
keys_low shape lane (row ∷ rows) fit = elim (cases_Bool (selected_by shape lane row)) [
  | inl takes ↦ rw takes (key_low shape lane row fit.0, keys_low shape lane rows fit.1)
  | inr passes ↦ rw passes (keys_low shape lane rows fit.1)
]

buckets_are : (shape : ShapeValue) (lane : ℕ) (rows : List RowValue) → buckets_in (map (row_step shape lane) rows) ≡ map (key_of shape lane) rows
buckets_are shape lane [] = refl
buckets_are shape lane (row ∷ rows) = ap (λ bs. key_of shape lane row ∷ bs) (buckets_are shape lane rows)

pub whole_streams : (shape : ShapeValue) (trigger : Trigger) (rows : List RowValue) → has_by (lane_at shape trigger.agg).key ≡ false → All (Fits shape.schema) rows
    → length (keys_in shape trigger.agg rows) ≤ most_kept
    → marks_on trigger true (kept_after shape trigger.agg rows).buckets ≡ map shown_mark (marks_over shape trigger rows)
whole_streams shape trigger rows plain fit few =
    let lane = trigger.agg in
    let steps : List Step = map (row_step shape lane) (selected shape lane rows) in
    let keys : List ℕ = map (key_of shape lane) (selected shape lane rows) in
    let kept : List BucketValue = after_steps steps in
    let quad : ℕ → QuadValue = λ q. (group_of shape lane rows q).1 in
    let cut : buckets_in steps ≡ keys = buckets_are shape lane (selected shape lane rows) in
    let same_keys : keys_in shape lane rows ≡ ascending keys = ap ascending (plain_keys shape lane (selected shape lane rows) plain) in
    let fewer : length (ascending keys) ≤ most_kept = rw same_keys at few in
    let room : length (ascending (buckets_in steps)) ≤ most_kept = rw cut fewer in
    let low : AreLow (ascending keys) = low_ascending keys (keys_low shape lane rows (recursion_from_All (Fits shape.schema) rows fit)) in
    let all = all_kept steps room in
    let quads : All (λ k. k.quad ≡ quad k.bucket) kept =
    All-weaker (λ k. k.quad ≡ quad_of (values_of k.bucket steps)) (λ k. k.quad ≡ quad k.bucket)
    (λ k is. is ∙ ap quad_of (values_are shape lane k.bucket rows plain)) kept (whole_quads steps room) in
    let same : (q : ℕ) → has (numbers kept) q ≡ has (ascending keys) q =
    λ q. has_numbers kept q ∙ all.members q ∙ ap (λ bs. has bs q) cut ∙ sym (any_ascending keys q) in
    let fires : ℕ → Bool = fires_at trigger quad in
    let order : ascending (filter fires (numbers kept)) ≡ filter fires (ascending keys) =
    rising_is_one (ascending (filter fires (numbers kept))) (filter fires (ascending keys)) (rise_ascending (filter fires (numbers kept)))
    (rise_filter fires (ascending keys) (rise_ascending keys))
    (λ q. any_ascending (filter fires (numbers kept)) q ∙ has_filter fires (numbers kept) q ∙ ap (λ t. fires q && t) (same q) ∙ sym (has_filter fires (ascending keys) q)) in
    ap (marks_on trigger true) (rows_are_steps shape lane rows)
    ∙ ap (λ ks. by_bucket (map (mark_in trigger) (filter (meets trigger) ks))) (take_all (length kept) kept (omega arith))
    ∙ ap by_bucket (marks_by_numbers trigger quad kept (recursion_from_All (λ k. k.quad ≡ quad k.bucket) kept quads))
    ∙ by_at trigger quad [] (filter fires (numbers kept))
    ∙ ap (map (mark_at trigger quad)) order
    ∙ sym (shown_groups shape trigger rows (ascending keys) low)
    ∙ ap (λ qs. map shown_mark (marks_in trigger (map (group_of shape lane rows) qs))) (sym same_keys)
