-- What is kept of each lane, as records come and marks are told.
use Rattle.std.proofs.Common.{◌≡◌, ◌∙◌, ℕ, ◌+◌, ◌<◌, ◌≤◌, suc, zero, Bool, true, false, List, [], ◌∷◌, ◌++◌, length, take, drop, get_or, set, fold, map, refl, sym, ap, subst, inl, inr, arith, append_assoc, add-zero}
use Rattle.std.specs.List.{range_with_len}
use Rattle.std.proofs.lemmas.Bool.{cases_Bool, cases_lt}
use Rattle.std.proofs.lemmas.List.{drop_more, get_or_at, get_or_default, length-append, length-map, length-set, length-take-le, set_at, take_more}
use Rattle.std.proofs.Math.ListN.{get_or-eq_default}
use Rattle.std.proofs.lemmas.List.Elements.{All-append, All-drop, All-get_or, All-map, All-set, All-take, All-weaker}
use Rattle.cf_row.specs.Row.{RowValue}
use Rattle.cf_fold.specs.declared.trigger.Trigger.{Trigger}
use Rattle.cf_shape.specs.Lanes.{ShapeValue, has_by, selected_by}
use Rattle.cf_shape.specs.declared.lane.Lane.{Lane}
use Rattle.cf_plain.specs.Asks.{is_aggregate}
use Rattle.cf_watch.specs.Kept.{KeptValue, with_row}
use Rattle.cf_watch.specs.Pairs.{KeptApartValue, with_row_apart}
use Rattle.cf_watch.specs.Watched.{nothing_watched, watched_count, watched_crowds_told, watched_row, watched_telling}
use Rattle.cf_watch.specs.declared.watched.Watched.{Watched}
use Rattle.cf_watch.specs.declared.watched.Watched.TheVariants.{Apart, Whole}
use Rattle.cf_rounds.specs.Lanes.{AreCounted, crowds_all, keeps, keeps_from, kept_at, kept_with, none_kept, told_by, told_first}

length_keeps : (shape : ShapeValue) (row : RowValue) (lane : ℕ) (kept : List Watched) → length (keeps_from shape row lane kept) ≡ length kept
length_keeps shape row lane [] = refl
length_keeps shape row lane (k ∷ ks) = ap suc (length_keeps shape row (lane + 1) ks)

pub length_all : (shape : ShapeValue) (kept : List Watched) (row : RowValue) → length (keeps shape kept row) ≡ length kept
length_all shape kept row = length_keeps shape row 0 kept

keeps_append : (shape : ShapeValue) (row : RowValue) (lane : ℕ) (xs ys : List Watched)
    → keeps_from shape row lane (xs ++ ys) ≡ keeps_from shape row lane xs ++ keeps_from shape row (lane + length xs) ys
keeps_append shape row lane [] ys = ap (λ (n : ℕ). keeps_from shape row n ys) (sym (add-zero lane))
keeps_append shape row lane (x ∷ xs) ys =
    let same : lane + 1 + length xs ≡ lane + length (x ∷ xs) = omega arith in
    ap (λ (zs : List Watched). kept_with shape row lane x ∷ zs)
    (keeps_append shape row (lane + 1) xs ys ∙ ap (λ (n : ℕ). keeps_from shape row (lane + 1) xs ++ keeps_from shape row n ys) same)

-- so many lanes have taken the record
abbrev pub kept_to : ShapeValue → RowValue → ℕ → List Watched → List Watched
kept_to shape row lane kept = keeps_from shape row 0 (take lane kept) ++ drop lane kept

module _ (shape : ShapeValue) (row : RowValue) (kept now : List Watched) (lane : ℕ) (d : Watched) (low : lane < length kept)
    (is : now ≡ kept_to shape row lane kept) where
  front : length (keeps_from shape row 0 (take lane kept)) ≡ lane
  front = length_keeps shape row 0 (take lane kept) ∙ length-take-le lane kept (omega (arith, low))

  split : now ≡ keeps_from shape row 0 (take lane kept) ++ get_or kept lane d ∷ drop (lane + 1) kept
  split = is ∙ ap (λ (zs : List Watched). keeps_from shape row 0 (take lane kept) ++ zs) (drop_more kept lane d low)

  pub still : get_or now lane d ≡ get_or kept lane d
  still = ap (λ (zs : List Watched). get_or zs lane d) split
      ∙ get_or_at (keeps_from shape row 0 (take lane kept)) (get_or kept lane d) (drop (lane + 1) kept) d lane front

  -- one lane more takes it
  pub kept_more : (x : Watched) → x ≡ kept_with shape row lane (get_or now lane d) → set now lane x ≡ kept_to shape row (lane + 1) kept
  kept_more x new =
      let size : 0 + length (take lane kept) ≡ lane = (let few = length-take-le lane kept (omega (arith, low)) in omega (arith, few)) in
      ap (λ (zs : List Watched). set zs lane x) split
      ∙ (set_at (keeps_from shape row 0 (take lane kept)) (get_or kept lane d) (drop (lane + 1) kept) x lane front
      ∙ (ap (λ (y : Watched). keeps_from shape row 0 (take lane kept) ++ y ∷ drop (lane + 1) kept) (new ∙ ap (kept_with shape row lane) still)
      ∙ (sym (append_assoc (keeps_from shape row 0 (take lane kept)) (kept_with shape row lane (get_or kept lane d) ∷ []) (drop (lane + 1) kept))
      ∙ ap (λ (zs : List Watched). zs ++ drop (lane + 1) kept)
      (sym (ap (keeps_from shape row 0) (take_more kept lane d low) ∙ (keeps_append shape row 0 (take lane kept) (get_or kept lane d ∷ [])
      ∙ ap (λ (n : ℕ). keeps_from shape row 0 (take lane kept) ++ kept_with shape row n (get_or kept lane d) ∷ []) size))))))

-- No more are counted than came.
whole_counts : (shape : ShapeValue) (lane : ℕ) (kept : KeptValue) (row : RowValue) → (with_row shape lane kept row).count ≤ kept.count + 1
whole_counts shape lane kept row = elim (cases_Bool (selected_by shape lane row)) [ inl takes ↦ rw takes (omega arith) | inr passes ↦ rw passes (omega arith) ]

apart_counts : (shape : ShapeValue) (lane : ℕ) (kept : KeptApartValue) (row : RowValue) → (with_row_apart shape lane kept row).count ≤ kept.count + 1
apart_counts shape lane kept row = elim (cases_Bool (selected_by shape lane row)) [ inl takes ↦ rw takes (omega arith) | inr passes ↦ rw passes (omega arith) ]

row_counts : (shape : ShapeValue) (lane : ℕ) (kept : Watched) (row : RowValue) → watched_count (watched_row shape lane kept row) ≤ watched_count kept + 1
row_counts shape lane (Whole kept) row = whole_counts shape lane kept row
row_counts shape lane (Apart kept) row = apart_counts shape lane kept row

with_counts : (shape : ShapeValue) (row : RowValue) (lane : ℕ) (kept : Watched) → watched_count (kept_with shape row lane kept) ≤ watched_count kept + 1
with_counts shape row lane kept = elim (cases_Bool (is_aggregate shape lane)) [
  | inl is ↦ rw is (row_counts shape lane kept row)
  | inr isnt ↦ rw isnt (omega arith)
]

cons_counted : (count : ℕ) (x : Watched) (xs : List Watched) → watched_count x ≤ count → AreCounted count xs → AreCounted count (x ∷ xs)
cons_counted count x xs head rest zero d low = head
cons_counted count x xs head rest (suc n) d low = rest n d (omega (arith, low))

keeps_counted : (shape : ShapeValue) (row : RowValue) (lane count : ℕ) (kept : List Watched) → AreCounted count kept
    → AreCounted (count + 1) (keeps_from shape row lane kept)
keeps_counted shape row lane count [] all = λ k d low. absurd (omega (arith, low))
keeps_counted shape row lane count (x ∷ xs) all =
    let head : watched_count x ≤ count = all 0 x (omega arith) in
    let more = with_counts shape row lane x in
    cons_counted (count + 1) (kept_with shape row lane x) (keeps_from shape row (lane + 1) xs) (omega (arith, head, more))
    (keeps_counted shape row (lane + 1) count xs (λ k d low. all (suc k) d (omega (arith, low))))

more_counted : (count : ℕ) (kept : List Watched) → AreCounted count kept → AreCounted (count + 1) kept
more_counted count kept all =
    All-weaker (λ (k : Watched). watched_count k ≤ count) (λ (k : Watched). watched_count k ≤ count + 1) (λ (k : Watched) (low : watched_count k ≤ count). omega (arith, low)) kept all

pub to_counted : (shape : ShapeValue) (row : RowValue) (lane count : ℕ) (kept now : List Watched) → now ≡ kept_to shape row lane kept
    → AreCounted count kept → AreCounted (count + 1) now
to_counted shape row lane count kept now is all =
    subst (AreCounted (count + 1)) (sym is)
    (All-append (λ (k : Watched). watched_count k ≤ count + 1) (keeps_from shape row 0 (take lane kept)) (drop lane kept)
    (keeps_counted shape row 0 count (take lane kept) (All-take (λ (k : Watched). watched_count k ≤ count) lane kept all))
    (more_counted count (drop lane kept) (All-drop (λ (k : Watched). watched_count k ≤ count) lane kept all)))

pub to_long : (shape : ShapeValue) (row : RowValue) (lane : ℕ) (kept now : List Watched) → now ≡ kept_to shape row lane kept → length now ≡ length kept
to_long shape row lane kept now is =
    ap length is ∙ (length-append (keeps_from shape row 0 (take lane kept)) (drop lane kept)
    ∙ (ap (λ (n : ℕ). n + length (drop lane kept)) (length_keeps shape row 0 (take lane kept))
    ∙ (sym (length-append (take lane kept) (drop lane kept)) ∙ ap length (Rattle.std.proofs.lemmas.List.take-append-drop lane kept))))

-- a lane that failed to take it
pub set_counted : (count lane : ℕ) (shape : ShapeValue) (row : RowValue) (kept now : List Watched) (x d : Watched) → lane < length kept → now ≡ kept_to shape row lane kept
    → watched_count x ≤ watched_count (get_or now lane d) + 1 → AreCounted count kept → AreCounted (count + 1) (set now lane x)
set_counted count lane shape row kept now x d low is one all =
    let long : length now ≡ length kept = to_long shape row lane kept now is in
    let was : watched_count (get_or kept lane d) ≤ count = All-get_or (λ (k : Watched). watched_count k ≤ count) kept lane d low all in
    let same : watched_count (get_or now lane d) ≡ watched_count (get_or kept lane d) = ap watched_count (still shape row kept now lane d low is) in
    All-set (λ (k : Watched). watched_count k ≤ count + 1) now lane x (omega (arith, was, same, one)) (to_counted shape row lane count kept now is all)

-- What is told counts as many.
telling_counts : (trigger : Trigger) (place : ℕ) (kept : Watched) → watched_count (watched_telling trigger place kept) ≡ watched_count kept
telling_counts trigger place (Whole kept) = refl
telling_counts trigger place (Apart kept) = refl

pub crowds_count : (kept : Watched) → watched_count (watched_crowds_told kept) ≡ watched_count kept
crowds_count (Whole kept) = refl
crowds_count (Apart kept) = refl

pub crowds_counted : (kept : List Watched) (count : ℕ) → AreCounted count kept → AreCounted count (crowds_all kept)
crowds_counted kept count all =
    let P : Watched → Type 0 = λ k. watched_count k ≤ count in
    All-map P watched_crowds_told kept
    (All-weaker P (λ k. P (watched_crowds_told k)) (λ (k : Watched) (low : P k). let same = crowds_count k in omega (arith, same, low)) kept all)

-- the crowded buckets of so many lanes were told
abbrev pub crowds_to : ℕ → List Watched → List Watched
crowds_to lane kept = map watched_crowds_told (take lane kept) ++ drop lane kept

pub crowds_to_counted : (kept now : List Watched) (lane count : ℕ) → now ≡ crowds_to lane kept → AreCounted count kept → AreCounted count now
crowds_to_counted kept now lane count is all =
    let P : Watched → Type 0 = λ k. watched_count k ≤ count in
    subst (AreCounted count) (sym is)
    (All-append P (crowds_all (take lane kept)) (drop lane kept) (crowds_counted (take lane kept) count (All-take P lane kept all)) (All-drop P lane kept all))

-- a lane that counts as many as it did
pub set_as_many : (count lane : ℕ) (now : List Watched) (x d : Watched) → lane < length now → watched_count x ≤ watched_count (get_or now lane d) → AreCounted count now
    → AreCounted count (set now lane x)
set_as_many count lane now x d low same all =
    let P : Watched → Type 0 = λ k. watched_count k ≤ count in
    let was : watched_count (get_or now lane d) ≤ count = All-get_or P now lane d low all in
    All-set P now lane x (omega (arith, same, was)) all

-- The trigger at a place tells its marks.
pub told_counted : (triggers : List Trigger) (kept : List Watched) (place count : ℕ) → AreCounted count kept → AreCounted count (told_by triggers kept place)
told_counted triggers kept place count all =
    let trigger : Trigger = Rattle.cf_rounds.specs.Lanes.trigger_at triggers place in
    let P : Watched → Type 0 = λ k. watched_count k ≤ count in
    All-set P kept trigger.agg (watched_telling trigger place (kept_at kept trigger.agg))
    (let same = telling_counts trigger place (kept_at kept trigger.agg) in let low = counted_at kept trigger.agg count all in omega (arith, same, low)) all
  where
    counted_at : (kept : List Watched) (lane count : ℕ) → AreCounted count kept → watched_count (kept_at kept lane) ≤ count
    counted_at kept lane count all = elim (cases_lt lane (length kept)) [
      | inl low ↦ all lane (nothing_watched false) low
      | inr high ↦ (let none = get_or-eq_default kept (nothing_watched false) high in rw none (omega arith))
    ]

pub told_long : (triggers : List Trigger) (kept : List Watched) (place : ℕ) → length (told_by triggers kept place) ≡ length kept
told_long triggers kept place = length-set kept (Rattle.cf_rounds.specs.Lanes.trigger_at triggers place).agg _

told_more_from : (triggers : List Trigger) (kept : List Watched) (a n : ℕ)
    → fold (told_by triggers) kept (range_with_len a (n + 1)) ≡ told_by triggers (fold (told_by triggers) kept (range_with_len a n)) (a + n)
told_more_from triggers kept a zero = ap (told_by triggers kept) (sym (add-zero a))
told_more_from triggers kept a (suc n) =
    let e : suc n + 1 ≡ suc (n + 1) = omega arith in
    let same : a + suc n ≡ a + 1 + n = omega arith in
    rw (e, same) (told_more_from triggers (told_by triggers kept a) (a + 1) n)

-- one trigger more has told its marks
pub told_one : (triggers : List Trigger) (kept : List Watched) (n : ℕ) → told_first triggers kept (n + 1) ≡ told_by triggers (told_first triggers kept n) n
told_one triggers kept n = let same : 0 + n ≡ n = omega arith in rw same at (told_more_from triggers kept 0 n)

pub first_long : (triggers : List Trigger) (kept : List Watched) (n : ℕ) → length (told_first triggers kept n) ≡ length kept
first_long triggers kept zero = refl
first_long triggers kept (suc n) =
    let e : suc n ≡ n + 1 = omega arith in
    ap (λ (m : ℕ). length (told_first triggers kept m)) e ∙ (ap length (told_one triggers kept n)
    ∙ (told_long triggers (told_first triggers kept n) n ∙ first_long triggers kept n))

pub first_counted : (triggers : List Trigger) (kept : List Watched) (n count : ℕ) → AreCounted count kept → AreCounted count (told_first triggers kept n)
first_counted triggers kept zero count all = all
first_counted triggers kept (suc n) count all =
    let e : suc n ≡ n + 1 = omega arith in
    subst (λ (m : ℕ). AreCounted count (told_first triggers kept m)) (sym e)
    (subst (AreCounted count) (sym (told_one triggers kept n)) (told_counted triggers (told_first triggers kept n) n count (first_counted triggers kept n count all)))

-- what was read at a place is what is kept of that lane
pub lane_at_place : (kept : List Watched) (lane : ℕ) (k : Watched) → lane < length kept → k ≡ get_or kept lane k → k ≡ kept_at kept lane
lane_at_place kept lane k low is = is ∙ get_or_default kept lane k (nothing_watched false) low

-- what was read at a place of which no crowded buckets were told yet
pub crowds_still : (kept now : List Watched) (lane : ℕ) (k : Watched) → lane < length kept → now ≡ crowds_to lane kept → k ≡ get_or now lane k → k ≡ kept_at kept lane
crowds_still kept now lane k low is read =
    let front : length (map watched_crowds_told (take lane kept)) ≡ lane = length-map (take lane kept) watched_crowds_told ∙ length-take-le lane kept (omega (arith, low)) in
    read ∙ ap (λ (zs : List Watched). get_or zs lane k) (is ∙ ap (λ (zs : List Watched). map watched_crowds_told (take lane kept) ++ zs) (drop_more kept lane (nothing_watched false) low))
    ∙ get_or_at (map watched_crowds_told (take lane kept)) (kept_at kept lane) (drop (lane + 1) kept) k lane front

pub crowds_long : (kept now : List Watched) (lane : ℕ) → now ≡ crowds_to lane kept → length now ≡ length kept
crowds_long kept now lane is =
    ap length is ∙ length-append (map watched_crowds_told (take lane kept)) (drop lane kept)
    ∙ ap (λ (n : ℕ). n + length (drop lane kept)) (length-map (take lane kept) watched_crowds_told)
    ∙ sym (length-append (take lane kept) (drop lane kept)) ∙ ap length (Rattle.std.proofs.lemmas.List.take-append-drop lane kept)

-- Nothing is kept yet.
none_count : (is_apart : Bool) → watched_count (nothing_watched is_apart) ≡ 0
none_count true = refl
none_count false = refl

pub none_counted : (shape : ShapeValue) (count : ℕ) → AreCounted count (none_kept shape)
none_counted shape count =
    let P : Watched → Type 0 = λ k. watched_count k ≤ count in
    All-map P (λ (lane : Lane). nothing_watched (has_by lane.key)) shape.lanes (λ i d low. let none = none_count (has_by (get_or shape.lanes i d).key) in omega (arith, none))
