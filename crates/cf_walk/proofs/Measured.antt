-- What lanes measure of the entries that a walk finds.
use Rattle.std.proofs.Common.{◌≡◌, ◌∙◌, ℕ, zero, suc, ◌+◌, ◌-◌, ◌%◌, ◌^◌, ◌<◌, ◌≤◌, ◌==◌, min, inl, inr, List, [], ◌∷◌, ◌++◌, length, map, filter, take, fold, Bool, true, false, cond, Option, Some, None, slice_get, refl, sym, ap, ap₂, arith}
use Rattle.std.specs.List.{range_with_len, sum_by}
use Rattle.std.proofs.lemmas.List.{length-map, map-append, take_more, take_all}
use Rattle.std.proofs.lemmas.List.Sums.{sum_by-cons, length-filter, count_by-le-length}
use Rattle.std.proofs.lemmas.List.Elements.{filter-append}
use Rattle.std.proofs.lemmas.Bool.{cases_lt, lt-leb, le-leb}
use Rattle.cf_row.specs.Row.{RowValue}
use Rattle.cf_row.specs.declared.row.Entry.{Entry}
use Rattle.cf_fold.specs.Quads.{QuadValue, quad_of}
use Rattle.cf_fold.specs.Sort.{put_into, sort}
use Rattle.cf_fold.proofs.Sorted.{AsOften, count, sort_is_one, quad_is_one}
use Rattle.cf_shape.specs.Lanes.{ShapeValue, IsShape, measure_of}
use Rattle.cf_shape.specs.Nodes.{levels_of}
use Rattle.cf_law.specs.Words.{Spot, Layout}
use Rattle.cf_law.specs.Readers.{IsFit, pick_at, picks}
use Rattle.cf_law.specs.Shapes.{layout}
use Rattle.cf_plain.specs.Asks.{rows_in, row_at, no_row, places, is_keyed_between, total_over}
use Rattle.cf_plain.proofs.Scanned.{place_more}
use Rattle.cf_walk.specs.Walks.{IsGap, WentOver, leaf_of, leaf_amounts, chain_places, leaf_places, range_places}
use Rattle.cf_walk.specs.Measures.{amounts_at, HasMeasured}
use Rattle.cf_walk.proofs.Picked.{picks_next, picks_zero}
use Rattle.cf_walk.proofs.Ranges.{gap_over, leaf_over, over_then, range_zero}
use Rattle.cf_walk.proofs.Tallied.{Covers, as_often, row_is}

-- Sums over a list know how often each number stands there, and nothing of their order.
sum_put : (h : ℕ → ℕ) (x : ℕ) (xs : List ℕ) → sum_by h (put_into xs x) ≡ h x + sum_by h xs
sum_put h x [] = sum_by-cons h x []
sum_put h x (y ∷ ys) = elim (cases_lt y x) [
  | inl lt ↦ rw (lt-leb x y lt)
      (let a = sum_by-cons h y (put_into ys x) in let b = sum_by-cons h y ys in let rest = sum_put h x ys in omega (arith, a, b, rest))
  | inr le ↦ rw (le-leb x y le) (sum_by-cons h x (y ∷ ys))
]

sum_fold : (h : ℕ → ℕ) (ms xs : List ℕ) → sum_by h (fold put_into ms xs) ≡ sum_by h ms + sum_by h xs
sum_fold h ms [] = omega arith
sum_fold h ms (x ∷ xs) = (let a = sum_fold h (put_into ms x) xs in let b = sum_put h x ms in let c = sum_by-cons h x xs in omega (arith, a, b, c))

sum_sort : (h : ℕ → ℕ) (xs : List ℕ) → sum_by h (sort xs) ≡ sum_by h xs
sum_sort h xs = (let a = sum_fold h [] xs in omega (arith, a))

sum_is_one : (h : ℕ → ℕ) (xs ys : List ℕ) → AsOften xs ys → sum_by h xs ≡ sum_by h ys
sum_is_one h xs ys same = sym (sum_sort h xs) ∙ (ap (sum_by h) (sort_is_one xs ys same) ∙ sum_sort h ys)

count_of : (g : ℕ → ℕ) (n : ℕ) (xs : List ℕ) → count n (map g xs) ≡ sum_by (λ x. cond (g x == n) 1 0) xs
count_of g n [] = refl
count_of g n (x ∷ xs) =
    (let a = sum_by-cons (λ y. cond (y == n) 1 0) (g x) (map g xs) in let b = sum_by-cons (λ x. cond (g x == n) 1 0) x xs in let rest = count_of g n xs in
    omega (arith, a, b, rest))

often_of : (g : ℕ → ℕ) (xs ys : List ℕ) → AsOften xs ys → AsOften (map g xs) (map g ys)
often_of g xs ys same n = count_of g n xs ∙ (sum_is_one (λ x. cond (g x == n) 1 0) xs ys same ∙ sym (count_of g n ys))

-- The values of the rows that pass are those at their places.
one_value : (f : RowValue → ℕ) (g : ℕ → ℕ) (r : RowValue) (n : ℕ) (b : Bool) → f r ≡ g n → map f (cond b (r ∷ []) []) ≡ map g (cond b (n ∷ []) [])
one_value f g r n true e = ap (λ (v : ℕ). v ∷ []) e
one_value f g r n false e = refl

values_upto : (f : RowValue → ℕ) (p : RowValue → Bool) (rows : List RowValue) (n : ℕ) → n ≤ length rows
    → map f (filter p (take n rows)) ≡ map (λ o. f (row_at rows o)) (filter (λ o. p (row_at rows o)) (range_with_len 0 n))
values_upto f p rows zero le = refl
values_upto f p rows (suc n) le =
    let e : suc n ≡ n + 1 = omega arith in
    let r = row_at rows n in
    let g = λ (o : ℕ). f (row_at rows o) in
    let q = λ (o : ℕ). p (row_at rows o) in
    ap (λ (k : ℕ). map f (filter p (take k rows))) e
    ∙ (ap (λ (rs : List RowValue). map f (filter p rs)) (take_more rows n no_row (omega (arith, le)))
    ∙ (ap (map f) (filter-append p (take n rows) (r ∷ []))
    ∙ (map-append f (filter p (take n rows)) (filter p (r ∷ []))
    ∙ (ap₂ (λ (xs ys : List ℕ). xs ++ ys) (values_upto f p rows n (omega (arith, le))) (one_value f g r n (p r) refl)
    ∙ (sym (map-append g (filter q (range_with_len 0 n)) (cond (q n) (n ∷ []) []))
    ∙ (ap (map g) (sym (place_more q n)) ∙ ap (λ (k : ℕ). map g (filter q (range_with_len 0 k))) (sym e)))))))

values_at : (f : RowValue → ℕ) (p : RowValue → Bool) (rows : List RowValue) → map f (filter p rows) ≡ map (λ o. f (row_at rows o)) (places p rows)
values_at f p rows = ap (λ (rs : List RowValue). map f (filter p rs)) (sym (take_all (length rows) rows (omega arith)))
    ∙ values_upto f p rows (length rows) (omega arith)

-- What a chain's entries measure stands at their places.
picked_value : (f : RowValue → ℕ) (g : ℕ → ℕ) (a b : Bool) (o : ℕ) (r : RowValue) (xs : List (ℕ × RowValue)) → f r ≡ g o
    → map f (map (λ (y : ℕ × RowValue). y.1) xs) ≡ map g (map (λ (y : ℕ × RowValue). y.0) xs)
    → map f (map (λ (y : ℕ × RowValue). y.1) (cond a (cond b ((o, r) ∷ []) []) [] ++ xs)) ≡ map g
    (map (λ (y : ℕ × RowValue). y.0) (cond a (cond b ((o, r) ∷ []) []) [] ++ xs))
picked_value f g true true o r xs e rest = ap₂ (λ (v : ℕ) (vs : List ℕ). v ∷ vs) e rest
picked_value f g true false o r xs e rest = rest
picked_value f g false b o r xs e rest = rest

picked_values : (f : RowValue → ℕ) (g : ℕ → ℕ) (sh : Layout) (w : ℕ) (s : Spot) (o : ℕ) (x : Option Entry) (xs : List (ℕ × RowValue))
    → ((e : Entry) → x ≡ Some e → f e.row ≡ g o) → map f (map (λ (y : ℕ × RowValue). y.1) xs) ≡ map g (map (λ (y : ℕ × RowValue). y.0) xs)
    → map f (map (λ (y : ℕ × RowValue). y.1) (pick_at sh w s o x ++ xs)) ≡ map g (map (λ (y : ℕ × RowValue). y.0) (pick_at sh w s o x ++ xs))
picked_values f g sh w s o None xs is rest = rest
picked_values f g sh w s o (Some e) xs is rest = picked_value f g _ _ o e.row xs (is e refl) rest

chain_values : (f : RowValue → ℕ) (sh : Layout) (w : ℕ) (s : Spot) (seen : List Entry) (n : ℕ)
    → map f (map (λ (y : ℕ × RowValue). y.1) (picks sh w s seen n)) ≡ map (λ o. f (row_at (rows_in seen) o))
    (map (λ (y : ℕ × RowValue). y.0) (picks sh w s seen n))
chain_values f sh w s seen zero = (let e = picks_zero sh w s seen in rw e refl)
chain_values f sh w s seen (suc o) =
    let e = picks_next sh w s seen o in
    let g = λ (o : ℕ). f (row_at (rows_in seen) o) in
    ap (λ (xs : List (ℕ × RowValue)). map f (map (λ (y : ℕ × RowValue). y.1) xs)) e
    ∙ (picked_values f g sh w s o (slice_get seen o) (picks sh w s seen o) (λ x at. ap f (row_is seen o x at)) (chain_values f sh w s seen o)
    ∙ ap (λ (xs : List (ℕ × RowValue)). map g (map (λ (y : ℕ × RowValue). y.0) xs)) (sym e))

-- and so does a leaf's
leaf_values : (shape : ShapeValue) (lane key : ℕ) (seen : List Entry) (n : ℕ)
    → leaf_amounts shape lane key seen n ≡ amounts_at shape lane seen (leaf_places shape lane key seen n)
unfolding leaf_amounts leaf_places
leaf_values shape lane key seen zero = refl
leaf_values shape lane key seen (suc w) =
    let g = λ (o : ℕ). measure_of shape lane (row_at (rows_in seen) o) in
    ap₂ (λ (xs ys : List ℕ). xs ++ ys) (leaf_values shape lane key seen w)
    (chain_values (measure_of shape lane) (layout shape) w (leaf_of shape lane key) seen (length seen))
    ∙ sym (map-append g (leaf_places shape lane key seen w) (chain_places shape lane key seen w))

-- Ranges of keys, one after the other.
measured_by : (shape : ShapeValue) (lane first high : ℕ) (seen : List Entry) (places : List ℕ) (found : QuadValue) (last : ℕ)
    → WentOver shape lane first high seen [] places last → found ≡ quad_of (amounts_at shape lane seen places)
    → HasMeasured shape lane first high seen found last
measured_by shape lane first high seen places found last over is =
    record { from = over.from; upto = over.upto; quad = is ∙ ap (λ (xs : List ℕ). quad_of (amounts_at shape lane seen xs)) over.found }

pub leaf_measured : (shape : ShapeValue) (lane key high : ℕ) (seen : List Entry) (found : QuadValue) → key ≤ high
    → found ≡ quad_of (leaf_amounts shape lane key seen shape.writers) → HasMeasured shape lane key high seen found key
leaf_measured shape lane key high seen found le is =
    let ps = leaf_places shape lane key seen shape.writers in
    measured_by shape lane key high seen ps found key (leaf_over shape lane key high seen [] ps le refl)
    (is ∙ ap quad_of (leaf_values shape lane key seen shape.writers))

pub gap_measured : (shape : ShapeValue) (lane key high span : ℕ) (seen : List Entry) → key ≤ high → 0 < span → IsGap shape lane key span seen
    → HasMeasured shape lane key high seen (record { count = 0; sum = 0; least = 0; greatest = 0 }) (key + min (span - 1 - key % span) (high - key))
gap_measured shape lane key high span seen le some gap =
    measured_by shape lane key high seen [] _ _ (gap_over shape lane key high span seen [] le some gap) refl

pub measured_then : (shape : ShapeValue) (lane low high first last : ℕ) (seen old : List Entry) (total quad merged : QuadValue) → old ≡ seen
    → HasMeasured shape lane low high seen total first → HasMeasured shape lane (first + 1) high old quad last
    → ((xs ys : List ℕ) → total ≡ quad_of xs → quad ≡ quad_of ys → merged ≡ quad_of (xs ++ ys)) → HasMeasured shape lane low high seen merged last
measured_then shape lane low high first last seen old total quad merged same a b both =
    let g = λ (o : ℕ). measure_of shape lane (row_at (rows_in seen) o) in
    let xs = range_places shape lane low seen (first - low + 1) in
    let ys = range_places shape lane (first + 1) seen (last - (first + 1) + 1) in
    let x : WentOver shape lane low high seen [] xs first = record { from = a.from; upto = a.upto; found = refl } in
    let y : WentOver shape lane (first + 1) high seen xs (xs ++ ys) last = record { from = b.from; upto = b.upto; found = refl } in
    measured_by shape lane low high seen (xs ++ ys) merged last (over_then shape lane low high first last seen seen [] xs (xs ++ ys) refl x y)
    (both (map g xs) (map g ys) a.quad
    (b.quad ∙ ap (λ (es : List Entry). quad_of (amounts_at shape lane es (range_places shape lane (first + 1) es (last - (first + 1) + 1)))) same)
    ∙ ap quad_of (sym (map-append g xs ys)))

-- The places found are those of rows that were seen, each once.
range_covers : (shape : ShapeValue) (lane low last : ℕ) → low ≤ last → last < 16 ^ levels_of shape lane → Covers shape lane low last (last - low + 1)
range_covers shape lane low last le top = record {
  inside = λ k small from le'. omega (arith, le, from, le');
  outside = λ k from lt. omega (arith, le, from, lt);
  bound = λ i lt. omega (arith, le, lt, top);
}

pub total_is : (shape : ShapeValue) (lane low high n : ℕ) (seen : List Entry) → IsShape shape → lane < length shape.lanes
    → ((o : ℕ) (e : Entry) → slice_get seen o ≡ Some e → IsFit (layout shape) e) → Covers shape lane low high n
    → quad_of (amounts_at shape lane seen (range_places shape lane low seen n)) ≡ total_over shape lane (is_keyed_between shape lane low high) (rows_in seen)
total_is shape lane low high n seen is there fit covers =
    let p = is_keyed_between shape lane low high in
    let g = λ (o : ℕ). measure_of shape lane (row_at (rows_in seen) o) in
    let ps = range_places shape lane low seen n in
    let qs = places p (rows_in seen) in
    quad_is_one (map g ps) (map g qs) (often_of g ps qs (as_often shape lane low high n seen is there fit covers))
    ∙ ap quad_of (sym (values_at (measure_of shape lane) p (rows_in seen)))

few_passing : (p : RowValue → Bool) (rows : List RowValue) → length (filter p rows) ≤ length rows
few_passing p rows = (let a = length-filter p rows in let b = count_by-le-length p rows in omega (arith, a, b))

-- the quad of what was gone over is its total
pub total_of : (shape : ShapeValue) (lane low high last : ℕ) (seen : List Entry) (found : QuadValue) → IsShape shape → lane < length shape.lanes
    → ((o : ℕ) (e : Entry) → slice_get seen o ≡ Some e → IsFit (layout shape) e) → high < 16 ^ levels_of shape lane
    → HasMeasured shape lane low high seen found last → found ≡ total_over shape lane (is_keyed_between shape lane low last) (rows_in seen)
total_of shape lane low high last seen found is there fit top m =
    (let upto = m.upto in m.quad
    ∙ total_is shape lane low last (last - low + 1) seen is there fit (range_covers shape lane low last m.from (omega (arith, upto, top))))

-- no more than were seen
pub measured_few : (shape : ShapeValue) (lane low high last : ℕ) (seen : List Entry) (found : QuadValue) → IsShape shape → lane < length shape.lanes
    → ((o : ℕ) (e : Entry) → slice_get seen o ≡ Some e → IsFit (layout shape) e) → high < 16 ^ levels_of shape lane
    → HasMeasured shape lane low high seen found last → found.count ≤ length seen
measured_few shape lane low high last seen found is there fit top m =
    let p = is_keyed_between shape lane low last in
    let e : found ≡ total_over shape lane p (rows_in seen) = total_of shape lane low high last seen found is there fit top m in
    let c : found.count ≡ length (map (measure_of shape lane) (filter p (rows_in seen))) = ap (λ (q : QuadValue). q.count) e in
    let long = length-map (filter p (rows_in seen)) (measure_of shape lane) in
    let few = few_passing p (rows_in seen) in
    let rows = length-map seen (λ (e : Entry). e.row) in
    omega (arith, c, long, few, rows)

-- where the lane has no key of the range
pub total_none : (shape : ShapeValue) (lane low high : ℕ) (seen : List Entry) → IsShape shape → lane < length shape.lanes
    → ((o : ℕ) (e : Entry) → slice_get seen o ≡ Some e → IsFit (layout shape) e) → Covers shape lane low high 0
    → ◌≡◌ {A = QuadValue} (record { count = 0; sum = 0; least = 0; greatest = 0 }) (total_over shape lane (is_keyed_between shape lane low high) (rows_in seen))
total_none shape lane low high seen is there fit covers = sym (ap (λ (xs : List ℕ). quad_of (amounts_at shape lane seen xs)) (range_zero shape lane low seen))
    ∙ total_is shape lane low high 0 seen is there fit covers
