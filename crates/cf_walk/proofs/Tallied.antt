-- How often a place stands among those that were found.
use Rattle.std.proofs.Common.{◌≡◌, ◌∙◌, ℕ, zero, suc, min, ◌+◌, ◌-◌, ◌^◌, ◌<◌, ◌≤◌, ◌==◌, inl, inr, List, [], ◌∷◌, ◌++◌, length, map, filter, Bool, true, false, cond, ◌&&◌, Option, Some, None, slice_get, get_or, refl, sym, ap, subst, arith}
use Rattle.std.specs.List.{range_with_len, AllByRecursion}
use Rattle.std.specs.List.Sorted.{IsPermutation, IsSorted}
use Rattle.std.specs.Bool.{nat_lt, nat_le}
use Rattle.std.specs.Ordering.{nat_cmp}
use Rattle.std.proofs.lemmas.Bool.{cases_Bool, cases_lt, cases_eq, leb-true, le-leb}
use Rattle.std.proofs.lemmas.List.{length-map}
use Rattle.std.proofs.lemmas.List.Sums.{sum_by-append}
use Rattle.std.proofs.lemmas.Option.{slice_get-get_or, slice_get_within}
use Rattle.cf_row.specs.Row.{RowValue, Fits, values_fit}
use Rattle.cf_row.specs.declared.row.Entry.{Entry}
use Rattle.cf_row.proofs.Bytes.{both}
use Rattle.cf_fold.specs.Sort.{sort}
use Rattle.cf_fold.proofs.Sorted.{AsOften, Climbs, count, count_same, count_other, climbs_sort, count_sort, climbing_is_one, sort_is_one, sort_leaves}
use Rattle.cf_shape.specs.Lanes.{ShapeValue, IsShape, selected_by, key_of}
use Rattle.cf_shape.specs.Nodes.{levels_of}
use Rattle.cf_law.specs.Words.{Spot, Layout}
use Rattle.cf_law.specs.Nibbles.{nibbles}
use Rattle.cf_law.proofs.Nibbles.{same_from_nibbles}
use Rattle.cf_law.specs.Readers.{IsIn, IsFit, pick_at, picks}
use Rattle.cf_law.specs.Shapes.{layout, path_in}
use Rattle.cf_plain.specs.Asks.{rows_in, row_at, places, is_between, is_keyed_between}
use Rattle.cf_plain.proofs.Grouped.{Rise}
use Rattle.cf_plain.proofs.Found.{places_rise}
use Rattle.cf_plain.proofs.Scanned.{place_more}
use Rattle.cf_walk.specs.Walks.{leaf_of, chain_places, leaf_places, range_places}
use Rattle.cf_walk.proofs.Keys.{key_small}
use Rattle.cf_walk.proofs.Picked.{picks_next, picks_zero, pick_none, pick_some}

-- Sums in which one number at most is not 0.
sum_none : (h c : ℕ → ℕ) → h 0 ≡ 0 → ((n : ℕ) → h (suc n) ≡ h n + c n) → (n : ℕ) → ((i : ℕ) → i < n → c i ≡ 0) → h n ≡ 0
sum_none h c none more zero out = none
sum_none h c none more (suc n) out =
    (let a = more n in let b = sum_none h c none more n (λ i lt. out i (omega (arith, lt))) in let d = out n (omega arith) in omega (arith, a, b, d))

sum_one : (h c : ℕ → ℕ) → h 0 ≡ 0 → ((n : ℕ) → h (suc n) ≡ h n + c n) → (n k : ℕ) → k < n → c k ≡ 1 → ((i : ℕ) → i < n → (i ≡ k → ⊥) → c i ≡ 0) → h n ≡ 1
sum_one h c none more zero k lt one out = absurd (omega (arith, lt))
sum_one h c none more (suc n) k lt one out = elim (cases_eq n k) [
  | inl e ↦
      let a = more n in
      let b : c n ≡ 1 = ap c e ∙ one in
      let d = sum_none h c none more n (λ i low. out i (omega (arith, low)) (λ f. absurd (omega (arith, low, e, f)))) in
      omega (arith, a, b, d)
  | inr ne ↦
      let a = more n in
      let b = sum_one h c none more n k (omega (arith, lt, ne)) one (λ i low. out i (omega (arith, low))) in
      let d = out n (omega arith) ne in
      omega (arith, a, b, d)
]

count_both : (j : ℕ) (xs ys : List ℕ) → count j (xs ++ ys) ≡ count j xs + count j ys
count_both j xs ys = sum_by-append (λ x. cond (x == j) 1 0) xs ys

count_it : (j x : ℕ) → x ≡ j → count j (x ∷ []) ≡ 1
count_it j x e = count_same j x [] e

count_else : (j x : ℕ) → (x ≡ j → ⊥) → count j (x ∷ []) ≡ 0
count_else j x ne = count_other j x [] ne

-- In a chain.
abbrev picked : Layout → ℕ → Spot → List Entry → ℕ → List ℕ
picked sh w s seen i = map (λ x. x.0) (pick_at sh w s i (slice_get seen i))

abbrev chained : Layout → ℕ → Spot → List Entry → ℕ → List ℕ
chained sh w s seen n = map (λ x. x.0) (picks sh w s seen n)

picked_in : (sh : Layout) (w : ℕ) (s : Spot) (seen : List Entry) (j : ℕ) (e : Entry) → slice_get seen j ≡ Some e → IsIn sh w s e
    → count j (picked sh w s seen j) ≡ 1
picked_in sh w s seen j e at is =
    ap (λ (x : Option Entry). count j (map (λ x. x.0) (pick_at sh w s j x))) at
    ∙ (ap (λ (xs : List (ℕ × RowValue)). count j (map (λ x. x.0) xs)) (pick_some sh w s j e is) ∙ count_it j j refl)

picked_out : (sh : Layout) (w : ℕ) (s : Spot) (seen : List Entry) (j : ℕ) (x : Option Entry) → slice_get seen j ≡ x
    → ((e : Entry) → slice_get seen j ≡ Some e → IsIn sh w s e → ⊥) → count j (picked sh w s seen j) ≡ 0
picked_out sh w s seen j None at out = ap (λ (x : Option Entry). count j (map (λ x. x.0) (pick_at sh w s j x))) at
picked_out sh w s seen j (Some e) at out =
    ap (λ (x : Option Entry). count j (map (λ x. x.0) (pick_at sh w s j x))) at
    ∙ ap (λ (xs : List (ℕ × RowValue)). count j (map (λ x. x.0) xs)) (pick_none sh w s j e (out e at))

flat_else : (j i : ℕ) (a b : Bool) (r : RowValue) → (i ≡ j → ⊥) → count j (map (λ (x : ℕ × RowValue). x.0) (cond a (cond b ((i, r) ∷ []) []) [])) ≡ 0
flat_else j i false b r ne = refl
flat_else j i true false r ne = refl
flat_else j i true true r ne = count_else j i ne

picked_else : (sh : Layout) (w : ℕ) (s : Spot) (j i : ℕ) (x : Option Entry) → (i ≡ j → ⊥) → count j (map (λ x. x.0) (pick_at sh w s i x)) ≡ 0
picked_else sh w s j i None ne = refl
picked_else sh w s j i (Some e) ne = flat_else j i _ _ e.row ne

chain_start : (sh : Layout) (w : ℕ) (s : Spot) (seen : List Entry) (j : ℕ) → count j (chained sh w s seen 0) ≡ 0
chain_start sh w s seen j = ap (λ (xs : List (ℕ × RowValue)). count j (map (λ x. x.0) xs)) (picks_zero sh w s seen)

map_both : (xs ys : List (ℕ × RowValue)) → map (λ (x : ℕ × RowValue). x.0) (xs ++ ys) ≡ map (λ x. x.0) xs ++ map (λ x. x.0) ys
map_both [] ys = refl
map_both (x ∷ xs) ys = ap (λ (zs : List ℕ). x.0 ∷ zs) (map_both xs ys)

chain_more : (sh : Layout) (w : ℕ) (s : Spot) (seen : List Entry) (j n : ℕ)
    → count j (chained sh w s seen (suc n)) ≡ count j (chained sh w s seen n) + count j (picked sh w s seen n)
chain_more sh w s seen j n =
    ap (λ (xs : List (ℕ × RowValue)). count j (map (λ x. x.0) xs)) (picks_next sh w s seen n)
    ∙ (ap (count j) (map_both (pick_at sh w s n (slice_get seen n)) (picks sh w s seen n))
    ∙ (count_both j (picked sh w s seen n) (chained sh w s seen n) ∙ omega arith))

pub chain_has : (sh : Layout) (w : ℕ) (s : Spot) (seen : List Entry) (j : ℕ) (e : Entry) → slice_get seen j ≡ Some e → IsIn sh w s e
    → count j (chained sh w s seen (length seen)) ≡ 1
chain_has sh w s seen j e at is =
    sum_one (λ n. count j (chained sh w s seen n)) (λ i. count j (picked sh w s seen i)) (chain_start sh w s seen j) (chain_more sh w s seen j) (length seen) j
    (slice_get_within seen j e at) (picked_in sh w s seen j e at is)
    (λ i lt ne. picked_else sh w s j i (slice_get seen i) ne)

pub chain_lacks : (sh : Layout) (w : ℕ) (s : Spot) (seen : List Entry) (j : ℕ) → ((e : Entry) → slice_get seen j ≡ Some e → IsIn sh w s e → ⊥)
    → count j (chained sh w s seen (length seen)) ≡ 0
chain_lacks sh w s seen j out =
    sum_none (λ n. count j (chained sh w s seen n)) (λ i. count j (picked sh w s seen i)) (chain_start sh w s seen j) (chain_more sh w s seen j) (length seen)
    (λ i lt. elim (cases_eq i j) [
      | inl e ↦ ap (λ (k : ℕ). count j (picked sh w s seen k)) e ∙ picked_out sh w s seen j (slice_get seen j) refl out
      | inr ne ↦ picked_else sh w s j i (slice_get seen i) ne
    ])

-- In a leaf.
leaf_start : (shape : ShapeValue) (lane key : ℕ) (seen : List Entry) (j : ℕ) → count j (leaf_places shape lane key seen 0) ≡ 0
unfolding leaf_places
leaf_start shape lane key seen j = refl

leaf_one : (shape : ShapeValue) (lane key : ℕ) (seen : List Entry) (j n : ℕ)
    → count j (leaf_places shape lane key seen (suc n)) ≡ count j (leaf_places shape lane key seen n) + count j (chain_places shape lane key seen n)
unfolding leaf_places
leaf_one shape lane key seen j n = count_both j (leaf_places shape lane key seen n) (chain_places shape lane key seen n)

abbrev InLeaf : ShapeValue → ℕ → ℕ → Entry → Type 0
InLeaf shape lane key e = path_in shape e.row lane ≡ Some (nibbles (levels_of shape lane) key)

leaf_has : (shape : ShapeValue) (lane key n : ℕ) (seen : List Entry) (j : ℕ) (e : Entry) → slice_get seen j ≡ Some e → e.writer < n → InLeaf shape lane key e
    → count j (leaf_places shape lane key seen n) ≡ 1
leaf_has shape lane key n seen j e at lt leaf =
    sum_one (λ k. count j (leaf_places shape lane key seen k)) (λ w. count j (chain_places shape lane key seen w)) (leaf_start shape lane key seen j)
    (leaf_one shape lane key seen j) n e.writer lt
    (chain_has (layout shape) e.writer (leaf_of shape lane key) seen j e at (refl, leaf))
    (λ w lt ne. chain_lacks (layout shape) w (leaf_of shape lane key) seen j
    (λ x there is. let same : x ≡ e = (let f : Some x ≡ Some e = sym there ∙ at in cc f) in ne (sym (ap (λ (y : Entry). y.writer) (sym same) ∙ is.0))))

leaf_lacks : (shape : ShapeValue) (lane key n : ℕ) (seen : List Entry) (j : ℕ) → ((e : Entry) → slice_get seen j ≡ Some e → InLeaf shape lane key e → ⊥)
    → count j (leaf_places shape lane key seen n) ≡ 0
leaf_lacks shape lane key n seen j out =
    sum_none (λ k. count j (leaf_places shape lane key seen k)) (λ w. count j (chain_places shape lane key seen w)) (leaf_start shape lane key seen j)
    (leaf_one shape lane key seen j) n
    (λ w lt. chain_lacks (layout shape) w (leaf_of shape lane key) seen j (λ e at is. out e at is.1))

-- In a range.
range_start : (shape : ShapeValue) (lane low : ℕ) (seen : List Entry) (j : ℕ) → count j (range_places shape lane low seen 0) ≡ 0
unfolding range_places
range_start shape lane low seen j = refl

range_one : (shape : ShapeValue) (lane low : ℕ) (seen : List Entry) (j n : ℕ)
    → count j (range_places shape lane low seen (suc n)) ≡ count j (range_places shape lane low seen n) + count j
    (leaf_places shape lane (low + n) seen shape.writers)
unfolding range_places
range_one shape lane low seen j n = count_both j (range_places shape lane low seen n) (leaf_places shape lane (low + n) seen shape.writers)

leads : (shape : ShapeValue) (lane : ℕ) (e : Entry) → selected_by shape lane e.row ≡ true → InLeaf shape lane (key_of shape lane e.row) e
leads shape lane e sel = ap (λ (b : Bool). cond {A = Option (List ℕ)} b (Some (nibbles (levels_of shape lane) (key_of shape lane e.row))) None) sel

-- the leaf of an entry is that of its key alone
leaf_key : (shape : ShapeValue) (lane k : ℕ) (e : Entry) → key_of shape lane e.row < 16 ^ levels_of shape lane → k < 16 ^ levels_of shape lane
    → InLeaf shape lane k e → (selected_by shape lane e.row ≡ true) × (key_of shape lane e.row ≡ k)
leaf_key shape lane k e small low is = elim (cases_Bool (selected_by shape lane e.row)) [
  | inl sel ↦ (
    sel,
    let f : ◌≡◌ {A = Option (List ℕ)} (Some (nibbles (levels_of shape lane) (key_of shape lane e.row))) (Some (nibbles (levels_of shape lane) k)) =
        sym (leads shape lane e sel) ∙ is in
        let g : nibbles (levels_of shape lane) (key_of shape lane e.row) ≡ nibbles (levels_of shape lane) k = cc f in
        same_from_nibbles (levels_of shape lane) (key_of shape lane e.row) k small low g,
  )
  | inr no' ↦ absurd
      (let f : ◌≡◌ {A = Option (List ℕ)} None (Some (nibbles (levels_of shape lane) k)) = sym
      (ap (λ (b : Bool). cond {A = Option (List ℕ)} b (Some (nibbles (levels_of shape lane) (key_of shape lane e.row))) None) no') ∙ is in cc f)
]

same_entry : (seen : List Entry) (j : ℕ) (x e : Entry) → slice_get seen j ≡ Some x → slice_get seen j ≡ Some e → x ≡ e
same_entry seen j x e a b = (let f : Some x ≡ Some e = sym a ∙ b in cc f)

range_has : (shape : ShapeValue) (lane low n : ℕ) (seen : List Entry) (j : ℕ) (e : Entry) → slice_get seen j ≡ Some e → e.writer < shape.writers
    → selected_by shape lane e.row ≡ true → key_of shape lane e.row < 16 ^ levels_of shape lane
    → low ≤ key_of shape lane e.row → key_of shape lane e.row < low + n → ((i : ℕ) → i < n → low + i < 16 ^ levels_of shape lane)
    → count j (range_places shape lane low seen n) ≡ 1
range_has shape lane low n seen j e at writer sel small from upto bound =
    let key = key_of shape lane e.row in
    let here : low + (key - low) ≡ key = omega (arith, from) in
    sum_one (λ m. count j (range_places shape lane low seen m)) (λ i. count j (leaf_places shape lane (low + i) seen shape.writers))
    (range_start shape lane low seen j) (range_one shape lane low seen j) n (key - low) (omega (arith, from, upto))
    (ap (λ (k : ℕ). count j (leaf_places shape lane k seen shape.writers)) here
    ∙ leaf_has shape lane key shape.writers seen j e at writer (leads shape lane e sel))
    (λ i lt ne. leaf_lacks shape lane (low + i) shape.writers seen j (λ x there is.
    let same : x ≡ e = same_entry seen j x e there at in
    let k = leaf_key shape lane (low + i) e small (bound i lt) (subst (InLeaf shape lane (low + i)) same is) in
    let eq = k.1 in
    ne (omega (arith, eq, from))))

range_lacks : (shape : ShapeValue) (lane low n : ℕ) (seen : List Entry) (j : ℕ)
    → ((e : Entry) → slice_get seen j ≡ Some e → key_of shape lane e.row < 16 ^ levels_of shape lane) → ((i : ℕ) → i < n → low + i < 16 ^ levels_of shape lane)
    → ((e : Entry) → slice_get seen j ≡ Some e → selected_by shape lane e.row ≡ true → low ≤ key_of shape lane e.row → key_of shape lane e.row < low + n → ⊥)
    → count j (range_places shape lane low seen n) ≡ 0
range_lacks shape lane low n seen j small bound out =
    sum_none (λ m. count j (range_places shape lane low seen m)) (λ i. count j (leaf_places shape lane (low + i) seen shape.writers))
    (range_start shape lane low seen j) (range_one shape lane low seen j) n
    (λ i lt. leaf_lacks shape lane (low + i) shape.writers seen j (λ e at is.
    let k = leaf_key shape lane (low + i) e (small e at) (bound i lt) is in
    let eq = k.1 in
    out e at k.0 (omega (arith, eq)) (omega (arith, eq, lt))))

-- Among the places of the rows that pass.
kept_start : (p : ℕ → Bool) (j : ℕ) → count j (filter p (range_with_len 0 0)) ≡ 0
kept_start p j = refl

kept_more : (p : ℕ → Bool) (j n : ℕ)
    → count j (filter p (range_with_len 0 (suc n))) ≡ count j (filter p (range_with_len 0 n)) + count j (cond (p n) (n ∷ []) [])
kept_more p j n =
    let e : suc n ≡ n + 1 = omega arith in
    ap (λ (k : ℕ). count j (filter p (range_with_len 0 k))) e
    ∙ (ap (count j) (place_more p n) ∙ count_both j (filter p (range_with_len 0 n)) (cond (p n) (n ∷ []) []))

place_else : (j i : ℕ) (b : Bool) → (i ≡ j → ⊥) → count j (cond b (i ∷ []) []) ≡ 0
place_else j i true ne = count_else j i ne
place_else j i false ne = refl

place_has : (p : ℕ → Bool) (j n : ℕ) → j < n → p j ≡ true → count j (filter p (range_with_len 0 n)) ≡ 1
place_has p j n lt yes' =
    sum_one (λ k. count j (filter p (range_with_len 0 k))) (λ i. count j (cond (p i) (i ∷ []) [])) (kept_start p j) (kept_more p j) n j lt
    (ap (λ (b : Bool). count j (cond b (j ∷ []) [])) yes' ∙ count_it j j refl) (λ i low ne. place_else j i (p i) ne)

place_lacks : (p : ℕ → Bool) (j n : ℕ) → (j < n → p j ≡ false) → count j (filter p (range_with_len 0 n)) ≡ 0
place_lacks p j n out =
    sum_none (λ k. count j (filter p (range_with_len 0 k))) (λ i. count j (cond (p i) (i ∷ []) [])) (kept_start p j) (kept_more p j) n
    (λ i low. elim (cases_eq i j) [
      | inl e ↦ ap (λ (k : ℕ). count j (cond (p k) (k ∷ []) [])) e ∙ ap (λ (b : Bool). count j (cond b (j ∷ []) [])) (out (omega (arith, e, low)))
      | inr ne ↦ place_else j i (p i) ne
    ])

-- What was found are the places of the rows whose key is in the range.
abbrev no_entry : Entry
no_entry = record { writer = 0; row = record { num = 0; values = [] } }

pub row_is : (seen : List Entry) (o : ℕ) (e : Entry) → slice_get seen o ≡ Some e → e.row ≡ row_at (rows_in seen) o
row_is [] zero e at = absurd (cc at)
row_is [] (suc o) e at = absurd (cc at)
row_is (x ∷ xs) zero e at = (let same : x ≡ e = cc at in ap (λ (y : Entry). y.row) (sym same))
row_is (x ∷ xs) (suc o) e at = row_is xs o e at

both_true : (a b : Bool) → a ≡ true → b ≡ true → a && b ≡ true
both_true a b e f = rw (e, f) refl

-- n keys from the lowest on are those of the range, as far as the lane has them
pub record Covers (shape : ShapeValue) (lane low high n : ℕ) : Type 0 where
  pub inside : (k : ℕ) → k < 16 ^ levels_of shape lane → low ≤ k → k ≤ high → k < low + n
  pub outside : (k : ℕ) → low ≤ k → k < low + n → k ≤ high
  pub bound : (i : ℕ) → i < n → low + i < 16 ^ levels_of shape lane

pub fits_of : (shape : ShapeValue) (e : Entry) → IsFit (layout shape) e → Fits shape.schema e.row
fits_of shape e fit = (both (values_fit shape.schema (e.row).values) (nat_lt (e.row).num (2 ^ 32)) fit.0).0

pub as_often : (shape : ShapeValue) (lane low high n : ℕ) (seen : List Entry) → IsShape shape → lane < length shape.lanes
    → ((o : ℕ) (e : Entry) → slice_get seen o ≡ Some e → IsFit (layout shape) e) → Covers shape lane low high n
    → AsOften (range_places shape lane low seen n) (places (is_keyed_between shape lane low high) (rows_in seen))
as_often shape lane low high n seen is there fit covers j =
    let passes = is_keyed_between shape lane low high in
    let p = λ (place : ℕ). is_keyed_between shape lane low high (row_at (rows_in seen) place) in
    let long : length (rows_in seen) ≡ length seen = length-map seen (λ entry. entry.row) in
    elim (cases_lt j (length seen)) [
      | inl lt ↦
          let e = get_or seen j no_entry in
          let at : slice_get seen j ≡ Some e = slice_get-get_or seen j no_entry lt in
          let f = fit j e at in
          let small = key_small shape lane e.row is there (fits_of shape e f) in
          let row : e.row ≡ row_at (rows_in seen) j = row_is seen j e at in
          let sel = selected_by shape lane e.row in
          let key = key_of shape lane e.row in
          elim (cases_Bool (is_keyed_between shape lane low high e.row)) [
            | inl t ↦
                let b = both sel (is_between low high key) t in
                let c = both (nat_le low key) (nat_le key high) b.1 in
                let from : low ≤ key = leb-true low key c.0 in
                let upto : key ≤ high = leb-true key high c.1 in
                range_has shape lane low n seen j e at f.1 b.0 small from (covers.inside key small from upto) covers.bound
                ∙ sym (place_has p j (length (rows_in seen)) (omega (arith, lt, long)) (ap (is_keyed_between shape lane low high) (sym row) ∙ t))
            | inr t ↦
                range_lacks shape lane low n seen j
                (λ x h. subst (λ (y : Entry). key_of shape lane y.row < 16 ^ levels_of shape lane) (same_entry seen j e x at h) small) covers.bound
                (λ x h s from upto.
                let same : x ≡ e = same_entry seen j x e h at in
                let s' : sel ≡ true = ap (λ (y : Entry). selected_by shape lane y.row) (sym same) ∙ s in
                let k = ap (λ (y : Entry). key_of shape lane y.row) same in
                let low' : low ≤ key = omega (arith, from, k) in
                let high' : key ≤ high = covers.outside key low' (omega (arith, upto, k)) in
                let t' = both_true sel (is_between low high key) s'
                (both_true (nat_le low key) (nat_le key high) (le-leb low key low') (le-leb key high high')) in
                absurd (cc (t, t')))
                ∙ sym (place_lacks p j (length (rows_in seen)) (λ h. ap (is_keyed_between shape lane low high) (sym row) ∙ t))
          ]
      | inr le ↦
          let none : (e : Entry) → slice_get seen j ≡ Some e → ⊥ = λ e at. (let lt = slice_get_within seen j e at in absurd (omega (arith, lt, le))) in
          range_lacks shape lane low n seen j (λ e at. absurd (none e at)) covers.bound (λ e at s from upto. none e at)
          ∙ sym (place_lacks p j (length (rows_in seen)) (λ h. absurd (omega (arith, h, long, le))))
    ]

-- Ascending, they are one list.
above_all : (n : ℕ) (ns : List ℕ) → AllByRecursion (λ m. n < m) ns → AllByRecursion (λ m. n ≤ m) ns
above_all n [] all = tt
above_all n (m ∷ ms) all = (let lt = all.0 in omega (arith, lt), above_all n ms all.1)

climbs_rise : (ns : List ℕ) → Rise ns → Climbs ns
climbs_rise [] rise = tt
climbs_rise (n ∷ ns) rise = (above_all n ns rise.0, climbs_rise ns rise.1)

pub sorted_are : (passes : RowValue → Bool) (rows : List RowValue) (found sorted : List ℕ) → AsOften found (places passes rows) → IsPermutation found sorted
    → IsSorted nat_cmp sorted → sorted ≡ places passes rows
sorted_are passes rows found sorted same moved up =
    let ps = places passes rows in
    sort_leaves found sorted moved up
    ∙ (sort_is_one found ps same ∙ climbing_is_one (sort ps) ps (climbs_sort ps) (climbs_rise ps (places_rise passes rows)) (λ n. count_sort n ps))

pub covers_some : (shape : ShapeValue) (lane low high top upto : ℕ) → top + 1 ≡ 16 ^ levels_of shape lane → upto ≡ min high top → low ≤ upto
    → Covers shape lane low high (upto - low + 1)
covers_some shape lane low high top upto most is le = record {
  inside = λ k small from le'. omega (arith, most, is, le, small, from, le');
  outside = λ k from lt. omega (arith, is, le, from, lt);
  bound = λ i lt. omega (arith, most, is, le, lt);
}

pub covers_none : (shape : ShapeValue) (lane low high top upto : ℕ) → top + 1 ≡ 16 ^ levels_of shape lane → upto ≡ min high top → upto < low
    → Covers shape lane low high 0
covers_none shape lane low high top upto most is lt = record {
  inside = λ k small from le'. absurd (omega (arith, most, is, lt, small, from, le'));
  outside = λ k from below. absurd (omega (arith, from, below));
  bound = λ i none. absurd (omega (arith, none));
}

-- the same of a list that is these places, or none
pub some_often : (shape : ShapeValue) (lane low high n : ℕ) (seen : List Entry) (items : List ℕ) → IsShape shape → lane < length shape.lanes
    → ((o : ℕ) (e : Entry) → slice_get seen o ≡ Some e → IsFit (layout shape) e) → Covers shape lane low high n
    → items ≡ range_places shape lane low seen n → AsOften items (places (is_keyed_between shape lane low high) (rows_in seen))
some_often shape lane low high n seen items is there fit covers same j = ap (count j) same ∙ as_often shape lane low high n seen is there fit covers j

pub none_often : (shape : ShapeValue) (lane low high : ℕ) (seen : List Entry) (items : List ℕ) → IsShape shape → lane < length shape.lanes
    → ((o : ℕ) (e : Entry) → slice_get seen o ≡ Some e → IsFit (layout shape) e) → Covers shape lane low high 0
    → items ≡ [] → AsOften items (places (is_keyed_between shape lane low high) (rows_in seen))
unfolding range_places
none_often shape lane low high seen items is there fit covers same j = ap (count j) same ∙ as_often shape lane low high 0 seen is there fit covers j
