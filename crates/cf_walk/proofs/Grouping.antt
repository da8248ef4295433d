-- The groups of a lane's entries by their keys.
use Rattle.std.proofs.Common.{◌≡◌, ◌∙◌, ℕ, zero, suc, ◌+◌, ◌-◌, ◌^◌, ◌<◌, ◌≤◌, ◌==◌, ◌&&◌, inl, inr, List, [], ◌∷◌, ◌++◌, length, map, filter, Bool, true, false, not, cond, Some, None, slice_get, refl, sym, ap, ap₂, arith}
use Rattle.std.specs.List.{range_with_len, list_any}
use Rattle.std.specs.Bool.{nat_lt}
use Rattle.std.proofs.lemmas.Bool.{cases_Bool, cases_eq, cases_order, eq-eqb, ne_eqb, le-leb, lt-leb, lt-ltb}
use Rattle.std.proofs.lemmas.List.{length-map, map-append, append_assoc, append-nil}
use Rattle.std.proofs.lemmas.List.Elements.{filter-append, filter_agree}
use Rattle.cf_row.specs.Row.{RowValue}
use Rattle.cf_row.specs.declared.row.Entry.{Entry}
use Rattle.cf_row.proofs.Bytes.{both}
use Rattle.cf_fold.specs.Quads.{QuadValue, quad_of}
use Rattle.cf_shape.specs.Lanes.{ShapeValue, IsShape, lane_at, has_by, selected_by, key_of, group_key, measure_of}
use Rattle.cf_shape.specs.Nodes.{levels_of}
use Rattle.cf_law.specs.Readers.{IsFit}
use Rattle.cf_law.specs.Shapes.{layout}
use Rattle.cf_plain.specs.Asks.{rows_in, is_between, is_keyed_between, total_over}
use Rattle.cf_plain.specs.Groups.{keys_in, has_key, group_of, groups, as_group}
use Rattle.cf_plain.specs.declared.answer.Group.{Group}
use Rattle.cf_plain.proofs.Grouped.{rise_ascending, any_ascending}
use Rattle.cf_plain.proofs.Rising.{rising_is_one}
use Rattle.cf_plain.proofs.Found.{rise_range, any_range}
use Rattle.cf_walk.specs.Measures.{HasMeasured, is_grouped, groups_from, HasGrouped}
use Rattle.cf_walk.proofs.Keys.{key_small, key_alone}
use Rattle.cf_walk.proofs.Tallied.{fits_of}
use Rattle.cf_walk.proofs.Measured.{total_of}

-- one key is a range
between_one : (k n : ℕ) → is_between k k n ≡ (n == k)
between_one k n = elim (cases_order n k) [
  | inl e ↦ rw (eq-eqb n k e, le-leb k n (omega (arith, e)), le-leb n k (omega (arith, e))) refl
  | inr (inl lt) ↦ rw (lt-leb k n lt, ne_eqb n k (λ e. omega (arith, e, lt))) refl
  | inr (inr gt) ↦ rw (le-leb k n (omega (arith, gt)), lt-leb n k gt, ne_eqb n k (λ e. omega (arith, e, gt))) refl
]

one_group : (shape : ShapeValue) (lane k : ℕ) (rows : List RowValue) → has_by (lane_at shape lane).key ≡ false
    → total_over shape lane (is_keyed_between shape lane k k) rows ≡ (group_of shape lane rows k).1
one_group shape lane k rows alone =
    ap (λ (rs : List RowValue). quad_of (map (measure_of shape lane) rs))
    (filter_agree (is_keyed_between shape lane k k) (has_key shape lane k)
    (λ row. ap (λ (b : Bool). selected_by shape lane row && b)
    (between_one k (key_of shape lane row) ∙ ap (λ (n : ℕ). n == k) (sym (key_alone shape lane alone row)))) rows)

-- a test that lets more through
filter_less : (p q : RowValue → Bool) → ((x : RowValue) → p x ≡ true → q x ≡ true) → (xs : List RowValue) → length (filter p xs) ≤ length (filter q xs)
filter_less p q less [] = omega arith
filter_less p q less (x ∷ xs) = elim (cases_Bool (p x)) [
  | inl t ↦ rw (t, less x t) (let rest = filter_less p q less xs in omega (arith, rest))
  | inr t ↦ rw t (let rest = filter_less p q less xs in more (q x) rest)
]
  where
    more : (b : Bool) → length (filter p xs) ≤ length (filter q xs) → length (filter p xs) ≤ length (cond b (x ∷ filter q xs) (filter q xs))
    more true le = omega (arith, le)
    more false le = le

in_range : (shape : ShapeValue) (lane low high k : ℕ) (row : RowValue) → has_by (lane_at shape lane).key ≡ false → low ≤ k → k ≤ high → has_key shape lane k row ≡ true
    → is_keyed_between shape lane low high row ≡ true
in_range shape lane low high k row alone from upto h =
    let b = both (selected_by shape lane row) (group_key shape lane row == k) h in
    let e : key_of shape lane row ≡ k = sym (key_alone shape lane alone row) ∙ key_is (group_key shape lane row) k b.1 in
    rw (b.0, le-leb low (key_of shape lane row) (omega (arith, e, from)), le-leb (key_of shape lane row) high (omega (arith, e, upto))) refl
  where
    key_is : (n k : ℕ) → (n == k) ≡ true → n ≡ k
    key_is n k h = elim (cases_eq n k) [
      | inl e ↦ e
      | inr ne ↦ absurd (let f = ne_eqb n k ne in cc (f, h))
    ]

-- a range without entries has no group
none_kept : (p : ℕ → Bool) (a n : ℕ) → ((i : ℕ) → i < n → p (a + i) ≡ false) → filter p (range_with_len a n) ≡ []
none_kept p a zero out = refl
none_kept p a (suc n) out =
    let zero_more : a + 0 ≡ a = omega arith in
    let here : p a ≡ false = sym (ap p zero_more) ∙ out 0 (omega arith) in
    let rest = none_kept p (a + 1) n (λ i lt. let e : a + 1 + i ≡ a + suc i = omega arith in ap p e ∙ out (suc i) (omega (arith, lt))) in
    ap (λ (b : Bool). cond b (a ∷ filter p (range_with_len (a + 1) n)) (filter p (range_with_len (a + 1) n))) here ∙ rest

none_grouped : (shape : ShapeValue) (lane low high k : ℕ) (rows : List RowValue) → has_by (lane_at shape lane).key ≡ false
    → (total_over shape lane (is_keyed_between shape lane low high) rows).count ≡ 0 → low ≤ k → k ≤ high → is_grouped shape lane rows k ≡ false
none_grouped shape lane low high k rows alone none from upto =
    let p = has_key shape lane k in
    let q = is_keyed_between shape lane low high in
    let less = filter_less p q (λ row h. in_range shape lane low high k row alone from upto h) rows in
    let a = length-map (filter p rows) (measure_of shape lane) in
    let b = length-map (filter q rows) (measure_of shape lane) in
    let e : (group_of shape lane rows k).1.count ≡ 0 = omega (arith, less, a, b, none) in
    ap (λ (n : ℕ). not (n == 0)) e

pub none_found : (shape : ShapeValue) (lane first high last : ℕ) (seen : List Entry) (found : QuadValue) (before : List Group) → IsShape shape
    → has_by (lane_at shape lane).key ≡ false
    → lane < length shape.lanes → ((o : ℕ) (e : Entry) → slice_get seen o ≡ Some e → IsFit (layout shape) e) → high < 16 ^ levels_of shape lane
    → HasMeasured shape lane first high seen found last → found.count ≡ 0 → HasGrouped shape lane first high (rows_in seen) before before last
none_found shape lane first high last seen found before is alone there fit top m none =
    let from = m.from in
    let e : (total_over shape lane (is_keyed_between shape lane first last) (rows_in seen)).count ≡ 0 =
    sym (ap (λ (q : QuadValue). q.count) (total_of shape lane first high last seen found is there fit top m)) ∙ none in
    let out = none_kept (is_grouped shape lane (rows_in seen)) first (last - first + 1)
    (λ i lt. none_grouped shape lane first last (first + i) (rows_in seen) alone e (omega arith) (omega (arith, lt, from))) in
    record {
      from = from;
      upto = m.upto;
      found = sym (append-nil before) ∙ ap (λ (ks : List ℕ). before ++ map as_group (map (group_of shape lane (rows_in seen)) ks)) (sym out);
    }

-- a key with entries is a group
pub one_found : (shape : ShapeValue) (lane first high last : ℕ) (seen : List Entry) (found : QuadValue) (before after : List Group) → IsShape shape
    → has_by (lane_at shape lane).key ≡ false → first < 2 ^ 64
    → lane < length shape.lanes → ((o : ℕ) (e : Entry) → slice_get seen o ≡ Some e → IsFit (layout shape) e) → high < 16 ^ levels_of shape lane
    → HasMeasured shape lane first high seen found last → 0 < found.count → last ≡ first → after ≡ before ++ record { key = first; by = None; quad = found } ∷ []
    → HasGrouped shape lane first high (rows_in seen) before after last
one_found shape lane first high last seen found before after is alone small there fit top m some one push =
    let rows = rows_in seen in
    let e : found ≡ (group_of shape lane rows first).1 =
    total_of shape lane first high last seen found is there fit top m
    ∙ (ap (λ (k : ℕ). total_over shape lane (is_keyed_between shape lane first k) rows) one ∙ one_group shape lane first rows alone) in
    let n : last - first + 1 ≡ 1 = omega (arith, one) in
    let c : (group_of shape lane rows first).1.count ≡ found.count = ap (λ (q : QuadValue). q.count) (sym e) in
    let g : is_grouped shape lane rows first ≡ true = ap not (ne_eqb ((group_of shape lane rows first).1.count) 0 (λ f. omega (arith, f, c, some))) in
    let here : groups_from shape lane rows first 1 ≡ (first, found) ∷ [] =
    ap (λ (b : Bool). map (group_of shape lane rows) (cond b (first ∷ []) [])) g ∙ ap (λ (q : QuadValue). (first, q) ∷ []) (sym e) in
    let told : record { key = first; by = None; quad = found } ≡ as_group (first, found) = rw (lt-ltb first (2 ^ 64) small) refl in
    record {
      from = m.from;
      upto = m.upto;
      found = push ∙ ap (λ (g : Group). before ++ g ∷ []) told
          ∙ ap (λ (gs : List (ℕ × QuadValue)). before ++ map as_group gs) (sym (ap (groups_from shape lane rows first) n ∙ here));
    }

-- Ranges of keys, one after the other.
range_more : (a n m : ℕ) → range_with_len a (n + m) ≡ range_with_len a n ++ range_with_len (a + n) m
range_more a zero m =
    (let e : 0 + m ≡ m = omega arith in let f : a + 0 ≡ a = omega arith in ap (range_with_len a) e ∙ ap (λ (k : ℕ). range_with_len k m) (sym f))
range_more a (suc n) m =
    let e : suc n + m ≡ suc (n + m) = omega arith in
    let f : a + 1 + n ≡ a + suc n = omega arith in
    ap (range_with_len a) e ∙ (ap (λ (ks : List ℕ). a ∷ ks) (range_more (a + 1) n m) ∙ ap (λ (k : ℕ). a ∷ range_with_len (a + 1) n ++ range_with_len k m) f)

groups_more : (shape : ShapeValue) (lane : ℕ) (rows : List RowValue) (low n m : ℕ)
    → groups_from shape lane rows low (n + m) ≡ groups_from shape lane rows low n ++ groups_from shape lane rows (low + n) m
groups_more shape lane rows low n m =
    let p = is_grouped shape lane rows in
    let f = group_of shape lane rows in
    ap (λ (ks : List ℕ). map f (filter p ks)) (range_more low n m)
    ∙ (ap (map f) (filter-append p (range_with_len low n) (range_with_len (low + n) m))
    ∙ map-append f (filter p (range_with_len low n)) (filter p (range_with_len (low + n) m)))

pub grouped_then : (shape : ShapeValue) (lane low high first last : ℕ) (rows old : List RowValue) (before middle after : List Group) → old ≡ rows
    → HasGrouped shape lane low high rows before middle first → HasGrouped shape lane (first + 1) high old middle after last
    → HasGrouped shape lane low high rows before after last
grouped_then shape lane low high first last rows old before middle after same a b =
    let x = a.from in
    let y = b.from in
    let e : low + (first - low + 1) ≡ first + 1 = omega (arith, x) in
    let f : first - low + 1 + (last - (first + 1) + 1) ≡ last - low + 1 = omega (arith, x, y) in
    let xs = groups_from shape lane rows low (first - low + 1) in
    record {
      from = omega (arith, x, y);
      upto = b.upto;
      found = b.found
          ∙ (ap₂ (λ (xs ys : List Group). xs ++ ys) a.found
          (ap (λ (rs : List RowValue). map as_group (groups_from shape lane rs (first + 1) (last - (first + 1) + 1))) same)
          ∙ (append_assoc before (map as_group xs) (map as_group (groups_from shape lane rows (first + 1) (last - (first + 1) + 1)))
          ∙ (ap (λ (gs : List Group). before ++ gs) (sym (map-append as_group xs (groups_from shape lane rows (first + 1) (last - (first + 1) + 1))))
          ∙ ap (λ (gs : List (ℕ × QuadValue)). before ++ map as_group gs)
          (ap (λ (k : ℕ). xs ++ groups_from shape lane rows k (last - (first + 1) + 1)) (sym e)
          ∙ (sym (groups_more shape lane rows low (first - low + 1) (last - (first + 1) + 1)) ∙ ap (groups_from shape lane rows low) f)))));
    }

-- All keys have all groups.
keys_grouped : (shape : ShapeValue) (lane q : ℕ) (rows : List RowValue)
    → list_any (λ n. q == n) (map (group_key shape lane) (filter (selected_by shape lane) rows)) ≡ is_grouped shape lane rows q
keys_grouped shape lane q [] = refl
keys_grouped shape lane q (row ∷ rows) = elim (cases_Bool (selected_by shape lane row)) [
  | inr out ↦ rw out (keys_grouped shape lane q rows)
  | inl sel ↦ elim (cases_eq q (group_key shape lane row)) [
    | inl e ↦ rw (sel, eq-eqb q (group_key shape lane row) e, eq-eqb (group_key shape lane row) q (sym e))
        (sym (ap not (ne_eqb (suc (length (map (measure_of shape lane) (filter (has_key shape lane q) rows)))) 0 (λ f. omega (arith, f)))))
    | inr ne ↦ rw (sel, ne_eqb q (group_key shape lane row) ne, ne_eqb (group_key shape lane row) q (λ e. ne (sym e))) (keys_grouped shape lane q rows)
  ]
]

grouped_small : (shape : ShapeValue) (lane q top : ℕ) (seen : List Entry) → ((o : ℕ) (e : Entry) → slice_get seen o ≡ Some e → group_key shape lane e.row < top)
    → list_any (λ n. q == n) (map (group_key shape lane) (filter (selected_by shape lane) (rows_in seen))) ≡ true → q < top
grouped_small shape lane q top [] small h = absurd (cc h)
grouped_small shape lane q top (e ∷ es) small h = elim (cases_Bool (selected_by shape lane e.row)) [
  | inr out ↦ grouped_small shape lane q top es (λ o x at. small (suc o) x at) (rw out at h)
  | inl sel ↦ elim (cases_eq q (group_key shape lane e.row)) [
    | inl is ↦ (let lt = small 0 e refl in omega (arith, is, lt))
    | inr ne ↦ grouped_small shape lane q top es (λ o x at. small (suc o) x at) (rw (sel, ne_eqb q (group_key shape lane e.row) ne) at h)
  ]
]

and_all : (a b : Bool) → (b ≡ true → a ≡ true) → (a && b) ≡ b
and_all true b h = refl
and_all false true h = h refl
and_all false false h = refl

pub all_groups : (shape : ShapeValue) (lane top : ℕ) (seen : List Entry) (found : List Group) → IsShape shape
    → has_by (lane_at shape lane).key ≡ false → lane < length shape.lanes
    → ((o : ℕ) (e : Entry) → slice_get seen o ≡ Some e → IsFit (layout shape) e) → top + 1 ≡ 16 ^ levels_of shape lane
    → HasGrouped shape lane 0 top (rows_in seen) [] found top → found ≡ map as_group (groups shape lane (rows_in seen))
all_groups shape lane top seen found is alone there fit most h =
    let rows = rows_in seen in
    let p = is_grouped shape lane rows in
    let n = top - 0 + 1 in
    let ks = map (group_key shape lane) (filter (selected_by shape lane) rows) in
    h.found
    ∙ ap (λ (ks : List ℕ). map as_group (map (group_of shape lane rows) ks))
    (rising_is_one (filter p (range_with_len 0 n)) (keys_in shape lane rows) (rise_range p 0 n) (rise_ascending ks)
    (λ q. any_range p q 0 n (omega arith)
    ∙ (and_all (nat_lt q (0 + n)) (p q) (λ yes'. lt-ltb q (0 + n)
    (let lt = grouped_small shape lane q (16 ^ levels_of shape lane) seen (λ o e at. rw (key_alone shape lane alone e.row) (key_small shape lane e.row is there (fits_of shape e (fit o e at))))
    (keys_grouped shape lane q rows ∙ yes') in omega (arith, lt, most)))
    ∙ (sym (keys_grouped shape lane q rows) ∙ sym (any_ascending ks q)))))
