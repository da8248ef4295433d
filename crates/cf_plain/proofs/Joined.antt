-- What a question finds in rows that stand in several lists.
use Rattle.std.proofs.Common.{◌≡◌, ℕ, zero, suc, ◌+◌, ◌<◌, ◌≤◌, ◌^◌, Bool, true, false, cond, ◌&&◌, ◌||◌, ◌==◌, List, [], ◌∷◌, ◌++◌, length, map, filter, fold, flat_map, All, refl, sym, ap, ap₂, ◌∙◌, inl, inr, arith, append-nil, length-append, add-zero}
use Rattle.std.specs.List.{AllByRecursion, list_any, range_with_len, sum_by}
use Rattle.std.proofs.lemmas.Bool.{eq-eqb, ne_eqb, cases_eq, cases_Bool}
use Rattle.std.proofs.lemmas.List.{append_assoc, map-append, get_or-append-add, get_or_append_left, length-map}
use Rattle.std.proofs.lemmas.List.Concat.{flat_map-cons}
use Rattle.std.proofs.lemmas.List.Elements.{filter-append, All-from_recursion}
use Rattle.std.proofs.lemmas.List.Folds.{list_any-append}
use Rattle.std.proofs.lemmas.List.Sums.{fold-append, sum_by-cons, sum_by-append, length-filter, count_by-le-length}
use Rattle.cf_row.specs.Row.{RowValue}
use Rattle.cf_row.specs.declared.expr.Atom.{Atom}
use Rattle.cf_row.specs.Expr.{holds_of}
use Rattle.cf_row.specs.Times.{number_at}
use Rattle.cf_fold.specs.Quads.{QuadValue, quad_of, both}
use Rattle.cf_fold.proofs.Together.{quad_together}
use Rattle.cf_shape.specs.Lanes.{ShapeValue, selected_by, group_key, measure_of}
use Rattle.cf_plain.specs.Asks.{row_at, no_row, places, counts_for, total_over, eval_rows}
use Rattle.cf_plain.specs.Groups.{ascending, keys_in, has_key, group_of, groups}
use Rattle.cf_plain.specs.Totals.{total}
use Rattle.cf_plain.specs.Segments.{group_under, merged, numbers_in, finding_in, joined, body_of, CanJoin}
use Rattle.cf_plain.specs.declared.finding.Finding.TheVariants.{Places, Total, Groups}
use Rattle.cf_plain.specs.declared.ask.Ask.{Ask}
use Rattle.cf_plain.specs.declared.ask.Ask.TheVariants as asks
use Rattle.cf_plain.proofs.Grouped.{Rise, pairs, rise_ascending, any_ascending, none_of_key}
use Rattle.cf_plain.proofs.Rising.{rising_is_one}
use Rattle.cf_plain.proofs.Merging.{Pair, quads_at, quads_append}

-- a test of places that are counted on
shift : (p q : ℕ → Bool) (m : ℕ) → ((i : ℕ) → q (m + i) ≡ p i) → (a n : ℕ)
    → filter q (range_with_len (m + a) n) ≡ map (λ i. m + i) (filter p (range_with_len a n))
shift p q m same a zero = refl
shift p q m same a (suc n) =
    let next : m + a + 1 ≡ m + (a + 1) = omega arith in
    let rest : filter q (range_with_len (m + a + 1) n) ≡ map (λ i. m + i) (filter p (range_with_len (a + 1) n)) = ap (λ k. filter q (range_with_len k n)) next
    ∙ shift p q m same (a + 1) n in
    ap (λ b. cond b ((m + a) ∷ filter q (range_with_len (m + a + 1) n)) (filter q (range_with_len (m + a + 1) n))) (same a)
    ∙ elim (p a) as
    (λ b. cond b ((m + a) ∷ filter q (range_with_len (m + a + 1) n)) (filter q (range_with_len (m + a + 1) n)) ≡ map (λ i. m + i)
    (cond b (a ∷ filter p (range_with_len (a + 1) n)) (filter p (range_with_len (a + 1) n)))) [
      | true ↦ ap (λ ns. (m + a) ∷ ns) rest
      | false ↦ rest
    ]

agree : (p q : ℕ → Bool) (a n : ℕ) → ((i : ℕ) → i < a + n → p i ≡ q i) → filter p (range_with_len a n) ≡ filter q (range_with_len a n)
agree p q a zero same = refl
agree p q a (suc n) same =
    let rest : filter p (range_with_len (a + 1) n) ≡ filter q (range_with_len (a + 1) n) = agree p q (a + 1) n (λ i lt. same i (omega (arith, lt))) in
    ap (λ b. cond b (a ∷ filter p (range_with_len (a + 1) n)) (filter p (range_with_len (a + 1) n))) (same a (omega arith))
    ∙ ap (λ ns. cond (q a) (a ∷ ns) ns) rest

pub range_append : (a m n : ℕ) → range_with_len a (m + n) ≡ range_with_len a m ++ range_with_len (a + m) n
range_append a zero n = let e : 0 + n ≡ n = omega arith in rw (add-zero a, e) refl
range_append a (suc m) n =
    let e : suc m + n ≡ suc (m + n) = omega arith in
    let same : a + suc m ≡ a + 1 + m = omega arith in
    rw (e, same) (ap (λ ns. a ∷ ns) (range_append (a + 1) m n))

-- the places in rows and in those behind them
pub places_append : (passes : RowValue → Bool) (xs ys : List RowValue)
    → places passes (xs ++ ys) ≡ places passes xs ++ map (λ place. length xs + place) (places passes ys)
places_append passes xs ys =
    let m = length xs in
    let n = length ys in
    let test : ℕ → Bool = λ place. passes (row_at (xs ++ ys) place) in
    let start : 0 + m ≡ m + 0 = omega arith in
    ap (λ k. filter test (range_with_len 0 k)) (length-append xs ys)
    ∙ ap (filter test) (range_append 0 m n)
    ∙ filter-append test (range_with_len 0 m) (range_with_len (0 + m) n)
    ∙ ap₂ (λ (is js : List ℕ). is ++ js)
    (agree test (λ place. passes (row_at xs place)) 0 m (λ i lt. ap passes (get_or_append_left xs ys no_row i (omega (arith, lt)))))
    (ap (λ k. filter test (range_with_len k n)) start
    ∙ shift (λ place. passes (row_at ys place)) test m (λ i. ap passes (get_or-append-add xs ys i no_row)) 0 n)

-- the quad of numbers and of those behind them
pub quad_append : (ns ms : List ℕ) → quad_of (ns ++ ms) ≡ both (quad_of ns) (quad_of ms)
quad_append [] ms = refl
quad_append (n ∷ ns) [] =
    let some : (suc (length ns) == 0) ≡ false = ne_eqb (suc (length ns)) 0 (λ e. omega (arith, e)) in
    ap quad_of (append-nil (n ∷ ns)) ∙ rw some refl
quad_append (n ∷ ns) (m ∷ ms) =
    let some : (suc (length ns) == 0) ≡ false = ne_eqb (suc (length ns)) 0 (λ e. omega (arith, e)) in
    let other : (suc (length ms) == 0) ≡ false = ne_eqb (suc (length ms)) 0 (λ e. omega (arith, e)) in
    rw (some, other) (sym (quad_together (n ∷ ns) (m ∷ ms) (quad_of (n ∷ ns)) (quad_of (m ∷ ms)) refl refl (λ e. omega (arith, e)) (λ e. omega (arith, e))))

-- what is taken of rows that pass, and of those behind them
taken_append : (f : RowValue → ℕ) (p : RowValue → Bool) (xs ys : List RowValue) → map f (filter p (xs ++ ys)) ≡ map f (filter p xs) ++ map f (filter p ys)
taken_append f p xs ys = ap (map f) (filter-append p xs ys) ∙ map-append f (filter p xs) (filter p ys)

pub total_over_append : (shape : ShapeValue) (lane : ℕ) (p : RowValue → Bool) (xs ys : List RowValue)
    → total_over shape lane p (xs ++ ys) ≡ both (total_over shape lane p xs) (total_over shape lane p ys)
total_over_append shape lane p xs ys = ap quad_of (taken_append (measure_of shape lane) p xs ys)
    ∙ quad_append (map (measure_of shape lane) (filter p xs)) (map (measure_of shape lane) (filter p ys))

pub total_append : (attr : ℕ) (expr : List (List Atom)) (xs ys : List RowValue) → total attr expr (xs ++ ys) ≡ both (total attr expr xs) (total attr expr ys)
total_append attr expr xs ys =
    let f : RowValue → ℕ = λ row. number_at row attr in
    ap quad_of (taken_append f (holds_of expr) xs ys) ∙ quad_append (map f (filter (holds_of expr) xs)) (map f (filter (holds_of expr) ys))

pub none_above : (f : ℕ → QuadValue) (k m : ℕ) (ks : List ℕ) → k ≤ m → AllByRecursion (λ n. m < n) ks → quads_at k (pairs f ks) ≡ []
none_above f k m [] le above = refl
none_above f k m (n ∷ ks) le above = rw (ne_eqb n k (λ e. omega (arith, e, le, above.0))) (none_above f k m ks le above.1)

pub quads_of_pairs : (f : ℕ → QuadValue) (k : ℕ) (ks : List ℕ) → Rise ks → quads_at k (pairs f ks) ≡ cond (list_any (λ n. k == n) ks) (f k ∷ []) []
quads_of_pairs f k [] rise = refl
quads_of_pairs f k (m ∷ ks) rise = elim (cases_eq m k) [
  | inl e ↦ rw (eq-eqb m k e, eq-eqb k m (sym e))
      (ap₂ (λ (c : QuadValue) (cs : List QuadValue). c ∷ cs) (ap f e) (none_above f k m ks (omega (arith, e)) rise.0))
  | inr ne ↦ rw (ne_eqb m k ne, ne_eqb k m (λ e. ne (sym e))) (quads_of_pairs f k ks rise.1)
]

pub firsts_back : (f : ℕ → QuadValue) (ks : List ℕ) → map (λ (g : Pair). g.0) (pairs f ks) ≡ ks
firsts_back f [] = refl
firsts_back f (k ∷ ks) = ap (λ ns. k ∷ ns) (firsts_back f ks)

map_agree : {X Y : Type 0} (f g : X → Y) → ((x : X) → f x ≡ g x) → (xs : List X) → map f xs ≡ map g xs
map_agree f g same [] = refl
map_agree f g same (x ∷ xs) = ap₂ (λ y ys. y ∷ ys) (same x) (map_agree f g same xs)

-- what is made of two parts
of_two : {X Y : Type 0} (f : X → List Y) (x y : X) → flat_map f (x ∷ y ∷ []) ≡ f x ++ f y
of_two f x y = flat_map-cons f x (y ∷ []) ∙ ap (λ zs. f x ++ zs) (flat_map-cons f y [] ∙ append-nil (f y))

pub and_false : (b : Bool) → (b && false) ≡ false
and_false true = refl
and_false false = refl

module _ (shape : ShapeValue) (lane : ℕ) where
  -- the rows of all parts
  abbrev all_rows : List (List RowValue) → List RowValue
  all_rows parts = flat_map (λ (rows : List RowValue). rows) parts

  -- the groups of all parts
  abbrev all_groups : List (List RowValue) → List Pair
  all_groups parts = flat_map (groups shape lane) parts

  -- the keys of the selected rows, in order
  abbrev keys : List RowValue → List ℕ
  keys rows = map (group_key shape lane) (filter (selected_by shape lane) rows)

  -- what the lane measures of one key's rows
  abbrev measures : ℕ → List RowValue → List ℕ
  measures k rows = map (measure_of shape lane) (filter (has_key shape lane k) rows)

  any_keys : (q : ℕ) (parts : List (List RowValue))
      → list_any (λ n. q == n) (map (λ (g : Pair). g.0) (all_groups parts)) ≡ list_any (λ n. q == n) (keys (all_rows parts))
  any_keys q [] = refl
  any_keys q (rows ∷ parts) =
      let any : List ℕ → Bool = λ ks. list_any (λ n. q == n) ks in
      let first : List Pair → List ℕ = λ gs. map (λ (g : Pair). g.0) gs in
      ap (λ gs. any (first gs)) (flat_map-cons (groups shape lane) rows parts)
      ∙ ap any (map-append (λ (g : Pair). g.0) (groups shape lane rows) (all_groups parts))
      ∙ list_any-append (λ n. q == n) (first (groups shape lane rows)) (first (all_groups parts))
      ∙ ap₂ (λ a b. a || b) (ap any (firsts_back (λ k. quad_of (measures k rows)) (keys_in shape lane rows)) ∙ any_ascending (keys rows) q) (any_keys q parts)
      ∙ sym (
      ap (λ rs. any (keys rs)) (flat_map-cons (λ (rs : List RowValue). rs) rows parts)
      ∙ ap any (taken_append (group_key shape lane) (selected_by shape lane) rows (all_rows parts))
      ∙ list_any-append (λ n. q == n) (keys rows) (keys (all_rows parts))
      )

  keys_merge : (parts : List (List RowValue)) → ascending (map (λ (g : Pair). g.0) (all_groups parts)) ≡ keys_in shape lane (all_rows parts)
  keys_merge parts =
      let firsts : List ℕ = map (λ (g : Pair). g.0) (all_groups parts) in
      rising_is_one (ascending firsts) (keys_in shape lane (all_rows parts)) (rise_ascending firsts) (rise_ascending (keys (all_rows parts)))
      (λ q. any_ascending firsts q ∙ any_keys q parts ∙ sym (any_ascending (keys (all_rows parts)) q))

  -- the groups of one part, merged to a quad
  under_one : (k : ℕ) (ns : List ℕ) (rows : List RowValue) → fold both (quad_of ns) (quads_at k (groups shape lane rows)) ≡ quad_of (ns ++ measures k rows)
  under_one k ns rows =
      let f : ℕ → QuadValue = λ n. quad_of (measures n rows) in
      let found : quads_at k (groups shape lane rows) ≡ cond (list_any (λ n. k == n) (keys rows)) (f k ∷ []) [] =
      quads_of_pairs f k (keys_in shape lane rows) (rise_ascending (keys rows)) ∙ ap (λ b. cond b (f k ∷ []) []) (any_ascending (keys rows) k) in
      ap (fold both (quad_of ns)) found ∙ elim (cases_Bool (list_any (λ n. k == n) (keys rows))) [
        | inl some ↦ ap (λ b. fold both (quad_of ns) (cond b (f k ∷ []) [])) some ∙ sym (quad_append ns (measures k rows))
        | inr none ↦
            ap (λ b. fold both (quad_of ns) (cond b (f k ∷ []) [])) none
            ∙ ap quad_of (sym (append-nil ns))
            ∙ ap (λ (rs : List RowValue). quad_of (ns ++ map (measure_of shape lane) rs)) (sym (none_of_key shape lane k rows none))
      ]

  under_all : (k : ℕ) (ns : List ℕ) (parts : List (List RowValue))
      → fold both (quad_of ns) (quads_at k (all_groups parts)) ≡ quad_of (ns ++ measures k (all_rows parts))
  under_all k ns [] = ap quad_of (sym (append-nil ns))
  under_all k ns (rows ∷ parts) =
      ap (λ gs. fold both (quad_of ns) (quads_at k gs)) (flat_map-cons (groups shape lane) rows parts)
      ∙ ap (fold both (quad_of ns)) (quads_append k (groups shape lane rows) (all_groups parts))
      ∙ fold-append both (quad_of ns) (quads_at k (groups shape lane rows)) (quads_at k (all_groups parts))
      ∙ ap (λ c. fold both c (quads_at k (all_groups parts))) (under_one k ns rows)
      ∙ under_all k (ns ++ measures k rows) parts
      ∙ ap quad_of (append_assoc ns (measures k rows) (measures k (all_rows parts)))
      ∙ ap (λ ms. quad_of (ns ++ ms)) (sym (taken_append (measure_of shape lane) (has_key shape lane k) rows (all_rows parts)))
      ∙ ap (λ rs. quad_of (ns ++ measures k rs)) (sym (flat_map-cons (λ (rs : List RowValue). rs) rows parts))

  -- the groups of several lists of rows, merged
  pub groups_merge : (parts : List (List RowValue)) → merged (all_groups parts) ≡ groups shape lane (all_rows parts)
  groups_merge parts =
      let each : (k : ℕ) → group_under (all_groups parts) k ≡ group_of shape lane (all_rows parts) k =
      λ k. ap (λ (c : QuadValue). (k, c)) (under_all k [] parts) in
      map_agree (group_under (all_groups parts)) (group_of shape lane (all_rows parts)) each (ascending (map (λ (g : Pair). g.0) (all_groups parts)))
      ∙ ap (map (group_of shape lane (all_rows parts))) (keys_merge parts)

  -- and of two
  pub groups_append : (xs ys : List RowValue) → merged (groups shape lane xs ++ groups shape lane ys) ≡ groups shape lane (xs ++ ys)
  groups_append xs ys =
      ap merged (sym (of_two (groups shape lane) xs ys)) ∙ groups_merge (xs ∷ ys ∷ []) ∙ ap (groups shape lane) (of_two (λ (rows : List RowValue). rows) xs ys)

-- a question's findings, joined
pub findings_join : (shape : ShapeValue) (ask : Ask) (xs ys : List RowValue)
    → joined (length xs) (finding_in shape ask xs) (finding_in shape ask ys) ≡ finding_in shape ask (xs ++ ys)
findings_join shape (asks.List expr) xs ys = ap Places (sym (places_append (counts_for shape (asks.List expr)) xs ys))
findings_join shape (asks.Find lane low high) xs ys = ap Places (sym (places_append (counts_for shape (asks.Find lane low high)) xs ys))
findings_join shape (asks.Between lane low high) xs ys = ap Places (sym (places_append (counts_for shape (asks.Between lane low high)) xs ys))
findings_join shape (asks.Measure lane low high) xs ys = ap Total (sym (total_over_append shape lane (counts_for shape (asks.Measure lane low high)) xs ys))
findings_join shape (asks.Fired trigger) xs ys = ap Groups (groups_append shape trigger.agg xs ys)
findings_join shape (asks.Top lane part n) xs ys = ap Groups (groups_append shape lane xs ys)
findings_join shape (asks.Groups lane) xs ys = ap Groups (groups_append shape lane xs ys)
findings_join shape (asks.Total attr expr) xs ys = ap Total (sym (total_append attr expr xs ys))

pub findings_tell : (shape : ShapeValue) (ask : Ask) (rows : List RowValue) → body_of ask (finding_in shape ask rows) ≡ eval_rows shape ask rows
findings_tell shape (asks.List expr) rows = refl
findings_tell shape (asks.Find lane low high) rows = refl
findings_tell shape (asks.Between lane low high) rows = refl
findings_tell shape (asks.Measure lane low high) rows = refl
findings_tell shape (asks.Fired trigger) rows = refl
findings_tell shape (asks.Top lane part n) rows = refl
findings_tell shape (asks.Groups lane) rows = refl
findings_tell shape (asks.Total attr expr) rows = refl

module _ (shape : ShapeValue) (lane : ℕ) where
  none_of_others : (row : RowValue) (k : ℕ) (ks : List ℕ) → group_key shape lane row ≤ k → AllByRecursion (λ n. k < n) ks
      → sum_by (λ n. cond (has_key shape lane n row) 1 0) ks ≡ 0
  none_of_others row k [] le above = refl
  none_of_others row k (n ∷ ks) le above =
      let here : has_key shape lane n row ≡ false =
      rw (ne_eqb (group_key shape lane row) n (λ e. omega (arith, e, le, above.0))) (and_false (selected_by shape lane row)) in
      let none : ◌≡◌ {A = ℕ} (cond (has_key shape lane n row) 1 0) 0 = ap (λ b. cond b 1 0) here in
      let parts = sum_by-cons (λ m. cond (has_key shape lane m row) 1 0) n ks in
      omega (arith, parts, none, none_of_others row k ks le above.1)

  -- a row has one key at most
  one_key : (row : RowValue) (ks : List ℕ) → Rise ks → sum_by (λ n. cond (has_key shape lane n row) 1 0) ks ≤ 1
  one_key row [] rise = omega arith
  one_key row (k ∷ ks) rise =
      let parts = sum_by-cons (λ n. cond (has_key shape lane n row) 1 0) k ks in
      elim (cases_eq (group_key shape lane row) k) [
        | inl e ↦
            let rest = none_of_others row k ks (omega (arith, e)) rise.0 in
            let most : cond {A = ℕ} (has_key shape lane k row) 1 0 ≤ 1 =
            elim (has_key shape lane k row) as (λ b. cond {A = ℕ} b 1 0 ≤ 1) [ true ↦ omega arith | false ↦ omega arith ] in
            omega (arith, parts, rest, most)
        | inr ne ↦
            let here : has_key shape lane k row ≡ false = rw (ne_eqb (group_key shape lane row) k ne) (and_false (selected_by shape lane row)) in
            let none : ◌≡◌ {A = ℕ} (cond (has_key shape lane k row) 1 0) 0 = ap (λ b. cond b 1 0) here in
            omega (arith, parts, none, one_key row ks rise.1)
      ]

  -- how many rows have one of the keys
  abbrev rows_of_keys : List ℕ → List RowValue → ℕ
  rows_of_keys ks rows = sum_by (λ n. length (filter (has_key shape lane n) rows)) ks

  one_more : (row : RowValue) (rows : List RowValue) (ks : List ℕ)
      → rows_of_keys ks (row ∷ rows) ≡ sum_by (λ n. cond (has_key shape lane n row) 1 0) ks + rows_of_keys ks rows
  one_more row rows [] = refl
  one_more row rows (k ∷ ks) =
      let left = sum_by-cons (λ n. length (filter (has_key shape lane n) (row ∷ rows))) k ks in
      let right = sum_by-cons (λ n. length (filter (has_key shape lane n) rows)) k ks in
      let ones = sum_by-cons (λ n. cond (has_key shape lane n row) 1 0) k ks in
      let here : length (filter (has_key shape lane k) (row ∷ rows)) ≡ cond (has_key shape lane k row) 1 0 + length (filter (has_key shape lane k) rows) =
      elim (has_key shape lane k row) as
      (λ b. length (cond b (row ∷ filter (has_key shape lane k) rows) (filter (has_key shape lane k) rows)) ≡ cond b 1 0 + length
      (filter (has_key shape lane k) rows)) [
        | true ↦ omega arith
        | false ↦ omega arith
      ] in
      omega (arith, left, right, ones, here, one_more row rows ks)

  no_more_than_rows : (ks : List ℕ) → Rise ks → (rows : List RowValue) → rows_of_keys ks rows ≤ length rows
  no_more_than_rows ks rise [] = none ks
    where
      none : (ks : List ℕ) → rows_of_keys ks [] ≤ 0
      none [] = omega arith
      none (k ∷ ks) = let parts = sum_by-cons (λ n. length (filter (has_key shape lane n) [])) k ks in omega (arith, parts, none ks)
  no_more_than_rows ks rise (row ∷ rows) = omega (arith, one_more row rows ks, one_key row ks rise, no_more_than_rows ks rise rows)

  numbers_of : (rows : List RowValue) (ks : List ℕ) → numbers_in (map (group_of shape lane rows) ks) ≡ rows_of_keys ks rows
  numbers_of rows [] = refl
  numbers_of rows (k ∷ ks) =
      let left = sum_by-cons (λ (g : Pair). g.1.count) (group_of shape lane rows k) (map (group_of shape lane rows) ks) in
      let right = sum_by-cons (λ n. length (filter (has_key shape lane n) rows)) k ks in
      let here = length-map (filter (has_key shape lane k) rows) (measure_of shape lane) in
      omega (arith, left, right, here, numbers_of rows ks)

  -- the groups of rows are of no more numbers than there are rows
  pub groups_are_few : (rows : List RowValue) → numbers_in (groups shape lane rows) ≤ length rows
  groups_are_few rows =
      let ks = keys_in shape lane rows in
      let rise = rise_ascending (map (group_key shape lane) (filter (selected_by shape lane) rows)) in
      omega (arith, numbers_of rows ks, no_more_than_rows ks rise rows)

below : (p : ℕ → Bool) (m most a n : ℕ) → m + (a + n) ≤ most → AllByRecursion (λ place. m + place < most) (filter p (range_with_len a n))
below p m most a zero le = tt
below p m most a (suc n) le =
    elim (p a) as (λ b. AllByRecursion (λ place. m + place < most) (cond b (a ∷ filter p (range_with_len (a + 1) n)) (filter p (range_with_len (a + 1) n)))) [
      | true ↦ (omega (arith, le), below p m most (a + 1) n (omega (arith, le)))
      | false ↦ below p m most (a + 1) n (omega (arith, le))
    ]

-- the places in rows behind others can be counted on
places_can : (passes : RowValue → Bool) (xs ys : List RowValue) → length xs + length ys < 2 ^ 32 → All (λ place. length xs + place < 2 ^ 32) (places passes ys)
places_can passes xs ys few =
    All-from_recursion (λ place. length xs + place < 2 ^ 32) (places passes ys)
    (below (λ place. passes (row_at ys place)) (length xs) (2 ^ 32) 0 (length ys) (omega (arith, few)))

taken_few : (f : RowValue → ℕ) (p : RowValue → Bool) (rows : List RowValue) → length (map f (filter p rows)) ≤ length rows
taken_few f p rows = omega (arith, length-map (filter p rows) f, length-filter p rows, count_by-le-length p rows)

totals_can : (f : RowValue → ℕ) (p : RowValue → Bool) (xs ys : List RowValue) → length xs + length ys < 2 ^ 32
    → length (map f (filter p xs)) + length (map f (filter p ys)) < 2 ^ 32
totals_can f p xs ys few = omega (arith, few, taken_few f p xs, taken_few f p ys)

groups_can : (shape : ShapeValue) (lane : ℕ) (xs ys : List RowValue) → length xs + length ys < 2 ^ 32
    → numbers_in (groups shape lane xs ++ groups shape lane ys) < 2 ^ 32
groups_can shape lane xs ys few =
    omega (
      arith,
      few,
      sum_by-append (λ (g : Pair). g.1.count) (groups shape lane xs) (groups shape lane ys),
      groups_are_few shape lane xs,
      groups_are_few shape lane ys,
    )

-- findings in so few rows can be joined
pub findings_can_join : (shape : ShapeValue) (ask : Ask) (xs ys : List RowValue) → length xs + length ys < 2 ^ 32
    → CanJoin (length xs) (finding_in shape ask xs) (finding_in shape ask ys)
findings_can_join shape (asks.List expr) xs ys few = places_can (counts_for shape (asks.List expr)) xs ys few
findings_can_join shape (asks.Find lane low high) xs ys few = places_can (counts_for shape (asks.Find lane low high)) xs ys few
findings_can_join shape (asks.Between lane low high) xs ys few = places_can (counts_for shape (asks.Between lane low high)) xs ys few
findings_can_join shape (asks.Measure lane low high) xs ys few = totals_can (measure_of shape lane) (counts_for shape (asks.Measure lane low high)) xs ys few
findings_can_join shape (asks.Fired trigger) xs ys few = groups_can shape trigger.agg xs ys few
findings_can_join shape (asks.Top lane part n) xs ys few = groups_can shape lane xs ys few
findings_can_join shape (asks.Groups lane) xs ys few = groups_can shape lane xs ys few
findings_can_join shape (asks.Total attr expr) xs ys few = totals_can (λ row. number_at row attr) (holds_of expr) xs ys few
