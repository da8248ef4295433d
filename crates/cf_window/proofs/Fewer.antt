-- A log with other nodes finds the same, and the paths of its rows need as many nodes.
use Rattle.std.proofs.Common.{◌≡◌, ◌∙◌, ℕ, ◌*◌, ◌≤◌, ◌&&◌, ◌==◌, inl, inr, cond, Bool, nat_le, nat_lt, min, List, [], ◌∷◌, ◌++◌, length, length-append, map, filter, fold, Option, Some, None, IfOk, Result, Ok, Err, refl, sym, ap, ap₂, arith, mul-le-mul_right, suc-mul}
use Rattle.std.specs.List.{flat_map, range_with_len}
use Rattle.std.proofs.lemmas.Bool.{cases_Bool, le-leb, leb-false, leb-true, ltb-true}
use Rattle.std.proofs.lemmas.List.Elements.{filter_agree}
use Rattle.std.proofs.lemmas.List.{length-map}
use Rattle.std.specs.declared.alloc.AllocError.{AllocError}
use Rattle.cf_row.specs.Row.{RowValue}
use Rattle.cf_row.specs.declared.row.Entry.{Entry}
use Rattle.cf_row.specs.declared.schema.Attr.{Attr}
use Rattle.cf_row.specs.declared.schema.Kind.{Kind}
use Rattle.cf_row.specs.declared.schema.Kind.TheVariants.{U8, U16, U32, U64, Bytes}
use Rattle.cf_fold.specs.Quads.{quad_of}
use Rattle.cf_shape.specs.Lanes.{ShapeValue, both_keys, by_of, group_key, key_by, key_of, lane_at, measure_of, selected_by}
use Rattle.cf_shape.specs.Nodes.{Node, add_node, distinct, levels_of, nibbles_of_attr, nibbles_of_key, nibbles_of_kind, nodes_for, nodes_in, path_of}
use Rattle.cf_shape.specs.declared.lane.Key.{Key}
use Rattle.cf_shape.specs.declared.lane.Key.TheVariants as keys
use Rattle.cf_plain.specs.Asks.{counts_for, is_between, row_at, rows_in, suits_of}
use Rattle.cf_plain.specs.Groups.{ascending, group_of, groups, has_key, keys_in}
use Rattle.cf_plain.specs.Segments.{finding_in}
use Rattle.cf_plain.specs.declared.ask.Ask.{Ask}
use Rattle.cf_plain.specs.declared.ask.Ask.TheVariants as asks
use Rattle.cf_plain.specs.declared.finding.Finding.{Finding}
use Rattle.cf_plain.specs.declared.finding.Finding.TheVariants as findings
use Rattle.cf_plain.proofs.Totals.{map_agree}
use Rattle.cf_alone.proofs.Nodes.{fold_apart, fold_from, nothing_apart}
use Rattle.cf_alone.proofs.Pigeons.{no_more}
use Rattle.cf_window.specs.Segments.{HasEnough, WindowSegmentValue, most_nodes, with_nodes}
use Rattle.cf_window.specs.Windows.{takes}
use Rattle.cf_window.proofs.Holding.{length_range, path_long}

flat_agree : {X Y : Type 0} (f g : X → List Y) → ((x : X) → f x ≡ g x) → (xs : List X) → flat_map f xs ≡ flat_map g xs
flat_agree f g same [] = refl
flat_agree f g same (x ∷ xs) = ap₂ (λ a b. a ++ b) (same x) (flat_agree f g same xs)

module _ (shape : ShapeValue) (n : ℕ) where
  abbrev few : ShapeValue
  few = with_nodes shape n

  key_by_same : (key : Key) (row : RowValue) → key_by few key row ≡ key_by shape key row
  key_by_same (keys.Attr attr) row = refl
  key_by_same keys.Bucket row = refl
  key_by_same (keys.BucketBy attr) row = refl

  key_same : (lane : ℕ) (row : RowValue) → key_of few lane row ≡ key_of shape lane row
  key_same lane row = key_by_same (lane_at shape lane).key row

  both_same : (lane : ℕ) (row : RowValue) → group_key few lane row ≡ group_key shape lane row
  both_same lane row = ap (λ (k : ℕ). both_keys k (by_of shape lane row)) (key_same lane row)

  keyed_same : (lane low high : ℕ) (row : RowValue)
      → (selected_by few lane row && is_between low high (key_of few lane row)) ≡ (selected_by shape lane row && is_between low high (key_of shape lane row))
  keyed_same lane low high row = ap (λ k. selected_by shape lane row && is_between low high k) (key_same lane row)

  counts_same : (ask : Ask) (row : RowValue) → counts_for few ask row ≡ counts_for shape ask row
  counts_same (asks.List expr) row = refl
  counts_same (asks.Find lane low high) row = keyed_same lane low high row
  counts_same (asks.Between lane low high) row = keyed_same lane low high row
  counts_same (asks.Measure lane low high) row = keyed_same lane low high row
  counts_same (asks.Fired trigger) row = refl
  counts_same (asks.Top lane part count) row = refl
  counts_same (asks.Groups lane) row = refl
  counts_same (asks.Total attr expr) row = refl

  places_same : (ask : Ask) (rows : List RowValue)
      → filter (λ place. counts_for few ask (row_at rows place)) (range_with_len 0 (length rows)) ≡ filter (λ place. counts_for shape ask (row_at rows place))
      (range_with_len 0 (length rows))
  places_same ask rows =
      filter_agree (λ place. counts_for few ask (row_at rows place)) (λ place. counts_for shape ask (row_at rows place))
      (λ place. counts_same ask (row_at rows place)) (range_with_len 0 (length rows))

  keys_same : (lane : ℕ) (rows : List RowValue) → keys_in few lane rows ≡ keys_in shape lane rows
  keys_same lane rows = ap ascending (map_agree (group_key few lane) (group_key shape lane) (both_same lane) (filter (selected_by shape lane) rows))

  group_same : (lane : ℕ) (rows : List RowValue) (k : ℕ) → group_of few lane rows k ≡ group_of shape lane rows k
  group_same lane rows k =
      ap (λ (picked : List RowValue). (k, quad_of (map (measure_of shape lane) picked)))
      (filter_agree (has_key few lane k) (has_key shape lane k) (λ row. ap (λ key. selected_by shape lane row && (key == k)) (both_same lane row)) rows)

  groups_same : (lane : ℕ) (rows : List RowValue) → groups few lane rows ≡ groups shape lane rows
  groups_same lane rows =
      ap (map (group_of few lane rows)) (keys_same lane rows)
      ∙ map_agree (group_of few lane rows) (group_of shape lane rows) (group_same lane rows) (keys_in shape lane rows)

  pub finding_same : (ask : Ask) (rows : List RowValue) → finding_in few ask rows ≡ finding_in shape ask rows
  finding_same (asks.List expr) rows = refl
  finding_same (asks.Find lane low high) rows = ap (λ (ps : List ℕ). findings.Places ps) (places_same (asks.Find lane low high) rows)
  finding_same (asks.Between lane low high) rows = ap (λ (ps : List ℕ). findings.Places ps) (places_same (asks.Between lane low high) rows)
  finding_same (asks.Measure lane low high) rows =
      ap (λ (picked : List RowValue). findings.Total (quad_of (map (measure_of shape lane) picked)))
      (filter_agree (counts_for few (asks.Measure lane low high)) (counts_for shape (asks.Measure lane low high))
      (counts_same (asks.Measure lane low high)) rows)
  finding_same (asks.Fired trigger) rows = ap (λ gs. findings.Groups gs) (groups_same trigger.agg rows)
  finding_same (asks.Top lane part count) rows = ap (λ gs. findings.Groups gs) (groups_same lane rows)
  finding_same (asks.Groups lane) rows = ap (λ gs. findings.Groups gs) (groups_same lane rows)
  finding_same (asks.Total attr expr) rows = refl

  pub suits_same : (ask : Ask) → suits_of few ask ≡ suits_of shape ask
  suits_same (asks.List expr) = refl
  suits_same (asks.Find lane low high) = refl
  suits_same (asks.Between lane low high) = refl
  suits_same (asks.Measure lane low high) = refl
  suits_same (asks.Fired trigger) = refl
  suits_same (asks.Top lane part count) = refl
  suits_same (asks.Groups lane) = refl
  suits_same (asks.Total attr expr) = refl

  lane_nodes_same : (row : RowValue) (lane : ℕ) → nodes_in few row lane ≡ nodes_in shape row lane
  lane_nodes_same row lane =
      ap (λ (k : ℕ). cond {A = List Node} (selected_by shape lane row) (path_of lane (levels_of shape lane) k) []) (key_same lane row)

  row_nodes_same : (row : RowValue) → nodes_for few row ≡ nodes_for shape row
  row_nodes_same row = flat_agree (nodes_in few row) (nodes_in shape row) (lane_nodes_same row) (range_with_len 0 (length shape.lanes))

  pub distinct_same : (rows : List RowValue) → distinct few rows ≡ distinct shape rows
  distinct_same rows =
      ap (λ (ns : List Node). length (fold add_node [] ns)) (flat_agree (nodes_for few) (nodes_for shape) row_nodes_same rows)

-- a key has at most 16 nibbles
kind_few : (kind : Kind) → nibbles_of_kind kind ≤ 16
kind_few U8 = omega arith
kind_few U16 = omega arith
kind_few U32 = omega arith
kind_few U64 = omega arith
kind_few (Bytes k) = omega arith

attr_few : (attr : Option Attr) → nibbles_of_attr attr ≤ 16
attr_few None = omega arith
attr_few (Some attr) = kind_few attr.kind

key_few : (attrs : List Attr) (key : Key) → nibbles_of_key attrs key ≤ 16
key_few attrs (keys.Attr attr) = attr_few _
key_few attrs keys.Bucket = omega arith
key_few attrs (keys.BucketBy attr) = omega arith

flat_few : {X Y : Type 0} (f : X → List Y) (n : ℕ) → ((x : X) → length (f x) ≤ n) → (xs : List X) → length (flat_map f xs) ≤ length xs * n
flat_few f n few [] = omega arith
flat_few f n few (x ∷ xs) =
    let one = few x in
    let more = flat_few f n few xs in
    omega (arith, one, more, length-append (f x) (flat_map f xs), suc-mul (length xs) n)

module _ (shape : ShapeValue) where
  lane_few : (row : RowValue) (lane : ℕ) → length (nodes_in shape row lane) ≤ 15
  lane_few row lane =
      let path : List Node = path_of lane (levels_of shape lane) (key_of shape lane row) in
      let long = path_long lane (levels_of shape lane) (key_of shape lane row) in
      let few = key_few shape.schema (lane_at shape lane).key in
      elim (cases_Bool (selected_by shape lane row)) [
        | inl is ↦
            let all : nodes_in shape row lane ≡ path = ap (λ (b : Bool). cond {A = List Node} b path []) is in
            let same = ap (λ (ns : List Node). length ns) all in
            omega (arith, same, long, few)
        | inr out ↦
            let none : nodes_in shape row lane ≡ [] = ap (λ (b : Bool). cond {A = List Node} b path []) out in
            let same = ap (λ (ns : List Node). length ns) none in
            omega (arith, same)
      ]

  row_few : (row : RowValue) → length (nodes_for shape row) ≤ most_nodes shape
  row_few row =
      let few = flat_few (nodes_in shape row) 15 (lane_few row) (range_with_len 0 (length shape.lanes)) in
      let long = length_range 0 (length shape.lanes) in
      let same = ap (λ n. n * 15) long in
      omega (arith, few, same)

  -- rows need no more different nodes than their paths have at most
  pub distinct_few : (rows : List RowValue) → distinct shape rows ≤ length rows * most_nodes shape
  distinct_few rows =
      let xs : List Node = flat_map (nodes_for shape) rows in
      let few = no_more (fold add_node [] xs) xs (fold_apart xs [] nothing_apart) (λ i x at. elim (fold_from xs [] x (i, at)) [
        | inl none ↦ absurd (cc none.1)
        | inr has ↦ has
      ]) in
      let all = flat_few (nodes_for shape) (most_nodes shape) row_few rows in
      omega (arith, few, all)

nodes_suffice : (log : ShapeValue) (nodes : ℕ) → HasEnough log nodes → (rows : List RowValue) → length rows ≤ log.capacity
    → nat_le (distinct log rows) log.nodes ≡ nat_le (distinct (with_nodes log nodes) rows) nodes
nodes_suffice log nodes has rows few = elim has.enough [
  | inl same ↦ ap₂ (λ (a b : ℕ). nat_le a b) (sym (distinct_same log nodes rows)) same
  | inr room ↦
      let most = mul-le-mul_right (most_nodes log) few in
      let all = distinct_few log rows in
      let equal = distinct_same log nodes rows in
      let fewer = has.fewer in
      le-leb (distinct log rows) log.nodes (omega (arith, all, most, room))
      ∙ sym (le-leb (distinct (with_nodes log nodes) rows) nodes (omega (arith, all, most, room, equal, fewer)))
]

-- so the log takes the same rows as one with all nodes
pub takes_same : (log : ShapeValue) (nodes : ℕ) → HasEnough log nodes → (rows : List RowValue) (row : RowValue)
    → takes log rows row ≡ takes (with_nodes log nodes) rows row
takes_same log nodes has rows row = elim (cases_Bool (nat_lt (length rows) log.capacity)) [
  | inl low ↦
      let less = ltb-true (length rows) log.capacity low in
      let long = length-append rows (row ∷ []) in
      ap (λ (b : Bool). nat_lt (length rows) log.capacity && b) (nodes_suffice log nodes has (rows ++ row ∷ []) (omega (arith, less, long)))
  | inr high ↦ ap (λ (b : Bool). b && nat_le (distinct log (rows ++ row ∷ [])) log.nodes) high
      ∙ sym (ap (λ (b : Bool). b && nat_le (distinct (with_nodes log nodes) (rows ++ row ∷ [])) nodes) high)
]

-- and its questions find the same
pub found_same : (log : ShapeValue) (nodes : ℕ) (question : Ask) (seen : List Entry) (is_spent : Bool) (s : WindowSegmentValue)
    (r : Result (ℕ × Finding) AllocError) → IfOk r (λ a. (a.0 ≡ length seen) × (a.1 ≡ finding_in log question (rows_in seen)))
    → record { shape = with_nodes log nodes; rows = rows_in seen; is_spent = is_spent } ≡ s
    → IfOk r (λ a. (a.0 ≡ length s.rows) × (a.1 ≡ finding_in s.shape question s.rows))
found_same log nodes question seen is_spent s (Ok a) ok same = (
  ok.0 ∙ (sym (length-map seen (λ (e : Entry). e.row)) ∙ ap (λ (v : WindowSegmentValue). length v.rows) same),
  ok.1 ∙ (sym (finding_same log nodes question (rows_in seen)) ∙ ap (λ (v : WindowSegmentValue). finding_in v.shape question v.rows) same),
)
found_same log nodes question seen is_spent s (Err e) ok same = tt

-- as many nodes as there may be, or as many as are needed
pub enough_of : (log : ShapeValue) (nodes : ℕ) → log.nodes ≡ min nodes (log.capacity * most_nodes log) → HasEnough log nodes
enough_of log nodes is = elim (cases_Bool (nat_le nodes (log.capacity * most_nodes log))) [
  | inl low ↦ let le = leb-true nodes (log.capacity * most_nodes log) low in
      record { fewer = omega (arith, is, le); enough = inl (omega (arith, is, le)) }
  | inr high ↦ let gt = leb-false nodes (log.capacity * most_nodes log) high in
      record { fewer = omega (arith, is, gt); enough = inr (omega (arith, is, gt)) }
]
