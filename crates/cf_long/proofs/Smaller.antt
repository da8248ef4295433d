-- A log with fewer nodes finds the same, and the paths of its rows need as many nodes.
use Rattle.std.proofs.Common.{◌≡◌, ◌∙◌, ℕ, ◌*◌, ◌<◌, ◌≤◌, ◌&&◌, ◌==◌, cond, MatchResult, Result, Ok, Err, List, [], ◌∷◌, ◌++◌, length, map, filter, fold, slice_index_or, refl, sym, ap, ap₂, subst, arith, mul-le-mul_left}
use Rattle.std.specs.List.{flat_map, range_with_len}
use Rattle.std.proofs.lemmas.List.Elements.{filter_agree}
use Rattle.cf_row.specs.Row.{RowValue}
use Rattle.cf_fold.specs.Quads.{quad_of}
use Rattle.cf_fold.specs.declared.trigger.Trigger.{Trigger}
use Rattle.cf_shape.specs.Lanes.{ShapeValue, both_keys, by_of, group_key, key_by, key_of, lane_at, measure_of, selected_by}
use Rattle.cf_shape.specs.Nodes.{Node, add_node, distinct, levels_of, nodes_for, nodes_in, path_of}
use Rattle.cf_shape.specs.declared.lane.Key.{Key}
use Rattle.cf_shape.specs.declared.lane.Key.TheVariants as keys
use Rattle.cf_plain.specs.Asks.{counts_for, is_between, row_at, suits_of}
use Rattle.cf_plain.specs.Groups.{ascending, group_of, groups, has_key, keys_in}
use Rattle.cf_plain.specs.Segments.{finding_in}
use Rattle.cf_plain.specs.declared.ask.Ask.{Ask}
use Rattle.cf_plain.specs.declared.ask.Ask.TheVariants as asks
use Rattle.cf_plain.specs.declared.finding.Finding.{Finding}
use Rattle.cf_plain.specs.declared.finding.Finding.TheVariants as findings
use Rattle.cf_plain.proofs.Totals.{map_agree}
use Rattle.cf_segments.specs.Blocks.{block}
use Rattle.cf_load.specs.Planned.{IsPlan, IsSamePlan, asks_of}
use Rattle.cf_load.specs.declared.plan.LivePlan.{LivePlan}
use Rattle.cf_fill.specs.Logs.{IsUnmade}
use Rattle.cf_fill.specs.declared.log.Unmade.{Unmade}
use Rattle.cf_long.specs.Found.{found_in}
use Rattle.cf_long.specs.Growing.{IsSmaller, with_nodes}
use Rattle.cf_long.specs.Longs.{IsLetGo}

flat_agree : {X Y : Type 0} (f g : X → List Y) → ((x : X) → f x ≡ g x) → (xs : List X) → flat_map f xs ≡ flat_map g xs
flat_agree f g same [] = refl
flat_agree f g same (x ∷ xs) = ap₂ (λ a b. a ++ b) (same x) (flat_agree f g same xs)

-- plans that ask the same
pub same_asks : (plan other : LivePlan) → IsSamePlan plan other → asks_of other ≡ asks_of plan
same_asks plan other same =
    ap₂ (λ (qs : List Ask) (ts : List Trigger). qs ++ map (λ (t : Trigger). asks.Fired t) ts) same.asks same.triggers

module _ (shape : ShapeValue) (n : ℕ) where
  abbrev few : ShapeValue
  few = with_nodes shape n

  key_by_same : (key : Key) (row : RowValue) → key_by few key row ≡ key_by shape key row
  key_by_same (keys.Attr attr) row = refl
  key_by_same keys.Bucket row = refl
  key_by_same (keys.BucketBy attr) row = refl

  key_same : (lane : ℕ) (row : RowValue) → key_of few lane row ≡ key_of shape lane row
  key_same lane row = key_by_same (lane_at shape lane).key row

  both_same : (lane : ℕ) (row : RowValue) → group_key few lane row ≡ group_key shape lane row
  both_same lane row = ap (λ (k : ℕ). both_keys k (by_of shape lane row)) (key_same lane row)

  keyed_same : (lane low high : ℕ) (row : RowValue)
      → (selected_by few lane row && is_between low high (key_of few lane row)) ≡ (selected_by shape lane row && is_between low high (key_of shape lane row))
  keyed_same lane low high row = ap (λ k. selected_by shape lane row && is_between low high k) (key_same lane row)

  counts_same : (ask : Ask) (row : RowValue) → counts_for few ask row ≡ counts_for shape ask row
  counts_same (asks.List expr) row = refl
  counts_same (asks.Find lane low high) row = keyed_same lane low high row
  counts_same (asks.Between lane low high) row = keyed_same lane low high row
  counts_same (asks.Measure lane low high) row = keyed_same lane low high row
  counts_same (asks.Fired trigger) row = refl
  counts_same (asks.Top lane part count) row = refl
  counts_same (asks.Groups lane) row = refl
  counts_same (asks.Total attr expr) row = refl

  places_same : (ask : Ask) (rows : List RowValue)
      → filter (λ place. counts_for few ask (row_at rows place)) (range_with_len 0 (length rows)) ≡ filter (λ place. counts_for shape ask (row_at rows place))
      (range_with_len 0 (length rows))
  places_same ask rows =
      filter_agree (λ place. counts_for few ask (row_at rows place)) (λ place. counts_for shape ask (row_at rows place))
      (λ place. counts_same ask (row_at rows place)) (range_with_len 0 (length rows))

  keys_same : (lane : ℕ) (rows : List RowValue) → keys_in few lane rows ≡ keys_in shape lane rows
  keys_same lane rows = ap ascending (map_agree (group_key few lane) (group_key shape lane) (both_same lane) (filter (selected_by shape lane) rows))

  group_same : (lane : ℕ) (rows : List RowValue) (k : ℕ) → group_of few lane rows k ≡ group_of shape lane rows k
  group_same lane rows k =
      ap (λ (picked : List RowValue). (k, quad_of (map (measure_of shape lane) picked)))
      (filter_agree (has_key few lane k) (has_key shape lane k) (λ row. ap (λ key. selected_by shape lane row && (key == k)) (both_same lane row)) rows)

  groups_same : (lane : ℕ) (rows : List RowValue) → groups few lane rows ≡ groups shape lane rows
  groups_same lane rows =
      ap (map (group_of few lane rows)) (keys_same lane rows)
      ∙ map_agree (group_of few lane rows) (group_of shape lane rows) (group_same lane rows) (keys_in shape lane rows)

  finding_same : (ask : Ask) (rows : List RowValue) → finding_in few ask rows ≡ finding_in shape ask rows
  finding_same (asks.List expr) rows = refl
  finding_same (asks.Find lane low high) rows = ap (λ (ps : List ℕ). findings.Places ps) (places_same (asks.Find lane low high) rows)
  finding_same (asks.Between lane low high) rows = ap (λ (ps : List ℕ). findings.Places ps) (places_same (asks.Between lane low high) rows)
  finding_same (asks.Measure lane low high) rows =
      ap (λ (picked : List RowValue). findings.Total (quad_of (map (measure_of shape lane) picked)))
      (filter_agree (counts_for few (asks.Measure lane low high)) (counts_for shape (asks.Measure lane low high))
      (counts_same (asks.Measure lane low high)) rows)
  finding_same (asks.Fired trigger) rows = ap (λ gs. findings.Groups gs) (groups_same trigger.agg rows)
  finding_same (asks.Top lane part count) rows = ap (λ gs. findings.Groups gs) (groups_same lane rows)
  finding_same (asks.Groups lane) rows = ap (λ gs. findings.Groups gs) (groups_same lane rows)
  finding_same (asks.Total attr expr) rows = refl

  pub found_same : (questions : List Ask) (rows : List RowValue) → found_in few questions rows ≡ found_in shape questions rows
  found_same questions rows = map_agree (λ (ask : Ask). finding_in few ask rows) (λ (ask : Ask). finding_in shape ask rows) (λ ask. finding_same ask rows) questions

  suits_same : (ask : Ask) → suits_of few ask ≡ suits_of shape ask
  suits_same (asks.List expr) = refl
  suits_same (asks.Find lane low high) = refl
  suits_same (asks.Between lane low high) = refl
  suits_same (asks.Measure lane low high) = refl
  suits_same (asks.Fired trigger) = refl
  suits_same (asks.Top lane part count) = refl
  suits_same (asks.Groups lane) = refl
  suits_same (asks.Total attr expr) = refl

  pub plan_same : (plan : LivePlan) → IsPlan shape plan → IsPlan few plan
  plan_same plan is = record {
    asks = λ k d low. suits_same (slice_index_or plan.asks.items k d) ∙ is.asks k d low;
    triggers = is.triggers;
    lives = is.lives;
  }

  lane_nodes_same : (row : RowValue) (lane : ℕ) → nodes_in few row lane ≡ nodes_in shape row lane
  lane_nodes_same row lane =
      ap (λ (k : ℕ). cond {A = List Node} (selected_by shape lane row) (path_of lane (levels_of shape lane) k) []) (key_same lane row)

  row_nodes_same : (row : RowValue) → nodes_for few row ≡ nodes_for shape row
  row_nodes_same row = flat_agree (nodes_in few row) (nodes_in shape row) (lane_nodes_same row) (range_with_len 0 (length shape.lanes))

  pub distinct_same : (rows : List RowValue) → distinct few rows ≡ distinct shape rows
  distinct_same rows =
      ap (λ (ns : List Node). length (fold add_node [] ns)) (flat_agree (nodes_for few) (nodes_for shape) row_nodes_same rows)

-- what was let go with few nodes tells the same of the shape with more
pub let_go_more : (shape small : ShapeValue) (plan other : LivePlan) (rows : List RowValue) (found : List Finding) → IsSmaller shape small → IsSamePlan plan other
    → IsLetGo small other rows found → IsLetGo shape plan rows found
let_go_more shape small plan other rows found less same is =
    let n = small.nodes in
    let at : IsLetGo (with_nodes shape n) other rows found = subst (λ (h : ShapeValue). IsLetGo h other rows found) less.same is in
    let fewer = less.fewer in
    let most : shape.writers * n ≤ shape.writers * shape.nodes = mul-le-mul_left shape.writers fewer in
    record {
      found_are = at.found_are
          ∙ (ap (λ (qs : List Ask). found_in (with_nodes shape n) qs rows) (same_asks plan other same) ∙ found_same shape n (asks_of plan) rows);
      nodes = λ k.
          let part = block shape.capacity k rows in
          let low = at.nodes k in
          let is_same = distinct_same shape n part in
          omega (arith, low, is_same, most);
    }

-- the second shape is the first one if it has no fewer nodes
pub all_nodes_same : (shape small : ShapeValue) → IsSmaller shape small → (small.nodes < shape.nodes → ⊥) → small ≡ shape
all_nodes_same shape small less none =
    let fewer = less.fewer in
    let most : (small.nodes < shape.nodes → ⊥) → small.nodes ≡ shape.nodes = λ no. omega (arith, fewer, no) in
    less.same ∙ ap (λ (k : ℕ). with_nodes shape k) (most none)

-- what is asked suits the smaller shape too
pub plan_smaller : (shape small : ShapeValue) (plan : LivePlan) → IsSmaller shape small → IsPlan shape plan → IsPlan small plan
plan_smaller shape small plan less is = subst (λ (h : ShapeValue). IsPlan h plan) (sym less.same) (plan_same shape small.nodes plan is)

-- what came of letting go a log, by a plan that asks the same
pub let_go_as : {T : Type 0} (items : T → List Finding) (shape : ShapeValue) (plan other : LivePlan) (h : ShapeValue) (rows : List RowValue)
    (result : Result T Unmade) → h ≡ shape → IsSamePlan plan other → MatchResult result (λ t. IsLetGo h other rows (items t)) (IsUnmade h rows)
    → MatchResult result (λ t. IsLetGo shape plan rows (items t)) (IsUnmade shape rows)
let_go_as items shape plan other h rows (Ok t) same plans is =
    let at : IsLetGo shape other rows (items t) = subst (λ (g : ShapeValue). IsLetGo g other rows (items t)) same is in
    record { found_are = at.found_are ∙ ap (λ (qs : List Ask). found_in shape qs rows) (same_asks plan other plans); nodes = at.nodes }
let_go_as items shape plan other h rows (Err why) same plans is = subst (λ (g : ShapeValue). IsUnmade g rows why) same is
