-- What questions find and answer, and triggers mark, is the same on what is kept.
use Rattle.std.proofs.Common.{◌≡◌, ◌∙◌, ℕ, Bool, true, ◌&&◌, not, nat_le, nat_lt, List, get_or, map, filter, Option, Some, None, refl, ap, ap₂, sym, ◌==◌}
use Rattle.std.specs.Option.{is_some}
use Rattle.std.specs.List.{range_with_len}
use Rattle.std.proofs.lemmas.List.{length-map}
use mathlib.Core.Path.{fun_ext}
use Rattle.cf_row.specs.Row.{RowValue}
use Rattle.cf_row.specs.Expr.{holds_of, is_range}
use Rattle.cf_row.specs.Times.{number_at}
use Rattle.cf_row.specs.declared.expr.Atom.{Atom}
use Rattle.cf_row.specs.declared.row.Value.{Value}
use Rattle.cf_fold.specs.Quads.{QuadValue, quad_of}
use Rattle.cf_fold.specs.declared.trigger.Trigger.{Trigger}
use Rattle.cf_shape.specs.Lanes.{IsShape, ShapeValue, group_key, lane_at, measure_of, selected_by}
use Rattle.cf_shape.specs.declared.lane.Lane.{Lane}
use Rattle.cf_shape.specs.declared.lane.Key.{Key}
use Rattle.cf_shape.specs.declared.lane.Key.TheVariants as keys
use Rattle.cf_plain.specs.Asks.{eval_rows, exists, is_aggregate, is_attr, is_between, is_bucketed, is_indexed, is_keyed_between, is_measuring, is_tally, marks_in, marks_over, no_row, places, row_at, suits_of, suits_trigger, total_over}
use Rattle.cf_plain.specs.Groups.{ascending, group_of, groups, has_key, keys_in}
use Rattle.cf_plain.specs.Segments.{finding_in}
use Rattle.cf_plain.specs.Tops.{top}
use Rattle.cf_plain.specs.Totals.{total}
use Rattle.cf_plain.specs.declared.ask.Ask.{Ask}
use Rattle.cf_plain.specs.declared.ask.Ask.TheVariants as asks
use Rattle.cf_plain.specs.declared.answer.Body.TheVariants as bodies
use Rattle.cf_plain.specs.declared.finding.Finding.TheVariants as findings
use Rattle.cf_row.proofs.Truths.{both}
use Rattle.cf_project.specs.Keeping.{is_kept, new_place}
use Rattle.cf_project.specs.Laws.{IsAskAlike}
use Rattle.cf_project.specs.Named.{KeepsShape, keeps_ask, keeps_expr}
use Rattle.cf_project.specs.Projected.{ask_kept, expr_kept, key_kept, lane_kept, measure_kept, row_kept, shape_kept}
use Rattle.cf_project.proofs.Keeping.{keep_none, map_at, through}
use Rattle.cf_project.proofs.Meant.{group_key_same, holds_same, key_same, lane_same, measure_same, number_same, of_schema_same, passes_same, selects_same}

-- a row of no values
abbrev row_with : List Value → RowValue
row_with values = record { num = 0; values = values }

none_kept : (kept : List Bool) → row_kept kept no_row ≡ no_row
none_kept kept = ap row_with (keep_none kept)

attr_same : (kept : List Bool) (key : Key) → is_attr (key_kept kept key) ≡ is_attr key
attr_same kept (keys.Attr attr) = refl
attr_same kept keys.Bucket = refl
attr_same kept (keys.BucketBy attr) = refl

some_same : (kept : List Bool) (measure : Option ℕ) → is_some (measure_kept kept measure) ≡ is_some measure
some_same kept None = refl
some_same kept (Some attr) = refl

module _ (kept : List Bool) (shape : ShapeValue) (keeps : KeepsShape kept shape) (lawful : IsShape shape) where
  abbrev less : ShapeValue
  less = shape_kept kept shape

  exists_same : (lane : ℕ) → exists less lane ≡ exists shape lane
  exists_same lane = ap (λ (n : ℕ). nat_lt lane n) (length-map shape.lanes (lane_kept kept))

  is_attr_same : (lane : ℕ) → is_attr (lane_at less lane).key ≡ is_attr (lane_at shape lane).key
  is_attr_same lane = ap (λ (l : Lane). is_attr l.key) (lane_same kept shape keeps lawful lane) ∙ attr_same kept (lane_at shape lane).key

  is_some_same : (lane : ℕ) → is_some (lane_at less lane).measure ≡ is_some (lane_at shape lane).measure
  is_some_same lane = ap (λ (l : Lane). is_some l.measure) (lane_same kept shape keeps lawful lane) ∙ some_same kept (lane_at shape lane).measure

  indexed_same : (lane : ℕ) → is_indexed less lane ≡ is_indexed shape lane
  indexed_same lane = ap₂ (λ (a b : Bool). a && b) (exists_same lane) (is_attr_same lane)

  bucketed_same : (lane : ℕ) → is_bucketed less lane ≡ is_bucketed shape lane
  bucketed_same lane = ap₂ (λ (a b : Bool). a && not b) (exists_same lane) (is_attr_same lane)

  aggregate_same : (lane : ℕ) → is_aggregate less lane ≡ is_aggregate shape lane
  aggregate_same lane = ap₂ (λ (a b : Bool). a && b) (bucketed_same lane) (is_some_same lane)

  tally_same : (lane : ℕ) → is_tally less lane ≡ is_tally shape lane
  tally_same lane = ap₂ (λ (a b : Bool). a && b) (indexed_same lane) (is_some_same lane)

  measuring_same : (lane : ℕ) → is_measuring less lane ≡ is_measuring shape lane
  measuring_same lane = ap₂ (λ (a b : Bool). a && b) (exists_same lane) (is_some_same lane)

  pub watches_same : (trigger : Trigger) → suits_trigger less trigger ≡ suits_trigger shape trigger
  watches_same trigger = ap (λ (b : Bool). b && not (is_range trigger.op)) (aggregate_same trigger.agg)

  -- a question suits alike
  pub suits_same : (ask : Ask) → keeps_ask kept ask ≡ true → suits_of less (ask_kept kept ask) ≡ suits_of shape ask
  suits_same (asks.List expr) is = of_schema_same kept shape.schema expr is
  suits_same (asks.Find lane low high) is = indexed_same lane
  suits_same (asks.Between lane low high) is = bucketed_same lane
  suits_same (asks.Measure lane low high) is = aggregate_same lane
  suits_same (asks.Fired trigger) is = watches_same trigger
  suits_same (asks.Top lane part n) is = ap (λ (b : Bool). (b && nat_le 1 n) && nat_le n 1000) (tally_same lane)
  suits_same (asks.Groups lane) is = measuring_same lane
  suits_same (asks.Total attr expr) is =
      let parts = both (is_kept kept attr) (keeps_expr kept expr) is in
      ap₂ (λ (a b : Bool). a && b) (of_schema_same kept shape.schema expr parts.1) (passes_same kept shape.schema attr parts.0)

  module _ (rows : List RowValue) where
    abbrev left : List RowValue
    left = map (row_kept kept) rows

    row_at_same : (place : ℕ) → row_at left place ≡ row_kept kept (row_at rows place)
    row_at_same place =
        let none : row_kept kept no_row ≡ no_row = none_kept kept in
        ap (λ (d : RowValue). get_or left place d) (sym none) ∙ map_at (row_kept kept) rows place no_row

    places_same : (p q : RowValue → Bool) → ((row : RowValue) → q (row_kept kept row) ≡ p row) → places q left ≡ places p rows
    places_same p q same =
        ap₂ (λ (f : ℕ → Bool) (n : ℕ). filter f (range_with_len 0 n)) (fun_ext (λ place. ap q (row_at_same place) ∙ same (row_at rows place)))
        (length-map rows (row_kept kept))

    keyed_same : (lane low high : ℕ) (row : RowValue) → is_keyed_between less lane low high (row_kept kept row) ≡ is_keyed_between shape lane low high row
    keyed_same lane low high row =
        ap₂ (λ (b : Bool) (k : ℕ). b && is_between low high k) (selects_same kept shape keeps lawful lane row) (key_same kept shape keeps lawful lane row)

    measured_same : (lane : ℕ) (p q : RowValue → Bool) → ((row : RowValue) → q (row_kept kept row) ≡ p row)
        → quad_of (map (measure_of less lane) (filter q left)) ≡ quad_of (map (measure_of shape lane) (filter p rows))
    measured_same lane p q same =
        ap quad_of (through (row_kept kept) (measure_of shape lane) (measure_of less lane) p q (measure_same kept shape keeps lawful lane) same rows)

    keys_same : (lane : ℕ) → keys_in less lane left ≡ keys_in shape lane rows
    keys_same lane =
        ap ascending (through (row_kept kept) (group_key shape lane) (group_key less lane) (selected_by shape lane) (selected_by less lane)
        (group_key_same kept shape keeps lawful lane) (selects_same kept shape keeps lawful lane) rows)

    has_key_same : (lane k : ℕ) (row : RowValue) → has_key less lane k (row_kept kept row) ≡ has_key shape lane k row
    has_key_same lane k row =
        ap₂ (λ (b : Bool) (n : ℕ). b && (n == k)) (selects_same kept shape keeps lawful lane row) (group_key_same kept shape keeps lawful lane row)

    group_same : (lane k : ℕ) → group_of less lane left k ≡ group_of shape lane rows k
    group_same lane k =
        ap (λ (q : QuadValue). (k, q)) (measured_same lane (has_key shape lane k) (has_key less lane k) (has_key_same lane k))

    pub groups_same : (lane : ℕ) → groups less lane left ≡ groups shape lane rows
    groups_same lane =
        ap₂ (λ (f : ℕ → ℕ × QuadValue) (ks : List ℕ). map f ks) (fun_ext (group_same lane)) (keys_same lane)

    pub marks_same : (trigger : Trigger) → marks_over less trigger left ≡ marks_over shape trigger rows
    marks_same trigger = ap (marks_in trigger) (groups_same trigger.agg)

    total_same : (attr : ℕ) (expr : List (List Atom)) → is_kept kept attr ≡ true → keeps_expr kept expr ≡ true
        → total (new_place kept attr) (expr_kept kept expr) left ≡ total attr expr rows
    total_same attr expr named is =
        ap quad_of (through (row_kept kept) (λ row. number_at row attr) (λ row. number_at row (new_place kept attr)) (holds_of expr) (holds_of (expr_kept kept expr))
        (λ row. number_same kept row attr named) (λ row. holds_same kept row expr is) rows)

    listed_same : (expr : List (List Atom)) → keeps_expr kept expr ≡ true → places (holds_of (expr_kept kept expr)) left ≡ places (holds_of expr) rows
    listed_same expr is = places_same (holds_of expr) (holds_of (expr_kept kept expr)) (λ row. holds_same kept row expr is)

    found_same : (lane low high : ℕ) → places (is_keyed_between less lane low high) left ≡ places (is_keyed_between shape lane low high) rows
    found_same lane low high = places_same (is_keyed_between shape lane low high) (is_keyed_between less lane low high) (keyed_same lane low high)

    over_same : (lane low high : ℕ) → total_over less lane (is_keyed_between less lane low high) left ≡ total_over shape lane (is_keyed_between shape lane low high) rows
    over_same lane low high = measured_same lane (is_keyed_between shape lane low high) (is_keyed_between less lane low high) (keyed_same lane low high)

    pub finds_same : (ask : Ask) → keeps_ask kept ask ≡ true → finding_in less (ask_kept kept ask) left ≡ finding_in shape ask rows
    finds_same (asks.List expr) is = ap (λ (ps : List ℕ). findings.Places ps) (listed_same expr is)
    finds_same (asks.Find lane low high) is = ap (λ (ps : List ℕ). findings.Places ps) (found_same lane low high)
    finds_same (asks.Between lane low high) is = ap (λ (ps : List ℕ). findings.Places ps) (found_same lane low high)
    finds_same (asks.Measure lane low high) is = ap (λ q. findings.Total q) (over_same lane low high)
    finds_same (asks.Fired trigger) is = ap (λ gs. findings.Groups gs) (groups_same trigger.agg)
    finds_same (asks.Top lane part n) is = ap (λ gs. findings.Groups gs) (groups_same lane)
    finds_same (asks.Groups lane) is = ap (λ gs. findings.Groups gs) (groups_same lane)
    finds_same (asks.Total attr expr) is =
        let parts = both (is_kept kept attr) (keeps_expr kept expr) is in ap (λ q. findings.Total q) (total_same attr expr parts.0 parts.1)

    pub answers_same : (ask : Ask) → keeps_ask kept ask ≡ true → eval_rows less (ask_kept kept ask) left ≡ eval_rows shape ask rows
    answers_same (asks.List expr) is = ap (λ (ps : List ℕ). bodies.Places ps) (listed_same expr is)
    answers_same (asks.Find lane low high) is = ap (λ (ps : List ℕ). bodies.Places ps) (found_same lane low high)
    answers_same (asks.Between lane low high) is = ap (λ (ps : List ℕ). bodies.Places ps) (found_same lane low high)
    answers_same (asks.Measure lane low high) is = ap (λ q. bodies.Total q) (over_same lane low high)
    answers_same (asks.Fired trigger) is = ap (λ ms. bodies.Marks ms) (marks_same trigger)
    answers_same (asks.Top lane part n) is = ap (λ gs. bodies.Tops (top part n gs)) (groups_same lane)
    answers_same (asks.Groups lane) is = ap (λ gs. bodies.Groups gs) (groups_same lane)
    answers_same (asks.Total attr expr) is =
        let parts = both (is_kept kept attr) (keeps_expr kept expr) is in ap (λ q. bodies.Total q) (total_same attr expr parts.0 parts.1)

    pub ask_alike : (ask : Ask) → keeps_ask kept ask ≡ true → IsAskAlike kept shape ask rows
    ask_alike ask is = record { suits = λ suits. suits_same ask is ∙ suits; finds = finds_same ask is; answers = answers_same ask is }
