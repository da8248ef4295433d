-- An expression, a lane and the nodes of rows mean the same on what is kept.
use Rattle.std.proofs.Common.{◌≡◌, ◌∙◌, ℕ, ◌+◌, ◌/◌, ◌≤◌, Bool, true, ◌&&◌, ◌||◌, nat_le, cond, List, [], ◌∷◌, ◌++◌, length, map, slice_get, Option, Some, None, refl, ap, ap₂, sym, subst}
use Rattle.std.specs.List.{list_all, flat_map, fold, range_with_len}
use Rattle.std.proofs.lemmas.List.{length-map}
use mathlib.Core.Path.{fun_ext}
use Rattle.cf_row.specs.declared.schema.Attr.{Attr}
use Rattle.cf_row.specs.declared.expr.Atom.{Atom}
use Rattle.cf_row.specs.declared.row.Value.TheVariants.{Num}
use Rattle.cf_row.specs.declared.row.Value.{Value}
use Rattle.cf_row.specs.Row.{RowValue, value_at}
use Rattle.cf_row.specs.Expr.{atom_count, atom_holds, atom_suits, atom_suits_attr, holds_of, is_of_schema, is_true_of, number_of}
use Rattle.cf_row.specs.Schema.{ts_place}
use Rattle.cf_row.specs.Times.{number_at, time_of}
use Rattle.cf_shape.specs.Lanes.{IsShape, ShapeValue, by_in, by_of, group_key, both_keys, is_lawful_key, is_lawful_lane, is_lawful_measure, is_narrow, is_number, key_by, key_of, lane_at, measure_by, measure_of, no_lane, option_passes, selected_by}
use Rattle.cf_shape.specs.Nodes.{Node, add_node, distinct, levels_of, nibbles_of_attr, nibbles_of_key, nodes_for, nodes_in, path_of}
use Rattle.cf_shape.specs.declared.lane.Lane.{Lane}
use Rattle.cf_shape.specs.declared.lane.Key.{Key}
use Rattle.cf_shape.specs.declared.lane.Key.TheVariants as keys
use Rattle.cf_row.proofs.Truths.{both}
use Rattle.cf_project.specs.Keeping.{is_kept, keep, new_place}
use Rattle.cf_project.specs.Laws.{IsLaneAlike}
use Rattle.cf_project.specs.Named.{KeepsShape, keeps_expr, keeps_key, keeps_lane, keeps_measure}
use Rattle.cf_project.specs.Projected.{atom_kept, expr_kept, key_kept, lane_kept, measure_kept, row_kept, shape_kept}
use Rattle.cf_project.proofs.Keeping.{all_at, keep_at, keep_get, map_at}
use Rattle.cf_project.proofs.Schemas.{schema_kept, stamp_kept}

module _ (kept : List Bool) where
  module _ (row : RowValue) where
    pub value_same : (attr : ℕ) → is_kept kept attr ≡ true → value_at (row_kept kept row) (new_place kept attr) ≡ value_at row attr
    value_same attr is = keep_at kept row.values attr (Num 0) is

    pub number_same : (attr : ℕ) → is_kept kept attr ≡ true → number_at (row_kept kept row) (new_place kept attr) ≡ number_at row attr
    number_same attr is = ap number_of (value_same attr is)

    atoms_same : (atoms : List Atom) → list_all (λ atom. is_kept kept atom.attr) atoms ≡ true
        → list_all (atom_holds (row_kept kept row)) (map (atom_kept kept) atoms) ≡ list_all (atom_holds row) atoms
    atoms_same [] is = refl
    atoms_same (atom ∷ atoms) is =
        let parts = both (is_kept kept atom.attr) (list_all (λ (a : Atom). is_kept kept a.attr) atoms) is in
        ap₂ (λ (a b : Bool). a && b) (ap (λ (v : Value). is_true_of atom.op v atom.low atom.high) (value_same atom.attr parts.0)) (atoms_same atoms parts.1)

    pub holds_same : (expr : List (List Atom)) → keeps_expr kept expr ≡ true → holds_of (expr_kept kept expr) (row_kept kept row) ≡ holds_of expr row
    holds_same [] is = refl
    holds_same (atoms ∷ expr) is =
        let parts = both (list_all (λ (a : Atom). is_kept kept a.attr) atoms) (keeps_expr kept expr) is in
        ap₂ (λ (a b : Bool). a || b) (atoms_same atoms parts.0) (holds_same expr parts.1)

  -- what is asked of the kinds of the attributes
  module _ (attrs : List Attr) where
    suits_by : (atom : Atom) (attr : Option Attr) → atom_suits_attr (atom_kept kept atom) attr ≡ atom_suits_attr atom attr
    suits_by atom None = refl
    suits_by atom (Some attr) = refl

    atom_suits_same : (atom : Atom) → is_kept kept atom.attr ≡ true → atom_suits (keep kept attrs) (atom_kept kept atom) ≡ atom_suits attrs atom
    atom_suits_same atom is = suits_by atom (slice_get (keep kept attrs) (new_place kept atom.attr)) ∙ ap (atom_suits_attr atom) (keep_get kept attrs atom.attr is)

    all_suit_same : (atoms : List Atom) → list_all (λ atom. is_kept kept atom.attr) atoms ≡ true
        → list_all (atom_suits (keep kept attrs)) (map (atom_kept kept) atoms) ≡ list_all (atom_suits attrs) atoms
    all_suit_same [] is = refl
    all_suit_same (atom ∷ atoms) is =
        let parts = both (is_kept kept atom.attr) (list_all (λ (a : Atom). is_kept kept a.attr) atoms) is in
        ap₂ (λ (a b : Bool). a && b) (atom_suits_same atom parts.0) (all_suit_same atoms parts.1)

    each_suits_same : (expr : List (List Atom)) → keeps_expr kept expr ≡ true
        → list_all (list_all (atom_suits (keep kept attrs))) (expr_kept kept expr) ≡ list_all (list_all (atom_suits attrs)) expr
    each_suits_same [] is = refl
    each_suits_same (atoms ∷ expr) is =
        let parts = both (list_all (λ (a : Atom). is_kept kept a.attr) atoms) (keeps_expr kept expr) is in
        ap₂ (λ (a b : Bool). a && b) (all_suit_same atoms parts.0) (each_suits_same expr parts.1)

    count_same : (expr : List (List Atom)) → atom_count (expr_kept kept expr) ≡ atom_count expr
    count_same [] = refl
    count_same (atoms ∷ expr) = ap₂ (λ (m n : ℕ). m + n) (length-map atoms (atom_kept kept)) (count_same expr)

    pub of_schema_same : (expr : List (List Atom)) → keeps_expr kept expr ≡ true → is_of_schema (keep kept attrs) (expr_kept kept expr) ≡ is_of_schema attrs expr
    of_schema_same expr is = ap₂ (λ (n : ℕ) (b : Bool). nat_le n 32 && b) (count_same expr) (each_suits_same expr is)

    key_lawful_same : (key : Key) → keeps_key kept key ≡ true → is_lawful_key (keep kept attrs) (key_kept kept key) ≡ is_lawful_key attrs key
    key_lawful_same (keys.Attr attr) is = ap (option_passes is_number) (keep_get kept attrs attr is)
    key_lawful_same keys.Bucket is = refl
    key_lawful_same (keys.BucketBy attr) is = ap (option_passes is_number) (keep_get kept attrs attr is)

    nibbles_same : (key : Key) → keeps_key kept key ≡ true → nibbles_of_key (keep kept attrs) (key_kept kept key) ≡ nibbles_of_key attrs key
    nibbles_same (keys.Attr attr) is = ap nibbles_of_attr (keep_get kept attrs attr is)
    nibbles_same keys.Bucket is = refl
    nibbles_same (keys.BucketBy attr) is = refl

    measure_lawful_same : (measure : Option ℕ) → keeps_measure kept measure ≡ true
        → is_lawful_measure (keep kept attrs) (measure_kept kept measure) ≡ is_lawful_measure attrs measure
    measure_lawful_same None is = refl
    measure_lawful_same (Some attr) is = ap (option_passes is_narrow) (keep_get kept attrs attr is)

    pub passes_same : (attr : ℕ) → is_kept kept attr ≡ true
        → option_passes is_narrow (slice_get (keep kept attrs) (new_place kept attr)) ≡ option_passes is_narrow (slice_get attrs attr)
    passes_same attr is = ap (option_passes is_narrow) (keep_get kept attrs attr is)

    lane_lawful_same : (lane : Lane) → keeps_lane kept lane ≡ true → is_lawful_lane (keep kept attrs) (lane_kept kept lane) ≡ is_lawful_lane attrs lane
    lane_lawful_same lane is =
        let parts = both (keeps_expr kept lane.select && keeps_key kept lane.key) (keeps_measure kept lane.measure) is in
        let front = both (keeps_expr kept lane.select) (keeps_key kept lane.key) parts.0 in
        ap₂ (λ (a b : Bool). a && b) (ap₂ (λ (a b : Bool). a && b) (of_schema_same lane.select front.0) (key_lawful_same lane.key front.1))
        (measure_lawful_same lane.measure parts.1)

    pub lanes_lawful_same : (lanes : List Lane) → list_all (keeps_lane kept) lanes ≡ true
        → list_all (is_lawful_lane (keep kept attrs)) (map (lane_kept kept) lanes) ≡ list_all (is_lawful_lane attrs) lanes
    lanes_lawful_same [] is = refl
    lanes_lawful_same (lane ∷ lanes) is =
        let parts = both (keeps_lane kept lane) (list_all (keeps_lane kept) lanes) is in
        ap₂ (λ (a b : Bool). a && b) (lane_lawful_same lane parts.0) (lanes_lawful_same lanes parts.1)

  -- Where a shape keeps all that it names.
  module _ (shape : ShapeValue) (keeps : KeepsShape kept shape) (lawful : IsShape shape) where
    abbrev less : ShapeValue
    less = shape_kept kept shape

    pub lane_same : (lane : ℕ) → lane_at less lane ≡ lane_kept kept (lane_at shape lane)
    lane_same lane = map_at (lane_kept kept) shape.lanes lane no_lane

    keeps_at : (lane : ℕ) → keeps_lane kept (lane_at shape lane) ≡ true
    keeps_at lane = all_at (keeps_lane kept) shape.lanes lane no_lane keeps.lanes refl

    parts_at : (lane : ℕ) → ((keeps_expr kept (lane_at shape lane).select && keeps_key kept (lane_at shape lane).key) ≡ true)
        × (keeps_measure kept (lane_at shape lane).measure ≡ true)
    parts_at lane =
        let at = lane_at shape lane in both (keeps_expr kept at.select && keeps_key kept at.key) (keeps_measure kept at.measure) (keeps_at lane)

    select_at : (lane : ℕ) → keeps_expr kept (lane_at shape lane).select ≡ true
    select_at lane = let at = lane_at shape lane in (both (keeps_expr kept at.select) (keeps_key kept at.key) (parts_at lane).0).0

    key_at : (lane : ℕ) → keeps_key kept (lane_at shape lane).key ≡ true
    key_at lane = let at = lane_at shape lane in (both (keeps_expr kept at.select) (keeps_key kept at.key) (parts_at lane).0).1

    pub selects_same : (lane : ℕ) (row : RowValue) → selected_by less lane (row_kept kept row) ≡ selected_by shape lane row
    selects_same lane row =
        ap (λ (l : Lane). holds_of l.select (row_kept kept row)) (lane_same lane) ∙ holds_same row (lane_at shape lane).select (select_at lane)

    pub time_same : (row : RowValue) → time_of less.schema (row_kept kept row) ≡ time_of shape.schema row
    time_same row =
        ap (λ (p : ℕ). number_at (row_kept kept row) p) (stamp_kept kept shape.schema lawful.schema keeps.stamp)
        ∙ number_same row (ts_place shape.schema) keeps.stamp

    key_by_same : (key : Key) (row : RowValue) → keeps_key kept key ≡ true → key_by less (key_kept kept key) (row_kept kept row) ≡ key_by shape key row
    key_by_same (keys.Attr attr) row is = number_same row attr is
    key_by_same keys.Bucket row is = ap (λ (t : ℕ). t / shape.width) (time_same row)
    key_by_same (keys.BucketBy attr) row is = ap (λ (t : ℕ). t / shape.width) (time_same row)

    pub key_same : (lane : ℕ) (row : RowValue) → key_of less lane (row_kept kept row) ≡ key_of shape lane row
    key_same lane row =
        ap (λ (l : Lane). key_by less l.key (row_kept kept row)) (lane_same lane) ∙ key_by_same (lane_at shape lane).key row (key_at lane)

    by_in_same : (key : Key) (row : RowValue) → keeps_key kept key ≡ true → by_in (key_kept kept key) (row_kept kept row) ≡ by_in key row
    by_in_same (keys.Attr attr) row is = refl
    by_in_same keys.Bucket row is = refl
    by_in_same (keys.BucketBy attr) row is = ap (λ (n : ℕ). Some n) (number_same row attr is)

    pub by_same : (lane : ℕ) (row : RowValue) → by_of less lane (row_kept kept row) ≡ by_of shape lane row
    by_same lane row =
        ap (λ (l : Lane). by_in l.key (row_kept kept row)) (lane_same lane) ∙ by_in_same (lane_at shape lane).key row (key_at lane)

    pub group_key_same : (lane : ℕ) (row : RowValue) → group_key less lane (row_kept kept row) ≡ group_key shape lane row
    group_key_same lane row = ap₂ (λ (k : ℕ) (b : Option ℕ). both_keys k b) (key_same lane row) (by_same lane row)

    measure_by_same : (measure : Option ℕ) (row : RowValue) → keeps_measure kept measure ≡ true
        → measure_by (measure_kept kept measure) (row_kept kept row) ≡ measure_by measure row
    measure_by_same None row is = refl
    measure_by_same (Some attr) row is = number_same row attr is

    pub measure_same : (lane : ℕ) (row : RowValue) → measure_of less lane (row_kept kept row) ≡ measure_of shape lane row
    measure_same lane row =
        ap (λ (l : Lane). measure_by l.measure (row_kept kept row)) (lane_same lane)
        ∙ measure_by_same (lane_at shape lane).measure row (parts_at lane).1

    pub lane_alike : (lane : ℕ) (row : RowValue) → IsLaneAlike kept shape lane row
    lane_alike lane row = record { selects = selects_same lane row; key = key_same lane row; by = by_same lane row; measure = measure_same lane row }

    -- the nodes
    levels_same : (lane : ℕ) → levels_of less lane ≡ levels_of shape lane
    levels_same lane =
        ap (λ (l : Lane). nibbles_of_key less.schema l.key) (lane_same lane) ∙ nibbles_same shape.schema (lane_at shape lane).key (key_at lane)

    nodes_in_same : (row : RowValue) (lane : ℕ) → nodes_in less (row_kept kept row) lane ≡ nodes_in shape row lane
    nodes_in_same row lane =
        ap₂ (λ (b : Bool) (ns : List Node). cond b ns []) (selects_same lane row)
        (ap₂ (λ (l k : ℕ). path_of lane l k) (levels_same lane) (key_same lane row))

    pub nodes_for_same : (row : RowValue) → nodes_for less (row_kept kept row) ≡ nodes_for shape row
    nodes_for_same row =
        ap₂ (λ (f : ℕ → List Node) (n : ℕ). flat_map f (range_with_len 0 n)) (fun_ext (nodes_in_same row)) (length-map shape.lanes (lane_kept kept))

    all_nodes : (rows : List RowValue) → flat_map (nodes_for less) (map (row_kept kept) rows) ≡ flat_map (nodes_for shape) rows
    all_nodes [] = refl
    all_nodes (row ∷ rows) = ap₂ (λ (xs ys : List Node). xs ++ ys) (nodes_for_same row) (all_nodes rows)

    pub nodes_same : (rows : List RowValue) → distinct less (map (row_kept kept) rows) ≡ distinct shape rows
    nodes_same rows = ap (λ (ns : List Node). length (fold add_node [] ns)) (all_nodes rows)

    pub shape_lawful : IsShape less
    shape_lawful = record {
      schema = schema_kept kept shape.schema lawful.schema keeps.stamp;
      few = subst (λ (n : ℕ). n ≤ 16) (sym (length-map shape.lanes (lane_kept kept))) lawful.few;
      capacity = lawful.capacity;
      writers = lawful.writers;
      nodes = lawful.nodes;
      width = lawful.width;
      lanes = lanes_lawful_same shape.schema shape.lanes keeps.lanes ∙ lawful.lanes;
    }
