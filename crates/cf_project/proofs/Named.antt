-- The attributes that a shape and its questions name are all that these need.
use Rattle.std.proofs.Common.{◌≡◌, ◌∙◌, ℕ, zero, suc, ◌+◌, ◌<◌, Bool, true, false, ◌&&◌, ◌||◌, ◌==◌, nat_le, List, [], ◌∷◌, length, get_or, map, slice_get, Option, Some, None, refl, ap, arith}
use Rattle.std.specs.List.{All, list_all, list_any, range_with_len}
use Rattle.std.proofs.lemmas.List.{length-map}
use Rattle.cf_row.specs.declared.schema.Attr.{Attr}
use Rattle.cf_row.specs.declared.expr.Atom.{Atom}
use Rattle.cf_row.specs.Expr.{atom_count, atom_suits, atom_suits_attr, is_of_schema}
use Rattle.cf_row.specs.Schema.{is_time_stamp, ts_place}
use Rattle.cf_shape.specs.Lanes.{IsShape, ShapeValue, is_lawful_key, is_lawful_lane, is_lawful_measure, is_narrow, is_number, option_passes}
use Rattle.cf_shape.specs.declared.lane.Lane.{Lane}
use Rattle.cf_shape.specs.declared.lane.Key.{Key}
use Rattle.cf_shape.specs.declared.lane.Key.TheVariants as keys
use Rattle.cf_plain.specs.Asks.{Suits, suits_of}
use Rattle.cf_plain.specs.declared.ask.Ask.{Ask}
use Rattle.cf_plain.specs.declared.ask.Ask.TheVariants as asks
use Rattle.cf_row.proofs.Truths.{both, eq_true}
use Rattle.cf_project.specs.Keeping.{is_kept}
use Rattle.cf_project.specs.Named.{KeepsAsks, KeepsShape, ask_names, expr_names, is_named, keeps_ask, keeps_expr, keeps_key, keeps_lane, keeps_measure, key_names, lane_names, measure_names, named_in}
use Rattle.cf_project.proofs.Schemas.{any_within, ts_first}

left : (a b : Bool) → a ≡ true → (a || b) ≡ true
left a b is = rw is refl

right : (a b : Bool) → b ≡ true → (a || b) ≡ true
right true b is = refl
right false b is = is

marks_at : (f : ℕ → Bool) (from n place : ℕ) → place < n → get_or (map f (range_with_len from n)) place false ≡ f (from + place)
marks_at f from zero place low = absurd (omega (arith, low))
marks_at f from (suc n) zero low = ap f (omega arith)
marks_at f from (suc n) (suc place) low = marks_at f (from + 1) n place (omega (arith, low)) ∙ ap f (omega arith)

range_length : (from n : ℕ) → length (range_with_len from n) ≡ n
range_length from zero = refl
range_length from (suc n) = ap suc (range_length (from + 1) n)

-- a place at which something stands that passes is one of the list
passes_within : (passes : Option Attr → Bool) → passes None ≡ false → (attrs : List Attr) (place : ℕ) → passes (slice_get attrs place) ≡ true → place < length attrs
passes_within passes none [] place is = absurd (cc (none, is))
passes_within passes none (attr ∷ attrs) zero is = omega arith
passes_within passes none (attr ∷ attrs) (suc place) is = (let low = passes_within passes none attrs place is in omega (arith, low))

-- What is named of a schema is kept.
module _ (kept : List Bool) (attrs : List Attr) where
  abbrev AreKept : (ℕ → Bool) → Type 0
  AreKept names = (place : ℕ) → place < length attrs → names place ≡ true → is_kept kept place ≡ true

  atom_there : (atom : Atom) → atom_suits attrs atom ≡ true → atom.attr < length attrs
  atom_there atom suits = passes_within (atom_suits_attr atom) refl attrs atom.attr suits

  all_kept : (atoms : List Atom) → list_all (atom_suits attrs) atoms ≡ true → AreKept (λ place. list_any (λ atom. atom.attr == place) atoms)
      → list_all (λ atom. is_kept kept atom.attr) atoms ≡ true
  all_kept [] suits are = refl
  all_kept (atom ∷ atoms) suits are =
      let parts = both (atom_suits attrs atom) (list_all (atom_suits attrs) atoms) suits in
      let here : is_kept kept atom.attr ≡ true =
      are atom.attr (atom_there atom parts.0) (left (atom.attr == atom.attr) (list_any (λ (a : Atom). a.attr == atom.attr) atoms) (eq_true atom.attr atom.attr refl)) in
      rw here (all_kept atoms parts.1 (λ place low names. are place low (right (atom.attr == place) (list_any (λ (a : Atom). a.attr == place) atoms) names)))

  each_kept : (expr : List (List Atom)) → list_all (list_all (atom_suits attrs)) expr ≡ true → AreKept (λ place. expr_names place expr)
      → keeps_expr kept expr ≡ true
  each_kept [] suits are = refl
  each_kept (atoms ∷ expr) suits are =
      let parts = both (list_all (atom_suits attrs) atoms) (list_all (list_all (atom_suits attrs)) expr) suits in
      let here : list_all (λ (a : Atom). is_kept kept a.attr) atoms ≡ true =
      all_kept atoms parts.0 (λ place low names. are place low (left (list_any (λ (a : Atom). a.attr == place) atoms) (expr_names place expr) names)) in
      rw here (each_kept expr parts.1 (λ place low names. are place low (right (list_any (λ (a : Atom). a.attr == place) atoms) (expr_names place expr) names)))

  expr_there : (expr : List (List Atom)) → is_of_schema attrs expr ≡ true → AreKept (λ place. expr_names place expr) → keeps_expr kept expr ≡ true
  expr_there expr of are =
      each_kept expr (both (nat_le (atom_count expr) 32) (list_all (list_all (atom_suits attrs)) expr) of).1 are

  key_there : (key : Key) → is_lawful_key attrs key ≡ true → AreKept (λ place. key_names place key) → keeps_key kept key ≡ true
  key_there (keys.Attr attr) is are = are attr (passes_within (option_passes is_number) refl attrs attr is) (eq_true attr attr refl)
  key_there keys.Bucket is are = refl
  key_there (keys.BucketBy attr) is are = are attr (passes_within (option_passes is_number) refl attrs attr is) (eq_true attr attr refl)

  measure_there : (measure : Option ℕ) → is_lawful_measure attrs measure ≡ true → AreKept (λ place. measure_names place measure)
      → keeps_measure kept measure ≡ true
  measure_there None is are = refl
  measure_there (Some attr) is are = are attr (passes_within (option_passes is_narrow) refl attrs attr is) (eq_true attr attr refl)

  lane_there : (lane : Lane) → is_lawful_lane attrs lane ≡ true → AreKept (λ place. lane_names place lane) → keeps_lane kept lane ≡ true
  lane_there lane is are =
      let parts = both (is_of_schema attrs lane.select && is_lawful_key attrs lane.key) (is_lawful_measure attrs lane.measure) is in
      let front = both (is_of_schema attrs lane.select) (is_lawful_key attrs lane.key) parts.0 in
      let select : keeps_expr kept lane.select ≡ true = expr_there lane.select front.0 (λ place low names. are place low
      (left (expr_names place lane.select || key_names place lane.key) (measure_names place lane.measure)
      (left (expr_names place lane.select) (key_names place lane.key) names))) in
      let key : keeps_key kept lane.key ≡ true = key_there lane.key front.1 (λ place low names. are place low
      (left (expr_names place lane.select || key_names place lane.key) (measure_names place lane.measure)
      (right (expr_names place lane.select) (key_names place lane.key) names))) in
      let measure : keeps_measure kept lane.measure ≡ true = measure_there lane.measure parts.1 (λ place low names. are place low
      (right (expr_names place lane.select || key_names place lane.key) (measure_names place lane.measure) names)) in
      rw (select, key, measure) refl

  lanes_there : (lanes : List Lane) → list_all (is_lawful_lane attrs) lanes ≡ true → AreKept (λ place. list_any (lane_names place) lanes)
      → list_all (keeps_lane kept) lanes ≡ true
  lanes_there [] is are = refl
  lanes_there (lane ∷ lanes) is are =
      let parts = both (is_lawful_lane attrs lane) (list_all (is_lawful_lane attrs) lanes) is in
      let here : keeps_lane kept lane ≡ true =
      lane_there lane parts.0 (λ place low names. are place low (left (lane_names place lane) (list_any (lane_names place) lanes) names)) in
      rw here (lanes_there lanes parts.1 (λ place low names. are place low (right (lane_names place lane) (list_any (lane_names place) lanes) names)))

module _ (kept : List Bool) (shape : ShapeValue) where
  ask_there : (ask : Ask) → suits_of shape ask ≡ true → AreKept kept shape.schema (λ place. ask_names place ask) → keeps_ask kept ask ≡ true
  ask_there (asks.List expr) is are = expr_there kept shape.schema expr is are
  ask_there (asks.Find lane low high) is are = refl
  ask_there (asks.Between lane low high) is are = refl
  ask_there (asks.Measure lane low high) is are = refl
  ask_there (asks.Fired trigger) is are = refl
  ask_there (asks.Top lane part n) is are = refl
  ask_there (asks.Groups lane) is are = refl
  ask_there (asks.Total attr expr) is are =
      let parts = both (is_of_schema shape.schema expr) (option_passes is_narrow (slice_get shape.schema attr)) is in
      let here : is_kept kept attr ≡ true = are attr (passes_within (option_passes is_narrow) refl shape.schema attr parts.1)
      (left (attr == attr) (expr_names attr expr) (eq_true attr attr refl)) in
      rw here (expr_there kept shape.schema expr parts.0 (λ place low names. are place low (right (attr == place) (expr_names place expr) names)))

  asks_there : (questions : List Ask) → All (Suits shape) questions → AreKept kept shape.schema (λ place. list_any (ask_names place) questions)
      → KeepsAsks kept questions
  asks_there [] suit are = refl
  asks_there (ask ∷ questions) suit are =
      let here : keeps_ask kept ask ≡ true =
      ask_there ask (suit 0 ask (omega arith)) (λ place low names. are place low (left (ask_names place ask) (list_any (ask_names place) questions) names)) in
      rw here (asks_there questions (λ k d low. suit (suc k) d (omega (arith, low)))
      (λ place low names. are place low (right (ask_names place ask) (list_any (ask_names place) questions) names)))

module _ (shape : ShapeValue) (questions : List Ask) (lawful : IsShape shape) (suit : All (Suits shape) questions) where
  abbrev kept : List Bool
  kept = named_in shape questions

  named_kept : AreKept kept shape.schema (is_named shape questions)
  named_kept place low names =
      marks_at (is_named shape questions) 0 (length shape.schema) place low
      ∙ (ap (is_named shape questions) (let e : 0 + place ≡ place = omega arith in e) ∙ names)

  abbrev stamp : ℕ → Bool
  stamp place = place == ts_place shape.schema

  abbrev lanes : ℕ → Bool
  lanes place = list_any (lane_names place) shape.lanes

  abbrev others : ℕ → Bool
  others place = list_any (ask_names place) questions

  pub shape_named : KeepsShape kept shape
  shape_named = record {
    marks = length-map (range_with_len 0 (length shape.schema)) (is_named shape questions) ∙ range_length 0 (length shape.schema);
    stamp = (let some = lawful.schema.stamped in let first = ts_first shape.schema some in let low = any_within is_time_stamp shape.schema some in
        named_kept (ts_place shape.schema) (omega (arith, first, low))
        (left (stamp (ts_place shape.schema) || lanes (ts_place shape.schema)) (others (ts_place shape.schema))
        (left (stamp (ts_place shape.schema)) (lanes (ts_place shape.schema)) (eq_true (ts_place shape.schema) (ts_place shape.schema) refl))));
    lanes = lanes_there kept shape.schema shape.lanes lawful.lanes
        (λ place low names. named_kept place low (left (stamp place || lanes place) (others place) (right (stamp place) (lanes place) names)));
  }

  pub asks_named : KeepsAsks kept questions
  asks_named = asks_there kept shape questions suit (λ place low names. named_kept place low (right (stamp place || lanes place) (others place) names))
