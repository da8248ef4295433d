-- Where all is kept, nothing changes.
use Rattle.std.proofs.Common.{◌≡◌, ◌∙◌, ℕ, zero, suc, Bool, true, false, ◌&&◌, List, [], ◌∷◌, length, map, Option, Some, None, refl, ap, ap₂, arith}
use Rattle.std.specs.List.{list_all}
use Rattle.cf_row.specs.declared.schema.Attr.{Attr}
use Rattle.cf_row.specs.declared.expr.Atom.{Atom}
use Rattle.cf_row.specs.declared.row.Value.{Value}
use Rattle.cf_row.specs.Row.{Fits, RowValue}
use Rattle.cf_shape.specs.Lanes.{ShapeValue}
use Rattle.cf_shape.specs.declared.lane.Lane.{Lane}
use Rattle.cf_shape.specs.declared.lane.Key.{Key}
use Rattle.cf_shape.specs.declared.lane.Key.TheVariants as keys
use Rattle.cf_row.proofs.Truths.{both}
use Rattle.cf_project.specs.Keeping.{is_kept, keep, new_place}
use Rattle.cf_project.specs.Named.{KeepsShape, keeps_expr, keeps_key, keeps_lane, keeps_measure}
use Rattle.cf_project.specs.Projected.{atom_kept, expr_kept, key_kept, lane_kept, measure_kept, row_kept, shape_kept}
use Rattle.cf_project.proofs.Schemas.{fit_length}

keep_whole : {X : Type 0} (marks : List Bool) (xs : List X) → list_all (λ mark. mark) marks ≡ true → length marks ≡ length xs → keep marks xs ≡ xs
keep_whole [] [] all same = refl
keep_whole [] (x ∷ xs) all same = absurd (omega (arith, same))
keep_whole (mark ∷ marks) [] all same = absurd (omega (arith, same))
keep_whole (true ∷ marks) (x ∷ xs) all same = ap (λ ys. x ∷ ys) (keep_whole marks xs all (omega (arith, same)))
keep_whole (false ∷ marks) (x ∷ xs) all same = absurd (cc all)

place_whole : (marks : List Bool) (place : ℕ) → list_all (λ mark. mark) marks ≡ true → is_kept marks place ≡ true → new_place marks place ≡ place
place_whole [] place all kept = absurd (cc kept)
place_whole (true ∷ marks) zero all kept = refl
place_whole (true ∷ marks) (suc place) all kept = ap suc (place_whole marks place all kept)
place_whole (false ∷ marks) place all kept = absurd (cc all)

module _ (kept : List Bool) (all : list_all (λ mark. mark) kept ≡ true) where
  atom_whole : (atom : Atom) → is_kept kept atom.attr ≡ true → atom_kept kept atom ≡ atom
  atom_whole atom is = ap (λ (a : ℕ). record { attr = a; op = atom.op; low = atom.low; high = atom.high }) (place_whole kept atom.attr all is)

  atoms_whole : (atoms : List Atom) → list_all (λ atom. is_kept kept atom.attr) atoms ≡ true → map (atom_kept kept) atoms ≡ atoms
  atoms_whole [] is = refl
  atoms_whole (atom ∷ atoms) is =
      let parts = both (is_kept kept atom.attr) (list_all (λ (a : Atom). is_kept kept a.attr) atoms) is in
      ap₂ (λ (a : Atom) (rest : List Atom). a ∷ rest) (atom_whole atom parts.0) (atoms_whole atoms parts.1)

  expr_whole : (expr : List (List Atom)) → keeps_expr kept expr ≡ true → expr_kept kept expr ≡ expr
  expr_whole [] is = refl
  expr_whole (atoms ∷ expr) is =
      let parts = both (list_all (λ (a : Atom). is_kept kept a.attr) atoms) (keeps_expr kept expr) is in
      ap₂ (λ (first : List Atom) (rest : List (List Atom)). first ∷ rest) (atoms_whole atoms parts.0) (expr_whole expr parts.1)

  key_whole : (key : Key) → keeps_key kept key ≡ true → key_kept kept key ≡ key
  key_whole (keys.Attr attr) is = ap (λ (a : ℕ). keys.Attr a) (place_whole kept attr all is)
  key_whole keys.Bucket is = refl
  key_whole (keys.BucketBy attr) is = ap (λ (a : ℕ). keys.BucketBy a) (place_whole kept attr all is)

  measure_whole : (measure : Option ℕ) → keeps_measure kept measure ≡ true → measure_kept kept measure ≡ measure
  measure_whole None is = refl
  measure_whole (Some attr) is = ap (λ (a : ℕ). Some a) (place_whole kept attr all is)

  abbrev lane_of : List (List Atom) → Key → Option ℕ → Lane
  lane_of select key measure = record { select = select; key = key; measure = measure }

  lane_whole : (lane : Lane) → keeps_lane kept lane ≡ true → lane_kept kept lane ≡ lane
  lane_whole lane is =
      let parts = both (keeps_expr kept lane.select && keeps_key kept lane.key) (keeps_measure kept lane.measure) is in
      let front = both (keeps_expr kept lane.select) (keeps_key kept lane.key) parts.0 in
      ap₂ (λ (s : List (List Atom)) (k : Key). lane_of s k (measure_kept kept lane.measure)) (expr_whole lane.select front.0) (key_whole lane.key front.1)
      ∙ ap (λ (m : Option ℕ). lane_of lane.select lane.key m) (measure_whole lane.measure parts.1)

  lanes_whole : (lanes : List Lane) → list_all (keeps_lane kept) lanes ≡ true → map (lane_kept kept) lanes ≡ lanes
  lanes_whole [] is = refl
  lanes_whole (lane ∷ lanes) is =
      let parts = both (keeps_lane kept lane) (list_all (keeps_lane kept) lanes) is in
      ap₂ (λ (l : Lane) (rest : List Lane). l ∷ rest) (lane_whole lane parts.0) (lanes_whole lanes parts.1)

  pub shape_whole : (shape : ShapeValue) → KeepsShape kept shape → shape_kept kept shape ≡ shape
  shape_whole shape keeps =
      ap₂ (λ (xs : List Attr) (ls : List Lane). record shape { schema = xs; lanes = ls }) (keep_whole kept shape.schema all keeps.marks)
      (lanes_whole shape.lanes keeps.lanes)

  pub row_whole : (shape : ShapeValue) (row : RowValue) → KeepsShape kept shape → Fits shape.schema row → row_kept kept row ≡ row
  row_whole shape row keeps fits =
      ap (λ (vs : List Value). record { num = row.num; values = vs }) (keep_whole kept row.values all (keeps.marks ∙ fit_length shape.schema row.values fits))
