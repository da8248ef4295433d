-- One more row that is added up.
use Rattle.std.proofs.Common.{Some, ◌≡◌, ℕ, ◌+◌, ◌<◌, ◌≤◌, ◌^◌, Bool, true, false, cond, List, [], ◌∷◌, ◌++◌, length, map, filter, take, get_or, refl, ap, ◌∙◌, arith}
use Rattle.std.proofs.lemmas.List.{length-map, map-append, take_more}
use Rattle.std.proofs.lemmas.List.Elements.{filter-append}
use Rattle.std.proofs.lemmas.List.Sums.{length-filter, count_by-le-length}
use Rattle.cf_row.specs.declared.row.Entry.{Entry}
use Rattle.cf_row.specs.declared.schema.Attr.{Attr}
use Rattle.cf_row.specs.declared.expr.Atom.{Atom}
use Rattle.cf_row.specs.Row.{RowValue, Fits}
use Rattle.cf_row.specs.Expr.{holds_of}
use Rattle.cf_row.specs.Times.{number_at}
use Rattle.cf_row.specs.Schema.{IsSchema}
use Rattle.cf_shape.specs.Lanes.{ShapeValue, IsShape}
use Rattle.cf_shape.specs.declared.lane.Key.TheVariants as keys
use Rattle.cf_shape.proofs.Measured.{measure_low}
use Rattle.cf_plain.specs.Asks.{rows_in}
use Rattle.cf_plain.specs.Totals.{IsNarrow, amounts}

-- a shape whose lane measures the attribute
abbrev measuring : List Attr → ℕ → ShapeValue
measuring attrs attr =
    record { schema = attrs; lanes = record { select = []; key = keys.Bucket; measure = Some attr } ∷ []; capacity = 1; writers = 1; nodes = 0; width = 1 }

is_shape : (attrs : List Attr) (attr : ℕ) → IsSchema attrs → IsNarrow attrs attr → IsShape (measuring attrs attr)
is_shape attrs attr schema narrow = record {
  schema = schema;
  few = omega arith;
  capacity = (omega arith, omega arith);
  writers = (omega arith, omega arith);
  nodes = omega arith;
  width = (omega arith, omega arith);
  lanes = rw narrow refl;
}

-- such a number is below 2^32
pub amount_low : (attrs : List Attr) (attr : ℕ) (row : RowValue) → IsSchema attrs → IsNarrow attrs attr → Fits attrs row → number_at row attr < 2 ^ 32
amount_low attrs attr row schema narrow fits = measure_low (measuring attrs attr) 0 row (is_shape attrs attr schema narrow) (omega arith) fits

-- what is added up of entries
abbrev pub amounts_in : ℕ → List (List Atom) → List Entry → List ℕ
amounts_in attr expr entries = amounts attr expr (rows_in entries)

module _ (attr : ℕ) (expr : List (List Atom)) where
  one : (b : Bool) (row : RowValue) → map (λ (r : RowValue). number_at r attr) (cond b (row ∷ []) []) ≡ cond b (number_at row attr ∷ []) []
  one true row = refl
  one false row = refl

  pub amounts_append : (xs ys : List Entry) → amounts_in attr expr (xs ++ ys) ≡ amounts_in attr expr xs ++ amounts_in attr expr ys
  amounts_append xs ys =
      ap (amounts attr expr) (map-append (λ (e : Entry). e.row) xs ys)
      ∙ ap (map (λ (row : RowValue). number_at row attr)) (filter-append (holds_of expr) (rows_in xs) (rows_in ys))
      ∙ map-append (λ (row : RowValue). number_at row attr) (filter (holds_of expr) (rows_in xs)) (filter (holds_of expr) (rows_in ys))

  pub amounts_few : (entries : List Entry) → length (amounts_in attr expr entries) ≤ length entries
  amounts_few entries =
      let rows = rows_in entries in
      omega (
        arith,
        length-map (filter (holds_of expr) rows) (λ (row : RowValue). number_at row attr),
        length-filter (holds_of expr) rows,
        count_by-le-length (holds_of expr) rows,
        length-map entries (λ (e : Entry). e.row),
      )

  pub amounts_one : (entry : Entry) → amounts_in attr expr (entry ∷ []) ≡ cond (holds_of expr entry.row) (number_at entry.row attr ∷ []) []
  amounts_one entry = one (holds_of expr entry.row) entry.row

  pub amounts_more : (entries : List Entry) (i : ℕ) (d : Entry) → i < length entries
      → amounts_in attr expr (take (i + 1) entries) ≡ amounts_in attr expr (take i entries) ++ cond (holds_of expr (get_or entries i d).row)
      (number_at (get_or entries i d).row attr ∷ []) []
  amounts_more entries i d lt =
      ap (amounts_in attr expr) (take_more entries i d lt) ∙ amounts_append (take i entries) (get_or entries i d ∷ [])
      ∙ ap (λ ns. amounts_in attr expr (take i entries) ++ ns) (amounts_one (get_or entries i d))
