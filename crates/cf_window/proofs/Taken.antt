-- What a segment takes.
use Rattle.std.proofs.Common.{◌≡◌, ◌∙◌, ℕ, ◌≤◌, inl, inr, List, [], ◌∷◌, ◌++◌, length, Bool, true, false, ◌&&◌, not, nat_lt, nat_le, slice_get, Result, Ok, Err, is_ok, refl, sym, ap, ap₂, subst, arith}
use Rattle.std.proofs.lemmas.Bool.{cases_Bool}
use Rattle.std.proofs.lemmas.Bool.Decides.{nat_tests}
use Rattle.std.proofs.lemmas.List.{length-map, map-append}
use Rattle.cf_row.proofs.Lists.{has_left, get_push_same}
use Rattle.cf_row.specs.Row.{RowValue}
use Rattle.cf_row.specs.declared.row.Entry.{Entry}
use Rattle.cf_shape.specs.Lanes.{ShapeValue}
use Rattle.cf_shape.specs.Nodes.{distinct}
use Rattle.cf_law.specs.Words.{Spot}
use Rattle.cf_append.specs.declared.appends.AppendFault.{AppendFault}
use Rattle.cf_append.specs.declared.appends.AppendFault.TheVariants.{Full, NodesFull}
use Rattle.cf_append.specs.Paths.{IsOnPath}
use Rattle.cf_plain.specs.Asks.{rows_in}
use Rattle.cf_alone.specs.Needed.{IsNeeded}
use Rattle.cf_alone.specs.Solos.{AreNeeded, HasCome, SoloValue, empty_solo}
use Rattle.cf_alone.proofs.Pigeons.{in_either}
use Rattle.cf_window.specs.Segments.{HasEnough, IsWindowSegment, segment_value, with_nodes, with_row}
use Rattle.cf_window.specs.Windows.{takes}

-- a spot that is needed is needed by more rows too
needed_more : (shape : ShapeValue) (rows : List RowValue) (row : RowValue) (s : Spot) → IsNeeded shape rows s → IsNeeded shape (rows ++ row ∷ []) s
needed_more shape rows row s n = record { place = n.place; row = n.row; at = has_left rows (row ∷ []) n.place n.row n.at; on = n.on }

needed_last : (shape : ShapeValue) (rows : List RowValue) (row : RowValue) (s : Spot) → IsOnPath shape row s → IsNeeded shape (rows ++ row ∷ []) s
needed_last shape rows row s on = record { place = length rows; row = row; at = get_push_same rows row; on = on }

-- one entry more is one row more
rows_more : (es : List Entry) (row : RowValue) → rows_in (es ++ record { writer = 0; row = row } ∷ []) ≡ rows_in es ++ row ∷ []
rows_more es row = map-append (λ (e : Entry). e.row) es (record { writer = 0; row = row } ∷ [])

no_right : (a b : Bool) → b ≡ false → (a && b) ≡ false
no_right a b e = elim (cases_Bool a) [
  | inl t ↦ ap (λ (x : Bool). x && b) t ∙ e
  | inr f ↦ ap (λ (x : Bool). x && b) f
]

-- What was taken: the row, behind the others, or nothing.
abbrev pub HasTaken : RowValue → SoloValue → SoloValue → Result ℕ AppendFault → Type 0
HasTaken row s t (Ok at) = (takes s.shape (rows_in s.entries) row ≡ true) × (rows_in t.entries ≡ rows_in s.entries ++ row ∷ [])
    × AreNeeded t.shape (rows_in t.entries) t.used
HasTaken row s t (Err fault) = (takes s.shape (rows_in s.entries) row ≡ false) × (rows_in t.entries ≡ rows_in s.entries)

module _ (row : RowValue) (s t : SoloValue) (own : AreNeeded s.shape (rows_in s.entries) s.used) where
  abbrev old : List RowValue
  old = rows_in s.entries

  abbrev new : List RowValue
  new = old ++ row ∷ []

  pub taken : (r : Result ℕ AppendFault) → HasCome row s t r → HasTaken row s t r
  taken (Ok at) come = (ap₂ (λ (a b : Bool). a && b) room few, rows, needed_then)
    where
      rows : rows_in t.entries ≡ new
      rows = ap rows_in come.covered.2 ∙ rows_more s.entries row

      needed : AreNeeded s.shape new t.used
      needed j x at = elim (in_either s.used come.nodes.spots j x (ap (λ (xs : List Spot). slice_get xs j) (sym come.nodes.is) ∙ at)) [
        | inl before ↦ needed_more s.shape old row x (own before.0 x before.1)
        | inr more ↦ needed_last s.shape old row x (come.nodes.on more.0 x more.1)
      ]

      needed_then : AreNeeded t.shape (rows_in t.entries) t.used
      needed_then = subst (λ (h : ShapeValue). AreNeeded h (rows_in t.entries) t.used) (sym come.shape)
          (subst (λ (rs : List RowValue). AreNeeded s.shape rs t.used) (sym rows) needed)

      room : nat_lt (length old) (s.shape).capacity ≡ true
      room = (let long = length-map s.entries (λ (e : Entry). e.row) in let low = come.covered.1 in grind (arith, nat_tests))

      few : nat_le (distinct s.shape new) (s.shape).nodes ≡ true
      few = (let most = come.enough (subst (λ (rs : List RowValue). AreNeeded s.shape rs t.used) (sym rows) needed) in
          let low : distinct s.shape new ≤ (s.shape).nodes = subst (λ (rs : List RowValue). distinct s.shape rs ≤ (s.shape).nodes) rows most in
          grind (arith, nat_tests))
  taken (Err Full) come = (ap (λ (b : Bool). b && nat_le (distinct s.shape new) (s.shape).nodes) full, ap rows_in come.covered.1)
    where
      full : nat_lt (length old) (s.shape).capacity ≡ false
      full = (let long = length-map s.entries (λ (e : Entry). e.row) in let same = come.covered.0 in grind (arith, nat_tests))
  taken (Err NodesFull) come =
      (no_right (nat_lt (length old) (s.shape).capacity) (nat_le (distinct s.shape new) (s.shape).nodes) few, ap rows_in come.covered)
    where
      few : nat_le (distinct s.shape new) (s.shape).nodes ≡ false
      few = (let high = come.lacks refl new (length old) (get_push_same old row) (λ j x at. needed_more s.shape old row x (own j x at)) in
          grind (arith, nat_tests))

-- The segment after it, the answer and the rows.
pub taken_all : (row : RowValue) (s t : SoloValue) (nodes : ℕ) (r : Result ℕ AppendFault) → HasEnough s.shape nodes → t.shape ≡ s.shape → HasTaken row s t r
    → IsWindowSegment t nodes (not (is_ok r))
taken_all row s t nodes (Ok at) enough same has =
    record { needed = λ e. has.2; enough = subst (λ (h : ShapeValue). HasEnough h nodes) (sym same) enough }
taken_all row s t nodes (Err fault) enough same has =
    record { needed = λ e. absurd (cc e); enough = subst (λ (h : ShapeValue). HasEnough h nodes) (sym same) enough }

pub taken_answer : (row : RowValue) (s t : SoloValue) (r : Result ℕ AppendFault) → HasTaken row s t r → is_ok r ≡ takes s.shape (rows_in s.entries) row
taken_answer row s t (Ok at) has = sym has.0
taken_answer row s t (Err fault) has = sym has.0

pub taken_rows : (row : RowValue) (s t : SoloValue) (r : Result ℕ AppendFault) → HasTaken row s t r
    → rows_in t.entries ≡ with_row (rows_in s.entries) row (is_ok r)
taken_rows row s t (Ok at) has = has.1
taken_rows row s t (Err fault) has = has.1

-- An empty log was opened.
pub empty_segment : (log : ShapeValue) (s : SoloValue) (nodes : ℕ) → HasEnough log nodes → s ≡ empty_solo log → IsWindowSegment s nodes false
empty_segment log s nodes enough is = subst (λ (x : SoloValue). IsWindowSegment x nodes false) (sym is) (record {
  needed = λ e j x at. absurd (cc at);
  enough = enough;
})

pub empty_value : (log shape : ShapeValue) (s : SoloValue) (nodes : ℕ) → s ≡ empty_solo log → with_nodes log nodes ≡ shape
    → segment_value s nodes false ≡ record { shape = shape; rows = []; is_spent = false }
empty_value log shape s nodes is same = ap (λ (x : SoloValue). segment_value x nodes false) is
    ∙ ap (λ (h : ShapeValue). record { shape = h; rows = []; is_spent = false }) same
