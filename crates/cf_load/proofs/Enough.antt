-- A log that is loaded needs no more nodes than all writers have.
use Rattle.std.proofs.Common.{◌≡◌, ◌<◌, ◌≤◌, ◌+◌, ◌*◌, ◌%◌, ℕ, zero, suc, inl, inr, List, [], ◌∷◌, length, get_or, All, Some, slice_get, refl, sym, ap, subst, ◌∙◌, arith, eq-eqb}
use Rattle.std.proofs.lemmas.Bool.{ne_eqb, cases_eq}
use Rattle.std.proofs.lemmas.Option.{slice_get_within, slice_get-get_or}
use Rattle.cf_row.proofs.Lists.{Has}
use Rattle.cf_row.specs.Row.{RowValue, Fits}
use Rattle.cf_row.specs.declared.row.Entry.{Entry}
use Rattle.cf_shape.specs.Lanes.{IsShape}
use Rattle.cf_shape.specs.Nodes.{distinct}
use Rattle.cf_plain.specs.Order.{rows_of, written_by}
use Rattle.cf_plain.proofs.Logs.{written_own, written_other}
use Rattle.cf_table.specs.Values.{PassValue, LogValue}
use Rattle.cf_segments.specs.Loaded.{HasLoaded}
use Rattle.cf_segments.proofs.Nodes.{few_enough}

-- each row is one of a writer's
of_rows : (writers w k : ℕ) (rows : List RowValue) (i : ℕ) (row : RowValue) → slice_get rows i ≡ Some row → (k + i) % writers ≡ w
    → Has (rows_of writers w k rows) row
of_rows writers w k [] i row at is = absurd (cc at)
of_rows writers w k (x ∷ xs) zero row at is =
    let e : k % writers ≡ w = ap (λ (n : ℕ). n % writers) (let f : k ≡ k + 0 = omega arith in f) ∙ is in
    let all : rows_of writers w k (x ∷ xs) ≡ x ∷ rows_of writers w (k + 1) xs = rw (eq-eqb (k % writers) w e) refl in
    (0, ap (λ (rs : List RowValue). slice_get rs 0) all ∙ at)
of_rows writers w k (x ∷ xs) (suc i) row at is =
    let r = of_rows writers w (k + 1) xs i row at (ap (λ (n : ℕ). n % writers) (let f : k + 1 + i ≡ k + suc i = omega arith in f) ∙ is) in
    elim (cases_eq (k % writers) w) [
      | inl own ↦ (let all : rows_of writers w k (x ∷ xs) ≡ x ∷ rows_of writers w (k + 1) xs = rw (eq-eqb (k % writers) w own) refl in
          (suc r.0, ap (λ (rs : List RowValue). slice_get rs (suc r.0)) all ∙ r.1))
      | inr other ↦
          (let all : rows_of writers w k (x ∷ xs) ≡ rows_of writers w (k + 1) xs = rw (ne_eqb (k % writers) w other) refl in
          (r.0, ap (λ (rs : List RowValue). slice_get rs r.0) all ∙ r.1))
    ]

-- the entry of a row that was written
written_from : (w : ℕ) (es : List Entry) (row : RowValue) → Has (written_by w es) row → (o : ℕ) × (x : Entry) × (slice_get es o ≡ Some x) × (x.row ≡ row)
written_from w [] row h = absurd (cc h.1)
written_from w (e ∷ es) row h = elim (cases_eq e.writer w) [
  | inl own ↦ first (λ h. written_from w es row h) (subst (λ (rs : List RowValue). Has rs row) (written_own w e es own) h)
  | inr other ↦ later (written_from w es row (subst (λ (rs : List RowValue). Has rs row) (written_other w e es other) h))
]
  where
    later : (o : ℕ) × (x : Entry) × (slice_get es o ≡ Some x) × (x.row ≡ row) → (o : ℕ) × (x : Entry) × (slice_get (e ∷ es) o ≡ Some x) × (x.row ≡ row)
    later r = (suc r.0, r.1, r.2, r.3)

    first : (Has (written_by w es) row → (o : ℕ) × (x : Entry) × (slice_get es o ≡ Some x) × (x.row ≡ row)) → Has (e.row ∷ written_by w es) row → (o : ℕ)
        × (x : Entry) × (slice_get (e ∷ es) o ≡ Some x) × (x.row ≡ row)
    first rest (zero, at) = (0, e, refl, cc at)
    first rest (suc k, at) = later (rest (k, at))

pub loaded_few : (log : LogValue) (first : ℕ) (rows : List RowValue) (n : PassValue) → IsShape log.shape → All (Fits (log.shape).schema) rows
    → HasLoaded log first rows n
    → distinct log.shape rows ≤ (log.shape).writers * (log.shape).nodes
loaded_few log first rows n shape fits has =
    let W = (log.shape).writers in
    let some : 0 < W = shape.writers.0 in
    (few_enough log.shape rows n.view shape (λ i row at. row_fits i row at) has.nodes
    (λ i row at. (let h = of_rows W ((first + i) % W) first rows i row at refl in
    written_from ((first + i) % W) (n.view).seen row
    (subst (λ (rs : List RowValue). Has rs row) (sym (has.own ((first + i) % W) (omega (arith, some)))) h)))
    has.settled.count)
  where
    row_fits : (i : ℕ) (row : RowValue) → slice_get rows i ≡ Some row → Fits (log.shape).schema row
    row_fits i row at =
        let low : i < length rows = slice_get_within rows i row at in
        let same : get_or rows i row ≡ row = (let f : Some (get_or rows i row) ≡ Some row = sym (slice_get-get_or rows i row low) ∙ at in cc f) in
        subst (λ (r : RowValue). Fits (log.shape).schema r) same (fits i row low)
