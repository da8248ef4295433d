-- A lawful shape keeps the laws of a layout.
use Rattle.std.proofs.Common.{◌≡◌, ℕ, ◌+◌, ◌^◌, ◌<◌, ◌≤◌, List, ◌∷◌, length, Option, Some, None, cond, Bool, true, nat_lt, inl, inr, arith, ap, sym, ◌∙◌}
use Rattle.std.proofs.lemmas.Bool.{cases_Bool, cases_lt, ltb-true}
use Rattle.std.proofs.lemmas.List.{get_or_past}
use Rattle.cf_row.specs.Row.{RowValue, values_fit}
use Rattle.cf_row.specs.Words.{word_count}
use Rattle.cf_row.proofs.Bytes.{both}
use Rattle.cf_row.proofs.Spelling.{spelled_long, entry_back}
use Rattle.cf_shape.specs.Lanes.{ShapeValue, IsShape, selected_by, key_of, lane_at, no_lane}
use Rattle.cf_shape.specs.Nodes.{levels_of}
use Rattle.cf_shape.specs.Uses.{cells_before, cell_words, has_measure, is_measured}
use Rattle.cf_shape.proofs.Used.{plain_at, version_at, version_is, before_fits}
use Rattle.cf_law.specs.Words.{entry}
use Rattle.cf_law.specs.Law.{LayoutLaw}
use Rattle.cf_law.specs.Nibbles.{nibbles}
use Rattle.cf_law.specs.Shapes.{path_in, row_fits, layout}
use Rattle.cf_law.proofs.Nibbles.{length-nibbles, nibble_small}

path_is : (s : ShapeValue) (r : RowValue) (l : ℕ) (p : List ℕ) → path_in s r l ≡ Some p → (selected_by s l r ≡ true)
    × (nibbles (levels_of s l) (key_of s l r) ≡ p)
path_is s r l p h = elim (cases_Bool (selected_by s l r)) [
  | inl e ↦
      let is : ◌≡◌ {A = Option (List ℕ)} (Some (nibbles (levels_of s l) (key_of s l r))) (Some p) =
      sym (ap (λ (b : Bool). cond {A = Option (List ℕ)} b (Some (nibbles (levels_of s l) (key_of s l r))) None) e) ∙ h in
      (e, (let q : nibbles (levels_of s l) (key_of s l r) ≡ p = cc is in q))
  | inr e ↦ absurd (cc (sym (ap (λ (b : Bool). cond {A = Option (List ℕ)} b (Some (nibbles (levels_of s l) (key_of s l r))) None) e) ∙ h))
]

lane_past : (s : ShapeValue) (l : ℕ) → length s.lanes ≤ l → lane_at s l ≡ no_lane
lane_past s l le = get_or_past s.lanes l no_lane le

-- no row is selected where there is no lane
lane_of : (s : ShapeValue) (r : RowValue) (l : ℕ) → selected_by s l r ≡ true → l < length s.lanes
lane_of s r l h = elim (cases_lt l (length s.lanes)) [
  | inl lt ↦ lt
  | inr le ↦ absurd (cc (sym (ap (λ (x : Rattle.cf_shape.specs.declared.lane.Lane.Lane). Rattle.cf_row.specs.Expr.holds_of x.select r) (lane_past s l le)) ∙ h))
]

fits_of : (s : ShapeValue) (r : RowValue) → row_fits s.schema r ≡ true → (values_fit s.schema r.values ≡ true) × (r.num < 2 ^ 32)
fits_of s r h = let b = both (values_fit s.schema r.values) (nat_lt r.num (2 ^ 32)) h in (b.0, ltb-true r.num (2 ^ 32) b.1)

some_words : (m : Option ℕ) → 0 < cond (has_measure m) 3 1
some_words None = omega arith
some_words (Some a) = omega arith

pub some_cell : (s : ShapeValue) (l : ℕ) → 0 < cell_words (lane_at s l)
some_cell s l = some_words (lane_at s l).measure

pub three_words : (s : ShapeValue) (l : ℕ) → is_measured s l ≡ true → cell_words (lane_at s l) ≡ 3
three_words s l measured = ap (λ (b : Bool). cond {A = ℕ} b 3 1) measured

pub layout_law : (s : ShapeValue) → IsShape s → LayoutLaw (layout s)
layout_law s is = record {
  long = λ r l p h. ap (length {A = ℕ}) (sym (path_is s r l p h).1) ∙ length-nibbles (levels_of s l) (key_of s l r);
  nibble = λ r l d p h. nibble_small (levels_of s l) (key_of s l r) d p (path_is s r l (d ∷ p) h).1;
  lanes = λ r l p h. lane_of s r l (path_is s r l p h).0;
  some_words = omega arith;
  plains = λ i lt. (omega arith, plain_at s i lt);
  spelled = λ r w fits. spelled_long s.schema (entry w r) (fits_of s r fits).0;
  reads = λ r w fits lt. entry_back s.schema (entry w r)
      (record { fits = (fits_of s r fits).0; num = (fits_of s r fits).1; writer = (let h = is.writers in omega arith) });
  cells = λ l lt. (
    word_count s.schema + 1 + cells_before s l + 0,
    (let fits = before_fits s.lanes l lt in omega (arith, fits, some_cell s l)),
    version_at s l 0 lt (some_cell s l),
  );
  once = λ i k l j li lk a b. (version_is s i l j li a).2 ∙ sym (version_is s k l j lk b).2;
  few_tickets = (let h = is.capacity in omega arith);
}
