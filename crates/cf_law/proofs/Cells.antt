-- The words of the version of a lane that measures are those of a cell.
use Rattle.std.proofs.Common.{◌≡◌, ℕ, ◌+◌, ◌*◌, ◌<◌, ◌^◌, List, ◌∷◌, length, map, true, Bool, cond, refl, ap, ap₂, sym, ◌∙◌, arith}
use Rattle.std.proofs.lemmas.List.{length-map}
use Rattle.cf_row.specs.Row.{RowValue}
use Rattle.cf_fold.specs.Quads.{QuadValue, quad_of, IsQuad}
use Rattle.cf_fold.specs.Cells.{AreWordsOf, halves}
use Rattle.cf_fold.specs.declared.cell.CellWords.{CellWords}
use Rattle.cf_law.specs.Words.{Layout, link_to_newest, version_word}

-- what the lane measures of the row and of a chain
abbrev pub amounts_of : Layout → ℕ → List (ℕ × RowValue) → RowValue → List ℕ
amounts_of layout l c r = map (λ x. layout.amount x l) (r ∷ map (λ x. x.1) c)

amounts_long : (layout : Layout) (l : ℕ) (c : List (ℕ × RowValue)) (r : RowValue) → length (amounts_of layout l c r) ≡ length c + 1
amounts_long layout l c r =
    length-map (r ∷ map (λ x. x.1) c) (λ x. layout.amount x l) ∙ (let e = length-map c (λ (x : ℕ × RowValue). x.1) in omega (arith, e))

first_word : (layout : Layout) (l : ℕ) (c : List (ℕ × RowValue)) (r : RowValue) → layout.is_measured l ≡ true
    → version_word layout l 0 c r ≡ halves (link_to_newest c) (length (amounts_of layout l c r))
unfolding version_word
first_word layout l c r takes =
    ap (λ (b : Bool). halves (link_to_newest c) (cond {A = ℕ} b (length c + 1) 0)) takes
    ∙ ap (halves (link_to_newest c)) (sym (amounts_long layout l c r))

sum_word : (layout : Layout) (l : ℕ) (c : List (ℕ × RowValue)) (r : RowValue)
    → version_word layout l 1 c r ≡ (quad_of (amounts_of layout l c r)).sum
unfolding version_word
sum_word layout l c r = refl

ends_word : (layout : Layout) (l : ℕ) (c : List (ℕ × RowValue)) (r : RowValue) → let q = quad_of (amounts_of layout l c r) in
    version_word layout l 2 c r ≡ halves q.least q.greatest
unfolding version_word
ends_word layout l c r = refl

pub version_to_cell : (layout : Layout) (l : ℕ) (c : List (ℕ × RowValue)) (r : RowValue) (words : CellWords) → layout.is_measured l ≡ true
    → link_to_newest c < 2 ^ 32 → IsQuad (quad_of (amounts_of layout l c r))
    → words.first ≡ version_word layout l 0 c r → words.sum ≡ version_word layout l 1 c r → words.ends ≡ version_word layout l 2 c r
    → AreWordsOf words (link_to_newest c) (quad_of (amounts_of layout l c r))
version_to_cell layout l c r words takes low lawful first sum ends = record {
  link_is_low = low;
  lawful = lawful;
  first_is = first ∙ first_word layout l c r takes;
  sum_is = sum ∙ sum_word layout l c r;
  ends_is = ends ∙ ends_word layout l c r;
}

pub cell_to_version : (layout : Layout) (l : ℕ) (c : List (ℕ × RowValue)) (r : RowValue) (words : CellWords) (link : ℕ) (q : QuadValue)
    → layout.is_measured l ≡ true → link ≡ link_to_newest c → q ≡ quad_of (amounts_of layout l c r) → AreWordsOf words link q
    → (words.first ≡ version_word layout l 0 c r) × (words.sum ≡ version_word layout l 1 c r) × (words.ends ≡ version_word layout l 2 c r)
cell_to_version layout l c r words link q takes at is w = (
  w.first_is ∙ (ap₂ (λ (a : ℕ) (p : QuadValue). halves a p.count) at is ∙ sym (first_word layout l c r takes)),
  w.sum_is ∙ (ap (λ (p : QuadValue). p.sum) is ∙ sym (sum_word layout l c r)),
  w.ends_is ∙ (ap (λ (p : QuadValue). halves p.least p.greatest) is ∙ sym (ends_word layout l c r)),
)
