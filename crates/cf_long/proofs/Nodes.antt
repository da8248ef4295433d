-- Which nodes the rows of a log need whose segments are let go.
use Rattle.std.proofs.Common.{◌≡◌, ◌∙◌, ℕ, ◌+◌, ◌-◌, ◌*◌, ◌/◌, ◌<◌, ◌≤◌, inl, inr, List, ◌++◌, length, take, drop, sym, ap, subst, arith, mul-le-mul_left, mul-suc, suc}
use Rattle.std.proofs.Math.Seq.{drop-append-add}
use Rattle.std.proofs.lemmas.Bool.{cases_lt}
use Rattle.std.proofs.lemmas.List.{drop-append-le, length-drop, take-append-le}
use Rattle.std.proofs.lemmas.List.FromFn.{get_or-map-range_with_len, length-map-range_with_len}
use Rattle.std.proofs.Math.Nat.{mul-add}
use Rattle.cf_row.specs.Row.{RowValue}
use Rattle.cf_shape.specs.Lanes.{ShapeValue}
use Rattle.cf_shape.specs.Nodes.{distinct}
use Rattle.cf_segments.specs.Blocks.{block}
use Rattle.cf_load.proofs.Batches.{distinct_more}
use Rattle.cf_load.proofs.Loaders.{block_more}
use Rattle.cf_fill.specs.Logs.{IsUnmade}
use Rattle.cf_fill.specs.Needs.{NeedsMore}
use Rattle.cf_fill.specs.declared.log.Unmade.{Unmade}
use Rattle.cf_fill.specs.declared.log.Unmade.TheVariants as unmade
use Rattle.cf_fill.proofs.Sealing.{needs_more}

-- the blocks of rows that fill blocks, and of others behind them
module _ (n b : ℕ) (xs ys : List RowValue) (whole : length xs ≡ n * b) where
  block_behind : (k : ℕ) → block n (b + k) (xs ++ ys) ≡ block n k ys
  block_behind k =
      let at : n * (b + k) ≡ length xs + n * k = mul-add n b k ∙ ap (λ (i : ℕ). i + n * k) (sym whole) in
      ap (take n) (ap (λ (i : ℕ). drop i (xs ++ ys)) at ∙ drop-append-add xs ys (n * k))

  block_before : (k : ℕ) → k < b → block n k (xs ++ ys) ≡ block n k xs
  block_before k low =
      let far : n * suc k ≤ n * b = mul-le-mul_left n (let e : suc k ≤ b = omega (arith, low) in e) in
      let step = mul-suc n k in
      let long = length-drop (n * k) xs in
      ap (take n) (drop-append-le (n * k) xs ys (omega (arith, far, step, whole)))
      ∙ take-append-le n (drop (n * k) xs) ys (omega (arith, long, far, step, whole))

module _ (shape : ShapeValue) (n : ℕ) where
  -- which block needs more
  pub lack_in : (rows : List RowValue) → NeedsMore shape n rows → (k : ℕ) × (n < distinct shape (block shape.capacity k rows))
  lack_in rows lack =
      let f : ℕ → List RowValue = λ k. block shape.capacity k rows in
      let count = (length rows + shape.capacity - 1) / shape.capacity in
      let low = lack.2 in
      let size = length-map-range_with_len f 0 count in
      let same : lack.1 ≡ f lack.0 = sym lack.3 ∙ get_or-map-range_with_len f 0 count lack.0 lack.0 lack.1 (omega (arith, low, size)) (omega arith) in
      (lack.0, subst (λ (rs : List RowValue). n < distinct shape rs) same lack.4)

  -- so it does where rows came behind
  pub lack_on : (rows more : List RowValue) → NeedsMore shape n rows → NeedsMore shape n (rows ++ more)
  lack_on rows more lack =
      let at = lack_in rows lack in
      let b = block_more shape.capacity at.0 rows more in
      let d = distinct_more shape (block shape.capacity at.0 rows) b.0 in
      let many = at.1 in
      needs_more shape n (rows ++ more) at.0 (subst (λ (rs : List RowValue). n < distinct shape rs) (sym b.1) (omega (arith, many, d)))

  module _ (b : ℕ) (xs ys : List RowValue) (whole : length xs ≡ shape.capacity * b) where
    -- and behind rows that fill blocks
    pub lack_behind : NeedsMore shape n ys → NeedsMore shape n (xs ++ ys)
    lack_behind lack =
        let at = lack_in ys lack in
        needs_more shape n (xs ++ ys) (b + at.0)
        (subst (λ (rs : List RowValue). n < distinct shape rs) (sym (block_behind shape.capacity b xs ys whole at.0)) at.1)

    -- no block of both needs more where none of either does
    pub few_both : ((k : ℕ) → distinct shape (block shape.capacity k xs) ≤ n) → ((k : ℕ) → distinct shape (block shape.capacity k ys) ≤ n)
        → (k : ℕ) → distinct shape (block shape.capacity k (xs ++ ys)) ≤ n
    few_both first then k = elim (cases_lt k b) [
      | inl low ↦ subst (λ (rs : List RowValue). distinct shape rs ≤ n) (sym (block_before shape.capacity b xs ys whole k low)) (first k)
      | inr past ↦
          let at : b + (k - b) ≡ k = omega (arith, past) in
          subst (λ (i : ℕ). distinct shape (block shape.capacity i (xs ++ ys)) ≤ n) at
          (subst (λ (rs : List RowValue). distinct shape rs ≤ n) (sym (block_behind shape.capacity b xs ys whole (k - b))) (then (k - b)))
    ]

-- a log of rows that wasn't made isn't made where others come behind
pub unmade_on : (shape : ShapeValue) (rows more : List RowValue) (why : Unmade) → IsUnmade shape rows why → IsUnmade shape (rows ++ more) why
unmade_on shape rows more unmade.Nodes is = lack_on shape shape.nodes rows more is
unmade_on shape rows more unmade.Memory is = tt

-- or stand before
pub unmade_behind : (shape : ShapeValue) (b : ℕ) (xs ys : List RowValue) (why : Unmade) → length xs ≡ shape.capacity * b → IsUnmade shape ys why
    → IsUnmade shape (xs ++ ys) why
unmade_behind shape b xs ys unmade.Nodes whole is = lack_behind shape shape.nodes b xs ys whole is
unmade_behind shape b xs ys unmade.Memory whole is = tt
