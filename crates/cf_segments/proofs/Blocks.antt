-- The blocks of a list.
use Rattle.std.proofs.Common.{◌≡◌, ◌<◌, ◌≤◌, ◌+◌, ◌-◌, ◌*◌, ◌/◌, ℕ, suc, List, [], ◌∷◌, length, map, take, drop, sym, ap, ◌∙◌, arith, mul-zero, mul-suc, one-mul}
use Rattle.std.specs.List.{range_with_len}
use Rattle.std.proofs.Math.Seq.{drop-drop}
use Rattle.std.proofs.lemmas.List.{take_all}
use Rattle.std.proofs.lemmas.Nat.{div-mul-add}
use Rattle.cf_segments.specs.Blocks.{block, blocks}

module _ {X : Type 0} (n : ℕ) where
  -- the first block
  pub first_block : (xs : List X) → block n 0 xs ≡ take n xs
  first_block xs = ap (λ (i : ℕ). take n (drop i xs)) (mul-zero n)

  -- the first block of a list that is no longer
  pub whole_block : (xs : List X) → length xs ≤ n → block n 0 xs ≡ xs
  whole_block xs few = first_block xs ∙ take_all n xs few

  -- each later block is one of what lies behind the first
  pub next_block : (k : ℕ) (xs : List X) → block n (suc k) xs ≡ block n k (drop n xs)
  next_block k xs =
      let step = mul-suc n k in
      let at : n * suc k ≡ n + n * k = omega (arith, step) in
      ap (λ (i : ℕ). take n (drop i xs)) at ∙ ap (take n) (sym (drop-drop (n * k) n xs))

  -- a list that is no longer than a block is its only one
  pub blocks_one : (xs : List X) → 0 < length xs → length xs ≤ n → blocks n xs ≡ xs ∷ []
  blocks_one xs some few =
      let one = one-mul n in
      let sum : length xs + n - 1 ≡ 1 * n + (length xs - 1) = omega (arith, some, one) in
      let many : (length xs + n - 1) / n ≡ 1 = ap (λ (k : ℕ). k / n) sum ∙ div-mul-add 1 n (length xs - 1) (omega (arith, some, few)) in
      ap (λ (k : ℕ). map (λ b. block n b xs) (range_with_len 0 k)) many ∙ ap (λ (b : List X). b ∷ []) (whole_block xs few)
