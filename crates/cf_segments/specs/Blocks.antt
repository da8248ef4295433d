-- The rows of a log that goes on through several segments, block by block: each segment holds one.
use Rattle.std.specs.Prelude.{ℕ, ◌+◌, ◌-◌, ◌*◌, ◌/◌, List, length, take, drop, map}
use Rattle.std.specs.List.{range_with_len}

-- Block k of a list, where each block has n items: those from n * k on. The last block may be shorter, and those after it are empty.
abbrev pub block : {X : Type 0} → ℕ → ℕ → List X → List X
block n k xs = take n (drop (n * k) xs)

-- the blocks of a list that have an item, in order
abbrev pub blocks : {X : Type 0} → ℕ → List X → List (List X)
blocks n xs = map (λ k. block n k xs) (range_with_len 0 ((length xs + n - 1) / n))
