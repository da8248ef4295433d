-- How reads cut a stream.
use Rattle.std.specs.Prelude.{◌≡◌, ℕ, ◌<◌, ◌≤◌, List, length, take, All}
use Rattle.std.specs.List.{flat_map}
use Rattle.cf_row.specs.Row.{RowValue}
use Rattle.cf_window.specs.Windows.{rows_in_all}

-- the bytes of all pieces
abbrev pub bytes_in_all : List (List ℕ) → List ℕ
bytes_in_all pieces = flat_map (λ piece. piece) pieces

-- Reads have cut the bytes into these pieces: none is empty, and none is longer than a read moves.
pub record AreCut (bytes : List ℕ) (pieces : List (List ℕ)) : Type 0 where
  pub all : bytes_in_all pieces ≡ bytes
  pub some : All (λ piece. 0 < length piece) pieces
  pub short : All (λ piece. length piece ≤ 65536) pieces

-- Each read ended these records: those of the first k reads are those that end within the first k pieces. `Given` says which
-- records end within some first bytes of a stream.
pub record AreEnded (Given : List ℕ → List RowValue → Type 0) (pieces : List (List ℕ)) (reads : List (List RowValue)) : Type 0 where
  pub count : length reads ≡ length pieces
  pub each : (k : ℕ) → k ≤ length pieces → Given (bytes_in_all (take k pieces)) (rows_in_all (take k reads))
