-- What a log holds that has loaded some rows.
use Rattle.std.specs.Prelude.{◌≡◌, ◌<◌, ◌+◌, ◌*◌, ℕ, List, length}
use Rattle.std.specs.List.{AllByRecursion}
use Rattle.cf_row.specs.Row.{RowValue}
use Rattle.cf_row.specs.declared.row.Entry.{Entry}
use Rattle.cf_plain.specs.Order.{batch, rows_of, written_by}
use Rattle.cf_table.specs.Values.{PassValue, LogValue, IsOf}
use Rattle.cf_table.specs.Moves.{HoldsAllBooks}
use Rattle.cf_alone.specs.Needed.{HasNodes}

-- A log of rows of which the first is row number `first`, so that each row stands in it once: in each batch each writer's entries
-- are its rows of that batch, in order.
pub record IsLogFrom (first : ℕ) (rows : List RowValue) (writers : ℕ) (log : List Entry) : Type 0 where
  pub size : length log ≡ length rows
  pub exist : AllByRecursion (λ entry. entry.writer < writers) log
  pub own : (b writer : ℕ) → writer < writers → written_by writer (batch b log) ≡ rows_of writers writer (first + 4096 * b) (batch b rows)

-- The root holds all books at rest, and what it has seen is a log of those rows, of which the first is row number `first`, each of
-- them once, with the nodes that they need.
pub record HasLoaded (log : LogValue) (first : ℕ) (rows : List RowValue) (before : PassValue) : Type 0 where
  pub of : IsOf before log
  pub settled : HoldsAllBooks log.shape before.view
  pub is : IsLogFrom first rows (log.shape).writers (before.view).seen
  pub own : (w : ℕ) → w < (log.shape).writers → written_by w (before.view).seen ≡ rows_of (log.shape).writers w first rows
  pub nodes : HasNodes log.shape rows before.view
