-- A log of one writer, whose pass has seen all that it has finished.
use Rattle.std.specs.Prelude.{◌≡◌, ℕ, ◌<◌, List, ◌∷◌, [], ◌++◌, length, Some, slice_get}
use Rattle.std.specs.declared.result.Result.{Result}
use Rattle.std.specs.declared.result.Result.TheVariants.{Ok, Err}
use Rattle.cf_row.specs.Row.{RowValue}
use Rattle.cf_row.specs.declared.row.Entry.{Entry}
use Rattle.cf_shape.specs.Lanes.{ShapeValue}
use Rattle.cf_law.specs.Words.{Spot}
use Rattle.cf_table.specs.Values.{PassValue, LogValue, IsOf, book_of}
use Rattle.cf_table.specs.Moves.{HasAll, AreFit, MarkedIsFull}
use Rattle.cf_append.specs.Appends.{Rests}
use Rattle.cf_append.specs.Paths.{IsOnPath}
use Rattle.cf_append.specs.declared.appends.AppendFault.{AppendFault}
use Rattle.cf_append.specs.declared.appends.AppendFault.TheVariants.{Full, NodesFull}

-- The log has one writer, whose pass is at rest and has seen all that it has finished. Its book is marked only where all places
-- are covered.
pub record IsAlone (log : LogValue) (pass : PassValue) : Type 0 where
  pub of : IsOf pass log
  pub one : (log.shape).writers ≡ 1
  pub rest : Rests pass.view
  pub writer : (book_of pass.view).writer ≡ 0
  pub all : HasAll pass.view
  pub fit : AreFit log.shape pass.view
  pub full : MarkedIsFull log.shape pass.view

-- How a row was covered, by the entries before and after: as the next entry, which had a place; not at all where all places are
-- covered; and not at all where a node was wanting.
abbrev pub HasCovered : ShapeValue → RowValue → List Entry → List Entry → Result ℕ AppendFault → Type 0
HasCovered shape row before entries (Ok offset) = (offset ≡ length before) × (length before < shape.capacity)
    × (entries ≡ before ++ record { writer = 0; row = row } ∷ [])
HasCovered shape row before entries (Err Full) = (length before ≡ shape.capacity) × (entries ≡ before)
HasCovered shape row before entries (Err NodesFull) = entries ≡ before

-- What nodes were used, by those before and after: more ones for the row's paths alone; and where one was wanting, all are used.
pub record HasUsedFor (shape : ShapeValue) (row : RowValue) (before used : List Spot) (answer : Result ℕ AppendFault) : Type 0 where
  pub spots : List Spot
  pub is : used ≡ before ++ spots
  pub on : (j : ℕ) (s : Spot) → slice_get spots j ≡ Some s → IsOnPath shape row s
  pub full : answer ≡ Err NodesFull → length used ≡ shape.nodes
