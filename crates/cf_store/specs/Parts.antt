-- What is true of the passes that writers and readers hold, and of the places of writers.
use Rattle.std.specs.Prelude.{◌≡◌, ◌≤◌, ℕ, List, Some, None, length, slice_get}
use Rattle.cf_table.specs.Values.{PassValue, LogValue, IsOf, book_of}
use Rattle.cf_append.specs.Appends.{IsReady}
use Rattle.cf_store.specs.Homes.{PlaceValue}

-- the place is that of a writer of the log: its pass is ready, or it was taken from there
pub record IsPlaceOf (log : LogValue) (place : PlaceValue) : Type 0 where
  pub home : (pass : PassValue) → place.home ≡ Some pass → IsReady log pass
  pub away : place.home ≡ None → 1 ≤ length place.came
  pub first : place.home ≡ None → (first : PassValue) → slice_get place.came 0 ≡ Some first → IsOf first log

-- the pass that is at home there, or was taken from there, is that of the writer of that number
pub record IsOfWriter (writer : ℕ) (place : PlaceValue) : Type 0 where
  pub home : (pass : PassValue) → place.home ≡ Some pass → (book_of pass.view).writer ≡ writer
  pub first : place.home ≡ None → (first : PassValue) → slice_get place.came 0 ≡ Some first → (book_of first.view).writer ≡ writer

-- there is a place for each writer of the log, in the order of their numbers
pub record AreNumbered (log : LogValue) (places : List PlaceValue) : Type 0 where
  pub count : length places ≡ log.shape.writers
  pub each : (k : ℕ) (place : PlaceValue) → slice_get places k ≡ Some place → IsOfWriter k place
