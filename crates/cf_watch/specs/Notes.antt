-- What is noted of the keys of a bucket, so that a round looks only at those that may have news.
use Rattle.std.specs.Prelude.{◌≡◌, ℕ, ◌<◌, ◌≤◌, Bool, true, false, ◌==◌, List, [], length, All, slice_index_or, Option, Some, None}
use Rattle.std.specs.List.{list_any}
use Rattle.cf_fold.specs.declared.trigger.Trigger.{Trigger}
use Rattle.cf_watch.specs.Kept.{BucketValue, begun}
use Rattle.cf_watch.specs.Marks.{is_untold}

-- Whether a record came since a trigger reported its marks; for each place of the setup the trigger that did so since the last record;
-- whether the keys to which records came are noted; for each place of the setup the trigger that had reported its marks before the first
-- of those records; and the places of those keys.
pub record NotesValue : Type 0 where
  pub changed : Bool
  pub told : List (Option Trigger)
  pub noting : Bool
  pub before : List (Option Trigger)
  pub places : List ℕ

-- the key at a place
abbrev pub pair_at : List BucketValue → ℕ → BucketValue
pair_at pairs at = slice_index_or pairs at (begun 0 0)

-- it is one of these places
abbrev pub is_among : List ℕ → ℕ → Bool
is_among places at = list_any (λ p. p == at) places

-- each key with an unreported mark of the trigger is at one of these places
abbrev pub AreUntoldAt : Trigger → ℕ → List ℕ → List BucketValue → Type 0
AreUntoldAt trigger place places pairs =
    (at : ℕ) → at < length pairs → is_untold trigger place (pair_at pairs at) ≡ true → is_among places at ≡ true

-- that is so of each of these triggers, listed by their places in the setup
abbrev pub AreAllUntoldAt : List (Option Trigger) → List ℕ → List BucketValue → Type 0
AreAllUntoldAt triggers places pairs =
    (place : ℕ) (trigger : Trigger) → slice_index_or triggers place None ≡ Some trigger → AreUntoldAt trigger place places pairs

-- what is noted is true of the keys
pub record AreNotes (notes : NotesValue) (pairs : List BucketValue) : Type 0 where
  pub told : notes.changed ≡ false → AreAllUntoldAt notes.told [] pairs
  pub before : notes.noting ≡ true → AreAllUntoldAt notes.before notes.places pairs
  pub within : All (λ at. at < length pairs) notes.places

-- the key at that place changed, or began there, and all others stayed as they were
pub record ChangedAt (place : ℕ) (pairs later : List BucketValue) : Type 0 where
  pub exists : place < length later
  pub longer : length pairs ≤ length later
  pub same : (at : ℕ) → at < length later → (at ≡ place → ⊥) → (at < length pairs) × (pair_at later at ≡ pair_at pairs at)
