-- Groups of several logs are merged, as the words that readers tell.
use Rattle.std.specs.Prelude.{◌≡◌, ℕ, ◌+◌, ◌*◌, ◌/◌, ◌<◌, ◌≤◌, ◌^◌, List, ◌++◌, length, map, slice_index, Result, Ok, Err, Vec}
use Rattle.std.specs.List.{range_with_len}
use Rattle.std.specs.Global.{Global}
use Rattle.cf_fold.specs.Quads.{QuadValue, IsQuad}
use Rattle.cf_plain.specs.Segments.{merged, numbers_in}
use Rattle.cf_store.specs.Asks.{groups_words}
use Rattle.cf_store.specs.declared.refusals.MergeRefusal.{MergeRefusal}
use Rattle.cf_store.specs.declared.refusals.MergeRefusal.TheVariants.{NoGroups, Memory}

-- the quad of numbers that a log may have
pub record IsToldQuad (q : QuadValue) : Type 0 where
  pub quad : IsQuad q
  pub few : q.count ≤ 2 ^ 20

-- the quad in the five words at that place
abbrev pub quad_at : List ℕ → ℕ → QuadValue
quad_at words k = record {
  count = slice_index words (5 * k + 1);
  sum = slice_index words (5 * k + 2);
  least = slice_index words (5 * k + 3);
  greatest = slice_index words (5 * k + 4);
}

-- and its key
abbrev pub group_at : List ℕ → ℕ → ℕ × QuadValue
group_at words k = (slice_index words (5 * k), quad_at words k)

-- the words are those of groups: five for each
pub record AreGroups (words : List ℕ) : Type 0 where
  pub whole : (length words / 5) * 5 ≡ length words
  pub each : (k : ℕ) → k < length words / 5 → IsToldQuad (quad_at words k)

-- these
abbrev pub groups_in : List ℕ → List (ℕ × QuadValue)
groups_in words = map (group_at words) (range_with_len 0 (length words / 5))

-- both lists are of groups, and of at most 2^20 numbers together
pub record CanMerge (one other : List ℕ) : Type 0 where
  pub one_is : AreGroups one
  pub other_is : AreGroups other
  pub few : numbers_in (groups_in one ++ groups_in other) ≤ 2 ^ 20

-- What merging two lists of groups answers. There may be no memory for lists that can be merged.
abbrev pub Merges : List ℕ → List ℕ → Result (Vec ℕ Global) MergeRefusal → Type 0
Merges one other (Ok words) = CanMerge one other × (words.items ≡ groups_words (merged (groups_in one ++ groups_in other)))
Merges one other (Err NoGroups) = CanMerge one other → ⊥
Merges one other (Err Memory) = CanMerge one other
