-- What a walk through trees and chains finds, and what it does to the pass that makes it.
use Rattle.std.specs.Prelude.{ℕ, ◌≡◌, ◌==◌, ◌<◌, ◌≤◌, ◌+◌, ◌-◌, ◌*◌, ◌/◌, ◌%◌, ◌^◌, zero, suc, List, [], ◌∷◌, ◌++◌, length, map, cond, true, false, Some, slice_get}
use Rattle.cf_row.specs.declared.row.Entry.{Entry}
use Rattle.cf_shape.specs.Lanes.{ShapeValue, measure_of}
use Rattle.cf_shape.specs.Places.{Slot}
use Rattle.cf_shape.specs.Places.Slot.{root, body}
use Rattle.cf_shape.specs.Nodes.{levels_of}
use Rattle.cf_shape.specs.Uses.{is_measured}
use Rattle.cf_law.specs.Words.{Spot, spot, has}
use Rattle.cf_law.specs.Nibbles.{nibbles}
use Rattle.cf_law.specs.Passes.{Pass}
use Rattle.cf_law.specs.Readers.{IsIn, NoneThrough, picks}
use Rattle.cf_law.specs.Shapes.{layout, path_in}
use Rattle.cf_law.specs.Steps.{Knows, met_of}
use Rattle.cf_table.specs.Values.{PassValue, LogValue, IsOf}
use Rattle.cf_table.specs.Moves.{IsReading}
use Rattle.cf_table.specs.Loads.{CountsLoads}

-- what the first `level` nibbles of a key stand for, in the lane of that number
abbrev pub spot_above : ShapeValue → ℕ → ℕ → ℕ → Spot
spot_above shape lane key level = spot lane (nibbles level (key / 16 ^ (levels_of shape lane - level)))

-- the leaf of a key in the lane of that number: what all nibbles of the key stand for
abbrev pub leaf_of : ShapeValue → ℕ → ℕ → Spot
leaf_of shape lane key = spot lane (nibbles (levels_of shape lane) key)

-- of what was seen, the places of a writer's entries in a key's leaf, the newest first
abbrev pub chain_places : ShapeValue → ℕ → ℕ → List Entry → ℕ → List ℕ
chain_places shape lane key seen w = map (λ x. x.0) (picks (layout shape) w (leaf_of shape lane key) seen (length seen))

-- those of the first n writers
unfoldable pub leaf_places : ShapeValue → ℕ → ℕ → List Entry → ℕ → List ℕ
leaf_places shape lane key seen zero = []
leaf_places shape lane key seen (suc w) = leaf_places shape lane key seen w ++ chain_places shape lane key seen w

-- those of n keys from the lowest on, and of all writers
unfoldable pub range_places : ShapeValue → ℕ → ℕ → List Entry → ℕ → List ℕ
range_places shape lane low seen zero = []
range_places shape lane low seen (suc n) = range_places shape lane low seen n ++ leaf_places shape lane (low + n) seen shape.writers

-- The pass only looked at words of trees and chains: its last look, the nodes that it knows and its cursor may be others,
-- and it knows no node less.
pub record OnlyWalked (before after : PassValue) : Type 0 where
  pub same : after ≡ record before { view = record before.view { look = (after.view).look; known = (after.view).known; cursor = (after.view).cursor } }
  pub knows : (s : Spot) (node : ℕ) → Knows before.view s node → Knows after.view s node

-- The pass only walked, and no word was loaded beside the steps.
pub record HasWalked (before after : PassValue) (steps_before steps_after : ℕ) : Type 0 where
  pub only : OnlyWalked before after
  pub loads : CountsLoads before after steps_before steps_after

-- the pass is one of the log's, which has a lane of that number
pub record IsOnLane (log : LogValue) (lane : ℕ) (pass : PassValue) : Type 0 where
  pub of : IsOf pass log
  pub exists : lane < length (log.shape).lanes

-- the log has a lane of that number, which measures something, and what its pass has seen are entries that it may have
pub record IsMeasuring (log : LogValue) (lane : ℕ) (pass : PassValue) : Type 0 where
  pub exists : lane < length (log.shape).lanes
  pub measured : is_measured log.shape lane ≡ true
  pub reads : IsReading log pass

-- a walk of the pass went by that place, as a ticket of that writer
abbrev pub Met : Pass → ℕ → ℕ → Type 0
Met p o w = (k : ℕ) × (slice_get (met_of p.cursor) k ≡ Some (o, w))

-- no number stands in the list twice
abbrev pub Distinct : List ℕ → Type 0
Distinct [] = Unit {0}
Distinct (x ∷ xs) = (has xs x ≡ false) × Distinct xs

-- These places, all different, lie past what was seen, and the walk of this writer went by them. What earlier walks went by it knows still, and none of these
-- is another writer's.
pub record WentBy (shape : ShapeValue) (w : ℕ) (before after : PassValue) (fresh : List ℕ) : Type 0 where
  pub distinct : Distinct fresh
  pub within : (o : ℕ) → has fresh o ≡ true → (length (before.view).seen ≤ o) × (o < shape.capacity)
  pub met : (o : ℕ) → has fresh o ≡ true → Met after.view o w
  pub apart : (o v : ℕ) → has fresh o ≡ true → Met before.view o v → v ≡ w
  pub keeps : (o v : ℕ) → Met before.view o v → Met after.view o v

-- a walk down a chain takes a step for the head, one for each place that it finds, and one for each that lies past what was seen
pub record ChainSteps (shape : ShapeValue) (w : ℕ) (m n : PassValue) (found before after : ℕ) : Type 0 where
  pub fresh : List ℕ
  pub went : WentBy shape w m n fresh
  pub steps : after ≤ before + 1 + found + length fresh

-- the pass knows the node above the leaf of that key
pub record IsAbove (shape : ShapeValue) (lane key node : ℕ) (pass : Pass) : Type 0 where
  pub exists : lane < length shape.lanes
  pub within : node < shape.writers * shape.nodes
  pub knows : Knows pass (spot_above shape lane key (levels_of shape lane - 1)) node

-- The next node on the path of a key whose first nibbles are, as a number, this front: the pass knows the node above, where that isn't the root.
pub record IsTurn (shape : ShapeValue) (lane level front node : ℕ) (pass : Pass) : Type 0 where
  pub exists : lane < length shape.lanes
  pub inner : (1 ≤ level) × (level < levels_of shape lane)
  pub within : 1 < level → node < shape.writers * shape.nodes
  pub knows : 1 < level → Knows pass (spot lane (nibbles (level - 1) (front / 16))) node

-- the child word that names it
abbrev pub turn_slot : ℕ → ℕ → ℕ → ℕ → Slot
turn_slot lane level front node = cond (level == 1) (root lane (front % 16)) (body node (suc (front % 16)))

-- that word was loaded: where it was 0, no entry that was seen goes through, and else the pass knows the node
pub record HasTurned (shape : ShapeValue) (lane level front : ℕ) (before : PassValue) (found : ℕ) (after : PassValue) : Type 0 where
  pub walked : OnlyWalked before after
  pub none : found ≡ 0 → NoneThrough (layout shape) before.view (spot lane (nibbles level front))
  pub within : 0 < found → found - 1 < shape.writers * shape.nodes
  pub knows : 0 < found → Knows after.view (spot lane (nibbles level front)) (found - 1)

-- no entry that was seen has a key that begins as this one: the span is the number of keys that do
abbrev pub IsGap : ShapeValue → ℕ → ℕ → ℕ → List Entry → Type 0
IsGap shape lane key span seen = (o k : ℕ) (e : Entry) → slice_get seen o ≡ Some e → path_in shape e.row lane ≡ Some (nibbles (levels_of shape lane) k)
    → k / span ≡ key / span → ⊥

-- all keys from the first up to the last were gone over, and the places of their entries were found
pub record WentOver (shape : ShapeValue) (lane first high : ℕ) (seen : List Entry) (before after : List ℕ) (last : ℕ) : Type 0 where
  pub from : first ≤ last
  pub upto : last ≤ high
  pub found : after ≡ before ++ range_places shape lane first seen (last - first + 1)

-- what the lane measures of a writer's entries in a key's leaf, of those that were seen, below a place, the newest first
abbrev pub amounts_below : ShapeValue → ℕ → ℕ → List Entry → ℕ → ℕ → List ℕ
amounts_below shape lane key seen w n = map (λ x. measure_of shape lane x) (map (λ x. x.1) (picks (layout shape) w (leaf_of shape lane key) seen n))

-- the entry at that place was seen, and is the writer's in that leaf
pub record IsEntryOf (shape : ShapeValue) (lane key w place : ℕ) (seen : List Entry) : Type 0 where
  pub entry : Entry
  pub at : slice_get seen place ≡ Some entry
  pub stands : IsIn (layout shape) w (leaf_of shape lane key) entry

-- what the lane measures of the entries of the first n writers in a key's leaf
unfoldable pub leaf_amounts : ShapeValue → ℕ → ℕ → List Entry → ℕ → List ℕ
leaf_amounts shape lane key seen zero = []
leaf_amounts shape lane key seen (suc w) = leaf_amounts shape lane key seen w ++ amounts_below shape lane key seen w (length seen)
