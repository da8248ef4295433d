-- What the making of a row's paths does to a writer's pass.
use Rattle.std.specs.Prelude.{ℕ, ◌+◌, ◌-◌, ◌*◌, ◌/◌, ◌<◌, ◌≤◌, ◌≡◌, zero, suc, List, [], ◌∷◌, ◌++◌, length, true, false, Option, Some, None, slice_get, slice_index, slice_index_or}
use Rattle.cf_row.specs.Row.{RowValue}
use Rattle.cf_shape.specs.Lanes.{ShapeValue, selected_by, key_of}
use Rattle.cf_shape.specs.Nodes.{levels_of}
use Rattle.cf_shape.specs.Places.{Slot, place, sizes_of}
use Rattle.cf_law.specs.Words.{Spot, spot}
use Rattle.cf_law.specs.Nibbles.{nibbles}
use Rattle.cf_law.specs.Passes.{Book, Pass}
use Rattle.cf_law.specs.Steps.{Knows, Reaches}
use Rattle.cf_law.specs.Shapes.{layout}
use Rattle.cf_table.specs.Values.{PassValue, book_of}
use Rattle.cf_append.specs.declared.leaves.Leaves.{Leaves}
use Rattle.cf_append.specs.declared.paths.Filing.{Filing}
use Rattle.cf_append.specs.declared.paths.Prefix.{Prefix}

-- the pass is the same one, has seen as much, has noted no ask, knows each node that it knew, and looked no fewer times
pub record KeepsSeen (before after : PassValue) : Type 0 where
  pub same : after ≡ record before { view = after.view }
  pub seen : (after.view).seen ≡ (before.view).seen
  pub tails : (after.view).tails ≡ (before.view).tails
  pub told : (after.view).told ≡ (before.view).told
  pub knows : (s : Spot) (node : ℕ) → Knows before.view s node → Knows after.view s node
  pub looks : ((before.view).look).count ≤ ((after.view).look).count

-- the book with these nodes used beside those before, and with that label
abbrev pub with_nodes : List Spot → ℕ → Book → Book
with_nodes spots label b = record b { used = b.used ++ spots; label = label }

-- The pass's one book has used more nodes, each for a spot that is On; nothing else of it changed but its label.
pub record HasUsed (On : Spot → Type 0) (before after : PassValue) : Type 0 where
  pub spots : List Spot
  pub label : ℕ
  pub books : (after.view).books ≡ with_nodes spots label (book_of before.view) ∷ []
  pub on : (j : ℕ) (s : Spot) → slice_get spots j ≡ Some s → On s

-- the spot of a prefix
abbrev pub spot_of : Prefix → Spot
spot_of at = spot at.lane (nibbles at.level at.front)

-- the spot of the prefix without its last nibble
abbrev pub spot_before : Prefix → Spot
spot_before at = spot at.lane (nibbles (at.level - 1) (at.front / 16))

-- the prefix is one of keys of a lane: it is not empty, and no whole key
pub record IsPrefix (shape : ShapeValue) (at : Prefix) : Type 0 where
  pub lane : at.lane < length shape.lanes
  pub some : 0 < at.level
  pub inner : at.level < levels_of shape at.lane

-- the spot is that of the prefix, or of one before it
pub record IsAlong (at : Prefix) (spot : Spot) : Type 0 where
  pub lane : spot.lane ≡ at.lane
  pub some : 0 < length spot.path
  pub rest : List ℕ
  pub is : nibbles at.level at.front ≡ rest ++ spot.path

-- the spot is a lane that selects the row, with a proper prefix of the row's key there that is not empty
pub record IsOnPath (shape : ShapeValue) (row : RowValue) (spot : Spot) : Type 0 where
  pub some : 0 < length spot.path
  pub last : ℕ
  pub rest : List ℕ
  pub is : (layout shape).path row spot.lane ≡ Some (last ∷ (rest ++ spot.path))

-- All nodes of the writer are used, for different spots; and the last look, which was made since m, found 0 at the child
-- word of a spot that is On, for which none of these nodes is used.
pub record LacksNode (shape : ShapeValue) (On : Spot → Type 0) (before after : PassValue) : Type 0 where
  pub full : length (book_of after.view).used ≡ shape.nodes
  pub apart : (i j : ℕ) (s : Spot) → slice_get (book_of after.view).used i ≡ Some s → slice_get (book_of after.view).used j ≡ Some s → i ≡ j
  pub at : Spot
  pub on : On at
  pub slot : Slot
  pub reaches : Reaches after.view at.lane at.path slot
  pub word : ((after.view).look).word ≡ place (sizes_of shape) slot
  pub value : ((after.view).look).value ≡ 0
  pub since : ((before.view).look).count < ((after.view).look).count
  pub other : (j : ℕ) → slice_get (book_of after.view).used j ≡ Some at → ⊥

-- the pass knows the node of the spot, which is one of the log's
pub record IsNodeOf (shape : ShapeValue) (pass : Pass) (spot : Spot) (node : ℕ) : Type 0 where
  pub knows : Knows pass spot node
  pub low : node < shape.writers * shape.nodes

-- the node is that of the row's leaf in the lane: of its key without the last nibble
abbrev pub IsLeafIn : ShapeValue → RowValue → Pass → ℕ → ℕ → Type 0
IsLeafIn shape row p lane node = (last : ℕ) (q : List ℕ) → (layout shape).path row lane ≡ Some (last ∷ q) → IsNodeOf shape p (spot lane q) node

-- in each of the first n lanes that selects the row the path is whole, down to these leaves
abbrev pub HasLeaves : ShapeValue → RowValue → Pass → List ℕ → ℕ → Type 0
HasLeaves shape row p leaves n = (lane : ℕ) → lane < n → IsLeafIn shape row p lane (slice_index leaves lane)

-- The row is filed in the lane, which selects it: by its key there, in its leaf.
pub record IsFiled (shape : ShapeValue) (row : RowValue) (pass : Pass) (lane : ℕ) (filing : Filing) : Type 0 where
  pub selects : selected_by shape lane row ≡ true
  pub key : filing.key ≡ key_of shape lane row
  pub node : IsNodeOf shape pass (spot lane (nibbles (levels_of shape lane - 1) (filing.key / 16))) filing.leaf

-- the row is filed so in the lane, or the lane doesn't select it
abbrev pub IsFiledIn : ShapeValue → RowValue → Pass → ℕ → Option Filing → Type 0
IsFiledIn shape row pass lane (Some filing) = IsFiled shape row pass lane filing
IsFiledIn shape row pass lane None = selected_by shape lane row ≡ false

-- the row is filed so in each of the first n lanes that selects it
abbrev pub HasFilings : ShapeValue → RowValue → Pass → List (Option Filing) → ℕ → Type 0
HasFilings shape row pass filed n = (lane : ℕ) → lane < n → IsFiledIn shape row pass lane (slice_index_or filed lane None)

-- the node is kept for a lane, as the leaf of keys with that front
abbrev pub Keeps : Leaves → ℕ → ℕ → ℕ → Type 0
Keeps leaves lane front node = slice_get leaves.kept lane ≡ Some (Some record { front = front; node = node })

-- Each leaf that is kept for a lane of the shape is the node of its front: the keys' nibbles but the last.
pub record Remembers (shape : ShapeValue) (pass : Pass) (leaves : Leaves) : Type 0 where
  pub long : length leaves.kept ≡ 16
  pub stands : (lane front node : ℕ) → lane < length shape.lanes → Keeps leaves lane front node
      → IsNodeOf shape pass (spot lane (nibbles (levels_of shape lane - 1) front)) node

-- the leaf of the row in that lane is kept: by the front of the row's key there
abbrev pub KeepsLeaf : ShapeValue → RowValue → Leaves → ℕ → Type 0
KeepsLeaf shape row leaves lane = (node : ℕ) × Keeps leaves lane (key_of shape lane row / 16) node

-- so is the leaf in each of the first n lanes that selects the row
abbrev pub KeepsLeaves : ShapeValue → RowValue → Leaves → ℕ → Type 0
KeepsLeaves shape row leaves n = (lane : ℕ) → lane < n → selected_by shape lane row ≡ true → KeepsLeaf shape row leaves lane

-- three steps for each node on a key's path, in the first n lanes
unfoldable pub path_steps : ShapeValue → ℕ → ℕ
path_steps shape zero = 0
path_steps shape (suc lane) = path_steps shape lane + 3 * (levels_of shape lane - 1)
