-- How far the path of a key was found to go.
use Rattle.std.specs.Prelude.{ℕ, ◌≡◌, ◌<◌, ◌≤◌, ◌-◌, ◌*◌, ◌/◌, ◌^◌, List, length, slice_index_or}
use Rattle.cf_row.specs.declared.row.Entry.{Entry}
use Rattle.cf_shape.specs.Lanes.{ShapeValue}
use Rattle.cf_shape.specs.Nodes.{levels_of}
use Rattle.cf_law.specs.Passes.{Pass}
use Rattle.cf_law.specs.Steps.{Knows}
use Rattle.cf_walk.specs.Walks.{IsAbove, IsGap, spot_above}
use Rattle.cf_walk.specs.declared.tree.Path.{Path}
use Rattle.cf_walk.specs.declared.tree.Descent.{Descent}
use Rattle.cf_walk.specs.declared.tree.Descent.TheVariants as reaches

-- the pass knows the node above the leaf, or no entry that was seen has a key that begins as this one
abbrev pub Reached : ShapeValue → ℕ → ℕ → Pass → List Entry → Descent → Type 0
Reached shape lane key p seen (reaches.Leaf node) = IsAbove shape lane key node p
Reached shape lane key p seen (reaches.Gap span) = (0 < span) × IsGap shape lane key span seen

-- the pass knows the nodes of the path that were found, at each level that of its key's first nibbles
pub record IsPath (shape : ShapeValue) (lane : ℕ) (path : Path) (pass : Pass) : Type 0 where
  pub inner : path.depth < levels_of shape lane
  pub long : length path.nodes ≡ 16
  pub within : (i : ℕ) → 1 ≤ i → i ≤ path.depth → slice_index_or path.nodes i 0 < shape.writers * shape.nodes
  pub knows : (i : ℕ) → 1 ≤ i → i ≤ path.depth → Knows pass (spot_above shape lane path.key i) (slice_index_or path.nodes i 0)

-- the first d nodes of the path that was gone down last are on the key's path too
abbrev pub Shares : ShapeValue → ℕ → Path → ℕ → ℕ → Type 0
Shares shape lane path key d =
    (d ≤ path.depth) × (path.key / 16 ^ (levels_of shape lane - d) ≡ key / 16 ^ (levels_of shape lane - d))
