-- A spot on a row's path is one of the distinct nodes that the row needs.
use Rattle.std.proofs.Common.{◌≡◌, ℕ, ◌+◌, ◌-◌, ◌/◌, ◌^◌, ◌<◌, List, [], ◌∷◌, ◌++◌, length, length-append, drop, Bool, true, cond, Some, slice_get, refl, ap, sym, ◌∙◌, arith}
use Rattle.std.specs.List.{range_with_len}
use Rattle.cf_row.proofs.Lists.{Has, has_flat, has_map, has_range}
use Rattle.cf_row.specs.Row.{RowValue}
use Rattle.cf_shape.specs.Lanes.{ShapeValue, IsShape, selected_by, key_of}
use Rattle.cf_shape.specs.Nodes.{Node, levels_of, path_of, nodes_in, nodes_for}
use Rattle.cf_law.specs.Words.{Spot, spot}
use Rattle.cf_law.specs.Nibbles.{nibbles}
use Rattle.cf_law.specs.Shapes.{path_in}
use Rattle.cf_law.proofs.Nibbles.{length-nibbles, drop-nibbles}
use Rattle.cf_law.proofs.Shapes.{layout_law}
use Rattle.cf_append.specs.Paths.{IsOnPath}
use Rattle.cf_law.proofs.Paths.{path_some, some_path}

drop_front : (xs ys : List ℕ) → drop (length xs) (xs ++ ys) ≡ ys
drop_front [] ys = refl
drop_front (x ∷ xs) ys = drop_front xs ys

-- the row's node of that spot
abbrev pub IsRowNode : ShapeValue → RowValue → Spot → Node → Type 0
IsRowNode shape row s n = Has (nodes_for shape row) n × (s ≡ spot n.lane (nibbles n.level n.front))

row_nodes : (shape : ShapeValue) (row : RowValue) (lane level : ℕ) → lane < length shape.lanes → selected_by shape lane row ≡ true → 0 < level
    → level < levels_of shape lane
    → Has (nodes_for shape row) (record { lane = lane; level = level; front = key_of shape lane row / 16 ^ (levels_of shape lane - level) })
row_nodes shape row lane level low takes some inner =
    let levels = levels_of shape lane in
    let key = key_of shape lane row in
    let f : ℕ → Node = λ j. record { lane = lane; level = j; front = key / 16 ^ (levels - j) } in
    let k : ℕ = level - 1 in
    let at : slice_get (range_with_len 1 (levels - 1)) k ≡ Some level = has_range 1 (levels - 1) k (omega (arith, some, inner))
    ∙ ap (λ (j : ℕ). Some j) (let e : 1 + k ≡ level = omega (arith, some) in e) in
    let all : nodes_in shape row lane ≡ path_of lane levels key = ap (λ (b : Bool). cond {A = List Node} b (path_of lane levels key) []) takes in
    let there : Has (nodes_in shape row lane) (f level) =
    (k, ap (λ (ns : List Node). slice_get ns k) all ∙ has_map f (range_with_len 1 (levels - 1)) k level at) in
    has_flat (nodes_in shape row) (range_with_len 0 (length shape.lanes)) lane lane (f level)
    (has_range 0 (length shape.lanes) lane low ∙ ap (λ (j : ℕ). Some j) (let e : 0 + lane ≡ lane = omega arith in e)) there

pub on_path_node : (shape : ShapeValue) (row : RowValue) (s : Spot) → IsShape shape → IsOnPath shape row s → (n : Node) × IsRowNode shape row s n
on_path_node shape row s is on =
    let lane = s.lane in
    let level = length s.path in
    let levels = levels_of shape lane in
    let key = key_of shape lane row in
    let front : List ℕ = on.last ∷ on.rest in
    let leads : path_in shape row lane ≡ Some (front ++ s.path) = on.is in
    let takes = some_path shape row lane (front ++ s.path) leads in
    let same : nibbles levels key ≡ front ++ s.path =
    (let e : Some (nibbles levels key) ≡ Some (front ++ s.path) = sym (path_some shape row lane takes) ∙ leads in cc e) in
    let long : levels ≡ length front + level = sym (length-nibbles levels key) ∙ (ap (λ (xs : List ℕ). length xs) same ∙ length-append front s.path) in
    let ends : s.path ≡ nibbles level (key / 16 ^ length front) =
    sym (drop_front front s.path)
    ∙ (ap (λ (xs : List ℕ). drop (length front) xs) (sym same)
    ∙ (ap (λ (n : ℕ). drop (length front) (nibbles n key)) long ∙ drop-nibbles (length front) level key)) in
    let less : length front ≡ levels - level = omega (arith, long) in
    let some = on.some in
    let low = (layout_law shape is).lanes row lane (front ++ s.path) leads in (
      record { lane = lane; level = level; front = key / 16 ^ (levels - level) },
      (
        row_nodes shape row lane level low takes some (omega (arith, long)),
        ap (λ (p : List ℕ). spot lane p) (ends ∙ ap (λ (k : ℕ). nibbles level (key / 16 ^ k)) less),
      ),
    )
