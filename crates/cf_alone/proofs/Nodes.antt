-- How many different nodes some rows need.
use Rattle.std.proofs.Common.{◌≡◌, ◌⊎◌, ℕ, ◌+◌, ◌-◌, ◌*◌, ◌/◌, ◌%◌, ◌^◌, ◌<◌, ◌≤◌, zero, suc, inl, inr, List, [], ◌∷◌, ◌++◌, length, map, ◌==◌, ◌&&◌, ◌||◌, Bool, true, false, cond, Some, slice_get, refl, ap, ap₂, sym, subst, ◌∙◌, arith, eq-eqb}
use Rattle.std.specs.List.{fold, flat_map, range_with_len, list_any}
use Rattle.std.proofs.lemmas.List.{length-map}
use Rattle.std.proofs.lemmas.Nat.{pow-add}
use Rattle.std.proofs.Math.Nat.{pow-suc, div-lt_iff_lt-mul}
use Rattle.std.proofs.lemmas.Bool.{cases_Bool, and_from}
use Rattle.cf_row.proofs.Lists.{Has, has_flat, has_map}
use Rattle.cf_row.proofs.Truths.{eq_from}
use Rattle.cf_row.specs.Row.{RowValue, Fits}
use Rattle.cf_row.specs.declared.row.Entry.{Entry}
use Rattle.cf_row.proofs.Bytes.{both}
use Rattle.cf_shape.specs.Lanes.{ShapeValue, IsShape, selected_by, key_of}
use Rattle.cf_shape.specs.Nodes.{Node, levels_of, path_of, nodes_in, nodes_for, nodes_of, same_node, add_node, distinct}
use Rattle.cf_law.specs.Words.{Spot, spot}
use Rattle.cf_law.specs.Nibbles.{nibbles}
use Rattle.cf_law.specs.Passes.{Book, Pass}
use Rattle.cf_law.specs.Shapes.{path_in}
use Rattle.cf_law.proofs.Nibbles.{length-nibbles, nibbles_more, same_from_nibbles}
use Rattle.cf_append.proofs.Distinct.{on_path_node}
use Rattle.cf_law.proofs.Paths.{path_some}
use Rattle.cf_query.proofs.Turns.{nibbles_split}
use Rattle.cf_query.proofs.Keys.{key_small}
use Rattle.cf_alone.specs.Needed.{IsNeeded, IsOut, HasNodes}
use Rattle.cf_alone.proofs.Pigeons.{AreApart, no_more, from_flat, flat_most, from_map}

-- the spot of a node
abbrev pub spot_at : Node → Spot
spot_at n = spot n.lane (nibbles n.level n.front)

-- the same node by its numbers
same_is : (x y : Node) → same_node x y ≡ true → x ≡ y
same_is x y h =
    let p = both ((x.lane == y.lane) && (x.level == y.level)) (x.front == y.front) h in
    let q = both (x.lane == y.lane) (x.level == y.level) p.0 in
    let lane = eq_from x.lane y.lane q.0 in
    let level = eq_from x.level y.level q.1 in
    let front = eq_from x.front y.front p.1 in
    ap (λ (n : ℕ). record { lane = n; level = x.level; front = x.front }) lane
    ∙ (ap (λ (n : ℕ). record { lane = y.lane; level = n; front = x.front }) level ∙ ap (λ (n : ℕ). record { lane = y.lane; level = y.level; front = n }) front)

same_self : (x : Node) → same_node x x ≡ true
same_self x =
    and_from ((x.lane == x.lane) && (x.level == x.level)) (x.front == x.front)
    (and_from (x.lane == x.lane) (x.level == x.level) (eq-eqb x.lane x.lane refl) (eq-eqb x.level x.level refl)) (eq-eqb x.front x.front refl)

-- the list has a node of these numbers just where it has the node
any_has : (x : Node) (nodes : List Node) → list_any (same_node x) nodes ≡ true → Has nodes x
any_has x [] h = absurd (cc h)
any_has x (y ∷ ys) h = elim (cases_Bool (same_node x y)) [
  | inl e ↦ (0, ap (λ (n : Node). Some n) (sym (same_is x y e)))
  | inr e ↦ (let r = any_has x ys (sym (ap (λ (b : Bool). b || list_any (same_node x) ys) e) ∙ h) in (suc r.0, r.1))
]

has_any : (x : Node) (nodes : List Node) (k : ℕ) → slice_get nodes k ≡ Some x → list_any (same_node x) nodes ≡ true
has_any x [] k h = absurd (cc h)
has_any x (y ∷ ys) zero h = (let same : y ≡ x = cc h in ap (λ (b : Bool). b || list_any (same_node x) ys) (ap (same_node x) same ∙ same_self x))
has_any x (y ∷ ys) (suc k) h = elim (cases_Bool (same_node x y)) [
  | inl e ↦ ap (λ (b : Bool). b || list_any (same_node x) ys) e
  | inr e ↦ ap (λ (b : Bool). b || list_any (same_node x) ys) e ∙ has_any x ys k h
]

-- a node is there already, or is added
added : (nodes : List Node) (x : Node) → (Has nodes x × (add_node nodes x ≡ nodes)) ⊎ ((Has nodes x → ⊥) × (add_node nodes x ≡ x ∷ nodes))
added nodes x = elim (cases_Bool (list_any (same_node x) nodes)) [
  | inl e ↦ inl (any_has x nodes e, ap (λ (b : Bool). cond {A = List Node} b nodes (x ∷ nodes)) e)
  | inr e ↦ inr
      ((λ h. absurd (let f : true ≡ false = sym (has_any x nodes h.0 h.1) ∙ e in cc f)), ap (λ (b : Bool). cond {A = List Node} b nodes (x ∷ nodes)) e)
]

has_added : (nodes : List Node) (x n : Node) → Has nodes n → Has (add_node nodes x) n
has_added nodes x n h = elim (added nodes x) [
  | inl old ↦ subst (λ (ns : List Node). Has ns n) (sym old.1) h
  | inr new ↦ subst (λ (ns : List Node). Has ns n) (sym new.1) (suc h.0, h.1)
]

added_has : (nodes : List Node) (x : Node) → Has (add_node nodes x) x
added_has nodes x = elim (added nodes x) [
  | inl old ↦ subst (λ (ns : List Node). Has ns x) (sym old.1) old.0
  | inr new ↦ subst (λ (ns : List Node). Has ns x) (sym new.1) (0, refl)
]

from_added : (nodes : List Node) (x n : Node) → Has (add_node nodes x) n → Has nodes n ⊎ (x ≡ n)
from_added nodes x n h = elim (added nodes x) [
  | inl old ↦ inl (subst (λ (ns : List Node). Has ns n) old.1 h)
  | inr new ↦ first_or (subst (λ (ns : List Node). Has ns n) new.1 h)
]
  where
    first_or : Has (x ∷ nodes) n → Has nodes n ⊎ (x ≡ n)
    first_or (zero, at) = inr (cc at)
    first_or (suc k, at) = inl (k, at)

apart_more : (nodes : List Node) (x : Node) → (Has nodes x → ⊥) → AreApart nodes → AreApart (x ∷ nodes)
apart_more nodes x none apart zero zero n a b = refl
apart_more nodes x none apart zero (suc j) n a b = (let e : x ≡ n = cc a in absurd (none (j, b ∙ ap (λ (m : Node). Some m) (sym e))))
apart_more nodes x none apart (suc i) zero n a b = (let e : x ≡ n = cc b in absurd (none (i, a ∙ ap (λ (m : Node). Some m) (sym e))))
apart_more nodes x none apart (suc i) (suc j) n a b = ap suc (apart i j n a b)

apart_added : (nodes : List Node) (x : Node) → AreApart nodes → AreApart (add_node nodes x)
apart_added nodes x apart = elim (added nodes x) [
  | inl old ↦ subst (λ (ns : List Node). AreApart ns) (sym old.1) apart
  | inr new ↦ subst (λ (ns : List Node). AreApart ns) (sym new.1) (apart_more nodes x new.0 apart)
]

-- and so for all of them
fold_old : (xs nodes : List Node) (n : Node) → Has nodes n → Has (fold add_node nodes xs) n
fold_old [] nodes n h = h
fold_old (x ∷ xs) nodes n h = fold_old xs (add_node nodes x) n (has_added nodes x n h)

fold_new : (xs nodes : List Node) (k : ℕ) (n : Node) → slice_get xs k ≡ Some n → Has (fold add_node nodes xs) n
fold_new [] nodes k n at = absurd (cc at)
fold_new (x ∷ xs) nodes zero n at =
    (let e : x ≡ n = cc at in fold_old xs (add_node nodes x) n (subst (λ (m : Node). Has (add_node nodes x) m) e (added_has nodes x)))
fold_new (x ∷ xs) nodes (suc k) n at = fold_new xs (add_node nodes x) k n at

pub fold_from : (xs nodes : List Node) (n : Node) → Has (fold add_node nodes xs) n → Has nodes n ⊎ Has xs n
fold_from [] nodes n h = inl h
fold_from (x ∷ xs) nodes n h = elim (fold_from xs (add_node nodes x) n h) [
  | inr r ↦ inr (suc r.0, r.1)
  | inl l ↦ elim (from_added nodes x n l) [
    | inl old ↦ inl old
    | inr e ↦ inr (0, ap (λ (m : Node). Some m) e)
  ]
]

pub fold_apart : (xs nodes : List Node) → AreApart nodes → AreApart (fold add_node nodes xs)
fold_apart [] nodes apart = apart
fold_apart (x ∷ xs) nodes apart = fold_apart xs (add_node nodes x) (apart_added nodes x apart)

pub nothing_apart : AreApart {A = Node} []
nothing_apart i j x a b = absurd (cc a)

-- a needed spot is that of one of the rows' nodes
needed_node : (shape : ShapeValue) (rows : List RowValue) (s : Spot) → IsShape shape → IsNeeded shape rows s → (n : Node) × Has (nodes_of shape rows) n
    × (s ≡ spot_at n)
needed_node shape rows s is needed =
    let r = on_path_node shape needed.row s is needed.on in
    let all = has_flat (nodes_for shape) rows needed.place needed.row r.0 needed.at r.1.0 in
    (r.0, fold_new (flat_map (nodes_for shape) rows) [] all.0 r.0 all.1, r.1.1)

-- where a writer's nodes are all used and one more is needed, the rows need more different nodes than a writer has
pub too_many : (shape : ShapeValue) (rows : List RowValue) (b : Book) → IsShape shape
    → ((j : ℕ) (s : Spot) → slice_get b.used j ≡ Some s → IsNeeded shape rows s) → IsOut shape rows b → shape.nodes < distinct shape rows
too_many shape rows b is needed out =
    let few = no_more (out.at ∷ b.used) (map spot_at (nodes_of shape rows)) apart there in
    let many = length-map (nodes_of shape rows) spot_at in
    let full = out.full in
    omega (arith, few, many, full)
  where
    apart : AreApart (out.at ∷ b.used)
    apart zero zero s a c = refl
    apart zero (suc j) s a c = (let e : out.at ≡ s = cc a in absurd (out.other j (c ∙ ap (λ (t : Spot). Some t) (sym e))))
    apart (suc i) zero s a c = (let e : out.at ≡ s = cc c in absurd (out.other i (a ∙ ap (λ (t : Spot). Some t) (sym e))))
    apart (suc i) (suc j) s a c = ap suc (out.apart i j s a c)

    one_of : (s : Spot) → IsNeeded shape rows s → Has (map spot_at (nodes_of shape rows)) s
    one_of s n = (let r = needed_node shape rows s is n in (r.1.0, has_map spot_at (nodes_of shape rows) r.1.0 r.0 r.1.1 ∙ ap (λ (t : Spot). Some t) (sym r.2)))

    there : (i : ℕ) (s : Spot) → slice_get (out.at ∷ b.used) i ≡ Some s → Has (map spot_at (nodes_of shape rows)) s
    there zero s a = (let e : out.at ≡ s = cc a in subst (λ (t : Spot). Has (map spot_at (nodes_of shape rows)) t) e (one_of out.at out.needed))
    there (suc i) s a = one_of s (needed i s a)

-- a range has just the numbers from its first on
from_range : (a n k x : ℕ) → slice_get (range_with_len a n) k ≡ Some x → (x ≡ a + k) × (k < n)
from_range a zero k x at = absurd (cc at)
from_range a (suc n) zero x at = (let e : a ≡ x = cc at in (omega (arith, e), omega arith))
from_range a (suc n) (suc k) x at = (let r = from_range (a + 1) n k x at in let e = r.0 in let f = r.1 in (omega (arith, e), omega (arith, f)))

-- the node is on the row's path in a lane that selects the row
record IsNodeFor (shape : ShapeValue) (row : RowValue) (n : Node) : Type 0 where
  pub low : n.lane < length shape.lanes
  pub takes : selected_by shape n.lane row ≡ true
  pub some : 0 < n.level
  pub inner : n.level < levels_of shape n.lane
  pub front_is : n.front ≡ key_of shape n.lane row / 16 ^ (levels_of shape n.lane - n.level)

node_for : (shape : ShapeValue) (row : RowValue) (n : Node) → Has (nodes_for shape row) n → IsNodeFor shape row n
node_for shape row n h =
    let r = from_flat (nodes_in shape row) (range_with_len 0 (length shape.lanes)) h.0 n h.1 in
    let lane = from_range 0 (length shape.lanes) r.0 r.1 r.2 in
    in_lane r.1 (let e = lane.0 in let f = lane.1 in omega (arith, e, f)) r.3
  where
    in_lane : (lane : ℕ) → lane < length shape.lanes → Has (nodes_in shape row lane) n → IsNodeFor shape row n
    in_lane lane low there =
        let levels = levels_of shape lane in
        let key = key_of shape lane row in
        let f : ℕ → Node = λ level. record { lane = lane; level = level; front = key / 16 ^ (levels - level) } in
        elim (cases_Bool (selected_by shape lane row)) [
          | inr e ↦ absurd
              (let none : nodes_in shape row lane ≡ [] = ap (λ (b : Bool). cond {A = List Node} b (path_of lane levels key) []) e in
              let at : slice_get {X = Node} [] there.0 ≡ Some n = sym (ap (λ (ns : List Node). slice_get ns there.0) none) ∙ there.1 in cc at)
          | inl e ↦
              let all : nodes_in shape row lane ≡ path_of lane levels key = ap (λ (b : Bool). cond {A = List Node} b (path_of lane levels key) []) e in
              let m = from_map f (range_with_len 1 (levels - 1)) there.0 n (sym (ap (λ (ns : List Node). slice_get ns there.0) all) ∙ there.1) in
              let level = from_range 1 (levels - 1) there.0 m.0 m.1 in
              let up = level.0 in
              let down = level.1 in
              subst (λ (x : Node). IsNodeFor shape row x) m.2
              (record { low = low; takes = e; some = omega (arith, up); inner = omega (arith, up, down); front_is = refl })
        ]

-- then its spot leaves no choice of the node
sixteens : (n : ℕ) → 0 < 16 ^ n
sixteens zero = omega arith
sixteens (suc n) = (let r = sixteens n in omega (arith, r, pow-suc 16 n))

front_small : (levels level key : ℕ) → level < levels → key < 16 ^ levels → key / 16 ^ (levels - level) < 16 ^ level
front_small levels level key inner small =
    let e : level + (levels - level) ≡ levels = omega (arith, inner) in
    let p : 16 ^ levels ≡ 16 ^ level * 16 ^ (levels - level) = ap (λ (n : ℕ). 16 ^ n) (sym e) ∙ pow-add 16 level (levels - level) in
    (div-lt_iff_lt-mul {k = 16 ^ (levels - level)} {x = key} {y = 16 ^ level} (sixteens (levels - level))).1 (subst (λ (n : ℕ). key < n) p small)

for_small : (shape : ShapeValue) (row : RowValue) (n : Node) → IsShape shape → Fits shape.schema row → IsNodeFor shape row n → n.front < 16 ^ n.level
for_small shape row n is fits f =
    subst (λ (k : ℕ). k < 16 ^ n.level) (sym f.front_is)
    (front_small (levels_of shape n.lane) n.level (key_of shape n.lane row) f.inner (key_small shape n.lane row is f.low fits))

one_spot : (x y : Node) → x.front < 16 ^ x.level → y.front < 16 ^ y.level → spot_at x ≡ spot_at y → x ≡ y
one_spot x y low high same =
    let lane : x.lane ≡ y.lane = ap (λ (s : Spot). s.lane) same in
    let path : nibbles x.level x.front ≡ nibbles y.level y.front = ap (λ (s : Spot). s.path) same in
    let level : x.level ≡ y.level = sym (length-nibbles x.level x.front) ∙ (ap (λ (xs : List ℕ). length xs) path ∙ length-nibbles y.level y.front) in
    let front : x.front ≡ y.front =
    same_from_nibbles x.level x.front y.front low (subst (λ (k : ℕ). y.front < 16 ^ k) (sym level) high)
    (path ∙ ap (λ (k : ℕ). nibbles k y.front) (sym level)) in
    ap (λ (n : ℕ). record { lane = n; level = x.level; front = x.front }) lane
    ∙ (ap (λ (n : ℕ). record { lane = y.lane; level = n; front = x.front }) level ∙ ap (λ (n : ℕ). record { lane = y.lane; level = y.level; front = n }) front)

-- the node's spot stands on the row's path, and something of the path before it
for_path : (shape : ShapeValue) (row : RowValue) (n : Node) → IsNodeFor shape row n
    → (d e : ℕ) × (xs q : List ℕ) × (path_in shape row n.lane ≡ Some (d ∷ (xs ++ e ∷ q))) × (e ∷ q ≡ nibbles n.level n.front)
for_path shape row n f =
    let levels = levels_of shape n.lane in
    let key = key_of shape n.lane row in
    let i : ℕ = levels - n.level - 1 in
    let j : ℕ = n.level - 1 in
    let inner = f.inner in
    let some = f.some in
    let above : suc i ≡ levels - n.level = omega (arith, inner) in
    let below : suc j ≡ n.level = omega (arith, some) in
    let all : suc i + suc j ≡ levels = omega (arith, inner, some) in
    let rest : ℕ = key / 16 ^ suc i in
    let split : nibbles levels key ≡ (key % 16 ∷ nibbles i (key / 16)) ++ (rest % 16 ∷ nibbles j (rest / 16)) =
    ap (λ (m : ℕ). nibbles m key) (sym all) ∙ (nibbles_split (suc i) (suc j) key ∙ ap₂ (λ (a b : List ℕ). a ++ b) (nibbles_more i key) (nibbles_more j rest)) in
    let ends : rest % 16 ∷ nibbles j (rest / 16) ≡ nibbles n.level n.front =
    sym (nibbles_more j rest) ∙ ap₂ nibbles below (ap (λ (m : ℕ). key / 16 ^ m) above ∙ sym f.front_is) in
    (key % 16, rest % 16, nibbles i (key / 16), nibbles j (rest / 16), path_some shape row n.lane f.takes ∙ ap (λ (p : List ℕ). Some p) split, ends)

-- Where every row was seen and the books are home, the rows need no more different nodes than all writers have.
pub few_enough : (shape : ShapeValue) (rows : List RowValue) (p : Pass) → IsShape shape
    → ((i : ℕ) (row : RowValue) → slice_get rows i ≡ Some row → Fits shape.schema row) → HasNodes shape rows p
    → ((i : ℕ) (row : RowValue) → slice_get rows i ≡ Some row → (o : ℕ) × (x : Entry) × (slice_get p.seen o ≡ Some x) × (x.row ≡ row))
    → length p.books ≡ shape.writers → distinct shape rows ≤ shape.writers * shape.nodes
few_enough shape rows p is fits has seen count =
    let few = no_more (map spot_at (nodes_of shape rows)) (flat_map used p.books) apart there in
    let many = length-map (nodes_of shape rows) spot_at in
    let room = flat_most used shape.nodes p.books (λ k b at. has.room k b at) in
    let all : length p.books * shape.nodes ≡ shape.writers * shape.nodes = ap (λ (n : ℕ). n * shape.nodes) count in
    omega (arith, few, many, room, all)
  where
    used : Book → List Spot
    used b = b.used

    -- a row that needs the node
    row_of : (k : ℕ) (n : Node) → slice_get (nodes_of shape rows) k ≡ Some n → (i : ℕ) × (row : RowValue) × (slice_get rows i ≡ Some row)
        × IsNodeFor shape row n
    row_of k n at = elim (fold_from (flat_map (nodes_for shape) rows) [] n (k, at)) [
      | inl none ↦ absurd (cc none.1)
      | inr all ↦ (let r = from_flat (nodes_for shape) rows all.0 n all.1 in (r.0, r.1, r.2, node_for shape r.1 n r.3))
    ]

    there : (k : ℕ) (s : Spot) → slice_get (map spot_at (nodes_of shape rows)) k ≡ Some s → Has (flat_map used p.books) s
    there k s at =
        let m = from_map spot_at (nodes_of shape rows) k s at in
        let r = row_of k m.0 m.1 in
        let e = seen r.0 r.1 r.2 in
        let path = for_path shape r.1 m.0 r.3 in
        let node = has.paths e.0 m.0.lane path.0 path.1 path.2 path.3 e.1 e.2 (ap (λ (row : RowValue). path_in shape row m.0.lane) e.3 ∙ path.4) in
        let spot_is : spot m.0.lane (path.1 ∷ path.3) ≡ s = ap (λ (q : List ℕ). spot m.0.lane q) path.5 ∙ m.2 in
        has_flat used p.books node.0 node.2 s node.3 (node.1, node.4 ∙ ap (λ (t : Spot). Some t) spot_is)

    small : (k : ℕ) (n : Node) → slice_get (nodes_of shape rows) k ≡ Some n → n.front < 16 ^ n.level
    small k n at = (let r = row_of k n at in for_small shape r.1 n is (fits r.0 r.1 r.2) r.3)

    apart : AreApart (map spot_at (nodes_of shape rows))
    apart i j s a b =
        let x = from_map spot_at (nodes_of shape rows) i s a in
        let y = from_map spot_at (nodes_of shape rows) j s b in
        let same : x.0 ≡ y.0 = one_spot x.0 y.0 (small i x.0 x.1) (small j y.0 y.1) (x.2 ∙ sym y.2) in
        fold_apart (flat_map (nodes_for shape) rows) [] nothing_apart i j x.0 x.1 (y.1 ∙ ap (λ (n : Node). Some n) (sym same))
