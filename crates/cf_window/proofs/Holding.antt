-- What a window holds after a row.
use Rattle.std.proofs.Common.{◌≡◌, ◌∙◌, ℕ, ◌+◌, ◌-◌, ◌<◌, ◌≤◌, zero, suc, inl, inr, List, [], ◌∷◌, ◌++◌, length, Bool, true, false, not, ◌&&◌, cond, nat_lt, nat_le, Some, slice_get, All, refl, sym, ap, ap₂, subst, arith, length-append, add-zero, append_assoc, append-nil}
use Rattle.std.specs.List.{flat_map, range_with_len, fold}
use Rattle.std.proofs.lemmas.Bool.Decides.{nat_tests}
use Rattle.std.proofs.lemmas.List.{length-map}
use Rattle.std.proofs.lemmas.List.Elements.{All-append}
use Rattle.cf_row.proofs.Lists.{get_push_same}
use Rattle.cf_row.specs.Row.{RowValue}
use Rattle.cf_shape.specs.Lanes.{ShapeValue, IsShape, selected_by, key_of}
use Rattle.cf_shape.specs.Nodes.{Node, levels_of, path_of, nodes_in, nodes_for, add_node, distinct}
use Rattle.cf_alone.proofs.Nodes.{fold_apart, fold_from, nothing_apart}
use Rattle.cf_alone.proofs.Pigeons.{no_more}
use Rattle.cf_window.specs.Segments.{WindowSegmentValue, with_row}
use Rattle.cf_window.specs.Held.{IsOfShape, IsOpenLast, IsWindow}
use Rattle.cf_window.specs.Windows.{takes}

-- the nodes of a row are no fewer than the different ones
pub few_different : (shape : ShapeValue) (row : RowValue) → distinct shape (row ∷ []) ≤ length (nodes_for shape row)
few_different shape row =
    let xs : List Node = nodes_for shape row ++ [] in
    let few = no_more (fold add_node [] xs) xs (fold_apart xs [] nothing_apart) (λ i x at. elim (fold_from xs [] x (i, at)) [
      | inl none ↦ absurd (cc none.1)
      | inr has ↦ has
    ]) in
    let same = ap (λ (ns : List Node). length ns) (append-nil (nodes_for shape row)) in
    omega (arith, few, same)

-- an empty segment takes a row that does not need too many
pub small_goes : (shape : ShapeValue) (row : RowValue) → IsShape shape → length (nodes_for shape row) ≤ shape.nodes → takes shape [] row ≡ true
small_goes shape row is low =
    let some = is.capacity.0 in
    let few = few_different shape row in
    let room : nat_lt 0 shape.capacity ≡ true = grind (arith, nat_tests) in
    let nodes : nat_le (distinct shape (row ∷ [])) shape.nodes ≡ true = grind (arith, nat_tests) in
    ap₂ (λ (a b : Bool). a && b) room nodes

-- the nodes of a row in one lane more
flat_from : (f : ℕ → List Node) (a n : ℕ) → flat_map f (range_with_len a (n + 1)) ≡ flat_map f (range_with_len a n) ++ f (a + n)
flat_from f a zero = rw (add-zero a) (append-nil (f a))
flat_from f a (suc n) =
    let e : suc n + 1 ≡ suc (n + 1) = omega arith in
    let same : a + suc n ≡ a + 1 + n = omega arith in
    rw (e, same, append_assoc (f a) (flat_map f (range_with_len (a + 1) n)) (f (a + 1 + n))) (ap (λ (ns : List Node). f a ++ ns) (flat_from f (a + 1) n))

abbrev pub counted : ShapeValue → RowValue → ℕ → ℕ
counted shape row lanes = length (flat_map (nodes_in shape row) (range_with_len 0 lanes))

pub length_range : (a n : ℕ) → length (range_with_len a n) ≡ n
length_range a zero = refl
length_range a (suc n) = ap suc (length_range (a + 1) n)

pub path_long : (lane levels key : ℕ) → length (path_of lane levels key) ≡ levels - 1
path_long lane levels key = length-map (range_with_len 1 (levels - 1)) _ ∙ length_range 1 (levels - 1)

pub counted_in : (shape : ShapeValue) (row : RowValue) (lane : ℕ) → selected_by shape lane row ≡ true
    → counted shape row (lane + 1) ≡ counted shape row lane + (levels_of shape lane - 1)
counted_in shape row lane is =
    let all : nodes_in shape row lane ≡ path_of lane (levels_of shape lane) (key_of shape lane row) =
    ap (λ (b : Bool). cond {A = List Node} b (path_of lane (levels_of shape lane) (key_of shape lane row)) []) is in
    ap (λ (ns : List Node). length ns) (flat_from (nodes_in shape row) 0 lane)
    ∙ (length-append (flat_map (nodes_in shape row) (range_with_len 0 lane)) (nodes_in shape row (0 + lane))
    ∙ ap (λ (k : ℕ). counted shape row lane + k)
    (ap (λ (k : ℕ). length (nodes_in shape row k)) (let e : 0 + lane ≡ lane = omega arith in e)
    ∙ (ap (λ (ns : List Node). length ns) all ∙ path_long lane (levels_of shape lane) (key_of shape lane row))))

pub counted_out : (shape : ShapeValue) (row : RowValue) (lane : ℕ) → selected_by shape lane row ≡ false → counted shape row (lane + 1) ≡ counted shape row lane
counted_out shape row lane is =
    let none : nodes_in shape row lane ≡ [] = ap (λ (b : Bool). cond {A = List Node} b (path_of lane (levels_of shape lane) (key_of shape lane row)) []) is in
    ap (λ (ns : List Node). length ns) (flat_from (nodes_in shape row) 0 lane)
    ∙ (length-append (flat_map (nodes_in shape row) (range_with_len 0 lane)) (nodes_in shape row (0 + lane))
    ∙ (ap (λ (k : ℕ). counted shape row lane + k)
    (ap (λ (k : ℕ). length (nodes_in shape row k)) (let e : 0 + lane ≡ lane = omega arith in e) ∙ ap (λ (ns : List Node). length ns) none)
    ∙ (let e : counted shape row lane + 0 ≡ counted shape row lane = omega arith in e)))

-- one segment more
all_one : (P : WindowSegmentValue → Type 0) (x : WindowSegmentValue) → P x → All P (x ∷ [])
all_one P x is zero d lt = is
all_one P x is (suc i) d lt = absurd (omega (arith, lt))

pub window_more : (shape : ShapeValue) (most : ℕ) (xs : List WindowSegmentValue) (x : WindowSegmentValue) → IsWindow shape most xs → x.shape ≡ shape
    → length xs < most → IsWindow shape most (xs ++ x ∷ [])
window_more shape most xs x is same low = record {
  one = is.one;
  shapes = All-append (IsOfShape shape) xs (x ∷ []) is.shapes (all_one (IsOfShape shape) x same);
  few = (let long = length-append xs (x ∷ []) in omega (arith, long, low));
  bounded = is.bounded;
  some = is.some;
}

pub open_last : (xs : List WindowSegmentValue) (x : WindowSegmentValue) → x.is_spent ≡ false → IsOpenLast (xs ++ x ∷ [])
open_last xs x is y at =
    let long = length-append xs (x ∷ []) in
    let last : length (xs ++ x ∷ []) - 1 ≡ length xs = omega (arith, long) in
    let e : Some x ≡ Some y = sym (get_push_same xs x) ∙ (ap (λ (k : ℕ). slice_get (xs ++ x ∷ []) k) (sym last) ∙ at) in
    let same : x ≡ y = cc e in
    subst (λ (z : WindowSegmentValue). z.is_spent ≡ false) same is

-- the last segment was asked to take a row
pub window_taken : (shape : ShapeValue) (most : ℕ) (xs ys : List WindowSegmentValue) → IsWindow shape most xs
    → ((s : ShapeValue) → All (IsOfShape s) xs → All (IsOfShape s) ys) → length ys ≡ length xs → IsWindow shape most ys
window_taken shape most xs ys is shapes same =
    record { one = is.one; shapes = shapes shape is.shapes; few = (let few = is.few in omega (arith, few, same)); bounded = is.bounded; some = is.some }

pub taken_from : (b : Bool) → not b ≡ false → b ≡ true
taken_from true e = refl
taken_from false e = absurd (cc e)

pub opened_window : (shape : ShapeValue) (most : ℕ) (xs ys : List WindowSegmentValue) (x : WindowSegmentValue) → IsWindow shape most xs → ys ≡ xs ++ x ∷ []
    → x.shape ≡ shape → x.is_spent ≡ false → length xs < most → IsWindow shape most ys × IsOpenLast ys
opened_window shape most xs ys x is are same fresh low = (
  subst (λ (zs : List WindowSegmentValue). IsWindow shape most zs) (sym are) (window_more shape most xs x is same low),
  subst (λ (zs : List WindowSegmentValue). IsOpenLast zs) (sym are) (open_last xs x fresh),
)

abbrev pub after_take : WindowSegmentValue → RowValue → Bool → WindowSegmentValue
after_take x row b = record { shape = x.shape; rows = with_row x.rows row b; is_spent = not b }

-- a new segment took a row that does not need too many nodes
pub new_takes : (shape : ShapeValue) (row : RowValue) (x y : WindowSegmentValue) (b : Bool) → IsShape shape → length (nodes_for shape row) ≤ shape.nodes
    → x ≡ record { shape = shape; rows = []; is_spent = false } → b ≡ takes x.shape x.rows row
    → y ≡ record { shape = x.shape; rows = with_row x.rows row b; is_spent = not b }
    → y ≡ record { shape = shape; rows = row ∷ []; is_spent = false }
new_takes shape row x y b is low empty taken after =
    let sure : b ≡ true = taken ∙ (ap (λ (z : WindowSegmentValue). takes z.shape z.rows row) empty ∙ small_goes shape row is low) in
    after ∙ ap₂ (λ (z : WindowSegmentValue) (c : Bool). after_take z row c) empty sure
