-- The path that was gone down last.
use Rattle.std.proofs.Common.{◌≡◌, ◌∙◌, ℕ, zero, suc, ◌+◌, ◌-◌, ◌*◌, ◌/◌, ◌^◌, ◌<◌, ◌≤◌, inl, inr, List, length, slice_index_or, slice_set, sym, ap, subst, arith}
use Rattle.std.proofs.lemmas.Bool.{cases_eq}
use Rattle.std.proofs.lemmas.List.{length-set, get_or-set_same, get_or-set_other}
use Rattle.cf_shape.specs.Lanes.{ShapeValue}
use Rattle.cf_shape.specs.Nodes.{levels_of}
use Rattle.cf_law.specs.Words.{spot}
use Rattle.cf_law.specs.Nibbles.{nibbles}
use Rattle.cf_law.specs.Passes.{Pass}
use Rattle.cf_law.specs.Steps.{Knows}
use Rattle.cf_table.specs.Values.{PassValue}
use Rattle.cf_walk.specs.Walks.{OnlyWalked, spot_above}
use Rattle.cf_walk.specs.Reached.{IsPath}
use Rattle.cf_walk.specs.declared.tree.Path.{Path}
use Rattle.cf_walk.proofs.Turns.{front_up}

pub path_none : (shape : ShapeValue) (lane : ℕ) (path : Path) (p : Pass) → path.depth ≡ 0 → length path.nodes ≡ 16 → 0 < levels_of shape lane
    → IsPath shape lane path p
path_none shape lane path p none long some = record {
  inner = omega (arith, none, some);
  long = long;
  within = λ i a b. absurd (omega (arith, a, b, none));
  knows = λ i a b. absurd (omega (arith, a, b, none));
}

pub path_then : (shape : ShapeValue) (lane : ℕ) (path : Path) (m n : PassValue) → OnlyWalked m n → IsPath shape lane path m.view → IsPath shape lane path n.view
path_then shape lane path m n a is = record { inner = is.inner; long = is.long; within = is.within; knows = λ i x y. a.knows _ _ (is.knows i x y) }

-- keys that begin alike do so at each level above
alike_above : (levels before key d i : ℕ) → d ≤ levels → 1 ≤ i → i ≤ d → before / 16 ^ (levels - d) ≡ key / 16 ^ (levels - d)
    → before / 16 ^ (levels - i) ≡ key / 16 ^ (levels - i)
alike_above levels before key zero i le a b same = absurd (omega (arith, a, b))
alike_above levels before key (suc d) i le a b same = elim (cases_eq i (suc d)) [
  | inl e ↦ subst (λ (n : ℕ). before / 16 ^ (levels - n) ≡ key / 16 ^ (levels - n)) (sym e) same
  | inr ne ↦
      let up = front_up levels (suc d) before (omega arith) le in
      let up' = front_up levels (suc d) key (omega arith) le in
      let less : suc d - 1 ≡ d = omega arith in
      let above : before / 16 ^ (levels - (suc d - 1)) ≡ key / 16 ^ (levels - (suc d - 1)) = sym up ∙ (ap (λ (n : ℕ). n / 16) same ∙ up') in
      alike_above levels before key d i (omega (arith, le)) a (omega (arith, b, ne))
      (subst (λ (n : ℕ). before / 16 ^ (levels - n) ≡ key / 16 ^ (levels - n)) less above)
]

-- the nodes that are on the key's path too
pub path_turns : (shape : ShapeValue) (lane levels : ℕ) (old new : Path) (p : Pass) → levels ≡ levels_of shape lane → IsPath shape lane old p
    → new.nodes ≡ old.nodes → new.depth ≤ old.depth
    → (0 < new.depth → old.key / 16 ^ (levels - new.depth) ≡ new.key / 16 ^ (levels - new.depth)) → IsPath shape lane new p
path_turns shape lane levels old new p all is nodes most common =
    let inner = is.inner in
    let node = λ (i : ℕ). ap (λ (ns : List ℕ). slice_index_or ns i 0) nodes in
    record {
      inner = omega (arith, inner, most);
      long = ap (λ (ns : List ℕ). length ns) nodes ∙ is.long;
      within = λ i a b. subst (λ (n : ℕ). n < shape.writers * shape.nodes) (sym (node i)) (is.within i a (omega (arith, b, most)));
      knows = λ i a b.
          let same : old.key / 16 ^ (levels_of shape lane - i) ≡ new.key / 16 ^ (levels_of shape lane - i) =
          alike_above (levels_of shape lane) old.key new.key new.depth i (omega (arith, inner, most)) a b
          (subst (λ (l : ℕ). old.key / 16 ^ (l - new.depth) ≡ new.key / 16 ^ (l - new.depth)) all (common (omega (arith, a, b)))) in
          subst (λ (n : ℕ). Knows p (spot_above shape lane new.key i) n) (sym (node i))
          (subst (λ (v : ℕ). Knows p (spot lane (nibbles i v)) (slice_index_or old.nodes i 0)) same (is.knows i a (omega (arith, b, most))));
    }

-- one node more
pub path_longer : (shape : ShapeValue) (lane level node : ℕ) (old new : Path) (p : Pass) → IsPath shape lane old p → new.key ≡ old.key
    → new.nodes ≡ slice_set old.nodes level node → new.depth ≡ level → level ≡ old.depth + 1 → level < levels_of shape lane → levels_of shape lane ≤ 16
    → node < shape.writers * shape.nodes → Knows p (spot_above shape lane old.key level) node → IsPath shape lane new p
path_longer shape lane level node old new p is key nodes depth next low most within knows = record {
  inner = omega (arith, depth, low);
  long = ap (λ (ns : List ℕ). length ns) nodes ∙ (length-set old.nodes level node ∙ is.long);
  within = λ i a b. elim (cases_eq i level) [
    | inl e ↦ subst (λ (n : ℕ). n < shape.writers * shape.nodes) (sym (here i e)) within
    | inr ne ↦ subst (λ (n : ℕ). n < shape.writers * shape.nodes) (sym (there i ne)) (is.within i a (omega (arith, b, depth, next, ne)))
  ];
  knows = λ i a b. elim (cases_eq i level) [
    | inl e ↦ subst (λ (n : ℕ). Knows p (spot_above shape lane new.key i) n) (sym (here i e))
        (subst (λ (k : ℕ). Knows p (spot_above shape lane new.key k) node) (sym e)
        (subst (λ (k : ℕ). Knows p (spot_above shape lane k level) node) (sym key) knows))
    | inr ne ↦ subst (λ (n : ℕ). Knows p (spot_above shape lane new.key i) n) (sym (there i ne))
        (subst (λ (k : ℕ). Knows p (spot_above shape lane k i) (slice_index_or old.nodes i 0)) (sym key) (is.knows i a (omega (arith, b, depth, next, ne))))
  ];
}
  where
    here : (i : ℕ) → i ≡ level → slice_index_or new.nodes i 0 ≡ node
    here i e = ap (λ (ns : List ℕ). slice_index_or ns i 0) nodes
        ∙ (ap (λ (k : ℕ). slice_index_or (slice_set old.nodes level node) k 0) e
        ∙ get_or-set_same old.nodes level node 0 (let long = is.long in omega (arith, long, low, most)))

    there : (i : ℕ) → (i ≡ level → ⊥) → slice_index_or new.nodes i 0 ≡ slice_index_or old.nodes i 0
    there i ne = ap (λ (ns : List ℕ). slice_index_or ns i 0) nodes ∙ get_or-set_other old.nodes level i node 0 ne

-- the last node of the path, where there is one
pub path_within : (shape : ShapeValue) (lane level : ℕ) (path : Path) (p : Pass) → IsPath shape lane path p → level ≡ path.depth + 1 → 1 < level
    → slice_index_or path.nodes path.depth 0 < shape.writers * shape.nodes
path_within shape lane level path p is next some = is.within path.depth (omega (arith, next, some)) (omega arith)

pub path_knows : (shape : ShapeValue) (lane level key : ℕ) (path : Path) (p : Pass) → IsPath shape lane path p → path.key ≡ key → level ≡ path.depth + 1
    → 1 < level → Knows p (spot_above shape lane key (level - 1)) (slice_index_or path.nodes path.depth 0)
path_knows shape lane level key path p is same next some =
    let e : path.depth ≡ level - 1 = omega (arith, next) in
    subst (λ (k : ℕ). Knows p (spot_above shape lane key k) (slice_index_or path.nodes path.depth 0)) e
    (subst (λ (k : ℕ). Knows p (spot_above shape lane k path.depth) (slice_index_or path.nodes path.depth 0)) same
    (is.knows path.depth (omega (arith, next, some)) (omega arith)))

-- a node that was found is that of the path's key
pub path_node : (shape : ShapeValue) (lane key old level node span : ℕ) (p : Pass) → old ≡ key → span ≡ 16 ^ (levels_of shape lane - level)
    → Knows p (spot lane (nibbles level (key / span))) node → Knows p (spot_above shape lane old level) node
path_node shape lane key old level node span p same is knows =
    subst (λ (k : ℕ). Knows p (spot_above shape lane k level) node) (sym same) (subst (λ (v : ℕ). Knows p (spot lane (nibbles level (key / v))) node) is knows)
