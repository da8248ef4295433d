-- A row's paths: the spots of a key's prefixes, and the leaves in the lanes that select it.
use Rattle.std.proofs.Common.{◌≡◌, ℕ, ◌+◌, ◌-◌, ◌*◌, ◌/◌, ◌%◌, ◌<◌, ◌≤◌, zero, suc, inl, inr, List, [], ◌∷◌, length, length-set, set, get_or-set_same, get_or-set_other, map, replicate, Bool, true, false, Option, Some, None, slice_get, slice_index_or, refl, ap, sym, subst, ◌∙◌, arith}
use Rattle.std.proofs.Math.ListN.{get_or-map}
use Rattle.std.proofs.lemmas.Bool.{cases_eq}
use Rattle.cf_row.specs.Row.{RowValue}
use Rattle.cf_shape.specs.Lanes.{ShapeValue, IsShape, selected_by, key_of}
use Rattle.cf_shape.specs.Nodes.{levels_of}
use Rattle.cf_shape.specs.Places.Slot.{root, body}
use Rattle.cf_law.specs.Words.{Spot, spot}
use Rattle.cf_law.proofs.Heads.{get_set_other}
use Rattle.cf_law.specs.Nibbles.{nibbles}
use Rattle.cf_law.specs.Passes.{Pass}
use Rattle.cf_law.specs.Steps.{IsChild, Knows, Reaches}
use Rattle.cf_law.proofs.Paths.{path_some, path_none}
use Rattle.cf_law.specs.Shapes.{layout, path_in}
use Rattle.cf_law.proofs.Nibbles.{length-nibbles, nibbles_more}
use Rattle.cf_table.specs.Values.{PassValue}
use Rattle.cf_shape.proofs.KeyLevels.{levels_two}
use Rattle.cf_append.specs.declared.leaves.Leaf.{Leaf}
use Rattle.cf_append.specs.declared.leaves.Leaves.{Leaves}
use Rattle.cf_append.specs.declared.paths.Filing.{Filing}
use Rattle.cf_append.specs.declared.paths.Prefix.{Prefix}
use Rattle.cf_append.specs.Paths.{KeepsSeen, IsPrefix, IsAlong, IsOnPath, IsNodeOf, IsLeafIn, HasLeaves, IsFiled, IsFiledIn, HasFilings, Remembers, Keeps, KeepsLeaf, KeepsLeaves, spot_of, spot_before, path_steps}

no_nibbles : (k : ℕ) → nibbles 0 k ≡ []
unfolding nibbles
no_nibbles k = refl

one_nibble : (k : ℕ) → nibbles 1 k ≡ k % 16 ∷ []
one_nibble k = nibbles_more 0 k ∙ ap (λ (q : List ℕ). k % 16 ∷ q) (no_nibbles (k / 16))

-- below the root
pub first_child : (shape : ShapeValue) (p : Pass) (at : Prefix) → IsPrefix shape at → at.level ≡ 1
    → IsChild (layout shape) p (spot_of at) (root at.lane (at.front % 16))
first_child shape p at prefix one =
    let path : nibbles at.level at.front ≡ at.front % 16 ∷ [] = ap (λ (n : ℕ). nibbles n at.front) one ∙ one_nibble at.front in
    let low = prefix.lane in
    let inner = prefix.inner in record {
      reaches = subst (λ (q : List ℕ). Reaches p at.lane q (root at.lane (at.front % 16))) (sym path) refl;
      real = (low, omega arith);
      inner = omega (arith, inner, length-nibbles at.level at.front);
    }

-- below a node
reaches_below : (p : Pass) (l level front above : ℕ) → 1 < level → Knows p (spot l (nibbles (level - 1) (front / 16))) above
    → Reaches p l (nibbles level front) (body above (suc (front % 16)))
reaches_below p l zero front above more knows = absurd (omega (arith, more))
reaches_below p l (suc zero) front above more knows = absurd (omega (arith, more))
reaches_below p l (suc (suc j)) front above more knows =
    let less : suc (suc j) - 1 ≡ suc j = omega arith in
    let two : nibbles (suc (suc j) - 1) (front / 16) ≡ (front / 16) % 16 ∷ nibbles j (front / 16 / 16) = ap (λ (n : ℕ). nibbles n (front / 16)) less
    ∙ nibbles_more j (front / 16) in
    let all : nibbles (suc (suc j)) front ≡ front % 16 ∷ ((front / 16) % 16 ∷ nibbles j (front / 16 / 16)) = nibbles_more (suc j) front
    ∙ ap (λ (q : List ℕ). front % 16 ∷ q) (nibbles_more j (front / 16)) in
    let known : Knows p (spot l ((front / 16) % 16 ∷ nibbles j (front / 16 / 16))) above = subst (λ (q : List ℕ). Knows p (spot l q) above) two knows in
    subst (λ (q : List ℕ). Reaches p l q (body above (suc (front % 16)))) (sym all) (above, known.0, known.1, omega arith, refl)

pub next_child : (shape : ShapeValue) (p : Pass) (at : Prefix) (above : ℕ) → IsShape shape → IsPrefix shape at → 1 < at.level
    → IsNodeOf shape p (spot_before at) above → IsChild (layout shape) p (spot_of at) (body above (suc (at.front % 16)))
next_child shape p at above is prefix more node =
    let inner = prefix.inner in
    let low = node.low in
    let some = is.writers.0 in record {
      reaches = reaches_below p at.lane at.level at.front above more node.knows;
      real = (low, omega (arith, some));
      inner = omega (arith, inner, length-nibbles at.level at.front);
    }

-- the spots of the prefixes
pub along_here : (shape : ShapeValue) (at : Prefix) → IsPrefix shape at → (s : Spot) → s ≡ spot_of at → IsAlong at s
along_here shape at prefix s is =
    let some = prefix.some in
    subst (IsAlong at) (sym is) (record { lane = refl; some = omega (arith, some, length-nibbles at.level at.front); rest = []; is = refl })

nibbles_before : (level front : ℕ) → 0 < level → nibbles level front ≡ front % 16 ∷ nibbles (level - 1) (front / 16)
nibbles_before zero front some = absurd (omega (arith, some))
nibbles_before (suc j) front some = nibbles_more j front ∙ ap (λ (n : ℕ). front % 16 ∷ nibbles n (front / 16)) (let e : j ≡ suc j - 1 = omega arith in e)

pub along_before : (at before : Prefix) → 0 < at.level → before.lane ≡ at.lane → before.level ≡ at.level - 1 → before.front ≡ at.front / 16 → (s : Spot)
    → IsAlong before s → IsAlong at s
along_before at before some lane level front s a = record {
  lane = a.lane ∙ lane;
  some = a.some;
  rest = at.front % 16 ∷ a.rest;
  is = nibbles_before at.level at.front some
      ∙ ap (λ (q : List ℕ). at.front % 16 ∷ q)
      (ap (λ (n : ℕ). nibbles n (at.front / 16)) (sym level) ∙ (ap (λ (k : ℕ). nibbles before.level k) (sym front) ∙ a.is));
}

-- the prefix of the row's key without its last nibble
pub record IsWhole (shape : ShapeValue) (row : RowValue) (lane : ℕ) (at : Prefix) : Type 0 where
  pub selects : selected_by shape lane row ≡ true
  pub many : 1 < levels_of shape lane
  pub lane_is : at.lane ≡ lane
  pub level : at.level ≡ levels_of shape lane - 1
  pub front : at.front ≡ key_of shape lane row / 16

pub whole_path : (shape : ShapeValue) (row : RowValue) (lane : ℕ) (at : Prefix) → IsWhole shape row lane at
    → path_in shape row lane ≡ Some (key_of shape lane row % 16 ∷ nibbles at.level at.front)
whole_path shape row lane at w =
    let many = w.many in
    path_some shape row lane w.selects ∙ ap (λ (q : List ℕ). Some q) (nibbles_before (levels_of shape lane) (key_of shape lane row) (omega (arith, many))
    ∙ (ap (λ (n : ℕ). key_of shape lane row % 16 ∷ nibbles n (key_of shape lane row / 16)) (sym w.level)
    ∙ ap (λ (k : ℕ). key_of shape lane row % 16 ∷ nibbles at.level k) (sym w.front)))

pub on_path : (shape : ShapeValue) (row : RowValue) (lane : ℕ) (at : Prefix) → IsWhole shape row lane at → (s : Spot) → IsAlong at s → IsOnPath shape row s
on_path shape row lane at w s a = record {
  some = a.some;
  last = key_of shape lane row % 16;
  rest = a.rest;
  is = ap (λ (l : ℕ). path_in shape row l) (a.lane ∙ w.lane_is)
      ∙ (whole_path shape row lane at w ∙ ap (λ (q : List ℕ). Some (key_of shape lane row % 16 ∷ q)) a.is);
}

pub whole_at : (s h : ShapeValue) (row : RowValue) (lane level key : ℕ) → h ≡ s → IsShape s → lane < length s.lanes → selected_by s lane row ≡ true
    → level ≡ levels_of h lane → key ≡ key_of h lane row → IsWhole s row lane (record { lane = lane; level = level - 1; front = key / 16 })
whole_at s h row lane level key same is low selects levels keys = record {
  selects = selects;
  many = levels_two s lane is low;
  lane_is = refl;
  level = ap (λ (n : ℕ). n - 1) (levels ∙ ap (λ (x : ShapeValue). levels_of x lane) same);
  front = ap (λ (k : ℕ). k / 16) (keys ∙ ap (λ (x : ShapeValue). key_of x lane row) same);
}

-- what files the row, so far
pub node_still : (shape : ShapeValue) (m n : PassValue) (s : Spot) (node : ℕ) → KeepsSeen m n → IsNodeOf shape m.view s node → IsNodeOf shape n.view s node
node_still shape m n s node went is = record { knows = went.knows s node is.knows; low = is.low }

filed_still : (shape : ShapeValue) (row : RowValue) (lane : ℕ) (m n : PassValue) (filing : Option Filing) → KeepsSeen m n
    → IsFiledIn shape row m.view lane filing → IsFiledIn shape row n.view lane filing
filed_still shape row lane m n (Some f) went is =
    record { selects = is.selects; key = is.key; node = node_still shape m n (spot lane (nibbles (levels_of shape lane - 1) (f.key / 16))) f.leaf went is.node }
filed_still shape row lane m n None went passes = passes

pub filings_still : (shape : ShapeValue) (row : RowValue) (m n : PassValue) (filed : List (Option Filing)) (k : ℕ) → KeepsSeen m n
    → HasFilings shape row m.view filed k → HasFilings shape row n.view filed k
filings_still shape row m n filed k went has lane low = filed_still shape row lane m n (slice_index_or filed lane None) went (has lane low)

pub filings_more : (shape : ShapeValue) (row : RowValue) (p : Pass) (filed : List (Option Filing)) (k i : ℕ) (f : Filing) → i ≡ k → k < length filed
    → HasFilings shape row p filed k → IsFiled shape row p k f → HasFilings shape row p (set filed i (Some f)) (k + 1)
filings_more shape row p filed k i f here low has is =
    let x : Option Filing = Some f in
    subst (λ (j : ℕ). HasFilings shape row p (set filed j x) (k + 1)) (sym here) (λ lane below. elim (cases_eq lane k) [
      | inl same ↦ subst (λ (j : ℕ). IsFiledIn shape row p j (slice_index_or (set filed k x) j None)) (sym same)
          (subst (IsFiledIn shape row p k) (sym (get_or-set_same filed k x None low)) is)
      | inr other ↦ subst (IsFiledIn shape row p lane) (sym (get_or-set_other filed k lane x None other)) (has lane (omega (arith, below, other)))
    ])

pub filings_pass : (shape : ShapeValue) (row : RowValue) (p : Pass) (filed : List (Option Filing)) (k : ℕ) → HasFilings shape row p filed k
    → slice_index_or filed k None ≡ None → selected_by shape k row ≡ false → HasFilings shape row p filed (k + 1)
filings_pass shape row p filed k has none passes lane below = elim (cases_eq lane k) [
  | inl same ↦ subst (λ (j : ℕ). IsFiledIn shape row p j (slice_index_or filed j None)) (sym same) (subst (IsFiledIn shape row p k) (sym none) passes)
  | inr other ↦ has lane (omega (arith, below, other))
]

pub filed_some : (shape : ShapeValue) (row : RowValue) (p : Pass) (lane : ℕ) (filing : Option Filing) (f : Filing) → filing ≡ Some f
    → IsFiledIn shape row p lane filing → IsFiled shape row p lane f
filed_some shape row p lane filing f is filed = subst (IsFiledIn shape row p lane) is filed

pub filed_none : (shape : ShapeValue) (row : RowValue) (p : Pass) (lane : ℕ) (filing : Option Filing) → filing ≡ None → IsFiledIn shape row p lane filing
    → selected_by shape lane row ≡ false
filed_none shape row p lane filing is filed = subst (IsFiledIn shape row p lane) is filed

-- none is filed in a lane from k on
abbrev pub AreEmpty : List (Option Filing) → ℕ → Type 0
AreEmpty filed k = (lane : ℕ) → k ≤ lane → slice_index_or filed lane None ≡ None

abbrev no_filing : Option Filing
no_filing = None

none_at : (n lane : ℕ) → slice_index_or (replicate n no_filing) lane no_filing ≡ no_filing
none_at zero lane = refl
none_at (suc n) zero = refl
none_at (suc n) (suc lane) = none_at n lane

pub empty_first : AreEmpty (replicate 16 None) 0
empty_first lane from = none_at 16 lane

pub empty_more : (filed : List (Option Filing)) (k i : ℕ) (x : Option Filing) → i ≡ k → AreEmpty filed k → AreEmpty (set filed i x) (k + 1)
empty_more filed k i x here empty lane from = get_or-set_other filed i lane x None (λ same. absurd (omega (arith, same, here, from)))
    ∙ empty lane (omega (arith, from))

-- the row's path in a lane where it is filed, and its leaves
pub filed_path : (shape : ShapeValue) (row : RowValue) (lane : ℕ) (p : Pass) (f : Filing) → 1 < levels_of shape lane → IsFiled shape row p lane f
    → path_in shape row lane ≡ Some (f.key % 16 ∷ nibbles (levels_of shape lane - 1) (f.key / 16))
filed_path shape row lane p f many is =
    path_some shape row lane is.selects
    ∙ (ap (λ (k : ℕ). Some (nibbles (levels_of shape lane) k)) (sym is.key)
    ∙ ap (λ (q : List ℕ). Some q) (nibbles_before (levels_of shape lane) f.key (omega (arith, many))))

abbrev pub leaf_of : Option Filing → ℕ
leaf_of (Some f) = f.leaf
leaf_of None = 0

filed_leaf : (shape : ShapeValue) (row : RowValue) (lane : ℕ) (p : Pass) (filing : Option Filing) → 1 < levels_of shape lane
    → IsFiledIn shape row p lane filing → IsLeafIn shape row p lane (leaf_of filing)
filed_leaf shape row lane p (Some f) many is last q leads =
    let same : ◌≡◌ {A = Option (List ℕ)} (Some (f.key % 16 ∷ nibbles (levels_of shape lane - 1) (f.key / 16))) (Some (last ∷ q)) =
    sym (filed_path shape row lane p f many is) ∙ leads in
    let rest : nibbles (levels_of shape lane - 1) (f.key / 16) ≡ q = cc same in
    subst (λ (r : List ℕ). IsNodeOf shape p (spot lane r) f.leaf) rest is.node
filed_leaf shape row lane p None many passes last q leads = absurd (cc (sym (path_none shape row lane passes) ∙ leads))

pub filings_leaves : (shape : ShapeValue) (row : RowValue) (p : Pass) (filed : List (Option Filing)) (n : ℕ) → IsShape shape → n ≤ length shape.lanes
    → HasFilings shape row p filed n → HasLeaves shape row p (map leaf_of filed) n
filings_leaves shape row p filed n is le has lane low =
    subst (IsLeafIn shape row p lane) (sym (get_or-map leaf_of filed lane no_filing))
    (filed_leaf shape row lane p (slice_index_or filed lane None) (levels_two shape lane is (omega (arith, low, le))) (has lane low))

-- the leaves that are kept
set_here : {A : Type 0} (xs : List A) (i : ℕ) (x : A) → i < length xs → slice_get (set xs i x) i ≡ Some x
set_here [] i x low = absurd (omega (arith, low))
set_here (y ∷ ys) zero x low = refl
set_here (y ∷ ys) (suc i) x low = set_here ys i x (omega (arith, low))

-- leaves that were kept can be taken by a pass that knows each node that was known
pub remembers_still : (shape : ShapeValue) (p q : Pass) (leaves : Leaves) → ((s : Spot) (node : ℕ) → Knows p s node → Knows q s node)
    → Remembers shape p leaves → Remembers shape q leaves
remembers_still shape p q leaves knows near = record {
  long = near.long;
  stands = λ lane front node low kept. (let there = near.stands lane front node low kept in record { knows = knows _ node there.knows; low = there.low });
}

pub remembers_more : (shape : ShapeValue) (p : Pass) (leaves : Leaves) (lane front node : ℕ) → lane < length shape.lanes → length shape.lanes ≤ 16
    → Remembers shape p leaves → IsNodeOf shape p (spot lane (nibbles (levels_of shape lane - 1) front)) node
    → Remembers shape p (record leaves { kept = set leaves.kept lane (Some record { front = front; node = node }) })
remembers_more shape p leaves lane front node low few near there =
    let long = near.long in
    let x : Option Leaf = Some record { front = front; node = node } in
    let inside : lane < length leaves.kept = omega (arith, low, few, long) in
    record {
      long = length-set leaves.kept lane x ∙ near.long;
      stands = λ l f n below kept. elim (cases_eq l lane) [
        | inl same ↦
            let at : Some x ≡ Some (Some record { front = f; node = n }) = sym (set_here leaves.kept lane x inside)
            ∙ (ap (λ (j : ℕ). slice_get (set leaves.kept lane x) j) (sym same) ∙ kept) in
            let is : record { front = front; node = node } ≡ record { front = f; node = n } = cc at in
            subst (λ (j : ℕ). IsNodeOf shape p (spot j (nibbles (levels_of shape j - 1) f)) n) (sym same)
            (subst (λ (h : Leaf). IsNodeOf shape p (spot lane (nibbles (levels_of shape lane - 1) h.front)) h.node) is there)
        | inr other ↦ near.stands l f n below (sym (get_set_other leaves.kept lane l x other) ∙ kept)
      ];
    }

-- whether the leaf of a row is kept
pub kept_by : (shape : ShapeValue) (row : RowValue) (leaves : Leaves) (lane key node : ℕ) → key ≡ key_of shape lane row → Keeps leaves lane (key / 16) node
    → KeepsLeaf shape row leaves lane
kept_by shape row leaves lane key node same kept = (node, subst (λ (k : ℕ). Keeps leaves lane (k / 16) node) same kept)

pub kept_now : (shape : ShapeValue) (row : RowValue) (leaves : Leaves) (lane key node : ℕ) → key ≡ key_of shape lane row → lane < length leaves.kept
    → KeepsLeaf shape row (record leaves { kept = set leaves.kept lane (Some record { front = key / 16; node = node }) }) lane
kept_now shape row leaves lane key node same low =
    kept_by shape row (record leaves { kept = set leaves.kept lane (Some record { front = key / 16; node = node }) }) lane key node same
    (set_here leaves.kept lane (Some record { front = key / 16; node = node }) low)

pub kept_other : (leaves : Leaves) (lane front node l : ℕ) → (l ≡ lane → ⊥)
    → slice_get (set leaves.kept lane (Some record { front = front; node = node })) l ≡ slice_get leaves.kept l
kept_other leaves lane front node l other = get_set_other leaves.kept lane l (Some record { front = front; node = node }) other

pub not_kept : (shape : ShapeValue) (row : RowValue) (leaves : Leaves) (lane key : ℕ) → key ≡ key_of shape lane row
    → ((node : ℕ) → Keeps leaves lane (key / 16) node → ⊥) → KeepsLeaf shape row leaves lane → ⊥
not_kept shape row leaves lane key same none kept = none kept.0 (subst (λ (k : ℕ). Keeps leaves lane (k / 16) kept.0) (sym same) kept.1)

pub keeps_still : (shape : ShapeValue) (row : RowValue) (a b : Leaves) (lane : ℕ) → slice_get b.kept lane ≡ slice_get a.kept lane → KeepsLeaf shape row a lane
    → KeepsLeaf shape row b lane
keeps_still shape row a b lane same kept = (kept.0, same ∙ kept.1)

-- one lane more
pub keeps_more : (shape : ShapeValue) (row : RowValue) (a b : Leaves) (k : ℕ) → KeepsLeaves shape row a k
    → ((l : ℕ) → (l ≡ k → ⊥) → slice_get b.kept l ≡ slice_get a.kept l) → KeepsLeaf shape row b k → KeepsLeaves shape row b (k + 1)
keeps_more shape row a b k has others here lane low passes = elim (cases_eq lane k) [
  | inl e ↦ subst (λ (j : ℕ). KeepsLeaf shape row b j) (sym e) here
  | inr ne ↦ keeps_still shape row a b lane (others lane ne) (has lane (omega (arith, low, ne)) passes)
]

pub keeps_passed : (shape : ShapeValue) (row : RowValue) (a : Leaves) (k : ℕ) → KeepsLeaves shape row a k → selected_by shape k row ≡ false
    → KeepsLeaves shape row a (k + 1)
keeps_passed shape row a k has fails lane low passes = elim (cases_eq lane k) [
  | inl e ↦ absurd (let both : true ≡ false = sym passes ∙ (ap (λ (j : ℕ). selected_by shape j row) e ∙ fails) in absurd (cc both))
  | inr ne ↦ has lane (omega (arith, low, ne)) passes
]

pub path_steps_none : (shape : ShapeValue) → path_steps shape 0 ≡ 0
unfolding path_steps
path_steps_none shape = refl

pub path_steps_more : (shape : ShapeValue) (k : ℕ) → path_steps shape (suc k) ≡ path_steps shape k + 3 * (levels_of shape k - 1)
unfolding path_steps
path_steps_more shape k = refl

pub path_steps_up : (shape : ShapeValue) (j k : ℕ) → j ≤ k → path_steps shape j ≤ path_steps shape k
path_steps_up shape j zero le = (let e : j ≡ 0 = omega (arith, le) in let f = ap (path_steps shape) e in omega (arith, f))
path_steps_up shape j (suc k) le = elim (cases_eq j (suc k)) [
  | inl same ↦ (let f = ap (path_steps shape) same in omega (arith, f))
  | inr other ↦ (let up = path_steps_up shape j k (omega (arith, le, other)) in omega (arith, up, path_steps_more shape k))
]

-- whether the lane selects the row, by what the shape's function said
pub selected_there : (s h : ShapeValue) (row : RowValue) (lane : ℕ) (takes answer : Bool) → h ≡ s → takes ≡ selected_by h lane row → takes ≡ answer
    → selected_by s lane row ≡ answer
selected_there s h row lane takes answer same is told = ap (λ (x : ShapeValue). selected_by x lane row) (sym same) ∙ (sym is ∙ told)
