-- The way down a lane's tree.
use Rattle.std.proofs.Common.{◌≡◌, ◌∙◌, ℕ, zero, suc, ◌+◌, ◌-◌, ◌*◌, ◌/◌, ◌%◌, ◌^◌, ◌<◌, ◌≤◌, List, [], ◌∷◌, ◌++◌, length, Bool, cond, Some, slice_get, refl, sym, ap, ap₂, subst, arith}
use Rattle.std.proofs.Math.Nat.{pow-suc, pow-succ', div-div-eq-div-mul}
use Rattle.cf_row.proofs.Truths.{eq_false, eq_true}
use Rattle.cf_row.specs.declared.row.Entry.{Entry}
use Rattle.cf_shape.specs.Lanes.{ShapeValue, IsShape}
use Rattle.cf_shape.specs.Nodes.{levels_of}
use Rattle.cf_shape.specs.Places.{sizes_of, IsReal}
use Rattle.cf_shape.specs.Places.Slot.{root, body}
use Rattle.cf_law.specs.Words.{Spot, spot}
use Rattle.cf_law.specs.Nibbles.{nibbles}
use Rattle.cf_law.proofs.Nibbles.{nibbles_more, length-nibbles}
use Rattle.cf_law.specs.Passes.{Pass}
use Rattle.cf_law.specs.Steps.{IsChild, Knows, Reaches}
use Rattle.cf_law.specs.Readers.{NoneThrough}
use Rattle.cf_law.specs.Shapes.{layout}
use Rattle.cf_table.specs.Values.{PassValue}
use Rattle.cf_table.specs.Effects.{HasStepped, child_effect}
use Rattle.cf_walk.specs.Walks.{IsTurn, HasTurned, IsGap, turn_slot, spot_above}
use Rattle.cf_walk.proofs.Walked.{walked_by}

one_nibble : (k : ℕ) → nibbles 1 k ≡ k % 16 ∷ []
unfolding nibbles
one_nibble k = refl

two_nibbles : (j k : ℕ) → nibbles (suc (suc j)) k ≡ k % 16 ∷ (k / 16 % 16 ∷ nibbles j (k / 16 / 16))
unfolding nibbles
two_nibbles j k = refl

long : (level front n : ℕ) → level < n → length (nibbles level front) < n
long level front n lt = (let e = length-nibbles level front in omega (arith, e, lt))

root_turn : (lane level front node : ℕ) → level ≡ 1 → turn_slot lane level front node ≡ root lane (front % 16)
root_turn lane level front node e = ap (λ (b : Bool). cond b (root lane (front % 16)) (body node (suc (front % 16)))) (eq_true level 1 e)

node_turn : (lane level front node : ℕ) → (level ≡ 1 → ⊥) → turn_slot lane level front node ≡ body node (suc (front % 16))
node_turn lane level front node e = ap (λ (b : Bool). cond b (root lane (front % 16)) (body node (suc (front % 16)))) (eq_false level 1 e)

-- the child word may be loaded
pub turn_child : (shape : ShapeValue) (p : Pass) (lane level front node : ℕ) → IsShape shape → IsTurn shape lane level front node p
    → IsChild (layout shape) p (spot lane (nibbles level front)) (turn_slot lane level front node)
turn_child shape p lane zero front node is turn = absurd (let h = turn.inner in omega (arith, h.0))
turn_child shape p lane (suc zero) front node is turn =
    let at = root_turn lane 1 front node refl in
    record {
      reaches = subst (λ (q : List ℕ). Reaches p lane q (turn_slot lane 1 front node)) (sym (one_nibble front)) at;
      real = subst (IsReal (sizes_of shape)) (sym at) (turn.exists, omega arith);
      inner = long 1 front (levels_of shape lane) turn.inner.1;
    }
turn_child shape p lane (suc (suc j)) front node is turn =
    let some : 1 < suc (suc j) = omega arith in
    let at = node_turn lane (suc (suc j)) front node (λ e. absurd (omega (arith, e))) in
    let up : suc (suc j) - 1 ≡ suc j = omega arith in
    let k : Knows p (spot lane (nibbles (suc j) (front / 16))) node =
    subst (λ (n : ℕ). Knows p (spot lane (nibbles n (front / 16))) node) up (turn.knows some) in
    let w : node < shape.writers * shape.nodes = turn.within some in
    let few : front % 16 < 16 = omega arith in
    record {
      reaches = subst (λ (q : List ℕ). Reaches p lane q (turn_slot lane (suc (suc j)) front node)) (sym (two_nibbles j front))
          (node, k.0, k.1 ∙ ap (λ (q : List ℕ). Some (spot lane q, node)) (nibbles_more j (front / 16)), few, at);
      real = subst (IsReal (sizes_of shape)) (sym at) (w, (let wr = is.writers in omega (arith, few, wr)));
      inner = long (suc (suc j)) front (levels_of shape lane) turn.inner.1;
    }

-- it was loaded
pub turned : (shape : ShapeValue) (m n : PassValue) (lane level front node found : ℕ) → IsShape shape → IsTurn shape lane level front node m.view
    → HasStepped shape (child_effect shape m.view (spot lane (nibbles level front)) (turn_slot lane level front node)) m found n
    → HasTurned shape lane level front m found n
turned shape m n lane level front node zero is turn made =
    let told = made.told in
    record {
      walked = walked_by m n _ _ _ made.same told.is
          (λ r k known. subst (λ (ks : List (Spot × ℕ)). (i : ℕ) × (slice_get ks i ≡ Some (r, k))) (sym (ap (λ (p : Pass). p.known) told.is)) known);
      none = λ e. (told.tells.none (spot lane (nibbles level front)) (turn_child shape m.view lane level front node is turn) refl).0;
      within = λ some. absurd (omega (arith, some));
      knows = λ some. absurd (omega (arith, some));
    }
turned shape m n lane level front node (suc k) is turn made =
    let told = made.told in
    let s = spot lane (nibbles level front) in
    let known : (n.view).known ≡ (s, k) ∷ (m.view).known = ap (λ (p : Pass). p.known) told.is in
    let first : slice_get (n.view).known 0 ≡ Some (s, k) = ap (λ (ks : List (Spot × ℕ)). slice_get ks 0) known in
    let less : suc k - 1 ≡ k = omega arith in
    record {
      walked = walked_by m n _ _ _ made.same told.is
          (λ r v before. (suc before.0, ap (λ (ks : List (Spot × ℕ)). slice_get ks (suc before.0)) known ∙ before.1));
      none = λ e. absurd (omega (arith, e));
      within = λ some. (let b = (told.bounds.known 0 k s first).0 in omega (arith, b));
      knows = λ some. (0, first ∙ ap (λ (v : ℕ). Some (s, v)) (sym less));
    }

-- the nibbles of a key: its last ones, and then those of the rest
pub nibbles_split : (i n k : ℕ) → nibbles (i + n) k ≡ nibbles i k ++ nibbles n (k / 16 ^ i)
unfolding nibbles
nibbles_split zero n k = ap₂ nibbles (let e : zero + n ≡ n = omega arith in e) (let e : k ≡ k / 16 ^ zero = omega arith in e)
nibbles_split (suc i) n k =
    let e : suc i + n ≡ suc (i + n) = omega arith in
    ap (λ (m : ℕ). nibbles m k) e
    ∙ (ap (λ (xs : List ℕ). k % 16 ∷ xs) (nibbles_split i n (k / 16))
    ∙ ap (λ (m : ℕ). k % 16 ∷ (nibbles i (k / 16) ++ nibbles n m)) (div-div-eq-div-mul k 16 (16 ^ i) ∙ ap (λ (m : ℕ). k / m) (sym (pow-succ' 16 i))))

-- where no entry that was seen goes through a node, none has a key that begins as it does
pub gap_from_none : (shape : ShapeValue) (p : Pass) (lane key level rest span : ℕ) (seen : List Entry) → rest + level ≡ levels_of shape lane → 0 < rest
    → span ≡ 16 ^ rest → p.seen ≡ seen
    → NoneThrough (layout shape) p (spot lane (nibbles level (key / span))) → IsGap shape lane key span seen
gap_from_none shape p lane key level zero span seen all some is same none o k e at path begins = absurd (omega (arith, some))
gap_from_none shape p lane key level (suc rest) span seen all some is same none o k e at path begins =
    none o e (k % 16) (nibbles rest (k / 16)) (ap (λ (es : List Entry). slice_get es o) same ∙ at)
    (path
    ∙ (ap (λ (n : ℕ). Some (nibbles n k)) (sym all)
    ∙ (ap (λ (q : List ℕ). Some q) (nibbles_split (suc rest) level k)
    ∙ (ap (λ (xs : List ℕ). Some (xs ++ nibbles level (k / 16 ^ suc rest))) (nibbles_more rest k)
    ∙ ap (λ (v : ℕ). Some (k % 16 ∷ (nibbles rest (k / 16) ++ nibbles level v))) (ap (λ (v : ℕ). k / v) (sym is) ∙ begins)))))

-- one nibble less
pub front_up : (levels level key : ℕ) → 1 ≤ level → level ≤ levels → key / 16 ^ (levels - level) / 16 ≡ key / 16 ^ (levels - (level - 1))
front_up levels level key some le =
    let e : levels - (level - 1) ≡ suc (levels - level) = omega (arith, some, le) in
    div-div-eq-div-mul key (16 ^ (levels - level)) 16 ∙ (ap (λ (v : ℕ). key / v) (sym (pow-suc 16 (levels - level))) ∙ ap (λ (v : ℕ). key / 16 ^ v) (sym e))

-- the next turn
pub turn_next : (shape : ShapeValue) (lane key level node span : ℕ) (p : Pass) → lane < length shape.lanes → 1 ≤ level → level < levels_of shape lane
    → span ≡ 16 ^ (levels_of shape lane - level) → (1 < level → node < shape.writers * shape.nodes)
    → (1 < level → Knows p (spot_above shape lane key (level - 1)) node) → IsTurn shape lane level (key / span) node p
turn_next shape lane key level node span p exists some lt is within knows = record {
  exists = exists;
  inner = (some, lt);
  within = within;
  knows = λ more. subst (λ (v : ℕ). Knows p (spot lane (nibbles (level - 1) v)) node)
      (sym (ap (λ (v : ℕ). key / v / 16) is ∙ front_up (levels_of shape lane) level key some (omega (arith, lt)))) (knows more);
}

-- and where it leads
pub turn_knows : (shape : ShapeValue) (lane key level next node span : ℕ) (p : Pass) → next ≡ suc level → span ≡ 16 ^ (levels_of shape lane - level)
    → Knows p (spot lane (nibbles level (key / span))) node → Knows p (spot_above shape lane key (next - 1)) node
turn_knows shape lane key level next node span p one is knows =
    let e : level ≡ next - 1 = omega (arith, one) in
    subst (λ (v : ℕ). Knows p (spot_above shape lane key v) node) e (subst (λ (v : ℕ). Knows p (spot lane (nibbles level (key / v))) node) is knows)
