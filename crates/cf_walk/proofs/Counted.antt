-- What walks went by past what was seen: how many steps that takes.
use Rattle.std.proofs.Common.{◌≡◌, ◌∙◌, ℕ, zero, suc, ◌+◌, ◌-◌, ◌<◌, ◌≤◌, ◌⊎◌, inl, inr, List, [], ◌∷◌, ◌++◌, length, Bool, true, false, cond, slice_get, refl, sym, ap, ap₂, subst, arith}
use Rattle.std.proofs.lemmas.Bool.{cases_Bool, cases_eq}
use Rattle.cf_row.proofs.Truths.{eq_false}
use Rattle.cf_shape.specs.Lanes.{ShapeValue}
use Rattle.cf_law.specs.Words.{has}
use Rattle.cf_law.proofs.Chains.{has_more, has_first, has_rest, has_nothing}
use Rattle.cf_law.specs.Passes.{Pass}
use Rattle.cf_law.specs.Steps.{met_of}
use Rattle.cf_table.specs.Values.{PassValue}
use Rattle.cf_walk.specs.Walks.{Met, Distinct, WentBy, ChainSteps}

met_on : (p q : Pass) (o w i v : ℕ) → met_of q.cursor ≡ (o, w) ∷ met_of p.cursor → Met p i v → Met q i v
met_on p q o w i v is x = (suc x.0, ap (λ (xs : List (ℕ × ℕ)). slice_get xs (suc x.0)) is ∙ x.1)

met_first : (p q : Pass) (o w : ℕ) → met_of q.cursor ≡ (o, w) ∷ met_of p.cursor → Met q o w
met_first p q o w is = (0, ap (λ (xs : List (ℕ × ℕ)). slice_get xs 0) is)

met_same : (p q : Pass) (i v : ℕ) → met_of q.cursor ≡ met_of p.cursor → Met p i v → Met q i v
met_same p q i v is x = (x.0, ap (λ (xs : List (ℕ × ℕ)). slice_get xs x.0) is ∙ x.1)

-- One chain: so many steps were taken, and so many places are left to be found.
pub record IsCounting (shape : ShapeValue) (w : ℕ) (f p : PassValue) (link left start steps : ℕ) : Type 0 where
  pub fresh : List ℕ
  pub went : WentBy shape w f p fresh
  pub above : (o : ℕ) → has fresh o ≡ true → link ≤ o
  pub count : steps + left ≤ start + length fresh

pub counting_begins : (shape : ShapeValue) (w : ℕ) (f p : PassValue) (link left start steps : ℕ) → met_of (p.view).cursor ≡ met_of (f.view).cursor
    → steps + left ≤ start → IsCounting shape w f p link left start steps
counting_begins shape w f p link left start steps is few = record {
  fresh = [];
  went = record {
    distinct = tt;
    within = λ o h. absurd (has_nothing o h);
    met = λ o h. absurd (has_nothing o h);
    apart = λ o v h. absurd (has_nothing o h);
    keeps = λ o v x. met_same f.view p.view o v is x;
  };
  above = λ o h. absurd (has_nothing o h);
  count = omega (arith, few);
}

-- the walk went by a place that was seen
pub counting_known : (shape : ShapeValue) (w : ℕ) (f m n : PassValue) (link next o left rest start steps more : ℕ)
    → IsCounting shape w f m link left start steps → met_of (n.view).cursor ≡ (o, w) ∷ met_of (m.view).cursor → next ≤ link → left ≡ suc rest → more ≡ steps + 1
    → IsCounting shape w f n next rest start more
counting_known shape w f m n link next o left rest start steps more c is le one tick =
    let before = c.count in
    record {
      fresh = c.fresh;
      went = record {
        distinct = c.went.distinct;
        within = c.went.within;
        met = λ i h. met_on m.view n.view o w i w is (c.went.met i h);
        apart = c.went.apart;
        keeps = λ i v x. met_on m.view n.view o w i v is (c.went.keeps i v x);
      };
      above = λ i h. (let a = c.above i h in omega (arith, a, le));
      count = omega (arith, before, one, tick);
    }

-- the walk went by a place past what was seen
pub counting_new : (shape : ShapeValue) (w : ℕ) (f m n : PassValue) (link next left rest start steps more : ℕ) → IsCounting shape w f m link left start steps
    → met_of (n.view).cursor ≡ (link - 1, w) ∷ met_of (m.view).cursor → ((v : ℕ) → Met m.view (link - 1) v → v ≡ w)
    → 0 < link → length (f.view).seen ≤ link - 1 → link ≤ shape.capacity → next ≤ link - 1 → left ≡ rest → more ≡ steps + 1
    → IsCounting shape w f n next rest start more
counting_new shape w f m n link next left rest start steps more c is apart some past low le one tick =
    let o = link - 1 in
    let before = c.count in
    let few : o < shape.capacity = omega (arith, some, low) in
    let out : has c.fresh o ≡ false = elim (cases_Bool (has c.fresh o)) [
      | inl t ↦ absurd (let a = c.above o t in omega (arith, a, some))
      | inr t ↦ t
    ] in
    record {
      fresh = o ∷ c.fresh;
      went = record {
        distinct = (out, c.went.distinct);
        within = λ i h. elim (has_more o i c.fresh h) [
          | inl e ↦ (omega (arith, e, past), omega (arith, e, few))
          | inr g ↦ c.went.within i g
        ];
        met = λ i h. elim (has_more o i c.fresh h) [
          | inl e ↦ subst (λ (k : ℕ). Met n.view k w) e (met_first m.view n.view o w is)
          | inr g ↦ met_on m.view n.view o w i w is (c.went.met i g)
        ];
        apart = λ i v h x. elim (has_more o i c.fresh h) [
          | inl e ↦ apart v (subst (λ (k : ℕ). Met m.view k v) (sym e) (c.went.keeps i v x))
          | inr g ↦ c.went.apart i v g x
        ];
        keeps = λ i v x. met_on m.view n.view o w i v is (c.went.keeps i v x);
      };
      above = λ i h. elim (has_more o i c.fresh h) [
        | inl e ↦ omega (arith, e, le)
        | inr g ↦ (let a = c.above i g in omega (arith, a, le))
      ];
      count = omega (arith, before, one, tick);
    }

pub counting_ends : (shape : ShapeValue) (w : ℕ) (f p : PassValue) (link left before found steps : ℕ)
    → IsCounting shape w f p link left (before + 1 + found) steps → ChainSteps shape w f p found before steps
counting_ends shape w f p link left before found steps c = (let count = c.count in record { fresh = c.fresh; went = c.went; steps = omega (arith, count) })

-- how many of n numbers, from t on, stand in the list
abbrev pub reached : List ℕ → ℕ → ℕ → ℕ
reached places t zero = 0
reached places t (suc n) = reached places t n + cond (has places (t + n)) 1 0

one_most : (b : Bool) → cond b 1 0 ≤ 1
one_most true = omega arith
one_most false = omega arith

pub reached_most : (places : List ℕ) (t n : ℕ) → reached places t n ≤ n
reached_most places t zero = omega arith
reached_most places t (suc n) = (let a = reached_most places t n in let b = one_most (has places (t + n)) in omega (arith, a, b))

has_other : (x l : ℕ) (xs : List ℕ) → (x ≡ l → ⊥) → has (x ∷ xs) l ≡ has xs l
unfolding has
has_other x l xs ne = ap (λ (b : Bool). cond b true (has xs l)) (eq_false x l ne)

reached_else : (places : List ℕ) (o t n : ℕ) → ((i : ℕ) → i < n → o ≡ t + i → ⊥) → reached (o ∷ places) t n ≡ reached places t n
reached_else places o t zero ne = refl
reached_else places o t (suc n) ne =
    ap₂ (λ (a : ℕ) (b : Bool). a + cond b 1 0) (reached_else places o t n (λ i lt. ne i (omega (arith, lt)))) (has_other o (t + n) places (ne n (omega arith)))

reached_one : (places : List ℕ) (o t n : ℕ) → has places o ≡ false → t ≤ o → o < t + n → reached (o ∷ places) t n ≡ suc (reached places t n)
reached_one places o t zero out low lt = absurd (omega (arith, low, lt))
reached_one places o t (suc n) out low lt = elim (cases_eq o (t + n)) [
  | inl e ↦
      let a = reached_else places o t n (λ i less f. absurd (omega (arith, e, less, f))) in
      let b : has (o ∷ places) (t + n) ≡ true = subst (λ (k : ℕ). has (o ∷ places) k ≡ true) e (has_first o places) in
      let c : has places (t + n) ≡ false = subst (λ (k : ℕ). has places k ≡ false) e out in
      let x : ◌≡◌ {A = ℕ} (cond (has (o ∷ places) (t + n)) 1 0) 1 = ap (λ (b : Bool). cond {A = ℕ} b 1 0) b in
      let y : ◌≡◌ {A = ℕ} (cond (has places (t + n)) 1 0) 0 = ap (λ (b : Bool). cond {A = ℕ} b 1 0) c in
      omega (arith, a, x, y)
  | inr ne ↦
      let a = reached_one places o t n out low (omega (arith, lt, ne)) in
      let x : ◌≡◌ {A = ℕ} (cond (has (o ∷ places) (t + n)) 1 0) (cond (has places (t + n)) 1 0) =
      ap (λ (b : Bool). cond {A = ℕ} b 1 0) (has_other o (t + n) places ne) in
      omega (arith, a, x)
]

has_both : (xs ys : List ℕ) (l : ℕ) → has (xs ++ ys) l ≡ true → (has xs l ≡ true) ⊎ (has ys l ≡ true)
has_both [] ys l h = inr h
has_both (x ∷ xs) ys l h = elim (has_more x l (xs ++ ys) h) [
  | inl e ↦ inl (subst (λ (k : ℕ). has (x ∷ xs) k ≡ true) e (has_first x xs))
  | inr g ↦ elim (has_both xs ys l g) [
    | inl a ↦ inl (has_rest x l xs a)
    | inr b ↦ inr b
  ]
]

reached_both : (fresh places : List ℕ) (t n : ℕ) → Distinct fresh → ((o : ℕ) → has fresh o ≡ true → (t ≤ o) × (o < t + n))
    → ((o : ℕ) → has fresh o ≡ true → has places o ≡ false) → reached (fresh ++ places) t n ≡ length fresh + reached places t n
reached_both [] places t n distinct within out = omega arith
reached_both (x ∷ xs) places t n distinct within out =
    let rest = reached_both xs places t n distinct.1 (λ o h. within o (has_rest x o xs h)) (λ o h. out o (has_rest x o xs h)) in
    let here = has_first x xs in
    let w = within x here in
    let none : has (xs ++ places) x ≡ false = elim (cases_Bool (has (xs ++ places) x)) [
      | inl t ↦ elim (has_both xs places x t) [
        | inl a ↦ absurd (cc (a, distinct.0))
        | inr b ↦ absurd (cc (b, out x here))
      ]
      | inr t ↦ t
    ] in
    let one = reached_one (xs ++ places) x t n none w.0 w.1 in
    omega (arith, one, rest)

-- The chains of a leaf, of all writers below one.
pub record IsCountingAll (shape : ShapeValue) (p : PassValue) (t w start found steps : ℕ) : Type 0 where
  pub places : List ℕ
  pub by : (o : ℕ) → has places o ≡ true → (v : ℕ) × (v < w) × Met p.view o v
  pub count : steps ≤ start + w + found + reached places t (shape.capacity - t)

pub all_begins : (shape : ShapeValue) (p : PassValue) (t start found : ℕ) → IsCountingAll shape p t 0 start found start
all_begins shape p t start found = record { places = []; by = λ o h. absurd (has_nothing o h); count = omega arith }

pub all_more : (shape : ShapeValue) (m n : PassValue) (t w next start found more all steps after : ℕ) → length (m.view).seen ≡ t → next ≡ suc w
    → all ≡ found + more → IsCountingAll shape m t w start found steps → ChainSteps shape w m n more steps after
    → IsCountingAll shape n t next start all after
all_more shape m n t w next start found more all steps after far one sum c s =
    let fresh = s.fresh in
    let went = s.went in
    let out : (o : ℕ) → has fresh o ≡ true → has c.places o ≡ false = λ o h. elim (cases_Bool (has c.places o)) [
      | inl t ↦ (let x = c.by o t in let e = went.apart o x.0 h x.2 in let lt = x.1 in absurd (omega (arith, e, lt)))
      | inr t ↦ t
    ] in
    let within : (o : ℕ) → has fresh o ≡ true → (t ≤ o) × (o < t + (shape.capacity - t)) =
    λ o h. (let a = went.within o h in (omega (arith, a.0, far), omega (arith, a.0, a.1, far))) in
    let r = reached_both fresh c.places t (shape.capacity - t) went.distinct within out in
    let before = c.count in
    let these = s.steps in
    record {
      places = fresh ++ c.places;
      by = λ o h. elim (has_both fresh c.places o h) [
        | inl a ↦ (w, omega (arith, one), went.met o a)
        | inr b ↦ (let x = c.by o b in let lt = x.1 in (x.0, omega (arith, one, lt), went.keeps o x.0 x.2))
      ];
      count = omega (arith, r, before, these, one, sum);
    }

pub all_ends : (shape : ShapeValue) (p : PassValue) (t w start found steps : ℕ) → IsCountingAll shape p t w start found steps
    → steps ≤ start + w + found + (shape.capacity - t)
all_ends shape p t w start found steps c = (let count = c.count in let most = reached_most c.places t (shape.capacity - t) in omega (arith, count, most))
