-- The uses of a ticket's words: each lane has its cell words, and no use stands twice.
use Rattle.std.proofs.Common.{◌≡◌, ℕ, ◌+◌, ◌*◌, ◌<◌, ◌≤◌, zero, suc, List, [], ◌∷◌, ◌++◌, length, take, get_or, inl, inr, refl, arith, ap, sym, ◌∙◌}
use Rattle.std.proofs.lemmas.List.{get_or-append-add}
use Rattle.std.proofs.lemmas.Bool.{cases_lt}
use Rattle.cf_row.specs.Words.{word_count}
use Rattle.cf_shape.specs.declared.lane.Lane.{Lane}
use Rattle.cf_shape.specs.Lanes.{ShapeValue, no_lane, lane_at}
use Rattle.cf_shape.specs.Uses.{Use, plains, versions, cells, uses, use_at, cell_words, cell_count, cells_before, ticket_words}
use Rattle.cf_shape.specs.Uses.Use.{plain, version}
use Rattle.cf_shape.proofs.Counts.{count_cons, count_none}

plains_long : (k n : ℕ) → length (plains k n) ≡ n
unfolding plains
plains_long k zero = refl
plains_long k (suc n) = ap suc (plains_long (suc k) n)

plains_at : (k n i : ℕ) (rest : List Use) → i < n → get_or (plains k n ++ rest) i (plain 0) ≡ plain (k + i)
unfolding plains
plains_at k zero i rest lt = absurd (omega arith)
plains_at k (suc n) zero rest lt = ap plain (let e : k ≡ k + 0 = omega arith in e)
plains_at k (suc n) (suc i) rest lt = plains_at (suc k) n i rest (omega arith) ∙ ap plain (let e : suc k + i ≡ k + suc i = omega arith in e)

versions_long : (l k n : ℕ) → length (versions l k n) ≡ n
unfolding versions
versions_long l k zero = refl
versions_long l k (suc n) = ap suc (versions_long l (suc k) n)

versions_at : (l k n i : ℕ) (rest : List Use) → i < n → get_or (versions l k n ++ rest) i (plain 0) ≡ version l (k + i)
unfolding versions
versions_at l k zero i rest lt = absurd (omega arith)
versions_at l k (suc n) zero rest lt = ap (version l) (let e : k ≡ k + 0 = omega arith in e)
versions_at l k (suc n) (suc i) rest lt = versions_at l (suc k) n i rest (omega arith) ∙ ap (version l) (let e : suc k + i ≡ k + suc i = omega arith in e)

cells_cons : (k : ℕ) (x : Lane) (xs : List Lane) → cells k (x ∷ xs) ≡ versions k 0 (cell_words x) ++ cells (suc k) xs
unfolding cells
cells_cons k x xs = refl

cells_past : (k i : ℕ) (x : Lane) (xs : List Lane) → get_or (cells k (x ∷ xs)) (cell_words x + i) (plain 0) ≡ get_or (cells (suc k) xs) i (plain 0)
cells_past k i x xs =
    ap (λ (us : List Use). get_or us (cell_words x + i) (plain 0)) (cells_cons k x xs)
    ∙ (ap (λ (m : ℕ). get_or (versions k 0 (cell_words x) ++ cells (suc k) xs) (m + i) (plain 0)) (sym (versions_long k 0 (cell_words x)))
    ∙ get_or-append-add (versions k 0 (cell_words x)) (cells (suc k) xs) i (plain 0))

cells_at : (k : ℕ) (lanes : List Lane) (l i : ℕ) → l < length lanes → i < cell_words (get_or lanes l no_lane)
    → get_or (cells k lanes) (cell_count (take l lanes) + i) (plain 0) ≡ version (k + l) i
cells_at k [] l i lt low = absurd (omega arith)
cells_at k (x ∷ xs) zero i lt low =
    let e : cell_count [] + i ≡ i = omega (arith, count_none) in
    let f : 0 + i ≡ i = omega arith in
    let g : k ≡ k + 0 = omega arith in
    ap (λ (m : ℕ). get_or (cells k (x ∷ xs)) m (plain 0)) e
    ∙ (ap (λ (us : List Use). get_or us i (plain 0)) (cells_cons k x xs)
    ∙ (versions_at k 0 (cell_words x) i (cells (suc k) xs) low ∙ (ap (version k) f ∙ ap (λ (m : ℕ). version m i) g)))
cells_at k (x ∷ xs) (suc l) i lt low =
    let e : cell_count (x ∷ take l xs) + i ≡ cell_words x + (cell_count (take l xs) + i) = omega (arith, count_cons x (take l xs)) in
    let g : suc k + l ≡ k + suc l = omega arith in
    ap (λ (m : ℕ). get_or (cells k (x ∷ xs)) m (plain 0)) e
    ∙ (cells_past k (cell_count (take l xs) + i) x xs
    ∙ (cells_at (suc k) xs l i (omega arith) low ∙ ap (λ (m : ℕ). version m i) g))

-- where a cell's word stands
pub record IsCellWord (lanes : List Lane) (k : ℕ) : Type 0 where
  pub lane : ℕ
  pub word : ℕ
  pub exists : lane < length lanes
  pub low : word < cell_words (get_or lanes lane no_lane)
  pub at : k ≡ cell_count (take lane lanes) + word

cell_found : (lanes : List Lane) (k : ℕ) → k < cell_count lanes → IsCellWord lanes k
cell_found [] k lt = absurd (omega (arith, count_none))
cell_found (x ∷ xs) k lt = elim (cases_lt k (cell_words x)) [
  | inl low ↦ record { lane = 0; word = k; exists = omega arith; low = low; at = omega (arith, count_none) }
  | inr le ↦
      let j : ℕ = Rattle.std.specs.Prelude.◌-◌ k (cell_words x) in
      let below : j < cell_count xs = omega (arith, count_cons x xs) in
      let r = cell_found xs j below in
      record {
        lane = suc r.lane;
        word = r.word;
        exists = (let h = r.exists in omega arith);
        low = r.low;
        at = (let h = r.at in omega (arith, h, count_cons x (take r.lane xs)));
      }
]

pub before_fits : (lanes : List Lane) (l : ℕ) → l < length lanes → cell_count (take l lanes) + cell_words (get_or lanes l no_lane) ≤ cell_count lanes
before_fits [] l lt = absurd (omega arith)
before_fits (x ∷ xs) zero lt = omega (arith, count_cons x xs, count_none)
before_fits (x ∷ xs) (suc l) lt = omega (arith, count_cons x xs, count_cons x (take l xs), before_fits xs l (omega arith))

pub plain_at : (s : ShapeValue) (i : ℕ) → i < word_count s.schema + 1 → use_at s i ≡ plain i
plain_at s i lt = plains_at 0 (word_count s.schema + 1) i (cells 0 s.lanes) lt ∙ ap plain (let e : 0 + i ≡ i = omega arith in e)

past_plains : (s : ShapeValue) (i : ℕ) → use_at s (word_count s.schema + 1 + i) ≡ get_or (cells 0 s.lanes) i (plain 0)
past_plains s i =
    ap (λ (m : ℕ). get_or (uses s) (m + i) (plain 0)) (sym (plains_long 0 (word_count s.schema + 1)))
    ∙ get_or-append-add (plains 0 (word_count s.schema + 1)) (cells 0 s.lanes) i (plain 0)

-- word i of a lane's cell
pub version_at : (s : ShapeValue) (l i : ℕ) → l < length s.lanes → i < cell_words (lane_at s l)
    → use_at s (word_count s.schema + 1 + cells_before s l + i) ≡ version l i
version_at s l i lt low =
    let e : word_count s.schema + 1 + cells_before s l + i ≡ word_count s.schema + 1 + (cells_before s l + i) = omega arith in
    ap (use_at s) e
    ∙ (past_plains s (cells_before s l + i) ∙ (cells_at 0 s.lanes l i lt low ∙ ap (λ (m : ℕ). version m i) (let f : 0 + l ≡ l = omega arith in f)))

-- the word whose use it is
pub version_is : (s : ShapeValue) (k l i : ℕ) → suc k < ticket_words s → use_at s k ≡ version l i → (l < length s.lanes) × (i < cell_words (lane_at s l))
    × (k ≡ word_count s.schema + 1 + cells_before s l + i)
version_is s k l i lt is = elim (cases_lt k (word_count s.schema + 1)) [
  | inl low ↦ let p = plain_at s k low in absurd (cc (sym p ∙ is))
  | inr le ↦
      let j : ℕ = Rattle.std.specs.Prelude.◌-◌ k (word_count s.schema + 1) in
      let r = cell_found s.lanes j (omega arith) in
      let at : k ≡ word_count s.schema + 1 + cells_before s r.lane + r.word = (let h = r.at in omega (arith, h)) in
      let v : version r.lane r.word ≡ version l i = sym (version_at s r.lane r.word r.exists r.low) ∙ (ap (use_at s) (sym at) ∙ is) in
      let same : (r.lane ≡ l) × (r.word ≡ i) = ((let a : r.lane ≡ l = cc v in a), (let b : r.word ≡ i = cc v in b)) in (
        (let h = r.exists in omega (arith, h, same.0)),
        Rattle.std.proofs.Common.subst (λ (m : ℕ). i < cell_words (lane_at s m)) same.0 (let h = r.low in omega (arith, h, same.1)),
        at ∙ (ap (λ (m : ℕ). word_count s.schema + 1 + cells_before s m + r.word) same.0
            ∙ ap (λ (m : ℕ). word_count s.schema + 1 + cells_before s l + m) same.1),
      )
]
