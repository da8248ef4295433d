-- The newest own record in a leaf, and what the cells of measured lanes want: the quad of all in the leaf.
use Rattle.std.proofs.Common.{◌≡◌, ℕ, ◌+◌, ◌*◌, ◌/◌, ◌%◌, ◌^◌, ◌<◌, ◌≤◌, zero, suc, inl, inr, List, [], ◌∷◌, ◌++◌, length, map, take, Bool, true, false, cond, Some, slice_get, refl, ap, sym, subst, ◌∙◌, arith}
use Rattle.std.proofs.lemmas.Bool.{cases_Bool}
use Rattle.std.proofs.lemmas.List.{length-map}
use Rattle.cf_row.specs.Row.{RowValue}
use Rattle.cf_fold.specs.Quads.{QuadValue, quad_of}
use Rattle.cf_fold.specs.Cells.{AreWordsOf}
use Rattle.cf_fold.specs.declared.cell.CellWords.{CellWords}
use Rattle.cf_fold.proofs.Lawful.{AreLow, quad_is_lawful}
use Rattle.cf_shape.specs.Lanes.{ShapeValue, IsShape, lane_at, measure_of}
use Rattle.cf_shape.specs.Places.Slot.{cell}
use Rattle.cf_shape.proofs.Measured.{measure_low}
use Rattle.cf_shape.proofs.Used.{before_fits, version_at}
use Rattle.cf_row.specs.Words.{word_count}
use Rattle.cf_table.specs.Values.{PassValue}
use Rattle.cf_table.specs.Effects.{HasStepped, IsLawfulStep, cell_effect}
use Rattle.cf_table.proofs.Mays.{may_cell}
use Rattle.cf_shape.specs.Uses.{is_measured, cell_words, cells_before}
use Rattle.cf_law.specs.Words.{Spot, spot, Layout, same_path, link_to_newest, version_word}
use Rattle.cf_law.proofs.Chains.{same_path_true}
use Rattle.cf_law.proofs.Cells.{version_to_cell, cell_to_version}
use Rattle.cf_law.specs.Passes.{Own, Book, Pass}
use Rattle.cf_law.specs.Steps.{IsOwn, mine_chain}
use Rattle.cf_law.specs.Steps.Act.{load_cell}
use Rattle.cf_law.specs.Shapes.{layout}
use Rattle.cf_law.proofs.Shapes.{three_words}
use Rattle.cf_append.specs.Linking.{IsNewest, IsBookOf, IsCell, amounts_in_chain}
use Rattle.cf_law.proofs.Owned.{chain_nil, chain_cons, chain_few}

abbrev here_if : Own → Bool → List (ℕ × RowValue)
here_if x b = cond b ((x.offset, x.row) ∷ []) []

newest_step : (sh : Layout) (s : Spot) (x : Own) (xs : List Own) (o : ℕ) → (link_to_newest (mine_chain sh s xs) ≡ suc o → IsNewest sh s xs o)
    → (c : List (ℕ × RowValue)) → mine_chain sh s xs ≡ c → link_to_newest (mine_chain sh s (x ∷ xs)) ≡ suc o → IsNewest sh s (x ∷ xs) o
newest_step sh s x xs o more [] is e = elim (cases_Bool (same_path (sh.path x.row s.lane) s.path)) [
  | inl here ↦
      let whole : mine_chain sh s (x ∷ xs) ≡ (x.offset, x.row) ∷ [] = chain_cons sh s x xs
      ∙ (ap (λ (c : List (ℕ × RowValue)). c ++ here_if x (same_path (sh.path x.row s.lane) s.path)) is ∙ ap (here_if x) here) in
      let first : suc x.offset ≡ suc o = ap link_to_newest (sym whole) ∙ e in
      record {
        place = 0;
        own = x;
        at = refl;
        offset = omega (arith, first);
        leads = same_path_true (sh.path x.row s.lane) s.path here;
        chain = whole
            ∙ ap (λ (c : List (ℕ × RowValue)). (x.offset, x.row) ∷ c) (sym (chain_nil sh s));
      }
  | inr other ↦
      let whole : mine_chain sh s (x ∷ xs) ≡ [] = chain_cons sh s x xs
      ∙ (ap (λ (c : List (ℕ × RowValue)). c ++ here_if x (same_path (sh.path x.row s.lane) s.path)) is ∙ ap (here_if x) other) in
      let first : 0 ≡ suc o = ap link_to_newest (sym whole) ∙ e in
      absurd (omega (arith, first))
]
newest_step sh s x xs o more (y ∷ ys) is e =
    let tail = here_if x (same_path (sh.path x.row s.lane) s.path) in
    let whole : mine_chain sh s (x ∷ xs) ≡ y ∷ (ys ++ tail) = chain_cons sh s x xs ∙ ap (λ (c : List (ℕ × RowValue)). c ++ tail) is in
    let r = more (ap link_to_newest is ∙ (ap link_to_newest (sym whole) ∙ e)) in record {
      place = suc r.place;
      own = r.own;
      at = r.at;
      offset = r.offset;
      leads = r.leads;
      chain = chain_cons sh s x xs
          ∙ (ap (λ (c : List (ℕ × RowValue)). c ++ tail) r.chain
          ∙ ap (λ (c : List (ℕ × RowValue)). (r.own.offset, r.own.row) ∷ c) (sym (chain_cons sh s x (take r.place xs))));
    }

pub newest : (sh : Layout) (s : Spot) (mine : List Own) (o : ℕ) → link_to_newest (mine_chain sh s mine) ≡ suc o → IsNewest sh s mine o
newest sh s [] o e = absurd (let f : 0 ≡ suc o = ap link_to_newest (sym (chain_nil sh s)) ∙ e in omega (arith, f))
newest sh s (x ∷ xs) o e = newest_step sh s x xs o (λ f. newest sh s xs o f) (mine_chain sh s xs) refl e

-- numbers below 2^32
low_append : (xs ys : List ℕ) → AreLow xs → AreLow ys → AreLow (xs ++ ys)
low_append [] ys a b = b
low_append (x ∷ xs) ys a b = (a.0, low_append xs ys a.1 b)

amounts_append : (shape : ShapeValue) (l : ℕ) (c d : List (ℕ × RowValue))
    → amounts_in_chain shape l (c ++ d) ≡ amounts_in_chain shape l c ++ amounts_in_chain shape l d
amounts_append shape l [] d = refl
amounts_append shape l (x ∷ c) d = ap (λ (xs : List ℕ). measure_of shape l x.1 ∷ xs) (amounts_append shape l c d)

low_here : (shape : ShapeValue) (l : ℕ) (x : Own) (b : Bool) → measure_of shape l x.row < 2 ^ 32 → AreLow (amounts_in_chain shape l (here_if x b))
low_here shape l x true low = (low, tt)
low_here shape l x false low = tt

pub low_amounts : (shape : ShapeValue) (l : ℕ) (s : Spot) (mine : List Own)
    → ((j : ℕ) (x : Own) → slice_get mine j ≡ Some x → measure_of shape l x.row < 2 ^ 32) → AreLow (amounts_in_chain shape l (mine_chain (layout shape) s mine))
low_amounts shape l s [] low = subst (λ (c : List (ℕ × RowValue)). AreLow (amounts_in_chain shape l c)) (sym (chain_nil (layout shape) s)) tt
low_amounts shape l s (x ∷ xs) low =
    let b = same_path ((layout shape).path x.row s.lane) s.path in
    subst (λ (c : List (ℕ × RowValue)). AreLow (amounts_in_chain shape l c)) (sym (chain_cons (layout shape) s x xs))
    (subst AreLow (sym (amounts_append shape l (mine_chain (layout shape) s xs) (here_if x b)))
    (low_append (amounts_in_chain shape l (mine_chain (layout shape) s xs)) (amounts_in_chain shape l (here_if x b))
    (low_amounts shape l s xs (λ j y at. low (suc j) y at)) (low_here shape l x b (low 0 x refl))))

pub take_get : (n i : ℕ) (xs : List Own) (x : Own) → slice_get (take n xs) i ≡ Some x → slice_get xs i ≡ Some x
take_get zero i [] x at = absurd (cc at)
take_get zero i (y ∷ xs) x at = absurd (cc at)
take_get (suc n) i [] x at = absurd (cc at)
take_get (suc n) zero (y ∷ xs) x at = at
take_get (suc n) (suc i) (y ∷ xs) x at = take_get n i xs x at

pub top_most : (sh : Layout) (s : Spot) (mine : List Own) (n : ℕ) → ((j : ℕ) (x : Own) → slice_get mine j ≡ Some x → x.offset < n) → (k : ℕ)
    → link_to_newest (mine_chain sh s mine) ≡ k → k ≤ n
top_most sh s mine n low zero e = omega arith
top_most sh s mine n low (suc o) e = (let r = newest sh s mine o e in let at = low r.place r.own r.at in let is = r.offset in omega (arith, at, is))

both_left : (a b : Bool) → Rattle.std.proofs.Common.◌&&◌ a b ≡ true → a ≡ true
both_left true b h = refl
both_left false b h = h

pub all_low : (shape : ShapeValue) (l : ℕ) (s : Spot) (b : Book) → IsShape shape → l < length shape.lanes → IsBookOf shape b
    → AreLow (amounts_in_chain shape l (mine_chain (layout shape) s b.mine))
all_low shape l s b lawful there own = low_amounts shape l s b.mine (λ j x at. measure_low shape l x.row lawful there (both_left _ _ (own.rows j x at).0))

pub top_few : (shape : ShapeValue) (s : Spot) (b : Book) → IsBookOf shape b → link_to_newest (mine_chain (layout shape) s b.mine) ≤ shape.capacity
top_few shape s b own =
    top_most (layout shape) s b.mine shape.capacity (λ j x at. (own.rows j x at).1) (link_to_newest (mine_chain (layout shape) s b.mine)) refl

pub amounts_few : (shape : ShapeValue) (l : ℕ) (s : Spot) (b : Book) → IsBookOf shape b
    → length (amounts_in_chain shape l (mine_chain (layout shape) s b.mine)) ≤ shape.capacity
amounts_few shape l s b own =
    let c = mine_chain (layout shape) s b.mine in
    let many : length (amounts_in_chain shape l c) ≡ length c = length-map (map (λ (x : ℕ × RowValue). x.1) c) (λ (r : RowValue). measure_of shape l r)
    ∙ length-map c (λ (x : ℕ × RowValue). x.1) in
    let few = own.few in
    omega (arith, many, few, chain_few (layout shape) s b.mine)

-- the cell of the newest
pub own_at : (shape : ShapeValue) (p : Pass) (b : Book) (s : Spot) (o : ℕ) → p.books ≡ b ∷ [] → IsNewest (layout shape) s b.mine o → IsOwn p o
own_at shape p b s o one N = (0, b, ap (λ (bs : List Book). slice_get bs 0) one, inl (N.place, N.own, N.at, N.offset))

pub read_books : (shape : ShapeValue) (m n : PassValue) (o l h found : ℕ) → HasStepped shape (cell_effect shape m.view o l h) m found n
    → (n.view).books ≡ (m.view).books
read_books shape m n o l h found made = ap (λ (p : Pass). p.books) made.told.is

pub read_word : (shape : ShapeValue) (m n : PassValue) (b : Book) (q : List ℕ) (o l h found : ℕ) → HasStepped shape (cell_effect shape m.view o l h) m found n
    → (m.view).books ≡ b ∷ [] → (N : IsNewest (layout shape) (spot l q) b.mine o) → l < length shape.lanes → h < cell_words (lane_at shape l)
    → found ≡ version_word (layout shape) l h (mine_chain (layout shape) (spot l q) (take N.place b.mine)) N.own.row
read_word shape m n b q o l h found made one N there low =
    let i = word_count shape.schema + 1 + cells_before shape l + h in
    let fits = before_fits shape.lanes l there in
    made.told.tells.own_cell 0 N.place i l h q b N.own (ap (λ (k : ℕ). cell k i) (sym N.offset)) (ap (λ (bs : List Book). slice_get bs 0) one) N.at
    (omega (arith, fits, low)) (version_at shape l h there low) N.leads

-- The words of the newest one's cell are read, one after the other, in a measured lane.
pub cell_place : (shape : ShapeValue) (b : Book) (q : List ℕ) (o l h : ℕ) → IsBookOf shape b → (l < length shape.lanes) × (is_measured shape l ≡ true)
    → IsNewest (layout shape) (spot l q) b.mine o → h < 3 → (o < shape.capacity) × (l < length shape.lanes) × (h < cell_words (lane_at shape l))
cell_place shape b q o l h own lane N low =
    let at = (own.rows N.place N.own N.at).1 in
    let is = N.offset in
    let three = three_words shape l lane.1 in
    (omega (arith, at, is), lane.0, omega (arith, low, three))

pub may_read : (shape : ShapeValue) (m : PassValue) (b : Book) (q : List ℕ) (o l h : ℕ) → (m.view).books ≡ b ∷ [] → IsBookOf shape b
    → (l < length shape.lanes) × (is_measured shape l ≡ true) → IsNewest (layout shape) (spot l q) b.mine o → h < 3
    → IsLawfulStep shape m.view (load_cell o l h) (cell_effect shape m.view o l h)
may_read shape m b q o l h one own lane N low =
    let at = (own.rows N.place N.own N.at).1 in
    let is = N.offset in
    let three = three_words shape l lane.1 in
    may_cell shape m.view o l h (omega (arith, at, is)) lane.0 (omega (arith, low, three)) (inl (own_at shape m.view b (spot l q) o one N))

cell_read : (shape : ShapeValue) (m m1 m2 m3 : PassValue) (b : Book) (q : List ℕ) (o l first sum ends : ℕ) → (m.view).books ≡ b ∷ []
    → (l < length shape.lanes) × (is_measured shape l ≡ true) → (N : IsNewest (layout shape) (spot l q) b.mine o)
    → HasStepped shape (cell_effect shape m.view o l 0) m first m1 → HasStepped shape (cell_effect shape m1.view o l 1) m1 sum m2
    → HasStepped shape (cell_effect shape m2.view o l 2) m2 ends m3
    → IsCell shape l (mine_chain (layout shape) (spot l q) (take N.place b.mine)) N.own.row first sum ends
cell_read shape m m1 m2 m3 b q o l first sum ends one lane N made made1 made2 =
    let three = three_words shape l lane.1 in
    let one1 = read_books shape m m1 o l 0 first made ∙ one in
    let one2 = read_books shape m1 m2 o l 1 sum made1 ∙ one1 in
    record {
      first_is = read_word shape m m1 b q o l 0 first made one N lane.0 (omega (arith, three));
      sum_is = read_word shape m1 m2 b q o l 1 sum made1 one1 N lane.0 (omega (arith, three));
      ends_is = read_word shape m2 m3 b q o l 2 ends made2 one2 N lane.0 (omega (arith, three));
    }

quad_there : (shape : ShapeValue) (b : Book) (q : List ℕ) (o l : ℕ) (words : CellWords) → IsShape shape → l < length shape.lanes
    → is_measured shape l ≡ true → IsBookOf shape b → (N : IsNewest (layout shape) (spot l q) b.mine o)
    → IsCell shape l (mine_chain (layout shape) (spot l q) (take N.place b.mine)) N.own.row words.first words.sum words.ends
    → AreWordsOf words (link_to_newest (mine_chain (layout shape) (spot l q) (take N.place b.mine)))
    (quad_of (amounts_in_chain shape l (mine_chain (layout shape) (spot l q) b.mine)))
quad_there shape b q o l words lawful there takes own N w =
    let sh = layout shape in
    let s = spot l q in
    let c = mine_chain sh s (take N.place b.mine) in
    let small = top_most sh s (take N.place b.mine) shape.capacity (λ j x at. (own.rows j x (take_get N.place j b.mine x at)).1) (link_to_newest c) refl in
    let room = lawful.capacity in
    let low : AreLow (measure_of shape l N.own.row ∷ amounts_in_chain shape l c) =
    subst (λ (d : List (ℕ × RowValue)). AreLow (amounts_in_chain shape l d)) N.chain (all_low shape l s b lawful there own) in
    subst (λ (d : List (ℕ × RowValue)). AreWordsOf words (link_to_newest c) (quad_of (amounts_in_chain shape l d))) (sym N.chain)
    (version_to_cell sh l c N.own.row words takes (omega (arith, small, room)) (quad_is_lawful (measure_of shape l N.own.row ∷ amounts_in_chain shape l c) low)
    w.first_is w.sum_is w.ends_is)

pub quad_read : (shape : ShapeValue) (m m1 m2 m3 : PassValue) (b : Book) (q : List ℕ) (o l first sum ends : ℕ) → IsShape shape → (m.view).books ≡ b ∷ []
    → IsBookOf shape b → (l < length shape.lanes) × (is_measured shape l ≡ true) → (N : IsNewest (layout shape) (spot l q) b.mine o)
    → HasStepped shape (cell_effect shape m.view o l 0) m first m1 → HasStepped shape (cell_effect shape m1.view o l 1) m1 sum m2
    → HasStepped shape (cell_effect shape m2.view o l 2) m2 ends m3
    → AreWordsOf (record { first = first; sum = sum; ends = ends }) (link_to_newest (mine_chain (layout shape) (spot l q) (take N.place b.mine)))
    (quad_of (amounts_in_chain shape l (mine_chain (layout shape) (spot l q) b.mine)))
quad_read shape m m1 m2 m3 b q o l first sum ends lawful one own lane N made made1 made2 =
    quad_there shape b q o l (record { first = first; sum = sum; ends = ends }) lawful lane.0 lane.1 own N
    (cell_read shape m m1 m2 m3 b q o l first sum ends one lane N made made1 made2)

-- the words of a new cell
pub quad_cell : (shape : ShapeValue) (l : ℕ) (c : List (ℕ × RowValue)) (row : RowValue) (q : QuadValue) (previous : ℕ) (words : CellWords)
    → is_measured shape l ≡ true → previous ≡ link_to_newest c → q ≡ quad_of (measure_of shape l row ∷ amounts_in_chain shape l c)
    → AreWordsOf words previous q → IsCell shape l c row words.first words.sum words.ends
quad_cell shape l c row q previous words takes at is w =
    let version = cell_to_version (layout shape) l c row words previous q takes at is w in
    record { first_is = version.0; sum_is = version.1; ends_is = version.2 }
