-- Own versions: what a writer's finished tickets say of the cell of its next one.
use Rattle.std.proofs.Common.{◌≡◌, ℕ, ◌+◌, ◌*◌, ◌-◌, ◌^◌, ◌<◌, ◌≤◌, ◌==◌, zero, suc, List, [], ◌∷◌, ◌++◌, length, map, drop, get_or, cond, Bool, true, false, Some, None, slice_get, inl, inr, refl, arith, ap, ap₂, sym, ◌∙◌, subst}
use Rattle.std.proofs.lemmas.Bool.{cases_Bool, eq-eqb, ne_eqb}
use Rattle.std.proofs.lemmas.List.{drop_more, drop_all, map_push}
use Rattle.cf_fold.specs.Cells.{halves, measure_word}
use Rattle.cf_fold.specs.Quads.{QuadValue, quad_of, IsQuad}
use Rattle.cf_fold.proofs.Lawful.{AreLow, quad_is_lawful}
use Rattle.cf_row.specs.Row.{RowValue, Fits, values_fit}
use Rattle.cf_row.proofs.Bytes.{both}
use Rattle.cf_shape.specs.Lanes.{ShapeValue, IsShape, measure_of}
use Rattle.cf_shape.specs.Uses.{is_measured, use_at}
use Rattle.cf_shape.proofs.Measured.{measure_low}
use Rattle.cf_law.specs.Words.{Spot, spot, Layout, same_path, link_to_newest, version_word}
use Rattle.cf_law.specs.Passes.{Own, Book, Pass}
use Rattle.cf_law.specs.Lawful.{mine_in}
use Rattle.cf_law.specs.Steps.{Holds, mine_chain, own_word, own_lane_word}
use Rattle.cf_law.specs.Shapes.{layout, path_in}
use Rattle.cf_law.proofs.Owning.{mine_before}
use Rattle.cf_core.specs.Worlds.{WorldValue, IsLawfulWorld, IsLivePass, AreOwn, amounts_with_row, cell_word_of, IsPlainUse}
use Rattle.cf_core.proofs.Children.{bounds}
use Rattle.cf_law.proofs.Owned.{chain_nil, chain_cons, chain_few}
use Rattle.cf_law.proofs.Homes.{mine_few}

pub own_are : (h : WorldValue) (k j : ℕ) (p : Pass) (b : Book) → IsLawfulWorld h → IsLivePass h k p → Holds p j b → AreOwn h.shape b.mine
own_are h k j p b is live held =
    let m = is.law.base in
    let L = is.law.stands.law in
    let own = (is.law.stands.knows k p live.0).books j b held in
    let mine : b.mine ≡ mine_in b.writer 0 m.log = ap (λ (c : Book). c.mine) own.1 in
    let room = L.room in
    let low = is.shape.capacity.1 in record {
      few = omega (arith, ap (length {A = Own}) mine, mine_few b.writer 0 m.log, room, low);
      fits = λ i x at. (let r = mine_before b.writer 0 m.log i x (ap (λ (xs : List Own). slice_get xs i) (sym mine) ∙ at) in
          let fits = (both (values_fit h.shape.schema r.ticket.row.values) (Rattle.std.proofs.Common.nat_lt r.ticket.row.num 4294967296)
          (L.fits r.place r.ticket r.at)).0 in
          subst (Fits h.shape.schema) (sym r.row) fits);
      offset = λ i x at. (let lt = (bounds h k p is live).offset j i b x held at in omega (arith, lt, low));
    }

pub chain_end : (sh : Layout) (s : Spot) (mine : List Own) (n : ℕ) → length mine ≤ n → mine_chain sh s (drop n mine) ≡ []
chain_end sh s mine n le = ap (mine_chain sh s) (drop_all n mine le) ∙ chain_nil sh s

chain_from : (sh : Layout) (s : Spot) (mine : List Own) (i : ℕ) (x : Own) → i < length mine → x ≡ get_or mine i x
    → mine_chain sh s (drop i mine) ≡ mine_chain sh s (x ∷ drop (i + 1) mine)
chain_from sh s mine i x lt is = ap (mine_chain sh s) (drop_more mine i x lt ∙ ap (λ (y : Own). y ∷ drop (i + 1) mine) (sym is))

pub chain_in : (sh : Layout) (s : Spot) (mine : List Own) (i : ℕ) (x : Own) → i < length mine → x ≡ get_or mine i x
    → same_path (sh.path x.row s.lane) s.path ≡ true → mine_chain sh s (drop i mine) ≡ mine_chain sh s (drop (i + 1) mine) ++ (x.offset, x.row) ∷ []
chain_in sh s mine i x lt is e =
    chain_from sh s mine i x lt is
    ∙ (chain_cons sh s x (drop (i + 1) mine) ∙ ap (λ (b : Bool). mine_chain sh s (drop (i + 1) mine) ++ cond b ((x.offset, x.row) ∷ []) []) e)

pub chain_out : (sh : Layout) (s : Spot) (mine : List Own) (i : ℕ) (x : Own) → i < length mine → x ≡ get_or mine i x
    → same_path (sh.path x.row s.lane) s.path ≡ false → mine_chain sh s (drop i mine) ≡ mine_chain sh s (drop (i + 1) mine)
chain_out sh s mine i x lt is e =
    chain_from sh s mine i x lt is
    ∙ (chain_cons sh s x (drop (i + 1) mine)
    ∙ (ap (λ (b : Bool). mine_chain sh s (drop (i + 1) mine) ++ cond b ((x.offset, x.row) ∷ []) []) e
    ∙ Rattle.std.proofs.Common.append-nil (mine_chain sh s (drop (i + 1) mine))))

top_push : (c : List (ℕ × RowValue)) (x : ℕ × RowValue) → link_to_newest (c ++ x ∷ []) ≡ cond (link_to_newest c == 0) (suc x.0) (link_to_newest c)
top_push [] x = ap (λ (b : Bool). cond b (suc x.0) 0) (sym (eq-eqb 0 0 refl))
top_push (y ∷ ys) x = ap (λ (b : Bool). cond b (suc x.0) (suc y.0)) (sym (ne_eqb (suc y.0) 0 (λ e. omega (arith, e))))

pub newest_is : (c : List (ℕ × RowValue)) (x : ℕ × RowValue) (previous left : ℕ) → previous ≡ link_to_newest c
    → left ≡ cond (previous == 0) (x.0 + 1) previous → left ≡ link_to_newest (c ++ x ∷ [])
newest_is c x previous left e is =
    is ∙ (ap₂ (λ (a b : ℕ). cond (a == 0) b a) e (let f : x.0 + 1 ≡ suc x.0 = omega arith in f) ∙ sym (top_push c x))

pub amounts_push : (shape : ShapeValue) (lane : ℕ) (row : RowValue) (c : List (ℕ × RowValue)) (x : ℕ × RowValue)
    → amounts_with_row shape lane row (c ++ x ∷ []) ≡ amounts_with_row shape lane row c ++ measure_of shape lane x.1 ∷ []
amounts_push shape lane row c x =
    ap (λ (rs : List RowValue). map (λ (r : RowValue). measure_of shape lane r) (row ∷ rs)) (map_push (λ (y : ℕ × RowValue). y.1) c x)
    ∙ map_push (λ (r : RowValue). measure_of shape lane r) (row ∷ map (λ (y : ℕ × RowValue). y.1) c) x.1

pub amounts_first : (shape : ShapeValue) (lane : ℕ) (row : RowValue) (c : List (ℕ × RowValue)) → c ≡ []
    → amounts_with_row shape lane row c ≡ [] ++ measure_of shape lane row ∷ []
amounts_first shape lane row c e = ap (amounts_with_row shape lane row) e

amounts_long : (shape : ShapeValue) (lane : ℕ) (row : RowValue) (c : List (ℕ × RowValue)) → length (amounts_with_row shape lane row c) ≡ suc (length c)
amounts_long shape lane row c =
    omega (
      arith,
      Rattle.std.proofs.lemmas.List.length-map {A = RowValue} {B = ℕ} (row ∷ map (λ (y : ℕ × RowValue). y.1) c) (λ r. measure_of shape lane r),
      Rattle.std.proofs.lemmas.List.length-map {A = ℕ × RowValue} {B = RowValue} c (λ y. y.1),
    )

pub quad_few : (shape : ShapeValue) (lane : ℕ) (row : RowValue) (s : Spot) (mine : List Own) (i : ℕ) (q : QuadValue)
    → q ≡ quad_of (amounts_with_row shape lane row (mine_chain (layout shape) s (drop i mine))) → length mine ≤ 65536 → q.count ≤ 65537
quad_few shape lane row s mine i q e few =
    let c = mine_chain (layout shape) s (drop i mine) in
    omega (
      arith,
      ap (λ (x : QuadValue). x.count) e,
      amounts_long shape lane row c,
      chain_few (layout shape) s (drop i mine),
      few,
      Rattle.std.proofs.Common.length-drop i mine,
    )

-- a quad of own measures is lawful
low_push : (xs : List ℕ) (y : ℕ) → AreLow xs → y < 2 ^ 32 → AreLow (xs ++ y ∷ [])
low_push [] y low lt = (lt, tt)
low_push (x ∷ xs) y low lt = (low.0, low_push xs y low.1 lt)

rest_own : (shape : ShapeValue) (x : Own) (xs : List Own) → AreOwn shape (x ∷ xs) → AreOwn shape xs
rest_own shape x xs own =
    record { few = (let h = own.few in omega (arith, h)); fits = λ i y at. own.fits (suc i) y at; offset = λ i y at. own.offset (suc i) y at }

pub amounts_low : (shape : ShapeValue) (lane : ℕ) (row : RowValue) (s : Spot) (mine : List Own) → IsShape shape → lane < length shape.lanes
    → Fits shape.schema row → AreOwn shape mine → AreLow (amounts_with_row shape lane row (mine_chain (layout shape) s mine))
amounts_low shape lane row s [] is lt fits own =
    subst AreLow (sym (amounts_first shape lane row (mine_chain (layout shape) s []) (chain_nil (layout shape) s))) (measure_low shape lane row is lt fits, tt)
amounts_low shape lane row s (x ∷ xs) is lt fits own = elim (cases_Bool (same_path (path_in shape x.row s.lane) s.path)) [
  | inl e ↦
      let whole : mine_chain (layout shape) s (x ∷ xs) ≡ mine_chain (layout shape) s xs ++ (x.offset, x.row) ∷ [] = chain_cons (layout shape) s x xs
      ∙ ap (λ (b : Bool). mine_chain (layout shape) s xs ++ cond b ((x.offset, x.row) ∷ []) []) e in
      subst AreLow (sym (ap (amounts_with_row shape lane row) whole ∙ amounts_push shape lane row (mine_chain (layout shape) s xs) (x.offset, x.row)))
      (low_push (amounts_with_row shape lane row (mine_chain (layout shape) s xs)) (measure_of shape lane x.row)
      (amounts_low shape lane row s xs is lt fits (rest_own shape x xs own)) (measure_low shape lane x.row is lt (own.fits 0 x refl)))
  | inr e ↦
      let whole : mine_chain (layout shape) s (x ∷ xs) ≡ mine_chain (layout shape) s xs = chain_cons (layout shape) s x xs
      ∙ (ap (λ (b : Bool). mine_chain (layout shape) s xs ++ cond b ((x.offset, x.row) ∷ []) []) e
      ∙ Rattle.std.proofs.Common.append-nil (mine_chain (layout shape) s xs)) in
      subst AreLow (sym (ap (amounts_with_row shape lane row) whole)) (amounts_low shape lane row s xs is lt fits (rest_own shape x xs own))
]

pub quad_lawful : (shape : ShapeValue) (lane : ℕ) (row : RowValue) (s : Spot) (mine : List Own) (q : QuadValue) → IsShape shape → lane < length shape.lanes
    → Fits shape.schema row → AreOwn shape mine → q ≡ quad_of (amounts_with_row shape lane row (mine_chain (layout shape) s mine)) → IsQuad q
quad_lawful shape lane row s mine q is lt fits own e =
    subst IsQuad (sym e)
    (quad_is_lawful (amounts_with_row shape lane row (mine_chain (layout shape) s mine)) (amounts_low shape lane row s mine is lt fits own))

-- links are low
pub top_low : (sh : Layout) (s : Spot) (mine : List Own) (shape : ShapeValue) → AreOwn shape mine → link_to_newest (mine_chain sh s mine) ≤ 65536
top_low sh s [] shape own = omega (arith, ap link_to_newest (chain_nil sh s))
top_low sh s (x ∷ xs) shape own = elim (cases_Bool (same_path (sh.path x.row s.lane) s.path)) [
  | inl e ↦
      let whole : mine_chain sh s (x ∷ xs) ≡ mine_chain sh s xs ++ (x.offset, x.row) ∷ [] = chain_cons sh s x xs
      ∙ ap (λ (b : Bool). mine_chain sh s xs ++ cond b ((x.offset, x.row) ∷ []) []) e in
      let low = own.offset 0 x refl in
      omega (arith, ap link_to_newest whole, pushed (mine_chain sh s xs) (top_low sh s xs shape (rest_own shape x xs own)) low)
  | inr e ↦
      let whole : mine_chain sh s (x ∷ xs) ≡ mine_chain sh s xs = chain_cons sh s x xs
      ∙ (ap (λ (b : Bool). mine_chain sh s xs ++ cond b ((x.offset, x.row) ∷ []) []) e ∙ Rattle.std.proofs.Common.append-nil (mine_chain sh s xs)) in
      omega (arith, ap link_to_newest whole, top_low sh s xs shape (rest_own shape x xs own))
]
  where
    pushed : (c : List (ℕ × RowValue)) → link_to_newest c ≤ 65536 → x.offset < 65536 → link_to_newest (c ++ (x.offset, x.row) ∷ []) ≤ 65536
    pushed [] le lt = omega arith
    pushed (y ∷ ys) le lt = le

-- words of cells
word_is : (shape : ShapeValue) (lane j : ℕ) (c : List (ℕ × RowValue)) (row : RowValue) (m : Bool) (previous : ℕ) (q : QuadValue) → m ≡ is_measured shape lane
    → previous ≡ link_to_newest c → q ≡ quad_of (amounts_with_row shape lane row c) → cell_word_of m previous q j ≡ version_word (layout shape) lane j c row
unfolding version_word
word_is shape lane zero c row m previous q me pe qe =
    let count : q.count ≡ length c + 1 = omega (arith, ap (λ (x : QuadValue). x.count) qe, amounts_long shape lane row c) in
    ap (λ (b : Bool). halves previous (cond b q.count 0)) me ∙ ap₂ (λ (a n : ℕ). halves a (cond (is_measured shape lane) n 0)) pe count
word_is shape lane (suc j) c row m previous q me pe qe = ap (measure_word j) qe

pub version_is_word : (shape : ShapeValue) (b : Book) (row : RowValue) (lane j word : ℕ) (q : List ℕ) (m : Bool) (previous : ℕ) (quad : QuadValue)
    → path_in shape row lane ≡ Some q → m ≡ is_measured shape lane → previous ≡ link_to_newest (mine_chain (layout shape) (spot lane q) b.mine)
    → quad ≡ quad_of (amounts_with_row shape lane row (mine_chain (layout shape) (spot lane q) b.mine)) → word ≡ cell_word_of m previous quad j
    → word ≡ own_lane_word (layout shape) b row lane j (path_in shape row lane)
version_is_word shape b row lane j word q m previous quad leads me pe qe is =
    is ∙ (word_is shape lane j (mine_chain (layout shape) (spot lane q) b.mine) row m previous quad me pe qe
    ∙ ap (own_lane_word (layout shape) b row lane j) (sym leads))

pub version_none : (shape : ShapeValue) (b : Book) (row : RowValue) (lane j : ℕ) → path_in shape row lane ≡ None
    → 0 ≡ own_lane_word (layout shape) b row lane j (path_in shape row lane)
version_none shape b row lane j none = ap (own_lane_word (layout shape) b row lane j) (sym none)

pub own_plain : (shape : ShapeValue) (b : Book) (row : RowValue) (i : ℕ) → IsPlainUse shape i
    → own_word (layout shape) b row (use_at shape i) ≡ get_or (Rattle.cf_row.specs.Words.spelled (Rattle.cf_law.specs.Words.entry b.writer row)) i 0
own_plain shape b row i is = ap (own_word (layout shape) b row) is.1
