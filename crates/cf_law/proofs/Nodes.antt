-- What the nodes are after a label and after a link.
use Rattle.std.proofs.Common.{◌≡◌, ℕ, ◌+◌, ◌*◌, ◌/◌, ◌%◌, ◌<◌, ◌≤◌, ◌≢◌, ◌==◌, zero, suc, List, [], ◌∷◌, ◌++◌, length, set, Some, None, slice_get, cond, Bool, true, false, inl, inr, refl, arith, ap, ap₂, sym, ◌∙◌}
use Rattle.std.proofs.Common.{length-append, length-set}
use Rattle.std.proofs.lemmas.List.{get_or-set_same, get_or-set_other, get_or_past}
use Rattle.std.proofs.lemmas.Nat.{div-add-mod', div-mul-add, mul-add-lt}
use Rattle.std.proofs.lemmas.Bool.{cases_eq, cases_lt}
use Rattle.std.proofs.lemmas.Option.{slice_get_past, slice_get_within}
use Rattle.cf_row.proofs.Lists.{get_push_other, get_push_same}
use Rattle.cf_row.proofs.Truths.{eq_false, eq_true}
use Rattle.cf_law.proofs.Forms.{stocks_with_label, stocks_with_node, stocks_with_mark}
use Rattle.cf_law.specs.Words.{Spot, NodeStock, stock_of, node_at, spare_label, free_of, marked_books}

pub cond_zero : (b : Bool) → ◌≡◌ {A = ℕ} (cond b 0 0) 0
cond_zero true = refl
cond_zero false = refl

pub book_same : (bs : List NodeStock) (w : ℕ) (b : NodeStock) → w < length bs → stock_of (set bs w b) w ≡ b
unfolding stock_of
book_same bs w b h = get_or-set_same bs w b _ h

pub book_past : (bs : List NodeStock) (w : ℕ) → length bs ≤ w → stock_of bs w ≡ record { used = []; label = 0; over = false }
unfolding stock_of
book_past bs w h = get_or_past bs w _ h

pub book_other : (bs : List NodeStock) (w v : ℕ) (b : NodeStock) → v ≢ w → stock_of (set bs w b) v ≡ stock_of bs v
unfolding stock_of
book_other bs w v b h = get_or-set_other bs w v b _ h

-- a number below the end of row w is in row w
pub row_of : (m w k : ℕ) → k < m → (w * m + k) / m ≡ w
row_of m w k h = div-mul-add w m k h

pub col_of : (m w k : ℕ) → k < m → (w * m + k) % m ≡ k
col_of m w k h = let e = row_of m w k h in let f = div-add-mod' (w * m + k) m in omega (arith, ap (λ (q : ℕ). q * m) e, f)

pub at_free : (m : ℕ) (bs : List NodeStock) (w : ℕ) → length (stock_of bs w).used < m
    → (free_of m bs w / m ≡ w) × (free_of m bs w % m ≡ length (stock_of bs w).used)
at_free m bs w room = (row_of m w _ room, col_of m w _ room)

-- a node of row w in column k is w * m + k
pub from_place : (m w k n : ℕ) → n / m ≡ w → n % m ≡ k → n ≡ w * m + k
from_place m w k n e f = let h = div-add-mod' n m in omega (arith, ap (λ (q : ℕ). q * m) e, h)

pub free_is_free : (m : ℕ) (bs : List NodeStock) (w : ℕ) → length (stock_of bs w).used < m → node_at m bs (free_of m bs w) ≡ None
unfolding node_at
free_is_free m bs w room = let h = at_free m bs w room in
    ap₂ (λ (q k : ℕ). slice_get (stock_of bs q).used k) h.0 h.1 ∙ slice_get_past (stock_of bs w).used _ (omega arith)

-- A label leaves every node's spot, and every spare label but one.
pub label_node_at : (m : ℕ) (bs : List NodeStock) (w v n : ℕ) → w < length bs → node_at m (stocks_with_label w v bs) n ≡ node_at m bs n
unfolding node_at stocks_with_label
label_node_at m bs w v n h =
    let b : NodeStock = record { used = (stock_of bs w).used; label = v; over = (stock_of bs w).over } in
    elim (cases_eq (n / m) w) [
      | inl e ↦ ap (λ (q : ℕ). slice_get (stock_of (set bs w b) q).used (n % m)) e
          ∙ (ap (λ (c : NodeStock). slice_get c.used (n % m)) (book_same bs w b h) ∙ ap (λ (q : ℕ). slice_get (stock_of bs q).used (n % m)) (sym e))
      | inr ne ↦ ap (λ (c : NodeStock). slice_get c.used (n % m)) (book_other bs w (n / m) b ne)
    ]

pub label_spare_here : (m : ℕ) (bs : List NodeStock) (w v : ℕ) → w < length bs → length (stock_of bs w).used < m
    → spare_label m (stocks_with_label w v bs) (free_of m bs w) ≡ v
unfolding spare_label stocks_with_label
label_spare_here m bs w v h room =
    let b : NodeStock = record { used = (stock_of bs w).used; label = v; over = (stock_of bs w).over } in
    let at = at_free m bs w room in
    ap₂ (λ (q k : ℕ). cond (k == length (stock_of (set bs w b) q).used) (stock_of (set bs w b) q).label 0) at.0 at.1
    ∙ (ap (λ (c : NodeStock). cond (length (stock_of bs w).used == length c.used) c.label 0) (book_same bs w b h)
    ∙ ap (λ (t : Bool). cond t v 0) (eq_true _ _ refl))

pub label_spare_other : (m : ℕ) (bs : List NodeStock) (w v n : ℕ) → w < length bs → (n ≡ free_of m bs w → ⊥)
    → spare_label m (stocks_with_label w v bs) n ≡ spare_label m bs n
unfolding spare_label stocks_with_label
label_spare_other m bs w v n h ne =
    let b : NodeStock = record { used = (stock_of bs w).used; label = v; over = (stock_of bs w).over } in
    let f = λ (c : NodeStock). cond (n % m == length c.used) c.label 0 in
    elim (cases_eq (n / m) w) [
      | inl e ↦
          let far : (n % m == length (stock_of bs w).used) ≡ false = eq_false _ _ (λ k. ne (from_place m w _ n e k)) in
          ap (λ (q : ℕ). f (stock_of (set bs w b) q)) e ∙ (ap f (book_same bs w b h) ∙ (ap (λ (t : Bool). cond t v 0) far
          ∙ (ap (λ (t : Bool). cond t (stock_of bs w).label 0) (sym far) ∙ ap (λ (q : ℕ). f (stock_of bs q)) (sym e))))
      | inr far ↦ ap f (book_other bs w (n / m) b far)
    ]

pub spare_free : (m : ℕ) (bs : List NodeStock) (w : ℕ) → length (stock_of bs w).used < m → spare_label m bs (free_of m bs w) ≡ (stock_of bs w).label
unfolding spare_label
spare_free m bs w room =
    let at = at_free m bs w room in
    ap₂ (λ (q k : ℕ). cond (k == length (stock_of bs q).used) (stock_of bs q).label 0) at.0 at.1
    ∙ ap (λ (t : Bool). cond t (stock_of bs w).label 0) (eq_true _ _ refl)

-- A link gives the free node its spot, and leaves every other node's.
pub use_node_at_here : (m : ℕ) (bs : List NodeStock) (w : ℕ) (s : Spot) → w < length bs → length (stock_of bs w).used < m
    → node_at m (stocks_with_node w s bs) (free_of m bs w) ≡ Some s
unfolding node_at stocks_with_node
use_node_at_here m bs w s h room =
    let b : NodeStock = record { used = (stock_of bs w).used ++ s ∷ []; label = 0; over = (stock_of bs w).over } in
    let at = at_free m bs w room in
    ap₂ (λ (q k : ℕ). slice_get (stock_of (set bs w b) q).used k) at.0 at.1
    ∙ (ap (λ (c : NodeStock). slice_get c.used (length (stock_of bs w).used)) (book_same bs w b h) ∙ get_push_same (stock_of bs w).used s)

pub use_node_at_other : (m : ℕ) (bs : List NodeStock) (w : ℕ) (s : Spot) (n : ℕ) → w < length bs → (n ≡ free_of m bs w → ⊥)
    → node_at m (stocks_with_node w s bs) n ≡ node_at m bs n
unfolding node_at stocks_with_node
use_node_at_other m bs w s n h ne =
    let b : NodeStock = record { used = (stock_of bs w).used ++ s ∷ []; label = 0; over = (stock_of bs w).over } in
    let f = λ (c : NodeStock). slice_get c.used (n % m) in
    elim (cases_eq (n / m) w) [
      | inl e ↦ ap (λ (q : ℕ). f (stock_of (set bs w b) q)) e ∙ (ap f (book_same bs w b h)
          ∙ (get_push_other (stock_of bs w).used s (n % m) (λ k. ne (from_place m w _ n e k)) ∙ ap (λ (q : ℕ). f (stock_of bs q)) (sym e)))
      | inr far ↦ ap f (book_other bs w (n / m) b far)
    ]

-- a node past the last used one of its writer has the spare label 0, and the label is spent by a link
pub use_spare : (m : ℕ) (bs : List NodeStock) (w : ℕ) (s : Spot) (n : ℕ) → w < length bs → (n ≡ free_of m bs w → ⊥)
    → spare_label m (stocks_with_node w s bs) n ≡ spare_label m bs n
unfolding spare_label stocks_with_node
use_spare m bs w s n h ne =
    let b : NodeStock = record { used = (stock_of bs w).used ++ s ∷ []; label = 0; over = (stock_of bs w).over } in
    let f = λ (c : NodeStock). cond (n % m == length c.used) c.label 0 in
    elim (cases_eq (n / m) w) [
      | inl e ↦
          let far : (n % m == length (stock_of bs w).used) ≡ false = eq_false _ _ (λ k. ne (from_place m w _ n e k)) in
          ap (λ (q : ℕ). f (stock_of (set bs w b) q)) e ∙ (ap f (book_same bs w b h) ∙ (cond_zero (n % m == length b.used)
          ∙ (ap (λ (t : Bool). cond t (stock_of bs w).label 0) (sym far) ∙ ap (λ (q : ℕ). f (stock_of bs q)) (sym e))))
      | inr far ↦ ap f (book_other bs w (n / m) b far)
    ]

-- the books themselves
pub relabel_length : (w v : ℕ) (bs : List NodeStock) → length (stocks_with_label w v bs) ≡ length bs
unfolding stocks_with_label
relabel_length w v bs = length-set bs w _

pub use_length : (w : ℕ) (s : Spot) (bs : List NodeStock) → length (stocks_with_node w s bs) ≡ length bs
unfolding stocks_with_node
use_length w s bs = length-set bs w _

pub relabel_used : (w v : ℕ) (bs : List NodeStock) (u : ℕ) → w < length bs → length (stock_of (stocks_with_label w v bs) u).used ≡ length (stock_of bs u).used
unfolding stocks_with_label
relabel_used w v bs u h = let b : NodeStock = record { used = (stock_of bs w).used; label = v; over = (stock_of bs w).over } in
    elim (cases_eq u w) [
      | inl e ↦ ap (λ (q : ℕ). length (stock_of (set bs w b) q).used) e
          ∙ (ap (λ (c : NodeStock). length c.used) (book_same bs w b h) ∙ ap (λ (q : ℕ). length (stock_of bs q).used) (sym e))
      | inr ne ↦ ap (λ (c : NodeStock). length c.used) (book_other bs w u b ne)
    ]

pub use_room : (m w : ℕ) (s : Spot) (bs : List NodeStock) (u : ℕ) → w < length bs → length (stock_of bs w).used < m → length (stock_of bs u).used ≤ m
    → length (stock_of (stocks_with_node w s bs) u).used ≤ m
unfolding stocks_with_node
use_room m w s bs u h room old = let b : NodeStock = record { used = (stock_of bs w).used ++ s ∷ []; label = 0; over = (stock_of bs w).over } in
    elim (cases_eq u w) [
      | inl e ↦
          let long : length b.used ≡ length (stock_of bs w).used + 1 = length-append (stock_of bs w).used (s ∷ []) in
          omega (arith, ap (λ (q : ℕ). length (stock_of (set bs w b) q).used) e, ap (λ (c : NodeStock). length c.used) (book_same bs w b h), long, room)
      | inr ne ↦ omega (arith, ap (λ (c : NodeStock). length c.used) (book_other bs w u b ne), old)
    ]

pub node_within : (m k : ℕ) (bs : List NodeStock) (n : ℕ) (s : Spot) → length bs ≡ k → ((w : ℕ) → length (stock_of bs w).used ≤ m) → node_at m bs n ≡ Some s
    → n < k * m
unfolding node_at
node_within m k bs n s len room h =
    let col : n % m < length (stock_of bs (n / m)).used = slice_get_within _ _ _ h in
    elim (cases_lt (n / m) (length bs)) [
      | inl lt ↦ omega (arith, mul-add-lt (n / m) m (n % m) k (omega arith) (omega (arith, room (n / m))), div-add-mod' n m)
      | inr ge ↦ absurd (omega (arith, ap (λ (b : NodeStock). length b.used) (book_past bs (n / m) ge)))
    ]

-- A mark leaves the nodes and labels.
over_book : (bs : List NodeStock) (w u : ℕ) → w < length bs → ((stock_of (stocks_with_mark w bs) u).used ≡ (stock_of bs u).used)
    × ((stock_of (stocks_with_mark w bs) u).label ≡ (stock_of bs u).label)
unfolding stocks_with_mark
over_book bs w u h = let b : NodeStock = record { used = (stock_of bs w).used; label = (stock_of bs w).label; over = true } in
    elim (cases_eq u w) [
      | inl e ↦ (
        ap (λ (q : ℕ). (stock_of (set bs w b) q).used) e ∙ (ap (λ (c : NodeStock). c.used) (book_same bs w b h) ∙ ap (λ (q : ℕ). (stock_of bs q).used) (sym e)),
        ap (λ (q : ℕ). (stock_of (set bs w b) q).label) e
            ∙ (ap (λ (c : NodeStock). c.label) (book_same bs w b h) ∙ ap (λ (q : ℕ). (stock_of bs q).label) (sym e)),
      )
      | inr ne ↦ (ap (λ (c : NodeStock). c.used) (book_other bs w u b ne), ap (λ (c : NodeStock). c.label) (book_other bs w u b ne))
    ]

pub over_used : (bs : List NodeStock) (w u : ℕ) → w < length bs → length (stock_of (stocks_with_mark w bs) u).used ≡ length (stock_of bs u).used
over_used bs w u h = ap (length {A = Spot}) (over_book bs w u h).0

pub over_length : (w : ℕ) (bs : List NodeStock) → length (stocks_with_mark w bs) ≡ length bs
unfolding stocks_with_mark
over_length w bs = length-set bs w _

pub over_node_at : (m : ℕ) (bs : List NodeStock) (w n : ℕ) → w < length bs → node_at m (stocks_with_mark w bs) n ≡ node_at m bs n
unfolding node_at
over_node_at m bs w n h = ap (λ (xs : List Spot). slice_get xs (n % m)) (over_book bs w (n / m) h).0

pub over_spare : (m : ℕ) (bs : List NodeStock) (w n : ℕ) → w < length bs → spare_label m (stocks_with_mark w bs) n ≡ spare_label m bs n
unfolding spare_label
over_spare m bs w n h = let b = over_book bs w (n / m) h in ap₂ (λ (xs : List Spot) (l : ℕ). cond (n % m == length xs) l 0) b.0 b.1

-- How many books are marked.
count_set : (bs : List NodeStock) (w : ℕ) (b : NodeStock) → w < length bs
    → marked_books (set bs w b) + cond (stock_of bs w).over 1 0 ≡ marked_books bs + cond b.over 1 0
unfolding marked_books stock_of
count_set [] w b h = absurd (omega arith)
count_set (c ∷ bs) zero b h = omega arith
count_set (c ∷ bs) (suc w) b h = omega (arith, count_set bs w b (omega arith))

count_same : (bs : List NodeStock) (w : ℕ) (b : NodeStock) → w < length bs → b.over ≡ (stock_of bs w).over → marked_books (set bs w b) ≡ marked_books bs
count_same bs w b h e = omega (arith, count_set bs w b h, ap (λ (t : Bool). cond {A = ℕ} t 1 0) e)

pub relabel_marked : (w v : ℕ) (bs : List NodeStock) → w < length bs → marked_books (stocks_with_label w v bs) ≡ marked_books bs
unfolding stocks_with_label
relabel_marked w v bs h = count_same bs w _ h refl

pub use_marked : (w : ℕ) (s : Spot) (bs : List NodeStock) → w < length bs → marked_books (stocks_with_node w s bs) ≡ marked_books bs
unfolding stocks_with_node
use_marked w s bs h = count_same bs w _ h refl

pub over_marked : (w : ℕ) (bs : List NodeStock) → w < length bs → (stock_of bs w).over ≡ false → marked_books (stocks_with_mark w bs) ≡ suc (marked_books bs)
unfolding stocks_with_mark
over_marked w bs h e =
    omega (
      arith,
      count_set bs w (record { used = (stock_of bs w).used; label = (stock_of bs w).label; over = true }) h,
      ap (λ (t : Bool). cond {A = ℕ} t 1 0) e,
    )

over_set : (bs : List NodeStock) (w u : ℕ) (b : NodeStock) → w < length bs → b.over ≡ (stock_of bs w).over
    → (stock_of (set bs w b) u).over ≡ (stock_of bs u).over
over_set bs w u b h same = elim (cases_eq u w) [
  | inl e ↦ ap (λ (q : ℕ). (stock_of (set bs w b) q).over) e
      ∙ (ap (λ (c : NodeStock). c.over) (book_same bs w b h) ∙ (same ∙ ap (λ (q : ℕ). (stock_of bs q).over) (sym e)))
  | inr ne ↦ ap (λ (c : NodeStock). c.over) (book_other bs w u b ne)
]

pub relabel_over : (w v : ℕ) (bs : List NodeStock) (u : ℕ) → w < length bs → (stock_of (stocks_with_label w v bs) u).over ≡ (stock_of bs u).over
unfolding stocks_with_label
relabel_over w v bs u h = over_set bs w u _ h refl

pub use_over : (w : ℕ) (s : Spot) (bs : List NodeStock) (u : ℕ) → w < length bs → (stock_of (stocks_with_node w s bs) u).over ≡ (stock_of bs u).over
unfolding stocks_with_node
use_over w s bs u h = over_set bs w u _ h refl

-- the book of a link
pub use_book_same : (w : ℕ) (s : Spot) (bs : List NodeStock) → w < length bs
    → stock_of (stocks_with_node w s bs) w ≡ record { used = (stock_of bs w).used ++ s ∷ []; label = 0; over = (stock_of bs w).over }
unfolding stocks_with_node
use_book_same w s bs h = book_same bs w _ h

pub use_book_other : (w : ℕ) (s : Spot) (bs : List NodeStock) (u : ℕ) → u ≢ w → stock_of (stocks_with_node w s bs) u ≡ stock_of bs u
unfolding stocks_with_node
use_book_other w s bs u h = book_other bs w u _ h

-- an own used node by its place in the book
pub node_of : (m : ℕ) (bs : List NodeStock) (w j : ℕ) (s : Spot) → length (stock_of bs w).used ≤ m → slice_get (stock_of bs w).used j ≡ Some s
    → node_at m bs (w * m + j) ≡ Some s
unfolding node_at
node_of m bs w j s room at =
    let lt : j < m = omega (arith, slice_get_within (stock_of bs w).used j s at) in
    ap₂ (λ (q k : ℕ). slice_get (stock_of bs q).used k) (row_of m w j lt) (col_of m w j lt) ∙ at
