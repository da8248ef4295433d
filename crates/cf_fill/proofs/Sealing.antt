-- The seals of a log's segments, and the nodes that the rows in each need.
use Rattle.std.proofs.Common.{◌≡◌, ℕ, ◌+◌, ◌-◌, ◌*◌, ◌/◌, ◌<◌, ◌≤◌, zero, suc, max, List, [], ◌∷◌, ◌++◌, length, map, drop, get_or, All, Some, slice_get, refl, sym, ap, subst, ◌∙◌, arith, inl, inr, append-nil, length-append, mul-zero, mul-suc, mul-le-mul_left, mul_comm}
use Rattle.std.proofs.Math.Nat.{div-zero, div-eq_of_lt, le-div_iff_mul-le}
use Rattle.std.proofs.lemmas.Bool.{cases_lt}
use Rattle.std.proofs.lemmas.List.{length-take, length-drop, length-map, take_at, drop_at}
use Rattle.std.proofs.lemmas.List.Elements.{All-map}
use Rattle.std.proofs.lemmas.List.FromFn.{get_or-map-range_with_len, length-map-range_with_len}
use Rattle.std.proofs.lemmas.Nat.{div-mul-add}
use Rattle.std.proofs.lemmas.Option.{slice_get_within}
use Rattle.std.specs.List.{flat_map, range_with_len}
use Rattle.cf_row.proofs.Lists.{has_left, get_push_same}
use Rattle.cf_row.specs.Row.{RowValue}
use Rattle.cf_row.specs.declared.row.Entry.{Entry}
use Rattle.cf_shape.specs.Lanes.{ShapeValue}
use Rattle.cf_shape.specs.Nodes.{distinct}
use Rattle.cf_table.specs.Moves.{SealValue}
use Rattle.cf_segments.specs.Blocks.{block}
use Rattle.cf_segments.specs.Segments.{SegmentsValue, HoldsRows, all_of, base_of, entries_of, seen_of, sealed, told_from, told_of}
use Rattle.cf_segments.specs.declared.segments.Segment.{Segment}
use Rattle.cf_segments.proofs.Blocks.{blocks_one, first_block, next_block, whole_block}
use Rattle.cf_load.proofs.Loaders.{entries_long}
use Rattle.cf_segments.proofs.Pigeons.{from_map}
use Rattle.cf_fill.specs.Needs.{NeedsAtMost, NeedsMore}
use Rattle.cf_fill.specs.Seals.{AreSeals, told_in}

-- what the roots were told, by their seals
told_sealed : (n base : ℕ) (segments : List Segment) → told_in n base (map sealed segments) ≡ told_from n base segments
told_sealed n base [] = refl
told_sealed n base (g ∷ gs) = ap (λ (ts : List ℕ). map (λ tail. base + tail) (g.root.view).told ++ ts) (told_sealed n (base + n) gs)

-- The entries of segments that are full, and of one behind them, block by block.
block_seen : (n : ℕ) (closed : List Segment) (current : Segment) → ((k : ℕ) (h : Segment) → slice_get closed k ≡ Some h → length (seen_of h) ≡ n)
    → length (seen_of current) ≤ n
    → (k : ℕ) (h : Segment) → slice_get (closed ++ current ∷ []) k ≡ Some h → seen_of h ≡ block n k (flat_map seen_of (closed ++ current ∷ []))
block_seen n [] current full few zero h at =
    let same : current ≡ h = cc at in
    ap seen_of (sym same) ∙ sym (ap (block n 0) (append-nil (seen_of current)) ∙ whole_block n (seen_of current) few)
block_seen n [] current full few (suc k) h at = absurd (cc at)
block_seen n (c ∷ cs) current full few zero h at =
    let same : c ≡ h = cc at in
    ap seen_of (sym same)
    ∙ sym (first_block n (seen_of c ++ flat_map seen_of (cs ++ current ∷ []))
    ∙ take_at (seen_of c) (flat_map seen_of (cs ++ current ∷ [])) n (full 0 c refl))
block_seen n (c ∷ cs) current full few (suc k) h at =
    block_seen n cs current (λ j x there. full (suc j) x there) few k h at
    ∙ sym (next_block n k (seen_of c ++ flat_map seen_of (cs ++ current ∷ []))
    ∙ ap (block n k) (drop_at (seen_of c) (flat_map seen_of (cs ++ current ∷ [])) n (full 0 c refl)))

-- how many blocks some items have, where the last block has one or is the only block
blocks_count : (n c long : ℕ) → (0 < c → n * c < long) → long ≤ n * c + n → suc c ≡ max 1 ((long + n - 1) / n)
blocks_count n c long begun room = elim (cases_lt (n * c) long) [
  | inl more ↦
      let turn : suc c * n ≡ n * c + n = mul_comm (suc c) n ∙ mul-suc n c in
      let sum : long + n - 1 ≡ suc c * n + (long - n * c - 1) = omega (arith, more, room, turn) in
      let many : (long + n - 1) / n ≡ suc c = ap (λ (k : ℕ). k / n) sum ∙ div-mul-add (suc c) n (long - n * c - 1) (omega (arith, more, room)) in
      omega (arith, many)
  | inr all ↦
      let none : c ≡ 0 = elim (cases_lt 0 c) [
        | inl some ↦ (let past = begun some in absurd (omega (arith, past, all)))
        | inr zero_c ↦ omega (arith, zero_c)
      ] in
      let first : n * c ≡ 0 = ap (λ (k : ℕ). n * k) none ∙ mul-zero n in
      let empty : long ≡ 0 = omega (arith, all, first) in
      let many : (long + n - 1) / n ≡ 0 = elim (cases_lt 0 n) [
        | inl some ↦ div-eq_of_lt (omega (arith, empty, some))
        | inr zero_n ↦ (let z : n ≡ 0 = omega (arith, zero_n) in ap (λ (k : ℕ). (long + n - 1) / k) z ∙ div-zero (long + n - 1))
      ] in
      omega (arith, none, many)
]

module _ (s : SegmentsValue) (rows : List RowValue) (holds : HoldsRows s rows) where
  -- the closed segments are full
  closed_full : (k : ℕ) (h : Segment) → slice_get s.closed k ≡ Some h → length (seen_of h) ≡ (s.shape).capacity
  closed_full k h at =
      let n = (s.shape).capacity in
      let low : k < length s.closed = slice_get_within s.closed k h at in
      let size = (holds.each k h (has_left s.closed (s.current ∷ []) k h at)).is.size in
      let far : n * suc k ≤ n * length s.closed = mul-le-mul_left n (let e : suc k ≤ length s.closed = omega (arith, low) in e) in
      let step = mul-suc n k in
      let front = length-take n (drop (n * k) rows) in
      let rest = length-drop (n * k) rows in
      let full = holds.full in
      omega (arith, size, far, step, front, rest, full)

  current_few : length (seen_of s.current) ≤ (s.shape).capacity
  current_few =
      let n = (s.shape).capacity in
      let k = length s.closed in
      let size = (holds.each k s.current (get_push_same s.closed s.current)).is.size in
      let front = length-take n (drop (n * k) rows) in
      omega (arith, size, front)

  -- the seals of segments that hold rows
  pub are_seals : (0 < length s.closed → base_of s < length rows) → (entries : List Entry) (told : List ℕ) (seals : List SealValue) → entries ≡ entries_of s
      → told_of s ≡ told → seals ≡ map sealed (all_of s) → AreSeals (s.shape).capacity entries told seals
  are_seals begun entries told seals seen tails made =
      let n = (s.shape).capacity in
      let long : length entries ≡ length rows = ap length seen ∙ entries_long s rows holds in
      let some = length-append s.closed (s.current ∷ []) in
      let size : length seals ≡ suc (length s.closed) = ap length made ∙ (length-map (all_of s) sealed ∙ omega (arith, some)) in record {
        count = size ∙ (blocks_count n (length s.closed) (length rows) begun holds.room ∙ ap (λ (k : ℕ). max 1 ((k + n - 1) / n)) (sym long));
        each = λ k seal at.
            let found = from_map sealed (all_of s) k seal (ap (λ (xs : List SealValue). slice_get xs k) (sym made) ∙ at) in
            ap (λ (x : SealValue). x.entries) (sym found.2)
            ∙ (block_seen n s.closed s.current closed_full current_few k found.0 found.1 ∙ ap (block n k) (sym seen));
        told_are = ap (told_in n 0) made ∙ (told_sealed n 0 (all_of s) ∙ tails);
      }

module _ (shape : ShapeValue) (most : ℕ) (rows : List RowValue) where
  -- each block needs no more
  pub needs_at_most : ((k : ℕ) → distinct shape (block shape.capacity k rows) ≤ most) → NeedsAtMost shape most rows
  needs_at_most each =
      All-map (λ part. distinct shape part ≤ most) (λ k. block shape.capacity k rows) (range_with_len 0 ((length rows + shape.capacity - 1) / shape.capacity))
      (λ i d lt. each (get_or (range_with_len 0 ((length rows + shape.capacity - 1) / shape.capacity)) i d))

  -- a block that needs some node has a row
  needs_some : (k : ℕ) → most < distinct shape (block shape.capacity k rows) → 0 < length (block shape.capacity k rows)
  needs_some k many = elim (cases_lt 0 (length (block shape.capacity k rows))) [
    | inl some ↦ some
    | inr none ↦ absurd (empty (block shape.capacity k rows) (omega (arith, none)) many)
  ]
    where
      empty : (part : List RowValue) → length part ≡ 0 → most < distinct shape part → ⊥
      empty [] zero_long more = absurd (omega (arith, more))
      empty (row ∷ part) zero_long more = absurd (cc zero_long)

  -- some block needs more
  pub needs_more : (k : ℕ) → most < distinct shape (block shape.capacity k rows) → NeedsMore shape most rows
  needs_more k many =
      let n = shape.capacity in
      let some = needs_some k many in
      let front = length-take n (drop (n * k) rows) in
      let rest = length-drop (n * k) rows in
      let turn : suc k * n ≡ n * k + n = mul_comm (suc k) n ∙ mul-suc n k in
      let low : suc k ≤ (length rows + n - 1) / n =
      (le-div_iff_mul-le (let e : 0 < n = omega (arith, some, front) in e)).1 (omega (arith, turn, some, front, rest)) in
      let size = length-map-range_with_len (λ (i : ℕ). block n i rows) 0 ((length rows + n - 1) / n) in (
        k,
        block n k rows,
        omega (arith, low, size),
        get_or-map-range_with_len (λ (i : ℕ). block n i rows) 0 ((length rows + n - 1) / n) k k (block n k rows) (omega (arith, low)) (omega arith),
        many,
      )

-- Rows that are no more than a block.
module _ (shape : ShapeValue) (most : ℕ) where
  pub one_at_most : (rows : List RowValue) → length rows ≤ shape.capacity → NeedsAtMost shape most rows → distinct shape rows ≤ most
  one_at_most [] few all = omega arith
  one_at_most (row ∷ rows) few all =
      let one : All (λ part. distinct shape part ≤ most) ((row ∷ rows) ∷ []) =
      subst (All (λ part. distinct shape part ≤ most)) (blocks_one shape.capacity (row ∷ rows) (omega arith) few) all in
      one 0 [] (omega arith)

  first_needs : (rows : List RowValue) → length rows ≤ shape.capacity → (k : ℕ) → most < distinct shape (block shape.capacity k rows)
      → most < distinct shape rows
  first_needs rows few zero many = subst (λ (part : List RowValue). most < distinct shape part) (whole_block shape.capacity rows few) many
  first_needs rows few (suc k) many =
      let n = shape.capacity in
      let some = needs_some shape most rows (suc k) many in
      let front = length-take n (drop (n * suc k) rows) in
      let rest = length-drop (n * suc k) rows in
      let step = mul-suc n k in
      absurd (omega (arith, some, front, rest, step, few))

  pub one_more : (rows : List RowValue) → length rows ≤ shape.capacity → NeedsMore shape most rows → most < distinct shape rows
  one_more rows few (k, part, low, at, many) =
      let n = shape.capacity in
      let count = (length rows + n - 1) / n in
      let size = length-map-range_with_len (λ (i : ℕ). block n i rows) 0 count in
      let is : part ≡ block n k rows = sym at
      ∙ get_or-map-range_with_len (λ (i : ℕ). block n i rows) 0 count k k part (omega (arith, low, size)) (omega arith) in
      first_needs rows few k (subst (λ (rs : List RowValue). most < distinct shape rs) is many)
