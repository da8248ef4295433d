-- The places of the rows that pass.
use Rattle.std.proofs.Common.{◌≡◌, ℕ, zero, suc, ◌+◌, ◌<◌, ◌≤◌, Bool, true, false, cond, ◌&&◌, ◌==◌, nat_lt, List, ◌∷◌, length, filter, refl, sym, ◌∙◌, inl, inr, arith}
use Rattle.std.specs.List.{AllByRecursion, list_any, range_with_len}
use Rattle.std.proofs.lemmas.Bool.{eq-eqb, ne_eqb, lt-ltb, le-ltb, cases_eq}
use Rattle.cf_row.specs.Row.{RowValue}
use Rattle.cf_plain.specs.Asks.{row_at, places}
use Rattle.cf_plain.proofs.Grouped.{Rise}
use Rattle.cf_plain.proofs.Rising.{rising_is_one}

above_range : (p : ℕ → Bool) (m a n : ℕ) → m < a → AllByRecursion (λ x. m < x) (filter p (range_with_len a n))
above_range p m a zero lt = tt
above_range p m a (suc n) lt =
    elim (p a) as (λ b. AllByRecursion (λ x. m < x) (cond b (a ∷ filter p (range_with_len (a + 1) n)) (filter p (range_with_len (a + 1) n)))) [
      | true ↦ (lt, above_range p m (a + 1) n (omega (arith, lt)))
      | false ↦ above_range p m (a + 1) n (omega (arith, lt))
    ]

pub rise_range : (p : ℕ → Bool) (a n : ℕ) → Rise (filter p (range_with_len a n))
rise_range p a zero = tt
rise_range p a (suc n) = elim (p a) as (λ b. Rise (cond b (a ∷ filter p (range_with_len (a + 1) n)) (filter p (range_with_len (a + 1) n)))) [
  | true ↦ (above_range p a (a + 1) n (omega arith), rise_range p (a + 1) n)
  | false ↦ rise_range p (a + 1) n
]

-- the places of the rows that pass ascend
pub places_rise : (passes : RowValue → Bool) (rows : List RowValue) → Rise (places passes rows)
places_rise passes rows = rise_range (λ place. passes (row_at rows place)) 0 (length rows)

below_range : (p : ℕ → Bool) (j a n : ℕ) → j < a → list_any (λ x. j == x) (filter p (range_with_len a n)) ≡ false
below_range p j a zero lt = refl
below_range p j a (suc n) lt =
    elim (p a) as (λ b. list_any (λ x. j == x) (cond b (a ∷ filter p (range_with_len (a + 1) n)) (filter p (range_with_len (a + 1) n))) ≡ false) [
      | true ↦ rw (ne_eqb j a (λ e. omega (arith, e, lt))) (below_range p j (a + 1) n (omega (arith, lt)))
      | false ↦ below_range p j (a + 1) n (omega (arith, lt))
    ]

pub any_range : (p : ℕ → Bool) (j a n : ℕ) → a ≤ j → list_any (λ x. j == x) (filter p (range_with_len a n)) ≡ (nat_lt j (a + n) && p j)
any_range p j a zero le = rw (le-ltb j (a + 0) (omega (arith, le))) refl
any_range p j a (suc n) le = elim (cases_eq j a) [
  | inl e ↦
      let in' : nat_lt j (a + suc n) ≡ true = lt-ltb j (a + suc n) (omega (arith, e)) in
      rw (in', e) (elim (p a) as (λ b. list_any (λ x. a == x) (cond b (a ∷ filter p (range_with_len (a + 1) n)) (filter p (range_with_len (a + 1) n))) ≡ b) [
        | true ↦ rw (eq-eqb a a refl) refl
        | false ↦ below_range p a (a + 1) n (omega arith)
      ])
  | inr ne ↦
      let same : a + suc n ≡ a + 1 + n = omega arith in
      let rest : list_any (λ x. j == x) (filter p (range_with_len (a + 1) n)) ≡ (nat_lt j (a + 1 + n) && p j) =
      any_range p j (a + 1) n (omega (arith, ne, le)) in
      rw same (elim (p a) as
      (λ b. list_any (λ x. j == x) (cond b (a ∷ filter p (range_with_len (a + 1) n)) (filter p (range_with_len (a + 1) n))) ≡
      (nat_lt j (a + 1 + n) && p j)) [
        | true ↦ rw (ne_eqb j a ne) rest
        | false ↦ rest
      ])
]

-- a place is among them exactly where its row passes
pub places_have : (passes : RowValue → Bool) (rows : List RowValue) (j : ℕ)
    → list_any (λ x. j == x) (places passes rows) ≡ (nat_lt j (length rows) && passes (row_at rows j))
places_have passes rows j = let same : 0 + length rows ≡ length rows = omega arith in
    rw same at (any_range (λ place. passes (row_at rows place)) j 0 (length rows) (omega arith))

-- and no other ascending list has that
pub places_are : (passes : RowValue → Bool) (rows : List RowValue) (found : List ℕ) → Rise found
    → ((j : ℕ) → list_any (λ x. j == x) found ≡ (nat_lt j (length rows) && passes (row_at rows j))) → found ≡ places passes rows
places_are passes rows found rise have = rising_is_one found (places passes rows) rise (places_rise passes rows) (λ j. have j ∙ sym (places_have passes rows j))
