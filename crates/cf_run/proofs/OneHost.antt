-- The rows of hosts, one more host at a time.
use Rattle.std.proofs.Common.{◌≡◌, ◌⊎◌, ℕ, zero, suc, ◌<◌, ◌+◌, List, length, get_or, refl, sym, ap, subst, ◌∙◌, inl, inr, arith}
use Rattle.std.proofs.lemmas.List.{get_or-map}
use Rattle.cf_row.specs.Row.{RowValue}
use Rattle.cf_intake.specs.Parts.{rows_each}
use Rattle.cf_intake.specs.declared.rows.Captured.{Captured}

-- the rows of the host at a place
pub at_host : (hosts : List Captured) (i : ℕ) (host : Captured) (d : List RowValue) → i < length hosts → host ≡ get_or hosts i host
    → get_or (rows_each hosts) i d ≡ host.rows.items
at_host hosts i host d lt is = get_or-map (λ (h : Captured). h.rows.items) hosts i host d lt ∙ ap (λ (h : Captured). h.rows.items) (sym is)

-- what holds of the rows of the first hosts
abbrev pub AreBelow : (List RowValue → Type 0) → List (List RowValue) → ℕ → Type 0
AreBelow P hosts i = (k : ℕ) (d : List RowValue) → k < i → P (get_or hosts k d)

less_or_same : (k i : ℕ) → k < i + 1 → (k < i) ⊎ (k ≡ i)
less_or_same zero zero lt = inr refl
less_or_same zero (suc i) lt = inl (omega arith)
less_or_same (suc k) zero lt = absurd (omega (arith, lt))
less_or_same (suc k) (suc i) lt = elim (less_or_same k i (omega (arith, lt))) [ inl less ↦ inl (omega (arith, less)) | inr same ↦ inr (ap suc same) ]

pub none_below : (P : List RowValue → Type 0) (hosts : List (List RowValue)) → AreBelow P hosts 0
none_below P hosts k d lt = absurd (omega (arith, lt))

pub one_below : (P : List RowValue → Type 0) (hosts : List Captured) (i : ℕ) (host : Captured) → i < length hosts
    → host ≡ get_or hosts i host → P host.rows.items → AreBelow P (rows_each hosts) i → AreBelow P (rows_each hosts) (i + 1)
one_below P hosts i host lt is has below k d low = elim (less_or_same k i low) [
  | inl less ↦ below k d less
  | inr same ↦ subst (λ (j : ℕ). P (get_or (rows_each hosts) j d)) (sym same) (subst P (sym (at_host hosts i host d lt is)) has)
]
