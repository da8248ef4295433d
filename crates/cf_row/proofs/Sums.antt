-- Sums of a function over the numbers below one.
use Rattle.std.proofs.Common.{◌≡◌, ℕ, ◌+◌, ◌<◌, ◌≤◌, ◌==◌, zero, suc, cond, Bool, inl, inr, refl, ap, ◌∙◌, arith}
use Rattle.std.proofs.lemmas.Bool.{cases_lt, cases_Bool}
use Rattle.cf_row.proofs.Truths.{eq_from, eq_true}

-- the sum over the numbers below n
abbrev pub total : ℕ → (ℕ → ℕ) → ℕ
total zero f = 0
total (suc n) f = total n f + f n

pub total_same : (n : ℕ) (f g : ℕ → ℕ) → ((w : ℕ) → w < n → f w ≡ g w) → total n f ≡ total n g
total_same zero f g each = refl
total_same (suc n) f g each = (let r = total_same n f g (λ w lt. each w (omega arith)) in let e = each n (omega arith) in omega (arith, r, e))

pub total_most : (n : ℕ) (f g : ℕ → ℕ) → ((w : ℕ) → w < n → f w ≤ g w) → total n f ≤ total n g
total_most zero f g each = omega arith
total_most (suc n) f g each = (let r = total_most n f g (λ w lt. each w (omega arith)) in let e = each n (omega arith) in omega (arith, r, e))

pub total_none : (n : ℕ) → total n (λ w. 0) ≡ 0
total_none zero = refl
total_none (suc n) = (let r = total_none n in omega (arith, r))

-- one more at x
abbrev pub more_at : ℕ → (ℕ → ℕ) → ℕ → ℕ
more_at x f w = cond (x == w) (suc (f w)) (f w)

pub more_there : (x w : ℕ) (f : ℕ → ℕ) → x ≡ w → more_at x f w ≡ suc (f w)
more_there x w f e = ap (λ (b : Bool). cond b (suc (f w)) (f w)) (eq_true x w e)

pub more_elsewhere : (x w : ℕ) (f : ℕ → ℕ) → (x ≡ w → ⊥) → more_at x f w ≡ f w
more_elsewhere x w f ne = elim (cases_Bool (x == w)) [
  | inl t ↦ absurd (ne (eq_from x w t))
  | inr t ↦ ap (λ (b : Bool). cond b (suc (f w)) (f w)) t
]

pub total_more : (n x : ℕ) (f : ℕ → ℕ) → x < n → total n (more_at x f) ≡ suc (total n f)
total_more zero x f lt = absurd (omega arith)
total_more (suc n) x f lt = elim (cases_lt x n) [
  | inl low ↦
      let r = total_more n x f low in
      let e = more_elsewhere x n f (λ (g : x ≡ n). absurd (omega (arith, g, low))) in
      omega (arith, r, e)
  | inr high ↦
      let e = more_there x n f (omega (arith, lt, high)) in
      let r = total_same n (more_at x f) f (λ w low. more_elsewhere x w f (λ (g : x ≡ w). absurd (omega (arith, g, low, high)))) in
      omega (arith, r, e)
]
