-- Buckets of different numbers: whole ones, keys of a bucket, and buckets whose keys are kept apart.
use Rattle.std.proofs.Common.{◌≡◌, ℕ, suc, zero, ◌<◌, Bool, true, false, not, ◌||◌, ◌==◌, List, [], ◌∷◌, ◌++◌, length, drop, get_or, map, filter, refl, sym, ap, ◌∙◌, inl, inr, arith}
use Rattle.std.proofs.lemmas.Bool.{eq-eqb, ne_eqb, or_parts, or_from, cases_Bool, false≢true}
use Rattle.std.proofs.lemmas.List.Folds.{list_any-append, list_any_at}
use Rattle.std.specs.List.{list_any, remove}
use Rattle.cf_watch.specs.Kept.{AreDistinct, BucketValue}
use Rattle.cf_watch.specs.Pairs.{ApartValue}

abbrev pub number_of : BucketValue → ℕ
number_of kept = kept.bucket

abbrev pub number_at : ApartValue → ℕ
number_at apart = apart.bucket

abbrev pub numbers : List BucketValue → List ℕ
numbers kept = map number_of kept

module _ {X : Type 0} (number : X → ℕ) where
  -- it has that number, or another
  abbrev pub are : ℕ → X → Bool
  are b x = number x == b

  abbrev pub others : ℕ → X → Bool
  others b x = not (are b x)

  -- one of them has that number
  abbrev pub has : List X → ℕ → Bool
  has kept b = list_any (are b) kept

  -- of a bucket that is not kept nothing is found
  pub none_of : (kept : List X) (b : ℕ) → has kept b ≡ false → (filter (others b) kept ≡ kept) × (filter (are b) kept ≡ [])
  none_of [] b none = (refl, refl)
  none_of (k ∷ ks) b none =
      let parts = or_parts (number k == b) (has ks b) none in
      let rest = none_of ks b parts.1 in
      rw (parts.0, rest.0, rest.1) (refl, refl)

  -- a bucket that is kept is found once
  pub one_of : (kept : List X) (i b : ℕ) (d : X) → AreDistinct number kept → i < length kept → number (get_or kept i d) ≡ b
      → (filter (others b) kept ≡ remove kept i) × (filter (are b) kept ≡ get_or kept i d ∷ [])
  one_of [] i b d apart lt is = absurd (omega (arith, lt))
  one_of (k ∷ ks) zero b d apart lt is =
      let rest = none_of ks b (rw (sym is) apart.0) in
      rw (eq-eqb (number k) b is, rest.0, rest.1) (refl, refl)
  one_of (k ∷ ks) (suc i) b d apart lt is =
      let below : i < length ks = omega (arith, lt) in
      let found : has ks b ≡ true = list_any_at (are b) ks i d below (eq-eqb (number (get_or ks i d)) b is) in
      let differ : (number k == b) ≡ false = ne_eqb (number k) b (λ e. false≢true (sym apart.0 ∙ rw e found)) in
      let rest = one_of ks i b d apart.1 below is in
      rw (differ, rest.0, rest.1) (refl, refl)

  -- what is left of others
  pub other_fewer : (kept : List X) (b q : ℕ) → has kept q ≡ false → has (filter (others b) kept) q ≡ false
  other_fewer [] b q none = refl
  other_fewer (k ∷ ks) b q none =
      let parts = or_parts (number k == q) (has ks q) none in
      elim (cases_Bool (number k == b)) [
        | inl same ↦ rw same (other_fewer ks b q parts.1)
        | inr other ↦ rw other (or_from (number k == q) (has (filter (others b) ks) q) parts.0 (other_fewer ks b q parts.1))
      ]

  pub other_apart : (kept : List X) (b : ℕ) → AreDistinct number kept → AreDistinct number (filter (others b) kept)
  other_apart [] b apart = tt
  other_apart (k ∷ ks) b apart = elim (cases_Bool (number k == b)) [
    | inl same ↦ rw same (other_apart ks b apart.1)
    | inr other ↦ rw other (other_fewer ks b (number k) apart.0, other_apart ks b apart.1)
  ]

  pub others_lack : (kept : List X) (b : ℕ) → has (filter (others b) kept) b ≡ false
  others_lack [] b = refl
  others_lack (k ∷ ks) b = elim (cases_Bool (number k == b)) [
    | inl same ↦ rw same (others_lack ks b)
    | inr other ↦ rw other (or_from (number k == b) (has (filter (others b) ks) b) other (others_lack ks b))
  ]

  -- one more, of a number that is not there
  pub apart_push : (kept : List X) (k : X) → AreDistinct number kept → has kept (number k) ≡ false → AreDistinct number (kept ++ k ∷ [])
  apart_push [] k apart none = (refl, tt)
  apart_push (x ∷ xs) k apart none =
      let parts = or_parts (number x == number k) (has xs (number k)) none in
      let lacks : has (xs ++ k ∷ []) (number x) ≡ false =
      list_any-append (are (number x)) xs (k ∷ [])
      ∙ or_from (has xs (number x)) (has (k ∷ []) (number x)) apart.0
      (or_from (number k == number x) false (ne_eqb (number k) (number x) (λ e. false≢true (sym parts.0 ∙ eq-eqb (number x) (number k) (sym e)))) refl) in
      (lacks, apart_push xs k apart.1 parts.1)

  -- without the first
  pub apart_rest : (kept : List X) → AreDistinct number kept → AreDistinct number (drop 1 kept)
  apart_rest [] apart = tt
  apart_rest (k ∷ ks) apart = apart.1

  pub rest_fewer : (kept : List X) (b : ℕ) → has kept b ≡ false → has (drop 1 kept) b ≡ false
  rest_fewer [] b none = refl
  rest_fewer (k ∷ ks) b none = (or_parts (number k == b) (has ks b) none).1

  -- it goes by the numbers
  by_numbers : (kept : List X) (b : ℕ) → has kept b ≡ list_any (λ q. q == b) (map number kept)
  by_numbers [] b = refl
  by_numbers (k ∷ ks) b = ap (λ r. (number k == b) || r) (by_numbers ks b)

  different_from : (kept : List X) → AreDistinct number kept → AreDistinct (λ q. q) (map number kept)
  different_from [] apart = tt
  different_from (k ∷ ks) apart = (sym (by_numbers ks (number k)) ∙ apart.0, different_from ks apart.1)

  apart_from : (kept : List X) → AreDistinct (λ q. q) (map number kept) → AreDistinct number kept
  apart_from [] different = tt
  apart_from (k ∷ ks) different = (by_numbers ks (number k) ∙ different.0, apart_from ks different.1)

  pub apart_same : (xs ys : List X) → map number xs ≡ map number ys → AreDistinct number xs → AreDistinct number ys
  apart_same xs ys same apart = apart_from ys (let different = different_from xs apart in rw same at different)

  pub kept_same : (xs ys : List X) (b : ℕ) → map number xs ≡ map number ys → has xs b ≡ has ys b
  kept_same xs ys b same = by_numbers xs b ∙ ap (λ qs. list_any (λ q. q == b) qs) same ∙ sym (by_numbers ys b)
