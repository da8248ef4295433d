-- Both keys in one number.
use Rattle.std.proofs.Common.{◌≡◌, ℕ, ◌+◌, ◌*◌, ◌<◌, ◌^◌, Option, Some, None, refl, ap, ap₂, inl, inr, arith}
use Rattle.std.proofs.lemmas.Bool.{lt-ltb, le-ltb, cases_order}
use Rattle.cf_shape.specs.Lanes.{both_keys}
use Rattle.cf_plain.specs.Groups.{first_key, other_key, as_group, pair_of}
use Rattle.cf_plain.specs.declared.answer.Group.{Group}

-- the number beside a key fits
abbrev pub FitsBy : Option ℕ → Type 0
FitsBy None = Unit {0}
FitsBy (Some by) = by < 2 ^ 64

-- a number is what its two keys make
pub keys_back : (n : ℕ) → both_keys (first_key n) (other_key n) ≡ n
keys_back n = elim (cases_order n (2 ^ 64)) [
  | inl e ↦ rw (le-ltb n (2 ^ 64) (omega (arith, e))) (omega (arith, e))
  | inr (inl lt) ↦ rw (lt-ltb n (2 ^ 64) lt) refl
  | inr (inr gt) ↦ rw (le-ltb n (2 ^ 64) (omega (arith, gt))) (omega (arith, gt))
]

-- and the keys are those of the number that they make
pub first_back : (key : ℕ) (by : Option ℕ) → key < 2 ^ 64 → FitsBy by → first_key (both_keys key by) ≡ key
first_back key None low fits = rw (lt-ltb key (2 ^ 64) low) refl
first_back key (Some by) low fits = rw (le-ltb ((key + 1) * 2 ^ 64 + by) (2 ^ 64) (omega arith)) (omega (arith, fits))

pub other_back : (key : ℕ) (by : Option ℕ) → key < 2 ^ 64 → FitsBy by → other_key (both_keys key by) ≡ by
other_back key None low fits = rw (lt-ltb key (2 ^ 64) low) refl
other_back key (Some by) low fits = rw (le-ltb ((key + 1) * 2 ^ 64 + by) (2 ^ 64) (omega arith)) (ap (λ (n : ℕ). Some n) (omega (arith, fits)))

-- a group is that of its pair
pub group_back : (g : Group) → g.key < 2 ^ 64 → FitsBy g.by → as_group (pair_of g) ≡ g
group_back g low fits = ap₂ (λ (key : ℕ) (by : Option ℕ). record { key = key; by = by; quad = g.quad }) (first_back g.key g.by low fits) (other_back g.key g.by low fits)
