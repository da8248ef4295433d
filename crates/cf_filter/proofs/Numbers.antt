-- The numbers that digits write.
use Rattle.std.proofs.Common.{◌≡◌, ℕ, ◌+◌, ◌*◌, ◌≤◌, ◌<◌, ◌^◌, List, [], ◌∷◌, ◌++◌, length, take, set, sym, ap, ◌∙◌, arith, add-one}
use Rattle.std.proofs.Math.Nat.{mul-le-mul_left}
use Rattle.std.proofs.lemmas.List.{take_more_set, take_all}
use Rattle.std.proofs.Math.Pow.{pow_mono}
use Rattle.std.proofs.lemmas.Nat.{pow_pos}
use Rattle.cf_filter.specs.Values.{number_after, digit_of, pairs, pair_at}

times_grows : (base n : ℕ) → 1 ≤ base → n ≤ n * base
times_grows base n h = let more : n * 1 ≤ n * base = mul-le-mul_left n h in omega (arith, more)

-- the number so far is at most the whole
pub number_grows : (base n : ℕ) (digits : List ℕ) → 1 ≤ base → n ≤ number_after base n digits
number_grows base n [] h = omega arith
number_grows base n (b ∷ bs) h = omega (arith, times_grows base n h, number_grows base (n * base + digit_of b) bs h)

-- one more pair of digits, written at its place
pub pairs_more : (digits bytes : List ℕ) (i v : ℕ) → i < length bytes → take i bytes ≡ pairs i digits → v ≡ pair_at digits i
    → take (i + 1) (set bytes i v) ≡ pairs (i + 1) digits
unfolding pairs
pairs_more digits bytes i v h front e = take_more_set bytes i v h ∙ ap (λ xs. xs ++ v ∷ []) front ∙ ap (λ x. pairs i digits ++ x ∷ []) e
    ∙ ap (λ n. pairs n digits) (sym (add-one i))

pub pairs_all : (digits bytes : List ℕ) → length bytes ≡ 16 → take 16 bytes ≡ pairs 16 digits → bytes ≡ pairs 16 digits
pairs_all digits bytes h e = sym (take_all 16 bytes (omega arith)) ∙ e

-- a power of two up to 32
pub power_small : (n : ℕ) → n ≤ 32 → (2 ^ n ≤ 2 ^ 32) × (1 ≤ 2 ^ n)
power_small n h = (pow_mono h, let some = pow_pos n in omega arith)
