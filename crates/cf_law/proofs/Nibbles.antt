-- The nibbles of a key.
use Rattle.std.proofs.Common.{◌≡◌, ℕ, ◌+◌, ◌/◌, ◌%◌, ◌^◌, ◌<◌, zero, suc, List, ◌∷◌, length, drop, refl, arith, ap, ap₂, sym, ◌∙◌}
use Rattle.std.proofs.Math.Nat.{pow-suc, pow-succ', div-div-eq-div-mul}
use Rattle.cf_law.specs.Nibbles.{nibbles}

pub length-nibbles : (n k : ℕ) → length (nibbles n k) ≡ n
unfolding nibbles
length-nibbles zero k = refl
length-nibbles (suc n) k = ap suc (length-nibbles n (k / 16))

-- one nibble more, the lowest
pub nibbles_more : (n k : ℕ) → nibbles (suc n) k ≡ k % 16 ∷ nibbles n (k / 16)
unfolding nibbles
nibbles_more n k = refl

pub nibble_small : (n k d : ℕ) (p : List ℕ) → nibbles n k ≡ d ∷ p → d < 16
unfolding nibbles
nibble_small zero k d p h = absurd (cc h)
nibble_small (suc n) k d p h = let e : k % 16 ≡ d = cc h in omega (arith, e)

-- keys with the same nibbles are the same
pub same_from_nibbles : (n j k : ℕ) → j < 16 ^ n → k < 16 ^ n → nibbles n j ≡ nibbles n k → j ≡ k
unfolding nibbles
same_from_nibbles zero j k a b h = omega arith
same_from_nibbles (suc n) j k a b h =
    let d : j % 16 ≡ k % 16 = cc h in
    let e : nibbles n (j / 16) ≡ nibbles n (k / 16) = cc h in
    let r = same_from_nibbles n (j / 16) (k / 16) (omega (arith, pow-suc 16 n)) (omega (arith, pow-suc 16 n)) e in
    omega (arith, d, r)

-- the end of a key's nibbles is those of the key shifted
pub drop-nibbles : (i n k : ℕ) → drop i (nibbles (i + n) k) ≡ nibbles n (k / 16 ^ i)
drop-nibbles zero n k = ap₂ nibbles (let e : zero + n ≡ n = omega arith in e) (let e : k ≡ k / 16 ^ zero = omega arith in e)
drop-nibbles (suc i) n k =
    let e : suc i + n ≡ suc (i + n) = omega arith in
    ap (λ (m : ℕ). drop (suc i) (nibbles m k)) e ∙ (ap (drop (suc i)) (nibbles_more (i + n) k) ∙ (drop-nibbles i n (k / 16)
    ∙ ap (nibbles n) (div-div-eq-div-mul k 16 (16 ^ i) ∙ ap (λ (m : ℕ). k / m) (sym (pow-succ' 16 i)))))
