-- Bytes as numbers, and back.
use Rattle.std.proofs.Common.{◌≡◌, ℕ, ◌+◌, ◌*◌, ◌/◌, ◌%◌, ◌^◌, ◌<◌, ◌≤◌, ◌==◌, zero, suc, List, [], ◌∷◌, ◌++◌, length, get_or, take, drop, replicate, Bool, true, false, ◌&&◌, nat_lt, refl, arith, ap, ap₂, sym, ◌∙◌, length-append}
use Rattle.std.specs.List.{list_all}
use Rattle.std.proofs.Math.Nat.{pow-suc, pow-le-pow_right}
use Rattle.std.proofs.lemmas.List.{take_more}
use Rattle.std.proofs.lemmas.Bool.{and_from, ltb-true, lt-ltb}
use Rattle.std.proofs.lemmas.Nat.{div-mul-add, mod-mul-add, mul-add-lt, div_below}
use Rattle.cf_row.specs.Words.{big_number, big_bytes}

pub both : (a b : Bool) → a && b ≡ true → (a ≡ true) × (b ≡ true)
both true b h = (refl, h)
both false b h = absurd (cc h)

abbrev pub AreBytes : List ℕ → Type 0
AreBytes xs = list_all (λ byte. nat_lt byte 256) xs ≡ true

bytes_cons : (x : ℕ) (xs : List ℕ) → AreBytes (x ∷ xs) → (x < 256) × AreBytes xs
bytes_cons x xs h = let b = both (nat_lt x 256) (list_all (λ byte. nat_lt byte 256) xs) h in (ltb-true x 256 b.0, b.1)

pub big_small : (xs : List ℕ) → AreBytes xs → big_number xs < 256 ^ length xs
unfolding big_number
big_small [] h = omega arith
big_small (x ∷ xs) h = let b = bytes_cons x xs h in let r = big_small xs b.1 in
    omega (arith, mul-add-lt x (256 ^ length xs) (big_number xs) 256 b.0 r, pow-suc 256 (length xs))

-- the bytes of their number
pub big_back : (xs : List ℕ) → AreBytes xs → big_bytes (length xs) (big_number xs) ≡ xs
unfolding big_number big_bytes
big_back [] h = refl
big_back (x ∷ xs) h = let b = bytes_cons x xs h in let r = big_small xs b.1 in
    ap₂ (λ (d m : ℕ). d ∷ big_bytes (length xs) m) (div-mul-add x (256 ^ length xs) (big_number xs) r) (mod-mul-add x (256 ^ length xs) (big_number xs) r)
    ∙ ap (λ (ys : List ℕ). x ∷ ys) (big_back xs b.1)

pub big_long : (n x : ℕ) → length (big_bytes n x) ≡ n
unfolding big_bytes
big_long zero x = refl
big_long (suc n) x = ap suc (big_long n (x % 256 ^ n))

pow_pos : (n : ℕ) → 0 < 256 ^ n
pow_pos zero = omega arith
pow_pos (suc n) = omega (arith, pow-suc 256 n, pow_pos n)

pub big_bytes_low : (n x : ℕ) → x < 256 ^ n → AreBytes (big_bytes n x)
unfolding big_bytes
big_bytes_low zero x lt = refl
big_bytes_low (suc n) x lt =
    let p = pow_pos n in
    and_from (nat_lt (x / 256 ^ n) 256) (list_all (λ byte. nat_lt byte 256) (big_bytes n (x % 256 ^ n)))
    (lt-ltb (x / 256 ^ n) 256 (div_below x (256 ^ n) 256 p (omega (arith, lt, pow-suc 256 n))))
    (big_bytes_low n (x % 256 ^ n) (omega arith))

-- the number of its bytes
pub bytes_back : (n x : ℕ) → x < 256 ^ n → big_number (big_bytes n x) ≡ x
unfolding big_number big_bytes
bytes_back zero x lt = omega arith
bytes_back (suc n) x lt =
    let p = pow_pos n in
    let r = bytes_back n (x % 256 ^ n) (omega arith) in
    let l = big_long n (x % 256 ^ n) in
    ap (λ (m : ℕ). x / 256 ^ n * 256 ^ m + big_number (big_bytes n (x % 256 ^ n))) l
    ∙ (ap (λ (m : ℕ). x / 256 ^ n * 256 ^ n + m) r ∙ Rattle.std.proofs.lemmas.Nat.div-add-mod' x (256 ^ n))

pub bytes_take : (n : ℕ) (xs : List ℕ) → AreBytes xs → AreBytes (take n xs)
bytes_take zero xs h = refl
bytes_take (suc n) [] h = h
bytes_take (suc n) (x ∷ xs) h =
    let b = both (nat_lt x 256) (list_all (λ byte. nat_lt byte 256) xs) h in
    and_from (nat_lt x 256) (list_all (λ byte. nat_lt byte 256) (take n xs)) b.0 (bytes_take n xs b.1)

pub bytes_drop : (n : ℕ) (xs : List ℕ) → AreBytes xs → AreBytes (drop n xs)
bytes_drop zero xs h = h
bytes_drop (suc n) [] h = h
bytes_drop (suc n) (x ∷ xs) h = bytes_drop n xs (bytes_cons x xs h).1

pub bytes_append : (xs ys : List ℕ) → AreBytes xs → AreBytes ys → AreBytes (xs ++ ys)
bytes_append [] ys h k = k
bytes_append (x ∷ xs) ys h k =
    let b = both (nat_lt x 256) (list_all (λ byte. nat_lt byte 256) xs) h in
    and_from (nat_lt x 256) (list_all (λ byte. nat_lt byte 256) (xs ++ ys)) b.0 (bytes_append xs ys b.1 k)

-- zeros to the end
pub all_zero : (xs : List ℕ) → list_all (λ byte. byte == 0) xs ≡ true → xs ≡ replicate (length xs) 0
all_zero [] h = refl
all_zero (x ∷ xs) h =
    let b = both (x == 0) (list_all (λ byte. byte == 0) xs) h in
    ap₂ (λ (y : ℕ) (ys : List ℕ). y ∷ ys) (Rattle.std.proofs.lemmas.Bool.eqb-true x 0 b.0) (all_zero xs b.1)

pub zeros_all : (n : ℕ) → list_all (λ byte. byte == 0) (replicate n 0) ≡ true
zeros_all zero = refl
zeros_all (suc n) = zeros_all n

pub zeros_low : (n : ℕ) → AreBytes (replicate n 0)
zeros_low zero = refl
zeros_low (suc n) = zeros_low n

-- one byte more
pub big_push : (xs : List ℕ) (b : ℕ) → big_number (xs ++ b ∷ []) ≡ big_number xs * 256 + b
unfolding big_number
big_push [] b = omega arith
big_push (x ∷ xs) b =
    let r = big_push xs b in
    let l = length-append xs (b ∷ []) in
    let e : length (xs ++ b ∷ []) ≡ suc (length xs) = omega (arith, l) in
    ap₂ (λ (n m : ℕ). x * 256 ^ n + m) e r
    ∙ (let p = pow-suc 256 (length xs) in let q : x * 256 ^ suc (length xs) ≡ x * 256 ^ length xs * 256 = ap (λ (n : ℕ). x * n) p
    ∙ sym (Rattle.std.proofs.Math.Nat.mul_assoc x (256 ^ length xs) 256) in omega (arith, q))

pub bytes_of : (xs : List ℕ) → ((k : ℕ) → k < length xs → get_or xs k 0 < 256) → AreBytes xs
bytes_of [] low = refl
bytes_of (x ∷ xs) low =
    and_from (nat_lt x 256) (list_all (λ byte. nat_lt byte 256) xs) (lt-ltb x 256 (low 0 (omega arith))) (bytes_of xs (λ k lt. low (suc k) (omega (arith, lt))))

pub big_more : (xs : List ℕ) (i : ℕ) → i < length xs → big_number (take (i + 1) xs) ≡ big_number (take i xs) * 256 + get_or xs i 0
big_more xs i lt = ap big_number (take_more xs i 0 lt) ∙ big_push (take i xs) (get_or xs i 0)

-- up to 8 bytes fit a word
pub big_fits : (xs : List ℕ) → AreBytes xs → length xs ≤ 8 → big_number xs < 2 ^ 64
big_fits xs low few = let b = big_small xs low in let p = pow-le-pow_right {n = 256} (omega arith) {i = length xs} {j = 8} few in omega (arith, b, p)

pub big_zero : big_number (take 0 []) ≡ 0
unfolding big_number
big_zero = refl

-- the last byte
pub big_last : (m x : ℕ) → x < 256 ^ suc m → big_bytes (suc m) x ≡ big_bytes m (x / 256) ++ x % 256 ∷ []
big_last m x lt =
    let low : x / 256 < 256 ^ m = div_below x 256 (256 ^ m) (omega arith) (omega (arith, lt, pow-suc 256 m)) in
    let ys : List ℕ = big_bytes m (x / 256) ++ x % 256 ∷ [] in
    let bytes = bytes_append (big_bytes m (x / 256)) (x % 256 ∷ []) (big_bytes_low m (x / 256) low)
    (and_from (nat_lt (x % 256) 256) true (lt-ltb (x % 256) 256 (omega arith)) refl) in
    let size : length ys ≡ suc m = omega (arith, length-append (big_bytes m (x / 256)) (x % 256 ∷ []), big_long m (x / 256)) in
    let number : big_number ys ≡ x = omega (arith, big_push (big_bytes m (x / 256)) (x % 256), bytes_back m (x / 256) low) in
    ap₂ big_bytes (sym size) (sym number) ∙ big_back ys bytes
