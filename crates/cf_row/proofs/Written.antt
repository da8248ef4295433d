-- Bytes that are written one by one from the last.
use Rattle.std.proofs.Common.{◌≡◌, ℕ, ◌+◌, ◌*◌, ◌-◌, ◌/◌, ◌%◌, ◌^◌, ◌<◌, ◌≤◌, zero, suc, cond, Bool, List, [], ◌∷◌, ◌++◌, length, set, take, drop, replicate, get_or, refl, arith, ap, ap₂, sym, ◌∙◌, append_assoc}
use Rattle.std.proofs.lemmas.Nat.{div_below}
use Rattle.std.proofs.lemmas.Bool.{le-ltb, lt-ltb}
use Rattle.std.proofs.Math.Nat.{pow-suc}
use Rattle.std.proofs.lemmas.List.{take-set-le, drop-set, drop_at, take_at, drop-drop, drop-replicate, take-append-drop}
use Rattle.cf_row.specs.Words.{big_bytes, raw_read}
use Rattle.cf_row.proofs.Bytes.{big_last, big_long}

abbrev pub Written : List ℕ → List ℕ → ℕ → ℕ → ℕ → ℕ → ℕ → Type 0
Written old out from size number left rest =
    take from out ++ (big_bytes left rest ++ drop (from + left) out) ≡ take from old ++ (big_bytes size number ++ drop (from + size) old)

pub bytes_none : (x : ℕ) → big_bytes 0 x ≡ []
unfolding big_bytes
bytes_none x = refl

-- one byte more
pub written_more : (old out : List ℕ) (from size number left rest : ℕ) → 0 < left → from + left ≤ length out → rest < 256 ^ left
    → Written old out from size number left rest
    → Written old (set out (from + (left - 1)) (rest % 256)) from size number (left - 1) (rest / 256)
written_more old out from size number zero rest pos le lt inv = absurd (omega arith)
written_more old out from size number (suc m) rest pos le lt inv =
    let new : List ℕ = set out (from + m) (rest % 256) in
    let less : suc m - 1 ≡ m = omega arith in
    let front : take from new ≡ take from out = take-set-le from out (from + m) (rest % 256) (omega arith) in
    let back : drop (from + m) new ≡ rest % 256 ∷ drop (from + m + 1) out = drop-set out (from + m) (rest % 256) (omega arith) in
    let more : from + m + 1 ≡ from + suc m = omega arith in
    ap (λ (k : ℕ). take from (set out (from + k) (rest % 256)) ++ (big_bytes k (rest / 256) ++ drop (from + k) (set out (from + k) (rest % 256)))) less
    ∙ (ap₂ (λ (a b : List ℕ). a ++ (big_bytes m (rest / 256) ++ b)) front (back ∙ ap (λ (k : ℕ). rest % 256 ∷ drop k out) more)
    ∙ (ap (λ (b : List ℕ). take from out ++ b)
    (sym (append_assoc (big_bytes m (rest / 256)) (rest % 256 ∷ []) (drop (from + suc m) out))
    ∙ ap (λ (b : List ℕ). b ++ drop (from + suc m) out) (sym (big_last m rest lt)))
    ∙ inv))

pub rest_low : (left rest : ℕ) → 0 < left → rest < 256 ^ left → rest / 256 < 256 ^ (left - 1)
rest_low zero rest pos lt = absurd (omega arith)
rest_low (suc m) rest pos lt =
    let less : suc m - 1 ≡ m = omega arith in
    Rattle.std.proofs.Common.subst (λ (k : ℕ). rest / 256 < 256 ^ k) (sym less) (div_below rest 256 (256 ^ m) (omega arith) (omega (arith, lt, pow-suc 256 m)))

pub written_all : (old out : List ℕ) (from size number rest : ℕ) → Written old out from size number 0 rest
    → out ≡ take from old ++ (big_bytes size number ++ drop (from + size) old)
written_all old out from size number rest inv =
    let e : from ≡ from + 0 = omega arith in
    sym (take-append-drop from out)
    ∙ (ap (λ (k : ℕ). take from out ++ drop k out) e ∙ (ap (λ (b : List ℕ). take from out ++ (b ++ drop (from + 0) out)) (sym (bytes_none rest)) ∙ inv))

-- what is left of the zeros
pub one_string : (k x : ℕ) → k ≤ 16 → take 0 (replicate 16 0) ++ (big_bytes k x ++ drop (0 + k) (replicate 16 0)) ≡ big_bytes k x ++ replicate (16 - k) 0
one_string k x le = let e : 0 + k ≡ k = omega arith in
    ap (λ (b : List ℕ). big_bytes k x ++ b) (ap (λ (n : ℕ). drop n (replicate 16 0)) e ∙ drop-replicate k 16 0)

pub two_strings : (k x y : ℕ) (first : List ℕ) → 8 < k → k ≤ 16 → first ≡ big_bytes 8 x ++ replicate (16 - 8) 0
    → take 8 first ++ (big_bytes (k - 8) y ++ drop (8 + (k - 8)) first) ≡ (big_bytes 8 x ++ big_bytes (k - 8) y) ++ replicate (16 - k) 0
two_strings k x y first many le is =
    let e : 8 + (k - 8) ≡ 8 + (k - 8) = refl in
    let front : take 8 first ≡ big_bytes 8 x = ap (take 8) is ∙ take_at (big_bytes 8 x) (replicate (16 - 8) 0) 8 (big_long 8 x) in
    let back : drop (8 + (k - 8)) first ≡ replicate (16 - k) 0 =
    ap (drop (8 + (k - 8))) is ∙ (sym (drop-drop (k - 8) 8 (big_bytes 8 x ++ replicate (16 - 8) 0))
    ∙ (ap (drop (k - 8)) (drop_at (big_bytes 8 x) (replicate (16 - 8) 0) 8 (big_long 8 x))
    ∙ (drop-replicate (k - 8) (16 - 8) 0 ∙ ap (λ (n : ℕ). replicate n 0) (let h : 16 - 8 - (k - 8) ≡ 16 - k = omega arith in h)))) in
    ap₂ (λ (a b : List ℕ). a ++ (big_bytes (k - 8) y ++ b)) front back ∙ sym (append_assoc (big_bytes 8 x) (big_bytes (k - 8) y) (replicate (16 - k) 0))

first_word : (at i : ℕ) (ws : List ℕ) → get_or (drop at ws) i 0 ≡ get_or ws (at + i) 0
first_word at i ws = Rattle.std.proofs.lemmas.List.get_or-drop at ws i 0

-- the string that is read from one word, and from two
pub short_string : (k at : ℕ) (ws out : List ℕ) → k ≤ 8 → out ≡ take 0 (replicate 16 0) ++ (big_bytes k (get_or ws at 0) ++ drop (0 + k) (replicate 16 0))
    → out ≡ raw_read k (drop at ws) ++ replicate (16 - k) 0
short_string k at ws out le is =
    let h : at + 0 ≡ at = omega arith in
    is ∙ (one_string k (get_or ws at 0) (omega arith)
    ∙ (ap (λ (x : ℕ). big_bytes k x ++ replicate (16 - k) 0) (sym (first_word at 0 ws ∙ ap (λ (n : ℕ). get_or ws n 0) h))
    ∙ sym (ap (λ (t : Bool). cond t (big_bytes 8 (get_or (drop at ws) 0 0) ++ big_bytes (k - 8) (get_or (drop at ws) 1 0))
    (big_bytes k (get_or (drop at ws) 0 0)) ++ replicate (16 - k) 0) (le-ltb 8 k le))))

pub long_string : (k at : ℕ) (ws first out : List ℕ) → 8 < k → k ≤ 16
    → first ≡ take 0 (replicate 16 0) ++ (big_bytes 8 (get_or ws at 0) ++ drop (0 + 8) (replicate 16 0))
    → out ≡ take 8 first ++ (big_bytes (k - 8) (get_or ws (at + 1) 0) ++ drop (8 + (k - 8)) first)
    → out ≡ raw_read k (drop at ws) ++ replicate (16 - k) 0
long_string k at ws first out many le a b =
    let h : at + 0 ≡ at = omega arith in
    b ∙ (two_strings k (get_or ws at 0) (get_or ws (at + 1) 0) first many le (a ∙ one_string 8 (get_or ws at 0) (omega arith))
    ∙ (ap₂ (λ (x y : ℕ). (big_bytes 8 x ++ big_bytes (k - 8) y) ++ replicate (16 - k) 0) (sym (first_word at 0 ws ∙ ap (λ (n : ℕ). get_or ws n 0) h))
    (sym (first_word at 1 ws))
    ∙ sym (ap (λ (t : Bool). cond t (big_bytes 8 (get_or (drop at ws) 0 0) ++ big_bytes (k - 8) (get_or (drop at ws) 1 0))
    (big_bytes k (get_or (drop at ws) 0 0)) ++ replicate (16 - k) 0) (lt-ltb 8 k many))))
