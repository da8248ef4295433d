-- The word of an address of 6 bytes.
use Rattle.std.proofs.Common.{◌≡◌, ℕ, ◌+◌, ◌-◌, ◌*◌, ◌≤◌, true, false, List, [], ◌∷◌, ◌++◌, length, take, drop, replicate, refl, sym, ap, ap₂, ◌∙◌, arith, length-drop}
use Rattle.std.proofs.lemmas.List.{drop-drop}
use Rattle.byteorder.specs.Endian as endian
use Rattle.cf_row.specs.Words.{big_number, value_words}
use Rattle.cf_headers.specs.Packet.{address_if}

pub no_address : (frame : List ℕ) (at : ℕ) → value_words (address_if false frame at) ≡ 0 ∷ []
unfolding big_number address_if
no_address frame at = refl

six_bytes : (xs : List ℕ) → 6 ≤ length xs
    → big_number (take 6 (take 6 xs ++ replicate 10 0)) ≡ endian.big_number 2 xs * 4294967296 + endian.big_number 4 (drop 2 xs)
unfolding big_number
six_bytes [] few = absurd (omega (arith, few))
six_bytes (a ∷ []) few = absurd (omega (arith, few))
six_bytes (a ∷ b ∷ []) few = absurd (omega (arith, few))
six_bytes (a ∷ b ∷ c ∷ []) few = absurd (omega (arith, few))
six_bytes (a ∷ b ∷ c ∷ d ∷ []) few = absurd (omega (arith, few))
six_bytes (a ∷ b ∷ c ∷ d ∷ e ∷ []) few = absurd (omega (arith, few))
six_bytes (a ∷ b ∷ c ∷ d ∷ e ∷ f ∷ rest) few = omega arith

pub an_address : (frame xs ys : List ℕ) (at : ℕ) → at + 6 ≤ length frame → xs ≡ drop at frame → ys ≡ drop (at + 2) frame
    → value_words (address_if true frame at) ≡ (endian.big_number 2 xs * 4294967296 + endian.big_number 4 ys) ∷ []
unfolding address_if
an_address frame xs ys at room first second =
    let long : 6 ≤ length (drop at frame) = omega (arith, length-drop at frame, room) in
    let size : at + 6 - at ≡ 6 = omega arith in
    ap (λ n. big_number (take 6 (take n (drop at frame) ++ replicate 10 0)) ∷ []) size
    ∙ (ap (λ n. n ∷ []) (six_bytes (drop at frame) long)
    ∙ ap₂ (λ (us vs : List ℕ). (endian.big_number 2 us * 4294967296 + endian.big_number 4 vs) ∷ []) (sym first) (drop-drop 2 at frame ∙ sym second))
