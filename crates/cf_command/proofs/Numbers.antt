-- The number that a text writes out.
use Rattle.std.proofs.Common.{◌≡◌, ℕ, ◌<◌, ◌≤◌, ◌^◌, ◌&&◌, true, List, Some, None, Result, Ok, decimal, sym, ap, ◌∙◌, arith}
use Rattle.std.specs.Prelude.{nat_le}
use Rattle.std.specs.Str.{bytes_eq}
use Rattle.std.specs.Str.Parse.{digits_value}
use Rattle.std.proofs.lemmas.Bool.{and_parts, and_from, cond-true, cond-false, false_from_ne_true, leb-true, le-leb}
use Rattle.std.proofs.lemmas.Fmt.{decimal_is_IsNumeral}
use Rattle.std.proofs.lemmas.Slice.Eq.{bytes_eq-Decides}
use Rattle.cf_command.specs.Call.{number_in}

-- what is parsed and written out again is the text
pub written_same : {E : Type 0} (text written : List ℕ) (result : Result ℕ E) (number n : ℕ) → result ≡ Ok number → result ≡ Ok n → written ≡ decimal number
    → text ≡ decimal n → written ≡ text
written_same {E} text written result number n found parsed shown is =
    let same : number ≡ n = cc (found, parsed) in shown ∙ ap decimal same ∙ sym is

-- the number of a text is in its range
pub number_found : (low high number : ℕ) (text : List ℕ) → number < 2 ^ 64 → text ≡ decimal number → low ≤ number → number ≤ high
    → Some number ≡ number_in low high text
unfolding number_in
number_found low high number text small is least most =
    let value : digits_value 10 text ≡ number = ap (digits_value 10) is ∙ (decimal_is_IsNumeral number small).1 in
    let shown : bytes_eq text (decimal (digits_value 10 text)) ≡ true =
    (bytes_eq-Decides text (decimal (digits_value 10 text))).1 (is ∙ ap decimal (sym value)) in
    let within : (nat_le low (digits_value 10 text) && nat_le (digits_value 10 text) high) ≡ true =
    and_from (nat_le low (digits_value 10 text)) (nat_le (digits_value 10 text) high) (le-leb low (digits_value 10 text) (omega (arith, least, value)))
    (le-leb (digits_value 10 text) high (omega (arith, most, value))) in
    ap (λ (n : ℕ). Some n) (sym value)
    ∙ sym (cond-true _ (Some (digits_value 10 text)) None (and_from (bytes_eq text (decimal (digits_value 10 text))) _ shown within))

-- where no number in the range is written out so, there is none
pub no_number : (low high : ℕ) (text : List ℕ) → high < 2 ^ 64 → ((number : ℕ) → number < 2 ^ 64 → text ≡ decimal number → low ≤ number → number ≤ high → ⊥)
    → None ≡ number_in low high text
unfolding number_in
no_number low high text wide none =
    let d = digits_value 10 text in
    sym (cond-false _ (Some d) None (false_from_ne_true _ (λ all.
    let parts = and_parts (bytes_eq text (decimal d)) (nat_le low d && nat_le d high) all in
    let within = and_parts (nat_le low d) (nat_le d high) parts.1 in
    let least : low ≤ d = leb-true low d within.0 in
    let most : d ≤ high = leb-true d high within.1 in
    none d (omega (arith, most, wide)) ((bytes_eq-Decides text (decimal d)).0 parts.0) least most)))

-- a text writes out one number
pub decimal_is_one : (m n : ℕ) → m < 2 ^ 64 → n < 2 ^ 64 → decimal m ≡ decimal n → m ≡ n
decimal_is_one m n a b same = sym (decimal_is_IsNumeral m a).1 ∙ ap (digits_value 10) same ∙ (decimal_is_IsNumeral n b).1
