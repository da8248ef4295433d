use Rattle.std.proofs.Common.{◌≡◌, ◌≤◌, ◌*◌, ◌+◌, ℕ, List, suc, drop, get_or, refl, arith, drop-cons, sym, ◌∙◌, ◌<◌, length}
use Rattle.cf_filter.specs.Values.{number_at, number_after, digit_of}
use Rattle.cf_filter.proofs.Numbers.{number_grows}
use Rattle.cf_filter.proofs.value.number_of.Goals as goal

too_large : (base n i : ℕ) (digits : List ℕ) → 1 ≤ base → i < length digits → number_after base n (drop i digits) ≡ number_at base digits
    → n * base + digit_of (get_or digits i 0) ≤ number_at base digits
too_large base n i digits h lt e =
    let d : ℕ = get_or digits i 0 in
    let step : number_after base n (drop i digits) ≡ number_after base (n * base + digit_of d) (drop (suc i) digits) = rw (drop-cons digits i 0) refl in
    omega (arith, number_grows base (n * base + digit_of d) (drop (suc i) digits) h, sym step ∙ e)

pub returns-in_default : goal.returns-in_default
returns-in_default c =
    omega (
      arith,
      too_large c.args.base c.loop-digit.number c.loop-digit.digit-index c.args.digits.now c.requires (omega arith) c.loop-digit.invariant,
      c.in_default.ensures,
    )

pub returns-in_default-checked_add : goal.returns-in_default-checked_add
returns-in_default-checked_add c =
    let all : c.loop-digit.number * c.args.base + digit_of (get_or c.args.digits.now c.loop-digit.digit-index 0) ≤ number_at c.args.base c.args.digits.now =
    too_large c.args.base c.loop-digit.number c.loop-digit.digit-index c.args.digits.now c.requires (omega arith) c.loop-digit.invariant in
    omega (arith, all, c.in_default-checked_add.ensures, c.in-Some.ensures, c.digit_of.ensures.value)
