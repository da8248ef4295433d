use Rattle.std.proofs.Common.{◌<◌, ◌≡◌, ◌+◌, ◌*◌, ◌^◌, get_or, take, length, arith, sym}
use Rattle.std.specs.Prelude.{ℕ}
use Rattle.std.proofs.lemmas.List.{length-take-le}
use Rattle.cf_row.specs.Words.{big_number}
use Rattle.cf_row.proofs.Bytes.{AreBytes, bytes_of, big_more, big_fits, big_zero, bytes_take}
use Rattle.cf_row.proofs.words.big_number.Goals as goal

pub loop-byte-init : goal.loop-byte-init
loop-byte-init c = sym big_zero

number_of : (xs : Rattle.std.specs.Prelude.List ℕ) (i n : ℕ) → AreBytes xs → i < length xs → Rattle.std.specs.Prelude.◌≤◌ (length xs) 8
    → n ≡ big_number (take i xs) → n * 256 + get_or xs i 0 < 2 ^ 64
number_of xs i n low lt few is =
    let more = big_more xs i lt in
    let fits = big_fits (take (i + 1) xs) (bytes_take (i + 1) xs low) (let l = length-take-le (i + 1) xs (omega arith) in omega (arith, l)) in
    omega (arith, is, more, fits)

pub overflow_mul-number : goal.overflow_mul-number
overflow_mul-number c =
    let low = bytes_of c.args.bytes.now (λ k lt. (c.type_inv.bytes k).fits) in
    let h = number_of c.args.bytes.now c.loop-byte.byte-index c.loop-byte.number low c.loop-byte-test.true c.requires.few c.loop-byte.invariant in
    omega (arith, h)

pub overflow_add-number : goal.overflow_add-number
overflow_add-number c =
    let low = bytes_of c.args.bytes.now (λ k lt. (c.type_inv.bytes k).fits) in
    let h = number_of c.args.bytes.now c.loop-byte.byte-index c.loop-byte.number low c.loop-byte-test.true c.requires.few c.loop-byte.invariant in
    omega (arith, h, c.from.ensures)

pub loop-byte-preserved : goal.loop-byte-preserved
loop-byte-preserved c = let more = big_more c.args.bytes.now c.loop-byte.byte-index c.loop-byte-test.true in
    omega (arith, more, c.from.ensures, c.loop-byte.invariant)
