-- How many seals a log has: one for each segment that was opened.
use Rattle.std.proofs.Common.{◌≡◌, ℕ, ◌+◌, ◌-◌, ◌*◌, ◌/◌, ◌<◌, ◌≤◌, List, length, arith}
use Rattle.std.proofs.Math.Nat.{mul-div-le, lt_of_mul-lt-mul_left}
use Rattle.cf_command.specs.declared.words.LogSizes.{LogSizes}
use Rattle.cf_command.specs.Call.{AreSizes}
use Rattle.cf_plain.specs.Order.{IsOrder, log_of}
use Rattle.cf_plain.proofs.Orders.{log_of_order}
use Rattle.cf_row.specs.Row.{RowValue}
use Rattle.cf_row.specs.declared.row.Entry.{Entry}
use Rattle.cf_table.specs.Moves.{SealValue}
use Rattle.cf_run.specs.Answers.{HasSeals}
use Rattle.cf_fill.specs.Seals.{AreSeals}

-- no more than `most` blocks of n are needed for n * most items
blocks_within : (n most k : ℕ) → 1 ≤ n → k ≤ n * most → (k + n - 1) / n ≤ most
blocks_within n most k some few =
    let full : n * (most + 1) ≡ n * most + n = omega arith in
    let down = mul-div-le (k + n - 1) n in
    let low : n * ((k + n - 1) / n) < n * (most + 1) = omega (arith, full, down, some, few) in
    let less : (k + n - 1) / n < most + 1 = lt_of_mul-lt-mul_left n low in
    omega (arith, less)

pub seals_within : (sizes : LogSizes) (rows : List RowValue) (order told : List ℕ) (seals : List SealValue) → AreSizes sizes
    → length rows ≤ sizes.capacity * sizes.segments → IsOrder order (length rows) sizes.writers
    → AreSeals sizes.capacity (log_of rows sizes.writers order) told seals → HasSeals sizes seals
seals_within sizes rows order told seals lawful few is are =
    let entries : List Entry = log_of rows sizes.writers order in
    let long : length entries ≡ length rows = (log_of_order rows sizes.writers order lawful.writers.0 is).0.size in
    let within = blocks_within sizes.capacity sizes.segments (length entries) lawful.capacity.0 (omega (arith, long, few)) in
    let one = lawful.segments.0 in
    let count = are.count in
    (omega (arith, count), omega (arith, count, within, one))
