use Rattle.std.proofs.Common.{◌≡◌, ◌-◌, ℕ, suc, length, ap, arith}
use Rattle.cf_window.specs.Segments.{WindowSegmentValue}
use Rattle.cf_window.proofs.Lasts.{open_still, rows_taken}
use Rattle.cf_window.proofs.window.take_last.Goals as goal

pub returns-clause-rows : goal.returns-clause-rows
returns-clause-rows c =
    let xs = c.args.segments.now.items in
    let k : ℕ = c.len-count.result - 1 in
    let count = c.len-count.ensures in
    let some = c.if-count-eq0.false in
    let last : suc k ≡ length xs = omega (arith, count, some) in
    rows_taken xs k c.index_mut.result.now c.take.new.self c.args.row.now last c.index_mut.ensures.value c.take.result
    (ap (λ (s : WindowSegmentValue). s.rows) c.take.ensures.segment)

pub returns-clause-open : goal.returns-clause-open
returns-clause-open c =
    let xs = c.args.segments.now.items in
    let k : ℕ = c.len-count.result - 1 in
    let count = c.len-count.ensures in
    let some = c.if-count-eq0.false in
    let last : suc k ≡ length xs = omega (arith, count, some) in
    open_still xs k c.index_mut.result.now c.take.new.self c.args.row.now last c.index_mut.ensures.value c.take.result
    (ap (λ (s : WindowSegmentValue). s.is_spent) c.take.ensures.segment)
