use Rattle.std.proofs.Common.{◌≡◌, ◌∙◌, ◌+◌, ◌<◌, ◌==◌, ap, sym, subst, arith}
use prog.Atomic.{either}
use Rattle.atomic_table.specs.Table.{Allows}
use Rattle.cf_shape.specs.Lanes.{IsShape}
use Rattle.cf_shape.specs.Places.{word_total, sizes_of}
use Rattle.cf_law.specs.Shapes.{layout}
use Rattle.cf_table.specs.Values.{PassValue, LogValue}
use Rattle.cf_table.specs.Rule.{StepGiven, IsLawfulState, TellsSome}
use Rattle.cf_table.proofs.Allowed.{advance_allowed}
use Rattle.cf_table.proofs.Seen.{advance_asks, advance_kept}
use Rattle.cf_table.proofs.steps.advance_as.Goals as goal

pub compare_exchange-requires : goal.compare_exchange-requires
compare_exchange-requires g c =
    let seat = c.token.inside.seat in
    let log = c.log.inside in
    let s = c.args.log.now.shape in
    let p = c.args.token.now.view in
    let shape : log.shape ≡ s = ap (λ (m : LogValue). m.shape) c.log.view_is in
    let t = log.table.shared.table_id in
    let there : 1 < word_total (sizes_of s) = omega arith in (
      ap (λ (h : PassValue). h.table) c.token.view_is ∙ (c.requires.of.table ∙ sym (ap (λ (m : LogValue). m.table) c.log.view_is)),
      rw (c.log.invariant.2, shape) there,
      subst (λ (w : StepGiven). Allows (IsLawfulState log.table.shared.key) t.slots seat.id seat.me 1 (λ n. either (n == c.args.tail) (c.args.tail + 1) n)
          (λ found n. TellsSome w seat.me n)) (sym c.requires.given)
          (advance_allowed log.table.shared.key s t.slots seat.id seat.me p c.args.tail (c.log.invariant.0 ∙ shape)
          (ap (λ (h : PassValue). h.view) c.token.view_is) (rw c.log.invariant.0 c.log.invariant.1) c.token.invariant.0 c.requires.lawful),
    )

pub overflow_add-tail-2 : goal.overflow_add-tail-2
overflow_add-tail-2 g c =
    let s = c.args.log.now.shape in
    let p = c.args.token.now.view in
    let shape : c.log.inside.shape ≡ s = ap (λ (m : LogValue). m.shape) c.log.view_is in
    let is : IsShape s = subst IsShape shape c.log.invariant.1 in
    let room = is.capacity in
    let asks = advance_asks (layout s) p c.args.tail _ _ _ c.requires.lawful in
    omega (arith, asks)

pub invariant_of-token : goal.invariant_of-token
invariant_of-token g c =
    let s = c.args.log.now.shape in
    let p = c.args.token.now.view in
    let seat = c.token.inside.seat in
    let some = subst (λ (w : StepGiven). TellsSome w seat.me c.compare_exchange.new.seat.me) c.requires.given c.compare_exchange.ensures.2 in
    advance_kept s c.args.tail c.token.inside.covered c.max-token-inside.result seat.me c.compare_exchange.new.seat.me p
    (ap (λ (h : PassValue). h.view) c.token.view_is) c.requires.lawful some c.token.invariant.1 c.max-token-inside.ensures c.token.invariant.2
