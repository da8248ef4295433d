use Rattle.std.proofs.Common.{◌≡◌, ◌∙◌, ◌<◌, ap, sym, subst, arith}
use Rattle.atomic_table.specs.Table.{Allows}
use Rattle.cf_shape.specs.Places.{word_total, sizes_of}
use Rattle.cf_table.specs.Values.{PassValue, LogValue}
use Rattle.cf_table.specs.Rule.{StepGiven, IsLawfulState, TellsAll, given_tail}
use Rattle.cf_table.proofs.Allowed.{tail_allowed}
use Rattle.cf_table.proofs.steps.tail_as.Goals as goal

pub load-found-requires : goal.load-found-requires
load-found-requires g c =
    let seat = c.token.inside.seat in
    let log = c.log.inside in
    let s = c.args.log.now.shape in
    let p = c.args.token.now.view in
    let v = given_tail s p c.args.asked in
    let shape : log.shape ≡ s = ap (λ (m : LogValue). m.shape) c.log.view_is in
    let t = log.table.shared.table_id in
    let there : 1 < word_total (sizes_of s) = omega arith in (
      ap (λ (h : PassValue). h.table) c.token.view_is ∙ (c.requires.of.table ∙ sym (ap (λ (m : LogValue). m.table) c.log.view_is)),
      rw (c.log.invariant.2, shape) there,
      subst (λ (w : StepGiven). Allows (IsLawfulState log.table.shared.key) t.slots seat.id seat.me 1 (λ n. n) (λ found n. TellsAll w seat.me found n))
          (sym c.requires.given)
          (tail_allowed log.table.shared.key s t.slots seat.id seat.me p c.args.asked (c.log.invariant.0 ∙ shape)
          (ap (λ (h : PassValue). h.view) c.token.view_is) (rw c.log.invariant.0 c.log.invariant.1) c.token.invariant.0),
    )
