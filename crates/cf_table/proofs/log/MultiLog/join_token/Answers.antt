use Rattle.std.proofs.Common.{◌∙◌, ◌<◌, ap, sym, arith}
use Rattle.cf_shape.specs.Places.{word_total, sizes_of}
use Rattle.cf_table.specs.Values.{PassValue, LogValue}
use Rattle.cf_table.proofs.Allowed.{join_allowed}
use Rattle.cf_table.proofs.log.MultiLog.join_token.Goals as goal

pub join_seat-requires : goal.join_seat-requires
join_seat-requires c =
    let seat = c.token.inside.seat in
    let other = c.other.inside.seat in
    let table = sym (ap (λ (m : LogValue). m.table) c.self.view_is) in
    let there : 0 < word_total (sizes_of c.self.inside.shape) = omega arith in (
      ap (λ (h : PassValue). h.table) c.token.view_is ∙ (c.requires.of.0.table ∙ table),
      ap (λ (h : PassValue). h.table) c.other.view_is ∙ (c.requires.of.1.table ∙ table),
      c.other.invariant.0,
      rw c.self.invariant.2 there,
      join_allowed c.self.inside.table.shared.key seat.id other.id seat.me.0 other.me.0 c.token.invariant.2,
    )
