use Rattle.std.proofs.Common.{◌∙◌, ◌<◌, ap, sym, arith}
use Rattle.cf_shape.specs.Places.{word_total, sizes_of}
use Rattle.cf_table.specs.Values.{PassValue, LogValue}
use Rattle.cf_table.proofs.Allowed.{split_allowed}
use Rattle.cf_table.proofs.moves.split_as.Goals as goal

pub split_seat-requires : goal.split_seat-requires
split_seat-requires g c =
    let seat = c.token.inside.seat in
    let log = c.log.inside in
    let there : 0 < word_total (sizes_of log.shape) = omega arith in (
      ap (λ (h : PassValue). h.table) c.token.view_is ∙ (c.requires.of.table ∙ sym (ap (λ (m : LogValue). m.table) c.log.view_is)),
      rw c.log.invariant.2 there,
      rw (ap (λ (h : PassValue). h.view) c.token.view_is)
          (split_allowed log.table.shared.key seat.id c.args.token.now.view g.N.Parts.stays g.N.Parts.goes c.requires.lawful.0 c.requires.lawful.1),
    )
