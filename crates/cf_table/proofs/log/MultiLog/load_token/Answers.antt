use Rattle.std.proofs.Common.{◌≡◌, ◌∙◌, ap, sym}
use Rattle.cf_table.specs.Values.{PassValue, LogValue}
use Rattle.cf_table.proofs.Allowed.{asked, word_there}
use Rattle.cf_table.proofs.log.MultiLog.load_token.Goals as goal

pub load-requires : goal.load-requires
load-requires g c =
    let seat = c.token.inside.seat in
    let log = c.self.inside in
    let shape : log.shape ≡ c.args.self.now.shape = ap (λ (m : LogValue). m.shape) c.self.view_is in (
      ap (λ (h : PassValue). h.table) c.token.view_is ∙ (c.requires.of.table ∙ sym (ap (λ (m : LogValue). m.table) c.self.view_is)),
      rw (c.self.invariant.2, shape) (word_there c.args.self.now.shape g.N.Gives.given c.args.token.now.view c.args.word _ c.requires.lawful),
      asked log.table.shared.key c.args.self.now.shape g.N.Gives.given log.table.shared.table_id.slots seat.id seat.me c.args.token.now.view c.args.word _
          (c.self.invariant.0 ∙ shape) (ap (λ (h : PassValue). h.view) c.token.view_is)
          (rw c.self.invariant.0 c.self.invariant.1) c.token.invariant.0 c.requires.lawful,
    )
