use Rattle.std.proofs.Common.{◌≡◌, ◌∙◌, ap, subst, ℕ}
use Rattle.cf_shape.specs.Lanes.{ShapeValue}
use Rattle.cf_shape.specs.Places.{place, sizes_of}
use Rattle.cf_shape.specs.Places.Slot.{cell}
use Rattle.cf_table.specs.Values.{LogValue}
use Rattle.cf_table.proofs.Calls.{calls_word}
use Rattle.cf_table.proofs.log.MultiLog.load_word.Goals as goal

pub load_as-requires-clause-lawful : goal.load_as-requires-clause-lawful
load_as-requires-clause-lawful g c =
    let s = c.args.self.now.shape in
    let p = (g.P.Pass.held c.args.pass.now).view in
    let shape : c.self.inside.shape ≡ s = ap (λ (m : LogValue). m.shape) c.self.view_is in
    calls_word s p c.args.offset c.args.index c.place_ticket-word.result c.requires.place.0 c.requires.place.1 c.requires.lawful
    (subst (λ (x : ShapeValue). c.place_ticket-word.result ≡ place (sizes_of x) (cell c.args.offset c.args.index)) shape
    (c.place_ticket-word.ensures ∙ ap (λ (i : ℕ). place (sizes_of c.self.inside.shape) (cell c.args.offset i)) c.from.ensures))
