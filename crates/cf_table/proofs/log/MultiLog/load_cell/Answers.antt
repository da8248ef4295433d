use Rattle.std.proofs.Common.{◌≡◌, ap, subst}
use Rattle.cf_shape.specs.Lanes.{ShapeValue}
use Rattle.cf_shape.specs.Places.{place_of}
use Rattle.cf_shape.specs.Places.WordName.{version}
use Rattle.cf_table.specs.Values.{LogValue}
use Rattle.cf_table.proofs.Calls.{calls_cell}
use Rattle.cf_table.proofs.log.MultiLog.load_cell.Goals as goal

pub load_as-requires-clause-lawful : goal.load_as-requires-clause-lawful
load_as-requires-clause-lawful g c =
    let s = c.args.self.now.shape in
    let p = (g.P.Pass.held c.args.pass.now).view in
    let shape : c.self.inside.shape ≡ s = ap (λ (m : LogValue). m.shape) c.self.view_is in
    let r = c.requires in
    calls_cell s p c.args.offset c.args.lane c.args.index c.place_cell-word.result r.place.0 r.place.1 r.place.2
    (subst (λ (x : ShapeValue). c.place_cell-word.result ≡ place_of x
    (version c.args.offset c.args.lane c.args.index)) shape c.place_cell-word.ensures) r.lawful
