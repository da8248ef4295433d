use Rattle.std.proofs.Common.{◌≡◌, ap, subst}
use Rattle.cf_shape.specs.Lanes.{ShapeValue}
use Rattle.cf_shape.specs.Places.{place_of}
use Rattle.cf_shape.specs.Places.WordName.{done}
use Rattle.cf_table.specs.Values.{LogValue}
use Rattle.cf_table.proofs.Calls.{calls_done}
use Rattle.cf_table.proofs.log.MultiLog.look_done.Goals as goal

pub load_as-requires-clause-lawful : goal.load_as-requires-clause-lawful
load_as-requires-clause-lawful g c =
    let s = c.args.self.now.shape in
    let p = (g.P.Pass.held c.args.pass.now).view in
    let shape : c.self.inside.shape ≡ s = ap (λ (m : LogValue). m.shape) c.self.view_is in
    calls_done s p c.args.offset c.place_done-word.result c.requires.place
    (subst (λ (x : ShapeValue). c.place_done-word.result ≡ place_of x (done c.args.offset)) shape c.place_done-word.ensures)
