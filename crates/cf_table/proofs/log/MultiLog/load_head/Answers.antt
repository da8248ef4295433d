use Rattle.std.proofs.Common.{◌≡◌, ap, subst}
use Rattle.cf_shape.specs.Lanes.{ShapeValue}
use Rattle.cf_shape.specs.Places.{place_of}
use Rattle.cf_shape.specs.Places.WordName.{head}
use Rattle.cf_table.specs.Values.{LogValue}
use Rattle.cf_table.proofs.Calls.{calls_walk}
use Rattle.cf_table.proofs.log.MultiLog.load_head.Goals as goal

pub load_as-requires-clause-lawful : goal.load_as-requires-clause-lawful
load_as-requires-clause-lawful g c =
    let s = c.args.self.now.shape in
    let p = (g.P.Pass.held c.args.pass.now).view in
    let shape : c.self.inside.shape ≡ s = ap (λ (m : LogValue). m.shape) c.self.view_is in
    let r = c.requires in
    calls_walk s p g.of_node c.args.node c.args.nibble c.args.writer c.place_head-word.result r.1.1.1.0.0 r.1.1.1.0.1 r.1.1.1.0.2
    (subst (λ (x : ShapeValue). c.place_head-word.result ≡ place_of x (head c.args.node c.args.nibble c.args.writer)) shape c.place_head-word.ensures) r.1.1.1.1
