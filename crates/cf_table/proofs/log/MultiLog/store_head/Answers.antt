use Rattle.std.proofs.Common.{◌≡◌, refl, ap, subst}
use Rattle.cf_shape.specs.Lanes.{ShapeValue}
use Rattle.cf_shape.specs.Places.{place_of}
use Rattle.cf_shape.specs.Places.WordName.{head}
use Rattle.cf_law.specs.Steps.{book_with_head}
use Rattle.cf_table.specs.Values.{LogValue, book_of, flight_of}
use Rattle.cf_table.specs.Effects.{head_effect}
use Rattle.cf_table.proofs.Calls.{calls_head, kept_by}
use Rattle.cf_table.proofs.log.MultiLog.store_head.Goals as goal

pub store_as-requires-clause-lawful : goal.store_as-requires-clause-lawful
store_as-requires-clause-lawful g c =
    let s = c.args.self.now.shape in
    let p = c.args.pass.now.view in
    let shape : c.self.inside.shape ≡ s = ap (λ (m : LogValue). m.shape) c.self.view_is in
    let r = c.requires in
    rw c.pass.view_is
    (calls_head s p g.lane c.args.node c.args.nibble c.args.offset c.writer.result c.place_head-word.result r.1.1.0.0 r.1.1.0.1 r.1.1.0.2
    (c.writer.ensures.writer)
    (subst (λ (x : ShapeValue). c.place_head-word.result ≡ place_of x (head c.args.node c.args.nibble c.writer.result)) shape c.place_head-word.ensures)
    r.1.1.1)

pub invariant_of-pass : goal.invariant_of-pass
invariant_of-pass g c =
    let w = c.pass.inside in
    let m = w.token in
    kept_by c.args.self.now.shape
    (head_effect c.args.self.now.shape m.view g.lane c.args.node c.args.nibble c.args.offset) w.notes.writer w.notes.over w.notes.used
    (book_with_head g.lane (book_of m.view) (flight_of m.view)) m c.store_as.new.token c.pass.invariant c.store_as.ensures.made
    (λ found es. refl) refl refl refl
