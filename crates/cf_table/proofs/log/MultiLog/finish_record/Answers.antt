use Rattle.std.proofs.Common.{◌≡◌, refl, ap, subst}
use Rattle.cf_shape.specs.Lanes.{ShapeValue}
use Rattle.cf_shape.specs.Places.{place_of}
use Rattle.cf_shape.specs.Places.WordName.{done}
use Rattle.cf_law.specs.Steps.{book_with_record}
use Rattle.cf_table.specs.Values.{LogValue, book_of, flight_of}
use Rattle.cf_table.specs.Effects.{finish_effect}
use Rattle.cf_table.proofs.Calls.{calls_finish, kept_by}
use Rattle.cf_table.proofs.log.MultiLog.finish_record.Goals as goal

pub store_as-requires-clause-lawful : goal.store_as-requires-clause-lawful
store_as-requires-clause-lawful g c =
    let s = c.args.self.now.shape in
    let p = c.args.pass.now.view in
    let shape : c.self.inside.shape ≡ s = ap (λ (m : LogValue). m.shape) c.self.view_is in
    rw c.pass.view_is
    (calls_finish s p c.args.offset c.place_done-word.result c.requires.place
    (subst (λ (x : ShapeValue). c.place_done-word.result ≡ place_of x (done c.args.offset)) shape c.place_done-word.ensures) c.requires.lawful)

pub invariant_of-pass : goal.invariant_of-pass
invariant_of-pass g c =
    let w = c.pass.inside in
    let m = w.token in
    kept_by c.args.self.now.shape (finish_effect c.args.self.now.shape m.view c.args.offset) w.notes.writer w.notes.over w.notes.used
    (book_with_record (book_of m.view) (flight_of m.view)) m c.store_as.new.token c.pass.invariant c.store_as.ensures.made (λ found es. refl) refl refl refl
