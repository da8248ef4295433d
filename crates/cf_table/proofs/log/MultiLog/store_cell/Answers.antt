use Rattle.std.proofs.Common.{◌≡◌, ◌∙◌, refl, ap, subst, ℕ}
use Rattle.cf_shape.specs.Lanes.{ShapeValue}
use Rattle.cf_shape.specs.Places.{place, sizes_of}
use Rattle.cf_shape.specs.Places.Slot.{cell}
use Rattle.cf_law.specs.Steps.{book_with_word}
use Rattle.cf_table.specs.Values.{LogValue, book_of, flight_of}
use Rattle.cf_table.specs.Effects.{store_effect}
use Rattle.cf_table.proofs.Calls.{calls_store, kept_by}
use Rattle.cf_table.proofs.log.MultiLog.store_cell.Goals as goal

pub store_as-requires-clause-lawful : goal.store_as-requires-clause-lawful
store_as-requires-clause-lawful g c =
    let s = c.args.self.now.shape in
    let p = c.args.pass.now.view in
    let shape : c.self.inside.shape ≡ s = ap (λ (m : LogValue). m.shape) c.self.view_is in
    rw c.pass.view_is
    (calls_store s p c.args.offset c.args.index c.args.value c.place_ticket-word.result c.requires.place.0 c.requires.place.1
    (subst (λ (x : ShapeValue). c.place_ticket-word.result ≡ place (sizes_of x) (cell c.args.offset c.args.index)) shape
    (c.place_ticket-word.ensures ∙ ap (λ (i : ℕ). place (sizes_of c.self.inside.shape) (cell c.args.offset i)) c.from.ensures)) c.requires.lawful)

pub invariant_of-pass : goal.invariant_of-pass
invariant_of-pass g c =
    let w = c.pass.inside in
    let m = w.token in
    kept_by c.args.self.now.shape (store_effect m.view c.args.offset c.args.index c.args.value) w.notes.writer w.notes.over w.notes.used
    (book_with_word c.args.index (book_of m.view) (flight_of m.view)) m c.store_as.new.token c.pass.invariant c.store_as.ensures.made
    (λ found es. refl) refl refl refl
