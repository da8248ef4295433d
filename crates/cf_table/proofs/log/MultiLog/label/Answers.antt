use Rattle.std.proofs.Common.{◌≡◌, refl, ap, subst}
use Rattle.cf_shape.specs.Lanes.{ShapeValue}
use Rattle.cf_shape.specs.Places.{place_of}
use Rattle.cf_shape.specs.Places.WordName.{label as label_word}
use Rattle.cf_law.specs.Steps.{book_with_label}
use Rattle.cf_table.specs.Values.{LogValue, book_of}
use Rattle.cf_table.specs.Effects.{label_effect}
use Rattle.cf_table.proofs.Calls.{calls_label, kept_by}
use Rattle.cf_table.proofs.log.MultiLog.label.Goals as goal

pub store_as-requires-clause-lawful : goal.store_as-requires-clause-lawful
store_as-requires-clause-lawful g c =
    let s = c.args.self.now.shape in
    let p = c.args.pass.now.view in
    let shape : c.self.inside.shape ≡ s = ap (λ (m : LogValue). m.shape) c.self.view_is in
    rw c.pass.view_is
    (calls_label s p c.args.node c.args.value c.place_label-word.result c.requires.place
    (subst (λ (x : ShapeValue). c.place_label-word.result ≡ place_of x (label_word c.args.node)) shape c.place_label-word.ensures) c.requires.lawful)

pub invariant_of-pass : goal.invariant_of-pass
invariant_of-pass g c =
    let w = c.pass.inside in
    let m = w.token in
    kept_by c.args.self.now.shape (label_effect m.view c.args.node c.args.value) w.notes.writer w.notes.over w.notes.used
    (book_with_label c.args.value (book_of m.view)) m c.store_as.new.token c.pass.invariant c.store_as.ensures.made (λ found es. refl) refl refl refl
