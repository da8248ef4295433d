use Rattle.std.proofs.Common.{◌≡◌, ◌∙◌, ◌-◌, ℕ, true, min, get_or, slice_get, ap, sym, subst, arith}
use Rattle.cf_shape.specs.Lanes.{ShapeValue, is_number, option_passes}
use Rattle.cf_query.specs.Selecting.{SelectionValue}
use Rattle.cf_query.proofs.Selecting.{number_read, word_there}
use Rattle.cf_query.proofs.selection.Selection.number.Goals as goal

pub load_word-requires-clause-place : goal.load_word-requires-clause-place
load_word-requires-clause-place g c =
    let s = c.self.inside.log.now.shape in
    let number : option_passes is_number (slice_get s.schema c.args.attr) ≡ true =
    subst (λ (v : SelectionValue). option_passes is_number (slice_get v.log.shape.schema c.args.attr) ≡ true) (sym c.self.view_is) c.requires.number in
    let low = (word_there s.schema c.self.inside.places c.args.attr c.self.invariant.1 number).1 in
    let capacity = c.capacity.ensures.capacity ∙ ap (λ (x : ShapeValue). x.capacity) c.shape.ensures.shape in
    let place = c.min-place.ensures ∙ ap (λ (k : ℕ). min c.args.offset (k - 1)) capacity in
    let room = c.shape.ensures.lawful.capacity in
    (omega (arith, place, room), omega (arith, low))

pub returns-clause-number : goal.returns-clause-number
returns-clause-number g c =
    let s = c.self.inside.log.now.shape in
    let number : option_passes is_number (slice_get s.schema c.args.attr) ≡ true =
    subst (λ (v : SelectionValue). option_passes is_number (slice_get v.log.shape.schema c.args.attr) ≡ true) (sym c.self.view_is) c.requires.number in
    let there = word_there s.schema c.self.inside.places c.args.attr c.self.invariant.1 number in
    let low = there.1 in
    let capacity = c.capacity.ensures.capacity ∙ ap (λ (x : ShapeValue). x.capacity) c.shape.ensures.shape in
    let place = c.min-place.ensures ∙ ap (λ (k : ℕ). min c.args.offset (k - 1)) capacity in
    (number_read s (g.P.Pass.held c.args.pass.now) (g.P.Pass.held c.load_word.new.pass) c.args.offset c.min-place.result c.args.attr
    (get_or c.self.inside.places c.args.attr 0) c.load_word.result c.shape.ensures.lawful place c.requires.covered.within number there.0
    (omega (arith, low)) c.load_word.ensures.made).number
