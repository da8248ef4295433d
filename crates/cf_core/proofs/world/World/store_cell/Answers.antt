use Rattle.std.proofs.Common.{◌≡◌, true, sym, ◌∙◌, arith, rules, refl}
use Rattle.std.proofs.lemmas.Option.{slice_get_within}
use Rattle.cf_law.specs.Events.WorldEvent.{acts}
use Rattle.cf_law.specs.Shapes.{layout}
use Rattle.cf_shape.specs.Uses.{use_at}
use Rattle.cf_core.specs.Worlds.{draft}
use Rattle.cf_law.specs.Steps.{pass_with_book, book_with_word, IsNext, own_word}
use Rattle.cf_law.specs.Steps.Act.{store_cell}
use Rattle.cf_core.proofs.Making.{made, made_lawful, pass_there}
use Rattle.cf_core.proofs.Tickets.{cell_does, cell_only, aloft_is}
use Rattle.cf_shape.proofs.Bounds.{ticket_few}
use Rattle.cf_core.proofs.Versions.{own_are}
use Rattle.cf_core.proofs.world.World.store_cell.Goals as goal

pub is_next-requires : goal.is_next-requires
is_next-requires c =
    let aloft = aloft_is c.args.self.now c.args.number c.in-Some-flying.place c.in-Some.pass.now c.in-Some-flying.book.now c.in-Some-flying.ticket.now
    c.shape-shape.ensures.lawful c.in-Some.ensures c.in-Some-flying.ensures.0 in
    rw (c.shape-shape.ensures.shape, c.row-row.ensures) aloft.fits

pub returns-then-not-is_next : goal.returns-then-not-is_next
returns-then-not-is_next c = (
  refl,
  λ y does. (let o = cell_only c.args.self.now c.args.number c.args.offset c.args.index c.args.value c.in-Some-flying.place c.in-Some.pass.now
      c.in-Some-flying.book.now c.in-Some-flying.ticket.now y c.shape-shape.ensures.lawful c.in-Some.ensures c.in-Some-flying.ensures.0
      c.in-Some-flying.ensures.1 does in
      let found : c.is_next.result ≡ true = (c.is_next.ensures).1 (rw (c.shape-shape.ensures.shape, c.row-row.ensures, c.filled.ensures) o.0) in
      absurd (cc (found, c.if-not-is_next.true))),
)

pub own_word-requires-clause-fits : goal.own_word-requires-clause-fits
own_word-requires-clause-fits c =
    let aloft = aloft_is c.args.self.now c.args.number c.in-Some-flying.place c.in-Some.pass.now c.in-Some-flying.book.now c.in-Some-flying.ticket.now
    c.shape-shape.ensures.lawful c.in-Some.ensures c.in-Some-flying.ensures.0 in
    rw (c.shape-shape.ensures.shape, c.row-row.ensures) aloft.fits

pub own_word-requires-clause-writer : goal.own_word-requires-clause-writer
own_word-requires-clause-writer c =
    let aloft = aloft_is c.args.self.now c.args.number c.in-Some-flying.place c.in-Some.pass.now c.in-Some-flying.book.now c.in-Some-flying.ticket.now
    c.shape-shape.ensures.lawful c.in-Some.ensures c.in-Some-flying.ensures.0 in
    aloft.writer

pub own_word-requires-clause-own : goal.own_word-requires-clause-own
own_word-requires-clause-own c =
    rw c.shape-shape.ensures.shape
    (own_are c.args.self.now c.args.number c.in-Some-flying.place c.in-Some.pass.now c.in-Some-flying.book.now c.shape-shape.ensures.lawful c.in-Some.ensures
    c.in-Some-flying.ensures.0.0)

pub own_word-requires-clause-word : goal.own_word-requires-clause-word
own_word-requires-clause-word c =
    let next : IsNext (layout c.args.self.now.shape) (draft c.in-Some-flying.ticket.now.row c.in-Some-flying.ticket.now.filled) c.args.index =
    rw (c.shape-shape.ensures.shape, c.row-row.ensures, c.filled.ensures) at ((c.is_next.ensures).0 c.if-not-is_next.false) in
    let low = next.within in
    rw c.shape-shape.ensures.shape (omega (arith, low))

pub returns-then-branch : goal.returns-then-branch
returns-then-branch c =
    let own : c.in_ok-own_word.field-0 ≡ own_word (layout c.args.self.now.shape) c.in-Some-flying.book.now c.in-Some-flying.ticket.now.row
    (use_at c.args.self.now.shape c.args.index) =
    (let raw : c.in_ok-own_word.field-0 ≡ own_word (layout c.shape-shape.result.now) c.in-Some-flying.book.now c.row-row.result.now
    (use_at c.shape-shape.result.now c.args.index) = search (rules, c.in_ok-own_word.ensures) in
    rw (c.shape-shape.ensures.shape, c.row-row.ensures) at raw) in (
      refl,
      λ y does.
          (let o = cell_only c.args.self.now c.args.number c.args.offset c.args.index c.args.value c.in-Some-flying.place c.in-Some.pass.now
          c.in-Some-flying.book.now c.in-Some-flying.ticket.now y c.shape-shape.ensures.lawful c.in-Some.ensures c.in-Some-flying.ensures.0
          c.in-Some-flying.ensures.1 does in absurd (c.if-branch.true (o.1 ∙ sym own))),
    )

pub ticket_place-at-requires-clause-offset : goal.ticket_place-at-requires-clause-offset
ticket_place-at-requires-clause-offset c =
    let aloft = aloft_is c.args.self.now c.args.number c.in-Some-flying.place c.in-Some.pass.now c.in-Some-flying.book.now c.in-Some-flying.ticket.now
    c.shape-shape.ensures.lawful c.in-Some.ensures c.in-Some-flying.ensures.0 in
    (let lt = aloft.offset in omega (arith, lt, c.in-Some-flying.ensures.1))

pub ticket_place-at-requires-clause-word : goal.ticket_place-at-requires-clause-word
ticket_place-at-requires-clause-word c =
    let next : IsNext (layout c.args.self.now.shape) (draft c.in-Some-flying.ticket.now.row c.in-Some-flying.ticket.now.filled) c.args.index =
    rw (c.shape-shape.ensures.shape, c.row-row.ensures, c.filled.ensures) at ((c.is_next.ensures).0 c.if-not-is_next.false) in
    let low = next.within in
    omega (arith, low, c.from.ensures)

pub filled-requires-2 : goal.filled-requires-2
filled-requires-2 c =
    let next : IsNext (layout c.args.self.now.shape) (draft c.in-Some-flying.ticket.now.row c.in-Some-flying.ticket.now.filled) c.args.index =
    rw (c.shape-shape.ensures.shape, c.row-row.ensures, c.filled.ensures) at ((c.is_next.ensures).0 c.if-not-is_next.false) in
    let low = next.within in
    let is = c.shape-shape.ensures.lawful in
    omega (arith, low, ticket_few c.args.self.now.shape is.shape)

pub at_book-requires : goal.at_book-requires
at_book-requires c = slice_get_within c.in-Some.pass.now.books c.in-Some-flying.place c.in-Some-flying.book.now c.in-Some-flying.ensures.0.0

pub put-requires-clause-pass : goal.put-requires-clause-pass
put-requires-clause-pass c = pass_there c.args.self.now c.args.number c.in-Some.pass.now c.in-Some.ensures

pub put-requires-clause-lawful : goal.put-requires-clause-lawful
put-requires-clause-lawful c =
    let aloft = aloft_is c.args.self.now c.args.number c.in-Some-flying.place c.in-Some.pass.now c.in-Some-flying.book.now c.in-Some-flying.ticket.now
    c.shape-shape.ensures.lawful c.in-Some.ensures c.in-Some-flying.ensures.0 in
    let next : IsNext (layout c.args.self.now.shape) (draft c.in-Some-flying.ticket.now.row c.in-Some-flying.ticket.now.filled) c.args.index =
    rw (c.shape-shape.ensures.shape, c.row-row.ensures, c.filled.ensures) at ((c.is_next.ensures).0 c.if-not-is_next.false) in
    let own : c.in_ok-own_word.field-0 ≡ own_word (layout c.args.self.now.shape) c.in-Some-flying.book.now c.in-Some-flying.ticket.now.row
    (use_at c.args.self.now.shape c.args.index) =
    (let raw : c.in_ok-own_word.field-0 ≡ own_word (layout c.shape-shape.result.now) c.in-Some-flying.book.now c.row-row.result.now
    (use_at c.shape-shape.result.now c.args.index) = search (rules, c.in_ok-own_word.ensures) in rw (c.shape-shape.ensures.shape, c.row-row.ensures) at raw) in
    let value : c.args.value ≡ own_word (layout c.args.self.now.shape) c.in-Some-flying.book.now c.in-Some-flying.ticket.now.row
    (use_at c.args.self.now.shape c.args.index) = omega (arith, own, c.if-branch.false) in
    let after : c.in_ok-after.after ≡ pass_with_book c.in-Some-flying.place
    (book_with_word c.args.index c.in-Some-flying.book.now c.in-Some-flying.ticket.now) c.in-Some.pass.now =
    search (rules, c.in_ok-after.ensures, c.in_ok-filled.ensures) in
    let does = cell_does c.args.self.now c.args.number c.args.offset c.args.index c.args.value c.ticket_place-at.result c.in-Some-flying.place
    c.in-Some.pass.now c.in_ok-after.after c.in-Some-flying.book.now c.in-Some-flying.ticket.now c.in-Some.ensures c.in-Some-flying.ensures.0
    c.in-Some-flying.ensures.1 next value (search (rules, c.ticket_place-at.ensures.at, c.from.ensures)) after in
    made_lawful c.args.self.now c.args.number (acts (store_cell c.args.offset c.args.index c.args.value)) _ c.shape-shape.ensures.lawful does

pub returns : goal.returns
returns c =
    let aloft = aloft_is c.args.self.now c.args.number c.in-Some-flying.place c.in-Some.pass.now c.in-Some-flying.book.now c.in-Some-flying.ticket.now
    c.shape-shape.ensures.lawful c.in-Some.ensures c.in-Some-flying.ensures.0 in
    let next : IsNext (layout c.args.self.now.shape) (draft c.in-Some-flying.ticket.now.row c.in-Some-flying.ticket.now.filled) c.args.index =
    rw (c.shape-shape.ensures.shape, c.row-row.ensures, c.filled.ensures) at ((c.is_next.ensures).0 c.if-not-is_next.false) in
    let own : c.in_ok-own_word.field-0 ≡ own_word (layout c.args.self.now.shape) c.in-Some-flying.book.now c.in-Some-flying.ticket.now.row
    (use_at c.args.self.now.shape c.args.index) =
    (let raw : c.in_ok-own_word.field-0 ≡ own_word (layout c.shape-shape.result.now) c.in-Some-flying.book.now c.row-row.result.now
    (use_at c.shape-shape.result.now c.args.index) = search (rules, c.in_ok-own_word.ensures) in rw (c.shape-shape.ensures.shape, c.row-row.ensures) at raw) in
    let value : c.args.value ≡ own_word (layout c.args.self.now.shape) c.in-Some-flying.book.now c.in-Some-flying.ticket.now.row
    (use_at c.args.self.now.shape c.args.index) = omega (arith, own, c.if-branch.false) in
    let after : c.in_ok-after.after ≡ pass_with_book c.in-Some-flying.place
    (book_with_word c.args.index c.in-Some-flying.book.now c.in-Some-flying.ticket.now) c.in-Some.pass.now =
    search (rules, c.in_ok-after.ensures, c.in_ok-filled.ensures) in
    let does = cell_does c.args.self.now c.args.number c.args.offset c.args.index c.args.value c.ticket_place-at.result c.in-Some-flying.place
    c.in-Some.pass.now c.in_ok-after.after c.in-Some-flying.book.now c.in-Some-flying.ticket.now c.in-Some.ensures c.in-Some-flying.ensures.0
    c.in-Some-flying.ensures.1 next value (search (rules, c.ticket_place-at.ensures.at, c.from.ensures)) after in
    made c.args.self.now c.put.new.self c.args.number (acts (store_cell c.args.offset c.args.index c.args.value)) _ _ c.put.ensures does
