use Rattle.std.proofs.Common.{◌≡◌, ◌-◌, suc, true, arith, rules, refl}
use Rattle.std.proofs.lemmas.Option.{slice_get_within}
use Rattle.cf_law.specs.Events.WorldEvent.{acts}
use Rattle.cf_law.specs.Shapes.{layout}
use Rattle.cf_law.specs.Law.{IsWhole}
use Rattle.cf_shape.specs.Uses.{ticket_words}
use Rattle.cf_core.specs.Worlds.{draft, AllLinked}
use Rattle.cf_law.specs.Steps.{pass_with_book, book_with_record}
use Rattle.cf_law.specs.Steps.Act.{finish_record}
use Rattle.cf_core.proofs.Making.{made, made_lawful, pass_there}
use Rattle.cf_core.proofs.Tickets.{done_does, done_only, aloft_is}
use Rattle.cf_core.proofs.world.World.finish_record.Goals as goal

pub is_whole-requires : goal.is_whole-requires
is_whole-requires c =
    let aloft = aloft_is c.args.self.now c.args.number c.in-Some-flying.place c.in-Some.pass.now c.in-Some-flying.book.now c.in-Some-flying.ticket.now
    c.shape-shape.ensures.lawful c.in-Some.ensures c.in-Some-flying.ensures.0 in
    rw (c.shape-shape.ensures.shape, c.row-row.ensures) aloft.fits

pub returns-then-not-is_whole : goal.returns-then-not-is_whole
returns-then-not-is_whole c = (
  refl,
  λ y does. (let o = done_only c.args.self.now c.args.number c.args.offset c.in-Some-flying.place c.in-Some.pass.now c.in-Some-flying.book.now
      c.in-Some-flying.ticket.now y c.shape-shape.ensures.lawful c.in-Some.ensures c.in-Some-flying.ensures.0 c.in-Some-flying.ensures.1 does in
      let found : c.is_whole.result ≡ true = (c.is_whole.ensures).1 (rw (c.shape-shape.ensures.shape, c.row-row.ensures, c.filled.ensures) o.0) in
      absurd (cc (found, c.if-not-is_whole.true))),
)

pub are_all-requires : goal.are_all-requires
are_all-requires c =
    let aloft = aloft_is c.args.self.now c.args.number c.in-Some-flying.place c.in-Some.pass.now c.in-Some-flying.book.now c.in-Some-flying.ticket.now
    c.shape-shape.ensures.lawful c.in-Some.ensures c.in-Some-flying.ensures.0 in
    rw (c.shape-shape.ensures.shape, c.row-row.ensures) aloft.fits

pub returns-then-not-are_all : goal.returns-then-not-are_all
returns-then-not-are_all c = (
  refl,
  λ y does. (let o = done_only c.args.self.now c.args.number c.args.offset c.in-Some-flying.place c.in-Some.pass.now c.in-Some-flying.book.now
      c.in-Some-flying.ticket.now y c.shape-shape.ensures.lawful c.in-Some.ensures c.in-Some-flying.ensures.0 c.in-Some-flying.ensures.1 does in
      let found : c.are_all.result ≡ true = (c.are_all.ensures).1 (rw (c.shape-shape.ensures.shape, c.row-row.ensures, c.linked.ensures) o.1) in
      absurd (cc (found, c.if-not-are_all.true))),
)

pub ticket_place-at-requires-clause-offset : goal.ticket_place-at-requires-clause-offset
ticket_place-at-requires-clause-offset c =
    let aloft = aloft_is c.args.self.now c.args.number c.in-Some-flying.place c.in-Some.pass.now c.in-Some-flying.book.now c.in-Some-flying.ticket.now
    c.shape-shape.ensures.lawful c.in-Some.ensures c.in-Some-flying.ensures.0 in
    (let lt = aloft.offset in omega (arith, lt, c.in-Some-flying.ensures.1))

pub at_book-requires : goal.at_book-requires
at_book-requires c = slice_get_within c.in-Some.pass.now.books c.in-Some-flying.place c.in-Some-flying.book.now c.in-Some-flying.ensures.0.0

pub put-requires-clause-pass : goal.put-requires-clause-pass
put-requires-clause-pass c = pass_there c.args.self.now c.args.number c.in-Some.pass.now c.in-Some.ensures

pub put-requires-clause-lawful : goal.put-requires-clause-lawful
put-requires-clause-lawful c =
    let whole : IsWhole (layout c.args.self.now.shape) (draft c.in-Some-flying.ticket.now.row c.in-Some-flying.ticket.now.filled) =
    rw (c.shape-shape.ensures.shape, c.row-row.ensures, c.filled.ensures) at ((c.is_whole.ensures).0 c.if-not-is_whole.false) in
    let all : AllLinked c.args.self.now.shape c.in-Some-flying.ticket.now.row c.in-Some-flying.ticket.now.linked =
    rw (c.shape-shape.ensures.shape, c.row-row.ensures, c.linked.ensures) at ((c.are_all.ensures).0 c.if-not-are_all.false) in
    let words = rw c.shape-shape.ensures.shape at c.ticket_words.ensures.words in
    let last : suc (c.ticket_words.result - 1) ≡ ticket_words c.args.self.now.shape = omega (arith, words) in
    let after : c.in_ok-after.after ≡ pass_with_book c.in-Some-flying.place
    (book_with_record c.in-Some-flying.book.now c.in-Some-flying.ticket.now) c.in-Some.pass.now =
    search (rules, c.in_ok-after.ensures, c.in_ok-finished.ensures) in
    let does = done_does c.args.self.now c.args.number c.args.offset
    (c.ticket_words.result - 1) c.ticket_place-at.result c.in-Some-flying.place c.in-Some.pass.now c.in_ok-after.after c.in-Some-flying.book.now
    c.in-Some-flying.ticket.now c.in-Some.ensures c.in-Some-flying.ensures.0 c.in-Some-flying.ensures.1 last whole all c.ticket_place-at.ensures.at after in
    made_lawful c.args.self.now c.args.number (acts (finish_record c.args.offset)) _ c.shape-shape.ensures.lawful does

pub returns : goal.returns
returns c =
    let whole : IsWhole (layout c.args.self.now.shape) (draft c.in-Some-flying.ticket.now.row c.in-Some-flying.ticket.now.filled) =
    rw (c.shape-shape.ensures.shape, c.row-row.ensures, c.filled.ensures) at ((c.is_whole.ensures).0 c.if-not-is_whole.false) in
    let all : AllLinked c.args.self.now.shape c.in-Some-flying.ticket.now.row c.in-Some-flying.ticket.now.linked =
    rw (c.shape-shape.ensures.shape, c.row-row.ensures, c.linked.ensures) at ((c.are_all.ensures).0 c.if-not-are_all.false) in
    let words = rw c.shape-shape.ensures.shape at c.ticket_words.ensures.words in
    let last : suc (c.ticket_words.result - 1) ≡ ticket_words c.args.self.now.shape = omega (arith, words) in
    let after : c.in_ok-after.after ≡ pass_with_book c.in-Some-flying.place
    (book_with_record c.in-Some-flying.book.now c.in-Some-flying.ticket.now) c.in-Some.pass.now =
    search (rules, c.in_ok-after.ensures, c.in_ok-finished.ensures) in
    let does = done_does c.args.self.now c.args.number c.args.offset
    (c.ticket_words.result - 1) c.ticket_place-at.result c.in-Some-flying.place c.in-Some.pass.now c.in_ok-after.after c.in-Some-flying.book.now
    c.in-Some-flying.ticket.now c.in-Some.ensures c.in-Some-flying.ensures.0 c.in-Some-flying.ensures.1 last whole all c.ticket_place-at.ensures.at after in
    made c.args.self.now c.put.new.self c.args.number (acts (finish_record c.args.offset)) _ _ c.put.ensures does
