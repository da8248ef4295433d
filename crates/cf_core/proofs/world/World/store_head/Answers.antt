use Rattle.std.proofs.Common.{◌≡◌, ◌+◌, ℕ, List, true, false, ap, sym, ◌∙◌, rules, refl}
use Rattle.std.proofs.lemmas.Option.{slice_get_within}
use Rattle.cf_law.specs.Events.WorldEvent.{acts}
use Rattle.cf_law.specs.Shapes.{layout}
use Rattle.cf_law.specs.Law.{IsWhole}
use Rattle.cf_law.specs.Words.{has}
use Rattle.cf_core.specs.Worlds.{draft, LeadsTo}
use Rattle.cf_law.specs.Words.{spot}
use Rattle.cf_shape.specs.Places.{place_of}
use Rattle.cf_shape.specs.Places.WordName.{head}
use Rattle.cf_law.specs.Steps.{pass_with_book, book_with_head}
use Rattle.cf_law.specs.Steps.Act.{store_head}
use Rattle.cf_core.proofs.Making.{made, made_lawful, pass_there}
use Rattle.cf_core.proofs.Tickets.{aloft_is}
use Rattle.cf_core.proofs.Walks.{known_is, head_there}
use Rattle.cf_core.proofs.Heads.{low_nibble, head_does, head_only, head_none}
use Rattle.cf_core.proofs.world.World.store_head.Goals as goal

pub returns-in_default-flying : goal.returns-in_default-flying
returns-in_default-flying c = (
  refl,
  λ y does. head_none c.args.self.now c.args.number c.args.lane c.args.node c.args.nibble c.args.offset c.in-Some.pass.now y c.in-Some.ensures
      c.in_default-flying.ensures does,
)

pub returns-then-is_in : goal.returns-then-is_in
returns-then-is_in c = (
  refl,
  λ y does. (let o = head_only c.args.self.now c.args.number c.args.lane c.args.node c.args.nibble c.args.offset c.in-Some-flying.at c.in-Some.pass.now
      c.in-Some-flying.book.now c.in-Some-flying.ticket.now y c.shape-shape.ensures.lawful c.in-Some.ensures c.in-Some-flying.ensures.0
      c.in-Some-flying.ensures.1 does in
      let found : has c.in-Some-flying.ticket.now.linked c.args.lane ≡ true = ap (λ (xs : List ℕ). has xs c.args.lane) (sym c.linked.ensures)
      ∙ (sym c.is_in.ensures ∙ c.if-is_in.true) in absurd (cc (found, o.1))),
)

pub is_whole-requires : goal.is_whole-requires
is_whole-requires c =
    let aloft = aloft_is c.args.self.now c.args.number c.in-Some-flying.at c.in-Some.pass.now c.in-Some-flying.book.now c.in-Some-flying.ticket.now
    c.shape-shape.ensures.lawful c.in-Some.ensures c.in-Some-flying.ensures.0 in
    rw (c.shape-shape.ensures.shape, c.row-row.ensures) aloft.fits

pub returns-then-not-is_whole : goal.returns-then-not-is_whole
returns-then-not-is_whole c = (
  refl,
  λ y does. (let o = head_only c.args.self.now c.args.number c.args.lane c.args.node c.args.nibble c.args.offset c.in-Some-flying.at c.in-Some.pass.now
      c.in-Some-flying.book.now c.in-Some-flying.ticket.now y c.shape-shape.ensures.lawful c.in-Some.ensures c.in-Some-flying.ensures.0
      c.in-Some-flying.ensures.1 does in
      let found : c.is_whole.result ≡ true = (c.is_whole.ensures).1 (rw (c.shape-shape.ensures.shape, c.row-row.ensures, c.filled.ensures) o.0) in
      absurd (cc (found, c.if-not-is_whole.true))),
)

pub leads-requires-clause-fits : goal.leads-requires-clause-fits
leads-requires-clause-fits c =
    let aloft = aloft_is c.args.self.now c.args.number c.in-Some-flying.at c.in-Some.pass.now c.in-Some-flying.book.now c.in-Some-flying.ticket.now
    c.shape-shape.ensures.lawful c.in-Some.ensures c.in-Some-flying.ensures.0 in
    rw c.row-row.ensures aloft.fits

pub returns-then-not-branch : goal.returns-then-not-branch
returns-then-not-branch c = (
  refl,
  λ y does. (let o = head_only c.args.self.now c.args.number c.args.lane c.args.node c.args.nibble c.args.offset c.in-Some-flying.at c.in-Some.pass.now
      c.in-Some-flying.book.now c.in-Some-flying.ticket.now y c.shape-shape.ensures.lawful c.in-Some.ensures c.in-Some-flying.ensures.0
      c.in-Some-flying.ensures.1 does in
      let none : LeadsTo c.args.self.now c.in-Some.pass.now c.row-row.result.now c.args.lane c.args.node c.args.nibble → ⊥ =
      search (rules, c.in_ok-leads.ensures.none c.if-not-branch.true) in none (rw c.row-row.ensures o.2)),
)

pub place_head-place-requires-clause-node : goal.place_head-place-requires-clause-node
place_head-place-requires-clause-node c =
    let leads : LeadsTo c.args.self.now c.in-Some.pass.now c.in-Some-flying.ticket.now.row c.args.lane c.args.node c.args.nibble =
    (let raw : LeadsTo c.args.self.now c.in-Some.pass.now c.row-row.result.now c.args.lane c.args.node c.args.nibble = search
    (rules, c.in_ok-leads.ensures.some c.if-not-branch.false) in rw c.row-row.ensures at raw) in
    rw c.shape-shape.ensures.shape
    (known_is c.args.self.now c.args.number c.args.node c.in-Some.pass.now (spot c.args.lane leads.0) c.shape-shape.ensures.lawful c.in-Some.ensures leads.2).0

pub place_head-place-requires-clause-nibble : goal.place_head-place-requires-clause-nibble
place_head-place-requires-clause-nibble c =
    let leads : LeadsTo c.args.self.now c.in-Some.pass.now c.in-Some-flying.ticket.now.row c.args.lane c.args.node c.args.nibble =
    (let raw : LeadsTo c.args.self.now c.in-Some.pass.now c.row-row.result.now c.args.lane c.args.node c.args.nibble = search
    (rules, c.in_ok-leads.ensures.some c.if-not-branch.false) in rw c.row-row.ensures at raw) in
    low_nibble c.args.self.now c.in-Some.pass.now c.in-Some-flying.ticket.now.row c.args.lane c.args.node c.args.nibble c.shape-shape.ensures.lawful leads

pub place_head-place-requires-clause-writer : goal.place_head-place-requires-clause-writer
place_head-place-requires-clause-writer c =
    let aloft = aloft_is c.args.self.now c.args.number c.in-Some-flying.at c.in-Some.pass.now c.in-Some-flying.book.now c.in-Some-flying.ticket.now
    c.shape-shape.ensures.lawful c.in-Some.ensures c.in-Some-flying.ensures.0 in
    rw (c.shape-shape.ensures.shape, c.writer.ensures) aloft.one

pub at_book-requires : goal.at_book-requires
at_book-requires c = slice_get_within c.in-Some.pass.now.books c.in-Some-flying.at c.in-Some-flying.book.now c.in-Some-flying.ensures.0.0

pub put-requires-clause-pass : goal.put-requires-clause-pass
put-requires-clause-pass c = pass_there c.args.self.now c.args.number c.in-Some.pass.now c.in-Some.ensures

pub put-requires-clause-word : goal.put-requires-clause-word
put-requires-clause-word c =
    let aloft = aloft_is c.args.self.now c.args.number c.in-Some-flying.at c.in-Some.pass.now c.in-Some-flying.book.now c.in-Some-flying.ticket.now
    c.shape-shape.ensures.lawful c.in-Some.ensures c.in-Some-flying.ensures.0 in
    let leads : LeadsTo c.args.self.now c.in-Some.pass.now c.in-Some-flying.ticket.now.row c.args.lane c.args.node c.args.nibble =
    (let raw : LeadsTo c.args.self.now c.in-Some.pass.now c.row-row.result.now c.args.lane c.args.node c.args.nibble = search
    (rules, c.in_ok-leads.ensures.some c.if-not-branch.false) in rw c.row-row.ensures at raw) in
    let at : c.place_head-place.result ≡ place_of c.args.self.now.shape (head c.args.node c.args.nibble c.in-Some-flying.book.now.writer) =
    rw (c.shape-shape.ensures.shape, c.writer.ensures) at c.place_head-place.ensures in
    rw at (head_there c.args.self.now c.args.number c.args.node c.args.nibble c.in-Some-flying.book.now.writer c.in-Some.pass.now
    (spot c.args.lane leads.0) c.shape-shape.ensures.lawful c.in-Some.ensures leads.2
    (low_nibble c.args.self.now c.in-Some.pass.now c.in-Some-flying.ticket.now.row c.args.lane c.args.node c.args.nibble c.shape-shape.ensures.lawful leads)
    aloft.one)

pub put-requires-clause-lawful : goal.put-requires-clause-lawful
put-requires-clause-lawful c =
    let whole : IsWhole (layout c.args.self.now.shape) (draft c.in-Some-flying.ticket.now.row c.in-Some-flying.ticket.now.filled) =
    rw (c.shape-shape.ensures.shape, c.row-row.ensures, c.filled.ensures) at ((c.is_whole.ensures).0 c.if-not-is_whole.false) in
    let leads : LeadsTo c.args.self.now c.in-Some.pass.now c.in-Some-flying.ticket.now.row c.args.lane c.args.node c.args.nibble =
    (let raw : LeadsTo c.args.self.now c.in-Some.pass.now c.row-row.result.now c.args.lane c.args.node c.args.nibble = search
    (rules, c.in_ok-leads.ensures.some c.if-not-branch.false) in rw c.row-row.ensures at raw) in
    let fresh : has c.in-Some-flying.ticket.now.linked c.args.lane ≡ false = ap (λ (xs : List ℕ). has xs c.args.lane) (sym c.linked.ensures)
    ∙ (sym c.is_in.ensures ∙ c.if-is_in.false) in
    let at : c.place_head-place.result ≡ place_of c.args.self.now.shape (head c.args.node c.args.nibble c.in-Some-flying.book.now.writer) =
    rw (c.shape-shape.ensures.shape, c.writer.ensures) at c.place_head-place.ensures in
    let after : c.in_ok-after.after ≡ pass_with_book c.in-Some-flying.at
    (book_with_head c.args.lane c.in-Some-flying.book.now c.in-Some-flying.ticket.now) c.in-Some.pass.now =
    search (rules, c.in_ok-after.ensures, c.in_ok-headed.ensures) in
    let does = head_does c.args.self.now c.args.number c.place_head-place.result c.args.lane c.args.node c.args.nibble c.args.offset
    (c.from.result + 1) c.in-Some-flying.at c.in-Some.pass.now c.in_ok-after.after c.in-Some-flying.book.now c.in-Some-flying.ticket.now c.in-Some.ensures
    c.in-Some-flying.ensures.0 c.in-Some-flying.ensures.1 whole fresh leads at (ap (λ (n : ℕ). n + 1) c.from.ensures) after in
    made_lawful c.args.self.now c.args.number (acts (store_head c.args.lane c.args.node c.args.nibble c.args.offset)) _ c.shape-shape.ensures.lawful does

pub returns : goal.returns
returns c =
    let whole : IsWhole (layout c.args.self.now.shape) (draft c.in-Some-flying.ticket.now.row c.in-Some-flying.ticket.now.filled) =
    rw (c.shape-shape.ensures.shape, c.row-row.ensures, c.filled.ensures) at ((c.is_whole.ensures).0 c.if-not-is_whole.false) in
    let leads : LeadsTo c.args.self.now c.in-Some.pass.now c.in-Some-flying.ticket.now.row c.args.lane c.args.node c.args.nibble =
    (let raw : LeadsTo c.args.self.now c.in-Some.pass.now c.row-row.result.now c.args.lane c.args.node c.args.nibble = search
    (rules, c.in_ok-leads.ensures.some c.if-not-branch.false) in rw c.row-row.ensures at raw) in
    let fresh : has c.in-Some-flying.ticket.now.linked c.args.lane ≡ false = ap (λ (xs : List ℕ). has xs c.args.lane) (sym c.linked.ensures)
    ∙ (sym c.is_in.ensures ∙ c.if-is_in.false) in
    let at : c.place_head-place.result ≡ place_of c.args.self.now.shape (head c.args.node c.args.nibble c.in-Some-flying.book.now.writer) =
    rw (c.shape-shape.ensures.shape, c.writer.ensures) at c.place_head-place.ensures in
    let after : c.in_ok-after.after ≡ pass_with_book c.in-Some-flying.at
    (book_with_head c.args.lane c.in-Some-flying.book.now c.in-Some-flying.ticket.now) c.in-Some.pass.now =
    search (rules, c.in_ok-after.ensures, c.in_ok-headed.ensures) in
    let does = head_does c.args.self.now c.args.number c.place_head-place.result c.args.lane c.args.node c.args.nibble c.args.offset
    (c.from.result + 1) c.in-Some-flying.at c.in-Some.pass.now c.in_ok-after.after c.in-Some-flying.book.now c.in-Some-flying.ticket.now c.in-Some.ensures
    c.in-Some-flying.ensures.0 c.in-Some-flying.ensures.1 whole fresh leads at (ap (λ (n : ℕ). n + 1) c.from.ensures) after in
    made c.args.self.now c.put.new.self c.args.number (acts (store_head c.args.lane c.args.node c.args.nibble c.args.offset)) _ _ c.put.ensures does
