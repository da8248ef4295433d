use Rattle.std.proofs.Common.{◌≡◌, ◌-◌, ◌+◌, ◌==◌, ◌<◌, ◌≤◌, cond, suc, ℕ, length, ap, sym, ◌∙◌, true, arith, rules, refl}
use Rattle.cf_law.specs.Events.WorldEvent.{acts}
use Rattle.cf_law.specs.Events.{entries_spelled, plain_at}
use Rattle.cf_law.specs.Shapes.{layout}
use Rattle.cf_law.specs.Steps.{pass_that_sees}
use Rattle.cf_row.specs.declared.row.Entry.{Entry}
use Rattle.cf_law.specs.Steps.Act.{advance}
use Rattle.cf_shape.specs.Uses.{ticket_words}
use Rattle.cf_core.proofs.Making.{made, made_lawful, pass_there}
use Rattle.cf_core.proofs.Tables.{advance_does, advance_only, look_readable, table_long}
use Rattle.cf_core.proofs.world.World.advance.Goals as goal

pub returns-then-not-found_one : goal.returns-then-not-found_one
returns-then-not-found_one c =
    let words = rw c.shape-shape.ensures.shape at c.ticket_words.ensures.words in
    let last : suc (c.ticket_words.result - 1) ≡ ticket_words c.args.self.now.shape = omega (arith, words) in (
      refl,
      λ y does. (let o = advance_only c.args.self.now c.args.number c.args.tail c.in-Some.pass.now y c.in-Some.ensures does in
          let yes : c.found_one.result ≡ true = (c.found_one.ensures).1 (o.2 (c.ticket_words.result - 1) last ∙ sym c.ticket_place-place.ensures.at, o.3) in
          absurd (cc (yes, c.if-not-found_one.true))),
    )

pub entries-requires-clause-readable : goal.entries-requires-clause-readable
entries-requires-clause-readable c =
    let words = rw c.shape-shape.ensures.shape at c.ticket_words.ensures.words in
    let last : suc (c.ticket_words.result - 1) ≡ ticket_words c.args.self.now.shape = omega (arith, words) in
    let found = (c.found_one.ensures).0 c.if-not-found_one.false in
    let seen : c.args.tail ≤ length c.in-Some.pass.now.seen = omega (arith, c.if-tail-covered.false, c.covered.ensures) in
    let low : c.args.tail < c.args.self.now.shape.capacity = rw c.shape-shape.ensures.shape at (rw c.capacity.ensures.capacity at c.if-tail-capacity.false) in
    look_readable c.args.self.now c.args.number c.args.tail c.ticket_place-place.result
    (c.ticket_words.result - 1) c.in-Some.pass.now c.read_tail.ensures.lawful c.in-Some.ensures seen low last c.ticket_place-place.ensures.at found.0 found.1

pub advanced-requires : goal.advanced-requires
advanced-requires c =
    let entries : c.in_ok-entries.entries.items ≡ entries_spelled (layout c.args.self.now.shape) c.args.self.now.words (c.args.tail + 1) =
    search (rules, c.in_ok-entries.ensures) in
    let long = table_long (λ o. (layout c.args.self.now.shape).reads (plain_at (layout c.args.self.now.shape) c.args.self.now.words o)) (c.args.tail + 1) in
    omega (arith, ap (length {A = Entry}) entries, long)

pub put-requires-clause-pass : goal.put-requires-clause-pass
put-requires-clause-pass c = pass_there c.args.self.now c.args.number c.in-Some.pass.now c.in-Some.ensures

pub put-requires-clause-lawful : goal.put-requires-clause-lawful
put-requires-clause-lawful c =
    let words = rw c.shape-shape.ensures.shape at c.ticket_words.ensures.words in
    let last : suc (c.ticket_words.result - 1) ≡ ticket_words c.args.self.now.shape = omega (arith, words) in
    let found = (c.found_one.ensures).0 c.if-not-found_one.false in
    let seen : c.args.tail ≤ length c.in-Some.pass.now.seen = omega (arith, c.if-tail-covered.false, c.covered.ensures) in
    let low : c.args.tail < c.args.self.now.shape.capacity = rw c.shape-shape.ensures.shape at (rw c.capacity.ensures.capacity at c.if-tail-capacity.false) in
    let entries : c.in_ok-entries.entries.items ≡ entries_spelled (layout c.args.self.now.shape) c.args.self.now.words (c.args.tail + 1) =
    search (rules, c.in_ok-entries.ensures) in
    let after : c.in_ok-after.after ≡ pass_that_sees (c.args.tail + 1) c.in_ok-entries.entries.items c.in-Some.pass.now =
    search (rules, c.in_ok-after.ensures) in
    let left : c.advanced-left.result ≡ cond (c.read_tail.result == c.args.tail) (c.args.tail + 1) c.read_tail.result = c.advanced-left.ensures
    ∙ ap (λ (n : ℕ). cond (c.read_tail.result == n) (n + 1) c.read_tail.result) c.from.ensures in
    let does = advance_does c.args.self.now c.args.number c.args.tail c.ticket_place-place.result
    (c.ticket_words.result - 1) c.read_tail.result c.advanced-left.result c.in-Some.pass.now c.in_ok-after.after c.in_ok-entries.entries.items
    c.read_tail.ensures.lawful c.in-Some.ensures seen low last c.ticket_place-place.ensures.at found.0 found.1 c.read_tail.ensures.tail left entries
    after in
    made_lawful c.args.self.now c.args.number (acts (advance c.args.tail)) _ c.read_tail.ensures.lawful does

pub returns : goal.returns
returns c =
    let words = rw c.shape-shape.ensures.shape at c.ticket_words.ensures.words in
    let last : suc (c.ticket_words.result - 1) ≡ ticket_words c.args.self.now.shape = omega (arith, words) in
    let found = (c.found_one.ensures).0 c.if-not-found_one.false in
    let seen : c.args.tail ≤ length c.in-Some.pass.now.seen = omega (arith, c.if-tail-covered.false, c.covered.ensures) in
    let low : c.args.tail < c.args.self.now.shape.capacity = rw c.shape-shape.ensures.shape at (rw c.capacity.ensures.capacity at c.if-tail-capacity.false) in
    let entries : c.in_ok-entries.entries.items ≡ entries_spelled (layout c.args.self.now.shape) c.args.self.now.words (c.args.tail + 1) =
    search (rules, c.in_ok-entries.ensures) in
    let after : c.in_ok-after.after ≡ pass_that_sees (c.args.tail + 1) c.in_ok-entries.entries.items c.in-Some.pass.now =
    search (rules, c.in_ok-after.ensures) in
    let left : c.advanced-left.result ≡ cond (c.read_tail.result == c.args.tail) (c.args.tail + 1) c.read_tail.result = c.advanced-left.ensures
    ∙ ap (λ (n : ℕ). cond (c.read_tail.result == n) (n + 1) c.read_tail.result) c.from.ensures in
    let does = advance_does c.args.self.now c.args.number c.args.tail c.ticket_place-place.result
    (c.ticket_words.result - 1) c.read_tail.result c.advanced-left.result c.in-Some.pass.now c.in_ok-after.after c.in_ok-entries.entries.items
    c.read_tail.ensures.lawful c.in-Some.ensures seen low last c.ticket_place-place.ensures.at found.0 found.1 c.read_tail.ensures.tail left entries
    after in
    made c.args.self.now c.put.new.self c.args.number (acts (advance c.args.tail)) _ _ c.put.ensures does
