use Rattle.std.proofs.Common.{arith}
use Rattle.cf_intake.proofs.Serial.{ended_so, moved_so, reading_now}
use Rattle.cf_intake.proofs.series.Series.read.Goals as goal

pub returns-in-Some-clause-read : goal.returns-in-Some-clause-read
returns-in-Some-clause-read g c = λ rows at.
    let found = rw c.in-Some.is at c.in_ok-rows.ensures.read in
    let first = c.min-first.ensures in
    let from = c.from.ensures in
    let count = at.count in
    let len = c.len.ensures in
    let up = c.saturating_add-self.ensures in
    moved_so c.args.self.now c.args.reads (g.F.Shelf.files c.args.shelf.now) (g.F.Shelf.rest c.args.shelf.now) rows at _ c.saturating_add-self.result
    c.next_from.new.self (g.F.Shelf.rest c.next_from.new.shelf) (g.F.Shelf.moved c.args.shelf.now) (g.F.Shelf.moved c.next_from.new.shelf)
    c.in-Some.rows.items (omega (arith, first, from, count)) found (omega (arith, up, len))

pub returns-in-None-clause-read : goal.returns-in-None-clause-read
returns-in-None-clause-read g c = λ rows at.
    let found = rw c.in-None.is at c.in_ok-rows.ensures.read in
    let ended = ended_so c.args.self.now c.args.reads (g.F.Shelf.files c.args.shelf.now) (g.F.Shelf.rest c.args.shelf.now) rows at
    c.next_from.new.self (g.F.Shelf.rest c.next_from.new.shelf) (g.F.Shelf.moved c.args.shelf.now) (g.F.Shelf.moved c.next_from.new.shelf) found in
    c.close.ensures.read (g.F.Shelf.files c.args.shelf.now) (g.F.Shelf.rest c.next_from.new.shelf) rows ended.0 ended.1

pub returns-in-None-clause-cause : goal.returns-in-None-clause-cause
returns-in-None-clause-cause g c =
    let found = rw c.in-None.is at c.in_ok-rows.ensures.read in
    let begun = c.requires.begun in
    let ended = ended_so c.args.self.now c.args.reads (g.F.Shelf.files c.args.shelf.now) (g.F.Shelf.rest c.args.shelf.now) begun.0 begun.1
    c.next_from.new.self (g.F.Shelf.rest c.next_from.new.shelf) (g.F.Shelf.moved c.args.shelf.now) (g.F.Shelf.moved c.next_from.new.shelf) found in
    let there = reading_now c.args.self.now c.next_from.new.self (g.F.Shelf.files c.args.shelf.now) (g.F.Shelf.rest c.next_from.new.shelf) begun.0 ended.0 in
    record { later = c.in_ok-rows.ensures.cause.later; failed = λ is. absurd (c.close.ensures.unfailed there.0 there.1 there.2 is) }
