use Rattle.cf_intake.specs.Reads.{view_by}
use Rattle.cf_follow.proofs.Complete.{complete_told}
use Rattle.cf_follow.proofs.Going.{ended_out, last_still}
use Rattle.cf_follow.proofs.Leaving.{fit_ready}
use Rattle.cf_follow.proofs.watch.follow.Goals as goal

pub read_on-found-requires-clause-fit : goal.read_on-found-requires-clause-fit
read_on-found-requires-clause-fit g c =
    fit_ready c.requires.ready.0 c.args.watch.rounds c.args.watch.left c.args.watch.reads c.requires.ready.1 c.requires.packets

pub returns-in-Ok-true-clause-followed : goal.returns-in-Ok-true-clause-followed
returns-in-Ok-true-clause-followed g c = λ begun ready.
    let before = view_by (g.F.Shelf.rest c.args.shelf.now) (g.F.Shelf.moved c.args.shelf.now) in
    let now = view_by (g.F.Shelf.rest c.read_on-found.new.shelf) (g.F.Shelf.moved c.read_on-found.new.shelf) in
    let held = g.K.Sink.held c.args.sink.now in
    let found = rw c.in-Ok-true.is at c.read_on-found.ensures.come in
    let come = rw c.in-Ok-true.field-0-test at found in
    let last = last_still c.args.watch.reads.schema begun c.args.watch.left.kept.items c.read_on-found.new.rounds c.release.new.self
    c.read_on-found.new.reads.reads before now held
    (g.K.Sink.held c.read_on-found.new.sink) c.release.ensures (come begun ready) in
    (c.end.ensures.ended c.args.watch.reads.schema begun c.args.watch.left.kept.items before now held last).0

pub returns-in-Ok-true-clause-complete : goal.returns-in-Ok-true-clause-complete
returns-in-Ok-true-clause-complete g c = λ begun ready.
    let before = view_by (g.F.Shelf.rest c.args.shelf.now) (g.F.Shelf.moved c.args.shelf.now) in
    let now = view_by (g.F.Shelf.rest c.read_on-found.new.shelf) (g.F.Shelf.moved c.read_on-found.new.shelf) in
    let held = g.K.Sink.held c.args.sink.now in
    let found = rw c.in-Ok-true.is at c.read_on-found.ensures.come in
    let come = rw c.in-Ok-true.field-0-test at found in
    let last = last_still c.args.watch.reads.schema begun c.args.watch.left.kept.items c.read_on-found.new.rounds c.release.new.self
    c.read_on-found.new.reads.reads before now held
    (g.K.Sink.held c.read_on-found.new.sink) c.release.ensures (come begun ready) in
    complete_told c.args.watch.reads.schema begun c.args.watch.truncated before now held (g.K.Sink.held c.end.new.sink) c.end.result
    (c.end.ensures.ended c.args.watch.reads.schema begun c.args.watch.left.kept.items before now held last).0

pub returns-in-Ok-true-clause-read_fault : goal.returns-in-Ok-true-clause-read_fault
returns-in-Ok-true-clause-read_fault g c = λ is.
    let begun = c.requires.ready.0 in
    let ready = c.requires.ready.1 in
    let before = view_by (g.F.Shelf.rest c.args.shelf.now) (g.F.Shelf.moved c.args.shelf.now) in
    let now = view_by (g.F.Shelf.rest c.read_on-found.new.shelf) (g.F.Shelf.moved c.read_on-found.new.shelf) in
    let held = g.K.Sink.held c.args.sink.now in
    let found = rw c.in-Ok-true.is at c.read_on-found.ensures.come in
    let come = rw c.in-Ok-true.field-0-test at found in
    let last = last_still c.args.watch.reads.schema begun c.args.watch.left.kept.items c.read_on-found.new.rounds c.release.new.self
    c.read_on-found.new.reads.reads before now held
    (g.K.Sink.held c.read_on-found.new.sink) c.release.ensures (come begun ready) in
    absurd ((c.end.ensures.ended c.args.watch.reads.schema begun c.args.watch.left.kept.items before now held last).1 is)

pub returns-in-Ok-false-clause-followed : goal.returns-in-Ok-false-clause-followed
returns-in-Ok-false-clause-followed g c = λ begun ready.
    let before = view_by (g.F.Shelf.rest c.args.shelf.now) (g.F.Shelf.moved c.args.shelf.now) in
    let now = view_by (g.F.Shelf.rest c.read_on-found.new.shelf) (g.F.Shelf.moved c.read_on-found.new.shelf) in
    let found = rw c.in-Ok-false.is at c.read_on-found.ensures.come in
    let come = rw c.in-Ok-false.field-0-test at found in
    ended_out c.args.watch.reads.schema begun c.args.watch.left.kept.items c.read_on-found.new.rounds c.read_on-found.new.reads.reads before now
    (g.K.Sink.held c.args.sink.now) (g.K.Sink.held c.read_on-found.new.sink) c.args.watch.truncated (come begun ready).0

pub returns-in-Err-clause-followed : goal.returns-in-Err-clause-followed
returns-in-Err-clause-followed g c = λ begun ready.
    let come = rw c.in-Err.is at c.read_on-found.ensures.come in
    come begun ready c.args.watch.truncated

pub returns-in-Err-clause-complete : goal.returns-in-Err-clause-complete
returns-in-Err-clause-complete g c = λ begun ready.
    let before = view_by (g.F.Shelf.rest c.args.shelf.now) (g.F.Shelf.moved c.args.shelf.now) in
    let now = view_by (g.F.Shelf.rest c.read_on-found.new.shelf) (g.F.Shelf.moved c.read_on-found.new.shelf) in
    let come = rw c.in-Err.is at c.read_on-found.ensures.come in
    complete_told c.args.watch.reads.schema begun c.args.watch.truncated before now (g.K.Sink.held c.args.sink.now)
    (g.K.Sink.held c.read_on-found.new.sink) c.in-Err.ending (come begun ready c.args.watch.truncated)
