use Rattle.std.proofs.Common.{◌≡◌, ◌∙◌, ℕ, ◌<◌, ◌≤◌, List, Err, inr, length, refl, ap, subst, sym, arith}
use Rattle.std.specs.Prelude.{◌==◌}
use Rattle.std.proofs.KnownBytes.{Keeps-refl}
use Rattle.std.proofs.lemmas.Bool.{eqb-true}
use Rattle.cf_row.specs.Row.{RowValue}
use Rattle.cf_intake.specs.Reads.{MovesPiece, view_by}
use Rattle.cf_window.specs.Windows.{rows_in_all}
use Rattle.cf_follow.specs.Followed.IsAhead.{moved}
use Rattle.cf_follow.specs.Heard.{Hears}
use Rattle.cf_follow.proofs.Going.{at_end, broken_now, heard, hears_never, more_none, more_some, none_of, not_empty, out_now, sound_kind, unread_now}
use Rattle.cf_follow.proofs.Leaving.{as_many}
use Rattle.cf_follow.specs.declared.ending.Ending.TheVariants.{Stopped}
use Rattle.cf_intake.specs.declared.refusal.Stop.TheVariants.{ReadFault}
use Rattle.cf_rounds.specs.Streams.{Stream, after_reads}
use Rattle.cf_follow.specs.LeftStreams.{rows_left, stream_left}
use Rattle.cf_follow.proofs.watch.step.Goals as goal

pub returns-in-Ok-None-clause-goes : goal.returns-in-Ok-None-clause-goes
returns-in-Ok-None-clause-goes g c = λ schema begun before held on.
    let found = rw c.in-Ok-None.is at c.next.ensures.read in
    let next = rw c.in-Ok-None.field-0-is at found in
    let sound = sound_kind schema c.args.reads.now.reads.schema on.bytes on.kind
    (c.fault.ensures.none (none_of c.fault.result c.in_default.not-Some) on.bytes (rows_in_all on.reads) on.have) in
    at_end schema begun c.args.reads.now.left.kept.items c.args.rounds.now c.args.reads.now.reads c.next.new.self.reads before
    (view_by (g.F.Shelf.rest c.args.shelf.now) (g.F.Shelf.moved c.args.shelf.now))
    (view_by (g.F.Shelf.rest c.next.new.shelf) (g.F.Shelf.moved c.next.new.shelf)) held (g.K.Sink.held c.args.sink.now) on sound next

pub returns-in-Ok-Some-clause-goes : goal.returns-in-Ok-Some-clause-goes
returns-in-Ok-Some-clause-goes g c = λ schema begun before held on.
    let found = rw c.in-Ok-Some.is at c.next.ensures.read in
    let moves = rw c.in-Ok-Some.field-0-is at found in
    let given : List RowValue = moves.0 in
    let many = as_many c.args.reads.now.left.kept.items given c.in-Ok-Some.rows.items moves.1 in
    let none : length given ≡ 0 = sym many ∙ (sym c.in-Ok-Some.rows.ok.0 ∙ eqb-true c.in-Ok-Some.rows.len 0 (sym c.if-is_empty.ensures)) in
    let few : length given ≤ 4096 = omega (arith, none) in
    let sound = sound_kind schema c.args.reads.now.reads.schema on.bytes on.kind
    (c.fault.ensures.none (none_of c.fault.result c.in_default.not-Some) on.bytes (rows_in_all on.reads) on.have) in
    more_none schema begun c.args.reads.now.left.kept.items c.args.rounds.now c.args.reads.now.reads c.next.new.self.reads before
    (view_by (g.F.Shelf.rest c.args.shelf.now) (g.F.Shelf.moved c.args.shelf.now))
    (view_by (g.F.Shelf.rest c.next.new.shelf) (g.F.Shelf.moved c.next.new.shelf)) held
    (g.K.Sink.held c.args.sink.now) given on sound few moves.2 none

pub returns-in-Ok-clause-goes : goal.returns-in-Ok-clause-goes
returns-in-Ok-clause-goes g c = λ schema begun before held on.
    let found = rw c.in-Ok-Some.is at c.next.ensures.read in
    let moves = rw c.in-Ok-Some.field-0-is at found in
    let given : List RowValue = moves.0 in
    let many = as_many c.args.reads.now.left.kept.items given c.in-Ok-Some.rows.items moves.1 in
    let some : 0 < length given = not_empty given (ap (λ (n : ℕ). n == 0) (sym many ∙ sym c.in-Ok-Some.rows.ok.0) ∙ sym c.if-is_empty.ensures) in
    let says = rw moves.1 at (rw c.deref.ensures.value at c.in-Ok.ensures.heard) in
    let few_found = rw c.in-Ok-Some.is at c.next.ensures.few in
    let given_few = rw c.in-Ok-Some.field-0-is at few_found on.bytes (rows_in_all on.reads) on.have in
    let size = on.size in
    let few : length given ≤ 4096 = omega (arith, given_few, many, size) in
    let sound = sound_kind schema c.args.reads.now.reads.schema on.bytes on.kind
    (c.fault.ensures.none (none_of c.fault.result c.in_default.not-Some) on.bytes (rows_in_all on.reads) on.have) in
    more_some schema begun c.args.reads.now.left.kept.items c.args.rounds.now c.args.reads.now.reads c.next.new.self.reads before
    (view_by (g.F.Shelf.rest c.args.shelf.now) (g.F.Shelf.moved c.args.shelf.now))
    (view_by (g.F.Shelf.rest c.next.new.shelf) (g.F.Shelf.moved c.next.new.shelf)) held
    (g.K.Sink.held c.args.sink.now) given on sound few moves.2 c.hear.new.rounds (g.K.Sink.held c.hear.new.sink) c.in-Ok.field-0 c.hear.ensures.set some says
    c.in-Ok.ensures.open c.in-Ok.ensures.within

pub returns-in-Ok-Some-2-clause-goes : goal.returns-in-Ok-Some-2-clause-goes
returns-in-Ok-Some-2-clause-goes g c = λ schema begun before held on truncated.
    let found = rw c.in-Ok-Some.is at c.next.ensures.read in
    let moves = rw c.in-Ok-Some.field-0-is at found in
    let given : List RowValue = moves.0 in
    let many = as_many c.args.reads.now.left.kept.items given c.in-Ok-Some.rows.items moves.1 in
    let some : 0 < length given = not_empty given (ap (λ (n : ℕ). n == 0) (sym many ∙ sym c.in-Ok-Some.rows.ok.0) ∙ sym c.if-is_empty.ensures) in
    let hears = subst (λ (rs : List RowValue). Hears c.args.rounds.now rs (g.K.Sink.held c.args.sink.now) c.hear.new.rounds (g.K.Sink.held c.hear.new.sink)
    (Err c.in-Err.ending)) (c.deref.ensures.value ∙ moves.1) c.in-Err.ensures.heard in
    let few_found = rw c.in-Ok-Some.is at c.next.ensures.few in
    let given_few = rw c.in-Ok-Some.field-0-is at few_found on.bytes (rows_in_all on.reads) on.have in
    let size = on.size in
    let few : length given ≤ 4096 = omega (arith, given_few, many, size) in
    let sound = sound_kind schema c.args.reads.now.reads.schema on.bytes on.kind
    (c.fault.ensures.none (none_of c.fault.result c.in_default.not-Some) on.bytes (rows_in_all on.reads) on.have) in
    heard schema begun c.args.reads.now.left.kept.items c.args.rounds.now c.args.reads.now.reads c.next.new.self.reads before
    (view_by (g.F.Shelf.rest c.args.shelf.now) (g.F.Shelf.moved c.args.shelf.now))
    (view_by (g.F.Shelf.rest c.next.new.shelf) (g.F.Shelf.moved c.next.new.shelf)) held
    (g.K.Sink.held c.args.sink.now) given on sound few moves.2 c.hear.new.rounds (g.K.Sink.held c.hear.new.sink) truncated c.in-Err.ending some hears

pub returns-in-Err-Memory-clause-goes : goal.returns-in-Err-Memory-clause-goes
returns-in-Err-Memory-clause-goes g c = λ schema begun before held on truncated.
    let moves = c.next.ensures.stopped (c.in-Err-Memory.is ∙ ap Err c.in-Err-Memory.field-0-is) on.bytes (rows_in_all on.reads) on.have in
    let view = view_by (g.F.Shelf.rest c.args.shelf.now) (g.F.Shelf.moved c.args.shelf.now) in
    let after = view_by (g.F.Shelf.rest c.next.new.shelf) (g.F.Shelf.moved c.next.new.shelf) in
    let piece : MovesPiece 65536 view after moves.0 = subst (λ (most : ℕ). MovesPiece most view after moves.0) on.size moves.1 in
    let sound = sound_kind schema c.args.reads.now.reads.schema on.bytes on.kind
    (c.fault.ensures.none (none_of c.fault.result c.in_default.not-Some) on.bytes (rows_in_all on.reads) on.have) in
    out_now schema begun c.args.reads.now.left.kept.items c.args.rounds.now c.args.reads.now.reads before
    (view_by (g.F.Shelf.rest c.args.shelf.now) (g.F.Shelf.moved c.args.shelf.now)) held
    (g.K.Sink.held c.args.sink.now) on truncated (view_by (g.F.Shelf.rest c.next.new.shelf) (g.F.Shelf.moved c.next.new.shelf))
    (g.K.Sink.held c.args.sink.now) (moved moves.0 sound piece) (Keeps-refl (g.K.Sink.held c.args.sink.now))

pub returns-clause-goes : goal.returns-clause-goes
returns-clause-goes g c = λ schema begun before held on truncated.
    let sound = sound_kind schema c.args.reads.now.reads.schema on.bytes on.kind
    (c.fault.ensures.none (none_of c.fault.result c.in_default.not-Some) on.bytes (rows_in_all on.reads) on.have) in
    unread_now schema begun c.args.reads.now.left.kept.items c.args.rounds.now c.args.reads.now.reads before
    (view_by (g.F.Shelf.rest c.args.shelf.now) (g.F.Shelf.moved c.args.shelf.now)) held
    (g.K.Sink.held c.args.sink.now) on truncated (view_by (g.F.Shelf.rest c.next.new.shelf) (g.F.Shelf.moved c.next.new.shelf))
    (g.K.Sink.held c.stop.new.sink) c.stop.result sound
    (c.next.ensures.failed (c.in-Err-ReadFault.is ∙ ap Err c.in-Err-ReadFault.field-0-is)) c.stop.ensures.stopped

pub returns-in-Some-clause-goes : goal.returns-in-Some-clause-goes
returns-in-Some-clause-goes g c = λ schema begun before held on truncated.
    let bad = c.in-Some.ensures.found on.bytes (rows_in_all on.reads) on.have in
    let view = view_by (g.F.Shelf.rest c.args.shelf.now) (g.F.Shelf.moved c.args.shelf.now) in
    broken_now schema begun c.args.reads.now.left.kept.items c.args.rounds.now c.args.reads.now.reads before view held (g.K.Sink.held c.args.sink.now) on truncated view
    (g.K.Sink.held c.refuse.new.sink) c.in-Some.why c.refuse.result bad.0 bad.1 bad.2 (inr (refl, bad.4, λ more. bad.3 truncated more))
    c.refuse.ensures.refused

pub returns-in-Ok-Some-2-clause-read_cause : goal.returns-in-Ok-Some-2-clause-read_cause
returns-in-Ok-Some-2-clause-read_cause g c = λ is.
    let going = c.requires.going in
    let on = going.4 in
    let left : List RowValue = rows_left c.args.reads.now.left.kept.items (rows_in_all on.reads) in
    let stream : Stream = stream_left c.args.reads.now.left.kept.items (after_reads (going.0).terms on.reads) in
    let hears = c.in-Err.ensures.heard left stream going.2 (record { at = on.at; written = on.written }) in
    let same : c.in-Err.ending ≡ Stopped ReadFault = cc is in
    absurd (hears_never c.args.rounds.now c.deref.result.now left stream going.2
    (g.K.Sink.held c.hear.new.sink) c.in-Err.ending hears same)
