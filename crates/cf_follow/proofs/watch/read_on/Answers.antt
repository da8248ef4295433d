use Rattle.std.proofs.Common.{◌∙◌, ◌+◌, ◌≤◌, Bool, Ok, length, refl, subst, arith}
use Rattle.cf_intake.specs.Reads.{view_by}
use Rattle.cf_follow.specs.Followed.{ReadComesTo}
use Rattle.cf_follow.proofs.Going.{begins, going_back, going_still, last_back}
use Rattle.cf_follow.proofs.watch.read_on.Goals as goal

pub loop-made-init : goal.loop-made-init
loop-made-init g c = record {
  going = λ begun ready. begins begun c.args.rounds.now c.args.reads.now.left c.args.reads.now.reads
      (view_by (g.F.Shelf.rest c.args.shelf.now) (g.F.Shelf.moved c.args.shelf.now)) (g.K.Sink.held c.args.sink.now) ready;
  fit = c.requires.fit;
  left = refl;
  files = refl;
  shelf_later = omega arith;
  sink_later = omega arith;
}

pub loop-made-preserved : goal.loop-made-preserved
loop-made-preserved g c =
    let v = c.loop-made.invariant in
    let before = view_by (g.F.Shelf.rest c.args.shelf.now) (g.F.Shelf.moved c.args.shelf.now) in
    let at = view_by (g.F.Shelf.rest c.loop-made.shelf) (g.F.Shelf.moved c.loop-made.shelf) in
    let now = view_by (g.F.Shelf.rest c.step.new.shelf) (g.F.Shelf.moved c.step.new.shelf) in
    let held = g.K.Sink.held c.args.sink.now in
    let files = v.files in
    let shelf_later = v.shelf_later in
    let sink_later = v.sink_later in
    let up = c.step.ensures.shelf_later in
    let on = c.step.ensures.sink_later in record {
      going = λ begun ready.
          (let going = going_still c.args.reads.now.reads.schema begun c.args.reads.now.left c.loop-made.reads.left c.loop-made.rounds c.prepare.new.self
          c.loop-made.reads.reads before at held (g.K.Sink.held c.loop-made.sink) c.loop-made._made v.left c.prepare.ensures (v.going begun ready) in
          let next = subst
          (λ (b : Bool). ReadComesTo c.args.reads.now.reads.schema begun c.loop-made.reads.left.kept.items c.step.new.rounds c.step.new.reads.reads
          (length (going.0).reads) before now held (g.K.Sink.held c.step.new.sink) (Ok b))
          c.in-Ok-true.field-0-test (c.in-Ok-true.ensures.goes c.args.reads.now.reads.schema begun before held going.0) in
          let made = going.1 in
          let more = next.1 in
          going_back c.args.reads.now.reads.schema begun c.args.reads.now.left c.loop-made.reads.left c.step.new.rounds c.step.new.reads.reads before now held
          (g.K.Sink.held c.step.new.sink) (c.loop-made._made + 1) v.left (next.0, omega (arith, made, more)));
      fit = c.in-Ok-true.ensures.fit;
      left = c.step.ensures.left ∙ v.left;
      files = c.step.ensures.files ∙ v.files;
      shelf_later = omega (arith, shelf_later, up);
      sink_later = omega (arith, sink_later, on);
    }

pub step-requires-clause-going : goal.step-requires-clause-going
step-requires-clause-going g c =
    let v = c.loop-made.invariant in
    let before = view_by (g.F.Shelf.rest c.args.shelf.now) (g.F.Shelf.moved c.args.shelf.now) in
    let at = view_by (g.F.Shelf.rest c.loop-made.shelf) (g.F.Shelf.moved c.loop-made.shelf) in
    let held = g.K.Sink.held c.args.sink.now in
    let begun = c.requires.ready.0 in
    let ready = c.requires.ready.1 in
    let going = going_still c.args.reads.now.reads.schema begun c.args.reads.now.left c.loop-made.reads.left c.loop-made.rounds c.prepare.new.self
    c.loop-made.reads.reads before at held (g.K.Sink.held c.loop-made.sink) c.loop-made._made v.left c.prepare.ensures (v.going begun ready) in
    (begun, before, held, c.args.reads.now.reads.schema, going.0)

pub returns-in-Ok-false-clause-come : goal.returns-in-Ok-false-clause-come
returns-in-Ok-false-clause-come g c = λ begun ready.
    (let v = c.loop-made.invariant in
    let before = view_by (g.F.Shelf.rest c.args.shelf.now) (g.F.Shelf.moved c.args.shelf.now) in
    let at = view_by (g.F.Shelf.rest c.loop-made.shelf) (g.F.Shelf.moved c.loop-made.shelf) in
    let now = view_by (g.F.Shelf.rest c.step.new.shelf) (g.F.Shelf.moved c.step.new.shelf) in
    let held = g.K.Sink.held c.args.sink.now in
    let going = going_still c.args.reads.now.reads.schema begun c.args.reads.now.left c.loop-made.reads.left c.loop-made.rounds c.prepare.new.self
    c.loop-made.reads.reads before at held (g.K.Sink.held c.loop-made.sink) c.loop-made._made v.left c.prepare.ensures (v.going begun ready) in
    last_back c.args.reads.now.reads.schema begun c.args.reads.now.left c.loop-made.reads.left c.step.new.rounds c.step.new.reads.reads before now held
    (g.K.Sink.held c.step.new.sink) v.left (subst
    (λ (b : Bool). ReadComesTo c.args.reads.now.reads.schema begun c.loop-made.reads.left.kept.items c.step.new.rounds c.step.new.reads.reads
    (length (going.0).reads) before now held (g.K.Sink.held c.step.new.sink) (Ok b))
    c.in-Ok-false.field-0-test (c.in-Ok-false.ensures.goes c.args.reads.now.reads.schema begun before held going.0)))

pub returns-in-Err-clause-come : goal.returns-in-Err-clause-come
returns-in-Err-clause-come g c = λ begun ready.
    (let v = c.loop-made.invariant in
    let before = view_by (g.F.Shelf.rest c.args.shelf.now) (g.F.Shelf.moved c.args.shelf.now) in
    let at = view_by (g.F.Shelf.rest c.loop-made.shelf) (g.F.Shelf.moved c.loop-made.shelf) in
    let held = g.K.Sink.held c.args.sink.now in
    let going = going_still c.args.reads.now.reads.schema begun c.args.reads.now.left c.loop-made.reads.left c.loop-made.rounds c.prepare.new.self
    c.loop-made.reads.reads before at held (g.K.Sink.held c.loop-made.sink) c.loop-made._made v.left c.prepare.ensures (v.going begun ready) in
    c.in-Err.ensures.goes c.args.reads.now.reads.schema begun before held going.0)

pub returns-clause-come : goal.returns-clause-come
returns-clause-come g c = λ begun ready.
    (let v = c.loop-made.invariant in
    let going = v.going begun ready in
    let made = going.1 in
    let most : 18446744073709551615 ≤ length (going.0).reads = omega (arith, made) in
    (going.0, most))
