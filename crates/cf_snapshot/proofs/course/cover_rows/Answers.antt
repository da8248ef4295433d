use Rattle.std.proofs.Common.{◌≡◌, ◌∙◌, ◌+◌, ◌-◌, ◌<◌, ℕ, length, fold, replicate, refl, sym, ap, subst, arith}
use Rattle.cf_shape.specs.Lanes.{ShapeValue}
use Rattle.cf_shape.specs.Nodes.{distinct}
use Rattle.cf_snapshot.specs.Hosts.{StandsFor}
use Rattle.cf_snapshot.specs.Snapshots.{SnapValue, IsSnapshot, after}
use Rattle.cf_snapshot.specs.declared.event.SnapEvent.TheVariants.{Cover}
use Rattle.cf_snapshot.proofs.Coursing.{course_more, course_still, events_more, sized_after, stands}
use Rattle.cf_snapshot.proofs.course.cover_rows.Goals as goal

pub returns-in-Err-NodesFull-clause-course : goal.returns-in-Err-NodesFull-clause-course
returns-in-Err-NodesFull-clause-course c =
    let i = c.loop-place.invariant in
    let covered = rw c.in-Err-NodesFull.field-0-is at c.in-Err-NodesFull.ensures.answer in
    let used = rw c.in-Err-NodesFull.field-0-is at c.in-Err-NodesFull.ensures.nodes in
    course_still c.args.rows.now c.loop-place.host c.cover.new.self c.index-rows-place.result c.loop-place.place
    (omega (arith, c.loop-place-test.true, c.requires.end.1)) c.index-rows-place.is i.course i.here c.cover.ensures.stays.0 covered used

pub returns-in-Err-NodesFull-clause-nodes : goal.returns-in-Err-NodesFull-clause-nodes
returns-in-Err-NodesFull-clause-nodes c = λ e.
    let i = c.loop-place.invariant in
    let rows = c.args.rows.now in
    let lacks = rw c.in-Err-NodesFull.field-0-is at c.in-Err-NodesFull.ensures.lacks in
    let there = stands rows c.loop-place.host c.cover.new.self c.index-rows-place.result c.loop-place.place
    (omega (arith, c.loop-place-test.true, c.requires.end.1)) c.index-rows-place.is i.course i.here c.cover.ensures.stays.0 in
    subst (λ (h : ShapeValue). h.nodes < distinct h rows) i.shape (lacks refl rows c.loop-place.place there i.course.needed)

pub loop-place-preserved : goal.loop-place-preserved
loop-place-preserved c =
    let i = c.loop-place.invariant in
    let snap = c.loop-place.snap in
    let n = c.cover.new.self in
    let number = c.args.number in
    let place = c.loop-place.place in
    let before = length c.args.host.now.entries in
    let stays = c.cover.ensures.stays in
    let more = course_more c.args.rows.now c.loop-place.host n c.index-rows-place.result place (omega (arith, c.loop-place-test.true, c.requires.end.1))
    c.index-rows-place.is i.course i.here stays.0 c.in-Ok.field-0 c.in-Ok.ensures.answer c.in-Ok.ensures.nodes c.in-Ok.ensures.enough in
    let event = c.in-Ok.ensures.event snap number i.sized i.stands refl in
    let from = c.loop-place.auto.place in
    let covered = c.covered-place.ensures in
    let next : place - before + 1 ≡ place + 1 - before = omega (arith, from, covered) in
    record {
      course = more.0;
      shape = stays.0 ∙ i.shape;
      free = stays.1;
      sized = subst IsSnapshot (sym c.step.ensures) (sized_after snap (Cover number) i.sized);
      stands = subst (λ (s : SnapValue). StandsFor s number n) (sym c.step.ensures) event.1;
      here = more.1;
      events = c.step.ensures ∙ events_more c.args.snap.now snap (Cover number) (place - before) i.events
          ∙ ap (λ (k : ℕ). fold after c.args.snap.now (replicate k (Cover number))) next;
    }
