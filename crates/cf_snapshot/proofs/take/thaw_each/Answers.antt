use Rattle.std.proofs.Common.{◌≡◌, ◌∙◌, ◌<◌, false, length, get_or, sym, ap, arith}
use Rattle.cf_snapshot.specs.Courses.{CourseValue}
use Rattle.cf_snapshot.specs.declared.event.SnapEvent.TheVariants.{Thaw}
use Rattle.cf_snapshot.proofs.Driving.{as_many, stands_at, in_marked, tasks_set, thawed_state}
use Rattle.cf_snapshot.proofs.Ending.{map_step, thawing_more}
use Rattle.cf_snapshot.proofs.take.thaw_each.Goals as goal

pub loop-host-preserved : goal.loop-host-preserved
loop-host-preserved c =
    let i = c.loop-host.invariant in
    let snap = c.loop-host.snap in
    let courses = c.loop-host.courses in
    let h = c.loop-host.host in
    let old : CourseValue = get_or courses h c.index-courses-host.result in
    let is : old ≡ get_or courses h old = ap (λ (d : CourseValue). get_or courses h d) c.index-courses-host.is in
    let new = c.thaw.new.self in
    let after_ = c.thaw.new.snap in
    let ok = c.thaw.ensures in
    let lt : h < length courses = omega (arith, c.loop-host-test.true, c.loop-host.auto.courses) in
    let stand = stands_at snap courses h old i.hosts lt is in
    let first = c.args.snap.now in
    let many = as_many first c.args.courses.now c.requires.hosts in
    let frozen = sym stand.frozen ∙ i.thawing.frozen h (omega arith) (omega (arith, c.loop-host-test.true, many)) in
    let now = thawed_state snap after_ courses h old new i.hosts lt is frozen i.thawing.released ok.event in
    let long = as_many snap courses i.hosts in
    let wide = i.hosts.sized.frozen in
    record {
      tasks = tasks_set courses h old lt is new (ap (λ (x : CourseValue). x.task) ok.course) ∙ i.tasks;
      hosts = in_marked snap after_ courses h old new i.hosts lt is false ok.course now;
      thawing = thawing_more first snap after_ h i.thawing (omega (arith, lt, long, wide)) now;
      state = map_step (λ x. Thaw x) first snap after_ h i.state ok.event;
    }
