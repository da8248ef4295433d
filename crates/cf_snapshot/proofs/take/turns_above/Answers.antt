use Rattle.std.proofs.Common.{◌∙◌, ◌+◌, ◌≤◌, ◌<◌, length, get_or, sym, ap, arith}
use Rattle.cf_snapshot.specs.Courses.{CourseValue, tasks_of, counts_of}
use Rattle.cf_snapshot.proofs.Driving.{passing_free, passing_low, passing_more, stand_old, all_old, there_old, kept, turned_in}
use Rattle.cf_snapshot.proofs.take.turns_above.Goals as goal

pub take_turn-requires-clause-free : goal.take_turn-requires-clause-free
take_turn-requires-clause-free c =
    let first = c.args.courses.now in
    let few = c.requires.few in
    let snap = c.loop-above.snap in
    let courses = c.loop-above.courses in
    let h = c.loop-above.above in
    let i = c.loop-above.invariant in
    let r = c.index-courses-above.result in
    let is = c.index-courses-above.is in
    let lt : h < length courses = omega (arith, c.loop-above-test.true, c.loop-above.auto.courses) in
    let above : c.args.host + 1 ≤ h = omega (arith, c.loop-above.auto.above, c.loop-above.auto.above-end) in
    let there = there_old first few snap courses h r lt is i.tasks i.hosts in
    sym (stand_old first few snap courses h r lt is i.tasks i.hosts).frozen
    ∙ passing_free c.args.pace (counts_of (tasks_of first)) few c.args.host h snap i.state above there

pub loop-above-preserved : goal.loop-above-preserved
loop-above-preserved c =
    let first = c.args.courses.now in
    let few = c.requires.few in
    let counts = counts_of (tasks_of first) in
    let snap = c.loop-above.snap in
    let courses = c.loop-above.courses in
    let h = c.loop-above.above in
    let i = c.loop-above.invariant in
    let r = c.index-courses-above.result in
    let is = c.index-courses-above.is in
    let old : CourseValue = get_or courses h r in
    let new = c.take_turn.new.self in
    let ok = c.in_ok-take_turn.ensures in
    let lt : h < length courses = omega (arith, c.loop-above-test.true, c.loop-above.auto.courses) in
    let above : c.args.host + 1 ≤ h = omega (arith, c.loop-above.auto.above, c.loop-above.auto.above-end) in
    let stand = stand_old first few snap courses h r lt is i.tasks i.hosts in
    let there = there_old first few snap courses h r lt is i.tasks i.hosts in
    let within = passing_low c.args.pace counts few c.args.host h snap i.state above there in
    let at = stand.tail in
    let free = sym stand.frozen ∙ passing_free c.args.pace counts few c.args.host h snap i.state above there in
    record {
      tasks = kept first few snap courses h r lt is i.tasks i.hosts new (ap (λ (x : CourseValue). x.task) ok.course);
      hosts = turned_in first few snap courses h r lt is i.tasks i.hosts c.args.pace c.take_turn.new.snap new free (omega (arith, at, within)) ok.course ok.events;
      state = ok.events
          ∙ passing_more c.args.pace counts few c.args.host h (length old.task.rows) old.covered snap i.state above there
          (all_old first few snap courses h r lt is i.tasks i.hosts) (sym stand.tail);
    }
