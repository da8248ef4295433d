use Rattle.std.proofs.Common.{◌∙◌, ℕ, ◌-◌, ◌^◌, ◌≤◌, ◌<◌, Bool, false, List, length, set, fold, get_or, replicate, sym, ap, arith}
use Rattle.cf_snapshot.specs.Courses.{CourseValue, tasks_of, counts_of}
use Rattle.cf_snapshot.specs.Plans.{rows_at}
use Rattle.cf_snapshot.specs.Snapshots.{after, tail_of}
use Rattle.cf_snapshot.specs.declared.event.SnapEvent.TheVariants.{Cover}
use Rattle.cf_snapshot.proofs.Driving.{as_many, flat_step, old_is, stand_old, all_old, rows_few, kept, task_old, in_covered, covered_state}
use Rattle.cf_snapshot.proofs.Ending.{covering_more, all_done}
use Rattle.cf_snapshot.proofs.take.cover_left.Goals as goal

pub cover_rest-requires-clause-free : goal.cover_rest-requires-clause-free
cover_rest-requires-clause-free c =
    let first = c.args.courses.now in
    let snap = c.loop-host.snap in
    let courses = c.loop-host.courses in
    let h = c.loop-host.host in
    let i = c.loop-host.invariant in
    let lt : h < length courses = omega (arith, c.loop-host-test.true, c.loop-host.auto.courses) in
    let stand = stand_old first c.requires.few snap courses h c.index-courses-host.result lt c.index-courses-host.is i.tasks i.hosts in
    sym stand.frozen ∙ ap (λ (bs : List Bool). get_or bs h false) i.covering.frozen ∙ c.requires.free h

pub loop-host-preserved : goal.loop-host-preserved
loop-host-preserved c =
    let first = c.args.courses.now in
    let few = c.requires.few in
    let counts = counts_of (tasks_of first) in
    let before = c.args.snap.now in
    let snap = c.loop-host.snap in
    let courses = c.loop-host.courses in
    let h = c.loop-host.host in
    let i = c.loop-host.invariant in
    let r = c.index-courses-host.result in
    let is = c.index-courses-host.is in
    let old : CourseValue = get_or courses h r in
    let new = c.cover_rest.new.self in
    let now = c.cover_rest.new.snap in
    let ok = c.in_ok-cover_rest.ensures in
    let lt : h < length courses = omega (arith, c.loop-host-test.true, c.loop-host.auto.courses) in
    let stand = stand_old first few snap courses h r lt is i.tasks i.hosts in
    let all = all_old first few snap courses h r lt is i.tasks i.hosts in
    let most = rows_few first few snap courses h r lt is i.tasks i.hosts in
    let within = c.requires.within h (c.loop-host-test.true) in
    let tail = stand.tail in
    let later = i.covering.later h (omega arith) in
    let free = sym stand.frozen ∙ ap (λ (bs : List Bool). get_or bs h false) i.covering.frozen ∙ c.requires.free h in
    let from : old.covered ≤ length old.task.rows = omega (arith, tail, later, within, all) in
    let low : length old.task.rows ≤ 2 ^ 20 = omega (arith, all, most) in
    let is_old = old_is first few snap courses h r lt is i.tasks i.hosts in
    let state = covered_state snap now courses h old new i.hosts lt is_old (length old.task.rows) free from low ok.events
    ∙ ap (λ (n : ℕ). record snap { tails = set snap.tails h n }) all in
    let long = as_many snap courses i.hosts in
    record {
      tasks = kept first few snap courses h r lt is i.tasks i.hosts new (ap (λ (x : CourseValue). x.task) ok.course);
      hosts = in_covered snap now courses h old new i.hosts lt is_old (length old.task.rows) free from low ok.course ok.events;
      covering = covering_more before snap now (tasks_of first) h old.task i.covering (omega (arith, lt, long))
          (task_old first few snap courses h r lt is i.tasks i.hosts) state ok.enough;
      state = flat_step (λ host. replicate (rows_at counts host - tail_of before host) (Cover host)) before snap now h i.state
          (ok.events ∙ ap (λ (n : ℕ). fold after snap (replicate (n - old.covered) (Cover h))) all
          ∙ ap (λ (n : ℕ). fold after snap (replicate (rows_at counts h - n) (Cover h))) (sym tail ∙ later));
    }

pub returns-clause-done : goal.returns-clause-done
returns-clause-done c =
    let i = c.loop-host.invariant in
    let first = c.args.courses.now in
    let end : length c.loop-host.courses ≤ c.loop-host.host = omega (arith, c.loop-host-test.false, c.loop-host.auto.courses) in
    all_done c.args.snap.now c.loop-host.snap first c.loop-host.courses c.loop-host.host i.tasks i.hosts i.covering c.requires.free end
