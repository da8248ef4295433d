use Rattle.std.proofs.Common.{◌≡◌, ◌∙◌, ℕ, ◌+◌, ◌<◌, true, Any, Err, List, length, set, take, get_or, sym, ap, subst, arith, rules}
use Rattle.std.proofs.lemmas.List.{get_or-set_same, length-map, set-set}
use Rattle.cf_plain.specs.Asks.{Suits}
use Rattle.cf_snapshot.specs.Courses.{CourseValue, TaskValue, AreAnswered, AreFew, AreIn, NeedsMore, answers_on, tasks_of, counts_of, passing_state}
use Rattle.cf_snapshot.specs.Plans.{in_cut}
use Rattle.cf_snapshot.specs.Snapshots.{SnapValue, after}
use Rattle.cf_snapshot.specs.declared.event.SnapEvent.TheVariants.{Freeze}
use Rattle.cf_snapshot.proofs.Driving.{count_many, freezing_free, freezing_more, frozen_state, in_marked, kept, old_is, passing_first, stand_old, task_old, there_old}
use Rattle.cf_snapshot.proofs.Ending.{answered_more}
use Rattle.cf_snapshot.proofs.take.freeze_each.Goals as goal

pub freeze-requires-clause-free : goal.freeze-requires-clause-free
freeze-requires-clause-free c =
    let first = c.args.courses.now in
    let few = c.requires.few in
    let counts = counts_of (tasks_of first) in
    let snap = c.loop-host.snap in
    let courses = c.loop-host.courses in
    let h = c.loop-host.host in
    let i = c.loop-host.invariant in
    let r = c.index-courses-host.result in
    let is = c.index-courses-host.is in
    let old : CourseValue = get_or courses h r in
    let lt : h < length courses = omega (arith, c.loop-host-test.true, c.loop-host.auto.courses) in
    let stand = stand_old first few snap courses h r lt is i.tasks i.hosts in
    let there = there_old first few snap courses h r lt is i.tasks i.hosts in
    let fr = freezing_free c.args.pace counts few h snap i.state there in
    sym stand.frozen ∙ fr.0

pub freeze-requires-clause-time : goal.freeze-requires-clause-time
freeze-requires-clause-time c =
    let first = c.args.courses.now in
    let few = c.requires.few in
    let counts = counts_of (tasks_of first) in
    let snap = c.loop-host.snap in
    let courses = c.loop-host.courses in
    let h = c.loop-host.host in
    let i = c.loop-host.invariant in
    let r = c.index-courses-host.result in
    let is = c.index-courses-host.is in
    let old : CourseValue = get_or courses h r in
    let lt : h < length courses = omega (arith, c.loop-host-test.true, c.loop-host.auto.courses) in
    let stand = stand_old first few snap courses h r lt is i.tasks i.hosts in
    let there = there_old first few snap courses h r lt is i.tasks i.hosts in
    let fr = freezing_free c.args.pace counts few h snap i.state there in
    fr.1

pub ask_each-requires-clause-suits : goal.ask_each-requires-clause-suits
ask_each-requires-clause-suits c =
    let first = c.args.courses.now in
    let few = c.requires.few in
    let counts = counts_of (tasks_of first) in
    let snap = c.loop-host.snap in
    let courses = c.loop-host.courses in
    let h = c.loop-host.host in
    let i = c.loop-host.invariant in
    let r = c.index-courses-host.result in
    let is = c.index-courses-host.is in
    let old : CourseValue = get_or courses h r in
    let lt : h < length courses = omega (arith, c.loop-host-test.true, c.loop-host.auto.courses) in
    let stand = stand_old first few snap courses h r lt is i.tasks i.hosts in
    let there = there_old first few snap courses h r lt is i.tasks i.hosts in
    let fr = freezing_free c.args.pace counts few h snap i.state there in
    let new = c.freeze.new.self in
    let courses1 : List CourseValue = set courses h new in
    let r2 = c.index-courses-host-in-loop-host.result in
    let same : get_or courses1 h r2 ≡ new = get_or-set_same courses h new r2 lt in
    let low : h < length (tasks_of first) = omega (arith, there, length-map (tasks_of first) (λ (t : TaskValue). length t.rows)) in
    λ k d within. subst (λ (x : CourseValue). Suits x.task.shape (get_or c.args.asks.now k d)) (sym (same ∙ c.freeze.ensures.course))
    (subst (λ (t : TaskValue). Suits t.shape (get_or c.args.asks.now k d)) (task_old first few snap courses h r lt is i.tasks i.hosts old.task)
    (c.requires.suits h old.task low k d within))

pub turns_above-requires-clause-few : goal.turns_above-requires-clause-few
turns_above-requires-clause-few c =
    let first = c.args.courses.now in
    let few = c.requires.few in
    let counts = counts_of (tasks_of first) in
    let snap = c.loop-host.snap in
    let courses = c.loop-host.courses in
    let h = c.loop-host.host in
    let i = c.loop-host.invariant in
    let r = c.index-courses-host.result in
    let is = c.index-courses-host.is in
    let old : CourseValue = get_or courses h r in
    let lt : h < length courses = omega (arith, c.loop-host-test.true, c.loop-host.auto.courses) in
    let stand = stand_old first few snap courses h r lt is i.tasks i.hosts in
    let there = there_old first few snap courses h r lt is i.tasks i.hosts in
    let fr = freezing_free c.args.pace counts few h snap i.state there in
    let new = c.freeze.new.self in
    let courses1 : List CourseValue = set courses h new in
    let r2 = c.index-courses-host-in-loop-host.result in
    let same : get_or courses1 h r2 ≡ new = get_or-set_same courses h new r2 lt in
    let courses2 : List CourseValue = set courses1 h c.ask_each.new.self in
    let whole : courses2 ≡ courses1 = set-set courses h new c.ask_each.new.self ∙ ap (λ (x : CourseValue). set courses h x) (c.ask_each.ensures.course ∙ same) in
    let tasks : tasks_of courses2 ≡ tasks_of first = ap (λ (cs : List CourseValue). tasks_of cs) whole
    ∙ kept first few snap courses h r lt is i.tasks i.hosts new (ap (λ (x : CourseValue). x.task) c.freeze.ensures.course) in
    subst (λ (ts : List TaskValue). AreFew (counts_of ts)) (sym tasks) few

pub turns_above-requires-clause-hosts : goal.turns_above-requires-clause-hosts
turns_above-requires-clause-hosts c =
    let first = c.args.courses.now in
    let few = c.requires.few in
    let counts = counts_of (tasks_of first) in
    let snap = c.loop-host.snap in
    let courses = c.loop-host.courses in
    let h = c.loop-host.host in
    let i = c.loop-host.invariant in
    let r = c.index-courses-host.result in
    let is = c.index-courses-host.is in
    let old : CourseValue = get_or courses h r in
    let lt : h < length courses = omega (arith, c.loop-host-test.true, c.loop-host.auto.courses) in
    let stand = stand_old first few snap courses h r lt is i.tasks i.hosts in
    let there = there_old first few snap courses h r lt is i.tasks i.hosts in
    let fr = freezing_free c.args.pace counts few h snap i.state there in
    let new = c.freeze.new.self in
    let courses1 : List CourseValue = set courses h new in
    let r2 = c.index-courses-host-in-loop-host.result in
    let same : get_or courses1 h r2 ≡ new = get_or-set_same courses h new r2 lt in
    let courses2 : List CourseValue = set courses1 h c.ask_each.new.self in
    let whole : courses2 ≡ courses1 = set-set courses h new c.ask_each.new.self ∙ ap (λ (x : CourseValue). set courses h x) (c.ask_each.ensures.course ∙ same) in
    let tasks : tasks_of courses2 ≡ tasks_of first = ap (λ (cs : List CourseValue). tasks_of cs) whole
    ∙ kept first few snap courses h r lt is i.tasks i.hosts new (ap (λ (x : CourseValue). x.task) c.freeze.ensures.course) in
    let is_old = old_is first few snap courses h r lt is i.tasks i.hosts in
    let free = sym stand.frozen ∙ fr.0 in
    let state = frozen_state snap c.freeze.new.snap courses h old new i.hosts lt is_old free fr.1 c.freeze.ensures.event in
    subst (AreIn c.freeze.new.snap) (sym whole) (in_marked snap c.freeze.new.snap courses h old new i.hosts lt is_old true c.freeze.ensures.course state)

pub turns_above-requires-clause-state : goal.turns_above-requires-clause-state
turns_above-requires-clause-state c =
    let first = c.args.courses.now in
    let few = c.requires.few in
    let counts = counts_of (tasks_of first) in
    let snap = c.loop-host.snap in
    let courses = c.loop-host.courses in
    let h = c.loop-host.host in
    let i = c.loop-host.invariant in
    let r = c.index-courses-host.result in
    let is = c.index-courses-host.is in
    let old : CourseValue = get_or courses h r in
    let lt : h < length courses = omega (arith, c.loop-host-test.true, c.loop-host.auto.courses) in
    let stand = stand_old first few snap courses h r lt is i.tasks i.hosts in
    let there = there_old first few snap courses h r lt is i.tasks i.hosts in
    let fr = freezing_free c.args.pace counts few h snap i.state there in
    let new = c.freeze.new.self in
    let courses1 : List CourseValue = set courses h new in
    let r2 = c.index-courses-host-in-loop-host.result in
    let same : get_or courses1 h r2 ≡ new = get_or-set_same courses h new r2 lt in
    let courses2 : List CourseValue = set courses1 h c.ask_each.new.self in
    let whole : courses2 ≡ courses1 = set-set courses h new c.ask_each.new.self ∙ ap (λ (x : CourseValue). set courses h x) (c.ask_each.ensures.course ∙ same) in
    let tasks : tasks_of courses2 ≡ tasks_of first = ap (λ (cs : List CourseValue). tasks_of cs) whole
    ∙ kept first few snap courses h r lt is i.tasks i.hosts new (ap (λ (x : CourseValue). x.task) c.freeze.ensures.course) in
    c.freeze.ensures.event ∙ ap (λ (x : SnapValue). after x (Freeze h)) i.state ∙ passing_first c.args.pace counts few h
    ∙ ap (λ (ts : List TaskValue). passing_state c.args.pace (counts_of ts) h (h + 1)) (sym tasks)

pub returns-in_err-turns_above-clause-nodes : goal.returns-in_err-turns_above-clause-nodes
returns-in_err-turns_above-clause-nodes c =
    let first = c.args.courses.now in
    let few = c.requires.few in
    let counts = counts_of (tasks_of first) in
    let snap = c.loop-host.snap in
    let courses = c.loop-host.courses in
    let h = c.loop-host.host in
    let i = c.loop-host.invariant in
    let r = c.index-courses-host.result in
    let is = c.index-courses-host.is in
    let old : CourseValue = get_or courses h r in
    let lt : h < length courses = omega (arith, c.loop-host-test.true, c.loop-host.auto.courses) in
    let stand = stand_old first few snap courses h r lt is i.tasks i.hosts in
    let there = there_old first few snap courses h r lt is i.tasks i.hosts in
    let fr = freezing_free c.args.pace counts few h snap i.state there in
    let new = c.freeze.new.self in
    let courses1 : List CourseValue = set courses h new in
    let r2 = c.index-courses-host-in-loop-host.result in
    let same : get_or courses1 h r2 ≡ new = get_or-set_same courses h new r2 lt in
    let courses2 : List CourseValue = set courses1 h c.ask_each.new.self in
    let whole : courses2 ≡ courses1 = set-set courses h new c.ask_each.new.self ∙ ap (λ (x : CourseValue). set courses h x) (c.ask_each.ensures.course ∙ same) in
    let tasks : tasks_of courses2 ≡ tasks_of first = ap (λ (cs : List CourseValue). tasks_of cs) whole
    ∙ kept first few snap courses h r lt is i.tasks i.hosts new (ap (λ (x : CourseValue). x.task) c.freeze.ensures.course) in
    let why = c.in_err-turns_above.field-0.0 in
    let err : c.from_residual-in_err-turns_above.result ≡ Err why = search rules in
    rw err (λ e. subst (Any NeedsMore) tasks (c.in_err-turns_above.ensures.nodes e))

pub loop-host-preserved : goal.loop-host-preserved
loop-host-preserved c =
    let first = c.args.courses.now in
    let few = c.requires.few in
    let counts = counts_of (tasks_of first) in
    let snap = c.loop-host.snap in
    let courses = c.loop-host.courses in
    let h = c.loop-host.host in
    let i = c.loop-host.invariant in
    let r = c.index-courses-host.result in
    let is = c.index-courses-host.is in
    let old : CourseValue = get_or courses h r in
    let lt : h < length courses = omega (arith, c.loop-host-test.true, c.loop-host.auto.courses) in
    let stand = stand_old first few snap courses h r lt is i.tasks i.hosts in
    let there = there_old first few snap courses h r lt is i.tasks i.hosts in
    let fr = freezing_free c.args.pace counts few h snap i.state there in
    let new = c.freeze.new.self in
    let courses1 : List CourseValue = set courses h new in
    let r2 = c.index-courses-host-in-loop-host.result in
    let same : get_or courses1 h r2 ≡ new = get_or-set_same courses h new r2 lt in
    let courses2 : List CourseValue = set courses1 h c.ask_each.new.self in
    let whole : courses2 ≡ courses1 = set-set courses h new c.ask_each.new.self ∙ ap (λ (x : CourseValue). set courses h x) (c.ask_each.ensures.course ∙ same) in
    let tasks : tasks_of courses2 ≡ tasks_of first = ap (λ (cs : List CourseValue). tasks_of cs) whole
    ∙ kept first few snap courses h r lt is i.tasks i.hosts new (ap (λ (x : CourseValue). x.task) c.freeze.ensures.course) in
    let ok = c.in_ok-turns_above.ensures in
    let many : length courses2 ≡ length counts = sym (count_many courses2) ∙ ap (λ (ts : List TaskValue). length (counts_of ts)) tasks in
    let cut = in_cut c.args.pace.turn counts c.args.pace.turns h in
    let given_is : (d : TaskValue) → c.in_ok-given.given.items
    ≡ answers_on (get_or (tasks_of first) h d).shape (take cut (get_or (tasks_of first) h d).rows) c.args.asks.now =
    λ d. c.in_ok-given.ensures.answers
    ∙ ap (λ (x : CourseValue). answers_on x.task.shape (take x.covered x.task.rows) c.args.asks.now) (same ∙ c.freeze.ensures.course)
    ∙ ap (λ (n : ℕ). answers_on old.task.shape (take n old.task.rows) c.args.asks.now) (sym stand.tail ∙ fr.2)
    ∙ ap (λ (t : TaskValue). answers_on t.shape (take cut t.rows) c.args.asks.now)
    (sym (task_old first few snap courses h r lt is i.tasks i.hosts d)) in
    record {
      tasks = ok.tasks ∙ tasks;
      hosts = ok.hosts;
      state = ok.state ∙ ap (λ (ts : List TaskValue). passing_state c.args.pace (counts_of ts) h (length courses2)) tasks
          ∙ ap (λ (n : ℕ). passing_state c.args.pace counts h n) many ∙ freezing_more c.args.pace counts few h there;
      answers = subst (AreAnswered c.args.pace c.args.asks.now (tasks_of first) (h + 1)) (sym c.in_ok-push.ensures.items)
          (answered_more c.args.pace c.args.asks.now (tasks_of first) h c.loop-host.answers.items c.in_ok-given.given i.answers given_is);
    }
