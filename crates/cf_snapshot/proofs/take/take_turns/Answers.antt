use Rattle.std.proofs.Common.{◌≡◌, ◌∙◌, ℕ, ◌%◌, ◌*◌, ◌<◌, Err, length, get_or, min, sym, ap, arith, rules}
use Rattle.std.proofs.Math.Nat.{mod-lt}
use Rattle.cf_snapshot.specs.Courses.{CourseValue, tasks_of, counts_of}
use Rattle.cf_snapshot.proofs.Driving.{count_many, going_at, going_low, turns_enough, turns_more, stand_old, all_old, there_old, kept, any_old, turned_in}
use Rattle.cf_snapshot.proofs.take.take_turns.Goals as goal

-- the host whose turn it is
low : (n a b k : ℕ) → 0 < k → k ≡ a → b ≡ a → n % a < b
low n a b k some many keeps = let below : n % a < a = mod-lt n (omega (arith, some, many)) in omega (arith, below, keeps)

pub take_turn-requires-clause-free : goal.take_turn-requires-clause-free
take_turn-requires-clause-free c =
    let first = c.args.courses.now in
    let few = c.requires.few in
    let n = c.loop-taken.taken in
    let i = c.loop-taken.invariant in
    let h : ℕ = n % length first in
    let lt = low n (length first) (length c.loop-taken.courses) (length (counts_of (tasks_of first))) few.some (count_many first) c.loop-taken.auto.courses in
    let stand = stand_old first few c.loop-taken.snap c.loop-taken.courses h c.index-courses-host.result lt c.index-courses-host.is i.tasks i.hosts in
    sym stand.frozen ∙ (going_at c.args.pace (counts_of (tasks_of first)) few n c.loop-taken.snap i.state).free h

pub returns-in_err-take_turn-clause-nodes : goal.returns-in_err-take_turn-clause-nodes
returns-in_err-take_turn-clause-nodes c =
    let first = c.args.courses.now in
    let few = c.requires.few in
    let n = c.loop-taken.taken in
    let i = c.loop-taken.invariant in
    let h : ℕ = n % length first in
    let lt = low n (length first) (length c.loop-taken.courses) (length (counts_of (tasks_of first))) few.some (count_many first) c.loop-taken.auto.courses in
    let why = c.in_err-take_turn.field-0.0 in
    let err : c.from_residual.result ≡ Err why = search rules in
    rw err
    (λ e. any_old first few c.loop-taken.snap c.loop-taken.courses h c.index-courses-host.result lt c.index-courses-host.is i.tasks i.hosts
    (c.in_err-take_turn.ensures.nodes e))

pub loop-taken-preserved : goal.loop-taken-preserved
loop-taken-preserved c =
    let first = c.args.courses.now in
    let few = c.requires.few in
    let counts = counts_of (tasks_of first) in
    let snap = c.loop-taken.snap in
    let courses = c.loop-taken.courses in
    let n = c.loop-taken.taken in
    let i = c.loop-taken.invariant in
    let h : ℕ = n % length first in
    let r = c.index-courses-host.result in
    let is = c.index-courses-host.is in
    let old : CourseValue = get_or courses h r in
    let new = c.take_turn.new.self in
    let ok = c.in_ok-take_turn.ensures in
    let lt = low n (length first) (length courses) (length counts) few.some (count_many first) c.loop-taken.auto.courses in
    let stand = stand_old first few snap courses h r lt is i.tasks i.hosts in
    let there = there_old first few snap courses h r lt is i.tasks i.hosts in
    let within = going_low c.args.pace counts few n snap i.state h there in
    let at = stand.tail in
    let free = sym stand.frozen ∙ (going_at c.args.pace counts few n snap i.state).free h in
    let whose : h ≡ n % length counts = ap (λ (k : ℕ). n % k) (sym (count_many first)) in
    record {
      tasks = kept first few snap courses h r lt is i.tasks i.hosts new (ap (λ (x : CourseValue). x.task) ok.course);
      hosts = turned_in first few snap courses h r lt is i.tasks i.hosts c.args.pace c.take_turn.new.snap new free (omega (arith, at, within)) ok.course ok.events;
      state = ok.events
          ∙ turns_more c.args.pace counts few n h (length old.task.rows) old.covered snap i.state whose
          (all_old first few snap courses h r lt is i.tasks i.hosts) (sym stand.tail);
    }

pub returns-clause-state : goal.returns-clause-state
returns-clause-state c =
    let first = c.args.courses.now in
    let counts = counts_of (tasks_of first) in
    let many = count_many first in
    let end = c.loop-taken.auto.taken-end in
    let past = c.loop-taken-test.false in
    let most = c.min-taken-end.ensures in
    let is : c.loop-taken.taken ≡ min c.args.pace.turns (length counts * 65536) = omega (arith, end, past, most, many) in
    c.loop-taken.invariant.state ∙ turns_enough c.args.pace counts c.requires.few c.loop-taken.taken c.requires.turn.0 is
