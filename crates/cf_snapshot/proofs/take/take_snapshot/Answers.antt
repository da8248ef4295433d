use Rattle.std.proofs.Common.{◌≡◌, ◌∙◌, ℕ, ◌<◌, ◌≤◌, List, Some, None, length, get_or, refl, sym, ap, subst, arith}
use Rattle.cf_snapshot.specs.Courses.{AreIn, counts_of, freezing_state, tasks_of}
use Rattle.cf_snapshot.specs.Laws.{HasCut}
use Rattle.cf_snapshot.specs.Plans.{cut_by, events_of, in_cut, rows_at}
use Rattle.cf_snapshot.specs.Snapshots.{SnapValue, is_frozen, tail_of}
use Rattle.cf_snapshot.specs.declared.event.SnapEvent.TheVariants.{Reply, Thaw}
use Rattle.cf_snapshot.proofs.Driving.{count_many, few_all}
use Rattle.cf_snapshot.proofs.Planning.{plans_have_cuts}
use Rattle.cf_snapshot.proofs.Whole.{as_many_tasks, begins, cut_low, frozen_by, frozen_state_all, has_cut, idle_in, left_by, mapped_by, released, releases, replied_frozen, replied_sized, replied_snapshot, replied_tails, whole}
use Rattle.cf_snapshot.proofs.take.take_snapshot.Goals as goal

pub take_turns-requires-clause-hosts : goal.take_turns-requires-clause-hosts
take_turns-requires-clause-hosts c =
    subst (λ (s : SnapValue). AreIn s c.args.courses.now) (sym c.in_ok-snap.ensures) (idle_in c.args.courses.now c.requires.idle)

pub step-requires : goal.step-requires
step-requires c =
    begins c.args.pace (counts_of (tasks_of c.args.courses.now)) c.requires.few c.take_turns.new.snap c.in_ok-take_turns.ensures.state

pub reply_each-requires-clause-time : goal.reply_each-requires-clause-time
reply_each-requires-clause-time c =
    let first = c.args.courses.now in
    let pace = c.args.pace in
    let few = c.requires.few in
    let counts = counts_of (tasks_of first) in
    let frozen = c.freeze_each.new.snap in
    let begun = c.in_ok-take_turns.ensures.tasks in
    let frozen_is = frozen_by pace first c.take_turns.new.courses frozen begun c.in_ok-answers.ensures.state in
    let all = frozen_state_all pace counts few frozen frozen_is in
    all.0

pub reply_each-requires-clause-frozen : goal.reply_each-requires-clause-frozen
reply_each-requires-clause-frozen c =
    let first = c.args.courses.now in
    let pace = c.args.pace in
    let few = c.requires.few in
    let counts = counts_of (tasks_of first) in
    let frozen = c.freeze_each.new.snap in
    let begun = c.in_ok-take_turns.ensures.tasks in
    let frozen_is = frozen_by pace first c.take_turns.new.courses frozen begun c.in_ok-answers.ensures.state in
    let all = frozen_state_all pace counts few frozen frozen_is in
    let size = all.2 in
    λ h low. all.1 h (omega (arith, low, size))

pub step-requires-2 : goal.step-requires-2
step-requires-2 c =
    let first = c.args.courses.now in
    let pace = c.args.pace in
    let few = c.requires.few in
    let counts = counts_of (tasks_of first) in
    let frozen = c.freeze_each.new.snap in
    let begun = c.in_ok-take_turns.ensures.tasks in
    let frozen_is = frozen_by pace first c.take_turns.new.courses frozen begun c.in_ok-answers.ensures.state in
    let all = frozen_state_all pace counts few frozen frozen_is in
    let replied = c.reply_each.new.snap in
    let replied_is = mapped_by (λ x. Reply x) frozen replied (freezing_state pace counts (length counts)) (length first) (length counts) frozen_is
    (sym (count_many first)) c.reply_each.ensures.state in
    releases pace counts few replied replied_is

pub thaw_each-requires-clause-hosts : goal.thaw_each-requires-clause-hosts
thaw_each-requires-clause-hosts c =
    let first = c.args.courses.now in
    let pace = c.args.pace in
    let few = c.requires.few in
    let counts = counts_of (tasks_of first) in
    let frozen = c.freeze_each.new.snap in
    let begun = c.in_ok-take_turns.ensures.tasks in
    let frozen_is = frozen_by pace first c.take_turns.new.courses frozen begun c.in_ok-answers.ensures.state in
    let all = frozen_state_all pace counts few frozen frozen_is in
    let replied = c.reply_each.new.snap in
    let replied_is = mapped_by (λ x. Reply x) frozen replied (freezing_state pace counts (length counts)) (length first) (length counts) frozen_is
    (sym (count_many first)) c.reply_each.ensures.state in
    let free = c.step-2.new.snap in
    let free_is = released pace counts few replied replied_is free c.step-2.ensures in
    let are = c.in_ok-answers.ensures.hosts in
    replied_snapshot pace counts few replied replied_is c.freeze_each.new.courses (c.reply_each.ensures.tails ∙ are.tails)
    (c.reply_each.ensures.marks ∙ are.frozen) free free_is

pub thaw_each-requires-clause-time : goal.thaw_each-requires-clause-time
thaw_each-requires-clause-time c =
    let first = c.args.courses.now in
    let pace = c.args.pace in
    let few = c.requires.few in
    let counts = counts_of (tasks_of first) in
    let frozen = c.freeze_each.new.snap in
    let begun = c.in_ok-take_turns.ensures.tasks in
    let frozen_is = frozen_by pace first c.take_turns.new.courses frozen begun c.in_ok-answers.ensures.state in
    let all = frozen_state_all pace counts few frozen frozen_is in
    let replied = c.reply_each.new.snap in
    let replied_is = mapped_by (λ x. Reply x) frozen replied (freezing_state pace counts (length counts)) (length first) (length counts) frozen_is
    (sym (count_many first)) c.reply_each.ensures.state in
    let free = c.step-2.new.snap in
    let free_is = released pace counts few replied replied_is free c.step-2.ensures in
    ap (λ (s : SnapValue). s.is_released) free_is

pub thaw_each-requires-clause-frozen : goal.thaw_each-requires-clause-frozen
thaw_each-requires-clause-frozen c =
    let first = c.args.courses.now in
    let pace = c.args.pace in
    let few = c.requires.few in
    let counts = counts_of (tasks_of first) in
    let frozen = c.freeze_each.new.snap in
    let begun = c.in_ok-take_turns.ensures.tasks in
    let frozen_is = frozen_by pace first c.take_turns.new.courses frozen begun c.in_ok-answers.ensures.state in
    let all = frozen_state_all pace counts few frozen frozen_is in
    let replied = c.reply_each.new.snap in
    let replied_is = mapped_by (λ x. Reply x) frozen replied (freezing_state pace counts (length counts)) (length first) (length counts) frozen_is
    (sym (count_many first)) c.reply_each.ensures.state in
    let free = c.step-2.new.snap in
    let free_is = released pace counts few replied replied_is free c.step-2.ensures in
    let many = ap (λ (s : SnapValue). length s.tails) free_is in
    let size = replied_sized pace counts few replied replied_is in
    λ h low. ap (λ (s : SnapValue). is_frozen s h) free_is ∙ replied_frozen pace counts few replied replied_is h (omega (arith, low, many, size))

pub cover_left-requires-clause-within : goal.cover_left-requires-clause-within
cover_left-requires-clause-within c =
    let first = c.args.courses.now in
    let pace = c.args.pace in
    let few = c.requires.few in
    let counts = counts_of (tasks_of first) in
    let frozen = c.freeze_each.new.snap in
    let begun = c.in_ok-take_turns.ensures.tasks in
    let frozen_is = frozen_by pace first c.take_turns.new.courses frozen begun c.in_ok-answers.ensures.state in
    let all = frozen_state_all pace counts few frozen frozen_is in
    let replied = c.reply_each.new.snap in
    let replied_is = mapped_by (λ x. Reply x) frozen replied (freezing_state pace counts (length counts)) (length first) (length counts) frozen_is
    (sym (count_many first)) c.reply_each.ensures.state in
    let free = c.step-2.new.snap in
    let free_is = released pace counts few replied replied_is free c.step-2.ensures in
    let thawed = c.thaw_each.new.snap in
    let frozen_tasks = c.in_ok-answers.ensures.tasks ∙ begun in
    let tasks = c.thaw_each.ensures.tasks ∙ frozen_tasks in
    let tails : (h : ℕ) → h < length counts → tail_of thawed h ≡ in_cut pace.turn counts pace.turns h =
    λ h there. ap (λ (xs : List ℕ). get_or xs h 0) c.thaw_each.ensures.tails ∙ ap (λ (x : SnapValue). tail_of x h) free_is
    ∙ replied_tails pace counts few replied replied_is h there in
    let many = as_many_tasks first c.thaw_each.new.courses tasks in
    λ host low. subst (λ ts. tail_of thawed host ≤ rows_at (counts_of ts) host) (sym tasks)
    (subst (λ (n : ℕ). n ≤ rows_at counts host) (sym (tails host (omega (arith, low, many)))) (cut_low pace counts few host))

pub unreachable-requires : goal.unreachable-requires
unreachable-requires c =
    let first = c.args.courses.now in
    let pace = c.args.pace in
    let few = c.requires.few in
    let counts = counts_of (tasks_of first) in
    let frozen = c.freeze_each.new.snap in
    let begun = c.in_ok-take_turns.ensures.tasks in
    let frozen_is = frozen_by pace first c.take_turns.new.courses frozen begun c.in_ok-answers.ensures.state in
    let all = frozen_state_all pace counts few frozen frozen_is in
    let replied = c.reply_each.new.snap in
    let replied_is = mapped_by (λ x. Reply x) frozen replied (freezing_state pace counts (length counts)) (length first) (length counts) frozen_is
    (sym (count_many first)) c.reply_each.ensures.state in
    let free = c.step-2.new.snap in
    let free_is = released pace counts few replied replied_is free c.step-2.ensures in
    let thawed = c.thaw_each.new.snap in
    let frozen_tasks = c.in_ok-answers.ensures.tasks ∙ begun in
    let tasks = c.thaw_each.ensures.tasks ∙ frozen_tasks in
    let tails : (h : ℕ) → h < length counts → tail_of thawed h ≡ in_cut pace.turn counts pace.turns h =
    λ h there. ap (λ (xs : List ℕ). get_or xs h 0) c.thaw_each.ensures.tails ∙ ap (λ (x : SnapValue). tail_of x h) free_is
    ∙ replied_tails pace counts few replied replied_is h there in
    let thawed_is = mapped_by (λ x. Thaw x) free thawed free (length c.freeze_each.new.courses) (length counts) refl
    (as_many_tasks first c.freeze_each.new.courses frozen_tasks) c.thaw_each.ensures.state in
    let last = c.cover_left.new.snap in
    let left = left_by first c.thaw_each.new.courses thawed last tasks c.in_ok-cover_left.ensures.state in
    let whole_is = whole pace counts few replied replied_is free thawed last c.step-2.ensures thawed_is tails left in
    let cut = has_cut pace counts few last whole_is in
    let e : None ≡ Some (cut_by pace.turn counts pace.turns) = c.in-None.ensures ∙ cut in
    absurd (cc e)

pub returns-clause-value : goal.returns-clause-value
returns-clause-value c =
    let first = c.args.courses.now in
    let pace = c.args.pace in
    let few = c.requires.few in
    let counts = counts_of (tasks_of first) in
    let frozen = c.freeze_each.new.snap in
    let begun = c.in_ok-take_turns.ensures.tasks in
    let frozen_is = frozen_by pace first c.take_turns.new.courses frozen begun c.in_ok-answers.ensures.state in
    let all = frozen_state_all pace counts few frozen frozen_is in
    let replied = c.reply_each.new.snap in
    let replied_is = mapped_by (λ x. Reply x) frozen replied (freezing_state pace counts (length counts)) (length first) (length counts) frozen_is
    (sym (count_many first)) c.reply_each.ensures.state in
    let free = c.step-2.new.snap in
    let free_is = released pace counts few replied replied_is free c.step-2.ensures in
    let thawed = c.thaw_each.new.snap in
    let frozen_tasks = c.in_ok-answers.ensures.tasks ∙ begun in
    let tasks = c.thaw_each.ensures.tasks ∙ frozen_tasks in
    let tails : (h : ℕ) → h < length counts → tail_of thawed h ≡ in_cut pace.turn counts pace.turns h =
    λ h there. ap (λ (xs : List ℕ). get_or xs h 0) c.thaw_each.ensures.tails ∙ ap (λ (x : SnapValue). tail_of x h) free_is
    ∙ replied_tails pace counts few replied replied_is h there in
    let thawed_is = mapped_by (λ x. Thaw x) free thawed free (length c.freeze_each.new.courses) (length counts) refl
    (as_many_tasks first c.freeze_each.new.courses frozen_tasks) c.thaw_each.ensures.state in
    let last = c.cover_left.new.snap in
    let left = left_by first c.thaw_each.new.courses thawed last tasks c.in_ok-cover_left.ensures.state in
    let whole_is = whole pace counts few replied replied_is free thawed last c.step-2.ensures thawed_is tails left in
    let cut = has_cut pace counts few last whole_is in
    let e : Some c.in-Some.tails.now ≡ Some (cut_by pace.turn counts pace.turns) = c.in-Some.ensures ∙ cut in
    let same : c.in-Some.tails.now ≡ cut_by pace.turn counts pace.turns = cc e in
    c.in_ok-cut-in-Some.ensures.items ∙ same

pub returns-clause-cut : goal.returns-clause-cut
returns-clause-cut c =
    let first = c.args.courses.now in
    let pace = c.args.pace in
    let few = c.requires.few in
    let counts = counts_of (tasks_of first) in
    let frozen = c.freeze_each.new.snap in
    let begun = c.in_ok-take_turns.ensures.tasks in
    let frozen_is = frozen_by pace first c.take_turns.new.courses frozen begun c.in_ok-answers.ensures.state in
    let all = frozen_state_all pace counts few frozen frozen_is in
    let replied = c.reply_each.new.snap in
    let replied_is = mapped_by (λ x. Reply x) frozen replied (freezing_state pace counts (length counts)) (length first) (length counts) frozen_is
    (sym (count_many first)) c.reply_each.ensures.state in
    let free = c.step-2.new.snap in
    let free_is = released pace counts few replied replied_is free c.step-2.ensures in
    let thawed = c.thaw_each.new.snap in
    let frozen_tasks = c.in_ok-answers.ensures.tasks ∙ begun in
    let tasks = c.thaw_each.ensures.tasks ∙ frozen_tasks in
    let tails : (h : ℕ) → h < length counts → tail_of thawed h ≡ in_cut pace.turn counts pace.turns h =
    λ h there. ap (λ (xs : List ℕ). get_or xs h 0) c.thaw_each.ensures.tails ∙ ap (λ (x : SnapValue). tail_of x h) free_is
    ∙ replied_tails pace counts few replied replied_is h there in
    let thawed_is = mapped_by (λ x. Thaw x) free thawed free (length c.freeze_each.new.courses) (length counts) refl
    (as_many_tasks first c.freeze_each.new.courses frozen_tasks) c.thaw_each.ensures.state in
    let last = c.cover_left.new.snap in
    let left = left_by first c.thaw_each.new.courses thawed last tasks c.in_ok-cover_left.ensures.state in
    let whole_is = whole pace counts few replied replied_is free thawed last c.step-2.ensures thawed_is tails left in
    let cut = has_cut pace counts few last whole_is in
    let e : Some c.in-Some.tails.now ≡ Some (cut_by pace.turn counts pace.turns) = c.in-Some.ensures ∙ cut in
    let same : c.in-Some.tails.now ≡ cut_by pace.turn counts pace.turns = cc e in
    subst (λ (n : ℕ). HasCut n (events_of pace.turn counts pace.turns) c.in_ok-cut-in-Some.cut.items) (count_many first)
    (subst (HasCut (length counts) (events_of pace.turn counts pace.turns)) (sym (c.in_ok-cut-in-Some.ensures.items ∙ same))
    (plans_have_cuts pace.turn counts pace.turns few.some (few_all counts few)))
