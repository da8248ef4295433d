use Rattle.std.proofs.Common.{◌≡◌, ◌∙◌, ◌≤◌, ◌++◌, ℕ, All, Any, Err, List, length, map, sum, take, drop, string_bytes, sym, ap, subst, arith, rules}
use Rattle.std.proofs.lemmas.List.{length-map}
use Rattle.cf_fill.specs.Work.{shape_for}
use Rattle.cf_fill.proofs.Logs.{asks_suit}
use Rattle.cf_intake.specs.Parts.{rows_each}
use Rattle.cf_row.specs.Row.{RowValue}
use Rattle.cf_run.specs.Hosts.{AreTold, rows_covered}
use Rattle.cf_run.specs.Parts.{ends_each}
use Rattle.cf_shape.specs.Nodes.{distinct}
use Rattle.cf_snapshot.specs.Courses.{AreFew, AreIdle, AreSuited, CourseValue, NeedsMore, counts_of, idle_course, tasks_of}
use Rattle.cf_snapshot.specs.declared.take.Pace.{Pace}
use Rattle.cf_plain.specs.declared.ask.Ask.{Ask}
use Rattle.cf_run.proofs.Taken.{courses_back, cut_low, cut_opened, few_opened, idle_opened, more_opened, room_opened, rows_kept, suited_opened, text_told, told_opened}
use Rattle.cf_run.proofs.snapshot.snapshot_text.Goals as goal

pub take_snapshot-requires-clause-few : goal.take_snapshot-requires-clause-few
take_snapshot-requires-clause-few c =
    let hosts = rows_each c.args.captures.items in
    let shape = shape_for c.args.setup.now c.args.command.now.sizes in
    let many = length-map c.args.captures.items (λ host. host.rows.items) in
    let size = c.requires.size in
    let range = c.requires.command.hosts in
    let most = c.requires.command.sizes.capacity.1 in
    subst (λ (cs : List CourseValue). AreFew (counts_of (tasks_of cs))) (sym (c.deref_mut.ensures.value ∙ c.in_ok-hosts.ensures.courses))
    (few_opened shape hosts (omega (arith, range.0, size, many)) (omega (arith, range.1, size, many))
    (λ k d lt. let few = c.requires.few k d lt in omega (arith, few, most)))

pub take_snapshot-requires-clause-idle : goal.take_snapshot-requires-clause-idle
take_snapshot-requires-clause-idle c =
    subst AreIdle (sym (c.deref_mut.ensures.value ∙ c.in_ok-hosts.ensures.courses))
    (idle_opened (shape_for c.args.setup.now c.args.command.now.sizes) (rows_each c.args.captures.items))

pub take_snapshot-requires-clause-suits : goal.take_snapshot-requires-clause-suits
take_snapshot-requires-clause-suits c =
    let sizes = c.args.command.now.sizes in
    let shape = shape_for c.args.setup.now c.args.command.now.sizes in
    subst (λ (cs : List CourseValue). AreSuited c.asks.result.now (tasks_of cs)) (sym (c.deref_mut.ensures.value ∙ c.in_ok-hosts.ensures.courses))
    (subst (λ (qs : List Ask). AreSuited qs (tasks_of (map (idle_course shape) (rows_each c.args.captures.items)))) (sym c.asks.ensures.asks)
    (suited_opened shape c.args.setup.now.asks (rows_each c.args.captures.items)
    (asks_suit c.args.setup.now sizes.capacity sizes.writers sizes.nodes c.requires.lawful)))

pub returns-in_err-taken-clause-nodes : goal.returns-in_err-taken-clause-nodes
returns-in_err-taken-clause-nodes c =
    let why = c.in_err-taken.field-0.0 in
    let err : c.from_residual-in_err-taken.result ≡ Err why = search rules in
    rw err (λ e. more_opened (shape_for c.args.setup.now c.args.command.now.sizes) (rows_each c.args.captures.items)
    (subst (λ (cs : List CourseValue). Any NeedsMore (tasks_of cs)) (c.deref_mut.ensures.value ∙ c.in_ok-hosts.ensures.courses)
    (c.in_err-taken.ensures.nodes e)))

pub count_in_cut-requires-clause-few : goal.count_in_cut-requires-clause-few
count_in_cut-requires-clause-few c =
    let hosts = rows_each c.args.captures.items in
    let shape = shape_for c.args.setup.now c.args.command.now.sizes in
    let taken = c.in_ok-taken.taken in
    let pace : Pace = record { turns = c.args.command.now.turns; turn = c.args.command.now.turn } in
    let most = c.requires.command.sizes.capacity.1 in
    let told = told_opened shape hosts c.deref_mut.result.now (c.deref_mut.ensures.value ∙ c.in_ok-hosts.ensures.courses) pace c.asks.result.now taken
    c.in_ok-taken.ensures.value c.in_ok-taken.ensures.answers in
    subst (All (λ n. n ≤ 65536)) (sym c.deref.ensures.value)
    (cut_low 65536 hosts taken.cut.items told.cuts (λ k d lt. let few = c.requires.few k d lt in omega (arith, few, most)) told.within)

pub count_in_cut-requires-clause-hosts : goal.count_in_cut-requires-clause-hosts
count_in_cut-requires-clause-hosts c =
    let hosts = rows_each c.args.captures.items in
    let shape = shape_for c.args.setup.now c.args.command.now.sizes in
    let taken = c.in_ok-taken.taken in
    let pace : Pace = record { turns = c.args.command.now.turns; turn = c.args.command.now.turn } in
    let told = told_opened shape hosts c.deref_mut.result.now (c.deref_mut.ensures.value ∙ c.in_ok-hosts.ensures.courses) pace c.asks.result.now taken
    c.in_ok-taken.ensures.value c.in_ok-taken.ensures.answers in
    let cuts = ap (λ (ns : List ℕ). length ns) c.deref.ensures.value ∙ told.cuts in
    let many = length-map c.args.captures.items (λ host. host.rows.items) in
    let size = c.requires.size in
    let range = c.requires.command.hosts in
    omega (arith, cuts, many, size, range.1)

pub push_hosts-requires-clause-told : goal.push_hosts-requires-clause-told
push_hosts-requires-clause-told c =
    let hosts = rows_each c.args.captures.items in
    let shape = shape_for c.args.setup.now c.args.command.now.sizes in
    let taken = c.in_ok-taken.taken in
    let pace : Pace = record { turns = c.args.command.now.turns; turn = c.args.command.now.turn } in
    let opened = c.deref_mut.result.now in
    let new = c.take_snapshot.new.courses in
    let is = c.deref_mut.ensures.value ∙ c.in_ok-hosts.ensures.courses in
    let same = c.in_ok-taken.ensures.done.tasks_are in
    let told = told_opened shape hosts opened is pace c.asks.result.now taken c.in_ok-taken.ensures.value c.in_ok-taken.ensures.answers in
    let old = c.in_ok-hosts.hosts.courses in
    subst (λ (qs : List Ask). AreTold shape qs (rows_covered (take old.len (new ++ drop (length new) old.items))) taken) c.asks.ensures.asks
    (subst (λ (hs : List (List RowValue)). AreTold shape c.asks.result.now hs taken)
    (sym (ap rows_covered
    (courses_back opened new (drop (length new) c.in_ok-hosts.hosts.courses.items) c.in_ok-hosts.hosts.courses.len same c.deref_mut.ensures.len)
    ∙ rows_kept shape hosts opened is new same)) told)

pub returns-clause-text : goal.returns-clause-text
returns-clause-text c =
    let hosts = rows_each c.args.captures.items in
    let setup = c.args.setup.now in
    let shape = shape_for setup c.args.command.now.sizes in
    let pace : Pace = record { turns = c.args.command.now.turns; turn = c.args.command.now.turn } in
    let cut = c.in_ok-taken.taken.cut.items in
    let opened = c.deref_mut.result.now in
    let new = c.take_snapshot.new.courses in
    let is = c.deref_mut.ensures.value ∙ c.in_ok-hosts.ensures.courses in
    let same = c.in_ok-taken.ensures.done.tasks_are in
    record {
      cut = cut;
      cut_is = cut_opened shape hosts opened is pace cut c.in_ok-taken.ensures.cut;
      text_is = ap (λ bytes. bytes.items) c.into_bytes.ensures.value
          ∙ text_told shape setup cut hosts (ends_each c.args.captures.items) c.in_ok-hosts.hosts.ends.items _ c.count_in_cut.result
          (string_bytes c.new-text.result) (string_bytes c.push_cut.new.text) (string_bytes c.push_hosts.new.text) c.new-text.ensures.bytes
          c.in_ok-push_cut.ensures (c.count_in_cut.ensures ∙ ap (λ (ns : List ℕ). sum ns) c.deref.ensures.value)
          (ap rows_covered (courses_back opened new (drop (length new) c.in_ok-hosts.hosts.courses.items) c.in_ok-hosts.hosts.courses.len same
          c.deref_mut.ensures.len) ∙ rows_kept shape hosts opened is new same)
          c.in_ok-hosts.ensures.ends c.in_ok-push_hosts.ensures;
    }

pub returns-clause-room : goal.returns-clause-room
returns-clause-room c = λ k d lt. (
  c.requires.few k d lt,
  room_opened (shape_for c.args.setup.now c.args.command.now.sizes) (rows_each c.args.captures.items)
      (subst (λ (cs : List CourseValue). All (λ task. distinct task.shape task.rows ≤ (task.shape).nodes) (tasks_of cs))
      (c.deref_mut.ensures.value ∙ c.in_ok-hosts.ensures.courses) c.in_ok-taken.ensures.done.enough) k d lt,
)
