-- A snapshot that is taken of hosts which have covered none of their rows, and what is told of it.
use Rattle.std.proofs.Common.{◌≡◌, ◌∙◌, ℕ, ◌<◌, ◌≤◌, append_assoc, List, [], ◌∷◌, ◌++◌, Option, None, length, map, sum, take, get_or, All, Any, false, refl, sym, ap, ap₂, subst, inl, inr, arith}
use Rattle.std.specs.List.{flat_map, range_with_len}
use Rattle.std.proofs.Math.Seq.{take-append_seam}
use Rattle.std.proofs.lemmas.Bool.{cases_lt}
use Rattle.std.proofs.lemmas.List.{get_or-map, get_or_past, length-map}
use Rattle.std.proofs.lemmas.List.Elements.{All-from_get_or, All-map}
use Rattle.std.proofs.lemmas.List.FromFn.{get_or-map-range_with_len, length-range_with_len}
use Rattle.cf_row.specs.Row.{RowValue}
use Rattle.cf_row.specs.declared.row.Entry.{Entry}
use Rattle.cf_follow.specs.Followed.{truncated_line}
use Rattle.cf_plain.specs.History.{AskReply}
use Rattle.cf_plain.proofs.OneWriter.{alone}
use Rattle.cf_plain.specs.Asks.{Suits, eval_rows, rows_in}
use Rattle.cf_plain.specs.declared.ask.Ask.{Ask}
use Rattle.cf_plain.specs.declared.answer.Answer.{Answer}
use Rattle.cf_plain.specs.declared.answer.Body.{Body}
use Rattle.cf_report.specs.Answered.{IsWithin, tolds_of}
use Rattle.cf_report.specs.Meaning.{told_on}
use Rattle.cf_report.specs.Snapshot.{cut_line, host_part, host_text, host_text_at, rows_of_cut}
use Rattle.cf_report.specs.Tags.{bare, bare_entry, bare_log}
use Rattle.cf_report.proofs.Answering.{body_within}
use Rattle.cf_report.proofs.Bare.{host_bare}
use Rattle.cf_setup.specs.Setups.{SetupValue}
use Rattle.cf_shape.specs.Lanes.{ShapeValue}
use Rattle.cf_shape.specs.Nodes.{distinct}
use Rattle.cf_snapshot.specs.Courses.{AreAnswered, AreFew, AreIdle, AreSuited, CourseValue, NeedsMore, TaskValue, answers_on, counts_of, idle_course, tasks_of}
use Rattle.cf_snapshot.specs.Laws.{HasCut}
use Rattle.cf_snapshot.specs.Plans.{cut_by, events_of, in_cut}
use Rattle.cf_snapshot.specs.declared.take.Pace.{Pace}
use Rattle.cf_snapshot.specs.declared.take.Snapshot.{Snapshot}
use Rattle.cf_snapshot.proofs.Planning.{cut_within}
use Rattle.cf_run.specs.Hosts.{AreTold, host_lines_at, hosts_text, rows_covered}

-- Hosts whose logs have one shape.

cut_length : (turn : ℕ) (counts : List ℕ) (turns : ℕ) (cut : List ℕ) → cut ≡ cut_by turn counts turns → length cut ≡ length counts
cut_length turn counts turns cut is = ap (λ (ns : List ℕ). length ns) is ∙ length-map (range_with_len 0 (length counts)) (in_cut turn counts turns)
    ∙ length-range_with_len 0 (length counts)

abbrev task_for : ShapeValue → List RowValue → TaskValue
task_for shape rows = record { shape = shape; rows = rows }

counts_long : (hosts : List (List RowValue)) (host : ℕ) → get_or (map (λ (rows : List RowValue). length rows) hosts) host 0 ≡ length (get_or hosts host [])
counts_long hosts host = elim (cases_lt host (length hosts)) [
  | inl there ↦ get_or-map (λ (rows : List RowValue). length rows) hosts host [] 0 there
  | inr past ↦
      let long = length-map hosts (λ (rows : List RowValue). length rows) in
      get_or_past (map (λ (rows : List RowValue). length rows) hosts) host 0 (omega (arith, long, past))
      ∙ sym (ap (λ (rows : List RowValue). length rows) (get_or_past hosts host [] past))
]

rows_of_tasks : (courses : List CourseValue) → rows_covered courses ≡ map (λ (t : TaskValue). t.rows) (tasks_of courses)
rows_of_tasks [] = refl
rows_of_tasks (course ∷ courses) = ap (λ (hosts : List (List RowValue)). course.task.rows ∷ hosts) (rows_of_tasks courses)

module _ (shape : ShapeValue) where
  opened_tasks : (hosts : List (List RowValue)) → tasks_of (map (idle_course shape) hosts) ≡ map (task_for shape) hosts
  opened_tasks [] = refl
  opened_tasks (rows ∷ hosts) = ap (λ (ts : List TaskValue). task_for shape rows ∷ ts) (opened_tasks hosts)

  pub opened_counts : (hosts : List (List RowValue)) → counts_of (tasks_of (map (idle_course shape) hosts)) ≡ map (λ (rows : List RowValue). length rows) hosts
  opened_counts [] = refl
  opened_counts (rows ∷ hosts) = ap (λ (ns : List ℕ). length rows ∷ ns) (opened_counts hosts)

  opened_rows : (hosts : List (List RowValue)) → map (λ (t : TaskValue). t.rows) (tasks_of (map (idle_course shape) hosts)) ≡ hosts
  opened_rows [] = refl
  opened_rows (rows ∷ hosts) = ap (λ (hs : List (List RowValue)). rows ∷ hs) (opened_rows hosts)

  opened_at : (hosts : List (List RowValue)) (k : ℕ) (d : List RowValue) (t : TaskValue) → k < length hosts
      → get_or (tasks_of (map (idle_course shape) hosts)) k t ≡ task_for shape (get_or hosts k d)
  opened_at hosts k d t lt = ap (λ (ts : List TaskValue). get_or ts k t) (opened_tasks hosts) ∙ get_or-map (task_for shape) hosts k d t lt

  opened_many : (hosts : List (List RowValue)) → length (tasks_of (map (idle_course shape) hosts)) ≡ length hosts
  opened_many hosts = ap (λ (ts : List TaskValue). length ts) (opened_tasks hosts) ∙ length-map hosts (task_for shape)

  pub few_opened : (hosts : List (List RowValue)) → 0 < length hosts → length hosts ≤ 16 → All (λ rows. length rows ≤ 65536) hosts
      → AreFew (counts_of (tasks_of (map (idle_course shape) hosts)))
  few_opened hosts some many few =
      let long = length-map hosts (λ (rows : List RowValue). length rows) in
      subst AreFew (sym (opened_counts hosts)) (record {
        some = omega (arith, some, long);
        hosts = omega (arith, many, long);
        rows = All-map (λ n. n ≤ 65536) (λ (rows : List RowValue). length rows) hosts few;
      })

  pub idle_opened : (hosts : List (List RowValue)) → AreIdle (map (idle_course shape) hosts)
  idle_opened hosts = All-map (λ course. (course.covered ≡ 0) × (course.is_frozen ≡ false)) (idle_course shape) hosts (λ k d lt. (refl, refl))

  pub suited_opened : (asks : List Ask) (hosts : List (List RowValue)) → All (Suits shape) asks → AreSuited asks (tasks_of (map (idle_course shape) hosts))
  suited_opened asks hosts suit =
      All-map (λ task. All (Suits task.shape) asks) (λ (c : CourseValue). c.task) (map (idle_course shape) hosts)
      (All-map (λ course. All (Suits course.task.shape) asks) (idle_course shape) hosts (λ k d lt. suit))

  pub room_opened : (hosts : List (List RowValue)) → All (λ task. distinct task.shape task.rows ≤ (task.shape).nodes) (tasks_of (map (idle_course shape) hosts))
      → All (λ rows. distinct shape rows ≤ shape.nodes) hosts
  room_opened hosts enough k d lt =
      let many = opened_many hosts in
      subst (λ (t : TaskValue). distinct t.shape t.rows ≤ (t.shape).nodes) (opened_at hosts k d (task_for shape d) lt)
      (enough k (task_for shape d) (omega (arith, lt, many)))

  pub more_opened : (hosts : List (List RowValue)) → Any NeedsMore (tasks_of (map (idle_course shape) hosts))
      → Any (λ rows. shape.nodes < distinct shape rows) hosts
  more_opened hosts any =
      let many = opened_many hosts in
      let task : TaskValue = any.1 in
      let below = any.2 in
      let there : any.0 < length hosts = omega (arith, below, many) in
      let is : task ≡ task_for shape (get_or hosts any.0 task.rows) = sym any.3 ∙ opened_at hosts any.0 task.rows task there in (
        any.0,
        task.rows,
        there,
        sym (ap (λ (t : TaskValue). t.rows) is),
        subst (λ (s : ShapeValue). s.nodes < distinct s task.rows) (ap (λ (t : TaskValue). t.shape) is) any.4,
      )

  told_idle : (pace : Pace) (asks : List Ask) (hosts : List (List RowValue)) (taken : Snapshot)
      → taken.cut.items ≡ cut_by pace.turn (counts_of (tasks_of (map (idle_course shape) hosts))) pace.turns
      → AreAnswered pace asks (tasks_of (map (idle_course shape) hosts)) (length (map (idle_course shape) hosts)) taken.answers.items
      → AreTold shape asks hosts taken
  told_idle pace asks hosts taken cut_is answered =
      let counts = counts_of (tasks_of (map (idle_course shape) hosts)) in
      let counts_are = opened_counts hosts in
      let long : length counts ≡ length hosts = ap (λ (ns : List ℕ). length ns) counts_are ∙ length-map hosts (λ (rows : List RowValue). length rows) in
      let many = opened_many hosts in
      let all = length-map hosts (idle_course shape) in
      record {
        cuts = cut_length pace.turn counts pace.turns taken.cut.items cut_is ∙ long;
        within = λ host.
            (let at = ap (λ (ns : List ℕ). get_or ns host 0) cut_is in
            let within = cut_within pace.turn counts pace.turns host in
            let count = ap (λ (ns : List ℕ). get_or ns host 0) counts_are in
            let rows = counts_long hosts host in
            omega (arith, at, within, count, rows));
        count = answered.count ∙ all;
        each = λ host given there.
            (let task = opened_at hosts host [] (task_for shape []) there in
            let cut : get_or taken.cut.items host 0 ≡ in_cut pace.turn counts pace.turns host = ap (λ (ns : List ℕ). get_or ns host 0) cut_is
            ∙ get_or-map-range_with_len (in_cut pace.turn counts pace.turns) 0 (length counts) host host 0 (omega (arith, there, long)) (omega arith) in
            answered.each host (task_for shape []) given (omega (arith, there, all)) (omega (arith, there, many))
            ∙ ap₂ (λ (t : TaskValue) (n : ℕ). answers_on t.shape (take n t.rows) asks) task (sym cut));
      }

  -- what is taken of the opened hosts
  module _ (hosts : List (List RowValue)) (opened : List CourseValue) (is : opened ≡ map (idle_course shape) hosts) where
    pub told_opened : (pace : Pace) (asks : List Ask) (taken : Snapshot) → taken.cut.items ≡ cut_by pace.turn (counts_of (tasks_of opened)) pace.turns
        → AreAnswered pace asks (tasks_of opened) (length opened) taken.answers.items → AreTold shape asks hosts taken
    told_opened pace asks taken =
        subst (λ (cs : List CourseValue). taken.cut.items ≡ cut_by pace.turn (counts_of (tasks_of cs)) pace.turns
        → AreAnswered pace asks (tasks_of cs) (length cs) taken.answers.items → AreTold shape asks hosts taken) (sym is) (told_idle pace asks hosts taken)

    pub cut_opened : (pace : Pace) (cut : List ℕ) → HasCut (length opened) (events_of pace.turn (counts_of (tasks_of opened)) pace.turns) cut
        → HasCut (length hosts) (events_of pace.turn (map (λ (rows : List RowValue). length rows) hosts) pace.turns) cut
    cut_opened pace cut has =
        subst (λ (ns : List ℕ). HasCut (length hosts) (events_of pace.turn ns pace.turns) cut) (opened_counts hosts)
        (subst (λ (n : ℕ). HasCut n (events_of pace.turn (counts_of (tasks_of (map (idle_course shape) hosts))) pace.turns) cut)
        (length-map hosts (idle_course shape))
        (subst (λ (cs : List CourseValue). HasCut (length cs) (events_of pace.turn (counts_of (tasks_of cs)) pace.turns) cut) is has))

    pub rows_kept : (courses : List CourseValue) → tasks_of courses ≡ tasks_of opened → rows_covered courses ≡ hosts
    rows_kept courses same = rows_of_tasks courses
        ∙ ap (λ (ts : List TaskValue). map (λ (t : TaskValue). t.rows) ts) (same ∙ ap (λ (cs : List CourseValue). tasks_of cs) is) ∙ opened_rows hosts

-- as many hosts stand where they stood
pub courses_back : (opened courses more : List CourseValue) (n : ℕ) → tasks_of courses ≡ tasks_of opened → length opened ≡ n
    → take n (courses ++ more) ≡ courses
courses_back opened courses more n same long =
    let many : length courses ≡ n = sym (length-map courses (λ (c : CourseValue). c.task)) ∙ ap (λ (ts : List TaskValue). length ts) same
    ∙ length-map opened (λ (c : CourseValue). c.task) ∙ long in
    subst (λ (m : ℕ). take m (courses ++ more) ≡ courses) many (take-append_seam courses more)

-- a cut has no more rows of a host than hosts have
pub cut_low : (most : ℕ) (hosts : List (List RowValue)) (cut : List ℕ) → length cut ≡ length hosts → All (λ rows. length rows ≤ most) hosts
    → ((host : ℕ) → get_or cut host 0 ≤ length (get_or hosts host [])) → All (λ n. n ≤ most) cut
cut_low most hosts cut same few within =
    All-from_get_or (λ n. n ≤ most) cut 0 (λ k lt. let low = within k in let high = few k [] (omega (arith, lt, same)) in omega (arith, low, high))

-- What is told of a host.

-- the entries of one writer, without the values of their rows
tagged : (rows : List RowValue) → map (λ (row : RowValue). bare_entry row.num 0) rows ≡ bare (alone rows)
tagged [] = refl
tagged (row ∷ rows) = ap (λ (es : List Entry). bare_entry row.num 0 ∷ es) (tagged rows)

rows_alone : (rows : List RowValue) → rows_in (alone rows) ≡ rows
rows_alone [] = refl
rows_alone (row ∷ rows) = ap (λ (rs : List RowValue). row ∷ rs) (rows_alone rows)

pub bare_rows : (rows : List RowValue)
    → bare_log (map (λ (row : RowValue). row.num) rows) (map (λ (row : RowValue). 0) rows) ≡ map (λ (row : RowValue). bare_entry row.num 0) rows
bare_rows [] = refl
bare_rows (row ∷ rows) = ap (λ (es : List Entry). bare_entry row.num 0 ∷ es) (bare_rows rows)

module _ (shape : ShapeValue) (rows : List RowValue) where
  tolds_answered : (asks : List Ask) → tolds_of asks (answers_on shape rows asks) ≡ map (told_on shape rows) asks
  tolds_answered [] = refl
  tolds_answered (ask ∷ asks) = ap (λ (ts : List (AskReply Ask Body)). told_on shape rows ask ∷ ts) (tolds_answered asks)

  pub answers_long : (asks : List Ask) (answers : List Answer) → answers ≡ answers_on shape rows asks → length answers ≡ length asks
  answers_long asks answers are =
      ap (λ (given : List Answer). length given) are ∙ length-map asks (λ ask. record { tail = length rows; body = eval_rows shape ask rows })

  pub answers_within : (asks : List Ask) (answers : List Answer) (n : ℕ) → answers ≡ answers_on shape rows asks → n ≡ length rows
      → All (λ answer. IsWithin n answer.body) answers
  answers_within asks answers n are long =
      subst (λ (given : List Answer). All (λ answer. IsWithin n answer.body) given) (sym are)
      (subst (λ (m : ℕ). All (λ answer. IsWithin m answer.body) (answers_on shape rows asks)) (sym long)
      (All-map (λ answer. IsWithin (length rows) answer.body) (λ ask. record { tail = length rows; body = eval_rows shape ask rows }) asks
      (λ k d lt. body_within shape (get_or asks k d) rows)))

  pub host_answered : (setup : SetupValue) (host : ℕ) (tags : List Entry) (answers : List Answer)
      → tags ≡ map (λ (row : RowValue). bare_entry row.num 0) rows → answers ≡ answers_on shape rows setup.asks
      → host_part setup host (rows_in tags) (tolds_of setup.asks answers) ≡ host_text shape setup host rows
  host_answered setup host tags answers tags_are answers_are =
      ap (λ (es : List Entry). host_part setup host (rows_in es) (tolds_of setup.asks answers)) (tags_are ∙ tagged rows)
      ∙ host_bare setup (alone rows) host (tolds_of setup.asks answers)
      ∙ ap (λ (rs : List RowValue). host_part setup host rs (tolds_of setup.asks answers)) (rows_alone rows)
      ∙ ap (host_part setup host rows) (ap (tolds_of setup.asks) answers_are ∙ tolds_answered setup.asks)

-- the rows that are read for it are those in the cut
pub rows_front : (cut : List ℕ) (courses : List CourseValue) (host : ℕ) (course : CourseValue) (rows : List RowValue) → host < length courses
    → course ≡ get_or courses host course → rows ≡ course.task.rows → take (get_or cut host 0) rows ≡ rows_of_cut cut (rows_covered courses) host
rows_front cut courses host course rows there is are =
    ap (λ (rs : List RowValue). take (get_or cut host 0) rs)
    (are ∙ ap (λ (x : CourseValue). x.task.rows) is ∙ sym (get_or-map (λ (x : CourseValue). x.task.rows) courses host course [] there))

-- the line of its capture stands behind its part
pub host_lines : (shape : ShapeValue) (setup : SetupValue) (cut : List ℕ) (hosts : List (List RowValue)) (ends : List (Option ℕ)) (host : ℕ)
    (before mid after : List ℕ) (end : Option ℕ) → mid ≡ before ++ host_text_at shape setup cut hosts host → after ≡ mid ++ truncated_line end
    → end ≡ get_or ends host None → after ≡ before ++ host_lines_at shape setup cut hosts ends host
host_lines shape setup cut hosts ends host before mid after end told ended is =
    ended ∙ ap (λ (text : List ℕ). text ++ truncated_line end) told ∙ append_assoc before (host_text_at shape setup cut hosts host) (truncated_line end)
    ∙ ap (λ (e : Option ℕ). before ++ (host_text_at shape setup cut hosts host ++ truncated_line e)) is

-- the text is that of the cut and all hosts
pub text_told : (shape : ShapeValue) (setup : SetupValue) (cut : List ℕ) (hosts : List (List RowValue)) (ends given : List (Option ℕ))
    (courses : List CourseValue) (total : ℕ) (before mid after : List ℕ) → before ≡ [] → mid ≡ before ++ cut_line total → total ≡ sum cut
    → rows_covered courses ≡ hosts → given ≡ ends
    → after ≡ mid ++ flat_map (host_lines_at shape setup cut (rows_covered courses) given) (range_with_len 0 (length courses))
    → after ≡ hosts_text shape setup cut hosts ends
text_told shape setup cut hosts ends given courses total before mid after none first total_is rows_are ends_are rest =
    let many : length courses ≡ length hosts = sym (length-map courses (λ (c : CourseValue). c.task.rows))
    ∙ ap (λ (hs : List (List RowValue)). length hs) rows_are in
    rest
    ∙ ap₂ (λ (xs ys : List ℕ). xs ++ ys) (first ∙ ap (λ (xs : List ℕ). xs ++ cut_line total) none ∙ ap (λ (n : ℕ). cut_line n) total_is)
    (ap₂ (λ (hs : List (List RowValue)) (es : List (Option ℕ)). flat_map (host_lines_at shape setup cut hs es)
    (range_with_len 0 (length courses))) rows_are ends_are
    ∙ ap (λ (n : ℕ). flat_map (host_lines_at shape setup cut hosts ends) (range_with_len 0 n)) many)
