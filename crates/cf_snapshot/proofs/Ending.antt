-- The release of the hosts, and what they cover after it.
use Rattle.std.proofs.Common.{◌≡◌, ◌∙◌, ℕ, zero, suc, ◌+◌, ◌<◌, ◌≤◌, Bool, true, false, List, [], ◌∷◌, ◌++◌, length, map, set, take, fold, get_or, inl, inr, refl, sym, ap, subst, arith, add-zero}
use Rattle.std.specs.List.{range_with_len}
use Rattle.std.proofs.lemmas.Bool.{cases_eq, cases_lt, lt-ltb}
use Rattle.std.proofs.lemmas.List.{get_or-set_same, get_or-set_other, get_or_append_left, get_or_past, get_or_push, get_or-map, ext_get_or, length-append, length-map}
use Rattle.std.proofs.lemmas.List.Sums.{fold-append}
use Rattle.std.specs.Global.{Global}
use Rattle.std.specs.Prelude.{Vec}
use Rattle.cf_plain.specs.declared.answer.Answer.{Answer}
use Rattle.cf_plain.specs.declared.ask.Ask.{Ask}
use Rattle.cf_shape.specs.Nodes.{distinct}
use Rattle.cf_snapshot.specs.Courses.{CourseValue, TaskValue, AreAnswered, AreDone, AreIn, answers_on, tasks_of, counts_of}
use Rattle.cf_snapshot.specs.Laws.{AllFrozen}
use Rattle.cf_snapshot.specs.Plans.{in_cut, rows_at}
use Rattle.cf_snapshot.specs.Snapshots.{SnapValue, is_host, tail_of, is_frozen, is_under_way, is_lawful, after}
use Rattle.cf_snapshot.specs.declared.event.SnapEvent.{SnapEvent}
use Rattle.cf_snapshot.specs.declared.event.SnapEvent.TheVariants.{Reply}
use Rattle.cf_snapshot.specs.declared.take.Pace.{Pace}
use Rattle.cf_snapshot.proofs.Lawful.{taken}

-- one event of a range more
map_more : (f : ℕ → SnapEvent) (a n : ℕ) → map f (range_with_len a (n + 1)) ≡ map f (range_with_len a n) ++ f (a + n) ∷ []
map_more f a zero = rw (add-zero a) refl
map_more f a (suc n) =
    let e : suc n + 1 ≡ suc (n + 1) = omega arith in
    let same : a + suc n ≡ a + 1 + n = omega arith in
    rw (e, same) (ap (λ (t : List SnapEvent). f a ∷ t) (map_more f (a + 1) n))

pub map_step : (f : ℕ → SnapEvent) (s t u : SnapValue) (n : ℕ) → t ≡ fold after s (map f (range_with_len 0 n)) → u ≡ after t (f n)
    → u ≡ fold after s (map f (range_with_len 0 (n + 1)))
map_step f s t u n was is =
    let same : 0 + n ≡ n = omega arith in
    is ∙ ap (λ (x : SnapValue). after x (f n)) was ∙ ap (λ (k : ℕ). after (fold after s (map f (range_with_len 0 n))) (f k)) (sym same)
    ∙ sym (ap (λ (es : List SnapEvent). fold after s es) (map_more f 0 n) ∙ fold-append after s (map f (range_with_len 0 n)) (f (0 + n) ∷ []))

-- what a reply leaves as it was
pub record Stays (s t : SnapValue) : Type 0 where
  pub tails : t.tails ≡ s.tails
  pub frozen : t.frozen ≡ s.frozen
  pub begun : t.has_begun ≡ s.has_begun
  pub released : t.is_released ≡ s.is_released

pub stays_first : (s : SnapValue) → Stays s s
stays_first s = record { tails = refl; frozen = refl; begun = refl; released = refl }

module _ (s t : SnapValue) (h : ℕ) (stays : Stays s t) (time : is_under_way s ≡ true) (all : AllFrozen s) (there : h < length s.tails) where
  pub reply_lawful : is_lawful t (Reply h) ≡ true
  reply_lawful =
      let many = ap (λ (xs : List ℕ). length xs) stays.tails in
      let exists : is_host t h ≡ true = lt-ltb h (length t.tails) (omega (arith, there, many)) in
      let going : is_under_way t ≡ true = rw (stays.begun, stays.released) time in
      let frozen : is_frozen t h ≡ true = ap (λ (bs : List Bool). get_or bs h false) stays.frozen ∙ all h there in
      rw (exists, going, frozen) refl

  pub reply_stays : (u : SnapValue) → u ≡ after t (Reply h) → Stays s u
  reply_stays u is = subst (Stays s) (sym (is ∙ taken t (Reply h) reply_lawful))
      (record { tails = stays.tails; frozen = stays.frozen; begun = stays.begun; released = stays.released })

-- the first n hosts are free again
pub record Thawing (s : SnapValue) (n : ℕ) (t : SnapValue) : Type 0 where
  pub tails : t.tails ≡ s.tails
  pub released : t.is_released ≡ true
  pub free : (h : ℕ) → h < n → is_frozen t h ≡ false
  pub frozen : (h : ℕ) → n ≤ h → h < length s.tails → is_frozen t h ≡ true

pub thawing_first : (s : SnapValue) → s.is_released ≡ true → AllFrozen s → Thawing s 0 s
thawing_first s released all = record { tails = refl; released = released; free = λ h less. absurd (omega (arith, less)); frozen = λ h le there. all h there }

pub thawing_more : (s t u : SnapValue) (n : ℕ) → Thawing s n t → n < length t.frozen → u ≡ record t { frozen = set t.frozen n false } → Thawing s (n + 1) u
thawing_more s t u n w there is = subst (Thawing s (n + 1)) (sym is) (record {
  tails = w.tails;
  released = w.released;
  free = λ h less. elim (cases_eq h n) [
    | inl same ↦ rw same (get_or-set_same t.frozen n false false there)
    | inr other ↦ get_or-set_other t.frozen n h false false other ∙ w.free h (omega (arith, less, other))
  ];
  frozen = λ h le low. get_or-set_other t.frozen n h false false (λ same. let e : h ≡ n = same in absurd (omega (arith, le, e)))
      ∙ w.frozen h (omega (arith, le)) low;
})

pub all_free : (s t : SnapValue) (n : ℕ) → Thawing s n t → length t.frozen ≤ n → (h : ℕ) → is_frozen t h ≡ false
all_free s t n w whole h = elim (cases_lt h n) [ inl less ↦ w.free h less | inr ge ↦ get_or_past t.frozen h false (omega (arith, ge, whole)) ]

-- the first n hosts have covered all their rows, and the others none since
pub record Covering (s : SnapValue) (tasks : List TaskValue) (n : ℕ) (t : SnapValue) : Type 0 where
  pub frozen : t.frozen ≡ s.frozen
  pub done : (h : ℕ) → h < n → tail_of t h ≡ rows_at (counts_of tasks) h
  pub later : (h : ℕ) → n ≤ h → tail_of t h ≡ tail_of s h
  pub enough : (h : ℕ) (d : TaskValue) → h < n → distinct (get_or tasks h d).shape (get_or tasks h d).rows ≤ ((get_or tasks h d).shape).nodes

pub covering_first : (s : SnapValue) (tasks : List TaskValue) → Covering s tasks 0 s
covering_first s tasks = record {
  frozen = refl;
  done = λ h less. absurd (omega (arith, less));
  later = λ h le. refl;
  enough = λ h d less. absurd (omega (arith, less));
}

pub covering_more : (s t u : SnapValue) (tasks : List TaskValue) (n : ℕ) (task : TaskValue) → Covering s tasks n t → n < length t.tails
    → ((d : TaskValue) → get_or tasks n d ≡ task) → u ≡ record t { tails = set t.tails n (rows_at (counts_of tasks) n) }
    → distinct task.shape task.rows ≤ (task.shape).nodes → Covering s tasks (n + 1) u
covering_more s t u tasks n task w there here is few = subst (Covering s tasks (n + 1)) (sym is) (record {
  frozen = w.frozen;
  done = λ h less. elim (cases_eq h n) [
    | inl same ↦ rw same (get_or-set_same t.tails n (rows_at (counts_of tasks) n) 0 there)
    | inr other ↦ get_or-set_other t.tails n h (rows_at (counts_of tasks) n) 0 other ∙ w.done h (omega (arith, less, other))
  ];
  later = λ h le. get_or-set_other t.tails n h (rows_at (counts_of tasks) n) 0 (λ same. let e : h ≡ n = same in absurd (omega (arith, le, e)))
      ∙ w.later h (omega (arith, le));
  enough = λ h d less. elim (cases_eq h n) [
    | inl same ↦ subst (λ (k : ℕ). distinct (get_or tasks k d).shape (get_or tasks k d).rows ≤ ((get_or tasks k d).shape).nodes) (sym same)
        (subst (λ (x : TaskValue). distinct x.shape x.rows ≤ (x.shape).nodes) (sym (here d)) few)
    | inr other ↦ w.enough h d (omega (arith, less, other))
  ];
})

-- after the last host all is done
pub all_done : (s t : SnapValue) (first courses : List CourseValue) (n : ℕ) → tasks_of courses ≡ tasks_of first → AreIn t courses
    → Covering s (tasks_of first) n t → ((h : ℕ) → is_frozen s h ≡ false) → length courses ≤ n → AreDone (tasks_of first) courses
all_done s t first courses n tasks are w free end = record {
  tasks_are = tasks;
  covered = sym are.tails ∙ ext_get_or 0 t.tails counts sized (λ h low. w.done h (omega (arith, low, long, end)));
  free = λ h d low.
      sym (get_or-map (λ (c : CourseValue). c.is_frozen) courses h d false low) ∙ ap (λ (bs : List Bool). get_or bs h false) (sym are.frozen ∙ w.frozen) ∙ free h;
  enough = λ h d low. w.enough h d (omega (arith, low, many, same, end));
}
  where
    counts : List ℕ
    counts = counts_of (tasks_of first)

    long : length t.tails ≡ length courses
    long = ap (λ (xs : List ℕ). length xs) are.tails ∙ length-map courses (λ (c : CourseValue). c.covered)

    same : length (tasks_of courses) ≡ length (tasks_of first)
    same = ap (λ (ts : List TaskValue). length ts) tasks

    many : length (tasks_of courses) ≡ length courses
    many = length-map courses (λ (c : CourseValue). c.task)

    sized : length t.tails ≡ length counts
    sized = long ∙ sym many ∙ same ∙ sym (length-map (tasks_of first) (λ (task : TaskValue). length task.rows))

-- one host more has answered
pub answered_more : (pace : Pace) (asks : List Ask) (tasks : List TaskValue) (n : ℕ) (answers : List (Vec Answer Global)) (given : Vec Answer Global)
    → AreAnswered pace asks tasks n answers
    → ((task : TaskValue) → given.items ≡ answers_on (get_or tasks n task).shape (take (in_cut pace.turn (counts_of tasks) pace.turns n) (get_or tasks n task).rows) asks)
    → AreAnswered pace asks tasks (n + 1) (answers ++ given ∷ [])
answered_more pace asks tasks n answers given was is = record {
  count = (let long = length-append answers (given ∷ []) in let many = was.count in omega (arith, long, many));
  each = λ h task e low there. elim (cases_eq h n) [
    | inl same ↦ ap (λ (v : Vec Answer Global). v.items) (get_or_push answers given e h (was.count ∙ sym same)) ∙ at h task same
    | inr other ↦
        let many = was.count in
        ap (λ (v : Vec Answer Global). v.items) (get_or_append_left answers (given ∷ []) e h (omega (arith, low, other, many)))
        ∙ was.each h task e (omega (arith, low, other)) there
  ];
}
  where
    at : (h : ℕ) (task : TaskValue) → h ≡ n
        → given.items ≡ answers_on (get_or tasks h task).shape (take (in_cut pace.turn (counts_of tasks) pace.turns h) (get_or tasks h task).rows) asks
    at h task same = subst
        (λ (k : ℕ). given.items ≡ answers_on (get_or tasks k task).shape (take (in_cut pace.turn (counts_of tasks) pace.turns k) (get_or tasks k task).rows) asks)
        (sym same) (is task)
