-- The states of a snapshot over hosts that cover their rows.
use Rattle.std.proofs.Common.{◌≡◌, ◌∙◌, ℕ, zero, suc, ◌+◌, ◌-◌, ◌*◌, ◌/◌, ◌%◌, ◌^◌, ◌<◌, ◌≤◌, Bool, true, false, nat_lt, All, Any, List, [], ◌++◌, length, set, min, fold, get_or, replicate, inl, inr, refl, sym, ap, subst, arith, add-zero, append_assoc, append-nil}
use Rattle.std.specs.List.{flat_map, range_with_len}
use Rattle.std.proofs.Math.Nat.{min-le_left, div-add-mod, mod-lt, lt_of_mul-lt-mul_left}
use Rattle.std.proofs.lemmas.Bool.{cases_lt, lt-ltb, ltb-true}
use Rattle.std.proofs.lemmas.List.{length-map, length-set, map-set, set-get_or, set-set, get_or_default, get_or-map, get_or-set_same}
use Rattle.std.proofs.lemmas.List.Sums.{fold-append}
use Rattle.cf_snapshot.specs.Courses.{CourseValue, TaskValue, AreFew, AreIn, NeedsMore, StandsIn, tasks_of, counts_of, going_state, freezing_state, passing_state}
use Rattle.cf_snapshot.specs.Plans.{rows_at, covered_after, turn_of_host, turns_round, turns_of_host, freeze_host, in_cut}
use Rattle.cf_snapshot.specs.Snapshots.{SnapValue, IsSnapshot, is_host, tail_of, is_frozen, is_under_way, is_lawful, changed, after, at_start, state_after}
use Rattle.cf_snapshot.specs.declared.event.SnapEvent.{SnapEvent}
use Rattle.cf_snapshot.specs.declared.event.SnapEvent.TheVariants.{Cover, Begin, Freeze, Thaw}
use Rattle.cf_snapshot.specs.declared.take.Pace.{Pace}
use Rattle.cf_snapshot.proofs.Lawful.{taken}
use Rattle.cf_snapshot.proofs.Planning.{fold_flat, own_before, Going, all_round, Freezing, freezing_start, freezing_on, Passing, passing_start, passing_on}

-- so many covers of a host
cover_run : (s : SnapValue) (h k : ℕ) → is_host s h ≡ true → is_frozen s h ≡ false → tail_of s h + k ≤ 2 ^ 20
    → fold after s (replicate k (Cover h)) ≡ record s { tails = set s.tails h (tail_of s h + k) }
cover_run s h zero exists free low =
    let none : tail_of s h + 0 ≡ tail_of s h = omega arith in
    sym (ap (λ (n : ℕ). record s { tails = set s.tails h n }) none ∙ ap (λ (xs : List ℕ). record s { tails = xs }) (set-get_or s.tails h 0))
cover_run s h (suc k) exists free low =
    let there = ltb-true h (length s.tails) exists in
    let small : nat_lt (tail_of s h) (2 ^ 20) ≡ true = lt-ltb (tail_of s h) (2 ^ 20) (omega (arith, low)) in
    let lawful : is_lawful s (Cover h) ≡ true = rw (exists, free, small) refl in
    let t : SnapValue = changed s (Cover h) in
    let one : after s (Cover h) ≡ t = taken s (Cover h) lawful in
    let own : tail_of t h ≡ tail_of s h + 1 = get_or-set_same s.tails h (tail_of s h + 1) 0 there in
    let still : is_host t h ≡ true = ap (nat_lt h) (length-set s.tails h (tail_of s h + 1)) ∙ exists in
    let rest = cover_run t h k still free (omega (arith, own, low)) in
    let sum : tail_of t h + k ≡ tail_of s h + suc k = omega (arith, own) in
    ap (λ (x : SnapValue). fold after x (replicate k (Cover h))) one ∙ rest
    ∙ ap (λ (n : ℕ). record s { tails = set (set s.tails h (tail_of s h + 1)) h n }) sum
    ∙ ap (λ (xs : List ℕ). record s { tails = xs }) (set-set s.tails h (tail_of s h + 1) (tail_of s h + suc k))

pub as_many : (s : SnapValue) (courses : List CourseValue) → AreIn s courses → length s.tails ≡ length courses
as_many s courses are = ap (λ (xs : List ℕ). length xs) are.tails ∙ length-map courses (λ (c : CourseValue). c.covered)

-- each host is in the snapshot
pub stands_at : (s : SnapValue) (courses : List CourseValue) (h : ℕ) (course : CourseValue) → AreIn s courses → h < length courses
    → course ≡ get_or courses h course → StandsIn s h course
stands_at s courses h course are lt is =
    let long = as_many s courses are in
    record {
      sized = are.sized;
      exists = lt-ltb h (length s.tails) (omega (arith, lt, long));
      tail = ap (λ (xs : List ℕ). get_or xs h 0) are.tails ∙ get_or-map (λ (c : CourseValue). c.covered) courses h course 0 lt
          ∙ ap (λ (c : CourseValue). c.covered) (sym is);
      frozen = ap (λ (bs : List Bool). get_or bs h false) are.frozen ∙ get_or-map (λ (c : CourseValue). c.is_frozen) courses h course false lt
          ∙ ap (λ (c : CourseValue). c.is_frozen) (sym is);
    }

-- and so after it changed
in_set : (s t : SnapValue) (courses : List CourseValue) (h : ℕ) (d : CourseValue) → AreIn s courses → IsSnapshot t → t.tails ≡ set s.tails h d.covered
    → t.frozen ≡ set s.frozen h d.is_frozen → AreIn t (set courses h d)
in_set s t courses h d are sized tails frozen = record {
  sized = sized;
  tails = tails ∙ ap (λ (xs : List ℕ). set xs h d.covered) are.tails ∙ sym (map-set (λ (c : CourseValue). c.covered) courses h d);
  frozen = frozen ∙ ap (λ (bs : List Bool). set bs h d.is_frozen) are.frozen ∙ sym (map-set (λ (c : CourseValue). c.is_frozen) courses h d);
}

module _ (s t : SnapValue) (courses : List CourseValue) (h : ℕ) (c d : CourseValue) (are : AreIn s courses) (lt : h < length courses)
    (is : c ≡ get_or courses h c) where
  stand : StandsIn s h c
  stand = stands_at s courses h c are lt is

  pub covered_state : (end : ℕ) → c.is_frozen ≡ false → c.covered ≤ end → end ≤ 2 ^ 20
      → t ≡ fold after s (replicate (end - c.covered) (Cover h)) → t ≡ record s { tails = set s.tails h end }
  covered_state end free from low state =
      let at = stand.tail in
      let sum : tail_of s h + (end - c.covered) ≡ end = omega (arith, at, from) in
      state ∙ cover_run s h (end - c.covered) stand.exists (stand.frozen ∙ free) (omega (arith, at, from, low))
      ∙ ap (λ (n : ℕ). record s { tails = set s.tails h n }) sum

  pub in_covered : (end : ℕ) → c.is_frozen ≡ false → c.covered ≤ end → end ≤ 2 ^ 20 → d ≡ record c { covered = end }
      → t ≡ fold after s (replicate (end - c.covered) (Cover h)) → AreIn t (set courses h d)
  in_covered end free from low same state =
      let now = covered_state end free from low state in
      let mark : get_or s.frozen h false ≡ d.is_frozen = stand.frozen ∙ sym (ap (λ (x : CourseValue). x.is_frozen) same) in
      let long = length-set s.tails h end in
      in_set s t courses h d are
      (subst IsSnapshot (sym now)
      (record { tails = refl; frozen = are.sized.frozen ∙ sym long; replies = are.sized.replies ∙ sym long; replied = are.sized.replied ∙ sym long }))
      (ap (λ (x : SnapValue). x.tails) now ∙ ap (λ (n : ℕ). set s.tails h n) (sym (ap (λ (x : CourseValue). x.covered) same)))
      (ap (λ (x : SnapValue). x.frozen) now ∙ sym (ap (λ (b : Bool). set s.frozen h b) (sym mark) ∙ set-get_or s.frozen h false))

  pub in_marked : (b : Bool) → d ≡ record c { is_frozen = b } → t ≡ record s { frozen = set s.frozen h b } → AreIn t (set courses h d)
  in_marked b same now =
      let own : get_or s.tails h 0 ≡ d.covered = stand.tail ∙ sym (ap (λ (x : CourseValue). x.covered) same) in
      in_set s t courses h d are
      (subst IsSnapshot (sym now)
      (record { tails = refl; frozen = length-set s.frozen h b ∙ are.sized.frozen; replies = are.sized.replies; replied = are.sized.replied }))
      (ap (λ (x : SnapValue). x.tails) now ∙ sym (ap (λ (n : ℕ). set s.tails h n) (sym own) ∙ set-get_or s.tails h 0))
      (ap (λ (x : SnapValue). x.frozen) now ∙ ap (λ (m : Bool). set s.frozen h m) (sym (ap (λ (x : CourseValue). x.is_frozen) same)))

  pub frozen_state : c.is_frozen ≡ false → is_under_way s ≡ true → t ≡ after s (Freeze h) → t ≡ record s { frozen = set s.frozen h true }
  frozen_state free time state =
      let free_too : is_frozen s h ≡ false = stand.frozen ∙ free in
      let lawful : is_lawful s (Freeze h) ≡ true = rw (stand.exists, time, free_too) refl in
      state ∙ taken s (Freeze h) lawful

  pub thawed_state : c.is_frozen ≡ true → s.is_released ≡ true → t ≡ after s (Thaw h) → t ≡ record s { frozen = set s.frozen h false }
  thawed_state frozen time state =
      let frozen_too : is_frozen s h ≡ true = stand.frozen ∙ frozen in
      let lawful : is_lawful s (Thaw h) ≡ true = rw (stand.exists, time, frozen_too) refl in
      state ∙ taken s (Thaw h) lawful

-- what a host is to do
module _ (courses : List CourseValue) (h : ℕ) (c : CourseValue) (lt : h < length courses) (is : c ≡ get_or courses h c) where
  pub task_is : get_or (tasks_of courses) h c.task ≡ c.task
  task_is = get_or-map (λ (x : CourseValue). x.task) courses h c c.task lt ∙ ap (λ (x : CourseValue). x.task) (sym is)

  pub task_low : h < length (tasks_of courses)
  task_low = (let long = length-map courses (λ (x : CourseValue). x.task) in omega (arith, lt, long))

  pub tasks_set : (d : CourseValue) → d.task ≡ c.task → tasks_of (set courses h d) ≡ tasks_of courses
  tasks_set d same = map-set (λ (x : CourseValue). x.task) courses h d ∙ ap (λ (t : TaskValue). set (tasks_of courses) h t) (same ∙ sym task_is)
      ∙ set-get_or (tasks_of courses) h c.task

  pub any_at : NeedsMore c.task → Any NeedsMore (tasks_of courses)
  any_at more = (h, c.task, task_low, task_is, more)

  pub count_at : rows_at (counts_of (tasks_of courses)) h ≡ length c.task.rows
  count_at = get_or-map (λ (t : TaskValue). length t.rows) (tasks_of courses) h c.task 0 task_low ∙ ap (λ (t : TaskValue). length t.rows) task_is

pub count_many : (courses : List CourseValue) → length (counts_of (tasks_of courses)) ≡ length courses
count_many courses = length-map (tasks_of courses) (λ (t : TaskValue). length t.rows) ∙ length-map courses (λ (c : CourseValue). c.task)

-- one number of a range more
flat_more : (f : ℕ → List SnapEvent) (a n : ℕ) → flat_map f (range_with_len a (n + 1)) ≡ flat_map f (range_with_len a n) ++ f (a + n)
flat_more f a zero = rw (add-zero a) (append-nil (f a))
flat_more f a (suc n) =
    let e : suc n + 1 ≡ suc (n + 1) = omega arith in
    let same : a + suc n ≡ a + 1 + n = omega arith in
    rw (e, same, append_assoc (f a) (flat_map f (range_with_len (a + 1) n)) (f (a + 1 + n))) (ap (λ (t : List SnapEvent). f a ++ t) (flat_more f (a + 1) n))

fold_more : (f : ℕ → List SnapEvent) (s : SnapValue) (a n : ℕ)
    → fold after s (flat_map f (range_with_len a (n + 1))) ≡ fold after (fold after s (flat_map f (range_with_len a n))) (f (a + n))
fold_more f s a n = ap (λ (es : List SnapEvent). fold after s es) (flat_more f a n) ∙ fold-append after s (flat_map f (range_with_len a n)) (f (a + n))

pub flat_step : (f : ℕ → List SnapEvent) (s t u : SnapValue) (n : ℕ) → t ≡ fold after s (flat_map f (range_with_len 0 n)) → u ≡ fold after t (f n)
    → u ≡ fold after s (flat_map f (range_with_len 0 (n + 1)))
flat_step f s t u n was is =
    let same : 0 + n ≡ n = omega arith in
    is ∙ ap (λ (x : SnapValue). fold after x (f n)) was ∙ ap (λ (k : ℕ). fold after (fold after s (flat_map f (range_with_len 0 n))) (f k)) (sym same)
    ∙ sym (fold_more f s 0 n)

-- a turn is what is left, or the next rows
turn_is : (rows turn n : ℕ) → min rows (min rows (turn * n) + turn) ≡ min rows (turn * (n + 1))
turn_is rows turn n = let wide : turn * (n + 1) ≡ turn * n + turn = omega arith in omega (arith, wide)

pub few_all : (counts : List ℕ) → AreFew counts → All (λ count. count ≤ 2 ^ 20) counts
few_all counts few k d lt = let low = few.rows k d lt in omega (arith, low)

module _ (pace : Pace) (counts : List ℕ) (few : AreFew counts) where
  abbrev low : All (λ count. count ≤ 2 ^ 20) counts
  low = few_all counts few

  -- the turn of host h, which had n
  turned : (h n count covered : ℕ) (s : SnapValue) → count ≡ rows_at counts h → covered ≡ covered_after pace.turn counts h n
      → fold after s (replicate (min count (covered + pace.turn) - covered) (Cover h)) ≡ fold after s (turn_of_host pace.turn counts h n)
  turned h n count covered s all had =
      let end : min count (covered + pace.turn) ≡ covered_after pace.turn counts h (n + 1) =
      ap (λ (k : ℕ). min k (covered + pace.turn)) all ∙ ap (λ (k : ℕ). min (rows_at counts h) (k + pace.turn)) had ∙ turn_is (rows_at counts h) pace.turn n in
      ap (λ (k : ℕ). fold after s (replicate (k - covered) (Cover h))) end
      ∙ ap (λ (k : ℕ). fold after s (replicate (covered_after pace.turn counts h (n + 1) - k) (Cover h))) had

  pub going_at : (n : ℕ) (s : SnapValue) → s ≡ state_after (length counts) (turns_round pace.turn counts n)
      → Going pace.turn counts n few.some low n s
  going_at n s is = subst (Going pace.turn counts n few.some low n) (sym is) (all_round pace.turn counts n few.some low)

  -- one turn more went round
  pub turns_more : (n h count covered : ℕ) (s : SnapValue) → s ≡ state_after (length counts) (turns_round pace.turn counts n) → h ≡ n % length counts
      → count ≡ rows_at counts h → covered ≡ tail_of s h
      → fold after s (replicate (min count (covered + pace.turn) - covered) (Cover h)) ≡ state_after (length counts) (turns_round pace.turn counts (n + 1))
  turns_more n h count covered s state whose all had =
      let hosts : ℕ = length counts in
      let g = going_at n s state in
      let there : n % hosts < hosts = mod-lt n few.some in
      let tail : tail_of s h ≡ covered_after pace.turn counts h (n / hosts) =
      subst (λ (k : ℕ). tail_of s k ≡ covered_after pace.turn counts k (n / hosts)) (sym whose)
      (g.tails (n % hosts) there ∙ ap (covered_after pace.turn counts (n % hosts)) (own_before hosts n few.some)) in
      let f : ℕ → List SnapEvent = λ j. turn_of_host pace.turn counts (j % hosts) (j / hosts) in
      let same : 0 + n ≡ n = omega arith in
      turned h (n / hosts) count covered s all (had ∙ tail)
      ∙ ap (λ (k : ℕ). fold after s (turn_of_host pace.turn counts k (n / hosts))) whose
      ∙ ap (λ (x : SnapValue). fold after x (f n)) state
      ∙ ap (λ (k : ℕ). fold after (state_after hosts (turns_round pace.turn counts n)) (f k)) (sym same)
      ∙ sym (fold_more f (at_start hosts) 0 n)

  -- once each host had so many turns, none has rows left
  late : (q h : ℕ) → 1 ≤ pace.turn → 65536 ≤ q → h < length counts → turn_of_host pace.turn counts h q ≡ []
  late q h some many there =
      let rows = few.rows h 0 there in
      let e : pace.turn ≡ 1 + (pace.turn - 1) = omega (arith, some) in
      let wide : q ≤ pace.turn * q = subst (λ (t : ℕ). q ≤ t * q) (sym e) (omega arith) in
      let more : pace.turn * q ≤ pace.turn * (q + 1) = omega arith in
      let none : covered_after pace.turn counts h (q + 1) - covered_after pace.turn counts h q ≡ 0 = omega (arith, rows, wide, more, many) in
      ap (λ (k : ℕ). replicate k (Cover h)) none

  rounds_late : (n d : ℕ) → 1 ≤ pace.turn → length counts * 65536 ≤ n → turns_round pace.turn counts (n + d) ≡ turns_round pace.turn counts n
  rounds_late n zero some past = ap (turns_round pace.turn counts) (add-zero n)
  rounds_late n (suc d) some past =
      let hosts : ℕ = length counts in
      let f : ℕ → List SnapEvent = λ j. turn_of_host pace.turn counts (j % hosts) (j / hosts) in
      let j : ℕ = n + d in
      let e : n + suc d ≡ j + 1 = omega arith in
      let same : 0 + j ≡ j = omega arith in
      let whole = div-add-mod j hosts in
      let below : j % hosts < hosts = mod-lt j few.some in
      let wide : hosts * (j / hosts + 1) ≡ hosts * (j / hosts) + hosts = omega arith in
      let less : 65536 < j / hosts + 1 = lt_of_mul-lt-mul_left hosts (omega (arith, whole, below, wide, past)) in
      let none : f (0 + j) ≡ [] = ap f same ∙ late (j / hosts) (j % hosts) some (omega (arith, less)) below in
      ap (turns_round pace.turn counts) e ∙ flat_more f 0 j ∙ ap (λ (es : List SnapEvent). turns_round pace.turn counts j ++ es) none
      ∙ append-nil (turns_round pace.turn counts j) ∙ rounds_late n d some past

  -- so the first turns have the state of all
  pub turns_enough : (n : ℕ) → 1 ≤ pace.turn → n ≡ min pace.turns (length counts * 65536)
      → state_after (length counts) (turns_round pace.turn counts n) ≡ going_state pace counts
  turns_enough n some is = elim (cases_lt pace.turns (length counts * 65536)) [
    | inl le ↦ let e : n ≡ pace.turns = omega (arith, is, le) in ap (λ (k : ℕ). state_after (length counts) (turns_round pace.turn counts k)) e
    | inr gt ↦
        let e : n ≡ length counts * 65536 = omega (arith, is, gt) in
        let sum : n + (pace.turns - n) ≡ pace.turns = omega (arith, e, gt) in
        ap (λ (es : List SnapEvent). state_after (length counts) es)
        (sym (rounds_late n (pace.turns - n) some (omega (arith, e))) ∙ ap (turns_round pace.turn counts) sum)
  ]

  -- the first n hosts are frozen
  pub freezing_at : (n : ℕ) → n ≤ length counts → Freezing pace.turn counts pace.turns few.some low n (freezing_state pace counts n)
  freezing_at n within =
      fold_flat (Freezing pace.turn counts pace.turns few.some low) (freeze_host pace.turn counts pace.turns) 0 n n (omega arith)
      (λ k t from to f. freezing_on pace.turn counts pace.turns few.some low k t (omega (arith, to, within)) f) (after (going_state pace counts) Begin)
      (freezing_start pace.turn counts pace.turns few.some low (going_state pace counts) (all_round pace.turn counts pace.turns few.some low))

  -- and of those above host n the first had their turn
  pub passing_at : (n m : ℕ) → n + 1 ≤ m → m ≤ length counts → Passing pace.turn counts pace.turns few.some low n m (passing_state pace counts n m)
  passing_at n m above within =
      fold_flat (Passing pace.turn counts pace.turns few.some low n)
      (λ k. turn_of_host pace.turn counts k (turns_of_host (length counts) pace.turns k + n)) (n + 1) (m - (n + 1)) m (omega (arith, above))
      (λ k t from to p. passing_on pace.turn counts pace.turns few.some low n k t from (omega (arith, to, within)) p)
      (after (freezing_state pace counts n) (Freeze n))
      (passing_start pace.turn counts pace.turns few.some low n (freezing_state pace counts n) (omega (arith, above, within))
      (freezing_at n (omega (arith, above, within))))

  pub passing_first : (n : ℕ) → after (freezing_state pace counts n) (Freeze n) ≡ passing_state pace counts n (n + 1)
  passing_first n =
      let none : 0 ≡ n + 1 - (n + 1) = omega arith in
      ap (λ (k : ℕ). fold after (after (freezing_state pace counts n) (Freeze n))
      (flat_map (λ above. turn_of_host pace.turn counts above (turns_of_host (length counts) pace.turns above + n)) (range_with_len (n + 1) k))) none

  pub passing_more : (n m count covered : ℕ) (s : SnapValue) → s ≡ passing_state pace counts n m → n + 1 ≤ m → m < length counts
      → count ≡ rows_at counts m → covered ≡ tail_of s m
      → fold after s (replicate (min count (covered + pace.turn) - covered) (Cover m)) ≡ passing_state pace counts n (m + 1)
  passing_more n m count covered s state above there all had =
      let f : ℕ → List SnapEvent = λ k. turn_of_host pace.turn counts k (turns_of_host (length counts) pace.turns k + n) in
      let p = passing_at n m above (omega (arith, there)) in
      let tail : tail_of s m ≡ covered_after pace.turn counts m (turns_of_host (length counts) pace.turns m + n) =
      ap (λ (x : SnapValue). tail_of x m) state ∙ p.going m there (omega (arith, above)) (omega arith) in
      let at : n + 1 + (m - (n + 1)) ≡ m = omega (arith, above) in
      let next : m - (n + 1) + 1 ≡ m + 1 - (n + 1) = omega (arith, above) in
      let begin : SnapValue = after (freezing_state pace counts n) (Freeze n) in
      turned m (turns_of_host (length counts) pace.turns m + n) count covered s all (had ∙ tail)
      ∙ ap (λ (x : SnapValue). fold after x (f m)) state
      ∙ ap (λ (k : ℕ). fold after (passing_state pace counts n m) (f k)) (sym at)
      ∙ sym (fold_more f begin (n + 1) (m - (n + 1)))
      ∙ ap (λ (k : ℕ). fold after begin (flat_map f (range_with_len (n + 1) k))) next

  pub passing_free : (n m : ℕ) (s : SnapValue) → s ≡ passing_state pace counts n m → n + 1 ≤ m → m < length counts → is_frozen s m ≡ false
  passing_free n m s state above there =
      ap (λ (x : SnapValue). is_frozen x m) state ∙ (passing_at n m above (omega (arith, there))).free m (omega (arith, above))

  -- after the turns of all above it one host more is frozen
  pub freezing_more : (n : ℕ) → n < length counts → passing_state pace counts n (length counts) ≡ freezing_state pace counts (n + 1)
  freezing_more n there =
      let f : ℕ → List SnapEvent = λ k. turn_of_host pace.turn counts k (turns_of_host (length counts) pace.turns k + n) in
      let hosts : ℕ = length counts in
      let same : hosts - (n + 1) ≡ hosts - 1 - n = omega (arith, there) in
      let at : 0 + n ≡ n = omega arith in
      ap (λ (k : ℕ). fold after (after (freezing_state pace counts n) (Freeze n)) (flat_map f (range_with_len (n + 1) k))) same
      ∙ ap (λ (k : ℕ). fold after (freezing_state pace counts n) (freeze_host pace.turn counts pace.turns k)) (sym at)
      ∙ sym (fold_more (freeze_host pace.turn counts pace.turns) (after (going_state pace counts) Begin) 0 n)

  pub freezing_free : (n : ℕ) (s : SnapValue) → s ≡ freezing_state pace counts n → n < length counts
      → (is_frozen s n ≡ false) × (is_under_way s ≡ true) × (tail_of s n ≡ in_cut pace.turn counts pace.turns n)
  freezing_free n s state there =
      let f = freezing_at n (omega (arith, there)) in
      let time : is_under_way (freezing_state pace counts n) ≡ true = rw (f.begun, f.released) refl in (
        ap (λ (x : SnapValue). is_frozen x n) state ∙ f.free n (omega arith),
        ap is_under_way state ∙ time,
        ap (λ (x : SnapValue). tail_of x n) state ∙ f.going n there (omega arith),
      )

  -- what is covered is no more than there is
  pub going_low : (n : ℕ) (s : SnapValue) → s ≡ state_after (length counts) (turns_round pace.turn counts n) → (h : ℕ) → h < length counts
      → tail_of s h ≤ rows_at counts h
  going_low n s state h there =
      let tail = (going_at n s state).tails h there in
      let under = min-le_left (rows_at counts h) (pace.turn * turns_of_host (length counts) n h) in
      omega (arith, tail, under)

  pub passing_low : (n m : ℕ) (s : SnapValue) → s ≡ passing_state pace counts n m → n + 1 ≤ m → m < length counts → tail_of s m ≤ rows_at counts m
  passing_low n m s state above there =
      let tail = ap (λ (x : SnapValue). tail_of x m) state ∙ (passing_at n m above (omega (arith, there))).going m there (omega (arith, above)) (omega arith) in
      let under = min-le_left (rows_at counts m) (pace.turn * (turns_of_host (length counts) pace.turns m + n)) in
      omega (arith, tail, under)

-- One host of those that there were at first, whose tasks are the same.
module _ (first : List CourseValue) (few : AreFew (counts_of (tasks_of first))) (s : SnapValue) (courses : List CourseValue) (h : ℕ)
    (r : CourseValue) (lt : h < length courses) (is : r ≡ get_or courses h r) (tasks : tasks_of courses ≡ tasks_of first) (are : AreIn s courses) where
  abbrev old : CourseValue
  old = get_or courses h r

  abbrev counts : List ℕ
  counts = counts_of (tasks_of first)

  pub old_is : old ≡ get_or courses h old
  old_is = ap (λ (d : CourseValue). get_or courses h d) is

  pub stand_old : StandsIn s h old
  stand_old = stands_at s courses h old are lt old_is

  pub all_old : length old.task.rows ≡ rows_at counts h
  all_old = sym (count_at courses h old lt old_is) ∙ ap (λ (ts : List TaskValue). rows_at (counts_of ts) h) tasks

  pub there_old : h < length counts
  there_old =
      let many = count_many courses in
      let same = ap (λ (ts : List TaskValue). length (counts_of ts)) tasks in
      omega (arith, lt, many, same)

  pub rows_few : rows_at counts h ≤ 65536
  rows_few = few.rows h 0 there_old

  pub kept : (d : CourseValue) → d.task ≡ old.task → tasks_of (set courses h d) ≡ tasks_of first
  kept d same = tasks_set courses h old lt old_is d same ∙ tasks

  pub any_old : NeedsMore old.task → Any NeedsMore (tasks_of first)
  any_old more = subst (Any NeedsMore) tasks (any_at courses h old lt old_is more)

  pub task_old : (d : TaskValue) → get_or (tasks_of first) h d ≡ old.task
  task_old d =
      let low : h < length (tasks_of courses) = task_low courses h old lt old_is in
      ap (λ (ts : List TaskValue). get_or ts h d) (sym tasks) ∙ get_or_default (tasks_of courses) h d old.task low ∙ task_is courses h old lt old_is

  pub turned_in : (pace : Pace) (t : SnapValue) (d : CourseValue) → old.is_frozen ≡ false → old.covered ≤ rows_at counts h
      → d ≡ record old { covered = min (length old.task.rows) (old.covered + pace.turn) }
      → t ≡ fold after s (replicate (min (length old.task.rows) (old.covered + pace.turn) - old.covered) (Cover h)) → AreIn t (set courses h d)
  turned_in pace t d free within same state =
      let all = all_old in
      let most = rows_few in
      in_covered s t courses h old d are lt old_is (min (length old.task.rows) (old.covered + pace.turn)) free (omega (arith, all, within))
      (omega (arith, all, most)) same state
