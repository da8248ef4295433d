-- A whole snapshot: from the first turn to the last row.
use Rattle.std.proofs.Common.{◌≡◌, ◌∙◌, ℕ, zero, suc, ◌+◌, ◌-◌, ◌*◌, ◌^◌, ◌<◌, ◌≤◌, Bool, true, false, All, List, [], ◌∷◌, ◌++◌, length, map, fold, replicate, Some, refl, sym, ap, ap₂, subst, arith}
use Rattle.std.specs.List.{flat_map, range_with_len}
use Rattle.std.proofs.Math.Nat.{min-le_left}
use Rattle.std.proofs.lemmas.List.{length-replicate}
use Rattle.std.proofs.lemmas.List.Sums.{fold-append}
use Rattle.cf_snapshot.specs.Courses.{CourseValue, AreFew, AreIdle, AreIn, counts_of, freezing_state, going_state, tasks_of}
use Rattle.cf_snapshot.specs.Plans.{rows_at, turns_round, turns_of_host, freezing, releasing, cover_left, events_of, in_cut, cut_by}
use Rattle.cf_snapshot.specs.Snapshots.{SnapValue, IsOf, is_frozen, is_under_way, is_lawful, tail_of, after, at_start, state_after, cut_of}
use Rattle.cf_snapshot.specs.declared.event.SnapEvent.{SnapEvent}
use Rattle.cf_snapshot.specs.declared.event.SnapEvent.TheVariants.{Cover, Begin, Reply, Release, Thaw}
use Rattle.cf_snapshot.specs.declared.take.Pace.{Pace}
use Rattle.cf_snapshot.proofs.Driving.{count_many, few_all, freezing_at}
use Rattle.cf_snapshot.proofs.Lawful.{taken}
use Rattle.cf_snapshot.proofs.Planning.{fold_map, Going, all_round, Replying, replying_start, replying_on, release_lawful, plans_have_cuts}

-- hosts that have done nothing are those of a snapshot in which nothing has happened
idle_tails : (courses : List CourseValue) → AreIdle courses → replicate (length courses) 0 ≡ map (λ (c : CourseValue). c.covered) courses
idle_tails [] idle = refl
idle_tails (c ∷ cs) idle =
    ap₂ (λ (n : ℕ) (ns : List ℕ). n ∷ ns) (sym (idle 0 c (omega arith)).0) (idle_tails cs (λ k d low. idle (suc k) d (omega (arith, low))))

idle_marks : (courses : List CourseValue) → AreIdle courses → replicate (length courses) false ≡ map (λ (c : CourseValue). c.is_frozen) courses
idle_marks [] idle = refl
idle_marks (c ∷ cs) idle =
    ap₂ (λ (b : Bool) (bs : List Bool). b ∷ bs) (sym (idle 0 c (omega arith)).1) (idle_marks cs (λ k d low. idle (suc k) d (omega (arith, low))))

pub idle_in : (courses : List CourseValue) → AreIdle courses → AreIn (at_start (length courses)) courses
idle_in courses idle =
    let long = length-replicate (length courses) 0 in
    let wide = length-replicate (length courses) false in
    record {
      sized = record { tails = refl; frozen = wide ∙ sym long; replies = refl; replied = wide ∙ sym long };
      tails = idle_tails courses idle;
      frozen = idle_marks courses idle;
    }

flat_same : (f g : ℕ → List SnapEvent) (a n : ℕ) → ((k : ℕ) → k < a + n → f k ≡ g k) → flat_map f (range_with_len a n) ≡ flat_map g (range_with_len a n)
flat_same f g a zero same = refl
flat_same f g a (suc n) same = ap₂ (λ (xs ys : List SnapEvent). xs ++ ys) (same a (omega arith)) (flat_same f g (a + 1) n (λ k low. same k (omega (arith, low))))

module _ (pace : Pace) (counts : List ℕ) (few : AreFew counts) where
  abbrev hosts : ℕ
  hosts = length counts

  abbrev low : All (λ count. count ≤ 2 ^ 20) counts
  low = few_all counts few

  -- freezing begins
  pub begins : (s : SnapValue) → s ≡ going_state pace counts → is_lawful s Begin ≡ true
  begins s is = (let g = subst (Going pace.turn counts pace.turns few.some low pace.turns) (sym is) (all_round pace.turn counts pace.turns few.some low) in
      rw g.begun refl)

  -- all are frozen, and all have replied
  pub frozen_state_all : (s : SnapValue) → s ≡ freezing_state pace counts hosts
      → (is_under_way s ≡ true) × ((h : ℕ) → h < hosts → is_frozen s h ≡ true) × (length s.tails ≡ hosts)
  frozen_state_all s is =
      let f = freezing_at pace counts few hosts (omega arith) in
      let time : is_under_way (freezing_state pace counts hosts) ≡ true = rw (f.begun, f.released) refl in (
        ap is_under_way is ∙ time,
        λ h there. ap (λ (x : SnapValue). is_frozen x h) is ∙ f.frozen h there,
        ap (λ (x : SnapValue). length x.tails) is ∙ f.sound.lens.tails,
      )

  abbrev replied : SnapValue
  replied = fold after (freezing_state pace counts hosts) (map (λ x. Reply x) (range_with_len 0 hosts))

  all_replied : Replying pace.turn counts pace.turns few.some low hosts replied
  all_replied =
      fold_map (Replying pace.turn counts pace.turns few.some low) (λ x. Reply x) 0 hosts hosts (omega arith)
      (λ k t from to r. replying_on pace.turn counts pace.turns few.some low k t to r) (freezing_state pace counts hosts)
      (replying_start pace.turn counts pace.turns few.some low (freezing_state pace counts hosts) (freezing_at pace counts few hosts (omega arith)))

  module _ (s : SnapValue) (is : s ≡ fold after (freezing_state pace counts hosts) (map (λ x. Reply x) (range_with_len 0 hosts))) where
    pub releases : is_lawful s Release ≡ true
    releases = ap (λ (x : SnapValue). is_lawful x Release) is ∙ release_lawful pace.turn counts pace.turns few.some low replied all_replied

    -- after the release the tails are those of the cut
    pub released : (t : SnapValue) → t ≡ after s Release → t ≡ record s { is_released = true }
    released t now = now ∙ taken s Release releases

    pub replied_tails : (h : ℕ) → h < hosts → tail_of s h ≡ in_cut pace.turn counts pace.turns h
    replied_tails h there = ap (λ (x : SnapValue). tail_of x h) is ∙ all_replied.tails h there

    pub replied_frozen : (h : ℕ) → h < hosts → is_frozen s h ≡ true
    replied_frozen h there = ap (λ (x : SnapValue). is_frozen x h) is ∙ all_replied.frozen h there

    pub replied_sized : length s.tails ≡ hosts
    replied_sized = ap (λ (x : SnapValue). length x.tails) is ∙ all_replied.sound.lens.tails

    pub replied_snapshot : (courses : List CourseValue) → s.tails ≡ map (λ (c : CourseValue). c.covered) courses
        → s.frozen ≡ map (λ (c : CourseValue). c.is_frozen) courses → (t : SnapValue) → t ≡ record s { is_released = true } → AreIn t courses
    replied_snapshot courses tails frozen t now =
        let l = subst (IsOf hosts) (sym is) all_replied.sound.lens in
        subst (λ (x : SnapValue). AreIn x courses) (sym now) (record {
          sized = record { tails = refl; frozen = l.frozen ∙ sym l.tails; replies = l.replies ∙ sym l.tails; replied = l.replied ∙ sym l.tails };
          tails = tails;
          frozen = frozen;
        })

    -- and all events are those of the plan
    pub whole : (t u v : SnapValue) → t ≡ after s Release → u ≡ fold after t (map (λ x. Thaw x) (range_with_len 0 hosts))
        → ((h : ℕ) → h < hosts → tail_of u h ≡ in_cut pace.turn counts pace.turns h)
        → v ≡ fold after u (flat_map (λ h. replicate (rows_at counts h - tail_of u h) (Cover h)) (range_with_len 0 hosts))
        → v ≡ state_after hosts (events_of pace.turn counts pace.turns)
    whole t u v freed thawed tails covered =
        let turn = pace.turn in
        let turns = pace.turns in
        let first : SnapValue = going_state pace counts in
        let second : SnapValue = freezing_state pace counts hosts in
        let end : List SnapEvent = Release ∷ map (λ x. Thaw x) (range_with_len 0 hosts) in
        let replies : List SnapEvent = map (λ x. Reply x) (range_with_len 0 hosts) in
        let rest : List SnapEvent = flat_map (cover_left turn counts turns) (range_with_len 0 hosts) in
        let left = flat_same (λ h. replicate (rows_at counts h - tail_of u h) (Cover h)) (cover_left turn counts turns) 0 hosts
        (λ k within. ap (λ (n : ℕ). replicate (rows_at counts k - n) (Cover k)) (tails k (omega (arith, within)))) in
        let round = fold-append after (at_start hosts) (turns_round turn counts turns) (freezing turn counts turns ++ (releasing hosts ++ rest)) in
        let frozen = fold-append after first (freezing turn counts turns) (releasing hosts ++ rest) in
        let free = fold-append after second (releasing hosts) rest in
        let done = fold-append after second replies end in
        let same : fold after second (releasing hosts) ≡ u = done
        ∙ ap (λ (x : SnapValue). fold after (after x Release) (map (λ h. Thaw h) (range_with_len 0 hosts))) (sym is)
        ∙ ap (λ (x : SnapValue). fold after x (map (λ h. Thaw h) (range_with_len 0 hosts))) (sym freed) ∙ sym thawed in
        covered ∙ ap (λ (es : List SnapEvent). fold after u es) left ∙ sym (round ∙ frozen ∙ free ∙ ap (λ (x : SnapValue). fold after x rest) same)

  -- so the cut is that of the plan
  pub has_cut : (v : SnapValue) → v ≡ state_after hosts (events_of pace.turn counts pace.turns) → cut_of v ≡ Some (cut_by pace.turn counts pace.turns)
  has_cut v is = ap cut_of is ∙ plans_have_cuts pace.turn counts pace.turns few.some low

  pub cut_low : (h : ℕ) → in_cut pace.turn counts pace.turns h ≤ rows_at counts h
  cut_low h = min-le_left (rows_at counts h) (pace.turn * (turns_of_host hosts pace.turns h + h))

-- courses with the same tasks are as many
pub as_many_tasks : (first courses : List CourseValue) → tasks_of courses ≡ tasks_of first → length courses ≡ length (counts_of (tasks_of first))
as_many_tasks first courses same = sym (count_many courses) ∙ ap (λ ts. length (counts_of ts)) same

pub frozen_by : (pace : Pace) (first courses : List CourseValue) (s : SnapValue) → tasks_of courses ≡ tasks_of first
    → s ≡ freezing_state pace (counts_of (tasks_of courses)) (length courses)
    → s ≡ freezing_state pace (counts_of (tasks_of first)) (length (counts_of (tasks_of first)))
frozen_by pace first courses s same is = is ∙ ap (λ ts. freezing_state pace (counts_of ts) (length courses)) same
    ∙ ap (λ (n : ℕ). freezing_state pace (counts_of (tasks_of first)) n) (as_many_tasks first courses same)

pub mapped_by : (f : ℕ → SnapEvent) (s t u : SnapValue) (n m : ℕ) → s ≡ u → n ≡ m → t ≡ fold after s (map f (range_with_len 0 n))
    → t ≡ fold after u (map f (range_with_len 0 m))
mapped_by f s t u n m same long is = is ∙ ap (λ (x : SnapValue). fold after x (map f (range_with_len 0 n))) same
    ∙ ap (λ (k : ℕ). fold after u (map f (range_with_len 0 k))) long

pub left_by : (first courses : List CourseValue) (s t : SnapValue) → tasks_of courses ≡ tasks_of first
    → t ≡ fold after s (flat_map (λ h. replicate (rows_at (counts_of (tasks_of courses)) h - tail_of s h) (Cover h)) (range_with_len 0 (length courses)))
    → t ≡ fold after s
    (flat_map (λ h. replicate (rows_at (counts_of (tasks_of first)) h - tail_of s h) (Cover h)) (range_with_len 0 (length (counts_of (tasks_of first)))))
left_by first courses s t same is =
    is
    ∙ ap (λ ts. fold after s (flat_map (λ h. replicate (rows_at (counts_of ts) h - tail_of s h) (Cover h)) (range_with_len 0 (length courses)))) same
    ∙ ap (λ (n : ℕ). fold after s (flat_map (λ h. replicate (rows_at (counts_of (tasks_of first)) h - tail_of s h) (Cover h)) (range_with_len 0 n)))
    (as_many_tasks first courses same)
