-- The laws of cuts.
use Rattle.std.proofs.Common.{◌≡◌, ℕ, zero, suc, ◌+◌, ◌-◌, ◌<◌, ◌≤◌, ◌≢◌, ◌↔◌, true, false, cond, List, length, slice_get, Some, None, is_some, IsSome, inl, inr, refl, sym, ap, ◌∙◌, subst, arith, add-zero}
use Rattle.std.proofs.lemmas.Bool.{both_ways, cases_lt, cases_eq, cases_order, cases_Bool}
use Rattle.std.proofs.lemmas.List.{get_or-set_same, get_or-set_other}
use Rattle.std.proofs.lemmas.Option.{slice_get_within}
use Rattle.cf_snapshot.specs.Snapshots.{SnapValue, tail_of, is_lawful, changed, cut_of, state_after}
use Rattle.cf_snapshot.specs.Laws.{state_at, Happens, IsLastFreeze, CutsAreOfOneMoment, CutsComeByRelease, CutsEndAtTheLastFreeze, CutsHaveAllEarlier}
use Rattle.cf_snapshot.specs.declared.event.SnapEvent.{SnapEvent}
use Rattle.cf_snapshot.specs.declared.event.SnapEvent.TheVariants.{Cover, Begin, Freeze, Reply, Release, Thaw}
use Rattle.cf_snapshot.proofs.Lawful.{cover_parts, taken, passed_over, state_more, state_same, state_whole, cases_at}
use Rattle.cf_snapshot.proofs.Histories.{History, Fixed, LastBefore, history_at}

-- no tail goes back, and a release stands
pub record GoesOn (x y : SnapValue) : Type 0 where
  pub tails : (h : ℕ) → tail_of x h ≤ tail_of y h
  pub released : x.is_released ≡ true → y.is_released ≡ true

cover_raises : (x : SnapValue) (h k : ℕ) → h < length x.tails → tail_of x k ≤ tail_of (changed x (Cover h)) k
cover_raises x h k lt = elim (cases_eq k h) [
  | inl same ↦
      let new = get_or-set_same x.tails h (tail_of x h + 1) 0 lt in
      rw same (omega (arith, new))
  | inr other ↦ omega (arith, get_or-set_other x.tails h k (tail_of x h + 1) 0 other)
]

change_goes_on : (x : SnapValue) (e : SnapEvent) → is_lawful x e ≡ true → GoesOn x (changed x e)
change_goes_on x (Cover h) lawful = record { tails = λ k. cover_raises x h k (cover_parts x h lawful).0; released = λ r. r }
change_goes_on x Begin lawful = record { tails = λ k. omega arith; released = λ r. r }
change_goes_on x (Freeze h) lawful = record { tails = λ k. omega arith; released = λ r. r }
change_goes_on x (Reply h) lawful = record { tails = λ k. omega arith; released = λ r. r }
change_goes_on x Release lawful = record { tails = λ k. omega arith; released = λ r. refl }
change_goes_on x (Thaw h) lawful = record { tails = λ k. omega arith; released = λ r. r }

same_goes_on : (x y : SnapValue) → y ≡ x → GoesOn x y
same_goes_on x y is = subst (GoesOn x) (sym is) (record { tails = λ k. omega arith; released = λ r. r })

module _ (hosts : ℕ) (events : List SnapEvent) where
  abbrev at_ : ℕ → SnapValue
  at_ n = state_at hosts events n

  one_goes_on : (n : ℕ) → GoesOn (at_ n) (at_ (n + 1))
  one_goes_on n = elim (cases_at events n) [
    | inl past ↦ same_goes_on (at_ n) (at_ (n + 1)) (state_same hosts events n past)
    | inr found ↦ elim (cases_Bool (is_lawful (at_ n) found.0)) [
      | inl lawful ↦ subst (GoesOn (at_ n)) (sym (state_more hosts events n found.0 found.1 ∙ taken (at_ n) found.0 lawful))
          (change_goes_on (at_ n) found.0 lawful)
      | inr unlawful ↦ same_goes_on (at_ n) (at_ (n + 1)) (state_more hosts events n found.0 found.1 ∙ passed_over (at_ n) found.0 unlawful)
    ]
  ]

  all_go_on : (n d : ℕ) → GoesOn (at_ n) (at_ (n + d))
  all_go_on n zero = same_goes_on (at_ n) (at_ (n + zero)) (ap at_ (add-zero n))
  all_go_on n (suc d) =
      let before = all_go_on n d in
      let one = one_goes_on (n + d) in
      let e : n + d + 1 ≡ n + suc d = omega arith in
      subst (λ m. GoesOn (at_ n) (at_ m)) e
      (record { tails = λ h. omega (arith, before.tails h, one.tails h); released = λ r. one.released (before.released r) })

  goes_to : (n m : ℕ) → n ≤ m → GoesOn (at_ n) (at_ m)
  goes_to n m le =
      let e : n + (m - n) ≡ m = omega (arith, le) in
      subst (λ k. GoesOn (at_ n) (at_ k)) e (all_go_on n (m - n))

  -- right after its Cover a host's tail is one more
  covered : (i h : ℕ) → Happens hosts events i (Cover h) → tail_of (at_ (i + 1)) h ≡ tail_of (at_ i) h + 1
  covered i h happens =
      let next : at_ (i + 1) ≡ changed (at_ i) (Cover h) = state_more hosts events i (Cover h) happens.stands ∙ taken (at_ i) (Cover h) happens.lawful in
      ap (λ (s : SnapValue). tail_of s h) next ∙ get_or-set_same (at_ i).tails h (tail_of (at_ i) h + 1) 0 (cover_parts (at_ i) h happens.lawful).0

  happens_within : (i : ℕ) (e : SnapEvent) → Happens hosts events i e → i < length events
  happens_within i e happens = slice_get_within events i e happens.stands

  -- the end
  whole : at_ (length events) ≡ state_after hosts events
  whole = state_whole hosts events

  cut_parts : (s : SnapValue) (cut : List ℕ) → cut_of s ≡ Some cut → (s.is_released ≡ true) × (s.replies ≡ cut)
  cut_parts s cut is = elim (cases_Bool s.is_released) [
    | inl released ↦
        let taken_ : cut_of s ≡ Some s.replies = ap (λ b. cond b (Some s.replies) None) released in
        (released, cc)
    | inr going ↦
        let none : cut_of s ≡ None = ap (λ b. cond b (Some s.replies) None) going in
        absurd cc
  ]

  fixed : (s : SnapValue) (n : ℕ) → s.is_released ≡ true → History hosts events s n → Fixed hosts events s n
  fixed s n released (inl (going, rest)) = absurd (both_ways s.is_released going released)
  fixed s n released (inr f) = f

  -- what is fixed at the end
  at_end : 0 < hosts → (state_after hosts events).is_released ≡ true → Fixed hosts events (at_ (length events)) (length events)
  at_end some released =
      fixed (at_ (length events)) (length events) (ap (λ (s : SnapValue). s.is_released) whole ∙ released) (history_at hosts events some (length events)).1

  last_of : (l : LastBefore hosts events (length events)) → IsLastFreeze hosts events l.at
  last_of l = record { host = l.host; freezes = l.freezes; last = λ j h above freezes. l.last j h above (happens_within j (Freeze h) freezes) freezes }

  one_last : (a b : ℕ) → IsLastFreeze hosts events a → IsLastFreeze hosts events b → a ≡ b
  one_last a b p q = elim (cases_order a b) [
    | inl same ↦ same
    | inr (inl lt) ↦ absurd (p.last b q.host lt q.freezes)
    | inr (inr gt) ↦ absurd (q.last a p.host gt p.freezes)
  ]

  other_place : (i m h k : ℕ) → Happens hosts events i (Cover h) → Happens hosts events m (Freeze k) → i ≢ m
  other_place i m h k covers freezes same =
      let both : Some (Cover h) ≡ Some (Freeze k) = sym covers.stands ∙ ap (slice_get events) same ∙ freezes.stands in
      cc

  -- a record's number is below its host's tail right after that Freeze exactly where it was covered before
  below_tail : (i m h k : ℕ) → Happens hosts events i (Cover h) → Happens hosts events m (Freeze k) → (tail_of (at_ i) h < tail_of (at_ (m + 1)) h) ↔ (i < m)
  below_tail i m h k covers freezes =
      let other = other_place i m h k covers freezes in (
        λ below. elim (cases_lt i m) [
          | inl lt ↦ lt
          | inr ge ↦
              let past = (goes_to (m + 1) i (omega (arith, ge, other))).tails h in
              absurd (omega (arith, past, below))
        ],
        λ lt.
            let up = (goes_to (i + 1) (m + 1) (omega (arith, lt))).tails h in
            omega (arith, up, covered i h covers),
      )

pub cuts_are_of_one_moment : CutsAreOfOneMoment
cuts_are_of_one_moment hosts events cut some has =
    let parts = cut_parts hosts events (state_after hosts events) cut has in
    let f = at_end hosts events some parts.0 in
    (f.freeze.at, last_of hosts events f.freeze, sym parts.1 ∙ sym (ap (λ (s : SnapValue). s.replies) (whole hosts events)) ∙ f.replies, f.all)

pub cuts_end_at_the_last_freeze : CutsEndAtTheLastFreeze
cuts_end_at_the_last_freeze hosts events cut last i h some has freeze covers =
    let moment = cuts_are_of_one_moment hosts events cut some has in
    let same : moment.0 ≡ last = one_last hosts events moment.0 last moment.1 freeze in
    let tails : cut ≡ (state_at hosts events (last + 1)).tails = moment.2 ∙ ap (λ n. (state_at hosts events (n + 1)).tails) same in
    rw tails (below_tail hosts events i last h freeze.host covers freeze.freezes)

pub cuts_have_all_earlier : CutsHaveAllEarlier
cuts_have_all_earlier hosts events cut i j h k some has covers later earlier kept =
    let moment = cuts_are_of_one_moment hosts events cut some has in
    let end = cuts_end_at_the_last_freeze hosts events cut moment.0 j k some has moment.1 later in
    let start = cuts_end_at_the_last_freeze hosts events cut moment.0 i h some has moment.1 covers in
    start.1 (omega (arith, earlier, end.0 kept))

module _ (hosts : ℕ) (events : List SnapEvent) where
  released_has_cut : (s : SnapValue) → s.is_released ≡ true → IsSome (cut_of s)
  released_has_cut s released = ap (λ b. is_some (cond b (Some s.replies) None)) released

  cut_is_released : (s : SnapValue) → IsSome (cut_of s) → s.is_released ≡ true
  cut_is_released s has = elim (cases_Bool s.is_released) [
    | inl released ↦ released
    | inr going ↦
        let none : is_some (cut_of s) ≡ false = ap (λ b. is_some (cond b (Some s.replies) None)) going in
        absurd (both_ways (is_some (cut_of s)) none has)
  ]

  releases : (i : ℕ) → Happens hosts events i Release → (state_after hosts events).is_released ≡ true
  releases i happens =
      let next : state_at hosts events (i + 1) ≡ changed (state_at hosts events i) Release = state_more hosts events i Release happens.stands
      ∙ taken (state_at hosts events i) Release happens.lawful in
      let within = happens_within hosts events i Release happens in
      let last = goes_to hosts events (i + 1) (length events) (omega (arith, within)) in
      ap (λ (s : SnapValue). s.is_released) (sym (whole hosts events)) ∙ last.released (ap (λ (s : SnapValue). s.is_released) next)

pub cuts_come_by_release : CutsComeByRelease
cuts_come_by_release hosts events some = (
  λ has. (at_end hosts events some (cut_is_released hosts events (state_after hosts events) has)).release,
  λ happens. released_has_cut hosts events (state_after hosts events) (releases hosts events happens.0 happens.1),
)
