-- What has happened before each position.
use Rattle.std.proofs.Common.{◌≡◌, ℕ, zero, suc, ◌+◌, ◌<◌, Bool, true, false, List, length, set, get_or, slice_get, Some, ◌⊎◌, inl, inr, refl, sym, ap, ◌∙◌, subst, arith, add-one}
use Rattle.std.proofs.lemmas.Bool.{both_ways, cases_lt, cases_Bool}
use Rattle.std.proofs.lemmas.List.{length-set}
use Rattle.std.proofs.lemmas.Option.{slice_get_within}
use Rattle.cf_snapshot.specs.Snapshots.{SnapValue, tail_of, is_frozen, is_lawful, changed}
use Rattle.cf_snapshot.specs.Laws.{state_at, Happens, AllFrozen}
use Rattle.cf_snapshot.specs.declared.event.SnapEvent.{SnapEvent}
use Rattle.cf_snapshot.specs.declared.event.SnapEvent.TheVariants.{Cover, Begin, Freeze, Reply, Release, Thaw}
use Rattle.cf_snapshot.proofs.Lawful.{cover_parts, freeze_parts, reply_parts, release_parts, thaw_parts, taken, passed_over, state_more, state_same, cases_at}
use Rattle.cf_snapshot.proofs.Sound.{Sound, sound_kept, sound_start, none_frozen, all_known}

-- the last lawful Freeze before position n
pub record LastBefore (hosts : ℕ) (events : List SnapEvent) (n : ℕ) : Type 0 where
  pub at : ℕ
  pub before : at < n
  pub host : ℕ
  pub freezes : Happens hosts events at (Freeze host)
  pub last : (j h : ℕ) → at < j → j < n → Happens hosts events j (Freeze h) → ⊥

abbrev pub NoFreezeAt : ℕ → List SnapEvent → ℕ → Type 0
NoFreezeAt hosts events n = (h : ℕ) → Happens hosts events n (Freeze h) → ⊥

-- right after the last Freeze the same hosts were frozen as in x, and if these are all, they had the same tails
pub record Anchored (hosts : ℕ) (events : List SnapEvent) (x : SnapValue) (n : ℕ) : Type 0 where
  pub freeze : LastBefore hosts events n
  pub frozen : (state_at hosts events (freeze.at + 1)).frozen ≡ x.frozen
  pub tails : AllFrozen x → (state_at hosts events (freeze.at + 1)).tails ≡ x.tails

-- the cut was fixed, and is of the last Freeze
pub record Fixed (hosts : ℕ) (events : List SnapEvent) (x : SnapValue) (n : ℕ) : Type 0 where
  pub freeze : LastBefore hosts events n
  pub release : (r : ℕ) × Happens hosts events r Release
  pub is_released : x.is_released ≡ true
  pub replies : x.replies ≡ (state_at hosts events (freeze.at + 1)).tails
  pub all : AllFrozen (state_at hosts events (freeze.at + 1))

pub record Quiet (x : SnapValue) : Type 0 where
  pub none : (h : ℕ) → is_frozen x h ≡ false

abbrev pub History : ℕ → List SnapEvent → SnapValue → ℕ → Type 0
History hosts events x n = ((x.is_released ≡ false) × (Quiet x ⊎ Anchored hosts events x n)) ⊎ Fixed hosts events x n

abbrev later : (hosts : ℕ) (events : List SnapEvent) (n : ℕ) → LastBefore hosts events n → NoFreezeAt hosts events n → LastBefore hosts events (n + 1)
later hosts events n l none = record {
  at = l.at;
  before = omega (arith, l.before);
  host = l.host;
  freezes = l.freezes;
  last = λ j h above below freezes. elim (cases_lt j n) [
    | inl lt ↦ l.last j h above lt freezes
    | inr ge ↦
        let same : j ≡ n = omega (arith, ge, below) in
        none h (subst (λ i. Happens hosts events i (Freeze h)) same freezes)
  ];
}

module _ (hosts : ℕ) (events : List SnapEvent) (n : ℕ) where
  other_event : (e : SnapEvent) → slice_get events n ≡ Some e → ((k : ℕ) → e ≡ Freeze k → ⊥) → NoFreezeAt hosts events n
  other_event e stands other k happens =
      let both = sym stands ∙ happens.stands in
      let same : e ≡ Freeze k = cc in
      other k same

  -- x goes on as y, in which what the history says of x is the same
  goes_on : (x y : SnapValue) → NoFreezeAt hosts events n → x.is_released ≡ y.is_released → x.frozen ≡ y.frozen
      → (x.is_released ≡ true → x.replies ≡ y.replies) → (AllFrozen y → (AllFrozen x) × (x.tails ≡ y.tails)) → History hosts events x n
      → History hosts events y (n + 1)
  goes_on x y none released frozen replies tails (inl (going, inl quiet)) =
      inl (sym released ∙ going, inl (record { none = λ h. ap (λ (fs : List Bool). get_or fs h false) (sym frozen) ∙ quiet.none h }))
  goes_on x y none released frozen replies tails (inl (going, inr a)) = inl (
    sym released ∙ going,
    inr (record {
      freeze = later hosts events n a.freeze none;
      frozen = a.frozen ∙ frozen;
      tails = λ all. let same = tails all in a.tails same.0 ∙ same.1;
    }),
  )
  goes_on x y none released frozen replies tails (inr f) = inr (record {
    freeze = later hosts events n f.freeze none;
    release = f.release;
    is_released = sym released ∙ f.is_released;
    replies = sym (replies f.is_released) ∙ f.replies;
    all = f.all;
  })

  cover_goes_on : (x : SnapValue) (h : ℕ) → slice_get events n ≡ Some (Cover h) → is_lawful x (Cover h) ≡ true → History hosts events x n
      → History hosts events (changed x (Cover h)) (n + 1)
  cover_goes_on x h stands lawful history =
      let parts = cover_parts x h lawful in
      let lt : h < length (set x.tails h (tail_of x h + 1)) = omega (arith, parts.0, length-set x.tails h (tail_of x h + 1)) in
      goes_on x (changed x (Cover h)) (other_event (Cover h) stands (λ k same. cc)) refl refl (λ released. refl)
      (λ all. absurd (both_ways (is_frozen x h) parts.1 (all h lt))) history

  freeze_goes_on : (x : SnapValue) (h : ℕ) → slice_get events n ≡ Some (Freeze h) → state_at hosts events n ≡ x
      → state_at hosts events (n + 1) ≡ changed x (Freeze h) → is_lawful x (Freeze h) ≡ true → History hosts events (changed x (Freeze h)) (n + 1)
  freeze_goes_on x h stands is next lawful = inl (
    (freeze_parts x h lawful).1,
    inr (record {
      freeze = record {
        at = n;
        before = omega arith;
        host = h;
        freezes = record { stands = stands; lawful = subst (λ (s : SnapValue). is_lawful s (Freeze h) ≡ true) (sym is) lawful };
        last = λ j k above below freezes. absurd (omega (arith, above, below));
      };
      frozen = ap (λ (s : SnapValue). s.frozen) next;
      tails = λ all. ap (λ (s : SnapValue). s.tails) next;
    }),
  )

  release_goes_on : (x : SnapValue) → 0 < hosts → slice_get events n ≡ Some Release → state_at hosts events n ≡ x → is_lawful x Release ≡ true → Sound hosts x
      → History hosts events x n → History hosts events (changed x Release) (n + 1)
  release_goes_on x some stands is lawful sound (inl (going, inl quiet)) =
      let lt : 0 < length x.tails = omega (arith, some, sound.lens.tails) in
      absurd (both_ways (is_frozen x 0) (quiet.none 0) ((all_known hosts x lawful sound).0 0 lt))
  release_goes_on x some stands is lawful sound (inl (going, inr a)) =
      let known = all_known hosts x lawful sound in
      let same = a.tails known.0 in
      inr (record {
        freeze = later hosts events n a.freeze (other_event Release stands (λ k e. cc));
        release = (n, record { stands = stands; lawful = subst (λ (s : SnapValue). is_lawful s Release ≡ true) (sym is) lawful });
        is_released = refl;
        replies = known.1 ∙ sym same;
        all = λ h lt. ap (λ (fs : List Bool). get_or fs h false) a.frozen ∙ known.0 h (subst (λ (ts : List ℕ). h < length ts) same lt);
      })
  release_goes_on x some stands is lawful sound (inr f) = absurd (both_ways x.is_released (release_parts x lawful).0 f.is_released)

  reply_goes_on : (x : SnapValue) (h : ℕ) → slice_get events n ≡ Some (Reply h) → is_lawful x (Reply h) ≡ true → History hosts events x n
      → History hosts events (changed x (Reply h)) (n + 1)
  reply_goes_on x h stands lawful history =
      let none = other_event (Reply h) stands (λ k same. cc) in
      goes_on x (changed x (Reply h)) none refl refl (λ released. absurd (both_ways x.is_released (reply_parts x h lawful).1 released))
      (λ all. (all, refl)) history

  thaw_goes_on : (x : SnapValue) (h : ℕ) → slice_get events n ≡ Some (Thaw h) → is_lawful x (Thaw h) ≡ true → History hosts events x n
      → History hosts events (changed x (Thaw h)) (n + 1)
  thaw_goes_on x h stands lawful (inl (going, rest)) = absurd (both_ways x.is_released going (thaw_parts x h lawful))
  thaw_goes_on x h stands lawful (inr f) = inr (record {
    freeze = later hosts events n f.freeze (other_event (Thaw h) stands (λ k same. cc));
    release = f.release;
    is_released = f.is_released;
    replies = f.replies;
    all = f.all;
  })

  lawful_goes_on : (x : SnapValue) (e : SnapEvent) → 0 < hosts → slice_get events n ≡ Some e → state_at hosts events n ≡ x
      → state_at hosts events (n + 1) ≡ changed x e → is_lawful x e ≡ true → Sound hosts x → History hosts events x n
      → History hosts events (changed x e) (n + 1)
  lawful_goes_on x (Cover h) some stands is next lawful sound history = cover_goes_on x h stands lawful history
  lawful_goes_on x Begin some stands is next lawful sound history =
      goes_on x (changed x Begin) (other_event Begin stands (λ k same. cc)) refl refl (λ released. refl) (λ all. (all, refl)) history
  lawful_goes_on x (Freeze h) some stands is next lawful sound history = freeze_goes_on x h stands is next lawful
  lawful_goes_on x (Reply h) some stands is next lawful sound history = reply_goes_on x h stands lawful history
  lawful_goes_on x Release some stands is next lawful sound history = release_goes_on x some stands is lawful sound history
  lawful_goes_on x (Thaw h) some stands is next lawful sound history = thaw_goes_on x h stands lawful history

  -- sound, with its history
  abbrev Stands : SnapValue → Type 0
  Stands x = Sound hosts x × History hosts events x (n + 1)

  one_more : 0 < hosts → Sound hosts (state_at hosts events n) → History hosts events (state_at hosts events n) n
      → Sound hosts (state_at hosts events (n + 1)) × History hosts events (state_at hosts events (n + 1)) (n + 1)
  one_more some sound history =
      let x = state_at hosts events n in
      let still : NoFreezeAt hosts events n → Sound hosts x × History hosts events x (n + 1) =
      λ none. (sound, goes_on x x none refl refl (λ released. refl) (λ all. (all, refl)) history) in
      elim (cases_at events n) [
        | inl past ↦
            subst Stands (sym (state_same hosts events n past)) (still (λ h happens. omega (arith, past, slice_get_within events n (Freeze h) happens.stands)))
        | inr at ↦ elim (cases_Bool (is_lawful x at.0)) [
          | inl lawful ↦
              let next : state_at hosts events (n + 1) ≡ changed x at.0 = state_more hosts events n at.0 at.1 ∙ taken x at.0 lawful in
              subst Stands (sym next) (sound_kept hosts x at.0 lawful sound, lawful_goes_on x at.0 some at.1 refl next lawful sound history)
          | inr unlawful ↦
              let next : state_at hosts events (n + 1) ≡ x = state_more hosts events n at.0 at.1 ∙ passed_over x at.0 unlawful in
              subst Stands (sym next) (still (λ h happens.
              let both = sym at.1 ∙ happens.stands in
              let same : at.0 ≡ Freeze h = cc in
              both_ways _ unlawful (ap (is_lawful x) same ∙ happens.lawful)))
        ]
      ]

pub history_at : (hosts : ℕ) (events : List SnapEvent) → 0 < hosts → (n : ℕ) → Sound hosts (state_at hosts events n)
    × History hosts events (state_at hosts events n) n
history_at hosts events some zero = (sound_start hosts, inl (refl, inl (record { none = none_frozen hosts })))
history_at hosts events some (suc n) =
    let before = history_at hosts events some n in
    rw (← add-one n) (one_more hosts events n some before.0 before.1)
