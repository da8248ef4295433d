-- What is true of each state: until the release the coordinator has the tails of frozen hosts, as they are.
use Rattle.std.proofs.Common.{◌≡◌, ◌≢◌, ℕ, zero, suc, ◌+◌, ◌<◌, Bool, true, false, List, length, set, get_or, replicate, inl, inr, refl, sym, ap, ◌∙◌, arith}
use Rattle.std.specs.List.{list_all}
use Rattle.std.proofs.lemmas.Bool.{both_ways, cases_eq, cases_Bool}
use Rattle.std.proofs.lemmas.List.{length-set, length-replicate, get_or-set_same, get_or-set_other, ext_get_or}
use Rattle.std.proofs.lemmas.List.Folds.{list_all_at}
use Rattle.cf_snapshot.specs.Snapshots.{SnapValue, tail_of, is_frozen, is_lawful, changed, at_start, IsOf}
use Rattle.cf_snapshot.specs.Laws.{AllFrozen}
use Rattle.cf_snapshot.specs.declared.event.SnapEvent.{SnapEvent}
use Rattle.cf_snapshot.specs.declared.event.SnapEvent.TheVariants.{Cover, Begin, Freeze, Reply, Release, Thaw}
use Rattle.cf_snapshot.proofs.Lawful.{cover_parts, freeze_parts, reply_parts, release_parts, thaw_parts}

abbrev pub has_replied : SnapValue → ℕ → Bool
has_replied s h = get_or s.replied h false

abbrev pub reply_of : SnapValue → ℕ → ℕ
reply_of s h = get_or s.replies h 0

-- what the coordinator has of a host is its tail, at which it is frozen
abbrev pub IsKnown : SnapValue → ℕ → Type 0
IsKnown s h = (is_frozen s h ≡ true) × (reply_of s h ≡ tail_of s h)

pub record Sound (hosts : ℕ) (s : SnapValue) : Type 0 where
  pub lens : IsOf hosts s
  pub known : s.is_released ≡ false → (h : ℕ) → has_replied s h ≡ true → IsKnown s h

pub lens_kept : (hosts : ℕ) (s : SnapValue) (e : SnapEvent) → IsOf hosts s → IsOf hosts (changed s e)
lens_kept hosts s (Cover h) l = record { tails = length-set s.tails h (tail_of s h + 1) ∙ l.tails; frozen = l.frozen; replies = l.replies; replied = l.replied }
lens_kept hosts s Begin l = record { tails = l.tails; frozen = l.frozen; replies = l.replies; replied = l.replied }
lens_kept hosts s (Freeze h) l = record { tails = l.tails; frozen = length-set s.frozen h true ∙ l.frozen; replies = l.replies; replied = l.replied }
lens_kept hosts s (Reply h) l =
    record { tails = l.tails; frozen = l.frozen; replies = length-set s.replies h (tail_of s h) ∙ l.replies; replied = length-set s.replied h true ∙ l.replied }
lens_kept hosts s Release l = record { tails = l.tails; frozen = l.frozen; replies = l.replies; replied = l.replied }
lens_kept hosts s (Thaw h) l = record { tails = l.tails; frozen = length-set s.frozen h false ∙ l.frozen; replies = l.replies; replied = l.replied }

kept_true : (xs : List Bool) (h k : ℕ) → h < length xs → get_or xs k false ≡ true → get_or (set xs h true) k false ≡ true
kept_true xs h k lt was = elim (cases_eq k h) [
  | inl same ↦ ap (λ n. get_or (set xs h true) n false) same ∙ get_or-set_same xs h true false lt
  | inr other ↦ get_or-set_other xs h k true false other ∙ was
]

known_cover : (hosts : ℕ) (s : SnapValue) (h k : ℕ) → is_frozen s h ≡ false → IsKnown s k → IsKnown (changed s (Cover h)) k
known_cover hosts s h k free known =
    let other : k ≢ h = λ same. both_ways (is_frozen s h) free (ap (is_frozen s) (sym same) ∙ known.0) in
    (known.0, known.1 ∙ sym (get_or-set_other s.tails h k (tail_of s h + 1) 0 other))

known_reply : (hosts : ℕ) (s : SnapValue) (h k : ℕ) → h < length s.replies → is_frozen s h ≡ true → (has_replied s k ≡ true → IsKnown s k)
    → has_replied (changed s (Reply h)) k ≡ true → IsKnown (changed s (Reply h)) k
known_reply hosts s h k lt frozen known replied = elim (cases_eq k h) [
  | inl same ↦
      let now : get_or (set s.replies h (tail_of s h)) h 0 ≡ tail_of s h = get_or-set_same s.replies h (tail_of s h) 0 lt in
      (ap (is_frozen s) same ∙ frozen, ap (λ n. get_or (set s.replies h (tail_of s h)) n 0) same ∙ now ∙ ap (tail_of s) (sym same))
  | inr other ↦
      let before = known (sym (get_or-set_other s.replied h k true false other) ∙ replied) in
      (before.0, get_or-set_other s.replies h k (tail_of s h) 0 other ∙ before.1)
]

known_kept : (hosts : ℕ) (s : SnapValue) (e : SnapEvent) → is_lawful s e ≡ true → Sound hosts s → (changed s e).is_released ≡ false → (k : ℕ)
    → has_replied (changed s e) k ≡ true → IsKnown (changed s e) k
known_kept hosts s (Cover h) lawful sound going k replied = known_cover hosts s h k (cover_parts s h lawful).1 (sound.known going k replied)
known_kept hosts s Begin lawful sound going k replied = sound.known going k replied
known_kept hosts s (Freeze h) lawful sound going k replied =
    let lt : h < length s.frozen = omega (arith, (freeze_parts s h lawful).0, sound.lens.tails, sound.lens.frozen) in
    let before = sound.known going k replied in
    (kept_true s.frozen h k lt before.0, before.1)
known_kept hosts s (Reply h) lawful sound going k replied =
    let parts = reply_parts s h lawful in
    let lt : h < length s.replies = omega (arith, parts.0, sound.lens.tails, sound.lens.replies) in
    known_reply hosts s h k lt parts.2 (sound.known going k) replied
known_kept hosts s Release lawful sound going k replied = absurd (both_ways true going refl)
known_kept hosts s (Thaw h) lawful sound going k replied = absurd (both_ways s.is_released going (thaw_parts s h lawful))

pub sound_kept : (hosts : ℕ) (s : SnapValue) (e : SnapEvent) → is_lawful s e ≡ true → Sound hosts s → Sound hosts (changed s e)
sound_kept hosts s e lawful sound = record { lens = lens_kept hosts s e sound.lens; known = known_kept hosts s e lawful sound }

none_of : (hosts h : ℕ) → get_or (replicate hosts false) h false ≡ false
none_of zero h = refl
none_of (suc hosts) zero = refl
none_of (suc hosts) (suc h) = none_of hosts h

pub none_frozen : (hosts h : ℕ) → is_frozen (at_start hosts) h ≡ false
none_frozen hosts h = none_of hosts h

pub sound_start : (hosts : ℕ) → Sound hosts (at_start hosts)
sound_start hosts = record {
  lens = record {
    tails = length-replicate hosts 0;
    frozen = length-replicate hosts false;
    replies = length-replicate hosts 0;
    replied = length-replicate hosts false;
  };
  known = λ going h replied. absurd (both_ways _ (none_of hosts h) replied);
}

all_true : (bs : List Bool) (h : ℕ) → list_all (λ b. b) bs ≡ true → h < length bs → get_or bs h false ≡ true
all_true bs h all lt = elim (cases_Bool (get_or bs h false)) [
  | inl is ↦ is
  | inr fails ↦ absurd (both_ways _ (list_all_at (λ b. b) bs h false lt fails) all)
]

-- where all have replied, all are frozen, and the coordinator has their tails
pub all_known : (hosts : ℕ) (s : SnapValue) → is_lawful s Release ≡ true → Sound hosts s → AllFrozen s × (s.replies ≡ s.tails)
all_known hosts s lawful sound =
    let parts = release_parts s lawful in
    let l = sound.lens in
    let known : (h : ℕ) → h < hosts → IsKnown s h = λ h lt. sound.known parts.0 h (all_true s.replied h parts.1 (omega (arith, lt, l.replied))) in (
      λ h lt. (known h (omega (arith, lt, l.tails))).0,
      ext_get_or 0 s.replies s.tails (l.replies ∙ sym l.tails) (λ h lt. (known h (omega (arith, lt, l.replies))).1),
    )
