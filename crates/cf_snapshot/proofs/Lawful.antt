-- What a lawful event says of the state before it, and how a list goes on.
use Rattle.std.proofs.Common.{◌≡◌, ℕ, ◌+◌, ◌<◌, true, false, ◌&&◌, not, List, [], ◌∷◌, ◌++◌, length, take, get_or, slice_get, Some, ◌⊎◌, inl, inr, sym, ap, ◌∙◌, arith}
use Rattle.std.specs.List.{list_all}
use Rattle.std.proofs.lemmas.Bool.{and_parts, not-true, ltb-true, cond-true, cond-false, cases_lt}
use Rattle.std.proofs.lemmas.List.{take_all, take_more}
use Rattle.std.proofs.lemmas.List.Sums.{fold-append}
use Rattle.std.proofs.lemmas.Option.{slice_get_within, get_or_from_slice_get, slice_get-get_or}
use Rattle.cf_snapshot.specs.Snapshots.{SnapValue, is_host, is_frozen, is_under_way, is_lawful, changed, after, at_start, state_after}
use Rattle.cf_snapshot.specs.Laws.{state_at}
use Rattle.cf_snapshot.specs.declared.event.SnapEvent.{SnapEvent}
use Rattle.cf_snapshot.specs.declared.event.SnapEvent.TheVariants.{Cover, Freeze, Reply, Release, Thaw}

pub cover_parts : (s : SnapValue) (h : ℕ) → is_lawful s (Cover h) ≡ true → (h < length s.tails) × (is_frozen s h ≡ false)
cover_parts s h lawful =
    let all = and_parts _ _ lawful in
    let front = and_parts (is_host s h) (not (is_frozen s h)) all.0 in
    (ltb-true h (length s.tails) front.0, not-true (is_frozen s h) front.1)

going_parts : (s : SnapValue) → is_under_way s ≡ true → s.is_released ≡ false
going_parts s going = not-true s.is_released (and_parts s.has_begun (not s.is_released) going).1

pub freeze_parts : (s : SnapValue) (h : ℕ) → is_lawful s (Freeze h) ≡ true → (h < length s.tails) × (s.is_released ≡ false)
freeze_parts s h lawful =
    let all = and_parts (is_host s h && is_under_way s) (not (is_frozen s h)) lawful in
    let front = and_parts (is_host s h) (is_under_way s) all.0 in
    (ltb-true h (length s.tails) front.0, going_parts s front.1)

pub reply_parts : (s : SnapValue) (h : ℕ) → is_lawful s (Reply h) ≡ true → (h < length s.tails) × (s.is_released ≡ false) × (is_frozen s h ≡ true)
reply_parts s h lawful =
    let all = and_parts (is_host s h && is_under_way s) (is_frozen s h) lawful in
    let front = and_parts (is_host s h) (is_under_way s) all.0 in
    (ltb-true h (length s.tails) front.0, going_parts s front.1, all.1)

pub release_parts : (s : SnapValue) → is_lawful s Release ≡ true → (s.is_released ≡ false) × (list_all (λ replied. replied) s.replied ≡ true)
release_parts s lawful = let all = and_parts (is_under_way s) _ lawful in (going_parts s all.0, all.1)

pub thaw_parts : (s : SnapValue) (h : ℕ) → is_lawful s (Thaw h) ≡ true → s.is_released ≡ true
thaw_parts s h lawful =
    let all = and_parts (is_host s h && s.is_released) (is_frozen s h) lawful in
    (and_parts (is_host s h) s.is_released all.0).1

pub taken : (s : SnapValue) (e : SnapEvent) → is_lawful s e ≡ true → after s e ≡ changed s e
taken s e lawful = cond-true (is_lawful s e) (changed s e) s lawful

pub passed_over : (s : SnapValue) (e : SnapEvent) → is_lawful s e ≡ false → after s e ≡ s
passed_over s e unlawful = cond-false (is_lawful s e) (changed s e) s unlawful

-- there is an event at that position
pub state_more : (hosts : ℕ) (events : List SnapEvent) (n : ℕ) (e : SnapEvent) → slice_get events n ≡ Some e
    → state_at hosts events (n + 1) ≡ after (state_at hosts events n) e
state_more hosts events n e stands =
    let lt = slice_get_within events n e stands in
    let is : get_or events n e ≡ e = get_or_from_slice_get events n e e stands in
    ap (state_after hosts) (take_more events n e lt ∙ ap (λ x. take n events ++ x ∷ []) is) ∙ fold-append after (at_start hosts) (take n events) (e ∷ [])

-- or none
pub state_same : (hosts : ℕ) (events : List SnapEvent) (n : ℕ) → length events < n + 1 → state_at hosts events (n + 1) ≡ state_at hosts events n
state_same hosts events n past = ap (state_after hosts) (take_all (n + 1) events (omega arith) ∙ sym (take_all n events (omega arith)))

pub state_whole : (hosts : ℕ) (events : List SnapEvent) → state_at hosts events (length events) ≡ state_after hosts events
state_whole hosts events = ap (state_after hosts) (take_all (length events) events (omega arith))

pub cases_at : (events : List SnapEvent) (n : ℕ) → (length events < n + 1) ⊎ ((e : SnapEvent) × (slice_get events n ≡ Some e))
cases_at [] n = inl (omega arith)
cases_at (e ∷ events) n = elim (cases_lt n (length (e ∷ events))) [
  | inl lt ↦ inr (get_or (e ∷ events) n e, slice_get-get_or (e ∷ events) n e lt)
  | inr ge ↦ inl (omega (arith, ge))
]
