-- The calls of a host are events of each snapshot that has it.
use Rattle.std.proofs.Common.{◌≡◌, ◌∙◌, ℕ, ◌+◌, ◌^◌, ◌<◌, ◌≤◌, true, false, length, Result, Ok, Err, IfOk, refl, sym, ap, arith}
use Rattle.std.specs.Bool.{nat_lt}
use Rattle.std.proofs.lemmas.Bool.{ltb-true, lt-ltb}
use Rattle.std.proofs.lemmas.List.{length-set, get_or-set_same}
use Rattle.cf_row.specs.Row.{RowValue}
use Rattle.cf_append.specs.declared.appends.AppendFault.{AppendFault}
use Rattle.cf_snapshot.specs.Snapshots.{SnapValue, IsSnapshot, is_host, tail_of, is_frozen, is_under_way, is_lawful}
use Rattle.cf_snapshot.specs.declared.event.SnapEvent.TheVariants.{Cover, Freeze, Thaw}
use Rattle.cf_alone.specs.Alone.{HasCovered}
use Rattle.cf_snapshot.specs.Hosts.{HostValue, IsEvent}
use Rattle.cf_alone.proofs.Alone.{covered_more}
use Rattle.cf_snapshot.proofs.Lawful.{taken}

pub cover_event : (m n : HostValue) → m.is_frozen ≡ false → length m.entries < 2 ^ 20 → length n.entries ≡ length m.entries + 1 → n.is_frozen ≡ m.is_frozen
    → IsEvent Cover (λ _. true) m n
cover_event m n free low more same s h sized stands time =
    let free_too : is_frozen s h ≡ false = stands.frozen ∙ free in
    let tail = stands.tail in
    let small : nat_lt (tail_of s h) (2 ^ 20) ≡ true = ap (λ (k : ℕ). nat_lt k (2 ^ 20)) tail ∙ lt-ltb (length m.entries) (2 ^ 20) low in
    let lawful : is_lawful s (Cover h) ≡ true = rw (stands.exists, free_too, small) refl in
    let is = taken s (Cover h) lawful in
    let there = ltb-true h (length s.tails) stands.exists in (
      lawful,
      record {
        exists = ap (λ (x : SnapValue). is_host x h) is ∙ (ap (nat_lt h) (length-set s.tails h (tail_of s h + 1)) ∙ stands.exists);
        tail = ap (λ (x : SnapValue). tail_of x h) is ∙ (get_or-set_same s.tails h (tail_of s h + 1) 0 there ∙ (ap (λ (k : ℕ). k + 1) tail ∙ sym more));
        frozen = ap (λ (x : SnapValue). is_frozen x h) is ∙ (stands.frozen ∙ sym same);
      },
    )

pub covered_event : (m n : HostValue) (row : RowValue) (r : Result ℕ AppendFault) → (m.shape).capacity ≤ 65536 → m.is_frozen ≡ false → n.is_frozen ≡ false
    → HasCovered m.shape row m.entries n.entries r → IfOk r (λ _. IsEvent Cover (λ _. true) m n)
covered_event m n row (Ok o) few before now has =
    let more = covered_more m.shape row m.entries n.entries (Ok o) few has in
    cover_event m n before more.0 more.1 (now ∙ sym before)
covered_event m n row (Err fault) few before now has = tt

frozen_there : (s : SnapValue) (h : ℕ) → IsSnapshot s → is_host s h ≡ true → h < length s.frozen
frozen_there s h sized exists = (let there = ltb-true h (length s.tails) exists in let same = sized.frozen in omega (arith, there, same))

pub freeze_event : (m : HostValue) → m.is_frozen ≡ false → IsEvent Freeze is_under_way m (record m { is_frozen = true })
freeze_event m free s h sized stands time =
    let free_too : is_frozen s h ≡ false = stands.frozen ∙ free in
    let lawful : is_lawful s (Freeze h) ≡ true = rw (stands.exists, time, free_too) refl in
    let is = taken s (Freeze h) lawful in (
      lawful,
      record {
        exists = ap (λ (x : SnapValue). is_host x h) is ∙ stands.exists;
        tail = ap (λ (x : SnapValue). tail_of x h) is ∙ stands.tail;
        frozen = ap (λ (x : SnapValue). is_frozen x h) is ∙ get_or-set_same s.frozen h true false (frozen_there s h sized stands.exists);
      },
    )

pub thaw_event : (m : HostValue) → m.is_frozen ≡ true → IsEvent Thaw (λ s. s.is_released) m (record m { is_frozen = false })
thaw_event m frozen s h sized stands time =
    let frozen_too : is_frozen s h ≡ true = stands.frozen ∙ frozen in
    let lawful : is_lawful s (Thaw h) ≡ true = rw (stands.exists, time, frozen_too) refl in
    let is = taken s (Thaw h) lawful in (
      lawful,
      record {
        exists = ap (λ (x : SnapValue). is_host x h) is ∙ stands.exists;
        tail = ap (λ (x : SnapValue). tail_of x h) is ∙ stands.tail;
        frozen = ap (λ (x : SnapValue). is_frozen x h) is ∙ get_or-set_same s.frozen h false false (frozen_there s h sized stands.exists);
      },
    )
