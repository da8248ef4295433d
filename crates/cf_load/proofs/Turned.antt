-- What the live questions found before the current segment, when that is asked and closed.
use Rattle.std.proofs.Common.{◌≡◌, ◌+◌, ◌*◌, ◌<◌, ◌≤◌, ℕ, suc, List, [], ◌∷◌, ◌++◌, length, ap, subst, sym, ◌∙◌, arith, inl, inr, length-append, mul-zero, mul-suc, mul_comm, mul-le-mul_left}
use Rattle.std.proofs.lemmas.Bool.{cases_lt}
use Rattle.std.specs.List.{flat_map}
use Rattle.cf_row.specs.Row.{RowValue}
use Rattle.cf_row.specs.declared.row.Entry.{Entry}
use Rattle.cf_shape.specs.Lanes.{ShapeValue}
use Rattle.cf_segments.specs.Segments.{SegmentsValue, HasTurnedOver, HoldsRows, KeepsAll, base_of, entries_of, room_of, seen_of}
use Rattle.cf_load.specs.Planned.{findings_on}
use Rattle.cf_load.specs.Priors.{IsFoundBefore, KnowsBefore, entries_before}
use Rattle.cf_load.specs.declared.plan.LivePlan.{LivePlan}
use Rattle.cf_load.specs.declared.prior.FoundBefore.{FoundBefore}
use Rattle.cf_segments.proofs.Chains.{room_few}
use Rattle.cf_load.proofs.Filled.{closed_long}
use Rattle.cf_segments.proofs.Kept.{kept_base, kept_shape, segments_seen}

-- segments that keep what they hold have the same closed ones
pub knows_kept : (s t : SegmentsValue) (plan : LivePlan) (prior : FoundBefore) → KeepsAll s t → KnowsBefore s plan prior → KnowsBefore t plan prior
knows_kept s t plan prior keeps known = record {
  is = subst (λ (h : ShapeValue). IsFoundBefore h plan prior) (sym (kept_shape s t keeps)) known.is;
  base = known.base ∙ sym (kept_base s t keeps);
  entries = known.entries ∙ sym (segments_seen s.closed t.closed keeps.closed);
}

-- there may be one more where the rows are not all
pub may_turn : (s : SegmentsValue) (count : ℕ) → count < room_of s → base_of s + (s.shape).capacity ≤ count → length s.closed + 1 < s.most
may_turn s count room full = elim (cases_lt (length s.closed + 1) s.most) [
  | inl lt ↦ lt
  | inr ge ↦
      let n = (s.shape).capacity in
      let far : n * s.most ≤ n * suc (length s.closed) = mul-le-mul_left n (let e : s.most ≤ suc (length s.closed) = omega (arith, ge) in e) in
      let step = mul-suc n (length s.closed) in
      let swap = mul_comm n s.most in
      absurd (omega (arith, room, full, far, step, swap))
]

-- how many rows the segments hold then
pub turned_full : (s t : SegmentsValue) (rows : List RowValue) (count : ℕ) → KeepsAll s t → HoldsRows s rows → length rows ≡ count
    → base_of s + (s.shape).capacity ≤ count → length rows ≡ base_of t + (t.shape).capacity
turned_full s t rows count keeps holds long full =
    let room = holds.room in
    let same = kept_base s t keeps in
    let shape = ap (λ (h : ShapeValue). h.capacity) (kept_shape s t keeps) in
    omega (arith, full, room, same, shape, long)

-- and then there is room
pub turned_room : (t u : SegmentsValue) (count : ℕ) → HasTurnedOver t u → count < room_of t → count ≡ base_of t + (t.shape).capacity
    → count < base_of u + (u.shape).capacity
turned_room t u count turned room full =
    let n = (t.shape).capacity in
    let shape : (u.shape).capacity ≡ n = ap (λ (v : SegmentsValue). (v.shape).capacity) turned.same in
    let base : base_of u ≡ n * length (t.closed ++ t.current ∷ []) = ap base_of turned.same in
    let many : n * length (t.closed ++ t.current ∷ []) ≡ n * suc (length t.closed) =
    ap (λ (k : ℕ). n * k)
    (let e = length-append t.closed (t.current ∷ []) in let f : length (t.closed ++ t.current ∷ []) ≡ suc (length t.closed) = omega (arith, e) in f) in
    let step = mul-suc n (length t.closed) in
    let some : 0 < n = elim (cases_lt 0 n) [
      | inl lt ↦ lt
      | inr ge ↦
          let none : room_of t ≡ t.most * 0 = ap (λ (k : ℕ). t.most * k) (let e : n ≡ 0 = omega (arith, ge) in e) in
          let zero = mul-zero t.most in
          absurd (omega (arith, room, none, zero))
    ] in
    omega (arith, shape, base, many, step, some, full)

-- what they found in all segments is what they found before the one that came behind
pub knows_turned : (t u : SegmentsValue) (plan : LivePlan) (prior : FoundBefore) (rows : List RowValue) → HasTurnedOver t u → HoldsRows t rows
    → length rows ≡ base_of t + (t.shape).capacity → prior.base ≡ base_of u → entries_before prior ≡ flat_map seen_of u.closed
    → (0 < plan.rounds → prior.findings.items ≡ findings_on t.shape plan (entries_of t)) → KnowsBefore u plan prior
knows_turned t u plan prior rows turned holds full base entries found =
    let now : HoldsRows u rows = turned.holds rows holds full in
    let shape : u.shape ≡ t.shape = ap (λ (v : SegmentsValue). v.shape) turned.same in
    let closed : flat_map seen_of u.closed ≡ entries_of t = ap (λ (v : SegmentsValue). flat_map seen_of v.closed) turned.same in
    let few = room_few u now.are in
    let is : IsFoundBefore u.shape plan prior = record {
      base_is = base ∙ (sym (closed_long u rows now) ∙ ap (λ (es : List Entry). length es) (sym entries));
      found = λ due. found due
          ∙ (ap (λ (h : ShapeValue). findings_on h plan (entries_of t)) (sym shape) ∙ ap (findings_on u.shape plan) (sym (entries ∙ closed)));
      few = omega (arith, few, base);
    } in
    record { is = is; base = base; entries = entries }
