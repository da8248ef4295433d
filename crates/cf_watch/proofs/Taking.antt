-- A record is taken.
use Rattle.std.proofs.Common.{◌≡◌, ℕ, suc, ◌+◌, ◌≤◌, ◌<◌, true, false, List, [], ◌∷◌, ◌++◌, length, drop, get_or, set, filter, All, refl, sym, ap, ◌∙◌, inl, inr, arith}
use Rattle.std.proofs.lemmas.Bool.{eq-eqb, ne_eqb, cases_Bool, cases_eq, le-leb, lt-leb, cases_lt, eqb-true}
use Rattle.std.proofs.lemmas.List.{drop-set-lt, get_or-set_same, get_or_default, length-append, length-drop, take-set}
use Rattle.std.proofs.lemmas.List.Edits.{length-remove}
use Rattle.std.proofs.lemmas.List.Elements.{All-drop, All-filter, All-get_or, All-push, All-weaker}
use Rattle.std.proofs.lemmas.List.Folds.{Any-from_list_any, list_any_at}
use Rattle.std.specs.List.{remove}
use Rattle.cf_fold.specs.Quads.{QuadValue, plus}
use Rattle.cf_watch.specs.Kept.{AreApart, BucketValue, IsKept, begun, is_kept, is_of, is_other, most_kept, taking, with_record, with_room}
use Rattle.cf_watch.proofs.Distinct.{apart_push, apart_rest, number_of, one_of, other_apart, others_lack, rest_fewer}

-- a bucket that was changed at its place and then moved to the end
pub moved : {X : Type 0} → (kept : List X) (i : ℕ) (k d : X) → i < length kept
    → remove (set kept i k) i ++ get_or (set kept i k) i d ∷ [] ≡ remove kept i ++ k ∷ []
moved kept i k d lt =
    let same : remove (set kept i k) i ≡ remove kept i = rw (take-set kept i k, drop-set-lt (suc i) kept i k (omega arith)) refl in
    rw (same, get_or-set_same kept i k d lt) refl

-- a record of a kept bucket
pub taken_at : (kept : List BucketValue) (i b n : ℕ) (d : BucketValue) → AreApart kept → i < length kept → (get_or kept i d).bucket ≡ b
    → remove kept i ++ with_record n (get_or kept i d) ∷ [] ≡ taking kept b n
taken_at kept i b n d apart lt is =
    let found : is_kept kept b ≡ true = list_any_at (is_of b) kept i d lt (eq-eqb (get_or kept i d).bucket b is) in
    let one = one_of number_of kept i b d apart lt is in
    rw (found, one.0, one.1) refl

-- a record of another one
pub begun_at : (kept : List BucketValue) (b n : ℕ) → is_kept kept b ≡ false → with_room kept ++ begun b n ∷ [] ≡ taking kept b n
begun_at kept b n none = rw none refl

pub more_counted : (q : QuadValue) (n count : ℕ) → q.count ≤ count → (plus q n).count ≤ count + 1
more_counted q n count le = elim (cases_eq q.count 0) [
  | inl e ↦ rw (eq-eqb q.count 0 e) (omega arith)
  | inr ne ↦ rw (ne_eqb q.count 0 ne) (omega (arith, le))
]

-- no bucket has more records than came
abbrev IsCounted : ℕ → BucketValue → Type 0
IsCounted count k = k.quad.count ≤ count

later_counted : (kept : List BucketValue) (count : ℕ) → All (IsCounted count) kept → All (IsCounted (count + 1)) kept
later_counted kept count counted = All-weaker (IsCounted count) (IsCounted (count + 1)) (λ k le. omega (arith, le)) kept counted

kept_at : (kept : List BucketValue) (count i b n : ℕ) (d : BucketValue) → IsKept kept count → i < length kept → (get_or kept i d).bucket ≡ b
    → IsKept (taking kept b n) (count + 1)
kept_at kept count i b n d is lt of =
    let one = one_of number_of kept i b d is.apart lt of in
    let k : BucketValue = with_record n (get_or kept i d) in
    let same : filter (is_other b) kept ++ k ∷ [] ≡ taking kept b n = ap (λ ks. ks ++ k ∷ []) one.0 ∙ taken_at kept i b n d is.apart lt of in
    let lacks : is_kept (filter (is_other b) kept) k.bucket ≡ false = rw of (others_lack number_of kept b) in
    let fewer : length (filter (is_other b) kept) + 1 ≡ length kept = ap (λ ks. length ks + 1) one.0 ∙ length-remove kept i lt in
    let was : (get_or kept i d).quad.count ≤ count = All-get_or (IsCounted count) kept i d lt is.counted in
    rw (sym same) (record {
      few = let len = length-append (filter (is_other b) kept) (k ∷ []) in omega (arith, len, fewer, is.few);
      apart = apart_push number_of (filter (is_other b) kept) k (other_apart number_of kept b is.apart) lacks;
      counted = All-push (IsCounted (count + 1)) (filter (is_other b) kept) k (All-filter (is_other b) (IsCounted (count + 1)) kept (later_counted kept count is.counted))
          (more_counted (get_or kept i d).quad n count was);
    })

room_kept : (kept : List BucketValue) (count b n : ℕ) → IsKept kept count → is_kept kept b ≡ false → IsKept (with_room kept ++ begun b n ∷ []) (count + 1)
room_kept kept count b n is none = elim (cases_lt (length kept) most_kept) [
  | inl lt ↦ rw (lt-leb most_kept (length kept) lt) (record {
    few = let len = length-append kept (begun b n ∷ []) in omega (arith, len, lt);
    apart = apart_push number_of kept (begun b n) is.apart none;
    counted = All-push (IsCounted (count + 1)) kept (begun b n) (later_counted kept count is.counted) (omega arith);
  })
  | inr le ↦ rw (le-leb most_kept (length kept) le) (record {
    few = let len = length-append (drop 1 kept) (begun b n ∷ []) in let rest = length-drop 1 kept in omega (arith, len, rest, le, is.few);
    apart = apart_push number_of (drop 1 kept) (begun b n) (apart_rest number_of kept is.apart) (rest_fewer number_of kept b none);
    counted = All-push (IsCounted (count + 1)) (drop 1 kept) (begun b n) (All-drop (IsCounted (count + 1)) 1 kept (later_counted kept count is.counted)) (omega arith);
  })
]

found_at : (kept : List BucketValue) (b : ℕ) → is_kept kept b ≡ true → (i : ℕ) × (i < length kept) × ((get_or kept i (begun 0 0)).bucket ≡ b)
found_at kept b found =
    let any = Any-from_list_any (is_of b) kept found in
    (any.0, any.2, ap (λ (k : BucketValue). k.bucket) (get_or_default kept any.0 (begun 0 0) any.1 any.2 ∙ any.3) ∙ eqb-true any.1.bucket b any.4)

pub kept_taking : (kept : List BucketValue) (count b n : ℕ) → IsKept kept count → IsKept (taking kept b n) (count + 1)
kept_taking kept count b n is = elim (cases_Bool (is_kept kept b)) [
  | inl found ↦ let at = found_at kept b found in kept_at kept count at.0 b n (begun 0 0) is at.1 at.2
  | inr none ↦ rw (sym (begun_at kept b n none)) (room_kept kept count b n is none)
]
