-- Marks that are put into a map, and read from it in order.
use Rattle.std.proofs.Common.{◌≡◌, ℕ, ◌+◌, ◌<◌, Bool, true, false, cond, List, [], ◌∷◌, ◌++◌, length, take, get_or, map, filter, refl, sym, ap, ◌∙◌, inl, inr, arith, append-nil}
use Rattle.std.specs.BTreeMap.{insert_entry}
use Rattle.std.specs.Ordering.{nat_cmp}
use Rattle.std.proofs.lemmas.Bool.{eq-eqb, ne_eqb, lt-ltb, le-ltb, cases_order}
use Rattle.std.proofs.lemmas.List.{map-append}
use Rattle.std.proofs.lemmas.List.Sums.{fold_push}
use Rattle.std.proofs.lemmas.List.Elements.{filter_more}
use Rattle.cf_fold.specs.declared.trigger.Trigger.{Trigger}
use Rattle.cf_plain.specs.declared.answer.Fired.{Fired}
use Rattle.cf_watch.specs.Kept.{BucketValue}
use Rattle.cf_watch.specs.Marks.{fired_of, mark_in, marks_of, put_mark}

pub put_entry : (es : List (ℕ × ℕ)) (b value : ℕ) → map fired_of (insert_entry nat_cmp es b value) ≡ put_mark (map fired_of es) (fired_of (b, value))
put_entry [] b value = refl
put_entry (e ∷ es) b value = elim (cases_order b e.0) [
  | inl same ↦ rw (le-ltb b e.0 (omega (arith, same)), eq-eqb b e.0 same) (ap (λ (q : ℕ). fired_of (q, value) ∷ map fired_of es) (sym same))
  | inr (inl below) ↦ rw (lt-ltb b e.0 below) refl
  | inr (inr above) ↦ rw (le-ltb b e.0 (omega (arith, above)), ne_eqb b e.0 (λ same. omega (arith, same, above)))
      (ap (λ (ms : List Fired). fired_of e ∷ ms) (put_entry es b value))
]

-- a bucket more that passes
pub marks_more : (trigger : Trigger) (passes : BucketValue → Bool) (kept : List BucketValue) (i : ℕ) (d : BucketValue) (before after : List (ℕ × ℕ))
    → i < length kept → passes (get_or kept i d) ≡ true → map fired_of before ≡ marks_of trigger (filter passes (take i kept))
    → after ≡ insert_entry nat_cmp before (mark_in trigger (get_or kept i d)).bucket (mark_in trigger (get_or kept i d)).value
    → map fired_of after ≡ marks_of trigger (filter passes (take (i + 1) kept))
marks_more trigger passes kept i d before after lt pass is put =
    let mark : Fired = mark_in trigger (get_or kept i d) in
    let some : filter passes (take (i + 1) kept) ≡ filter passes (take i kept) ++ get_or kept i d ∷ [] =
    filter_more passes kept i d lt ∙ ap (λ b. filter passes (take i kept) ++ cond b (get_or kept i d ∷ []) []) pass in
    rw (put, put_entry before mark.bucket mark.value, is, some, map-append (mark_in trigger) (filter passes (take i kept)) (get_or kept i d ∷ []))
    (sym (fold_push put_mark [] (map (mark_in trigger) (filter passes (take i kept))) mark))

-- a bucket more that does not
pub marks_same : (trigger : Trigger) (passes : BucketValue → Bool) (kept : List BucketValue) (i : ℕ) (d : BucketValue) (before : List (ℕ × ℕ))
    → i < length kept → passes (get_or kept i d) ≡ false → map fired_of before ≡ marks_of trigger (filter passes (take i kept))
    → map fired_of before ≡ marks_of trigger (filter passes (take (i + 1) kept))
marks_same trigger passes kept i d before lt fail is =
    let none : filter passes (take (i + 1) kept) ≡ filter passes (take i kept) =
    filter_more passes kept i d lt ∙ ap (λ b. filter passes (take i kept) ++ cond b (get_or kept i d ∷ []) []) fail ∙ append-nil (filter passes (take i kept)) in
    rw none is
