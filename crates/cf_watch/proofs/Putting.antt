-- Marks of a bucket and a key that are put into a map, and read from it in order.
use Rattle.std.proofs.Common.{◌≡◌, ℕ, ◌+◌, ◌*◌, ◌/◌, ◌%◌, ◌^◌, ◌<◌, Bool, true, false, cond, nat_lt, ◌==◌, List, [], ◌∷◌, ◌++◌, length, take, get_or, map, filter, fold, refl, sym, ap, ◌∙◌, inl, inr, arith, append-nil, Some}
use Rattle.std.specs.BTreeMap.{insert_entry}
use Rattle.std.specs.List.{flat_map}
use Rattle.std.specs.Ordering.{nat_cmp}
use Rattle.std.proofs.lemmas.Bool.{eq-eqb, ne_eqb, lt-ltb, le-ltb, cases_order}
use Rattle.std.proofs.lemmas.List.{map-append, take_more}
use Rattle.std.proofs.lemmas.List.Concat.{flat_map-append}
use Rattle.std.proofs.lemmas.List.Sums.{fold_push, fold-append}
use Rattle.std.proofs.lemmas.List.Elements.{filter_more}
use Rattle.cf_fold.specs.declared.trigger.Trigger.{Trigger}
use Rattle.cf_plain.specs.Groups.{key_of_mark}
use Rattle.cf_plain.specs.declared.answer.Fired.{Fired}
use Rattle.cf_watch.specs.Kept.{BucketValue}
use Rattle.cf_watch.specs.Marks.{mark_in, put_mark}
use Rattle.cf_watch.specs.Pairs.{ApartValue}
use Rattle.cf_watch.specs.PairMarks.{marks_at, marks_in, pair_fired, pair_mark}

-- both numbers in one
number_of : (n value : ℕ) → key_of_mark (pair_fired (n, value)) ≡ n + 2 ^ 64
number_of n value = omega arith

two_numbers : (b k value : ℕ) → k < 2 ^ 64 → pair_fired (b * 2 ^ 64 + k, value) ≡ record { bucket = b; key = Some k; value = value }
two_numbers b k value lt =
    let first : (b * 2 ^ 64 + k) / 2 ^ 64 ≡ b = omega (arith, lt) in
    let second : (b * 2 ^ 64 + k) % 2 ^ 64 ≡ k = omega (arith, lt) in
    rw (first, second) refl

put_entry : (es : List (ℕ × ℕ)) (n value : ℕ) → map pair_fired (insert_entry nat_cmp es n value) ≡ put_mark (map pair_fired es) (pair_fired (n, value))
put_entry [] n value = refl
put_entry (e ∷ es) n value =
    let mine : key_of_mark (pair_fired (n, value)) ≡ n + 2 ^ 64 = number_of n value in
    let its : key_of_mark (pair_fired e) ≡ e.0 + 2 ^ 64 = number_of e.0 e.1 in
    elim (cases_order n e.0) [
      | inl same ↦
          let no : nat_lt (key_of_mark (pair_fired (n, value))) (key_of_mark (pair_fired e)) ≡ false = le-ltb _ _ (omega (arith, mine, its, same)) in
          let yes : (key_of_mark (pair_fired (n, value)) == key_of_mark (pair_fired e)) ≡ true = eq-eqb _ _ (omega (arith, mine, its, same)) in
          rw (no, yes, le-ltb n e.0 (omega (arith, same)), eq-eqb n e.0 same) (ap (λ (b : ℕ). pair_fired (b, value) ∷ map pair_fired es) (sym same))
      | inr (inl below) ↦
          let yes : nat_lt (key_of_mark (pair_fired (n, value))) (key_of_mark (pair_fired e)) ≡ true = lt-ltb _ _ (omega (arith, mine, its, below)) in
          rw (yes, lt-ltb n e.0 below) refl
      | inr (inr above) ↦
          let no : nat_lt (key_of_mark (pair_fired (n, value))) (key_of_mark (pair_fired e)) ≡ false = le-ltb _ _ (omega (arith, mine, its, above)) in
          let other : (key_of_mark (pair_fired (n, value)) == key_of_mark (pair_fired e)) ≡ false = ne_eqb _ _ (λ same. omega (arith, mine, its, same, above)) in
          rw (no, other, le-ltb n e.0 (omega (arith, above)), ne_eqb n e.0 (λ same. omega (arith, same, above)))
          (ap (λ (ms : List Fired). pair_fired e ∷ ms) (put_entry es n value))
    ]

pub put_pair : (before after : List (ℕ × ℕ)) (b : ℕ) (n : ℕ) (trigger : Trigger) (pair : BucketValue) → pair.bucket < 2 ^ 64 → n ≡ b * 2 ^ 64 + pair.bucket
    → after ≡ insert_entry nat_cmp before n (mark_in trigger pair).value → map pair_fired after ≡ put_mark (map pair_fired before) (pair_mark trigger b pair)
put_pair before after b n trigger pair lt is put =
    ap (map pair_fired) put ∙ put_entry before n (mark_in trigger pair).value
    ∙ ap (put_mark (map pair_fired before)) (ap (λ (x : ℕ). pair_fired (x, (mark_in trigger pair).value)) is ∙ two_numbers b pair.bucket (mark_in trigger pair).value lt)

-- a pair more that passes
pub marks_more : (f : BucketValue → Fired) (passes : BucketValue → Bool) (ms : List Fired) (pairs : List BucketValue) (i : ℕ) (d : BucketValue) (before after : List Fired)
    → i < length pairs → passes (get_or pairs i d) ≡ true → before ≡ fold put_mark ms (map f (filter passes (take i pairs)))
    → after ≡ put_mark before (f (get_or pairs i d)) → after ≡ fold put_mark ms (map f (filter passes (take (i + 1) pairs)))
marks_more f passes ms pairs i d before after lt pass is put =
    let some : filter passes (take (i + 1) pairs) ≡ filter passes (take i pairs) ++ get_or pairs i d ∷ [] =
    filter_more passes pairs i d lt ∙ ap (λ b. filter passes (take i pairs) ++ cond b (get_or pairs i d ∷ []) []) pass in
    rw (put, is, some, map-append f (filter passes (take i pairs)) (get_or pairs i d ∷ []))
    (sym (fold_push put_mark ms (map f (filter passes (take i pairs))) (f (get_or pairs i d))))

-- a pair more that does not
pub marks_same : (f : BucketValue → Fired) (passes : BucketValue → Bool) (ms : List Fired) (pairs : List BucketValue) (i : ℕ) (d : BucketValue) (before : List Fired)
    → i < length pairs → passes (get_or pairs i d) ≡ false → before ≡ fold put_mark ms (map f (filter passes (take i pairs)))
    → before ≡ fold put_mark ms (map f (filter passes (take (i + 1) pairs)))
marks_same f passes ms pairs i d before lt fail is =
    let none : filter passes (take (i + 1) pairs) ≡ filter passes (take i pairs) =
    filter_more passes pairs i d lt ∙ ap (λ b. filter passes (take i pairs) ++ cond b (get_or pairs i d ∷ []) []) fail ∙ append-nil (filter passes (take i pairs)) in
    rw none is

-- a bucket more
pub bucket_more : (trigger : Trigger) (passes : BucketValue → Bool) (kept : List ApartValue) (i : ℕ) (d : ApartValue) (before after : List Fired)
    → i < length kept → before ≡ marks_in trigger passes (take i kept) → after ≡ fold put_mark before (marks_at trigger passes (get_or kept i d))
    → after ≡ marks_in trigger passes (take (i + 1) kept)
bucket_more trigger passes kept i d before after lt is put =
    let f : ApartValue → List Fired = marks_at trigger passes in
    let split : flat_map f (take (i + 1) kept) ≡ flat_map f (take i kept) ++ f (get_or kept i d) =
    ap (flat_map f) (take_more kept i d lt) ∙ flat_map-append f (take i kept) (get_or kept i d ∷ [])
    ∙ ap (λ ms. flat_map f (take i kept) ++ ms) (append-nil (f (get_or kept i d))) in
    put ∙ ap (λ ms. fold put_mark ms (f (get_or kept i d))) is ∙ sym (fold-append put_mark [] (flat_map f (take i kept)) (f (get_or kept i d)))
    ∙ ap (fold put_mark []) (sym split)
