-- What a step leaves of each bucket whose keys are kept apart.
use Rattle.std.proofs.Common.{◌≡◌, ℕ, suc, zero, ◌+◌, ◌<◌, true, false, nat_le, ◌==◌, ◌⊎◌, List, [], ◌∷◌, ◌++◌, length, take, drop, get_or, map, filter, fold, All, refl, sym, ap, ◌∙◌, inl, inr, arith, Option, Some, None}
use Rattle.std.proofs.lemmas.Bool.{cases_Bool, cases_lt, false≢true, not-true, or_cases, or_left, or_right}
use Rattle.std.proofs.lemmas.List.Elements.{All-append, All-cons, All-contains_itself, All-drop, All-filter, All-map, All-nil, All-push, All-take, All-weaker}
use Rattle.std.proofs.lemmas.List.Folds.{list_any-append}
use Rattle.std.proofs.lemmas.List.Quantifiers.{position-Some}
use Rattle.std.specs.List.{Contains, position, remove}
use Rattle.cf_fold.specs.declared.trigger.Trigger.{Trigger}
use Rattle.cf_watch.specs.Kept.{BucketValue, begun, is_kept, is_of}
use Rattle.cf_watch.specs.Marks.{settled_count, with_told}
use Rattle.cf_watch.specs.Pairs.{ApartValue, AreSeparate, IsKeptApart, begun_apart, forgotten_at, has_bucket, has_pair, if_of, is_at, is_elsewhere, most_apart, most_pairs, no_bucket, pair_count, with_key, without}
use Rattle.cf_watch.specs.PairMarks.{with_crowd_told, with_pairs_told}
use Rattle.cf_watch.specs.PairLaws.{PairStep, took, told, crowds, after_pair_step, after_pair_steps}
use Rattle.cf_watch.proofs.Distinct.{kept_same, number_of}
use Rattle.cf_watch.proofs.Once.{IsSized, IsTold}
use Rattle.cf_watch.proofs.PairsTold.{kept_crowds_told, kept_pairs_told}
use Rattle.cf_watch.proofs.Placing.{forgets_no_pair, forgets_none, forgets_other, kept_taking_apart, key_bucket, key_numbers}
use Rattle.cf_watch.proofs.Steps.{told_size, told_stays}
use Rattle.cf_watch.proofs.Told.{told_number, told_numbers}

-- each state that steps lead to is lawful
kept_step : (kept : List ApartValue) (count : ℕ) (s : PairStep) → IsKeptApart kept count → (n : ℕ) × IsKeptApart (after_pair_step kept s) n
kept_step kept count (took b k n) is = (count + 1, kept_taking_apart kept count b k n is)
kept_step kept count (told trigger place) is = (count, kept_pairs_told trigger place (settled_count trigger false (length kept)) kept count is)
kept_step kept count crowds is = (count, kept_crowds_told kept count is)

kept_from : (kept : List ApartValue) (count : ℕ) (steps : List PairStep) → IsKeptApart kept count → (n : ℕ) × IsKeptApart (fold after_pair_step kept steps) n
kept_from kept count [] is = (count, is)
kept_from kept count (s ∷ steps) is = let one = kept_step kept count s is in kept_from (after_pair_step kept s) one.0 steps one.1

pub lawful : (steps : List PairStep) → (n : ℕ) × IsKeptApart (after_pair_steps steps) n
lawful steps = kept_from [] 0 steps (record { few = omega arith; bounded = omega arith; separate = tt; apart = λ i d lt. absurd (omega (arith, lt)) })

-- a bucket goes on: its keys stay, and so does what was told of it
pub record GoesOn (was apart : ApartValue) : Type 0 where
  pub same : apart.bucket ≡ was.bucket
  pub keeps : (k : ℕ) → is_kept was.pairs k ≡ true → is_kept apart.pairs k ≡ true
  pub told : (place k : ℕ) → is_kept was.pairs k ≡ true → All (IsTold k place) was.pairs → All (IsTold k place) apart.pairs
  pub sized : All IsSized was.pairs → All IsSized apart.pairs
  pub crowd : was.crowd_told ≡ true → apart.crowd_told ≡ true

pub record Stays (kept : List ApartValue) (apart : ApartValue) : Type 0 where
  pub was : ApartValue
  pub there : Contains kept was
  pub on : GoesOn was apart

-- or it begins
pub record Starts (kept : List ApartValue) (apart : ApartValue) : Type 0 where
  pub new : has_bucket kept apart.bucket ≡ false
  pub sized : All IsSized apart.pairs

abbrev pub Comes : List ApartValue → ApartValue → Type 0
Comes kept apart = Stays kept apart ⊎ Starts kept apart

as_it_was : (kept : List ApartValue) (apart : ApartValue) → Contains kept apart → Comes kept apart
as_it_was kept apart there = inl (record {
  was = apart;
  there = there;
  on = record { same = refl; keeps = λ k is. is; told = λ place k is all. all; sized = λ all. all; crowd = λ is. is };
})

-- a record of a key
key_told : (k n q place : ℕ) (pair : BucketValue) → IsTold q place pair → IsTold q place (if_of k n pair)
key_told k n q place pair known = elim (cases_Bool (pair.bucket == k)) [ inl same ↦ rw same known | inr other ↦ rw other known ]

key_sized : (k n : ℕ) (pair : BucketValue) → IsSized pair → IsSized (if_of k n pair)
key_sized k n pair size = elim (cases_Bool (pair.bucket == k)) [ inl same ↦ rw same size | inr other ↦ rw other size ]

crowd_same : (apart : ApartValue) (k n : ℕ) → (with_key k n apart).crowd_told ≡ apart.crowd_told
crowd_same apart k n = elim (cases_Bool (is_kept apart.pairs k)) [
  | inl found ↦ rw found refl
  | inr none ↦ elim (cases_Bool (nat_le most_pairs (length apart.pairs))) [ inl full ↦ rw (none, full) refl | inr few ↦ rw (none, few) refl ]
]

found_behind : (pairs : List BucketValue) (new : BucketValue) (q : ℕ) → is_kept pairs q ≡ true → is_kept (pairs ++ new ∷ []) q ≡ true
found_behind pairs new q found = list_any-append (is_of q) pairs (new ∷ []) ∙ or_left (is_kept pairs q) (is_kept (new ∷ []) q) found

key_goes_on : (apart : ApartValue) (k n : ℕ) → GoesOn apart (with_key k n apart)
key_goes_on apart k n = record {
  same = key_bucket apart k n;
  crowd = λ is. crowd_same apart k n ∙ is;
  keeps = λ q kept. elim (cases_Bool (is_kept apart.pairs k)) [
    | inl found ↦ rw found (sym (kept_same number_of apart.pairs (map (if_of k n) apart.pairs) q (key_numbers k n apart.pairs)) ∙ kept)
    | inr none ↦ elim (cases_Bool (nat_le most_pairs (length apart.pairs))) [ inl full ↦ rw (none, full) kept | inr few ↦ rw (none, few) (found_behind apart.pairs (begun k n) q kept) ]
  ];
  told = λ place q kept all. elim (cases_Bool (is_kept apart.pairs k)) [
    | inl found ↦ rw found
        (All-map (IsTold q place) (if_of k n) apart.pairs
        (All-weaker (IsTold q place) (λ p. IsTold q place (if_of k n p)) (λ p known. key_told k n q place p known) apart.pairs all))
    | inr none ↦ elim (cases_Bool (nat_le most_pairs (length apart.pairs))) [
      | inl full ↦ rw (none, full) all
      | inr few ↦ rw (none, few)
          (All-push (IsTold q place) apart.pairs (begun k n) all (λ e. absurd (false≢true (sym none ∙ ap (is_kept apart.pairs) e ∙ kept))))
    ]
  ];
  sized = λ all. elim (cases_Bool (is_kept apart.pairs k)) [
    | inl found ↦ rw found
        (All-map IsSized (if_of k n) apart.pairs (All-weaker IsSized (λ p. IsSized (if_of k n p)) (λ p size. key_sized k n p size) apart.pairs all))
    | inr none ↦ elim (cases_Bool (nat_le most_pairs (length apart.pairs))) [
      | inl full ↦ rw (none, full) all
      | inr few ↦ rw (none, few) (All-push IsSized apart.pairs (begun k n) all refl)
    ]
  ];
}

-- a bucket is not forgotten by its own record
others_stay : (kept : List ApartValue) (i b : ℕ) (d : ApartValue) → i < length kept → ((get_or kept i d).bucket == b) ≡ false → has_bucket kept b ≡ true
    → has_bucket (remove kept i) b ≡ true
others_stay [] i b d lt other has = absurd (omega (arith, lt))
others_stay (a ∷ rest) zero b d lt other has = elim (or_cases (a.bucket == b) (has_bucket rest b) has) [
  | inl here ↦ absurd (false≢true (sym other ∙ here))
  | inr behind ↦ behind
]
others_stay (a ∷ rest) (suc i) b d lt other has = elim (or_cases (a.bucket == b) (has_bucket rest b) has) [
  | inl here ↦ or_left (a.bucket == b) (has_bucket (remove rest i) b) here
  | inr behind ↦ or_right (a.bucket == b) (has_bucket (remove rest i) b) (others_stay rest i b d (omega (arith, lt)) other behind)
]

position_stays : (kept : List ApartValue) (b : ℕ) (o : Option ℕ) → position (is_elsewhere b) kept ≡ o → has_bucket kept b ≡ true
    → has_bucket (without kept o) b ≡ true
position_stays kept b None found has = has
position_stays kept b (Some i) found has =
    let at = position-Some (is_elsewhere b) kept i no_bucket found in
    others_stay kept i b no_bucket at.0 (not-true ((get_or kept i no_bucket).bucket == b) at.1) has

own_stays : (kept : List ApartValue) (b k : ℕ) → has_bucket kept b ≡ true → has_bucket (without kept (forgotten_at kept b k)) b ≡ true
own_stays kept b k has = elim (cases_Bool (has_pair kept b k)) [
  | inl pair ↦ rw (sym (forgets_no_pair kept b k pair)) has
  | inr none ↦ elim (cases_lt (pair_count kept) most_pairs) [
    | inl few ↦ rw (sym (forgets_none kept b k few (inr has))) has
    | inr full ↦ rw (sym (forgets_other kept b k none full)) (position_stays kept b (position (is_elsewhere b) kept) refl has)
  ]
]

was_new : (kept : List ApartValue) (b k : ℕ) → has_bucket (without kept (forgotten_at kept b k)) b ≡ false → has_bucket kept b ≡ false
was_new kept b k none = elim (cases_Bool (has_bucket kept b)) [
  | inl has ↦ absurd (false≢true (sym none ∙ own_stays kept b k has))
  | inr lacks ↦ lacks
]

left_contained : (kept : List ApartValue) (o : Option ℕ) → All (Contains kept) (without kept o)
left_contained kept None = All-contains_itself kept
left_contained kept (Some i) =
    let here = All-contains_itself kept in
    All-append (Contains kept) (take i kept) (drop (suc i) kept) (All-take (Contains kept) i kept here) (All-drop (Contains kept) (suc i) kept here)

-- where each bucket comes from
took_comes : (kept left : List ApartValue) (b k n : ℕ) → All (Contains kept) left → (has_bucket left b ≡ false → has_bucket kept b ≡ false)
    → All (Comes kept) (Rattle.cf_watch.specs.Pairs.placing left b k n)
took_comes kept left b k n from new = elim (cases_Bool (has_bucket left b)) [
  | inl found ↦ rw found
      (All-append (Comes kept) (filter (is_elsewhere b) left) (map (with_key k n) (filter (is_at b) left))
      (All-weaker (Contains kept) (Comes kept) (λ a there. as_it_was kept a there) (filter (is_elsewhere b) left) (All-filter (is_elsewhere b) (Contains kept) left from))
      (All-map (Comes kept) (with_key k n) (filter (is_at b) left)
      (All-weaker (Contains kept) (λ a. Comes kept (with_key k n a)) (λ a there. inl (record { was = a; there = there; on = key_goes_on a k n })) (filter (is_at b) left)
      (All-filter (is_at b) (Contains kept) left from))))
  | inr none ↦ rw none
      (All-push (Comes kept) left (begun_apart b k n) (All-weaker (Contains kept) (Comes kept) (λ a there. as_it_was kept a there) left from)
      (inr (record { new = new none; sized = All-cons IsSized (begun k n) [] refl (All-nil IsSized) })))
]

told_pair : (trigger : Trigger) (place q p : ℕ) (pair : BucketValue) → IsTold q p pair → IsTold q p (with_told trigger place pair)
told_pair trigger place q p pair known = λ e. told_stays trigger place p pair (known (sym (told_number trigger place pair) ∙ e))

told_goes_on : (trigger : Trigger) (place : ℕ) (apart : ApartValue) → GoesOn apart (with_pairs_told trigger place apart)
told_goes_on trigger place apart = record {
  same = refl;
  crowd = λ is. is;
  keeps = λ q kept. kept_same number_of (map (with_told trigger place) apart.pairs) apart.pairs q (told_numbers trigger place apart.pairs) ∙ kept;
  told = λ p q kept all. All-map (IsTold q p) (with_told trigger place) apart.pairs
      (All-weaker (IsTold q p) (λ x. IsTold q p (with_told trigger place x)) (λ x known. told_pair trigger place q p x known) apart.pairs all);
  sized = λ all. All-map IsSized (with_told trigger place) apart.pairs
      (All-weaker IsSized (λ x. IsSized (with_told trigger place x)) (λ x size. told_size trigger place x ∙ size) apart.pairs all);
}

crowd_goes_on : (apart : ApartValue) → GoesOn apart (with_crowd_told apart)
crowd_goes_on apart = record {
  same = refl;
  crowd = λ is. or_left apart.crowd_told apart.crowded is;
  keeps = λ q kept. kept;
  told = λ p q kept all. all;
  sized = λ all. all;
}

pub origin_apart : (kept : List ApartValue) (s : PairStep) → All (Comes kept) (after_pair_step kept s)
origin_apart kept (took b k n) = took_comes kept (without kept (forgotten_at kept b k)) b k n (left_contained kept (forgotten_at kept b k)) (was_new kept b k)
origin_apart kept (told trigger place) =
    let count = settled_count trigger false (length kept) in
    let here = All-contains_itself kept in
    All-append (Comes kept) (map (with_pairs_told trigger place) (take count kept)) (drop count kept)
    (All-map (Comes kept) (with_pairs_told trigger place) (take count kept)
    (All-weaker (Contains kept) (λ a. Comes kept (with_pairs_told trigger place a)) (λ a there. inl (record { was = a; there = there; on = told_goes_on trigger place a }))
    (take count kept) (All-take (Contains kept) count kept here)))
    (All-weaker (Contains kept) (Comes kept) (λ a there. as_it_was kept a there) (drop count kept) (All-drop (Contains kept) count kept here))
origin_apart kept crowds =
    All-map (Comes kept) with_crowd_told kept
    (All-weaker (Contains kept) (λ a. Comes kept (with_crowd_told a)) (λ a there. inl (record { was = a; there = there; on = crowd_goes_on a })) kept
    (All-contains_itself kept))
