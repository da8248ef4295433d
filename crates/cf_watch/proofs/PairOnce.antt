-- A key is told once while its bucket is kept, and so is that a bucket is crowded.
use Rattle.std.proofs.Common.{◌≡◌, ℕ, suc, zero, ◌<◌, Bool, true, false, not, nat_lt, ◌||◌, ◌&&◌, ◌==◌, List, [], ◌∷◌, ◌++◌, length, take, drop, get_or, map, filter, fold, All, refl, sym, ap, ◌∙◌, inl, inr, arith, ◌⊎◌, append-nil, Some}
use Rattle.std.proofs.lemmas.Bool.{and_parts, cases_Bool, eq-eqb, eqb-true, false≢true, not-true, or_cases, or_from, or_left, or_parts, or_right}
use Rattle.std.proofs.lemmas.List.{drop_all, take_all}
use Rattle.std.proofs.lemmas.List.Sums.{fold-append}
use Rattle.std.proofs.lemmas.List.Elements.{All-cons, All-contains, All-get_or, All-head, All-nil, All-tail, All-take, All-weaker}
use Rattle.std.proofs.lemmas.List.Folds.{Any-from_list_any, list_any-append, list_any_at}
use Rattle.std.specs.List.{flat_map, list_any}
use Rattle.cf_fold.specs.declared.trigger.Trigger.{Trigger}
use Rattle.cf_plain.specs.Groups.{key_of_mark}
use Rattle.cf_plain.specs.declared.answer.Fired.{Fired}
use Rattle.cf_plain.proofs.Grouped.{any_ascending}
use Rattle.cf_watch.specs.Kept.{AreApart, BucketValue, is_kept, most_triggers}
use Rattle.cf_watch.specs.Marks.{is_told, is_untold, meets, put_mark, settled_count, with_told}
use Rattle.cf_watch.specs.New.{is_on}
use Rattle.cf_watch.specs.Pairs.{ApartValue, AreSeparate, IsApart, has_bucket, is_at}
use Rattle.cf_watch.specs.PairMarks.{apart_fresh, apart_telling, crowds_told, is_crowd_untold, marks_at, pair_mark, settled_apart, with_crowd_told, with_pairs_told}
use Rattle.cf_watch.specs.PairLaws.{HasCrowd, HasMarkOn, PairStep, told, crowds, after_pair_step, after_pair_steps}
use Rattle.cf_watch.proofs.Distinct.{kept_same, number_of}
use Rattle.cf_watch.proofs.Told.{told_numbers}
use Rattle.cf_watch.proofs.Once.{IsSized, IsTold, telling_tells}
use Rattle.cf_watch.proofs.PairSteps.{lawful, origin_apart}

-- what is found among marks was found before
any_put : (test : Fired → Bool) (ms : List Fired) (mark : Fired) → list_any test (put_mark ms mark) ≡ true → (test mark ≡ true) ⊎ (list_any test ms ≡ true)
any_put test [] mark found = or_cases (test mark) false found
any_put test (m ∷ ms) mark found = elim (cases_Bool (nat_lt (key_of_mark mark) (key_of_mark m))) [
  | inl before ↦ let is = rw before at found in or_cases (test mark) (list_any test (m ∷ ms)) is
  | inr behind ↦ elim (cases_Bool (key_of_mark mark == key_of_mark m)) [
    | inl same ↦
        let is = rw (behind, same) at found in
        elim (or_cases (test mark) (list_any test ms) is) [ inl here ↦ inl here | inr rest ↦ inr (or_right (test m) (list_any test ms) rest) ]
    | inr other ↦
        let is = rw (behind, other) at found in
        elim (or_cases (test m) (list_any test (put_mark ms mark)) is) [
          | inl here ↦ inr (or_left (test m) (list_any test ms) here)
          | inr rest ↦ elim (any_put test ms mark rest) [ inl here ↦ inl here | inr there ↦ inr (or_right (test m) (list_any test ms) there) ]
        ]
  ]
]

any_fold : (test : Fired → Bool) (ms ns : List Fired) → list_any test (fold put_mark ms ns) ≡ true → (list_any test ms ≡ true) ⊎ (list_any test ns ≡ true)
any_fold test ms [] found = inl found
any_fold test ms (n ∷ ns) found = elim (any_fold test (put_mark ms n) ns found) [
  | inl put ↦ elim (any_put test ms n put) [ inl here ↦ inr (or_left (test n) (list_any test ns) here) | inr there ↦ inl there ]
  | inr rest ↦ inr (or_right (test n) (list_any test ns) rest)
]

-- the key, and the test passes
abbrev passes_of : (BucketValue → Bool) → ℕ → BucketValue → Bool
passes_of test k pair = (pair.bucket == k) && test pair

-- the bucket, and a key of it passes
abbrev has_of : (BucketValue → Bool) → ℕ → ℕ → ApartValue → Bool
has_of test b k apart = (apart.bucket == b) && list_any (passes_of test k) apart.pairs

any_at : (trigger : Trigger) (test : BucketValue → Bool) (q b k : ℕ) (pairs : List BucketValue)
    → list_any (is_on (b, Some k)) (map (pair_mark trigger q) (filter test pairs)) ≡ true → ((q == b) ≡ true) × (list_any (passes_of test k) pairs ≡ true)
any_at trigger test q b k [] found = absurd (false≢true found)
any_at trigger test q b k (x ∷ xs) found = elim (cases_Bool (test x)) [
  | inl pass ↦
      let is = rw pass at found in
      elim (or_cases (is_on (b, Some k) (pair_mark trigger q x)) (list_any (is_on (b, Some k)) (map (pair_mark trigger q) (filter test xs))) is) [
        | inl here ↦
            let parts = and_parts (q == b) (x.bucket == k) here in
            (parts.0, or_left (passes_of test k x) (list_any (passes_of test k) xs) (rw (parts.1, pass) refl))
        | inr behind ↦
            let rest = any_at trigger test q b k xs behind in
            (rest.0, or_right (passes_of test k x) (list_any (passes_of test k) xs) rest.1)
      ]
  | inr fail ↦
      let is = rw fail at found in
      let rest = any_at trigger test q b k xs is in
      (rest.0, or_right (passes_of test k x) (list_any (passes_of test k) xs) rest.1)
]

any_marks : (trigger : Trigger) (test : BucketValue → Bool) (b k : ℕ) (kept : List ApartValue)
    → list_any (is_on (b, Some k)) (flat_map (marks_at trigger test) kept) ≡ true → list_any (has_of test b k) kept ≡ true
any_marks trigger test b k [] found = absurd (false≢true found)
any_marks trigger test b k (a ∷ rest) found =
    let split = sym (list_any-append (is_on (b, Some k)) (marks_at trigger test a) (flat_map (marks_at trigger test) rest)) ∙ found in
    elim (or_cases (list_any (is_on (b, Some k)) (marks_at trigger test a)) (list_any (is_on (b, Some k)) (flat_map (marks_at trigger test) rest)) split) [
      | inl here ↦
          let is = any_at trigger test a.bucket b k a.pairs here in
          or_left (has_of test b k a) (list_any (has_of test b k) rest) (rw (is.0, is.1) refl)
      | inr behind ↦ or_right (has_of test b k a) (list_any (has_of test b k) rest) (any_marks trigger test b k rest behind)
    ]

fresh_has : (trigger : Trigger) (place b k : ℕ) (kept : List ApartValue) → HasMarkOn (apart_fresh trigger place kept) b k
    → list_any (has_of (is_untold trigger place) b k) (settled_apart trigger false kept) ≡ true
fresh_has trigger place b k kept has =
    elim (any_fold (is_on (b, Some k)) [] (flat_map (marks_at trigger (is_untold trigger place)) (settled_apart trigger false kept)) has) [
      | inl none ↦ absurd (false≢true none)
      | inr found ↦ any_marks trigger (is_untold trigger place) b k (settled_apart trigger false kept) found
    ]

-- if it is the bucket, then the key is kept in it and was told
abbrev IsPairTold : ℕ → ℕ → ℕ → ApartValue → Type 0
IsPairTold b k place apart = apart.bucket ≡ b → (is_kept apart.pairs k ≡ true) × All (IsTold k place) apart.pairs

abbrev AreSized : ApartValue → Type 0
AreSized apart = All IsSized apart.pairs

pairs_found : (test : BucketValue → Bool) (k : ℕ) (pairs : List BucketValue) → list_any (passes_of test k) pairs ≡ true → is_kept pairs k ≡ true
pairs_found test k [] found = absurd (false≢true found)
pairs_found test k (x ∷ xs) found = elim (or_cases (passes_of test k x) (list_any (passes_of test k) xs) found) [
  | inl here ↦ or_left (x.bucket == k) (is_kept xs k) (and_parts (x.bucket == k) (test x) here).0
  | inr behind ↦ or_right (x.bucket == k) (is_kept xs k) (pairs_found test k xs behind)
]

bucket_found : (test : BucketValue → Bool) (b k n : ℕ) (kept : List ApartValue) → list_any (has_of test b k) (take n kept) ≡ true → has_bucket kept b ≡ true
bucket_found test b k zero kept found = absurd (false≢true found)
bucket_found test b k (suc n) [] found = absurd (false≢true found)
bucket_found test b k (suc n) (a ∷ rest) found = elim (or_cases (has_of test b k a) (list_any (has_of test b k) (take n rest)) found) [
  | inl here ↦ or_left (a.bucket == b) (has_bucket rest b) (and_parts (a.bucket == b) (list_any (passes_of test k) a.pairs) here).0
  | inr behind ↦ or_right (a.bucket == b) (has_bucket rest b) (bucket_found test b k n rest behind)
]

lacking : (b k place : ℕ) (kept : List ApartValue) → has_bucket kept b ≡ false → All (IsPairTold b k place) kept
lacking b k place kept none = λ i d lt e. absurd (false≢true (sym none ∙ list_any_at (is_at b) kept i d lt (eq-eqb (get_or kept i d).bucket b e)))

-- all keys are told
pairs_told : (trigger : Trigger) (place k : ℕ) (pairs : List BucketValue) → place < most_triggers → AreApart pairs → All IsSized pairs
    → list_any (passes_of (is_untold trigger place) k) pairs ≡ true → All (IsTold k place) (map (with_told trigger place) pairs)
pairs_told trigger place k pairs lt apart sized found =
    let n : ℕ = length pairs in
    let front : take n pairs ≡ pairs = take_all n pairs (omega arith) in
    let whole : map (with_told trigger place) (take n pairs) ++ drop n pairs ≡ map (with_told trigger place) pairs =
    rw (front, drop_all n pairs (omega arith)) (append-nil (map (with_told trigger place) pairs)) in
    let all = telling_tells trigger place k n pairs lt apart sized (rw front found) in
    rw whole at all

told_lacks : (trigger : Trigger) (place n b : ℕ) (kept : List ApartValue) → has_bucket kept b ≡ false
    → has_bucket (map (with_pairs_told trigger place) (take n kept) ++ drop n kept) b ≡ false
told_lacks trigger place zero b kept none = none
told_lacks trigger place (suc n) b [] none = refl
told_lacks trigger place (suc n) b (a ∷ rest) none =
    let parts = or_parts (a.bucket == b) (has_bucket rest b) none in
    or_from (a.bucket == b) (has_bucket (map (with_pairs_told trigger place) (take n rest) ++ drop n rest) b) parts.0
    (told_lacks trigger place n b rest parts.1)

telling_tells_pair : (trigger : Trigger) (place b k n : ℕ) (kept : List ApartValue) → place < most_triggers → AreSeparate kept → All (λ a. AreApart a.pairs) kept
    → All AreSized kept → list_any (has_of (is_untold trigger place) b k) (take n kept) ≡ true
    → All (IsPairTold b k place) (map (with_pairs_told trigger place) (take n kept) ++ drop n kept)
telling_tells_pair trigger place b k zero kept lt separate apart sized found = absurd (false≢true found)
telling_tells_pair trigger place b k (suc n) [] lt separate apart sized found = absurd (false≢true found)
telling_tells_pair trigger place b k (suc n) (a ∷ rest) lt separate apart sized found =
    let test : BucketValue → Bool = is_untold trigger place in
    let later : List ApartValue = map (with_pairs_told trigger place) (take n rest) ++ drop n rest in
    elim (or_cases (has_of test b k a) (list_any (has_of test b k) (take n rest)) found) [
      | inl here ↦
          let parts = and_parts (a.bucket == b) (list_any (passes_of test k) a.pairs) here in
          let of : a.bucket ≡ b = eqb-true a.bucket b parts.0 in
          let lacks : has_bucket later b ≡ false = told_lacks trigger place n b rest (rw (sym of) separate.0) in
          let kept' : is_kept (map (with_told trigger place) a.pairs) k ≡ true =
          kept_same number_of (map (with_told trigger place) a.pairs) a.pairs k (told_numbers trigger place a.pairs)
          ∙ pairs_found test k a.pairs parts.1 in
          All-cons (IsPairTold b k place) (with_pairs_told trigger place a) later
          (λ e. (kept', pairs_told trigger place k a.pairs lt (All-head (λ x. AreApart x.pairs) a rest apart) (All-head AreSized a rest sized) parts.1))
          (lacking b k place later lacks)
      | inr behind ↦
          let there : has_bucket rest b ≡ true = bucket_found test b k n rest behind in
          let differ : a.bucket ≡ b → ⊥ = λ e. false≢true (sym separate.0 ∙ ap (has_bucket rest) e ∙ there) in
          All-cons (IsPairTold b k place) (with_pairs_told trigger place a) later (λ e. absurd (differ e))
          (telling_tells_pair trigger place b k n rest lt separate.1 (All-tail (λ x. AreApart x.pairs) a rest apart) (All-tail AreSized a rest sized) behind)
    ]

-- all flags stay
sized_more : (kept : List ApartValue) (s : PairStep) → All AreSized kept → All AreSized (after_pair_step kept s)
sized_more kept s sized = λ i d lt. elim (origin_apart kept s i d lt) [
  | inl stays ↦ stays.on.sized (All-contains AreSized kept stays.was sized stays.there)
  | inr starts ↦ starts.sized
]

sized_from : (kept : List ApartValue) (steps : List PairStep) → All AreSized kept → All AreSized (fold after_pair_step kept steps)
sized_from kept [] sized = sized
sized_from kept (s ∷ steps) sized = sized_from (after_pair_step kept s) steps (sized_more kept s sized)

-- what was told has no mark that is not
found_untold : (trigger : Trigger) (place k : ℕ) (pairs : List BucketValue) → list_any (passes_of (is_untold trigger place) k) pairs ≡ true → All (IsTold k place) pairs → ⊥
found_untold trigger place k pairs found known =
    let any = Any-from_list_any (passes_of (is_untold trigger place) k) pairs found in
    let pair : BucketValue = any.1 in
    let parts = and_parts (pair.bucket == k) (is_untold trigger place pair) any.4 in
    let untold = (and_parts (meets trigger pair) (not (is_told place pair)) parts.1).1 in
    let at = All-get_or (IsTold k place) pairs any.0 pair any.2 known in
    let is : IsTold k place pair = rw any.3 at at in
    false≢true (sym (not-true (is_told place pair) untold) ∙ is (eqb-true pair.bucket k parts.0))

told_has_none : (trigger : Trigger) (place b k : ℕ) (kept : List ApartValue) → All (IsPairTold b k place) kept → HasMarkOn (apart_fresh trigger place kept) b k → ⊥
told_has_none trigger place b k kept known has =
    let test : ApartValue → Bool = has_of (is_untold trigger place) b k in
    let any = Any-from_list_any test (settled_apart trigger false kept) (fresh_has trigger place b k kept has) in
    let a : ApartValue = any.1 in
    let parts = and_parts (a.bucket == b) (list_any (passes_of (is_untold trigger place) k) a.pairs) any.4 in
    let at = All-get_or (IsPairTold b k place) (settled_apart trigger false kept) any.0 a any.2
    (All-take (IsPairTold b k place) (settled_count trigger false (length kept)) kept known) in
    let is : IsPairTold b k place a = rw any.3 at at in
    found_untold trigger place k a.pairs parts.1 (is (eqb-true a.bucket b parts.0)).1

-- it stays told until the bucket is forgotten
still_told : (kept : List ApartValue) (s : PairStep) (b k place : ℕ) → has_bucket kept b ≡ true → All (IsPairTold b k place) kept
    → All (IsPairTold b k place) (after_pair_step kept s)
still_told kept s b k place there known = λ i d lt e. elim (origin_apart kept s i d lt) [
  | inl stays ↦
      let was = All-contains (IsPairTold b k place) kept stays.was known stays.there (sym stays.on.same ∙ e) in
      (stays.on.keeps k was.0, stays.on.told place k was.0 was.1)
  | inr starts ↦ absurd (false≢true (sym starts.new ∙ ap (has_bucket kept) e ∙ there))
]

until_forgotten : (kept : List ApartValue) (ys : List PairStep) (trigger : Trigger) (place b k : ℕ) → All (IsPairTold b k place) kept
    → HasMarkOn (apart_fresh trigger place (fold after_pair_step kept ys)) b k
    → (us : List PairStep) × (vs : List PairStep) × (ys ≡ us ++ vs) × (has_bucket (fold after_pair_step kept us) b ≡ false)
until_forgotten kept [] trigger place b k known has = absurd (told_has_none trigger place b k kept known has)
until_forgotten kept (s ∷ ys) trigger place b k known has = elim (cases_Bool (has_bucket kept b)) [
  | inl there ↦
      let rest = until_forgotten (after_pair_step kept s) ys trigger place b k (still_told kept s b k place there known) has in
      (s ∷ rest.0, rest.1, ap (λ zs. s ∷ zs) rest.2, rest.3)
  | inr none ↦ ([], s ∷ ys, refl, none)
]

pub tells_pairs_once : (xs ys : List PairStep) (trigger later : Trigger) (place b k : ℕ) → place < most_triggers
    → HasMarkOn (apart_fresh trigger place (after_pair_steps xs)) b k → HasMarkOn (apart_fresh later place (after_pair_steps (xs ++ told trigger place ∷ ys))) b k
    → (us : List PairStep) × (vs : List PairStep) × (ys ≡ us ++ vs) × (has_bucket (after_pair_steps (xs ++ told trigger place ∷ us)) b ≡ false)
tells_pairs_once xs ys trigger later place b k lt first second =
    let kept : List ApartValue = after_pair_steps xs in
    let is = (lawful xs).1 in
    let now : All (IsPairTold b k place) (apart_telling trigger place kept) =
    telling_tells_pair trigger place b k (settled_count trigger false (length kept)) kept lt is.separate
    (All-weaker (IsApart (lawful xs).0) (λ a. AreApart a.pairs) (λ a one. one.different) kept is.apart)
    (sized_from [] xs (All-nil AreSized)) (fresh_has trigger place b k kept first) in
    let behind : (zs : List PairStep) → after_pair_steps (xs ++ told trigger place ∷ zs) ≡ fold after_pair_step (apart_telling trigger place kept) zs =
    λ zs. fold-append after_pair_step [] xs (told trigger place ∷ zs) in
    let again = rw (behind ys) at second in
    let gone = until_forgotten (apart_telling trigger place kept) ys later place b k now again in
    (gone.0, gone.1, gone.2, ap (λ ks. has_bucket ks b) (behind gone.0) ∙ gone.3)

-- crowded buckets
abbrev IsCrowdTold : ℕ → ApartValue → Type 0
IsCrowdTold b apart = apart.bucket ≡ b → apart.crowd_told ≡ true

crowd_found : (kept : List ApartValue) (b : ℕ) → HasCrowd kept b → list_any (λ a. (b == a.bucket) && is_crowd_untold a) kept ≡ true
crowd_found kept b has =
    among kept (sym (any_ascending (map (λ a. a.bucket) (filter is_crowd_untold kept)) b) ∙ has)
  where
    among : (ks : List ApartValue) → list_any (λ n. b == n) (map (λ a. a.bucket) (filter is_crowd_untold ks)) ≡ true
        → list_any (λ a. (b == a.bucket) && is_crowd_untold a) ks ≡ true
    among [] found = absurd (false≢true found)
    among (a ∷ rest) found = elim (cases_Bool (is_crowd_untold a)) [
      | inl pass ↦
          let is = rw pass at found in
          elim (or_cases (b == a.bucket) (list_any (λ n. b == n) (map (λ a. a.bucket) (filter is_crowd_untold rest))) is) [
            | inl here ↦ or_left ((b == a.bucket) && is_crowd_untold a) (list_any (λ a. (b == a.bucket) && is_crowd_untold a) rest) (rw (here, pass) refl)
            | inr behind ↦ or_right ((b == a.bucket) && is_crowd_untold a) (list_any (λ a. (b == a.bucket) && is_crowd_untold a) rest) (among rest behind)
          ]
      | inr fail ↦
          let is = rw fail at found in
          or_right ((b == a.bucket) && is_crowd_untold a) (list_any (λ a. (b == a.bucket) && is_crowd_untold a) rest) (among rest is)
    ]

no_crowd : (kept : List ApartValue) (b : ℕ) → All (IsCrowdTold b) kept → HasCrowd kept b → ⊥
no_crowd kept b known has =
    let test : ApartValue → Bool = λ a. (b == a.bucket) && is_crowd_untold a in
    let any = Any-from_list_any test kept (crowd_found kept b has) in
    let a : ApartValue = any.1 in
    let parts = and_parts (b == a.bucket) (is_crowd_untold a) any.4 in
    let untold = (and_parts a.crowded (not a.crowd_told) parts.1).1 in
    let at = All-get_or (IsCrowdTold b) kept any.0 a any.2 known in
    let is : IsCrowdTold b a = rw any.3 at at in
    false≢true (sym (not-true a.crowd_told untold) ∙ is (sym (eqb-true b a.bucket parts.0)))

lacks_crowd : (b : ℕ) (kept : List ApartValue) → has_bucket kept b ≡ false → All (IsCrowdTold b) kept
lacks_crowd b kept none = λ i d lt e. absurd (false≢true (sym none ∙ list_any_at (is_at b) kept i d lt (eq-eqb (get_or kept i d).bucket b e)))

crowd_lacks : (kept : List ApartValue) (b : ℕ) → has_bucket (crowds_told kept) b ≡ has_bucket kept b
crowd_lacks [] b = refl
crowd_lacks (a ∷ rest) b = ap (λ r. (a.bucket == b) || r) (crowd_lacks rest b)

crowd_there : (b : ℕ) (kept : List ApartValue) → list_any (λ a. (b == a.bucket) && is_crowd_untold a) kept ≡ true → has_bucket kept b ≡ true
crowd_there b [] found = absurd (false≢true found)
crowd_there b (a ∷ rest) found = elim (or_cases ((b == a.bucket) && is_crowd_untold a) (list_any (λ a. (b == a.bucket) && is_crowd_untold a) rest) found) [
  | inl here ↦
      let e : b ≡ a.bucket = eqb-true b a.bucket (and_parts (b == a.bucket) (is_crowd_untold a) here).0 in
      or_left (a.bucket == b) (has_bucket rest b) (eq-eqb a.bucket b (sym e))
  | inr behind ↦ or_right (a.bucket == b) (has_bucket rest b) (crowd_there b rest behind)
]

tells_crowd : (b : ℕ) (kept : List ApartValue) → AreSeparate kept → list_any (λ a. (b == a.bucket) && is_crowd_untold a) kept ≡ true
    → All (IsCrowdTold b) (crowds_told kept)
tells_crowd b [] separate found = absurd (false≢true found)
tells_crowd b (a ∷ rest) separate found = elim (or_cases ((b == a.bucket) && is_crowd_untold a) (list_any (λ a. (b == a.bucket) && is_crowd_untold a) rest) found) [
  | inl here ↦
      let parts = and_parts (b == a.bucket) (is_crowd_untold a) here in
      let e : b ≡ a.bucket = eqb-true b a.bucket parts.0 in
      let crowded = (and_parts a.crowded (not a.crowd_told) parts.1).0 in
      All-cons (IsCrowdTold b) (with_crowd_told a) (crowds_told rest) (λ same. or_right a.crowd_told a.crowded crowded)
      (lacks_crowd b (crowds_told rest) (crowd_lacks rest b ∙ ap (has_bucket rest) e ∙ separate.0))
  | inr behind ↦
      All-cons (IsCrowdTold b) (with_crowd_told a) (crowds_told rest)
      (λ same. absurd (false≢true (sym separate.0 ∙ ap (has_bucket rest) same ∙ crowd_there b rest behind))) (tells_crowd b rest separate.1 behind)
]

still_crowd : (kept : List ApartValue) (s : PairStep) (b : ℕ) → has_bucket kept b ≡ true → All (IsCrowdTold b) kept → All (IsCrowdTold b) (after_pair_step kept s)
still_crowd kept s b there known = λ i d lt e. elim (origin_apart kept s i d lt) [
  | inl stays ↦ stays.on.crowd (All-contains (IsCrowdTold b) kept stays.was known stays.there (sym stays.on.same ∙ e))
  | inr starts ↦ absurd (false≢true (sym starts.new ∙ ap (has_bucket kept) e ∙ there))
]

until_gone : (kept : List ApartValue) (ys : List PairStep) (b : ℕ) → All (IsCrowdTold b) kept → HasCrowd (fold after_pair_step kept ys) b
    → (us : List PairStep) × (vs : List PairStep) × (ys ≡ us ++ vs) × (has_bucket (fold after_pair_step kept us) b ≡ false)
until_gone kept [] b known has = absurd (no_crowd kept b known has)
until_gone kept (s ∷ ys) b known has = elim (cases_Bool (has_bucket kept b)) [
  | inl there ↦
      let rest = until_gone (after_pair_step kept s) ys b (still_crowd kept s b there known) has in
      (s ∷ rest.0, rest.1, ap (λ zs. s ∷ zs) rest.2, rest.3)
  | inr none ↦ ([], s ∷ ys, refl, none)
]

pub tells_crowds_once : (xs ys : List PairStep) (b : ℕ) → HasCrowd (after_pair_steps xs) b → HasCrowd (after_pair_steps (xs ++ crowds ∷ ys)) b
    → (us : List PairStep) × (vs : List PairStep) × (ys ≡ us ++ vs) × (has_bucket (after_pair_steps (xs ++ crowds ∷ us)) b ≡ false)
tells_crowds_once xs ys b first second =
    let kept : List ApartValue = after_pair_steps xs in
    let now : All (IsCrowdTold b) (crowds_told kept) = tells_crowd b kept (lawful xs).1.separate (crowd_found kept b first) in
    let behind : (zs : List PairStep) → after_pair_steps (xs ++ crowds ∷ zs) ≡ fold after_pair_step (crowds_told kept) zs =
    λ zs. fold-append after_pair_step [] xs (crowds ∷ zs) in
    let again = rw (behind ys) at second in
    let gone = until_gone (crowds_told kept) ys b now again in
    (gone.0, gone.1, gone.2, ap (λ ks. has_bucket ks b) (behind gone.0) ∙ gone.3)
