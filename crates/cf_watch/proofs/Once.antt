-- A bucket is told once while it is kept.
use Rattle.std.proofs.Common.{◌≡◌, ℕ, suc, zero, ◌<◌, Bool, true, false, not, ◌||◌, ◌&&◌, ◌==◌, List, [], ◌∷◌, ◌++◌, length, take, drop, get_or, map, filter, fold, All, refl, sym, ap, ◌∙◌, inl, inr, arith}
use Rattle.std.proofs.lemmas.Bool.{and_parts, cases_Bool, cases_order, eq-eqb, eqb-true, false≢true, le-ltb, lt-ltb, ne_eqb, not-true, or_cases, or_left, or_right}
use Rattle.std.proofs.lemmas.List.{get_or-set_same}
use Rattle.std.proofs.lemmas.List.Sums.{fold-append}
use Rattle.std.proofs.lemmas.List.Elements.{All-cons, All-contains, All-get_or, All-head, All-nil, All-tail, All-take}
use Rattle.std.proofs.lemmas.List.Folds.{Any-from_list_any, list_any_at}
use Rattle.std.specs.List.{list_any}
use Rattle.cf_fold.specs.declared.trigger.Trigger.{Trigger}
use Rattle.cf_plain.specs.Groups.{key_of_mark}
use Rattle.cf_plain.specs.declared.answer.Fired.{Fired}
use Rattle.cf_watch.specs.Kept.{AreApart, BucketValue, is_kept, is_of, most_triggers}
use Rattle.cf_watch.specs.Laws.{HasMarkOf, Step, told, after_step, after_steps}
use Rattle.cf_watch.specs.Marks.{fresh_on, is_told, is_untold, mark_in, meets, put_mark, settled, settled_count, telling, with_told}
use Rattle.cf_watch.proofs.Distinct.{kept_same, number_of}
use Rattle.cf_watch.proofs.Since.{few_kept}
use Rattle.cf_watch.proofs.Steps.{origin}
use Rattle.cf_watch.proofs.Told.{numbers_first, told_number}

abbrev marks_bucket : ℕ → Fired → Bool
marks_bucket q mark = key_of_mark mark == q

or_twice : (a b : Bool) → (a || b) ≡ (a || (a || b))
or_twice true b = refl
or_twice false b = refl

or_swap : (a b c : Bool) → (a || (b || c)) ≡ (b || (a || c))
or_swap true true c = refl
or_swap true false c = refl
or_swap false b c = refl

or_move : (a b c : Bool) → (a || b || c) ≡ (b || (a || c))
or_move true true c = refl
or_move true false c = refl
or_move false b c = refl

or_none : (a : Bool) → a ≡ (a || false)
or_none true = refl
or_none false = refl

and_true : (a : Bool) → a ≡ (a && true)
and_true true = refl
and_true false = refl

none_and : (a : Bool) → false ≡ (a && false)
none_and true = refl
none_and false = refl

any_put : (ms : List Fired) (mark : Fired) (q : ℕ) → list_any (marks_bucket q) (put_mark ms mark) ≡ (marks_bucket q mark || list_any (marks_bucket q) ms)
any_put [] mark q = refl
any_put (m ∷ ms) mark q =
    let mine : ℕ = key_of_mark mark in
    let its : ℕ = key_of_mark m in
    elim (cases_order mine its) [
      | inl e ↦ rw (le-ltb mine its (omega (arith, e)), eq-eqb mine its e) (rw (sym e) (or_twice (mine == q) (list_any (marks_bucket q) ms)))
      | inr (inl below) ↦ rw (lt-ltb mine its below) refl
      | inr (inr above) ↦ rw (le-ltb mine its (omega (arith, above)), ne_eqb mine its (λ e. omega (arith, e, above)), any_put ms mark q)
          (or_swap (its == q) (mine == q) (list_any (marks_bucket q) ms))
    ]

any_from : (ms ns : List Fired) (q : ℕ) → list_any (marks_bucket q) (fold put_mark ms ns) ≡ (list_any (marks_bucket q) ms || list_any (marks_bucket q) ns)
any_from ms [] q = or_none (list_any (marks_bucket q) ms)
any_from ms (n ∷ ns) q =
    any_from (put_mark ms n) ns q ∙ rw (any_put ms n q) (or_move (marks_bucket q n) (list_any (marks_bucket q) ms) (list_any (marks_bucket q) ns))

-- the bucket, and the test passes
abbrev passes_of : (BucketValue → Bool) → ℕ → BucketValue → Bool
passes_of test q k = (k.bucket == q) && test k

any_marks : (trigger : Trigger) (test : BucketValue → Bool) (ks : List BucketValue) (q : ℕ)
    → list_any (marks_bucket q) (map (mark_in trigger) (filter test ks)) ≡ list_any (passes_of test q) ks
any_marks trigger test [] q = refl
any_marks trigger test (k ∷ ks) q = elim (cases_Bool (test k)) [
  | inl pass ↦ rw (pass, any_marks trigger test ks q) (ap (λ b. b || list_any (passes_of test q) ks) (and_true (k.bucket == q)))
  | inr fail ↦ rw (fail, any_marks trigger test ks q) (ap (λ b. b || list_any (passes_of test q) ks) (none_and (k.bucket == q)))
]

fresh_has : (trigger : Trigger) (place b : ℕ) (kept : List BucketValue) → HasMarkOf (fresh_on trigger place kept) b
    → list_any (passes_of (is_untold trigger place) b) (settled trigger false kept) ≡ true
fresh_has trigger place b kept has =
    sym (any_marks trigger (is_untold trigger place) (settled trigger false kept) b)
    ∙ sym (any_from [] (map (mark_in trigger) (filter (is_untold trigger place) (settled trigger false kept))) b) ∙ has

-- if it is the bucket, then it was told
abbrev pub IsTold : ℕ → ℕ → BucketValue → Type 0
IsTold b place k = k.bucket ≡ b → is_told place k ≡ true

lacking_told : (b place : ℕ) (kept : List BucketValue) → is_kept kept b ≡ false → All (IsTold b place) kept
lacking_told b place kept none = λ i d lt e. absurd (false≢true (sym none ∙ list_any_at (is_of b) kept i d lt (eq-eqb (get_or kept i d).bucket b e)))

found_in : (test : BucketValue → Bool) (b n : ℕ) (kept : List BucketValue) → list_any (passes_of test b) (take n kept) ≡ true → is_kept kept b ≡ true
found_in test b zero kept found = absurd (false≢true found)
found_in test b (suc n) [] found = absurd (false≢true found)
found_in test b (suc n) (k ∷ ks) found = elim (or_cases (passes_of test b k) (list_any (passes_of test b) (take n ks)) found) [
  | inl here ↦ or_left (k.bucket == b) (is_kept ks b) (and_parts (k.bucket == b) (test k) here).0
  | inr behind ↦ or_right (k.bucket == b) (is_kept ks b) (found_in test b n ks behind)
]

abbrev pub first_told : Trigger → ℕ → ℕ → List BucketValue → List BucketValue
first_told trigger place n kept = map (with_told trigger place) (take n kept) ++ drop n kept

abbrev pub IsSized : BucketValue → Type 0
IsSized k = length k.told ≡ most_triggers

now_told : (trigger : Trigger) (place : ℕ) (k : BucketValue) → place < most_triggers → IsSized k → meets trigger k ≡ true
    → is_told place (with_told trigger place k) ≡ true
now_told trigger place k lt size met = rw met (get_or-set_same k.told place true false (omega (arith, lt, size)))

pub telling_tells : (trigger : Trigger) (place b n : ℕ) (kept : List BucketValue) → place < most_triggers → AreApart kept → All IsSized kept
    → list_any (passes_of (is_untold trigger place) b) (take n kept) ≡ true → All (IsTold b place) (first_told trigger place n kept)
telling_tells trigger place b zero kept lt apart sized found = absurd (false≢true found)
telling_tells trigger place b (suc n) [] lt apart sized found = absurd (false≢true found)
telling_tells trigger place b (suc n) (k ∷ ks) lt apart sized found =
    let test : BucketValue → Bool = is_untold trigger place in
    elim (or_cases (passes_of test b k) (list_any (passes_of test b) (take n ks)) found) [
      | inl here ↦
          let parts = and_parts (k.bucket == b) (test k) here in
          let of : k.bucket ≡ b = eqb-true k.bucket b parts.0 in
          let met = (and_parts (meets trigger k) (not (is_told place k)) parts.1).0 in
          let lacks : is_kept (first_told trigger place n ks) b ≡ false =
          sym (kept_same number_of ks (first_told trigger place n ks) b (numbers_first trigger place n ks)) ∙ ap (is_kept ks) (sym of) ∙ apart.0 in
          All-cons (IsTold b place) (with_told trigger place k) (first_told trigger place n ks)
          (λ e. now_told trigger place k lt (All-head IsSized k ks sized) met)
          (lacking_told b place (first_told trigger place n ks) lacks)
      | inr behind ↦
          let there : is_kept ks b ≡ true = found_in test b n ks behind in
          let differ : k.bucket ≡ b → ⊥ = λ e. false≢true (sym apart.0 ∙ ap (is_kept ks) e ∙ there) in
          All-cons (IsTold b place) (with_told trigger place k) (first_told trigger place n ks)
          (λ e. absurd (differ (sym (told_number trigger place k) ∙ e)))
          (telling_tells trigger place b n ks lt apart.1 (All-tail IsSized k ks sized) behind)
    ]

-- all flags stay
sized_more : (kept : List BucketValue) (s : Step) → All IsSized kept → All IsSized (after_step kept s)
sized_more kept s sized = λ i d lt. elim (origin kept s i d lt) [
  | inl stays ↦ stays.size ∙ All-contains IsSized kept stays.was sized stays.there
  | inr new ↦ new.size
]

sized_from : (kept : List BucketValue) (steps : List Step) → All IsSized kept → All IsSized (fold after_step kept steps)
sized_from kept [] sized = sized
sized_from kept (s ∷ steps) sized = sized_from (after_step kept s) steps (sized_more kept s sized)

-- what was told has no mark that is not
told_has_none : (trigger : Trigger) (place b : ℕ) (kept : List BucketValue) → All (IsTold b place) kept → HasMarkOf (fresh_on trigger place kept) b → ⊥
told_has_none trigger place b kept known has =
    let test : BucketValue → Bool = is_untold trigger place in
    let any = Any-from_list_any (passes_of test b) (settled trigger false kept) (fresh_has trigger place b kept has) in
    let k : BucketValue = any.1 in
    let parts = and_parts (k.bucket == b) (test k) any.4 in
    let untold = (and_parts (meets trigger k) (not (is_told place k)) parts.1).1 in
    let at = All-get_or (IsTold b place) (settled trigger false kept) any.0 k any.2 (All-take (IsTold b place) (settled_count trigger false (length kept)) kept known) in
    let is : IsTold b place k = rw any.3 at at in
    false≢true (sym (not-true (is_told place k) untold) ∙ is (eqb-true k.bucket b parts.0))

-- it stays told until it is forgotten
still_told : (kept : List BucketValue) (s : Step) (b place : ℕ) → is_kept kept b ≡ true → All (IsTold b place) kept → All (IsTold b place) (after_step kept s)
still_told kept s b place there known = λ i d lt e. elim (origin kept s i d lt) [
  | inl stays ↦ stays.told place (All-contains (IsTold b place) kept stays.was known stays.there (sym stays.same ∙ e))
  | inr new ↦ absurd (false≢true (sym new.new ∙ ap (is_kept kept) e ∙ there))
]

until_forgotten : (kept : List BucketValue) (ys : List Step) (trigger : Trigger) (place b : ℕ) → All (IsTold b place) kept
    → HasMarkOf (fresh_on trigger place (fold after_step kept ys)) b
    → (us : List Step) × (vs : List Step) × (ys ≡ us ++ vs) × (is_kept (fold after_step kept us) b ≡ false)
until_forgotten kept [] trigger place b known has = absurd (told_has_none trigger place b kept known has)
until_forgotten kept (s ∷ ys) trigger place b known has = elim (cases_Bool (is_kept kept b)) [
  | inl there ↦
      let rest = until_forgotten (after_step kept s) ys trigger place b (still_told kept s b place there known) has in
      (s ∷ rest.0, rest.1, ap (λ zs. s ∷ zs) rest.2, rest.3)
  | inr none ↦ ([], s ∷ ys, refl, none)
]

pub tells_once : (xs ys : List Step) (trigger later : Trigger) (place b : ℕ) → place < most_triggers → HasMarkOf (fresh_on trigger place (after_steps xs)) b
    → HasMarkOf (fresh_on later place (after_steps (xs ++ told trigger place ∷ ys))) b
    → (us : List Step) × (vs : List Step) × (ys ≡ us ++ vs) × (is_kept (after_steps (xs ++ told trigger place ∷ us)) b ≡ false)
tells_once xs ys trigger later place b lt first second =
    let kept : List BucketValue = after_steps xs in
    let now : All (IsTold b place) (telling trigger place kept) =
    telling_tells trigger place b (settled_count trigger false (length kept)) kept lt (few_kept xs).1 (sized_from [] xs (All-nil IsSized))
    (fresh_has trigger place b kept first) in
    let behind : (zs : List Step) → after_steps (xs ++ told trigger place ∷ zs) ≡ fold after_step (telling trigger place kept) zs =
    λ zs. fold-append after_step [] xs (told trigger place ∷ zs) in
    let again = rw (behind ys) at second in
    let gone = until_forgotten (telling trigger place kept) ys later place b now again in
    (gone.0, gone.1, gone.2, ap (λ ks. is_kept ks b) (behind gone.0) ∙ gone.3)
