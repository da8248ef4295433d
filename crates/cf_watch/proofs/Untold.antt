-- If all keys with an unreported mark are at some places, then it is enough to look there.
use Rattle.std.proofs.Common.{◌≡◌, ℕ, zero, suc, ◌+◌, ◌<◌, ◌≤◌, Bool, true, false, ◌==◌, List, [], ◌∷◌, length, drop, get_or, set, map, filter, fold, refl, sym, ap, ◌∙◌, inl, inr, arith}
use Rattle.std.proofs.lemmas.Bool.{cases_Bool, cases_eq, cases_order, eq-eqb, false≢true, le-ltb, lt-ltb, ne_eqb}
use Rattle.std.proofs.lemmas.List.{drop_all, drop_more, get_or-set_other, get_or-set_same, length-set, map-set, set-get_or}
use Rattle.std.proofs.lemmas.List.Folds.{list_any_at}
use Rattle.std.specs.List.{list_any}
use Rattle.cf_fold.specs.declared.trigger.Trigger.{Trigger}
use Rattle.cf_plain.specs.Groups.{key_of_mark}
use Rattle.cf_plain.specs.declared.answer.Fired.{Fired}
use Rattle.cf_watch.specs.Kept.{AreApart, BucketValue, begun, is_of}
use Rattle.cf_watch.specs.Marks.{is_untold, put_mark, with_told}
use Rattle.cf_watch.specs.PairMarks.{pair_mark}
use Rattle.cf_watch.specs.Notes.{AreUntoldAt, is_among, pair_at}
use Rattle.cf_watch.proofs.Noted.{pair_told, told_again, untold_none, quiet_same}

-- it is another one than the place in front
among_rest : (places : List ℕ) (i k : ℕ) → i < length places → (k ≡ get_or places i 0 → ⊥) → is_among (drop i places) k ≡ is_among (drop (i + 1) places) k
among_rest places i k lt ne =
    let differ : (get_or places i 0 == k) ≡ false = ne_eqb (get_or places i 0) k (λ e. ne (sym e)) in
    rw (drop_more places i 0 lt, differ) refl

-- the key at one more place is marked as reported
pub told_at : (trigger : Trigger) (place : ℕ) (old pairs : List BucketValue) (places : List ℕ) (i at : ℕ) (new : BucketValue) → i < length places
    → at ≡ get_or places i 0 → at < length pairs → new ≡ with_told trigger place (pair_at pairs at) → is_untold trigger place new ≡ false
    → map (with_told trigger place) pairs ≡ map (with_told trigger place) old
    → map (with_told trigger place) (set pairs at new) ≡ map (with_told trigger place) old
told_at trigger place old pairs places i at new lt here within is none same =
    let f : BucketValue → BucketValue = with_told trigger place in
    let stays : f new ≡ pair_at (map f pairs) at = told_again trigger place new none ∙ is ∙ sym (pair_told trigger place pairs at within) in
    map-set f pairs at new ∙ ap (λ (k : BucketValue). set (map f pairs) at k) stays ∙ set-get_or (map f pairs) at (begun 0 0) ∙ same

pub untold_left : (trigger : Trigger) (place : ℕ) (pairs : List BucketValue) (places : List ℕ) (i at : ℕ) (new : BucketValue) → i < length places
    → at ≡ get_or places i 0 → at < length pairs → is_untold trigger place new ≡ false → AreUntoldAt trigger place (drop i places) pairs
    → AreUntoldAt trigger place (drop (i + 1) places) (set pairs at new)
untold_left trigger place pairs places i at new lt here within none are = λ k low is. elim (cases_eq k at) [
  | inl e ↦
      let read : pair_at (set pairs at new) k ≡ new = ap (pair_at (set pairs at new)) e ∙ get_or-set_same pairs at new (begun 0 0) within in
      absurd (false≢true (sym none ∙ ap (is_untold trigger place) (sym read) ∙ is))
  | inr ne ↦
      let read : pair_at (set pairs at new) k ≡ pair_at pairs k = get_or-set_other pairs at k new (begun 0 0) ne in
      let fewer : k < length pairs = let long = length-set pairs at new in omega (arith, long, low) in
      sym (among_rest places i k lt (λ e. ne (e ∙ sym here))) ∙ are k fewer (ap (is_untold trigger place) (sym read) ∙ is)
]

-- all are
pub told_all_there : (trigger : Trigger) (place : ℕ) (old pairs : List BucketValue) (places : List ℕ) (n : ℕ) → length places ≤ n
    → map (with_told trigger place) pairs ≡ map (with_told trigger place) old → AreUntoldAt trigger place (drop n places) pairs
    → (pairs ≡ map (with_told trigger place) old) × (list_any (is_untold trigger place) pairs ≡ false)
told_all_there trigger place old pairs places n le same are =
    let none : AreUntoldAt trigger place [] pairs = rw (drop_all n places le) at are in
    let quiet = untold_none trigger place pairs none in
    (quiet_same trigger place pairs quiet ∙ same, quiet)

-- where a mark is put
put_below : (m : Fired) (ms : List Fired) (mark : Fired) → key_of_mark mark < key_of_mark m → put_mark (m ∷ ms) mark ≡ mark ∷ m ∷ ms
put_below m ms mark lt = rw (lt-ltb (key_of_mark mark) (key_of_mark m) lt) refl

put_here : (m : Fired) (ms : List Fired) (mark : Fired) → key_of_mark mark ≡ key_of_mark m → put_mark (m ∷ ms) mark ≡ mark ∷ ms
put_here m ms mark e = rw (le-ltb (key_of_mark mark) (key_of_mark m) (omega (arith, e)), eq-eqb (key_of_mark mark) (key_of_mark m) e) refl

put_behind : (m : Fired) (ms : List Fired) (mark : Fired) → key_of_mark m < key_of_mark mark → put_mark (m ∷ ms) mark ≡ m ∷ put_mark ms mark
put_behind m ms mark lt =
    rw (le-ltb (key_of_mark mark) (key_of_mark m) (omega (arith, lt)), ne_eqb (key_of_mark mark) (key_of_mark m) (λ e. omega (arith, e, lt))) refl

put_twice : (ms : List Fired) (mark : Fired) → put_mark (put_mark ms mark) mark ≡ put_mark ms mark
put_twice [] mark = put_here mark [] mark refl
put_twice (m ∷ ms) mark = elim (cases_order (key_of_mark mark) (key_of_mark m)) [
  | inl e ↦ rw (put_here m ms mark e) (put_here mark ms mark refl)
  | inr (inl below) ↦ rw (put_below m ms mark below) (put_here mark (m ∷ ms) mark refl)
  | inr (inr above) ↦ rw (put_behind m ms mark above) (put_behind m (put_mark ms mark) mark above ∙ ap (λ ks. m ∷ ks) (put_twice ms mark))
]

-- the order in which two are put does not count
put_low : (ms : List Fired) (a b : Fired) → key_of_mark a < key_of_mark b → put_mark (put_mark ms a) b ≡ put_mark (put_mark ms b) a
put_low [] a b lt = put_behind a [] b lt ∙ sym (put_below b [] a lt)
put_low (m ∷ ms) a b lt = elim (cases_order (key_of_mark a) (key_of_mark m)) [
  | inl e ↦
      let above : key_of_mark m < key_of_mark b = omega (arith, e, lt) in
      ap (λ ks. put_mark ks b) (put_here m ms a e) ∙ put_behind a ms b lt ∙ sym (put_here m (put_mark ms b) a e)
      ∙ sym (ap (λ ks. put_mark ks a) (put_behind m ms b above))
  | inr (inl below) ↦ ap (λ ks. put_mark ks b) (put_below m ms a below) ∙ put_behind a (m ∷ ms) b lt
      ∙ elim (cases_order (key_of_mark b) (key_of_mark m)) [
        | inl e ↦ rw (put_here m ms b e) (sym (put_below b ms a lt))
        | inr (inl low) ↦ rw (put_below m ms b low) (sym (put_below b (m ∷ ms) a lt))
        | inr (inr high) ↦ rw (put_behind m ms b high) (sym (put_below m (put_mark ms b) a below))
      ]
  | inr (inr above) ↦
      let higher : key_of_mark m < key_of_mark b = omega (arith, above, lt) in
      ap (λ ks. put_mark ks b) (put_behind m ms a above) ∙ put_behind m (put_mark ms a) b higher
      ∙ ap (λ ks. m ∷ ks) (put_low ms a b lt)
      ∙ sym (ap (λ ks. put_mark ks a) (put_behind m ms b higher) ∙ put_behind m (put_mark ms b) a above)
]

put_either : (ms : List Fired) (a b : Fired) → (key_of_mark a ≡ key_of_mark b → ⊥) → put_mark (put_mark ms a) b ≡ put_mark (put_mark ms b) a
put_either ms a b ne = elim (cases_order (key_of_mark a) (key_of_mark b)) [
  | inl e ↦ absurd (ne e)
  | inr (inl below) ↦ put_low ms a b below
  | inr (inr above) ↦ sym (put_low ms b a above)
]

-- keys at different places are different
differ_at : (pairs : List BucketValue) (i j : ℕ) → AreApart pairs → i < length pairs → j < length pairs → (i ≡ j → ⊥)
    → (pair_at pairs i).bucket ≡ (pair_at pairs j).bucket → ⊥
differ_at [] i j apart low lower ne = λ e. absurd (omega (arith, low))
differ_at (x ∷ xs) zero zero apart low lower ne = λ e. ne refl
differ_at (x ∷ xs) zero (suc j) apart low lower ne = λ e.
    false≢true (sym apart.0 ∙ list_any_at (is_of x.bucket) xs j (begun 0 0) (omega (arith, lower)) (eq-eqb (pair_at xs j).bucket x.bucket (sym e)))
differ_at (x ∷ xs) (suc i) zero apart low lower ne = λ e.
    false≢true (sym apart.0 ∙ list_any_at (is_of x.bucket) xs i (begun 0 0) (omega (arith, low)) (eq-eqb (pair_at xs i).bucket x.bucket e))
differ_at (x ∷ xs) (suc i) (suc j) apart low lower ne = differ_at xs i j apart.1 (omega (arith, low)) (omega (arith, lower)) (λ e. ne (ap suc e))

marks_differ : (trigger : Trigger) (b : ℕ) (x y : BucketValue) → (x.bucket ≡ y.bucket → ⊥) → key_of_mark (pair_mark trigger b x) ≡ key_of_mark (pair_mark trigger b y) → ⊥
marks_differ trigger b x y ne same = ne (omega (arith, same))

module _ (trigger : Trigger) (b : ℕ) (test : BucketValue → Bool) where
  -- a mark that is among those to come changes nothing
  put_before : (pairs : List BucketValue) (i : ℕ) (ms : List Fired) → AreApart pairs → i < length pairs → test (pair_at pairs i) ≡ true
      → fold put_mark (put_mark ms (pair_mark trigger b (pair_at pairs i))) (map (pair_mark trigger b) (filter test pairs))
      ≡ fold put_mark ms (map (pair_mark trigger b) (filter test pairs))
  put_before [] i ms apart lt pass = absurd (omega (arith, lt))
  put_before (x ∷ xs) zero ms apart lt pass =
      rw pass (ap (λ ks. fold put_mark ks (map (pair_mark trigger b) (filter test xs))) (put_twice ms (pair_mark trigger b x)))
  put_before (x ∷ xs) (suc i) ms apart lt pass =
      let low : i < length xs = omega (arith, lt) in
      let ne = differ_at (x ∷ xs) (suc i) zero apart lt (omega (arith, lt)) (λ e. omega (arith, e)) in
      elim (cases_Bool (test x)) [
        | inl passes ↦ rw passes (ap (λ ks. fold put_mark ks (map (pair_mark trigger b) (filter test xs)))
            (put_either ms (pair_mark trigger b (pair_at xs i)) (pair_mark trigger b x) (marks_differ trigger b (pair_at xs i) x ne))
            ∙ put_before xs i (put_mark ms (pair_mark trigger b x)) apart.1 low pass)
        | inr fails ↦ rw fails (put_before xs i ms apart.1 low pass)
      ]

  -- nor do marks that were put before
  put_again : (pairs : List BucketValue) (ms : List Fired)
      → ((i : ℕ) → i < length pairs → test (pair_at pairs i) ≡ true → put_mark ms (pair_mark trigger b (pair_at pairs i)) ≡ ms)
      → fold put_mark ms (map (pair_mark trigger b) (filter test pairs)) ≡ ms
  put_again [] ms all = refl
  put_again (x ∷ xs) ms all =
      let rest = put_again xs ms (λ i lt pass. all (suc i) (omega (arith, lt)) pass) in
      elim (cases_Bool (test x)) [
        | inl passes ↦ rw passes (ap (λ ks. fold put_mark ks (map (pair_mark trigger b) (filter test xs))) (all zero (omega arith) passes) ∙ rest)
        | inr fails ↦ rw fails rest
      ]

-- Of the marks at some places so many are put: with those of all keys put behind them they are as from the beginning, and each mark
-- that is not at one of the other places is among them.
pub record ArePut (trigger : Trigger) (place b : ℕ) (pairs : List BucketValue) (left : List ℕ) (before now : List Fired) : Type 0 where
  pub all : fold put_mark now (map (pair_mark trigger b) (filter (is_untold trigger place) pairs))
      ≡ fold put_mark before (map (pair_mark trigger b) (filter (is_untold trigger place) pairs))
  pub put : (k : ℕ) → k < length pairs → is_untold trigger place (pair_at pairs k) ≡ true → is_among left k ≡ false
      → put_mark now (pair_mark trigger b (pair_at pairs k)) ≡ now

pub none_put : (trigger : Trigger) (place b : ℕ) (pairs : List BucketValue) (places : List ℕ) (before : List Fired) → AreUntoldAt trigger place places pairs
    → ArePut trigger place b pairs places before before
none_put trigger place b pairs places before are = record {
  all = refl;
  put = λ k lt is none. absurd (false≢true (sym none ∙ are k lt is));
}

-- that at one place more
pub one_put : (trigger : Trigger) (place b : ℕ) (pairs : List BucketValue) (places : List ℕ) (i at : ℕ) (before now after : List Fired) → AreApart pairs
    → i < length places → at ≡ get_or places i 0 → at < length pairs → is_untold trigger place (pair_at pairs at) ≡ true
    → ArePut trigger place b pairs (drop i places) before now → after ≡ put_mark now (pair_mark trigger b (pair_at pairs at))
    → ArePut trigger place b pairs (drop (i + 1) places) before after
one_put trigger place b pairs places i at before now after apart lt here within pass are is = record {
  all = ap (λ ks. fold put_mark ks (map (pair_mark trigger b) (filter (is_untold trigger place) pairs))) is
      ∙ put_before trigger b (is_untold trigger place) pairs at now apart within pass ∙ are.all;
  put = λ k low untold none. elim (cases_eq k at) [
    | inl e ↦
        let mark : Fired = pair_mark trigger b (pair_at pairs at) in
        ap (λ (n : ℕ). put_mark after (pair_mark trigger b (pair_at pairs n))) e ∙ ap (λ ks. put_mark ks mark) is ∙ put_twice now mark ∙ sym is
    | inr ne ↦
        let mark : Fired = pair_mark trigger b (pair_at pairs at) in
        let mine : Fired = pair_mark trigger b (pair_at pairs k) in
        let same : put_mark now mine ≡ now = are.put k low untold (among_rest places i k lt (λ e. ne (e ∙ sym here)) ∙ none) in
        let other = marks_differ trigger b (pair_at pairs at) (pair_at pairs k) (differ_at pairs at k apart within low (λ e. ne (sym e))) in
        ap (λ ks. put_mark ks mine) is ∙ put_either now mark mine other ∙ ap (λ ks. put_mark ks mark) same ∙ sym is
  ];
}

-- there is none at it
pub one_skipped : (trigger : Trigger) (place b : ℕ) (pairs : List BucketValue) (places : List ℕ) (i at : ℕ) (before now : List Fired)
    → i < length places → at ≡ get_or places i 0 → is_untold trigger place (pair_at pairs at) ≡ false
    → ArePut trigger place b pairs (drop i places) before now → ArePut trigger place b pairs (drop (i + 1) places) before now
one_skipped trigger place b pairs places i at before now lt here fail are = record {
  all = are.all;
  put = λ k low untold none. elim (cases_eq k at) [
    | inl e ↦ absurd (false≢true (sym fail ∙ ap (λ (n : ℕ). is_untold trigger place (pair_at pairs n)) (sym e) ∙ untold))
    | inr ne ↦ are.put k low untold (among_rest places i k lt (λ e. ne (e ∙ sym here)) ∙ none)
  ];
}

pub all_put : (trigger : Trigger) (place b : ℕ) (pairs : List BucketValue) (places : List ℕ) (n : ℕ) (before now : List Fired) → length places ≤ n
    → ArePut trigger place b pairs (drop n places) before now
    → now ≡ fold put_mark before (map (pair_mark trigger b) (filter (is_untold trigger place) pairs))
all_put trigger place b pairs places n before now le are =
    sym (put_again trigger b (is_untold trigger place) pairs now (λ k lt is. are.put k lt is (ap (λ ps. is_among ps k) (drop_all n places le)))) ∙ are.all
