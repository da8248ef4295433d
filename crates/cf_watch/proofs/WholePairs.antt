-- Streams of few buckets and few pairs, of which none is forgotten.
use Rattle.std.proofs.Common.{◌≡◌, ℕ, suc, zero, ◌+◌, ◌^◌, ◌≤◌, ◌<◌, Bool, true, false, ◌||◌, ◌&&◌, ◌==◌, List, [], ◌∷◌, ◌++◌, length, take, drop, get_or, map, All, refl, sym, ap, ap₂, subst, ◌∙◌, inl, inr, arith, append-nil, Some}
use Rattle.std.proofs.lemmas.Bool.{cases_Bool, cases_eq, cond-false, cond-true, eq-eqb, false≢true, lt-leb, ne_eqb}
use Rattle.std.proofs.lemmas.List.{length-map, length_push, map-append}
use Rattle.std.proofs.lemmas.List.Concat.{flat_map-append}
use Rattle.std.proofs.lemmas.List.Edits.{length-remove}
use Rattle.std.proofs.lemmas.List.Elements.{All-append, All-cons, All-drop, All-get_or, All-head, All-map, All-nil, All-push, All-tail, All-take, All-weaker}
use Rattle.std.proofs.lemmas.List.Folds.{list_any-append, list_any_at}
use Rattle.std.proofs.lemmas.List.Sums.{sum_by_push}
use Rattle.std.specs.List.{flat_map, list_any, remove}
use Rattle.cf_fold.specs.Quads.{QuadValue, plus, quad_of}
use Rattle.cf_shape.specs.Lanes.{both_keys}
use Rattle.cf_plain.specs.Groups.{ascending}
use Rattle.cf_plain.proofs.Grouped.{any_ascending, rise_ascending}
use Rattle.cf_watch.specs.Kept.{BucketValue, begun, is_kept, is_of}
use Rattle.cf_watch.specs.Laws.{Step, took, value_in, values_of}
use Rattle.cf_watch.specs.Pairs.{ApartValue, IsKeptApart, begun_apart, has_bucket, has_pair, if_of, is_at, most_apart, most_pairs, no_bucket, pair_count, placing, taking_apart, with_key, without}
use Rattle.cf_watch.proofs.Distinct.{numbers}
use Rattle.cf_watch.proofs.Placing.{begun_at, forgets_no_pair, forgets_none, found_place, gone, key_numbers, left_size, pair_bucket, pair_of, taken_at}
use Rattle.cf_watch.proofs.Steps.{plus_push}
use Rattle.cf_watch.proofs.Whole.{ascending_push, bucket_in, buckets_in, eq_swap, grows_by_one, has, has_again, has_push, no_values, or_false, stays_as_long}

-- a bucket and a key as one number
abbrev pub number : ℕ → ℕ → ℕ
number b k = both_keys b (Some k)

abbrev pub numbers_at : ApartValue → List ℕ
numbers_at apart = map (λ pair. number apart.bucket pair.bucket) apart.pairs

abbrev pub all_numbers : List ApartValue → List ℕ
all_numbers kept = flat_map numbers_at kept

-- the quad of each key is that of all its records
abbrev pub IsWholePair : List Step → ℕ → BucketValue → Type 0
IsWholePair ss b pair = (pair.bucket < 2 ^ 64) × (pair.quad ≡ quad_of (values_of (number b pair.bucket) ss))

pub record IsWholeBucket (ss : List Step) (apart : ApartValue) : Type 0 where
  pub low : apart.bucket < 2 ^ 64
  pub pairs : All (IsWholePair ss apart.bucket) apart.pairs

pub record IsWhole (kept : List ApartValue) (bs : List ℕ) (ss : List Step) : Type 0 where
  pub buckets : (q : ℕ) → has_bucket kept q ≡ has bs q
  pub members : (q : ℕ) → has (all_numbers kept) q ≡ has (buckets_in ss) q
  pub size : length kept ≡ length (ascending bs)
  pub pairs : pair_count kept ≡ length (ascending (buckets_in ss))
  pub quads : All (IsWholeBucket ss) kept

-- two pairs with one number are the same
number_same : (b k c q : ℕ) → k < 2 ^ 64 → q < 2 ^ 64 → (number b k == number c q) ≡ ((c == b) && (q == k))
number_same b k c q low low' = elim (cases_eq c b) [
  | inl e ↦ elim (cases_eq q k) [
    | inl f ↦ rw (eq-eqb c b e, eq-eqb q k f) (eq-eqb (number b k) (number c q) (omega (arith, e, f)))
    | inr nf ↦ rw (eq-eqb c b e, ne_eqb q k nf) (ne_eqb (number b k) (number c q) (λ g. nf (omega (arith, e, g))))
  ]
  | inr ne ↦ rw (ne_eqb c b ne) (ne_eqb (number b k) (number c q) (λ g. ne (omega (arith, g, low, low'))))
]

and_or : (a x y : Bool) → ((a && x) || (a && y)) ≡ (a && (x || y))
and_or true x y = refl
and_or false x y = refl

and_none : (a : Bool) → false ≡ (a && false)
and_none true = refl
and_none false = refl

abbrev AreLowKeys : List BucketValue → Type 0
AreLowKeys pairs = All (λ (pair : BucketValue). pair.bucket < 2 ^ 64) pairs

bucket_member : (c b k : ℕ) (pairs : List BucketValue) → k < 2 ^ 64 → AreLowKeys pairs
    → has (map (λ pair. number c pair.bucket) pairs) (number b k) ≡ ((c == b) && is_kept pairs k)
bucket_member c b k [] low lows = and_none (c == b)
bucket_member c b k (x ∷ xs) low lows =
    let P : BucketValue → Type 0 = λ pair. pair.bucket < 2 ^ 64 in
    ap₂ (λ s t. s || t) (number_same b k c x.bucket low (All-head P x xs lows)) (bucket_member c b k xs low (All-tail P x xs lows))
    ∙ and_or (c == b) (x.bucket == k) (is_kept xs k)

pair_member : (kept : List ApartValue) (b k : ℕ) → k < 2 ^ 64 → All (λ a. AreLowKeys a.pairs) kept → has (all_numbers kept) (number b k) ≡ has_pair kept b k
pair_member [] b k low lows = refl
pair_member (a ∷ rest) b k low lows =
    let P : ApartValue → Type 0 = λ x. AreLowKeys x.pairs in
    list_any-append (λ n. number b k == n) (numbers_at a) (all_numbers rest)
    ∙ ap₂ (λ s t. s || t) (bucket_member a.bucket b k a.pairs low (All-head P a rest lows)) (pair_member rest b k low (All-tail P a rest lows))

-- one at a place, and the others
or_swap : (a b c : Bool) → (a || (b || c)) ≡ (b || (a || c))
or_swap true true c = refl
or_swap true false c = refl
or_swap false b c = refl

any_place : (f : ApartValue → Bool) (kept : List ApartValue) (i : ℕ) (d : ApartValue) → i < length kept
    → list_any f kept ≡ (f (get_or kept i d) || list_any f (remove kept i))
any_place f [] i d lt = absurd (omega (arith, lt))
any_place f (a ∷ rest) zero d lt = refl
any_place f (a ∷ rest) (suc i) d lt =
    ap (λ r. f a || r) (any_place f rest i d (omega (arith, lt))) ∙ or_swap (f a) (f (get_or rest i d)) (list_any f (remove rest i))

or_turn : (a b : Bool) → (b || (a || false)) ≡ (a || b)
or_turn true true = refl
or_turn true false = refl
or_turn false true = refl
or_turn false false = refl

any_moved : (f : ApartValue → Bool) (kept : List ApartValue) (i : ℕ) (new d : ApartValue) → i < length kept
    → list_any f (remove kept i ++ new ∷ []) ≡ (f new || list_any f (remove kept i))
any_moved f kept i new d lt = list_any-append f (remove kept i) (new ∷ []) ∙ or_turn (f new) (list_any f (remove kept i))

has_numbers : (kept : List ApartValue) (q : ℕ) → has (all_numbers kept) q ≡ list_any (λ a. has (numbers_at a) q) kept
has_numbers [] q = refl
has_numbers (a ∷ rest) q = list_any-append (λ n. q == n) (numbers_at a) (all_numbers rest) ∙ ap (λ r. has (numbers_at a) q || r) (has_numbers rest q)

-- one step more
one_brings : (q : ℕ) (ss : List Step) (m n : ℕ) → values_of q (ss ++ took m n ∷ []) ≡ values_of q ss ++ value_in q (took m n)
one_brings q ss m n = flat_map-append (value_in q) ss (took m n ∷ []) ∙ ap (λ xs. values_of q ss ++ xs) (append-nil (value_in q (took m n)))

numbers_more : (ss : List Step) (m n : ℕ) → buckets_in (ss ++ took m n ∷ []) ≡ buckets_in ss ++ m ∷ []
numbers_more ss m n = flat_map-append bucket_in ss (took m n ∷ [])

same_pair : (ss : List Step) (b m n : ℕ) (pair : BucketValue) → (m == number b pair.bucket) ≡ false → IsWholePair ss b pair → IsWholePair (ss ++ took m n ∷ []) b pair
same_pair ss b m n pair other is = (
  is.0,
  is.1 ∙ ap quad_of (sym (one_brings (number b pair.bucket) ss m n ∙ ap (λ x. values_of (number b pair.bucket) ss ++ x) (cond-false (m == number b pair.bucket) (n ∷ []) [] other)
      ∙ append-nil (values_of (number b pair.bucket) ss))),
)

more_pair : (ss : List Step) (b k n : ℕ) (pair : BucketValue) → k < 2 ^ 64 → IsWholePair ss b pair → IsWholePair (ss ++ took (number b k) n ∷ []) b (if_of k n pair)
more_pair ss b k n pair low is = elim (cases_eq pair.bucket k) [
  | inl e ↦
      let here : (number b k == number b pair.bucket) ≡ true = eq-eqb (number b k) (number b pair.bucket) (omega (arith, e)) in
      rw (eq-eqb pair.bucket k e) (
        is.0,
        ap (λ (q : QuadValue). plus q n) is.1 ∙ plus_push (values_of (number b pair.bucket) ss) n
            ∙ ap quad_of (sym (one_brings (number b pair.bucket) ss (number b k) n
            ∙ ap (λ x. values_of (number b pair.bucket) ss ++ x) (cond-true (number b k == number b pair.bucket) (n ∷ []) [] here))),
      )
  | inr ne ↦
      let other : (number b k == number b pair.bucket) ≡ false = ne_eqb (number b k) (number b pair.bucket) (λ g. ne (omega (arith, g))) in
      rw (ne_eqb pair.bucket k ne) (same_pair ss b (number b k) n pair other is)
]

-- other buckets
others_whole : (ss : List Step) (b k n : ℕ) (kept : List ApartValue) → k < 2 ^ 64 → has_bucket kept b ≡ false → All (IsWholeBucket ss) kept
    → All (IsWholeBucket (ss ++ took (number b k) n ∷ [])) kept
others_whole ss b k n kept low none all = λ i d lt.
    let a : ApartValue = get_or kept i d in
    let differ : a.bucket ≡ b → ⊥ = λ e. false≢true (sym none ∙ list_any_at (is_at b) kept i d lt (eq-eqb a.bucket b e)) in
    record {
      low = (all i d lt).low;
      pairs = All-weaker (IsWholePair ss a.bucket) (IsWholePair (ss ++ took (number b k) n ∷ []) a.bucket)
          (λ pair is. same_pair ss a.bucket (number b k) n pair (ne_eqb (number b k) (number a.bucket pair.bucket) (λ g. differ (omega (arith, g, low, is.0)))) is)
          a.pairs (all i d lt).pairs;
    }

begun_whole : (ss : List Step) (b k n : ℕ) → k < 2 ^ 64 → has (buckets_in ss) (number b k) ≡ false → IsWholePair (ss ++ took (number b k) n ∷ []) b (begun k n)
begun_whole ss b k n low none = (
  low,
  ap quad_of (sym (one_brings (number b k) ss (number b k) n
      ∙ ap₂ (λ xs ys. xs ++ ys) (no_values (number b k) ss none) (cond-true (number b k == number b k) (n ∷ []) [] (eq-eqb (number b k) (number b k) refl)))),
)

lows_of : (ss : List Step) (kept : List ApartValue) → All (IsWholeBucket ss) kept → All (λ a. AreLowKeys a.pairs) kept
lows_of ss kept all =
    All-weaker (IsWholeBucket ss) (λ a. AreLowKeys a.pairs)
    (λ a one. All-weaker (IsWholePair ss a.bucket) (λ (pair : BucketValue). pair.bucket < 2 ^ 64) (λ pair is. is.0) a.pairs one.pairs) kept all

at_numbers : (b : ℕ) (pairs : List BucketValue) → map (λ pair. number b pair.bucket) pairs ≡ map (number b) (numbers pairs)
at_numbers b [] = refl
at_numbers b (x ∷ xs) = ap (λ ns. number b x.bucket ∷ ns) (at_numbers b xs)

or_last : (a b c : Bool) → ((a || b) || c) ≡ ((a || c) || b)
or_last true b c = refl
or_last false true true = refl
or_last false true false = refl
or_last false false true = refl
or_last false false false = refl

not_key : (b k : ℕ) (pairs : List BucketValue) → is_kept pairs k ≡ false → All (λ (pair : BucketValue). (number b k == number b pair.bucket) ≡ false) pairs
not_key b k pairs none = λ i d lt.
    ne_eqb (number b k) (number b (get_or pairs i d).bucket)
    (λ g. false≢true (sym none ∙ list_any_at (is_of k) pairs i d lt (eq-eqb (get_or pairs i d).bucket k (omega (arith, g)))))

-- a bucket that took a record at its place, and moved to the end
pub record HasTaken (ss : List Step) (b k n : ℕ) (was new : ApartValue) : Type 0 where
  pub same : new.bucket ≡ was.bucket
  pub nums : (q : ℕ) → has (numbers_at new) q ≡ (has (numbers_at was) q || (q == number b k))
  pub sizes : length (ascending (buckets_in ss ++ number b k ∷ [])) + length was.pairs ≡ length (ascending (buckets_in ss)) + length new.pairs
  pub whole : IsWholeBucket (ss ++ took (number b k) n ∷ []) new

module _ (kept : List ApartValue) (bs : List ℕ) (ss : List Step) (count b k n : ℕ) (lawful : IsKeptApart kept count) (is : IsWhole kept bs ss) (low : k < 2 ^ 64)
    (low_b : b < 2 ^ 64) (few : length (ascending (bs ++ b ∷ [])) ≤ most_apart)
    (fewer : length (ascending (buckets_in ss ++ number b k ∷ [])) ≤ most_pairs) where
  abbrev later : List Step
  later = ss ++ took (number b k) n ∷ []

  there : has (buckets_in ss) (number b k) ≡ has_pair kept b k
  there = sym (is.members (number b k)) ∙ pair_member kept b k low (lows_of ss kept is.quads)

  numbers_later : (q : ℕ) → (has (buckets_in ss) q || (q == number b k)) ≡ has (buckets_in later) q
  numbers_later q = sym (has_push (buckets_in ss) (number b k) q) ∙ ap (λ ns. has ns q) (sym (numbers_more ss (number b k) n))

  length_later : length (ascending (buckets_in later)) ≡ length (ascending (buckets_in ss ++ number b k ∷ []))
  length_later = ap (λ ns. length (ascending ns)) (numbers_more ss (number b k) n)

  module _ (i : ℕ) (lt : i < length kept) (of : (get_or kept i no_bucket).bucket ≡ b) (new : ApartValue) (has_taken : HasTaken ss b k n (get_or kept i no_bucket) new) where
    abbrev was : ApartValue
    was = get_or kept i no_bucket

    moved_whole : IsWhole (remove kept i ++ new ∷ []) (bs ++ b ∷ []) later
    moved_whole =
        let in_kept : has_bucket kept b ≡ true = list_any_at (is_at b) kept i no_bucket lt (eq-eqb was.bucket b of) in
        let in_bs : has bs b ≡ true = sym (is.buckets b) ∙ in_kept in
        let count_pairs = sum_by_push (λ (a : ApartValue). length a.pairs) (remove kept i) new in
        let left = left_size kept i no_bucket lt in
        record {
          buckets = λ q.
              any_moved (is_at q) kept i new no_bucket lt ∙ ap (λ c. (c == q) || list_any (is_at q) (remove kept i)) has_taken.same
              ∙ sym (any_place (is_at q) kept i no_bucket lt) ∙ is.buckets q ∙ has_again bs b q in_bs ∙ sym (has_push bs b q);
          members = λ q.
              let f : ApartValue → Bool = λ a. has (numbers_at a) q in
              has_numbers (remove kept i ++ new ∷ []) q ∙ any_moved f kept i new no_bucket lt ∙ ap (λ t. t || list_any f (remove kept i)) (has_taken.nums q)
              ∙ or_last (f was) (q == number b k) (list_any f (remove kept i))
              ∙ ap (λ t. t || (q == number b k)) (sym (any_place f kept i no_bucket lt) ∙ sym (has_numbers kept q) ∙ is.members q) ∙ numbers_later q;
          size = let len = length_push (remove kept i) new in
              let before = length-remove kept i lt in
              let same : length (ascending (bs ++ b ∷ [])) ≡ length (ascending bs) =
              ap length (ascending_push bs b) ∙ stays_as_long (ascending bs) b (rise_ascending bs) (any_ascending bs b ∙ in_bs) in
              omega (arith, len, before, same, is.size);
          pairs = omega (arith, count_pairs, left, is.pairs, has_taken.sizes, length_later);
          quads = All-push (IsWholeBucket later) (remove kept i) new
              (others_whole ss b k n (remove kept i) low (gone kept i b no_bucket lawful.separate lt of)
              (All-append (IsWholeBucket ss) (take i kept) (drop (suc i) kept) (All-take (IsWholeBucket ss) i kept is.quads) (All-drop (IsWholeBucket ss) (suc i) kept is.quads)))
              has_taken.whole;
        }

  of_number : (c q : ℕ) → c ≡ b → number c q ≡ number b q
  of_number c q e = ap (λ x. number x q) e

  -- the record of a key that is kept
  key_again : (a : ApartValue) → a.bucket ≡ b → IsWholeBucket ss a → is_kept a.pairs k ≡ true → has (buckets_in ss) (number b k) ≡ true
      → HasTaken ss b k n a (with_key k n a)
  key_again a of whole known in_ss =
      let new : ApartValue = record a { pairs = map (if_of k n) a.pairs } in
      let with : with_key k n a ≡ new = rw known refl in
      let in_a : has (numbers_at a) (number b k) ≡ true =
      bucket_member a.bucket b k a.pairs low
      (All-weaker (IsWholePair ss a.bucket) (λ (pair : BucketValue). pair.bucket < 2 ^ 64) (λ pair one. one.0) a.pairs whole.pairs)
      ∙ ap₂ (λ x y. x && y) (eq-eqb a.bucket b of) known in
      let nums : numbers_at new ≡ numbers_at a =
      at_numbers a.bucket (map (if_of k n) a.pairs) ∙ ap (map (number a.bucket)) (sym (key_numbers k n a.pairs)) ∙ sym (at_numbers a.bucket a.pairs) in
      let same : length (ascending (buckets_in ss ++ number b k ∷ [])) ≡ length (ascending (buckets_in ss)) =
      ap length (ascending_push (buckets_in ss) (number b k))
      ∙ stays_as_long (ascending (buckets_in ss)) (number b k) (rise_ascending (buckets_in ss)) (any_ascending (buckets_in ss) (number b k) ∙ in_ss) in
      let taken : HasTaken ss b k n a new = record {
        same = refl;
        nums = λ q. ap (λ ns. has ns q) nums ∙ has_again (numbers_at a) (number b k) q in_a;
        sizes = let len = length-map a.pairs (if_of k n) in omega (arith, len, same);
        whole = record {
          low = whole.low;
          pairs = All-map (IsWholePair later a.bucket) (if_of k n) a.pairs
              (All-weaker (IsWholePair ss a.bucket) (λ pair. IsWholePair later a.bucket (if_of k n pair)) (λ pair one. more_at a pair of one) a.pairs whole.pairs);
        };
      } in
      subst (λ (x : ApartValue). HasTaken ss b k n a x) (sym with) taken
    where
      more_at : (a : ApartValue) (pair : BucketValue) → a.bucket ≡ b → IsWholePair ss a.bucket pair → IsWholePair later a.bucket (if_of k n pair)
      more_at a pair of one =
          subst (λ c. IsWholePair later c (if_of k n pair)) (sym of) (more_pair ss b k n pair low (subst (λ c. IsWholePair ss c pair) of one))

  -- the record of another one
  key_begins : (a : ApartValue) → a.bucket ≡ b → IsWholeBucket ss a → is_kept a.pairs k ≡ false → length a.pairs < most_pairs
      → has (buckets_in ss) (number b k) ≡ false → HasTaken ss b k n a (with_key k n a)
  key_begins a of whole none short lacks =
      let new : ApartValue = record a { pairs = a.pairs ++ begun k n ∷ [] } in
      let with : with_key k n a ≡ new = rw (none, lt-leb most_pairs (length a.pairs) short) refl in
      let nums : numbers_at new ≡ numbers_at a ++ number b k ∷ [] =
      map-append (λ (pair : BucketValue). number a.bucket pair.bucket) a.pairs (begun k n ∷ []) ∙ ap (λ m. numbers_at a ++ m ∷ []) (of_number a.bucket k of) in
      let one : length (ascending (buckets_in ss ++ number b k ∷ [])) ≡ suc (length (ascending (buckets_in ss))) =
      ap length (ascending_push (buckets_in ss) (number b k)) ∙ grows_by_one (ascending (buckets_in ss)) (number b k) (any_ascending (buckets_in ss) (number b k) ∙ lacks) in
      let taken : HasTaken ss b k n a new = record {
        same = refl;
        nums = λ q. ap (λ ns. has ns q) nums ∙ has_push (numbers_at a) (number b k) q;
        sizes = let len = length_push a.pairs (begun k n) in omega (arith, len, one);
        whole = record {
          low = whole.low;
          pairs = All-push (IsWholePair later a.bucket) a.pairs (begun k n)
              (λ i d lt. same_at a (get_or a.pairs i d) of (not_key b k a.pairs none i d lt) (whole.pairs i d lt))
              (subst (λ c. IsWholePair later c (begun k n)) (sym of) (begun_whole ss b k n low lacks));
        };
      } in
      subst (λ (x : ApartValue). HasTaken ss b k n a x) (sym with) taken
    where
      same_at : (a : ApartValue) (pair : BucketValue) → a.bucket ≡ b → (number b k == number b pair.bucket) ≡ false → IsWholePair ss a.bucket pair
          → IsWholePair later a.bucket pair
      same_at a pair of other one = same_pair ss a.bucket (number b k) n pair (ap (λ c. number b k == number c pair.bucket) of ∙ other) one

  -- a bucket that begins
  begins : has_bucket kept b ≡ false → has (buckets_in ss) (number b k) ≡ false → IsWhole (kept ++ begun_apart b k n ∷ []) (bs ++ b ∷ []) later
  begins none lacks =
      let new : ApartValue = begun_apart b k n in
      let lacks_b : has bs b ≡ false = sym (is.buckets b) ∙ none in
      let one : length (ascending (buckets_in ss ++ number b k ∷ [])) ≡ suc (length (ascending (buckets_in ss))) =
      ap length (ascending_push (buckets_in ss) (number b k)) ∙ grows_by_one (ascending (buckets_in ss)) (number b k) (any_ascending (buckets_in ss) (number b k) ∙ lacks) in
      let one_b : length (ascending (bs ++ b ∷ [])) ≡ suc (length (ascending bs)) =
      ap length (ascending_push bs b) ∙ grows_by_one (ascending bs) b (any_ascending bs b ∙ lacks_b) in
      let count_pairs = sum_by_push (λ (a : ApartValue). length a.pairs) kept new in
      record {
        buckets = λ q. list_any-append (is_at q) kept (new ∷ []) ∙ ap₂ (λ s t. s || t) (is.buckets q) (or_false (b == q) ∙ eq_swap b q) ∙ sym (has_push bs b q);
        members = λ q.
            ap (λ ns. has ns q) (flat_map-append numbers_at kept (new ∷ [])) ∙ has_push (all_numbers kept) (number b k) q
            ∙ ap (λ t. t || (q == number b k)) (is.members q) ∙ numbers_later q;
        size = let len = length_push kept new in omega (arith, len, one_b, is.size);
        pairs = omega (arith, count_pairs, is.pairs, one, length_later);
        quads = All-push (IsWholeBucket later) kept new (others_whole ss b k n kept low none is.quads) (record {
          low = low_b;
          pairs = All-cons (IsWholePair later b) (begun k n) [] (begun_whole ss b k n low lacks) (All-nil (IsWholePair later b));
        });
      }

  -- a record more
  pub took_whole : IsWhole (taking_apart kept b k n) (bs ++ b ∷ []) later
  took_whole = elim (cases_Bool (has_pair kept b k)) [
    | inl pair ↦
        let found : has_bucket kept b ≡ true = pair_bucket kept b k pair in
        let at = found_place kept b found in
        let a : ApartValue = get_or kept at.0 no_bucket in
        let known : is_kept a.pairs k ≡ true = sym (pair_of kept at.0 b k no_bucket lawful.separate at.1 at.2) ∙ pair in
        let taken = key_again a at.2 (All-get_or (IsWholeBucket ss) kept at.0 no_bucket at.1 is.quads) known (there ∙ pair) in
        subst (λ (ks : List ApartValue). IsWhole ks (bs ++ b ∷ []) later)
        (taken_at kept at.0 b k n no_bucket lawful.separate at.1 at.2 ∙ ap (λ o. placing (without kept o) b k n) (forgets_no_pair kept b k pair))
        (moved_whole at.0 at.1 at.2 (with_key k n a) taken)
    | inr hasnt ↦
        let lacks : has (buckets_in ss) (number b k) ≡ false = there ∙ hasnt in
        let one : length (ascending (buckets_in ss ++ number b k ∷ [])) ≡ suc (length (ascending (buckets_in ss))) =
        ap length (ascending_push (buckets_in ss) (number b k)) ∙ grows_by_one (ascending (buckets_in ss)) (number b k) (any_ascending (buckets_in ss) (number b k) ∙ lacks) in
        let room : pair_count kept < most_pairs = omega (arith, one, is.pairs, fewer) in
        elim (cases_Bool (has_bucket kept b)) [
          | inl found ↦
              let at = found_place kept b found in
              let a : ApartValue = get_or kept at.0 no_bucket in
              let none : is_kept a.pairs k ≡ false = sym (pair_of kept at.0 b k no_bucket lawful.separate at.1 at.2) ∙ hasnt in
              let size = left_size kept at.0 no_bucket at.1 in
              let taken = key_begins a at.2 (All-get_or (IsWholeBucket ss) kept at.0 no_bucket at.1 is.quads) none (omega (arith, size, room)) lacks in
              subst (λ (ks : List ApartValue). IsWhole ks (bs ++ b ∷ []) later)
              (taken_at kept at.0 b k n no_bucket lawful.separate at.1 at.2 ∙ ap (λ o. placing (without kept o) b k n) (forgets_none kept b k room (inr found)))
              (moved_whole at.0 at.1 at.2 (with_key k n a) taken)
          | inr none ↦
              let one_b : length (ascending (bs ++ b ∷ [])) ≡ suc (length (ascending bs)) =
              ap length (ascending_push bs b) ∙ grows_by_one (ascending bs) b (any_ascending bs b ∙ (sym (is.buckets b) ∙ none)) in
              let short : length kept < most_apart = omega (arith, one_b, is.size, few) in
              subst (λ (ks : List ApartValue). IsWhole ks (bs ++ b ∷ []) later)
              (begun_at kept b k n none ∙ ap (λ o. placing (without kept o) b k n) (forgets_none kept b k room (inl short))) (begins none lacks)
        ]
  ]
