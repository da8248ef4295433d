-- A record of a bucket and a key is taken.
use Rattle.std.proofs.Common.{◌≡◌, ℕ, suc, zero, ◌+◌, ◌≤◌, ◌<◌, Bool, true, false, not, nat_le, ◌||◌, ◌&&◌, ◌==◌, ◌⊎◌, List, [], ◌∷◌, ◌++◌, length, take, drop, get_or, map, All, refl, sym, ap, ◌∙◌, inl, inr, arith, Option, Some, None}
use Rattle.std.proofs.lemmas.Bool.{and_right, cases_Bool, cases_lt, eq-eqb, eqb-true, false≢true, le-leb, lt-leb, ne_eqb, or_from, or_left, or_parts}
use Rattle.std.proofs.lemmas.Iterator.Adapters.{position_from-zero}
use Rattle.std.proofs.lemmas.List.{length-map, length_push, get_or_default}
use Rattle.std.proofs.lemmas.List.Edits.{length-remove}
use Rattle.std.proofs.lemmas.List.Elements.{All-append, All-cons, All-drop, All-get_or, All-map, All-nil, All-push, All-take, All-weaker}
use Rattle.std.proofs.lemmas.List.Folds.{Any-from_list_any, list_any_at}
use Rattle.std.proofs.lemmas.List.Quantifiers.{position-Some}
use Rattle.std.proofs.lemmas.List.Sums.{sum_by-remove, sum_by_push}
use Rattle.std.specs.List.{list_any, position, position_from, remove}
use Rattle.cf_watch.specs.Kept.{BucketValue, begun, is_kept}
use Rattle.cf_watch.specs.Pairs.{ApartValue, AreSeparate, IsApart, IsKeptApart, begun_apart, forgotten_at, has_bucket, has_pair, if_of, is_at, is_elsewhere, most_apart, most_pairs, no_bucket, pair_count, placing, taking_apart, with_key, without}
use Rattle.cf_watch.proofs.Distinct.{apart_push, apart_same, number_at, number_of, numbers, one_of, others_lack}
use Rattle.cf_watch.proofs.Taking.{more_counted}

-- a record of a kept bucket
pub taken_at : (kept : List ApartValue) (i b k n : ℕ) (d : ApartValue) → AreSeparate kept → i < length kept → (get_or kept i d).bucket ≡ b
    → remove kept i ++ with_key k n (get_or kept i d) ∷ [] ≡ placing kept b k n
taken_at kept i b k n d separate lt is =
    let found : has_bucket kept b ≡ true = list_any_at (is_at b) kept i d lt (eq-eqb (get_or kept i d).bucket b is) in
    let one = one_of number_at kept i b d separate lt is in
    rw (found, one.0, one.1) refl

-- a record of another one
pub begun_at : (kept : List ApartValue) (b k n : ℕ) → has_bucket kept b ≡ false → kept ++ begun_apart b k n ∷ [] ≡ placing kept b k n
begun_at kept b k n none = rw none refl

-- whether a pair is kept
pub no_pair : (kept : List ApartValue) (b k : ℕ) → has_bucket kept b ≡ false → has_pair kept b k ≡ false
no_pair [] b k none = refl
no_pair (a ∷ rest) b k none =
    let parts = or_parts (a.bucket == b) (has_bucket rest b) none in
    rw parts.0 (no_pair rest b k parts.1)

or_none : (b : Bool) → (b || false) ≡ b
or_none true = refl
or_none false = refl

pub pair_of : (kept : List ApartValue) (i b k : ℕ) (d : ApartValue) → AreSeparate kept → i < length kept → (get_or kept i d).bucket ≡ b
    → has_pair kept b k ≡ is_kept (get_or kept i d).pairs k
pair_of [] i b k d separate lt is = absurd (omega (arith, lt))
pair_of (a ∷ rest) zero b k d separate lt is =
    let none : has_pair rest b k ≡ false = no_pair rest b k (rw (sym is) separate.0) in
    rw (eq-eqb a.bucket b is, none) (or_none (is_kept a.pairs k))
pair_of (a ∷ rest) (suc i) b k d separate lt is =
    let below : i < length rest = omega (arith, lt) in
    let found : has_bucket rest b ≡ true = list_any_at (is_at b) rest i d below (eq-eqb (get_or rest i d).bucket b is) in
    let differ : (a.bucket == b) ≡ false = ne_eqb a.bucket b (λ e. false≢true (sym separate.0 ∙ rw e found)) in
    rw differ (pair_of rest i b k d separate.1 below is)

pub pair_bucket : (kept : List ApartValue) (b k : ℕ) → has_pair kept b k ≡ true → has_bucket kept b ≡ true
pair_bucket kept b k has = elim (cases_Bool (has_bucket kept b)) [
  | inl found ↦ found
  | inr none ↦ absurd (false≢true (sym (no_pair kept b k none) ∙ has))
]

-- which bucket is forgotten
pub forgets_none : (kept : List ApartValue) (b k : ℕ) → pair_count kept < most_pairs → (length kept < most_apart) ⊎ (has_bucket kept b ≡ true)
    → None ≡ forgotten_at kept b k
forgets_none kept b k few room = elim (cases_Bool (has_pair kept b k)) [
  | inl has ↦ rw has refl
  | inr hasnt ↦ elim room [
    | inl short ↦ rw (hasnt, lt-leb most_pairs (pair_count kept) few, lt-leb most_apart (length kept) short) refl
    | inr found ↦
        let no : (nat_le most_apart (length kept) && not (has_bucket kept b)) ≡ false = rw found (and_right (nat_le most_apart (length kept)) false refl) in
        rw (hasnt, lt-leb most_pairs (pair_count kept) few, no) refl
  ]
]

pub forgets_no_pair : (kept : List ApartValue) (b k : ℕ) → has_pair kept b k ≡ true → None ≡ forgotten_at kept b k
forgets_no_pair kept b k has = rw has refl

pub forgets_other : (kept : List ApartValue) (b k : ℕ) → has_pair kept b k ≡ false → most_pairs ≤ pair_count kept
    → position (is_elsewhere b) kept ≡ forgotten_at kept b k
forgets_other kept b k hasnt full = rw (hasnt, le-leb most_pairs (pair_count kept) full) refl

pub forgets_first : (kept : List ApartValue) (b k : ℕ) → has_pair kept b k ≡ false → pair_count kept < most_pairs → most_apart ≤ length kept
    → has_bucket kept b ≡ false → Some 0 ≡ forgotten_at kept b k
forgets_first kept b k hasnt few full none =
    rw (hasnt, lt-leb most_pairs (pair_count kept) few, le-leb most_apart (length kept) full, none) refl

-- without a bucket
rest_fewer : (kept : List ApartValue) (i q : ℕ) → has_bucket kept q ≡ false → has_bucket (remove kept i) q ≡ false
rest_fewer [] zero q none = refl
rest_fewer [] (suc i) q none = refl
rest_fewer (a ∷ rest) zero q none = (or_parts (a.bucket == q) (has_bucket rest q) none).1
rest_fewer (a ∷ rest) (suc i) q none =
    let parts = or_parts (a.bucket == q) (has_bucket rest q) none in
    or_from (a.bucket == q) (has_bucket (remove rest i) q) parts.0 (rest_fewer rest i q parts.1)

rest_separate : (kept : List ApartValue) (i : ℕ) → AreSeparate kept → AreSeparate (remove kept i)
rest_separate [] zero separate = tt
rest_separate [] (suc i) separate = tt
rest_separate (a ∷ rest) zero separate = separate.1
rest_separate (a ∷ rest) (suc i) separate = (rest_fewer rest i a.bucket separate.0, rest_separate rest i separate.1)

not-false : (b : Bool) → not b ≡ false → b ≡ true
not-false true is = refl
not-false false is = absurd (false≢true (sym is))

-- the bucket is not among the others
pub gone : (kept : List ApartValue) (i b : ℕ) (d : ApartValue) → AreSeparate kept → i < length kept → (get_or kept i d).bucket ≡ b → has_bucket (remove kept i) b ≡ false
gone kept i b d separate lt is = ap (λ ks. has_bucket ks b) (sym (one_of number_at kept i b d separate lt is).0) ∙ others_lack number_at kept b

-- what is left is smaller by its pairs
pub left_size : (kept : List ApartValue) (i : ℕ) (d : ApartValue) → i < length kept → pair_count (remove kept i) + length (get_or kept i d).pairs ≡ pair_count kept
left_size kept i d lt = sum_by-remove (λ (a : ApartValue). length a.pairs) kept i d lt

left_kept : (kept : List ApartValue) (count i : ℕ) → i < length kept → IsKeptApart kept count → IsKeptApart (remove kept i) count
left_kept kept count i lt is = record {
  few = let len = length-remove kept i lt in omega (arith, len, is.few);
  bounded = let size = left_size kept i no_bucket lt in omega (arith, size, is.bounded);
  separate = rest_separate kept i is.separate;
  apart = All-append (IsApart count) (take i kept) (drop (suc i) kept) (All-take (IsApart count) i kept is.apart) (All-drop (IsApart count) (suc i) kept is.apart);
}

-- what there is room for
abbrev pub HasRoom : List ApartValue → ℕ → ℕ → Type 0
HasRoom kept b k =
    ((has_pair kept b k ≡ true) ⊎ ((pair_count kept < most_pairs) ⊎ ((length kept ≡ 1) × (has_bucket kept b ≡ true))))
    × ((has_bucket kept b ≡ true) ⊎ (length kept < most_apart))

none_passes : (p : ApartValue → Bool) (i : ℕ) (xs : List ApartValue) → position_from p i xs ≡ None → list_any p xs ≡ false
none_passes p i [] none = refl
none_passes p i (x ∷ xs) none = elim (cases_Bool (p x)) [
  | inl pass ↦ let some = rw pass at none in absurd (cc)
  | inr fail ↦ let rest = rw fail at none in rw fail (none_passes p (i + 1) xs rest)
]

-- all are the bucket of that number
alone : (kept : List ApartValue) (b : ℕ) → AreSeparate kept → list_any (is_elsewhere b) kept ≡ false → 0 < length kept → (length kept ≡ 1) × (has_bucket kept b ≡ true)
alone [] b separate none some = absurd (omega (arith, some))
alone (a ∷ []) b separate none some =
    let parts = or_parts (is_elsewhere b a) false none in
    (refl, or_left (a.bucket == b) false (not-false (a.bucket == b) parts.0))
alone (a ∷ x ∷ rest) b separate none some =
    let parts = or_parts (is_elsewhere b a) (list_any (is_elsewhere b) (x ∷ rest)) none in
    let more = or_parts (is_elsewhere b x) (list_any (is_elsewhere b) rest) parts.1 in
    let first : a.bucket ≡ b = eqb-true a.bucket b (not-false (a.bucket == b) parts.0) in
    let second : x.bucket ≡ b = eqb-true x.bucket b (not-false (x.bucket == b) more.0) in
    let differ = or_parts (x.bucket == a.bucket) (has_bucket rest a.bucket) separate.0 in
    absurd (false≢true (sym differ.0 ∙ eq-eqb x.bucket a.bucket (second ∙ sym first)))

some_kept : (kept : List ApartValue) → most_pairs ≤ pair_count kept → 0 < length kept
some_kept [] full = absurd (omega (arith, full))
some_kept (a ∷ rest) full = omega arith

-- what is left has room
abbrev pub IsLeft : List ApartValue → ℕ → ℕ → ℕ → Type 0
IsLeft kept count b k = IsKeptApart kept count × HasRoom kept b k

full_left : (kept : List ApartValue) (count b k : ℕ) (o : Option ℕ) → IsKeptApart kept count → has_pair kept b k ≡ false → most_pairs ≤ pair_count kept
    → position (is_elsewhere b) kept ≡ o → IsLeft (without kept o) count b k
full_left kept count b k None is hasnt full none =
    let all : list_any (is_elsewhere b) kept ≡ false = none_passes (is_elsewhere b) 0 kept (sym (position_from-zero (is_elsewhere b) kept) ∙ none) in
    let one = alone kept b is.separate all (some_kept kept full) in
    (is, (inr (inr one), inl one.1))
full_left kept count b k (Some i) is hasnt full found =
    let at = position-Some (is_elsewhere b) kept i no_bucket found in
    let size = left_size kept i no_bucket at.0 in
    let some : 0 < length (get_or kept i no_bucket).pairs = (All-get_or (IsApart count) kept i no_bucket at.0 is.apart).some in
    let len = length-remove kept i at.0 in
    (left_kept kept count i at.0 is, (inr (inl (omega (arith, size, some, is.bounded))), inr (omega (arith, len, is.few))))

few_left : (kept : List ApartValue) (count b k : ℕ) → IsKeptApart kept count → has_pair kept b k ≡ false → pair_count kept < most_pairs
    → IsLeft (without kept (forgotten_at kept b k)) count b k
few_left kept count b k is hasnt few = elim (cases_Bool (has_bucket kept b)) [
  | inl found ↦ rw (sym (forgets_none kept b k few (inr found))) (is, (inr (inl few), inl found))
  | inr none ↦ elim (cases_lt (length kept) most_apart) [
    | inl short ↦ rw (sym (forgets_none kept b k few (inl short))) (is, (inr (inl few), inr short))
    | inr long ↦
        let lt : 0 < length kept = omega (arith, long) in
        let size = left_size kept 0 no_bucket lt in
        let len = length-remove kept 0 lt in
        rw (sym (forgets_first kept b k hasnt few long none))
        (left_kept kept count 0 lt is, (inr (inl (omega (arith, size, few))), inr (omega (arith, len, is.few))))
  ]
]

pub left_for : (kept : List ApartValue) (count b k : ℕ) → IsKeptApart kept count → IsLeft (without kept (forgotten_at kept b k)) count b k
left_for kept count b k is = elim (cases_Bool (has_pair kept b k)) [
  | inl has ↦ rw (sym (forgets_no_pair kept b k has)) (is, (inl has, inl (pair_bucket kept b k has)))
  | inr hasnt ↦ elim (cases_lt (pair_count kept) most_pairs) [
    | inl few ↦ few_left kept count b k is hasnt few
    | inr full ↦ rw (sym (forgets_other kept b k hasnt full)) (full_left kept count b k (position (is_elsewhere b) kept) is hasnt full refl)
  ]
]

-- one record more
key_number : (k n : ℕ) (pair : BucketValue) → (if_of k n pair).bucket ≡ pair.bucket
key_number k n pair = elim (cases_Bool (pair.bucket == k)) [ inl same ↦ rw same refl | inr other ↦ rw other refl ]

pub key_numbers : (k n : ℕ) (pairs : List BucketValue) → numbers pairs ≡ numbers (map (if_of k n) pairs)
key_numbers k n [] = refl
key_numbers k n (x ∷ xs) = rw (key_number k n x, sym (key_numbers k n xs)) refl

abbrev IsCounted : ℕ → BucketValue → Type 0
IsCounted count pair = pair.quad.count ≤ count

key_counted : (k n count : ℕ) (pair : BucketValue) → IsCounted count pair → IsCounted (count + 1) (if_of k n pair)
key_counted k n count pair le = elim (cases_Bool (pair.bucket == k)) [
  | inl same ↦ rw same (more_counted pair.quad n count le)
  | inr other ↦ rw other (omega (arith, le))
]

later : (count : ℕ) (apart : ApartValue) → IsApart count apart → IsApart (count + 1) apart
later count apart is = record {
  some = is.some;
  different = is.different;
  counted = All-weaker (IsCounted count) (IsCounted (count + 1)) (λ pair le. omega (arith, le)) apart.pairs is.counted;
}

key_apart : (apart : ApartValue) (k n count : ℕ) → IsApart count apart → IsApart (count + 1) (with_key k n apart)
key_apart apart k n count is = elim (cases_Bool (is_kept apart.pairs k)) [
  | inl found ↦ rw found (record {
    some = let len = length-map apart.pairs (if_of k n) in omega (arith, len, is.some);
    different = apart_same number_of apart.pairs (map (if_of k n) apart.pairs) (key_numbers k n apart.pairs) is.different;
    counted = All-map (IsCounted (count + 1)) (if_of k n) apart.pairs
        (All-weaker (IsCounted count) (λ pair. IsCounted (count + 1) (if_of k n pair)) (λ pair le. key_counted k n count pair le) apart.pairs is.counted);
  })
  | inr none ↦ elim (cases_lt (length apart.pairs) most_pairs) [
    | inl few ↦ rw (none, lt-leb most_pairs (length apart.pairs) few) (record {
      some = let len = length_push apart.pairs (begun k n) in omega (arith, len);
      different = apart_push number_of apart.pairs (begun k n) is.different none;
      counted = All-push (IsCounted (count + 1)) apart.pairs (begun k n) (later count apart is).counted (omega arith);
    })
    | inr full ↦ rw (none, le-leb most_pairs (length apart.pairs) full) (record { some = is.some; different = is.different; counted = (later count apart is).counted })
  ]
]

pub key_bucket : (apart : ApartValue) (k n : ℕ) → (with_key k n apart).bucket ≡ apart.bucket
key_bucket apart k n = elim (cases_Bool (is_kept apart.pairs k)) [
  | inl found ↦ rw found refl
  | inr none ↦ elim (cases_Bool (nat_le most_pairs (length apart.pairs))) [ inl full ↦ rw (none, full) refl | inr few ↦ rw (none, few) refl ]
]

-- how many pairs there are then
key_size : (apart : ApartValue) (k n : ℕ) → length (with_key k n apart).pairs ≤ length apart.pairs + 1
key_size apart k n = elim (cases_Bool (is_kept apart.pairs k)) [
  | inl found ↦ rw found (let len = length-map apart.pairs (if_of k n) in omega (arith, len))
  | inr none ↦ elim (cases_lt (length apart.pairs) most_pairs) [
    | inl few ↦ rw (none, lt-leb most_pairs (length apart.pairs) few) (let len = length_push apart.pairs (begun k n) in omega (arith, len))
    | inr full ↦ rw (none, le-leb most_pairs (length apart.pairs) full) (omega arith)
  ]
]

same_size : (apart : ApartValue) (k n : ℕ) → is_kept apart.pairs k ≡ true → length (with_key k n apart).pairs ≡ length apart.pairs
same_size apart k n found = rw found (length-map apart.pairs (if_of k n))

bounded_size : (apart : ApartValue) (k n : ℕ) → length apart.pairs ≤ most_pairs → length (with_key k n apart).pairs ≤ most_pairs
bounded_size apart k n le = elim (cases_Bool (is_kept apart.pairs k)) [
  | inl found ↦ rw found (let len = length-map apart.pairs (if_of k n) in omega (arith, len, le))
  | inr none ↦ elim (cases_lt (length apart.pairs) most_pairs) [
    | inl few ↦ rw (none, lt-leb most_pairs (length apart.pairs) few) (let len = length_push apart.pairs (begun k n) in omega (arith, len, few))
    | inr full ↦ rw (none, le-leb most_pairs (length apart.pairs) full) le
  ]
]

none_left : (xs : List ApartValue) → length xs ≡ 0 → pair_count xs ≡ 0
none_left [] none = refl
none_left (x ∷ xs) none = absurd (omega (arith, none))

pub found_place : (kept : List ApartValue) (b : ℕ) → has_bucket kept b ≡ true → (i : ℕ) × (i < length kept) × ((get_or kept i no_bucket).bucket ≡ b)
found_place kept b found =
    let any = Any-from_list_any (is_at b) kept found in
    (any.0, any.2, ap (λ (a : ApartValue). a.bucket) (get_or_default kept any.0 no_bucket any.1 any.2 ∙ any.3) ∙ eqb-true any.1.bucket b any.4)

taken_size : (kept : List ApartValue) (count i b k n : ℕ) → IsLeft kept count b k → i < length kept → (get_or kept i no_bucket).bucket ≡ b
    → pair_count (remove kept i) + length (with_key k n (get_or kept i no_bucket)).pairs ≤ most_pairs
taken_size kept count i b k n left lt is =
    let apart : ApartValue = get_or kept i no_bucket in
    let size : pair_count (remove kept i) + length apart.pairs ≡ pair_count kept = left_size kept i no_bucket lt in
    elim left.1.0 [
      | inl has ↦
          let same : length (with_key k n apart).pairs ≡ length apart.pairs = same_size apart k n (sym (pair_of kept i b k no_bucket left.0.separate lt is) ∙ has) in
          omega (arith, size, same, left.0.bounded)
      | inr (inl few) ↦ omega (arith, size, key_size apart k n, few)
      | inr (inr one) ↦
          let len = length-remove kept i lt in
          let none : pair_count (remove kept i) ≡ 0 = none_left (remove kept i) (omega (arith, len, one.0)) in
          omega (arith, none, bounded_size apart k n (omega (arith, size, left.0.bounded)))
    ]

taken_kept : (kept : List ApartValue) (count i b k n : ℕ) → IsLeft kept count b k → i < length kept → (get_or kept i no_bucket).bucket ≡ b
    → IsKeptApart (placing kept b k n) (count + 1)
taken_kept kept count i b k n left lt is =
    let apart : ApartValue = get_or kept i no_bucket in
    let new : ApartValue = with_key k n apart in
    let rest : IsKeptApart (remove kept i) count = left_kept kept count i lt left.0 in
    let number : new.bucket ≡ b = key_bucket apart k n ∙ is in
    rw (sym (taken_at kept i b k n no_bucket left.0.separate lt is)) (record {
      few = let len = length_push (remove kept i) new in let before = length-remove kept i lt in omega (arith, len, before, left.0.few);
      bounded = let sum = sum_by_push (λ (a : ApartValue). length a.pairs) (remove kept i) new in omega (arith, sum, taken_size kept count i b k n left lt is);
      separate = apart_push number_at (remove kept i) new rest.separate (rw number (gone kept i b no_bucket left.0.separate lt is));
      apart = All-push (IsApart (count + 1)) (remove kept i) new (All-weaker (IsApart count) (IsApart (count + 1)) (λ a was. later count a was) (remove kept i) rest.apart)
          (key_apart apart k n count (All-get_or (IsApart count) kept i no_bucket lt left.0.apart));
    })

begun_kept : (kept : List ApartValue) (count b k n : ℕ) → IsLeft kept count b k → has_bucket kept b ≡ false → IsKeptApart (placing kept b k n) (count + 1)
begun_kept kept count b k n left none =
    let few : pair_count kept < most_pairs = elim left.1.0 [
      | inl has ↦ absurd (false≢true (sym (no_pair kept b k none) ∙ has))
      | inr (inl few) ↦ few
      | inr (inr one) ↦ absurd (false≢true (sym none ∙ one.1))
    ] in
    let short : length kept < most_apart = elim left.1.1 [ inl found ↦ absurd (false≢true (sym none ∙ found)) | inr short ↦ short ] in
    let new : ApartValue = begun_apart b k n in
    rw (sym (begun_at kept b k n none)) (record {
      few = let len = length_push kept new in omega (arith, len, short);
      bounded = let sum = sum_by_push (λ (a : ApartValue). length a.pairs) kept new in omega (arith, sum, few);
      separate = apart_push number_at kept new left.0.separate none;
      apart = All-push (IsApart (count + 1)) kept new (All-weaker (IsApart count) (IsApart (count + 1)) (λ a was. later count a was) kept left.0.apart) (record {
        some = omega arith;
        different = (refl, tt);
        counted = All-cons (IsCounted (count + 1)) (begun k n) [] (omega arith) (All-nil (IsCounted (count + 1)));
      });
    })

pub placed : (kept : List ApartValue) (count b k n : ℕ) → IsLeft kept count b k → IsKeptApart (placing kept b k n) (count + 1)
placed kept count b k n left = elim (cases_Bool (has_bucket kept b)) [
  | inl found ↦ let at = found_place kept b found in taken_kept kept count at.0 b k n left at.1 at.2
  | inr none ↦ begun_kept kept count b k n left none
]

pub kept_taking_apart : (kept : List ApartValue) (count b k n : ℕ) → IsKeptApart kept count → IsKeptApart (taking_apart kept b k n) (count + 1)
kept_taking_apart kept count b k n is = placed (without kept (forgotten_at kept b k)) count b k n (left_for kept count b k is)

pub all_apart : (kept : List ApartValue) (m n : ℕ) → m ≤ n → All (IsApart m) kept → All (IsApart n) kept
all_apart kept m n le all = All-weaker (IsApart m) (IsApart n) (λ a is. record {
  some = is.some;
  different = is.different;
  counted = All-weaker (IsCounted m) (IsCounted n) (λ pair low. omega (arith, low, le)) a.pairs is.counted;
}) kept all
