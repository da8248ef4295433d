-- Keys and their places.
use Rattle.std.proofs.Common.{◌≡◌, ℕ, suc, zero, ◌<◌, true, false, cond, ◌==◌, List, [], ◌∷◌, ◌++◌, length, get_or, set, map, refl, sym, ap, ◌∙◌, inl, inr, arith, Option, Some, None}
use Rattle.std.proofs.lemmas.Bool.{eq-eqb, ne_eqb, cases_eq, false≢true, or_from, or_parts}
use Rattle.std.proofs.lemmas.List.{get_or-map, get_or_append_left, length-map, length_push}
use Rattle.std.proofs.lemmas.List.Folds.{list_any-append, list_any_at}
use Rattle.std.proofs.Math.Seq.{get_or-append_seam}
use Rattle.std.specs.BTreeMap.{BTreeMap, get}
use Rattle.std.specs.Option.{MatchOption}
use Rattle.std.specs.Ordering.{is_eq, nat_cmp}
use Rattle.cf_watch.specs.Kept.{AreApart, BucketValue, begun, is_kept, is_of, with_record}
use Rattle.cf_watch.specs.Pairs.{ApartValue, IsIndexed, if_of, with_key}
use Rattle.cf_watch.proofs.Distinct.{apart_push, apart_same, kept_same, number_of, numbers}
use Rattle.cf_watch.proofs.Places.{is_eq-nat_cmp}

abbrev pub Found : List BucketValue → ℕ → Option ℕ → Type 0
Found pairs q place = MatchOption place (is_kept pairs q ≡ false) (λ i. (i < length pairs) × ((get_or pairs i (begun 0 0)).bucket ≡ q))

-- a key that begins behind the others
found_behind : (pairs : List BucketValue) (new : BucketValue) (q : ℕ) (o : Option ℕ) → (new.bucket ≡ q → ⊥) → Found pairs q o → Found (pairs ++ new ∷ []) q o
found_behind pairs new q None ne none =
    list_any-append (is_of q) pairs (new ∷ []) ∙ or_from (is_kept pairs q) (is_kept (new ∷ []) q) none (or_from (new.bucket == q) false (ne_eqb new.bucket q ne) refl)
found_behind pairs new q (Some i) ne found = (
  let len = length_push pairs new in omega (arith, len, found.0),
  ap (λ (k : BucketValue). k.bucket) (get_or_append_left pairs (new ∷ []) (begun 0 0) i found.0) ∙ found.1,
)

pub indexed_push : (m n : BTreeMap ℕ ℕ) (pairs : List BucketValue) (k v : ℕ) → IsIndexed m pairs → is_kept pairs k ≡ false
    → ((q : ℕ) → get nat_cmp n q ≡ cond (is_eq (nat_cmp k q)) (Some (length pairs)) (get nat_cmp m q)) → IsIndexed n (pairs ++ begun k v ∷ [])
indexed_push m n pairs k v is none updates = record {
  found = λ q. elim (cases_eq k q) [
    | inl e ↦ rw (updates q, is_eq-nat_cmp k q, eq-eqb k q e) (
      let len = length_push pairs (begun k v) in omega (arith, len),
      ap (λ (x : BucketValue). x.bucket) (get_or-append_seam pairs (begun k v) [] (begun 0 0)) ∙ e,
    )
    | inr ne ↦ rw (updates q, is_eq-nat_cmp k q, ne_eqb k q ne) (found_behind pairs (begun k v) q (get nat_cmp m q) ne (is.found q))
  ];
  apart = apart_push number_of pairs (begun k v) is.apart none;
}

-- keys that stay
found_same : (xs ys : List BucketValue) (q : ℕ) (o : Option ℕ) → numbers xs ≡ numbers ys → Found xs q o → Found ys q o
found_same xs ys q None same none = sym (kept_same number_of xs ys q same) ∙ none
found_same xs ys q (Some i) same found =
    let len : length xs ≡ length ys = sym (length-map xs (λ k. k.bucket)) ∙ ap length same ∙ length-map ys (λ k. k.bucket) in
    let below : i < length ys = omega (arith, len, found.0) in (
      below,
      sym (get_or-map (λ (k : BucketValue). k.bucket) ys i (begun 0 0) 0 below) ∙ ap (λ qs. get_or qs i 0) (sym same)
          ∙ get_or-map (λ (k : BucketValue). k.bucket) xs i (begun 0 0) 0 found.0 ∙ found.1,
    )

pub indexed_same : (m : BTreeMap ℕ ℕ) (xs ys : List BucketValue) → numbers xs ≡ numbers ys → IsIndexed m xs → IsIndexed m ys
indexed_same m xs ys same is = record {
  found = λ q. found_same xs ys q (get nat_cmp m q) same (is.found q);
  apart = apart_same number_of xs ys same is.apart;
}

-- a key changes at its place
pub numbers_set : (pairs : List BucketValue) (i : ℕ) (new d : BucketValue) → new.bucket ≡ (get_or pairs i d).bucket → numbers pairs ≡ numbers (set pairs i new)
numbers_set [] i new d is = refl
numbers_set (k ∷ ks) zero new d is = ap (λ q. q ∷ numbers ks) (sym is)
numbers_set (k ∷ ks) (suc i) new d is = ap (λ qs. k.bucket ∷ qs) (numbers_set ks i new d is)

none_of_key : (k n : ℕ) (pairs : List BucketValue) → is_kept pairs k ≡ false → map (if_of k n) pairs ≡ pairs
none_of_key k n [] none = refl
none_of_key k n (x ∷ xs) none =
    let parts = or_parts (x.bucket == k) (is_kept xs k) none in
    rw (parts.0, none_of_key k n xs parts.1) refl

pub key_at : (pairs : List BucketValue) (i k n : ℕ) (d : BucketValue) → AreApart pairs → i < length pairs → (get_or pairs i d).bucket ≡ k
    → set pairs i (with_record n (get_or pairs i d)) ≡ map (if_of k n) pairs
key_at [] i k n d apart lt is = absurd (omega (arith, lt))
key_at (x ∷ xs) zero k n d apart lt is =
    let rest = none_of_key k n xs (rw (sym is) apart.0) in
    rw (eq-eqb x.bucket k is, rest) refl
key_at (x ∷ xs) (suc i) k n d apart lt is =
    let below : i < length xs = omega (arith, lt) in
    let found : is_kept xs k ≡ true = list_any_at (is_of k) xs i d below (eq-eqb (get_or xs i d).bucket k is) in
    let differ : (x.bucket == k) ≡ false = ne_eqb x.bucket k (λ e. false≢true (sym apart.0 ∙ rw e found)) in
    rw (differ, key_at xs i k n d apart.1 below is) refl

pub key_found : (pairs : List BucketValue) (i k : ℕ) (d : BucketValue) → i < length pairs → (get_or pairs i d).bucket ≡ k → is_kept pairs k ≡ true
key_found pairs i k d lt is = list_any_at (is_of k) pairs i d lt (eq-eqb (get_or pairs i d).bucket k is)

pub took_key : (apart : ApartValue) (new : List BucketValue) (k n : ℕ) → is_kept apart.pairs k ≡ true → new ≡ map (if_of k n) apart.pairs
    → record { bucket = apart.bucket; pairs = new; crowded = apart.crowded; crowd_told = apart.crowd_told } ≡ with_key k n apart
took_key apart new k n found is = rw (found, is) refl
