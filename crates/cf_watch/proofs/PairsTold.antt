-- Keys and crowded buckets are told.
use Rattle.std.proofs.Common.{◌≡◌, ℕ, ◌≤◌, List, [], ◌∷◌, ◌++◌, length, take, drop, map, sum, All, refl, sym, ap, ◌∙◌, arith}
use Rattle.std.proofs.lemmas.List.{length-map, map-append, take-append-drop}
use Rattle.std.proofs.lemmas.List.Elements.{All-append, All-drop, All-map, All-take, All-weaker}
use Rattle.std.proofs.lemmas.List.Sums.{sum-map}
use Rattle.cf_fold.specs.declared.trigger.Trigger.{Trigger}
use Rattle.cf_watch.specs.Kept.{BucketValue}
use Rattle.cf_watch.specs.Marks.{with_told}
use Rattle.cf_watch.specs.Pairs.{ApartValue, IsApart, IsKeptApart, pair_count}
use Rattle.cf_watch.specs.PairMarks.{crowds_told, with_crowd_told, with_pairs_told}
use Rattle.cf_watch.proofs.Distinct.{apart_same, number_at, number_of}
use Rattle.cf_watch.proofs.Told.{told_numbers, told_quad}

abbrev size : ApartValue → ℕ
size apart = length apart.pairs

-- buckets of the same numbers and sizes
same_kept : (xs ys : List ApartValue) (count : ℕ) → map number_at xs ≡ map number_at ys → map size xs ≡ map size ys → IsKeptApart xs count → All (IsApart count) ys → IsKeptApart ys count
same_kept xs ys count same sizes is apart =
    let len : length xs ≡ length ys = sym (length-map xs size) ∙ ap length sizes ∙ length-map ys size in
    let pairs : pair_count xs ≡ pair_count ys = sym (sum-map size xs) ∙ ap sum sizes ∙ sum-map size ys in
    record {
      few = omega (arith, len, is.few);
      bounded = omega (arith, pairs, is.bounded);
      separate = apart_same number_at xs ys same is.separate;
      apart = apart;
    }

map_same : (look : ApartValue → ℕ) (f : ApartValue → ApartValue) → ((a : ApartValue) → look (f a) ≡ look a) → (xs : List ApartValue)
    → map look (map f xs) ≡ map look xs
map_same look f stays [] = refl
map_same look f stays (x ∷ xs) = rw (stays x, map_same look f stays xs) refl

-- of the first so many buckets something changes that is not looked at
first_same : (look : ApartValue → ℕ) (f : ApartValue → ApartValue) → ((a : ApartValue) → look (f a) ≡ look a) → (n : ℕ) (xs : List ApartValue)
    → map look xs ≡ map look (map f (take n xs) ++ drop n xs)
first_same look f stays n xs =
    ap (map look) (sym (take-append-drop n xs)) ∙ map-append look (take n xs) (drop n xs)
    ∙ ap (λ ks. ks ++ map look (drop n xs)) (sym (map_same look f stays (take n xs))) ∙ sym (map-append look (map f (take n xs)) (drop n xs))

told_apart : (trigger : Trigger) (place count : ℕ) (apart : ApartValue) → IsApart count apart → IsApart count (with_pairs_told trigger place apart)
told_apart trigger place count apart is =
    let P : BucketValue → Type 0 = λ k. k.quad.count ≤ count in
    let low : (k : BucketValue) → P k → P (with_told trigger place k) = λ k le. rw (told_quad trigger place k) le in
    record {
      some = let len = length-map apart.pairs (with_told trigger place) in omega (arith, len, is.some);
      different = apart_same number_of apart.pairs (map (with_told trigger place) apart.pairs) (sym (told_numbers trigger place apart.pairs)) is.different;
      counted = All-map P (with_told trigger place) apart.pairs (All-weaker P (λ k. P (with_told trigger place k)) low apart.pairs is.counted);
    }

pub kept_pairs_told : (trigger : Trigger) (place n : ℕ) (kept : List ApartValue) (count : ℕ) → IsKeptApart kept count
    → IsKeptApart (map (with_pairs_told trigger place) (take n kept) ++ drop n kept) count
kept_pairs_told trigger place n kept count is =
    let f : ApartValue → ApartValue = with_pairs_told trigger place in
    same_kept kept (map f (take n kept) ++ drop n kept) count (first_same (λ a. a.bucket) f (λ a. refl) n kept)
    (first_same size f (λ a. length-map a.pairs (with_told trigger place)) n kept) is
    (All-append (IsApart count) (map f (take n kept)) (drop n kept)
    (All-map (IsApart count) f (take n kept)
    (All-weaker (IsApart count) (λ a. IsApart count (f a)) (λ a was. told_apart trigger place count a was) (take n kept) (All-take (IsApart count) n kept is.apart)))
    (All-drop (IsApart count) n kept is.apart))

crowd_apart : (count : ℕ) (apart : ApartValue) → IsApart count apart → IsApart count (with_crowd_told apart)
crowd_apart count apart is = record { some = is.some; different = is.different; counted = is.counted }

pub kept_crowds_told : (kept : List ApartValue) (count : ℕ) → IsKeptApart kept count → IsKeptApart (crowds_told kept) count
kept_crowds_told kept count is =
    same_kept kept (crowds_told kept) count (sym (map_same (λ a. a.bucket) with_crowd_told (λ a. refl) kept)) (sym (map_same size with_crowd_told (λ a. refl) kept)) is
    (All-map (IsApart count) with_crowd_told kept
    (All-weaker (IsApart count) (λ a. IsApart count (with_crowd_told a)) (λ a was. crowd_apart count a was) kept is.apart))
