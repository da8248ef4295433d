-- Buckets are told.
use Rattle.std.proofs.Common.{◌≡◌, ℕ, suc, zero, ◌+◌, ◌≤◌, ◌<◌, Bool, true, false, ◌||◌, ◌&&◌, ◌==◌, List, [], ◌∷◌, ◌++◌, length, take, drop, get_or, set, map, refl, sym, ap, ◌∙◌, inl, inr, arith, add-zero, append_assoc, Option, Some, None}
use Rattle.std.proofs.lemmas.Bool.{cases_Bool, le-leb, true≢false}
use Rattle.std.proofs.lemmas.List.{drop_more, get_or_at, length-append, length-map, length-take-le, map-append, set_at, take-append-drop, take-take, take_more}
use Rattle.std.proofs.lemmas.List.Elements.{All-append, All-drop, All-map, All-take, All-weaker}
use Rattle.std.specs.List.{list_any, range_with_len}
use Rattle.std.specs.Option.{MatchOption, is_some}
use Rattle.cf_fold.specs.declared.trigger.Trigger.{Trigger}
use Rattle.cf_watch.specs.Kept.{BucketValue, IsKept, is_kept, most_kept}
use Rattle.cf_watch.specs.Marks.{forgets_untold, grows, is_bucket_untold, is_first_untold, is_untold, meets, no_trigger, settled, settled_count, telling, with_told}
use Rattle.cf_watch.proofs.Distinct.{apart_same, number_of, numbers}

-- one more of them is changed in its place
pub told_more : {X : Type 0} → (f : X → X) (xs ys : List X) (i : ℕ) (d x : X) → i < length xs → ys ≡ map f (take i xs) ++ drop i xs
    → x ≡ f (get_or ys i d) → set ys i x ≡ map f (take (i + 1) xs) ++ drop (i + 1) xs
told_more f xs ys i d x lt is new =
    let front : length (map f (take i xs)) ≡ i = length-map (take i xs) f ∙ length-take-le i xs (omega (arith, lt)) in
    let split : ys ≡ map f (take i xs) ++ get_or xs i d ∷ drop (i + 1) xs = is ∙ ap (λ zs. map f (take i xs) ++ zs) (drop_more xs i d lt) in
    let at : get_or ys i d ≡ get_or xs i d = ap (λ zs. get_or zs i d) split ∙ get_or_at (map f (take i xs)) (get_or xs i d) (drop (i + 1) xs) d i front in
    ap (λ zs. set zs i x) split ∙ set_at (map f (take i xs)) (get_or xs i d) (drop (i + 1) xs) x i front
    ∙ ap (λ y. map f (take i xs) ++ y ∷ drop (i + 1) xs) (new ∙ ap f at)
    ∙ sym (append_assoc (map f (take i xs)) (f (get_or xs i d) ∷ []) (drop (i + 1) xs))
    ∙ ap (λ zs. zs ++ drop (i + 1) xs) (sym (map-append f (take i xs) (get_or xs i d ∷ [])) ∙ ap (map f) (sym (take_more xs i d lt)))

or_none : (b : Bool) → (b || false) ≡ (false || b)
or_none true = refl
or_none false = refl

or_false : (b : Bool) → b ≡ (b || false)
or_false true = refl
or_false false = refl

or_group : (a b c : Bool) → (a || (b || c)) ≡ (a || b || c)
or_group true b c = refl
or_group false b c = refl

-- one number more of a range
any_from : (f : ℕ → Bool) (a n : ℕ) → list_any f (range_with_len a (n + 1)) ≡ (list_any f (range_with_len a n) || f (a + n))
any_from f a zero = rw (add-zero a) (or_none (f a))
any_from f a (suc n) =
    let e : suc n + 1 ≡ suc (n + 1) = omega arith in
    let same : a + suc n ≡ a + 1 + n = omega arith in
    rw (e, same) (ap (λ b. f a || b) (any_from f (a + 1) n) ∙ or_group (f a) (list_any f (range_with_len (a + 1) n)) (f (a + 1 + n)))

pub any_more : (f : ℕ → Bool) (n : ℕ) → list_any f (range_with_len 0 (n + 1)) ≡ (list_any f (range_with_len 0 n) || f n)
any_more f n = let same : 0 + n ≡ n = omega arith in rw same at (any_from f 0 n)

-- what is told keeps its number and its quad
pub told_number : (trigger : Trigger) (place : ℕ) (k : BucketValue) → (with_told trigger place k).bucket ≡ k.bucket
told_number trigger place k = elim (cases_Bool (meets trigger k)) [ inl met ↦ rw met refl | inr unmet ↦ rw unmet refl ]

pub told_quad : (trigger : Trigger) (place : ℕ) (k : BucketValue) → (with_told trigger place k).quad ≡ k.quad
told_quad trigger place k = elim (cases_Bool (meets trigger k)) [ inl met ↦ rw met refl | inr unmet ↦ rw unmet refl ]

pub told_numbers : (trigger : Trigger) (place : ℕ) (kept : List BucketValue) → numbers (map (with_told trigger place) kept) ≡ numbers kept
told_numbers trigger place [] = refl
told_numbers trigger place (k ∷ ks) = rw (told_number trigger place k, told_numbers trigger place ks) refl

pub numbers_first : (trigger : Trigger) (place n : ℕ) (kept : List BucketValue) → numbers kept ≡ numbers (map (with_told trigger place) (take n kept) ++ drop n kept)
numbers_first trigger place n kept =
    ap numbers (sym (take-append-drop n kept))
    ∙ map-append (λ (k : BucketValue). k.bucket) (take n kept) (drop n kept)
    ∙ ap (λ qs. qs ++ numbers (drop n kept)) (sym (told_numbers trigger place (take n kept)))
    ∙ sym (map-append (λ (k : BucketValue). k.bucket) (map (with_told trigger place) (take n kept)) (drop n kept))

pub kept_telling : (trigger : Trigger) (place : ℕ) (kept : List BucketValue) (count : ℕ) → IsKept kept count → IsKept (telling trigger place kept) count
kept_telling trigger place kept count is =
    let n = settled_count trigger false (length kept) in
    let P : BucketValue → Type 0 = λ k. k.quad.count ≤ count in
    let low : (k : BucketValue) → P k → P (with_told trigger place k) = λ k le. rw (told_quad trigger place k) le in
    record {
      few = let len : length (map (with_told trigger place) (take n kept) ++ drop n kept) ≡ length kept =
          length-append (map (with_told trigger place) (take n kept)) (drop n kept)
          ∙ ap (λ m. m + length (drop n kept)) (length-map (take n kept) (with_told trigger place))
          ∙ sym (length-append (take n kept) (drop n kept))
          ∙ ap length (take-append-drop n kept) in omega (arith, len, is.few);
      apart = apart_same number_of kept (telling trigger place kept) (numbers_first trigger place n kept) is.apart;
      counted = All-append P (map (with_told trigger place) (take n kept)) (drop n kept)
          (All-map P (with_told trigger place) (take n kept) (All-weaker P (λ k. P (with_told trigger place k)) low (take n kept) (All-take P n kept is.counted)))
          (All-drop P n kept is.counted);
    }

-- if as many are kept as may be, a trigger looks at the first
some_settled : (trigger : Trigger) (n : ℕ) → 3 ≤ n → 1 ≤ settled_count trigger false n
some_settled trigger n le = elim (cases_Bool (grows trigger.part trigger.op)) [
  | inl growing ↦ rw growing (omega (arith, le))
  | inr undone ↦ rw undone (omega (arith, le))
]

first_settled : (trigger : Trigger) (kept : List BucketValue) (d : BucketValue) → 3 ≤ length kept → take 1 (settled trigger false kept) ≡ get_or kept 0 d ∷ []
first_settled trigger [] d le = absurd (omega (arith, le))
first_settled trigger (k ∷ ks) d le = take-take 1 (settled_count trigger false (length (k ∷ ks))) (k ∷ ks) (some_settled trigger (length (k ∷ ks)) le)

first_untold : (lane : ℕ) (triggers : List Trigger) (kept : List BucketValue) (d : BucketValue) (place : ℕ) → 3 ≤ length kept
    → is_bucket_untold lane triggers (get_or kept 0 d) place ≡ is_first_untold lane triggers kept place
first_untold lane triggers kept d place le =
    let trigger : Trigger = get_or triggers place no_trigger in
    rw (first_settled trigger kept d le) (ap (λ b. (trigger.agg == lane) && b) (or_false (is_untold trigger place (get_or kept 0 d))))

any_agree : (f g : ℕ → Bool) → ((n : ℕ) → f n ≡ g n) → (ns : List ℕ) → list_any f ns ≡ list_any g ns
any_agree f g same [] = refl
any_agree f g same (n ∷ ns) = rw (same n, any_agree f g same ns) refl

-- the first is forgotten, and it has a mark that was not told
pub untold_first : (lane : ℕ) (triggers : List Trigger) (kept : List BucketValue) (b : ℕ) (d : BucketValue) (found : Bool) → most_kept ≤ length kept
    → is_kept kept b ≡ false → found ≡ list_any (is_bucket_untold lane triggers (get_or kept 0 d)) (range_with_len 0 (length triggers))
    → found ≡ forgets_untold lane triggers kept b
untold_first lane triggers kept b d found full none is =
    rw (le-leb most_kept (length kept) full, none)
    (is ∙ any_agree (is_bucket_untold lane triggers (get_or kept 0 d)) (is_first_untold lane triggers kept)
    (λ place. first_untold lane triggers kept d place (omega (arith, full))) (range_with_len 0 (length triggers)))

-- nothing was found
pub none_at : (o : Option ℕ) (P : Type 0) (Q : ℕ → Type 0) → is_some o ≡ false → MatchOption o P Q → P
none_at None P Q none match = match
none_at (Some n) P Q none match = absurd (true≢false none)

pub or_here : (a b : Bool) → b ≡ true → true ≡ (a || b)
or_here true b here = refl
or_here false b here = sym here

pub or_not : (a b : Bool) → b ≡ false → a ≡ (a || b)
or_not true b not = refl
or_not false b not = sym not
